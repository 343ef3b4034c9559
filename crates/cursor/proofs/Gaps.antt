-- Laws of the gap's words: what it means to pass the first tests; in a sound pool, where the words put the gap; and
-- that words 5 to 7 laid for another cursor hold the pool with that cursor.
-- Assumes nothing.
use mathlib.Core.Path.{◌≡◌, refl, sym, subst, ◌∙◌}
use mathlib.Core.Bool.{true}
use mathlib.Core.Logic.{◌≢◌}
use mathlib.Core.List.{List}
use Prim.Native.Nat.{ℕ, zero, suc, ◌≤◌, ◌<◌}
use native.Mathlib.Omega.{arith}
use lib.Dec.{eqb}
use lib.ListN.{length, get_or, set, length-set}
use borrow.Author.Tests.{eq-eqb, ne_eqb}
use Rattle.model.specs.Layout.{word}
use Rattle.model.specs.Head.{geometry_of, open_word, after_word, key_word, kind_word, headed}
use Rattle.model.specs.Tree.{Entry, no_entry, held, Formed}
use Rattle.model.specs.Page.{entry_in}
use Rattle.model.specs.Entries.{Cursor, gap, gap_of, gap_before}
use Rattle.model.specs.Pool.{Pool, held_by, pool_of, cursor_of, gap_by, with_cursor}
use Rattle.model.specs.Sound.{Sound}
use Rattle.model.specs.Written.{open_in, after_in, key_in, Written}
use Rattle.model.specs.Refusal.{refusal}
use Rattle.model.specs.CursorCalls.{cursor_tests}
use Rattle.model.specs.Source.{member}
use Rattle.lend.specs.Pages.{least, most, page_in}
use Rattle.tree.specs.declared.steps.Spot.{Spot}
use Rattle.tree.specs.Search.{aimed}
use Rattle.tree.specs.Steps.{spot_before, spot}
use Rattle.cursor.specs.Gap.{aim_of, gap_words, named_key, rest_words}
use Rattle.model.proofs.Cases.{either, either-eq, never}
use Rattle.model.proofs.Head.{head-facts}
use Rattle.model.proofs.Entries.{has_key, gap-after-has}
use Rattle.model.proofs.Entries as entries
use Rattle.model.proofs.Standing.{standing-frame}
use Rattle.model.proofs.Lawful.{geometry-same}
use Rattle.model.proofs.Right.{sound-right}
use Rattle.model.proofs.Keeps.{of-kind}
use Rattle.model.proofs.Written.{sound-written}
use Rattle.tree.proofs.Heads.{HeadOnly, head-map, head-page, head-then, head-stored, stored-word, other_word}
use Rattle.tree.proofs.Leaving.{written-today, written-formed}
use Rattle.tree.proofs.Spots.{spot-some}
use Rattle.tree.proofs.Writing.{spot-entry}
use Rattle.std.specs.Prelude.{Some, None, Option}

-- ---- the first tests

pub record Ready (w : List ℕ) : Type 0 where
  pub fits : headed w ≡ true
  pub kind : kind_word w ≡ 0
  pub opened : open_word w ≡ 1

pub passes-cursor : (w : List ℕ) → refusal (cursor_tests w) ≡ 0 → Ready w
passes-cursor w e =
    let a = of-kind w 0 _ e in
    let few = (head-facts w a.0).opened in
    record {
      fits = a.0;
      kind = a.1;
      opened = either-eq (open_word w) 0 (λ z. let shut = rw (eq-eqb (open_word w) 0 z) at a.2 in omega arith) (λ n. omega arith);
    }

-- ---- the key that the gap names

pub named-none : (w : List ℕ) → None ≡ named_key w → after_word w ≡ 0
named-none w e = either-eq (after_word w) 0 (λ z. z) (λ n. never (cc (rw (ne_eqb (after_word w) 0 n) at e)))

pub named-some : (w : List ℕ) {k : ℕ} → headed w ≡ true → Some k ≡ named_key w → (after_word w ≡ 1) × (k ≡ key_word w)
named-some w fits e =
    either-eq (after_word w) 0
    (λ z. never (cc (rw (eq-eqb (after_word w) 0 z) at e)))
    (λ n. (omega (arith, (head-facts w fits).after), cc (rw (ne_eqb (after_word w) 0 n) at e)))

-- ---- where the gap is, in a sound pool

-- the entry that an open cursor's gap names, with key k: entry g, of the gap after it
pub record Named (w : List ℕ) (k g : ℕ) : Type 0 where
  pub at : gap_by (pool_of w) ≡ suc g
  pub there : g < length (held_by (pool_of w))
  pub key : (get_or (held_by (pool_of w)) g no_entry).key ≡ k
  pub before : gap_before k (held_by (pool_of w)) ≡ g
  pub member : member w k ≡ true

module _ (w : List ℕ) (s : Sound w) where
  pub gap-start : after_word w ≡ 0 → gap_by (pool_of w) ≡ 0
  unfolding pool_of cursor_of
  gap-start z = rw (eq-eqb (after_word w) 0 z) (either (eqb (open_word w) 0) (λ shut. rw shut) (λ opened. rw opened))

  pub aim-gap : gap_of (aimed (aim_of w)) (held_by (pool_of w)) ≡ gap_by (pool_of w)
  unfolding pool_of cursor_of
  aim-gap =
      either-eq (after_word w) 0
      (λ z. rw (gap-start z, eq-eqb (after_word w) 0 z) (entries.gap-start (held_by (pool_of w))))
      (λ n. rw (ne_eqb (after_word w) 0 n, ne_eqb (open_word w) 0 (λ z. n (s.closed z).0)))

  pub gap-named : open_word w ≡ 1 → after_word w ≡ 1 → (g : ℕ) × Named w (key_word w) g
  unfolding pool_of cursor_of
  gap-named o a =
      let es = held_by (pool_of w) in
      let here = has_key (key_word w) es s.rising (s.named a) in (
        gap_before (key_word w) es,
        record {
          at = rw (o, a) (gap-after-has (key_word w) es s.rising (s.named a));
          there = here.0;
          key = here.1;
          before = refl;
          member = s.named a;
        },
      )

-- ---- the gap laid elsewhere

-- or where it is
pub gap_same : (w : List ℕ) → open_word w ≡ 1 → with_cursor (pool_of w) (gap (gap_by (pool_of w))) ≡ pool_of w
unfolding pool_of cursor_of
gap_same w o = rw o

module _ (w : List ℕ) (o a k : ℕ) where
  laid-head : HeadOnly w (gap_words o a k w)
  laid-head =
      head-then (head-stored w 5 o (omega arith)) (head-then (head-stored (set w 5 o) 6 a (omega arith)) (head-stored (set (set w 5 o) 6 a) 7 k (omega arith)))

  laid-other : (i : ℕ) → i ≢ 5 → i ≢ 6 → i ≢ 7 → word (gap_words o a k w) i ≡ word w i
  laid-other i five six seven = other_word (set (set w 5 o) 6 a) 7 k i seven ∙ other_word (set w 5 o) 6 a i six ∙ other_word w 5 o i five

  laid-words : 8 ≤ length w → (open_word (gap_words o a k w) ≡ o) × (after_word (gap_words o a k w) ≡ a) × (key_word (gap_words o a k w) ≡ k)
  laid-words long =
      let one = length-set w 5 o in
      let two = length-set (set w 5 o) 6 a in (
        other_word (set (set w 5 o) 6 a) 7 k 5 (omega arith) ∙ other_word (set w 5 o) 6 a 5 (omega arith) ∙ stored-word w 5 o (omega arith),
        other_word (set (set w 5 o) 6 a) 7 k 6 (omega arith) ∙ stored-word (set w 5 o) 6 a (omega arith),
        stored-word (set (set w 5 o) 6 a) 7 k (omega arith),
      )

pub gap-long : (o a k : ℕ) (w : List ℕ) → length (gap_words o a k w) ≡ length w
gap-long o a k w = (laid-head w o a k).long

pub rest-long : (r : Option Spot) (w : List ℕ) → length (rest_words r w) ≡ length w
rest-long (Some x) w = gap-long 1 1 _ w
rest-long None w = gap-long 1 0 0 w

pub gap-written : (w : List ℕ) (P : Pool) (c : Cursor) → Written w P → Written (gap_words (open_in c) (after_in c) (key_in (held_by P) c) w) (with_cursor P c)
unfolding geometry_of
gap-written w P c a =
    let v : List ℕ = gap_words (open_in c) (after_in c) (key_in (held_by P) c) w in
    let only : HeadOnly w v = laid-head w (open_in c) (after_in c) (key_in (held_by P) c) in
    let same : (i : ℕ) → i ≢ 5 → i ≢ 6 → i ≢ 7 → word v i ≡ word w i = laid-other w (open_in c) (after_in c) (key_in (held_by P) c) in
    let long = rw (written-today a) at a.long in
    let new = laid-words w (open_in c) (after_in c) (key_in (held_by P) c) (omega arith) in
    record {
      geometry = geometry-same v w (same 0 (omega arith) (omega arith) (omega arith)) (same 9 (omega arith) (omega arith) (omega arith)) ∙ a.geometry;
      long = only.long ∙ a.long;
      head =
          let w₀ : word v 0 ≡ word w 0 = same 0 (omega arith) (omega arith) (omega arith) in
          let w₁ : word v 1 ≡ word w 1 = same 1 (omega arith) (omega arith) (omega arith) in
          let w₂ : word v 2 ≡ word w 2 = same 2 (omega arith) (omega arith) (omega arith) in
          let w₃ : word v 3 ≡ word w 3 = same 3 (omega arith) (omega arith) (omega arith) in
          let w₄ : word v 4 ≡ word w 4 = same 4 (omega arith) (omega arith) (omega arith) in
          let w₈ : word v 8 ≡ word w 8 = same 8 (omega arith) (omega arith) (omega arith) in
          cc (a.head, new.0, new.1, new.2);
      spare = λ i b h. same i (omega arith) (omega arith) (omega arith) ∙ a.spare i b h;
      bits = λ q. rw (head-map only) (a.bits q);
      stands = standing-frame least (page_in w) (page_in v) P.whole.levels P.whole.tree (λ q _. sym (head-page only q)) a.stands;
    }

-- behind the spot of the entry before gap g
pub rest-written : (w : List ℕ) (g : ℕ) (r : Option Spot) → Sound w → g ≤ length (held_by (pool_of w))
    → r ≡ spot_before (pool_of w).whole.levels (pool_of w).whole.tree g → Written (rest_words r w) (with_cursor (pool_of w) (gap g))
unfolding held Formed
rest-written w zero (Some x) s b e = never (cc)
rest-written w zero None s b e = gap-written w (pool_of w) (gap 0) (sound-written w s)
rest-written w (suc g) (Some x) s b e =
    let P = pool_of w in
    let read : entry_in most (page_in w x.page) x.slot ≡ get_or (held_by P) g no_entry = spot-entry w P (sound-right w s) (sound-written w s) g x.page x.slot b (sym e) in
    subst (λ (e : Entry). Written (gap_words 1 1 e.key w) (with_cursor P (gap (suc g)))) (sym read) (gap-written w P (gap (suc g)) (sound-written w s))
rest-written w (suc g) None s b e =
    let some = spot-some least 1 (pool_of w).whole.levels (pool_of w).whole.tree g (written-formed (sound-written w s) (sound-right w s)) b (Some (spot 0 0)) in
    never (cc (rw (← e) at some))
