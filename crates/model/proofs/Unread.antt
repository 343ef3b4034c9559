-- No call reads the words that document 01 frees: a pool that differs from a sound one in those words alone is sound
-- and holds the same, and a call's answer and what it leaves are the same again.
-- Assumes nothing.
use mathlib.Core.Path.{◌≡◌, refl, sym, ap, ap₂, ◌∙◌}
use mathlib.Core.List.{List, [], ◌∷◌, ◌++◌}
use Prim.Native.Nat.{ℕ, suc, ◌+◌, ◌<◌}
use native.Mathlib.Omega.{arith}
use lib.ListN.{length, take, drop, length-take, length-drop}
use lib.Seq.{get_or-take, get_or-drop, ext_get_or}
use Rattle.model.specs.Layout.{head_words, map_words, first_word, word}
use Rattle.model.specs.declared.Geometry.{Geometry}
use Rattle.model.specs.Head.{geometry_of, least_of, headed, kind_word, open_word}
use Rattle.model.proofs.Lawful.{geometry-same}
use Rattle.model.specs.PageMap.{map_at}
use Rattle.model.specs.Tree.{Entry, meets}
use Rattle.model.specs.Page.{page_at, page_of}
use Rattle.model.specs.Bound.{Bound}
use Rattle.model.specs.Entries.{gap, shut}
use Rattle.model.specs.Pool.{Pool, pool_of, held_by, gap_by, with_cursor}
use Rattle.model.specs.Sound.{Sound}
use Rattle.model.specs.Written.{Written}
use Rattle.model.specs.Alike.{Words, Alike}
use Rattle.model.specs.Refusal.{Test, unfit, refusal}
use Rattle.model.specs.Call.{Call, Outcome, given, left, number, Exact}
use Rattle.model.specs.PoolCalls.{make_tests, clear_tests, Makes, Clears, copy_tests}
use Rattle.model.specs.MapCalls.{read_tests, change_tests}
use Rattle.model.specs.ListCalls.{Column, list_tests, Lists}
use Rattle.model.specs.CursorCalls.{open_tests, cursor_tests}
use Rattle.model.specs.Unread.{Unread, ListsUnread, PlaysUnread, MakesUnread, CopiesUnread}
use Rattle.model.proofs.Cases.{either-zero}
use Rattle.model.proofs.Basics.{front-word}
use Rattle.model.proofs.Standing.{standing-alike}
use Rattle.model.proofs.Right.{sound-right}
use Rattle.model.proofs.Alike.{alike}
use Rattle.model.proofs.Making.{fresh-made, fresh-cleared}
use Rattle.model.proofs.Cursorless.{cursorless-sound, cursorless-pool}
use Rattle.model.proofs.Agree.{alike_self, shortest-same, kept_same, fronted-same, same_count, lists-determined}
use Rattle.model.proofs.Written.{sound-written, written-sound, written-pool}

module _ (w x : List ℕ) (s : Sound w) (k : Alike w x) where
  abbrev γ : Geometry
  γ = geometry_of w

  like-word : (i : ℕ) → i < first_word γ 0 → word x i ≡ word w i
  like-word = front-word (first_word γ 0) w x (sym k.front)

  pub alike-geometry : geometry_of x ≡ γ
  alike-geometry = geometry-same x w (like-word 0 (omega arith)) (like-word 9 (omega arith))

  map_same : map_at γ x ≡ map_at γ w
  unfolding map_at
  map_same =
      ext_get_or 0 (map_at γ x) (map_at γ w) (simp (length-take, length-drop, k.long))
      (λ i h.
      let l : i < map_words γ = omega (arith, simp length-take at h) in
      get_or-take (map_words γ) (drop head_words x) i 0 l ∙ get_or-drop head_words x i 0 ∙ like-word (head_words + i) (omega arith)
      ∙ sym (get_or-take (map_words γ) (drop head_words w) i 0 l ∙ get_or-drop head_words w i 0))

  alike-written : Written x (pool_of w)
  unfolding meets
  alike-written =
      let a = sound-written w s in
      let r = sound-right w s in
      record {
        geometry = alike-geometry ∙ a.geometry;
        long = sym k.long ∙ a.long;
        head = cc (
          a.head,
          like-word 0 (omega arith),
          like-word 1 (omega arith),
          like-word 2 (omega arith),
          like-word 3 (omega arith),
          like-word 4 (omega arith),
          like-word 5 (omega arith),
          like-word 6 (omega arith),
          like-word 7 (omega arith),
          like-word 8 (omega arith),
        );
        spare = λ i b l. like-word i (omega arith) ∙ a.spare i b l;
        bits = λ q. rw (alike-geometry, map_same) (a.bits q);
        stands =
            rw (alike-geometry, least_of) (standing-alike (least_of w) (page_of w) (page_at γ x) (pool_of w).whole.levels (pool_of w).whole.tree
            (λ q l. rw alike-geometry at (k.pages q (omega (arith, a.bits q, r.once q)))) a.stands);
      }

  pub alike-sound : Sound x
  alike-sound = written-sound x (pool_of w) (sound-right w s) alike-written

  pub alike-pool : pool_of x ≡ pool_of w
  alike-pool = written-pool x (pool_of w) (sound-right w s) alike-written

  head-same : (headed x ≡ headed w) × (kind_word x ≡ kind_word w) × (open_word x ≡ open_word w)
  head-same = (alike-sound.head ∙ sym s.head, like-word 8 (omega arith), like-word 5 (omega arith))

-- ---- the calls

-- tests that look at the head alone; so do those of every call
abbrev pub AtHead : (List ℕ → List Test) → Type 0
AtHead tests = (w x : List ℕ) → (headed x ≡ headed w) × (kind_word x ≡ kind_word w) × (open_word x ≡ open_word w) → tests x ≡ tests w

-- count and is-empty
pub unfit-head : AtHead (λ w. unfit w ∷ [])
unfit-head w x h = rw h.0

-- get and contains
pub reading-head : (kind : ℕ) → AtHead (read_tests kind)
reading-head kind w x h = rw (h.0, h.1)

-- insert, replace and remove
pub changing-head : (kind : ℕ) → AtHead (change_tests kind)
changing-head kind w x h = rw (h.0, h.1, h.2)

-- opening, and the cursor's other calls
pub opening-head : (kind : ℕ) → AtHead (open_tests kind)
opening-head kind w x h = rw (h.0, h.1, h.2)

pub cursor-head : AtHead cursor_tests
cursor-head w x h = rw (h.0, h.1, h.2)

-- lists
pub listing-head : (kind lower upper : ℕ) → AtHead (list_tests kind lower upper)
listing-head kind lower upper w x h = rw (h.0, h.1)

pub unread : {A : Type 0} (c : Call A) → AtHead c.early → Unread c
unread c at_head w x v u r s sw k vs us a b =
    let sx = alike-sound w x sw k in
    let pool = alike-pool w x sw k in
    let tests : number c x ≡ number c w = ap₂ (λ (e l : List Test). refusal (e ++ l)) (at_head w x (head-same w x sw k)) (ap c.late pool) in (
      a.exact sw ∙ sym (b.exact sx ∙ ap₂ given tests (ap c.answer pool)),
      alike v u vs us (a.sound sw) (b.sound sx) (a.holds sw ∙ sym (b.holds sx ∙ rw (tests, pool))),
    )

-- a list reads the pool alone, so one of the other pool is one of this
lists-moved : {tests tests' : List Test} {low high : Bound} {w x : List ℕ} {ds : List Column} {s : Outcome ℕ} → Sound x → pool_of x ≡ pool_of w → tests ≡ tests'
    → Lists tests low high x ds s → Lists tests' low high w ds s
lists-moved sx pool same b = record {
  long = b.long;
  early = rw same at b.early;
  late = rw same at b.late;
  kept = b.kept;
  exact = λ sw. rw (same, pool) at (b.exact sx);
  writes = λ sw. rw (same, pool) at (b.writes sx);
}

pub lists-unread : ListsUnread
lists-unread kind lower from upper to w x cs ds r s sw k l a b =
    let moved = lists-moved (alike-sound w x sw k) (alike-pool w x sw k) (listing-head kind lower upper w x (head-same w x sw k)) b in
    let both = lists-determined (λ o. o) (λ r s e. e) kind lower from upper to w cs ds r s l a moved in
    (both.answers sw, both.words sw)

pub plays-unread : PlaysUnread
plays-unread w x v u cs ds r s sw k l vs us a b =
    let p = pool_of w in
    let es : ℕ → List Entry = λ n. take n (drop (gap_by p) (held_by p)) in
    let sx = alike-sound w x sw k in
    let pool = alike-pool w x sw k in
    let tests = cursor-head w x (head-same w x sw k) in
    either-zero (refusal (cursor_tests w))
    (λ z.
    let y : refusal (cursor_tests x) ≡ 0 = ap refusal tests ∙ z in
    let left = ap (λ (n : ℕ). with_cursor p (gap (gap_by p + length (es n)))) (shortest-same cs ds l) in (
      same_count (λ o. o) (λ r s e. e) es cs ds l (a.exact sw z) (rw pool at (b.exact sx y)),
      alike v u vs us (a.sound sw) (b.sound sx) (a.holds sw z ∙ left ∙ sym (rw pool at (b.holds sx y))),
      fronted-same es cs ds l (a.writes sw z) (rw pool at (b.writes sx y)),
    ))
    (λ n e.
    let f : refusal (cursor_tests x) ≡ suc n = ap refusal tests ∙ e in
    let c = a.kept (suc n) (a.early n e) in
    let d = b.kept (suc n) (b.early n f) in
    (a.early n e ∙ sym (b.early n f), rw (c.0, d.0) k, kept_same cs ds l c.1 d.1))

-- exact calls whose tests the free words leave alone
exact-unread : {tests tests' : List Test} {w x new new' v u : List ℕ} {r s : Outcome (Unit {0})} → tests' ≡ tests → Alike w x
    → (refusal tests ≡ 0 → v ≡ new → u ≡ new' → Alike v u) → Exact tests tt w new v r → Exact tests' tt x new' u s → (r ≡ s) × Alike v u
exact-unread {tests} {tests'} {w} {x} {new} {new'} {v} {u} same old fresh a b =
    let number : refusal tests' ≡ refusal tests = ap refusal same in
    let after : u ≡ left (refusal tests) x new' = b.words ∙ ap (λ (n : ℕ). left n x new') number in (
      a.exact ∙ sym (b.exact ∙ ap (λ (n : ℕ). given n tt) number),
      either-zero (refusal tests)
          (λ z. fresh z (rw z at a.words) (rw z at after))
          (λ n e. rw (a.words, after, e) old),
    )

-- words that became those of two pools that hold the same
new-alike : {w x v u : List ℕ} {p q : Pool} → p ≡ q → Words v → Words u → Sound w × (pool_of w ≡ p) → Sound x × (pool_of x ≡ q) → v ≡ w → u ≡ x → Alike v u
new-alike {v = v} {u = u} e vs us a b f g = alike v u vs us (rw f a.0) (rw g b.0) (rw (f, g) (a.1 ∙ e ∙ sym b.1))

pub make-unread : (kind : ℕ) → MakesUnread (Makes kind)
make-unread kind w x v u r s sw k vs us a b =
    let tests : make_tests kind x ≡ make_tests kind w = rw (← k.long) in
    exact-unread tests k (λ z. new-alike (rw k.long) vs us (fresh-made kind w z) (fresh-made kind x (ap refusal tests ∙ z))) a b

pub clear-unread : MakesUnread Clears
clear-unread w x v u r s sw k vs us a b =
    let h = head-same w x sw k in
    let tests : clear_tests x ≡ clear_tests w = rw (h.0, h.2) in
    exact-unread tests k
    (λ z. new-alike (rw (k.long, h.1, alike-geometry w x sw k)) vs us (fresh-cleared w z) (fresh-cleared x (ap refusal tests ∙ z))) a b

pub copy-unread : CopiesUnread
copy-unread w x destination v u r s sw k vs us a b =
    let sx = alike-sound w x sw k in
    let tests : copy_tests x destination ≡ copy_tests w destination = rw ((head-same w x sw k).0, alike-geometry w x sw k, ← k.long) in
    exact-unread tests (alike_self destination destination refl)
    (λ z. new-alike (ap (λ (p : Pool). with_cursor p shut) (sym (alike-pool w x sw k))) vs us (cursorless-sound w sw, cursorless-pool w sw)
    (cursorless-sound x sx, cursorless-pool x sx)) a b
