-- Words 5 to 7 become 0, in a copy and where the cursor is closed: of a sound pool they leave a sound one that holds
-- the same, with the cursor closed.
-- Assumes nothing.
use mathlib.Core.Path.{◌≡◌, sym, ap, ◌∙◌, subst}
use mathlib.Core.List.{List, ◌∷◌}
use Prim.Native.Nat.{ℕ, ◌+◌, ◌-◌, ◌≤◌, ◌<◌}
use native.Mathlib.Omega.{arith}
use lib.ListN.{length, drop, take, get_or-append, length-append, length-take, length-drop}
use lib.Seq.{drop_at, drop-drop, get_or-drop, get_or-take}
use Rattle.model.specs.Layout.{word, head_words, page_words, first_word}
use Rattle.model.specs.Head.{geometry_of, least_of}
use Rattle.model.specs.PageMap.{map_at}
use Rattle.model.specs.Page.{page_at, page_of}
use Rattle.model.specs.Entries.{shut}
use Rattle.model.specs.Pool.{pool_of, with_cursor}
use Rattle.model.specs.Sound.{Sound}
use Rattle.model.specs.Written.{Written}
use Rattle.model.specs.PoolCalls.{cursorless}
use Rattle.model.proofs.Lawful.{geometry-same}
use Rattle.model.proofs.Standing.{standing-frame}
use Rattle.model.proofs.Right.{right-shut, sound-right}
use Rattle.model.proofs.Written.{written-sound, sound-written, written-pool}

module _ (w : List ℕ) (long : 8 ≤ length w) where
  first : length (take 5 w) ≡ 5
  first = simp length-take (omega arith)

  pub cursorless-length : length (cursorless w) ≡ length w
  unfolding cursorless
  cursorless-length = simp (length-append, length-take, length-drop) (omega arith)

  cursorless-tail : drop 5 (cursorless w) ≡ 0 ∷ 0 ∷ 0 ∷ drop 8 w
  unfolding cursorless
  cursorless-tail = drop_at (take 5 w) (0 ∷ 0 ∷ 0 ∷ drop 8 w) 5 first

  -- from word 8 on nothing changes
  cursorless-drop : (n : ℕ) → 8 ≤ n → drop n (cursorless w) ≡ drop n w
  cursorless-drop n b =
      let e : 8 + (n - 8) ≡ n = omega arith in
      let eight : drop 8 (cursorless w) ≡ drop 8 w = sym (drop-drop 3 5 (cursorless w)) ∙ ap (drop 3) cursorless-tail in
      subst (λ (k : ℕ). drop k (cursorless w) ≡ drop k w) e
      (sym (drop-drop (n - 8) 8 (cursorless w)) ∙ ap (drop (n - 8)) eight ∙ drop-drop (n - 8) 8 w)

  pub cursorless-high : (i : ℕ) → 8 ≤ i → word (cursorless w) i ≡ word w i
  cursorless-high i b =
      let e : i + 0 ≡ i = omega arith in
      subst (λ (k : ℕ). word (cursorless w) k ≡ word w k) e
      (sym (get_or-drop i (cursorless w) 0 0) ∙ ap (λ (l : List ℕ). word l 0) (cursorless-drop i b) ∙ get_or-drop i w 0 0)

  cursorless-low : (i : ℕ) → i < 5 → word (cursorless w) i ≡ word w i
  unfolding cursorless
  cursorless-low i b = get_or-append (take 5 w) (0 ∷ 0 ∷ 0 ∷ drop 8 w) 0 i (omega (arith, first)) ∙ get_or-take 5 w i 0 b

  -- words 5 to 7
  pub cursorless-mid : (i : ℕ) → word (cursorless w) (5 + i) ≡ word (0 ∷ 0 ∷ 0 ∷ drop 8 w) i
  cursorless-mid i = sym (get_or-drop 5 (cursorless w) i 0) ∙ ap (λ (l : List ℕ). word l i) cursorless-tail

  pub cursorless-geometry : geometry_of (cursorless w) ≡ geometry_of w
  cursorless-geometry = geometry-same (cursorless w) w (cursorless-low 0 (omega arith)) (cursorless-high 9 (omega arith))

module _ (w : List ℕ) (s : Sound w) where
  pub cursorless-written : Written (cursorless w) (with_cursor (pool_of w) shut)
  unfolding map_at page_at
  cursorless-written =
      let a = sound-written w s in
      let long : 8 ≤ length w = omega (arith, a.long) in
      let same : geometry_of (cursorless w) ≡ geometry_of w = cursorless-geometry w long in
      let h = a.head in
      record {
        geometry = same ∙ a.geometry;
        long = cursorless-length w long ∙ a.long;
        head = cc (
          cursorless-low w long 0 (omega arith),
          cursorless-low w long 1 (omega arith),
          cursorless-low w long 2 (omega arith),
          cursorless-low w long 3 (omega arith),
          cursorless-low w long 4 (omega arith),
          cursorless-mid w long 0,
          cursorless-mid w long 1,
          cursorless-mid w long 2,
          cursorless-high w long 8 (omega arith),
        );
        spare = λ i b l. cursorless-high w long i (omega arith) ∙ a.spare i b l;
        bits = λ q. rw (same, cursorless-drop w long head_words (omega arith)) (a.bits q);
        stands =
            rw (same, least_of) (standing-frame (least_of w) (page_of w) (page_at (geometry_of w) (cursorless w)) (pool_of w).whole.levels (pool_of w).whole.tree
            (λ q l. ap (take (page_words (geometry_of w))) (sym (cursorless-drop w long (first_word (geometry_of w) q) (omega arith)))) a.stands);
      }

  pub cursorless-sound : Sound (cursorless w)
  cursorless-sound = written-sound (cursorless w) (with_cursor (pool_of w) shut) (right-shut (pool_of w) (sound-right w s)) cursorless-written

  pub cursorless-pool : pool_of (cursorless w) ≡ with_cursor (pool_of w) shut
  cursorless-pool = written-pool (cursorless w) (with_cursor (pool_of w) shut) (right-shut (pool_of w) (sound-right w s)) cursorless-written
