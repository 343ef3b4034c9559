-- An entry removed from a pool: a root left without entries gives way to its only child, the tree is `model`'s, and the
-- words then hold the pool without that entry.
-- Assumes nothing.
use mathlib.Core.Path.{◌≡◌, refl, sym, ap, ◌∙◌}
use mathlib.Core.Bool.{Bool, true, false}
use mathlib.Core.Logic.{◌≢◌}
use mathlib.Core.List.{List}
use Prim.Native.Nat.{ℕ, zero, suc, ◌+◌, ◌-◌, ◌/◌, ◌≤◌, ◌<◌}
use native.Mathlib.Omega.{arith}
use lib.ListN.{length, take, get_or, set, length-set}
use borrow.Author.Tests.{le-leb, lt-leb}
use Rattle.std.specs.Prelude.{Option, Ok, Err}
use Rattle.model.specs.Basics.{All, sum, same, del}
use Rattle.model.specs.Layout.{head_words, pages_in, word, today}
use Rattle.model.specs.Head.{count_word, levels_word, headed}
use Rattle.model.specs.PageMap.{bit_at}
use Rattle.model.specs.Tree.{entries, Entry, no_entry, no_tree, Tree, held, meets, times, size}
use Rattle.model.specs.Page.{count_of}
use Rattle.model.specs.Standing.{root_of, page_number, Standing}
use Rattle.model.specs.Gap.{child}
use Rattle.model.specs.Remove.{remove_at, collapse, remove_in, remove}
use Rattle.model.specs.Freed.{freed_at}
use Rattle.model.specs.Pool.{held_by, pool_of}
use Rattle.model.specs.Sound.{Sound}
use Rattle.page.specs.declared.Entry as lent
use Rattle.lend.specs.Touches.{Sized}
use Rattle.lend.specs.Pages.{least, page_in, map_in}
use Rattle.tree.specs.Sits.{PathOf, Sits, AtEntry}
use Rattle.tree.specs.Remove.{near_in, RemovesBelow, CanRemove, Lowered, Lowers, Removes}
use Rattle.model.proofs.Cases.{contrary, either-le, never}
use Rattle.model.proofs.Basics.{all-at, length-del, del-before, front-word}
use Rattle.model.proofs.Sums.{sum-single}
use Rattle.model.proofs.PageMap.{bit_at_lt}
use Rattle.model.proofs.Head.{head-facts}
use Rattle.model.proofs.Gap.{times-page, shaped-forks}
use Rattle.model.proofs.Remove.{remove-at-shaped, remove-at-times, remove-held}
use Rattle.model.proofs.Path.{remove-at-page}
use Rattle.model.proofs.Standing.{standing-frame}
use Rattle.model.proofs.Right.{sound-right}
use Rattle.model.proofs.Written.{sound-written}
use Rattle.pagemap.proofs.Map.{clear-bits}
use Rattle.lend.proofs.Touching.{map-bits}
use Rattle.lend.proofs.Fitting.{headed-sized}
use Rattle.tree.proofs.Saying.{root-count, child-found}
use Rattle.tree.proofs.Sitting.{sound-sits}
use Rattle.tree.proofs.Paths.{first-page}
use Rattle.tree.proofs.Heads.{head-page, head-stored}
use Rattle.tree.proofs.Leaving.{head-word, key-stays, Carries, carries-leaves, leaves-written, written-least, written-bits, written-formed}

-- ---- a root left without entries

lower-to : (w w' : List ℕ) (h : ℕ) (t : Tree (suc h)) → Standing least (page_in w) (suc h) t → length t.children ≡ suc (length t.own)
    → ((q : ℕ) → 0 < times q (suc h) t → q < pages_in today (length w)) → count_of (page_in w t.page) ≡ 0 → Lowers t.page (suc h) w w'
    → Lowered (root_of h (child h t 0)) h t.page w w'
lower-to w w' zero t stands forks inside none l = l.empties none refl
lower-to w w' (suc h) t stands forks inside none l =
    let e : suc (suc h) - 1 ≡ suc h = omega arith in
    rw e at (l.lowers none (omega arith) (page_number (suc h) (child (suc h) t 0)) (child-found w (suc h) t stands forks 0 (omega arith) (omega arith) (omega arith) inside))

module _ (w₁ w₂ : List ℕ) (h : ℕ) (t : Tree (suc h)) (stands : Standing least (page_in w₁) (suc h) t) (forks : length t.children ≡ suc (length t.own))
    (inside : (q : ℕ) → 0 < times q (suc h) t → q < pages_in today (length w₁)) (lowers : Lowers t.page (suc h) w₁ w₂) where
  root-stays : 1 ≤ length t.own → w₂ ≡ w₁
  root-stays some = lowers.stays (omega (arith, root-count w₁ h t stands))

  root-gone : length t.own ≡ 0 → Lowered (root_of h (child h t 0)) h t.page w₁ w₂
  root-gone none = lower-to w₁ w₂ h t stands forks inside (omega (arith, root-count w₁ h t stands)) lowers

  -- no page changes
  pub collapse-others : (q : ℕ) → page_in w₂ q ≡ page_in w₁ q
  collapse-others q =
      either-le 1 (length t.own) (λ some. ap (λ (l : List ℕ). page_in l q) (root-stays some)) (λ none. (root-gone (omega arith)).others q)

  module _ (w : List ℕ) (sized : Sized w) (long : length w₁ ≡ length w) (head : take head_words w₁ ≡ take head_words w)
      (root : word w 3 ≡ suc t.page) (levels : word w 4 ≡ suc h) (bits : (q : ℕ) → bit_at (map_in w₁) q ≡ times q (suc h) t) where
    map-place : t.page / 64 < length (map_in w₁)
    map-place = omega (arith, inside t.page (times-page h t), map-bits w₁ (omega arith))

    lowered-carries : length t.own ≡ 0 → Carries w (record { levels = h; tree = child h t 0 }) w₂
    unfolding Standing times meets
    lowered-carries none =
        let l = root-gone none in
        let taken : bit_at (map_in w₁) t.page ≡ 1 = omega (arith, bits t.page, bit_at_lt (map_in w₁) t.page, times-page h t) in
        record {
          long = lowers.long ∙ long;
          words = λ i b three four. l.rooted.others i b three four ∙ front-word head_words w w₁ head i b;
          root = l.rooted.root;
          levels = l.rooted.levels;
          bits = λ q. rw l.map
              (omega (arith, clear-bits (map_in w₁) t.page map-place taken q, bits q, sum-single (times q h) t.children (no_tree h) (omega arith)));
          stands = standing-frame least (page_in w₁) (page_in w₂) h (child h t 0) (λ q _. sym (l.others q))
              (all-at (Standing least (page_in w₁) h) t.children 0 (no_tree h) (omega arith) stands.1);
        }

    pub collapse-carries : Carries w (collapse h t) w₂
    unfolding collapse meets
    collapse-carries =
        either-le 1 (length t.own)
        (λ some. rw (le-leb 1 (length t.own) some, root-stays some) (record {
          long = long;
          words = λ i b _ _. front-word head_words w w₁ head i b;
          root = front-word head_words w w₁ head 3 (omega arith) ∙ root;
          levels = front-word head_words w w₁ head 4 (omega arith) ∙ levels;
          bits = bits;
          stands = stands;
        }))
        (λ none. rw (lt-leb 1 (length t.own) none) (lowered-carries (omega arith)))

-- ---- a tree that has shrunk along a path, and its root

pub remove-carries : (w ps ss w₁ w₂ : List ℕ) (u : Option lent.Entry) (h : ℕ) (t : Tree h) (g : ℕ) → Sits w 1 h t → g < size h t → PathOf h t g ps ss → length ps ≡ h → Sized w
    → word w 3 ≡ root_of h t → word w 4 ≡ h → ((q : ℕ) → bit_at (map_in w) q ≡ times q h t) → RemovesBelow w ps ss w₁ u → Lowers (get_or ps 0 0) (length ps) w₁ w₂
    → Carries w (remove_in least h t g) w₂ × ((q : ℕ) → All (λ p. q ≢ p) (near_in h t g) → page_in w₂ q ≡ page_in w q)
unfolding remove_in entries
remove-carries w ps ss w₁ w₂ u zero t g s b path many sized root levels bits below lowers = absurd (omega arith)
remove-carries w ps ss w₁ w₂ u (suc h) t g s b path many sized root levels bits below lowers =
    let k = below.shrinks 1 h t g s (omega arith) path (λ q. omega (arith, bits q)) in
    let t' : Tree (suc h) = remove_at least (suc h) t g in
    let page : t'.page ≡ t.page = remove-at-page least h t g in
    let met : (q : ℕ) → times q (suc h) t' + sum (same q) (freed_at least (suc h) t g) ≡ times q (suc h) t =
    remove-at-times least 1 h t g (omega arith) (omega arith) s.shaped (omega arith) in
    let first : get_or ps 0 0 ≡ t'.page = first-page (suc h) t g (omega arith) path.pages ∙ sym page in
    let lowers' : Lowers t'.page (suc h) w₁ w₂ = rw (first, many) at lowers in
    let forks : length t'.children ≡ suc (length t'.own) = shaped-forks least 0 h t' (remove-at-shaped least 1 h t g (omega arith) (omega arith) s.shaped (omega arith)) in
    let bits' : (q : ℕ) → bit_at (map_in w₁) q ≡ times q (suc h) t' = λ q. omega (arith, k.bits q, bits q, met q) in
    let inside : (q : ℕ) → 0 < times q (suc h) t' → q < pages_in today (length w₁) = λ q l. rw k.touches.long (s.inside q (omega (arith, met q))) in (
      collapse-carries w₁ w₂ h t' k.stands forks inside lowers' w sized k.touches.long k.touches.head (root ∙ ap suc (sym page)) levels bits',
      λ q far. collapse-others w₁ w₂ h t' k.stands forks inside lowers' q ∙ k.touches.others q far,
    )

-- ---- what a removal does

-- a pool with an entry has a level, and one with a level has an entry
pub levels-some : (w : List ℕ) (g : ℕ) → Sound w → g < length (held_by (pool_of w)) → 0 < levels_word w
levels-some w g sound b = ((head-facts w sound.head).rooted.1 (omega (arith, head-word (sound-written w sound) 2 (omega arith)))).1

pub count-some : (w : List ℕ) → headed w ≡ true → 1 ≤ levels_word w → 1 ≤ count_word w
count-some w e l = either-le 1 (count_word w) (λ b. b) (λ b. absurd (omega (arith, (head-facts w e).rooted.0 (omega arith))))

-- where it is not done, the pool is not sound
pub removes-none : (w ps ss : List ℕ)
    → AtEntry w ps ss (λ g. ⊥) → Removes w ps ss w (Err (record {}))
removes-none w ps ss never = record {
  long = refl;
  kept = λ _. refl;
  sound = λ g sound b path. absurd (never g sound b path);
  holds = λ g sound b path _. absurd (never g sound b path);
  others = λ _ _ _ _ _ _. refl;
}

pub removes-refused : (w ps ss : List ℕ) (r : Bool) → CanRemove w ps ss r → r ≡ false → Removes w ps ss w (Err (record {}))
unfolding held
removes-refused w ps ss r can cannot =
    removes-none w ps ss
    (λ g sound b path. contrary (can 1 (pool_of w).whole.levels (pool_of w).whole.tree g (sound-sits w sound) (omega arith) path) cannot)

pub removes-done : (w ps ss w₁ w₂ : List ℕ) (u : Option lent.Entry) → headed w ≡ true → length ps ≡ levels_word w → RemovesBelow w ps ss w₁ u
    → Lowers (get_or ps 0 0) (length ps) w₁ w₂ → Removes w ps ss (set w₂ 2 (word w₂ 2 - 1)) (Ok tt)
unfolding held meets remove
removes-done w ps ss w₁ w₂ u fits many below lowers = record {
  long = length-set w₂ 2 (word w₂ 2 - 1) ∙ lowers.long ∙ below.long;
  kept = λ x. never (cc);
  sound = λ _ _ _ _. refl;
  holds = λ g sound b path before.
      let P = pool_of w in
      let a = sound-written w sound in
      let x = remove least P.whole g in
      let c : Carries w x w₂ = (carried g sound b path).0 in
      let after : held x ≡ del g (held_by P) = remove-held least P.whole g (omega arith) (written-formed a (sound-right w sound)) b in
      let size = headed-sized w fits in
      rw (written-least a) (leaves-written w P x (set w₂ 2 (word w₂ 2 - 1)) a
      (carries-leaves w P x w₂ (word w₂ 2 - 1) c (omega arith)
      (omega (arith, c.words 2 (omega arith) (omega arith) (omega arith), head-word a 2 (omega arith), ap length after, length-del g (held_by P) b))
      (key-stays (held_by P) (held x) P.cursor (λ i l. rw after (ap (λ (y : Entry). y.key) (del-before g (held_by P) i no_entry (omega arith) (omega arith)))))));
  others = λ g sound b path q far. head-page (head-stored w₂ 2 (word w₂ 2 - 1) (omega arith)) q ∙ (carried g sound b path).1 q far;
}
  where
    carried : (g : ℕ) → Sound w → g < length (held_by (pool_of w)) → PathOf (pool_of w).whole.levels (pool_of w).whole.tree g ps ss
        → Carries w (remove least (pool_of w).whole g) w₂
        × ((q : ℕ) → All (λ p. q ≢ p) (near_in (pool_of w).whole.levels (pool_of w).whole.tree g) → page_in w₂ q ≡ page_in w q)
    carried g sound b path =
        let a = sound-written w sound in
        remove-carries w ps ss w₁ w₂ u (pool_of w).whole.levels (pool_of w).whole.tree g (sound-sits w sound) b path (many ∙ head-word a 4 (omega arith)) (headed-sized w fits)
        (head-word a 3 (omega arith)) (head-word a 4 (omega arith)) (written-bits a) below lowers
