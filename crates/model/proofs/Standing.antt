-- What reading finds, and what writing has to show: the tree that is read stands in the pages; a tree that stands in
-- pages is read from them, its heights are right, and pages that say the same hold it too: whoever changes none of its
-- pages changes nothing of it.
-- Assumes nothing.
use mathlib.Core.Path.{◌≡◌, refl, sym, ap, ap₂, subst, ◌∙◌}
use mathlib.Core.List.{List, [], ◌∷◌, ◌++◌, map}
use Prim.Native.Nat.{ℕ, zero, suc, pred, ◌+◌, ◌<◌}
use native.Mathlib.Omega.{arith}
use lib.ListN.{length, take, drop, set, length-map}
use Rattle.model.specs.Basics.{splice, All, sum}
use Rattle.model.specs.Layout.{most_entries}
use Rattle.model.specs.Tree.{Tree, Shaped, Entry, times}
use Rattle.model.specs.Page.{children_of, read_tree, Heights}
use Rattle.model.specs.Alike.{AlikePage}
use Rattle.model.specs.Standing.{Stands, root_of, Standing}
use Rattle.model.proofs.Cases.{same_self}
use Rattle.model.proofs.Basics.{splice-one, all_append, all_take, all_drop, all_map, all-image, all_any, all_both}
use Rattle.model.proofs.Read.{length-children, length-own}

module _ (m : ℕ) (pages : ℕ → List ℕ) where
  -- the root's word, 0 where there are no levels
  pub read-root : (h r : ℕ) → (h ≡ 0 → r ≡ 0) → (0 < h → 0 < r) → r ≡ root_of h (read_tree m pages h (pred r))
  unfolding read_tree
  read-root zero r none some = none refl
  read-root (suc h) r none some = let e : r ≡ suc (pred r) = omega (arith, some (omega arith)) in e

  read-roots : (h : ℕ) (ps : List ℕ) → 0 < h → ps ≡ map (λ c. pred (root_of h c)) (map (read_tree m pages h) ps)
  read-roots h [] l = refl
  read-roots h (p ∷ ps) l = ap₂ ◌∷◌ (ap pred (read-root h (suc p) (λ z. omega arith) (λ l. omega arith))) (read-roots h ps l)

  -- the tree that was read stands there
  pub read-standing : (h p : ℕ) → Heights m pages h p → Standing m pages h (read_tree m pages h p)
  unfolding read_tree Heights Standing
  read-standing zero p k = tt
  read-standing (suc h) p k =
      let ps = children_of (most_entries m) (pages p) in (
        record { height = k.0; own = refl; children = read-roots h ps },
        all-image (read_tree m pages h) (Standing m pages h) ps (all_map (Heights m pages h) (λ q. Standing m pages h (read_tree m pages h q)) ps (read-standing h) k.1),
      )

-- ---- and the tree that stands there is read

pub map-roots : (m : ℕ) (pages : ℕ → List ℕ) (h : ℕ) (ts : List (Tree h)) → All (λ t. read_tree m pages h (pred (root_of h t)) ≡ t) ts
    → map (read_tree m pages h) (map (λ c. pred (root_of h c)) ts) ≡ ts
map-roots m pages h [] a = refl
map-roots m pages h (t ∷ ts) a = ap₂ ◌∷◌ a.0 (map-roots m pages h ts a.1)

-- trees of no levels are all alike, so as many are the same
same_units : (us vs : List (Unit {0})) → length us ≡ length vs → us ≡ vs
same_units [] [] e = refl
same_units [] (v ∷ vs) e = absurd (omega arith)
same_units (u ∷ us) [] e = absurd (omega arith)
same_units (u ∷ us) (v ∷ vs) e = ap (λ (r : List (Unit {0})). tt ∷ r) (same_units us vs (omega arith))

children-read : (m : ℕ) (pages : ℕ → List ℕ) (h : ℕ) (t : Tree (suc h)) → length t.children ≡ suc (length t.own) → Stands m pages h t
    → All (λ c. read_tree m pages h (pred (root_of h c)) ≡ c) t.children
    → map (read_tree m pages h) (children_of (most_entries m) (pages t.page)) ≡ t.children
children-read m pages zero t k a all =
    let page = pages t.page in
    same_units (map (read_tree m pages 0) (children_of (most_entries m) page)) t.children
    (omega (
      arith,
      length-map (children_of (most_entries m) page) (read_tree m pages 0),
      length-children (most_entries m) page,
      length-own (most_entries m) page,
      ap length a.own,
    ))
children-read m pages (suc h) t k a all = ap (map (read_tree m pages (suc h))) (a.children (omega arith)) ∙ map-roots m pages (suc h) t.children all

pub standing-read : (m low : ℕ) (pages : ℕ → List ℕ) (h : ℕ) (t : Tree h) → Shaped m low h t → Standing m pages h t
    → read_tree m pages h (pred (root_of h t)) ≡ t
unfolding Shaped Standing read_tree
standing-read m low pages zero t s a = refl
standing-read m low pages (suc h) t s a =
    ap₂ (λ (own : List Entry) (children : List (Tree h)). record { page = t.page; own = own; children = children }) a.0.own
    (children-read m pages h t s.forks a.0 (all_both (Shaped m m h) (Standing m pages h) _ t.children (standing-read m m pages h) s.below a.1))

-- its heights are right
pub standing-heights : (m : ℕ) (pages : ℕ → List ℕ) (h : ℕ) (t : Tree h) → Standing m pages h t → Heights m pages h (pred (root_of h t))
unfolding Standing Heights
standing-heights m pages zero t a = tt
standing-heights m pages (suc zero) t a = (a.0.height, all_any (λ p. Unit {0}) (children_of (most_entries m) (pages t.page)) (λ p. tt))
standing-heights m pages (suc (suc h)) t a = (
  a.0.height,
  rw (a.0.children (omega arith))
      (all-image (λ c. pred (root_of (suc h) c)) (Heights m pages (suc h)) t.children
      (all_map (Standing m pages (suc h)) _ t.children (standing-heights m pages (suc h)) a.1)),
)

pub page-alike-self : (m : ℕ) {a b : List ℕ} → a ≡ b → AlikePage m a b
page-alike-self m e = rw e (record { height = refl; own = refl; children = λ l. refl })

-- pages that say the same hold the same tree
module _ (m : ℕ) (pages pages' : ℕ → List ℕ) where
  all_alike : (h : ℕ) → ((t : Tree h) → ((q : ℕ) → 0 < times q h t → AlikePage m (pages q) (pages' q)) → Standing m pages h t → Standing m pages' h t)
      → (ts : List (Tree h)) → ((q : ℕ) → 0 < sum (times q h) ts → AlikePage m (pages q) (pages' q)) → All (Standing m pages h) ts → All (Standing m pages' h) ts
  all_alike h one [] e a = tt
  all_alike h one (t ∷ ts) e a = (one t (λ q l. e q (omega arith)) a.0, all_alike h one ts (λ q l. e q (omega arith)) a.1)

  pub standing-alike : (h : ℕ) (t : Tree h) → ((q : ℕ) → 0 < times q h t → AlikePage m (pages q) (pages' q)) → Standing m pages h t → Standing m pages' h t
  unfolding Standing times
  standing-alike zero t e a = tt
  standing-alike (suc h) t e a =
      let says = e t.page (omega (arith, same_self t.page)) in (
        record {
          height = sym says.height ∙ a.0.height;
          own = sym says.own ∙ a.0.own;
          children = λ l. sym (says.children (omega (arith, says.height, a.0.height))) ∙ a.0.children l;
        },
        all_alike h (standing-alike h) t.children (λ q l. e q (omega arith)) a.1,
      )

  -- who changes none of its pages changes nothing of it
  pub standing-frame : (h : ℕ) (t : Tree h) → ((q : ℕ) → 0 < times q h t → pages q ≡ pages' q) → Standing m pages h t → Standing m pages' h t
  standing-frame h t e = standing-alike h t (λ q l. page-alike-self m (e q l))

  pub all-standing : (h : ℕ) (ts : List (Tree h)) → ((q : ℕ) → 0 < sum (times q h) ts → pages q ≡ pages' q) → All (Standing m pages h) ts → All (Standing m pages' h) ts
  all-standing h ts e = all_alike h (standing-alike h) ts (λ q l. page-alike-self m (e q l))

  -- trees with some in the place of one of them
  pub splice-standing : (h i : ℕ) (cs ts : List (Tree h)) → ((q : ℕ) → 0 < sum (times q h) (take i ts) + sum (times q h) (drop (suc i) ts) → pages q ≡ pages' q)
      → All (Standing m pages h) ts → All (Standing m pages' h) cs → All (Standing m pages' h) (splice i cs ts)
  splice-standing h i cs ts e a new =
      all_append (Standing m pages' h) (take i ts) (cs ++ drop (suc i) ts)
      (all-standing h (take i ts) (λ q l. e q (omega arith)) (all_take (Standing m pages h) i ts a))
      (all_append (Standing m pages' h) cs (drop (suc i) ts) new
      (all-standing h (drop (suc i) ts) (λ q l. e q (omega arith)) (all_drop (Standing m pages h) (suc i) ts a)))

  pub set-standing : (h i : ℕ) (c : Tree h) (ts : List (Tree h)) → i < length ts
      → ((q : ℕ) → 0 < sum (times q h) (take i ts) + sum (times q h) (drop (suc i) ts) → pages q ≡ pages' q)
      → All (Standing m pages h) ts → Standing m pages' h c → All (Standing m pages' h) (set ts i c)
  set-standing h i c ts b e a new = subst (All (Standing m pages' h)) (splice-one i c ts b) (splice-standing h i (c ∷ []) ts e a (new, tt))
