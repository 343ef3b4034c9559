-- The tree of pages, by its number of levels: a page with its own entries and its children. A leaf is a tree of one
-- level, whose children are trees of no levels, so leaves and upper pages are one case, and the empty pool has the tree
-- of no levels.
-- Assumes nothing: these are definitions.
use Rattle.std.specs.Prelude.{◌≡◌, List, [], ◌∷◌, ◌++◌, ℕ, zero, suc, ◌+◌, ◌≤◌, ◌<◌, length}
use Rattle.model.specs.Basics.{sum, All, same}
use Rattle.model.specs.Layout.{most_entries}

pub record Entry : Type 0 where
  pub key : ℕ
  pub value : ℕ

abbrev pub entry : ℕ → ℕ → Entry
entry k v = record { key = k; value = v }

pub record Node (S : Type 0) : Type 0 where
  pub page : ℕ
  pub own : List Entry
  pub children : List S

abbrev pub Tree : ℕ → Type 0
Tree zero = Unit {0}
Tree (suc h) = Node (Tree h)

-- what stands for an entry, a page or a child that is not there
abbrev pub no_entry : Entry
no_entry = entry 0 0

abbrev pub no_node : {S : Type 0} → Node S
no_node = record { page = 0; own = []; children = [] }

abbrev pub no_tree : (h : ℕ) → Tree h
no_tree zero = tt
no_tree (suc h) = no_node

-- walking order: what child 0 holds, entry 0, what child 1 holds, entry 1, .. `f` says what a child holds
abbrev pub weave : {S A : Type 0} → (S → List A) → List S → List A → List A
weave f [] es = es
weave f (s ∷ ss) [] = f s
weave f (s ∷ ss) (e ∷ es) = f s ++ e ∷ weave f ss es

abbrev pub holds : {S : Type 0} → (S → List Entry) → Node S → List Entry
holds f n = weave f n.children n.own

unfoldable pub entries : (h : ℕ) → Tree h → List Entry
entries zero t = []
entries (suc h) t = holds (entries h) t

abbrev pub size : (h : ℕ) → Tree h → ℕ
size h t = length (entries h t)

-- how often walking meets page p. `f` says how often below a child
abbrev pub passes : {S : Type 0} → ℕ → (S → ℕ) → Node S → ℕ
passes p f n = same p n.page + sum f n.children

unfoldable pub times : ℕ → (h : ℕ) → Tree h → ℕ
times p zero t = zero
times p (suc h) t = passes p (times p h) t

-- keys strictly rise: each is below all after it
abbrev pub Rising : List Entry → Type 0
Rising [] = Unit {0}
Rising (e ∷ es) = All (λ x. e.key < x.key) es × Rising es

-- a page with c entries has c + 1 children; it holds `low` to 2m + 1 entries, and each child is as `Child` says
pub record Filled (m low : ℕ) {S : Type 0} (Child : S → Type 0) (n : Node S) : Type 0 where
  pub forks : length n.children ≡ suc (length n.own)
  pub few : low ≤ length n.own
  pub many : length n.own ≤ most_entries m
  pub below : All Child n.children

-- the root holds at least `low` entries, every other page at least m
unfoldable pub Shaped : ℕ → ℕ → (h : ℕ) → Tree h → Type 0
Shaped m low zero t = Unit {0}
Shaped m low (suc h) t = Filled m low (Shaped m m h) t

-- a whole tree, with its number of levels
pub record Whole : Type 0 where
  pub levels : ℕ
  pub tree : Tree levels

unfoldable pub held : Whole → List Entry
held x = entries x.levels x.tree

unfoldable pub meets : ℕ → Whole → ℕ
meets p x = times p x.levels x.tree

-- the root holds 1 to 2m + 1 entries, every other page m to 2m + 1
unfoldable pub Formed : ℕ → Whole → Type 0
Formed m x = Shaped m 1 x.levels x.tree
