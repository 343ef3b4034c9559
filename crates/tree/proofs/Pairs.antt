-- Two neighbours of a page whose tree stands in the pool: the page, the two and all other pages of the tree are apart,
-- so when words of the three change all else stands as it did; and what the words of the three become by numbers is
-- what the tree becomes.
-- Assumes nothing.
use mathlib.Core.Path.{◌≡◌, refl, sym, ap, ap₂, ◌∙◌}
use mathlib.Core.Bool.{true}
use mathlib.Core.Logic.{◌≢◌}
use mathlib.Core.List.{List, ◌∷◌, ◌++◌, map, append_assoc, map-append}
use Prim.Native.Nat.{ℕ, suc, ◌+◌, ◌≤◌, ◌<◌}
use native.Mathlib.Omega.{arith}
use lib.ListN.{length, take, drop, get_or, set}
use lib.Seq.{set_split, take-suc}
use Rattle.model.specs.Basics.{del, sum, same, All}
use Rattle.model.specs.Tree.{Entry, Tree, no_entry, no_node, times}
use Rattle.model.specs.Standing.{page_number, Standing}
use Rattle.model.specs.Insert.{cut_left, cut_right}
use Rattle.model.specs.Mend.{move, join, node_at, pair, mend}
use Rattle.lend.specs.Pages.{least, glued, MovesIn, page_in}
use Rattle.tree.specs.Remove.{Joined}
use Rattle.model.proofs.Cases.{same_self, same-zero}
use Rattle.model.proofs.Basics.{split-two, all_append, all_take, all_drop, map-del}
use Rattle.model.proofs.Sums.{sum-append}
use Rattle.model.proofs.Standing.{all-standing}
use Rattle.tree.proofs.Saying.{Says, says_holds, says-glue, says-left, says-right, root-holds, root_below, root-says, child-stands}
use Rattle.std.specs.Prelude.{Result}
use Rattle.page.specs.declared.Unsound.{Unsound}

-- ---- two neighbours

-- how often pages other than the three are met
abbrev around : (h : ℕ) → Tree (suc (suc h)) → ℕ → ℕ → ℕ
around h t j q =
    sum (times q (suc h)) (take j t.children)
    + (sum (times q h) (node_at t j).children + (sum (times q h) (node_at t (suc j)).children + sum (times q (suc h)) (drop (suc (suc j)) t.children)))

pub pair-met : (h : ℕ) (t : Tree (suc (suc h))) (j q : ℕ) → suc j < length t.children
    → times q (suc (suc h)) t ≡ same q t.page + (same q (node_at t j).page + (same q (node_at t (suc j)).page + around h t j q))
unfolding times
pair-met h t j q b =
    omega (
      arith,
      ap (sum (times q (suc h))) (split-two t.children j no_node b),
      sum-append (times q (suc h)) (take j t.children) (node_at t j ∷ node_at t (suc j) ∷ drop (suc (suc j)) t.children),
    )

module _ (h : ℕ) (t : Tree (suc (suc h))) (j : ℕ) (b : suc j < length t.children) (once : (q : ℕ) → times q (suc (suc h)) t ≤ 1) where
  pub pair-apart : (t.page ≢ (node_at t j).page) × (t.page ≢ (node_at t (suc j)).page) × ((node_at t j).page ≢ (node_at t (suc j)).page)
  pair-apart =
      let u : ℕ = t.page in
      let l : ℕ = (node_at t j).page in
      let r : ℕ = (node_at t (suc j)).page in (
        same-zero u l (omega (arith, same_self u, once u, pair-met h t j u b)),
        same-zero u r (omega (arith, same_self u, once u, pair-met h t j u b)),
        same-zero l r (omega (arith, same_self l, once l, pair-met h t j l b)),
      )

  pub pair-spared : (q : ℕ) → 0 < around h t j q → (q ≢ t.page) × (q ≢ (node_at t j).page) × (q ≢ (node_at t (suc j)).page)
  pair-spared q l = (
    same-zero q t.page (omega (arith, once q, pair-met h t j q b)),
    same-zero q (node_at t j).page (omega (arith, once q, pair-met h t j q b)),
    same-zero q (node_at t (suc j)).page (omega (arith, once q, pair-met h t j q b)),
  )

module _ (w : List ℕ) (h : ℕ) (t : Tree (suc (suc h))) (stands : Standing least (page_in w) (suc (suc h)) t)
    (forks : length t.children ≡ suc (length t.own)) (once : (q : ℕ) → times q (suc (suc h)) t ≤ 1) (j : ℕ) (inside : j < length t.own) where
  left-stands : Standing least (page_in w) (suc h) (node_at t j)
  left-stands = child-stands w (suc h) t stands forks j (omega arith)

  right-stands : Standing least (page_in w) (suc h) (node_at t (suc j))
  right-stands = child-stands w (suc h) t stands forks (suc j) inside

  glued-says : Says h (page_number h) (glued w t.page j (node_at t j).page (node_at t (suc j)).page) (pair t j)
  glued-says =
      says-glue h (page_number h) (root-says w h (node_at t j) left-stands)
      (ap (λ (es : List Entry). get_or es j no_entry) (root-holds w (suc h) t stands).own)
      (root-says w h (node_at t (suc j)) right-stands)

  -- the tree with others for the two, by page numbers
  numbers-two : (x y : Tree (suc h)) → x.page ≡ (node_at t j).page → y.page ≡ (node_at t (suc j)).page
      → map (page_number (suc h)) t.children ≡ map (page_number (suc h)) (take j t.children ++ x ∷ y ∷ drop (suc (suc j)) t.children)
  numbers-two x y ex ey =
      ap (map (page_number (suc h))) (split-two t.children j no_node (omega arith))
      ∙ simp (map-append, ex, ey)

  -- with one for the two
  numbers-one : (x : Tree (suc h)) → x.page ≡ (node_at t j).page
      → map (page_number (suc h)) (del (suc j) t.children) ≡ map (page_number (suc h)) (take j t.children ++ x ∷ drop (suc (suc j)) t.children)
  numbers-one x e =
      ap (λ (l : List (Tree (suc h))). map (page_number (suc h)) (l ++ drop (suc (suc j)) t.children)) (take-suc t.children j no_node (omega arith))
      ∙ simp (append_assoc, map-append, e)

  -- all that hangs around and below the two
  module _ (w' : List ℕ)
      (kept : (q : ℕ) → q ≢ t.page → q ≢ (node_at t j).page → q ≢ (node_at t (suc j)).page → page_in w' q ≡ page_in w q) where
    kept-around : (q : ℕ) → 0 < around h t j q → page_in w q ≡ page_in w' q
    kept-around q l = let s = pair-spared h t j (omega arith) once q l in sym (kept q s.0 s.1 s.2)

    before_stands : All (Standing least (page_in w') (suc h)) (take j t.children)
    before_stands =
        all-standing least (page_in w) (page_in w') (suc h) (take j t.children) (λ q l. kept-around q (omega arith))
        (all_take (Standing least (page_in w) (suc h)) j t.children (root_below w (suc h) t stands))

    after-stands : All (Standing least (page_in w') (suc h)) (drop (suc (suc j)) t.children)
    after-stands =
        all-standing least (page_in w) (page_in w') (suc h) (drop (suc (suc j)) t.children) (λ q l. kept-around q (omega arith))
        (all_drop (Standing least (page_in w) (suc h)) (suc (suc j)) t.children (root_below w (suc h) t stands))

    under-stands : All (Standing least (page_in w') h) (pair t j).children
    under-stands =
        all_append (Standing least (page_in w') h) (node_at t j).children (node_at t (suc j)).children
        (all-standing least (page_in w) (page_in w') h (node_at t j).children (λ q l. kept-around q (omega arith)) (root_below w h (node_at t j) left-stands))
        (all-standing least (page_in w) (page_in w') h (node_at t (suc j)).children (λ q l. kept-around q (omega arith)) (root_below w h (node_at t (suc j)) right-stands))

  -- one entry moved
  pub moved-stands : (n : ℕ) {w' : List ℕ} {a : Result (Unit {0}) Unsound} → MovesIn t.page j (node_at t j).page (node_at t (suc j)).page n true w w' a
      → Standing least (page_in w') (suc (suc h)) (mend (move j n) t)
  unfolding Standing mend
  moved-stands n {w'} m =
      let l : Tree (suc h) = node_at t j in
      let r : Tree (suc h) = node_at t (suc j) in
      let x : Tree (suc h) = cut_left n (pair t j) in
      let y : Tree (suc h) = cut_right r.page n (pair t j) in
      let kept : (q : ℕ) → q ≢ t.page → q ≢ l.page → q ≢ r.page → page_in w' q ≡ page_in w q = λ q nu nl nr. m.only.others q (nu, (nl, (nr, tt))) in
      let root = root-holds w (suc h) t stands in
      let top = rw root.height at (m.above refl) in
      let under = under-stands w' kept in (
        record {
          height = top.height;
          own = top.own
              ∙ ap₂ (λ (es : List Entry) (e : Entry). set es j e) root.own (ap (λ (es : List Entry). get_or es n no_entry) glued-says.own)
              ∙ set_split t.own j (get_or (pair t j).own n no_entry) inside;
          children = λ p. top.children p ∙ root.children p ∙ numbers-two x y refl refl;
        },
        all_append (Standing least (page_in w') (suc h)) (take j t.children) (x ∷ y ∷ drop (suc (suc j)) t.children) (before_stands w' kept) (
          (
            says_holds h (page_number h) (says-left h (page_number h) n glued-says) (rw (root-holds w h l left-stands).height at (m.left refl)),
            all_take (Standing least (page_in w') h) (suc n) (pair t j).children under,
          ),
          (
            (
              says_holds h (page_number h) (says-right h (page_number h) r.page n glued-says) (rw (root-holds w h r right-stands).height at (m.right refl)),
              all_drop (Standing least (page_in w') h) (suc n) (pair t j).children under,
            ),
            after-stands w' kept,
          ),
        ),
      )

  -- the two joined
  pub joined-stands : {w' : List ℕ} → Joined t.page j (node_at t j).page (node_at t (suc j)).page w w'
      → Standing least (page_in w') (suc (suc h)) (mend (join j) t)
  unfolding Standing mend
  joined-stands {w'} m =
      let l : Tree (suc h) = node_at t j in
      let r : Tree (suc h) = node_at t (suc j) in
      let kept : (q : ℕ) → q ≢ t.page → q ≢ l.page → q ≢ r.page → page_in w' q ≡ page_in w q = λ q nu nl nr. m.touches.others q (nu, (nl, tt)) in
      let root = root-holds w (suc h) t stands in
      let top = rw root.height at m.above in (
        record {
          height = top.height;
          own = top.own ∙ ap (del j) root.own;
          children = λ p. top.children p ∙ ap (del (suc j)) (root.children p) ∙ sym (map-del (page_number (suc h)) (suc j) t.children) ∙ numbers-one (pair t j) refl;
        },
        all_append (Standing least (page_in w') (suc h)) (take j t.children) (pair t j ∷ drop (suc (suc j)) t.children) (before_stands w' kept) (
          (says_holds h (page_number h) glued-says (rw (root-holds w h l left-stands).height at m.left), under-stands w' kept),
          after-stands w' kept,
        ),
      )
