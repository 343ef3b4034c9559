-- One mending of a page's child that has an entry too few: what the page holds stays, the pages met stay but for the
-- one that is freed, and the page and its children are filled again. Over any type S of what hangs below the two
-- neighbours, so no levels occur here.
-- Assumes nothing.
use mathlib.Core.Path.{◌≡◌, refl, sym, ap, ap₂, ◌∙◌}
use mathlib.Core.List.{List, ◌∷◌, ◌++◌}
use Prim.Native.Nat.{ℕ, zero, suc, ◌+◌, ◌-◌, ◌≤◌, ◌<◌}
use native.Mathlib.Omega.{arith}
use lib.ListN.{length, take, drop, get_or, length-append, length-take, length-drop}
use lib.Seq.{split_at}
use borrow.Author.Tests.{le-leb, lt-leb, lt-ltb, le-ltb}
use Rattle.model.specs.Basics.{sum, same, All}
use Rattle.model.specs.Layout.{most_entries}
use Rattle.model.specs.Tree.{Entry, Node, no_entry, no_node, weave, holds, passes, Filled}
use Rattle.model.specs.Insert.{cut_left, cut_right}
use Rattle.model.specs.Mend.{Plan, keep, move, join, from_right, repair, plan, glue, node_at, count, pair, mend}
use Rattle.model.specs.Freed.{spare}
use Rattle.model.proofs.Cases.{either-le, either_lt}
use Rattle.model.proofs.Basics.{split-two, all_append, all-last, all_first, all-around}
use Rattle.model.proofs.Sums.{sum-append}
use Rattle.model.proofs.Weave.{weave-cut, weave-under, weave-join}
use Rattle.model.proofs.Cut.{cut_holds, cut-passes, cut-left-filled, cut-right-filled}

-- ---- two pages glued with the entry between them

module _ {S : Type 0} where
  pub glue-holds : (f : S → List Entry) (l : Node S) (e : Entry) (r : Node S) → length l.children ≡ suc (length l.own)
      → holds f (glue l e r) ≡ holds f l ++ e ∷ holds f r
  glue-holds f l e r k = weave-cut f l.children l.own e r.children r.own k

  pub glue-passes : (p : ℕ) (f : S → ℕ) (l : Node S) (e : Entry) (r : Node S) → passes p f (glue l e r) + same p r.page ≡ passes p f l + passes p f r
  glue-passes p f l e r = omega (arith, sum-append f l.children r.children)

-- a page that holds enough holds enough for less
pub filled-loosen : {S : Type 0} {m low : ℕ} {Q : S → Type 0} {x : Node S} (low' : ℕ) → low' ≤ low → Filled m low Q x → Filled m low' Q x
filled-loosen low' h r = record { forks = r.forks; few = omega arith; many = r.many; below = r.below }

-- ---- a plan that can be carried out

module _ {S : Type 0} (Q : S → Type 0) (m : ℕ) (t : Node (Node S)) where
  -- neighbours j and j + 1 may have any number of entries; all other children are as they should be
  pub record Pair (j : ℕ) : Type 0 where
    pub inside : j < length t.own
    pub before : All (Filled m m Q) (take j t.children)
    pub left : Filled m 0 Q (node_at t j)
    pub right : Filled m 0 Q (node_at t (suc j))
    pub after : All (Filled m m Q) (drop (suc (suc j)) t.children)

  -- child i may have one entry too few
  pub record Loose (i : ℕ) : Type 0 where
    pub inside : i ≤ length t.own
    pub some : 1 ≤ length t.own
    pub before : All (Filled m m Q) (take i t.children)
    pub mid : Filled m (m - 1) Q (node_at t i)
    pub after : All (Filled m m Q) (drop (suc i) t.children)

  -- what a plan needs: the counts that it leaves are in range
  abbrev pub Able : Plan → Type 0
  Able keep = All (Filled m m Q) t.children
  Able (move j n) =
      Pair j × (m ≤ n) × (n ≤ most_entries m) × (n + m ≤ count t j + count t (suc j)) × (count t j + count t (suc j) ≤ n + most_entries m)
  Able (join j) = Pair j × (m ≤ suc (count t j + count t (suc j))) × (suc (count t j + count t (suc j)) ≤ most_entries m)

module _ {S : Type 0} (Q : S → Type 0) (m : ℕ) (t : Node (Node S)) (forks : length t.children ≡ suc (length t.own)) where
  -- the page around its children j and j + 1
  two : (j : ℕ) → j < length t.own → take j t.children ++ node_at t j ∷ node_at t (suc j) ∷ drop (suc (suc j)) t.children ≡ t.children
  two j h = sym (split-two t.children j no_node (omega arith))

  -- what the page holds, once something that is woven alike stands for the two and what is behind them
  under : (F : Node S → List Entry) (j : ℕ) (ss : List (Node S)) (es : List Entry) → j < length t.own
      → weave F ss es ≡ weave F (node_at t j ∷ node_at t (suc j) ∷ drop (suc (suc j)) t.children) (get_or t.own j no_entry ∷ drop (suc j) t.own)
      → weave F (take j t.children ++ ss) (take j t.own ++ es) ≡ holds F t
  under F j ss es h q =
      weave-under F (take j t.children) (take j t.own) ss es _ _ (simp length-take (omega arith)) q
      ∙ ap₂ (weave F) (two j h) (sym (split_at t.own j no_entry h))

  -- ---- the pair as one page

  pair-holds : (f : S → List Entry) (j : ℕ) → Pair Q m t j
      → holds f (pair t j) ≡ holds f (node_at t j) ++ get_or t.own j no_entry ∷ holds f (node_at t (suc j))
  pair-holds f j a = glue-holds f (node_at t j) (get_or t.own j no_entry) (node_at t (suc j)) a.left.forks

  pair-own : (j : ℕ) → length (pair t j).own ≡ suc (count t j + count t (suc j))
  pair-own j = simp length-append (omega arith)

  pair-forks : (j : ℕ) → Pair Q m t j → length (pair t j).children ≡ suc (length (pair t j).own)
  pair-forks j a = simp length-append (omega (arith, a.left.forks, a.right.forks))

  pair-all : (j : ℕ) → Pair Q m t j → All Q (pair t j).children
  pair-all j a = all_append Q (node_at t j).children (node_at t (suc j)).children a.left.below a.right.below

  -- FIRST LAW: mending changes nothing of what the page holds
  pub mend-holds : (f : S → List Entry) (p : Plan) → Able Q m t p → holds (holds f) (mend p t) ≡ holds (holds f) t
  unfolding mend
  mend-holds f keep a = refl
  mend-holds f (join j) a =
      under (holds f) j (pair t j ∷ drop (suc (suc j)) t.children) (drop (suc j) t.own) a.0.inside
      (weave-join (holds f) (pair t j) (node_at t j) (get_or t.own j no_entry) (node_at t (suc j)) (drop (suc (suc j)) t.children) (drop (suc j) t.own)
      (pair-holds f j a.0))
  mend-holds f (move j n) a =
      let x : Node S = pair t j in
      let q : ℕ = (node_at t (suc j)).page in
      let ss : List (Node S) = drop (suc (suc j)) t.children in
      let es : List Entry = drop (suc j) t.own in
      under (holds f) j (cut_left n x ∷ cut_right q n x ∷ ss) (get_or x.own n no_entry ∷ es) a.0.inside
      (sym (weave-join (holds f) x (cut_left n x) (get_or x.own n no_entry) (cut_right q n x) ss es
      (cut_holds f q n x (pair-forks j a.0) (omega (arith, pair-own j))))
      ∙ weave-join (holds f) x (node_at t j) (get_or t.own j no_entry) (node_at t (suc j)) ss es (pair-holds f j a.0))

  -- SECOND LAW: the pages met are the same but for the one that is freed
  pub mend-passes : (q : ℕ) (f : S → ℕ) (p : Plan) → Able Q m t p
      → passes q (passes q f) (mend p t) + sum (same q) (spare p t) ≡ passes q (passes q f) t
  unfolding mend spare
  mend-passes q f keep a = omega arith
  mend-passes q f (join j) a =
      let front : List (Node S) = take j t.children in
      let back : List (Node S) = drop (suc (suc j)) t.children in
      omega (
        arith,
        ap (sum (passes q f)) (two j a.0.inside),
        sum-append (passes q f) front (node_at t j ∷ node_at t (suc j) ∷ back),
        sum-append (passes q f) front (pair t j ∷ back),
        glue-passes q f (node_at t j) (get_or t.own j no_entry) (node_at t (suc j)),
      )
  mend-passes q f (move j n) a =
      let front : List (Node S) = take j t.children in
      let back : List (Node S) = drop (suc (suc j)) t.children in
      let r : ℕ = (node_at t (suc j)).page in
      omega (
        arith,
        ap (sum (passes q f)) (two j a.0.inside),
        sum-append (passes q f) front (node_at t j ∷ node_at t (suc j) ∷ back),
        sum-append (passes q f) front (cut_left n (pair t j) ∷ cut_right r n (pair t j) ∷ back),
        glue-passes q f (node_at t j) (get_or t.own j no_entry) (node_at t (suc j)),
        cut-passes q f r n (pair t j),
      )

  -- THIRD LAW: the page is filled again, with the same entries or one less
  pub mend-filled : (low : ℕ) (p : Plan) → Able Q m t p → low ≤ length t.own → length t.own ≤ most_entries m
      → Filled m (low - 1) (Filled m m Q) (mend p t)
  unfolding mend
  mend-filled low keep a l u = record { forks = forks; few = omega arith; many = u; below = a }
  mend-filled low (join j) a l u =
      let inside : j < length t.own = a.0.inside in
      record {
        forks = simp (length-append, length-take, length-drop) (omega arith);
        few = simp (length-append, length-take, length-drop) (omega arith);
        many = simp (length-append, length-take, length-drop) (omega arith);
        below = all_append (Filled m m Q) (take j t.children) (pair t j ∷ drop (suc (suc j)) t.children) a.0.before (
          record { forks = pair-forks j a.0; few = omega (arith, pair-own j); many = omega (arith, pair-own j); below = pair-all j a.0 },
          a.0.after,
        );
      }
  mend-filled low (move j n) a l u =
      let inside : j < length t.own = a.0.inside in
      let x : Node S = pair t j in
      let q : ℕ = (node_at t (suc j)).page in
      let xk : length x.children ≡ suc (length x.own) = pair-forks j a.0 in
      let xe : length x.own ≡ suc (count t j + count t (suc j)) = pair-own j in
      record {
        forks = simp (length-append, length-take, length-drop) (omega arith);
        few = simp (length-append, length-take, length-drop) (omega arith);
        many = simp (length-append, length-take, length-drop) (omega arith);
        below = all_append (Filled m m Q) (take j t.children) (cut_left n x ∷ cut_right q n x ∷ drop (suc (suc j)) t.children) a.0.before (
          cut-left-filled Q m n x xk (pair-all j a.0) (omega arith) (omega arith) (omega arith),
          (cut-right-filled Q m q n x xk (pair-all j a.0) (omega arith) (omega arith) (omega arith), a.0.after),
        );
      }

  -- ---- the plan for a child with one entry too few can be carried out

  right-pair : (i : ℕ) → Loose Q m t i → i < length t.own → Pair Q m t i
  right-pair i a h =
      let r = all_first (Filled m m Q) (suc i) t.children no_node (omega arith) a.after in
      record { inside = h; before = a.before; left = filled-loosen 0 (omega arith) a.mid; right = filled-loosen 0 (omega arith) r.0; after = r.1 }

  left-pair : (j : ℕ) → Loose Q m t (suc j) → Pair Q m t j
  left-pair j a =
      let r = all-last (Filled m m Q) j t.children no_node (omega (arith, a.inside)) a.before in
      record { inside = a.inside; before = r.0; left = filled-loosen 0 (omega arith) r.1; right = filled-loosen 0 (omega arith) a.mid; after = a.after }

  right-able : (i : ℕ) (other : Plan) → Loose Q m t i → count t i < m
      → (length t.own ≤ i → Able Q m t other) → (i < length t.own → count t (suc i) ≤ m → Able Q m t other)
      → Able Q m t (from_right m (length t.own) (count t) i other)
  unfolding from_right
  right-able i other a h last poor =
      either_lt i (length t.own)
      (λ y. rw (lt-ltb i (length t.own) y) (either_lt m (count t (suc i))
      (λ z.
      let r : Pair Q m t i = right-pair i a y in
      rw (lt-ltb m (count t (suc i)) z) (r, omega arith, omega arith, omega arith, omega arith))
      (λ z. rw (le-ltb m (count t (suc i)) z) (poor y z))))
      (λ n. rw (le-ltb i (length t.own) n) (last n))

  repair-able : (i : ℕ) → Loose Q m t i → count t i < m → Able Q m t (repair m (length t.own) (count t) i)
  unfolding repair
  repair-able zero a h =
      right-able zero (join zero) a h (λ n. absurd (omega (arith, a.some)))
      (λ y n. let r : Pair Q m t zero = right-pair zero a y in (r, omega arith, omega arith))
  repair-able (suc j) a h =
      let r : Pair Q m t j = left-pair j a in
      either_lt m (count t j)
      (λ y. rw (lt-ltb m (count t j) y) (r, omega arith, omega arith, omega arith, omega arith))
      (λ n.
      let joins : Able Q m t (join j) = (r, omega arith, omega arith) in
      rw (le-ltb m (count t j) n) (right-able (suc j) (join j) a h (λ _. joins) (λ _ _. joins)))

  pub plan-able : (i : ℕ) → Loose Q m t i → Able Q m t (plan m (length t.own) (count t) i)
  unfolding plan
  plan-able i a =
      either-le m (count t i)
      (λ y. rw (le-leb m (count t i) y)
      (all-around (Filled m m Q) i t.children no_node (omega (arith, a.inside)) a.before
      (record { forks = a.mid.forks; few = y; many = a.mid.many; below = a.mid.below }) a.after))
      (λ n. rw (lt-leb m (count t i) n) (repair-able i a n))
