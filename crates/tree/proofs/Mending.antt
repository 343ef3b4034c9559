-- A page of a tree in the pool, of which one child may have one entry too few: the plan by the words is the plan of the
-- tree, what it asks holds, and the tree that it leaves stands in the words.
-- Assumes nothing.
use mathlib.Core.Path.{◌≡◌, refl, sym, ap, subst, ◌∙◌}
use mathlib.Core.Bool.{true}
use mathlib.Core.Logic.{◌≢◌}
use mathlib.Core.List.{List, [], ◌∷◌, map}
use Prim.Native.Nat.{ℕ, suc, pred, ◌+◌, ◌-◌, ◌*◌, ◌/◌, ◌≤◌, ◌<◌}
use native.Mathlib.Omega.{arith}
use lib.Dec.{leb, ltb}
use lib.ListN.{length, take, drop, get_or, length-map, length-take, length-drop}
use lib.Seq.{get_or-take, get_or-drop}
use borrow.Author.Tests.{le-leb, lt-ltb, ne_eqb}
use Rattle.std.specs.Prelude.{Ok, Result}
use Rattle.model.specs.Basics.{sum, same, All, every}
use Rattle.model.specs.Layout.{pages_in, today}
use Rattle.model.specs.PageMap.{bit_at}
use Rattle.model.specs.Tree.{Node, Tree, no_node, times, Filled, Shaped}
use Rattle.model.specs.Page.{count_of}
use Rattle.model.specs.Standing.{page_number, Standing}
use Rattle.model.specs.Mend.{Plan, keep, move, join, plan, node_at, count, mend}
use Rattle.model.specs.Freed.{spare}
use Rattle.model.specs.Remove.{plan_at}
use Rattle.page.specs.Page.{holds_at, room_at}
use Rattle.lend.specs.Pages.{least, most, are_apart, can_give, can_get, can_pass, can_join, MovesIn, page_in, map_in}
use Rattle.tree.specs.declared.remove.Mending.TheVariants as mending
use Rattle.tree.specs.Search.{below_of}
use Rattle.tree.specs.Insert.{Marked}
use Rattle.tree.specs.Remove.{count_below, Plans, MovesLeft, MovesRight, Joined, JoinsBelow, near, Mended, Mends}
use Rattle.model.proofs.Cases.{either_lt, same_self}
use Rattle.model.proofs.Basics.{all_map, all-around, all-at, get_or_map, every-all}
use Rattle.model.proofs.PageMap.{bit_at-past}
use Rattle.model.proofs.Mend.{filled-loosen, Loose, Able, plan-able}
use Rattle.pagemap.proofs.Map.{clear-bits, bit_at-le}
use Rattle.page.proofs.Pages.{room-at, holds_at_lem}
use Rattle.lend.proofs.Touching.{touches_none, touches-wider, only-touches, only-map, front-head}
use Rattle.tree.proofs.Saying.{root-count, child-stands, child-found}
use Rattle.tree.proofs.Planning.{count-found, plan-same, Acts, plan-acts}
use Rattle.tree.proofs.Pairs.{pair-met, pair-apart, moved-stands, joined-stands}
use Rattle.page.specs.declared.Unsound.{Unsound}

-- child i and its neighbours are near child i
near-at : {S : Type 0} (P : ℕ → Type 0) (f : S → ℕ) (i j : ℕ) (l : List S) (d : S) → i ≤ suc j → j ≤ suc i → j < length l → All P (map f (near i l)) → P (f (get_or l j d))
near-at P f i j l d low high b a =
    let k : ℕ = j - pred i in
    let long : k < length (near i l) = simp (length-drop, length-take) (omega arith) in
    let place : pred i + k ≡ j = omega arith in
    let here : get_or (map f (near i l)) k 0 ≡ f (get_or l j d) =
    get_or_map f (near i l) k d 0 long ∙ ap f (get_or-drop (pred i) (take (suc (suc i)) l) k d ∙ ap (λ (n : ℕ). get_or (take (suc (suc i)) l) n d) place ∙ get_or-take (suc (suc i)) l j d (omega arith)) in
    subst P here (all-at P (map f (near i l)) k 0 (rw (length-map (near i l) f) long) a)

-- each child has at most one entry too few
loose-child : {S : Type 0} (Q : S → Type 0) (m : ℕ) (t : Node (Node S)) (i : ℕ) → length t.children ≡ suc (length t.own) → Loose Q m t i
    → (j : ℕ) → j ≤ length t.own → Filled m (m - 1) Q (node_at t j)
loose-child Q m t i forks a j b =
    let loosen : (x : Node _) → Filled m m Q x → Filled m (m - 1) Q x = λ x f. filled-loosen (m - 1) (omega arith) f in
    all-at (Filled m (m - 1) Q) t.children j no_node (omega arith)
    (all-around (Filled m (m - 1) Q) i t.children no_node (omega (arith, a.inside))
    (all_map (Filled m m Q) (Filled m (m - 1) Q) (take i t.children) loosen a.before)
    a.mid
    (all_map (Filled m m Q) (Filled m (m - 1) Q) (drop (suc i) t.children) loosen a.after))

apart-true : (u l r : ℕ) → u ≢ l → u ≢ r → l ≢ r → every (are_apart u l r) ≡ true
apart-true u l r a b c = simp (ne_eqb u l a, ne_eqb u r b, ne_eqb l r c)

module _ (w : List ℕ) (h : ℕ) (t : Tree (suc (suc h))) (i : ℕ) (stands : Standing least (page_in w) (suc (suc h)) t)
    (forks : length t.children ≡ suc (length t.own)) (few : length t.own ≤ most) (loose : Loose (Shaped least least h) least t i)
    (marked : Marked w (suc (suc h)) t) (inside : (q : ℕ) → 0 < times q (suc (suc h)) t → q < pages_in today (length w)) where
  once : (q : ℕ) → times q (suc (suc h)) t ≤ 1
  once q = omega (arith, marked q, bit_at-le (map_in w) q)

  child-below : (j : ℕ) → j ≤ length t.own → below_of w t.page j ≡ Ok (node_at t j).page
  child-below j b = child-found w (suc h) t stands forks j b (omega arith) (omega arith) inside

  -- a child's count by its own words, and by the page's
  own-count : (j : ℕ) → j ≤ length t.own → count_of (page_in w (node_at t j).page) ≡ count t j
  own-count j b = root-count w h (node_at t j) (child-stands w (suc h) t stands forks j b)

  child-count : (j : ℕ) → j ≤ length t.own → count_below w t.page j ≡ count t j
  child-count j b = count-found w t.page j (node_at t j).page (child-below j b) ∙ own-count j b

  -- the plan by the words is the plan of the tree
  plan-is : plan least (count_of (page_in w t.page)) (count_below w t.page) i ≡ plan_at least h t i
  plan-is = rw (root-count w (suc h) t stands) (plan-same least (length t.own) (count_below w t.page) (count t) child-count i loose.inside)

  able : (p : Plan) → p ≡ plan_at least h t i → Able (Shaped least least h) least t p
  able p e = subst (Able (Shaped least least h) least t) (sym e) (plan-able (Shaped least least h) least t forks i loose)

  acts : (p : Plan) → p ≡ plan_at least h t i → Acts i p
  acts p e = subst (Acts i) (sym e) (plan-acts least (length t.own) (count t) i)

  -- the tests: pages apart, and counts in range
  module _ (j : ℕ) (b : j < length t.own) where
    three-apart : every (are_apart t.page (node_at t j).page (node_at t (suc j)).page) ≡ true
    three-apart = let a = pair-apart h t j (omega arith) once in apart-true t.page (node_at t j).page (node_at t (suc j)).page a.0 a.1 a.2

    can-give : Able (Shaped least least h) least t (move j (count t j - 1)) → can_give w t.page j (node_at t j).page (node_at t (suc j)).page ≡ true
    unfolding can_pass
    can-give a =
        let u : ℕ = t.page in
        let l : ℕ = (node_at t j).page in
        let r : ℕ = (node_at t (suc j)).page in
        let cu : count_of (page_in w u) ≡ length t.own = root-count w (suc h) t stands in
        let cl : count_of (page_in w l) ≡ count t j = own-count j (omega arith) in
        let cr : count_of (page_in w r) ≡ count t (suc j) = own-count (suc j) b in
        let many : count t j ≤ most = a.0.left.many in
        every-all (every (are_apart u l r) ∷ holds_at most (page_in w u) j 0 ∷ holds_at most (page_in w l) (count_of (page_in w l) - 1) (count_of (page_in w l)) ∷ room_at most (page_in w r) 0 0 ∷ []) (
          three-apart,
          (
            holds_at_lem most (page_in w u) j 0 (omega arith) (omega arith) (omega arith),
            (
              holds_at_lem most (page_in w l) (count_of (page_in w l) - 1) (count_of (page_in w l)) (omega arith) (omega arith) (omega arith),
              (room-at most (page_in w r) 0 0 (omega arith) (omega arith) (omega arith) (omega arith), tt),
            ),
          ),
        )

    can-get : Able (Shaped least least h) least t (move j (suc (count t j))) → can_get w t.page j (node_at t j).page (node_at t (suc j)).page ≡ true
    unfolding can_pass
    can-get a =
        let u : ℕ = t.page in
        let l : ℕ = (node_at t j).page in
        let r : ℕ = (node_at t (suc j)).page in
        let cu : count_of (page_in w u) ≡ length t.own = root-count w (suc h) t stands in
        let cl : count_of (page_in w l) ≡ count t j = own-count j (omega arith) in
        let cr : count_of (page_in w r) ≡ count t (suc j) = own-count (suc j) b in
        let many : count t (suc j) ≤ most = a.0.right.many in
        let n = pair-apart h t j (omega arith) once in
        every-all (every (are_apart u r l) ∷ holds_at most (page_in w u) j 0 ∷ holds_at most (page_in w r) 0 0 ∷ room_at most (page_in w l) (count_of (page_in w l)) (suc (count_of (page_in w l))) ∷ []) (
          apart-true u r l n.1 n.0 (λ e. n.2 (sym e)),
          (
            holds_at_lem most (page_in w u) j 0 (omega arith) (omega arith) (omega arith),
            (
              holds_at_lem most (page_in w r) 0 0 (omega arith) (omega arith) (omega arith),
              (room-at most (page_in w l) (count_of (page_in w l)) (suc (count_of (page_in w l))) (omega arith) (omega arith) (omega arith) (omega arith), tt),
            ),
          ),
        )

    can-join : Able (Shaped least least h) least t (join j) → can_join w t.page j (node_at t j).page (node_at t (suc j)).page ≡ true
    unfolding can_join
    can-join a =
        let u : ℕ = t.page in
        let l : ℕ = (node_at t j).page in
        let r : ℕ = (node_at t (suc j)).page in
        let cu : count_of (page_in w u) ≡ length t.own = root-count w (suc h) t stands in
        let cl : count_of (page_in w l) ≡ count t j = own-count j (omega arith) in
        let cr : count_of (page_in w r) ≡ count t (suc j) = own-count (suc j) b in
        let some_left : 3 ≤ count t j = (loose-child (Shaped least least h) least t i forks loose j (omega arith)).few in
        let some_right : 3 ≤ count t (suc j) = (loose-child (Shaped least least h) least t i forks loose (suc j) b).few in
        every-all (every (are_apart u l r) ∷ holds_at most (page_in w u) j (suc j) ∷ leb 1 (count_of (page_in w l)) ∷ leb 1 (count_of (page_in w r)) ∷ ltb (count_of (page_in w l) + count_of (page_in w r)) most ∷ []) (
          three-apart,
          (
            holds_at_lem most (page_in w u) j (suc j) (omega arith) (omega arith) (omega arith),
            (
              le-leb 1 (count_of (page_in w l)) (omega arith),
              (le-leb 1 (count_of (page_in w r)) (omega arith), (lt-ltb (count_of (page_in w l) + count_of (page_in w r)) most (omega arith), tt)),
            ),
          ),
        )

  -- the two pages are among those that may change
  near-two : (j : ℕ) → j < length t.own → j ≤ i → i ≤ suc j → (q : ℕ) → All (λ p. q ≢ p) (map (page_number (suc h)) (near i t.children))
      → (q ≢ (node_at t j).page) × (q ≢ (node_at t (suc j)).page)
  near-two j b low high q a = (
    near-at (λ p. q ≢ p) (page_number (suc h)) i j t.children no_node high (omega arith) (omega arith) a,
    near-at (λ p. q ≢ p) (page_number (suc h)) i (suc j) t.children no_node (omega arith) (omega arith) (omega arith) a,
  )

  kept-mended : keep ≡ plan_at least h t i → Mended h t i w w
  unfolding mend spare
  kept-mended e = record {
    stands = subst (λ (p : Plan). Standing least (page_in w) (suc (suc h)) (mend p t)) e stands;
    bits = λ q. subst (λ (p : Plan). bit_at (map_in w) q + sum (same q) (spare p t) ≡ bit_at (map_in w) q) e (omega arith);
    touches = touches_none (t.page ∷ map (page_number (suc h)) (near i t.children)) refl;
  }

  moved-mended : (j n : ℕ) {w' : List ℕ} {a : Result (Unit {0}) Unsound} → move j n ≡ plan_at least h t i
      → MovesIn t.page j (node_at t j).page (node_at t (suc j)).page n true w w' a → Mended h t i w w'
  unfolding spare
  moved-mended j n {w'} e m =
      let b : j < length t.own = (able (move j n) e).0.inside in
      let s = acts (move j n) e in
      record {
        stands = subst (λ (p : Plan). Standing least (page_in w') (suc (suc h)) (mend p t)) e (moved-stands w h t stands forks once j b n m);
        bits = λ q. subst (λ (p : Plan). bit_at (map_in w') q + sum (same q) (spare p t) ≡ bit_at (map_in w) q) e (omega (arith, ap (λ (ws : List ℕ). bit_at ws q) (only-map m.only)));
        touches = touches-wider (t.page ∷ map (page_number (suc h)) (near i t.children)) (only-touches m.only)
            (λ q a. let two = near-two j b s.0 s.1 q a.1 in (a.0, (two.0, (two.1, tt))));
      }

  joined-mended : (j : ℕ) {w' : List ℕ} → join j ≡ plan_at least h t i → Joined t.page j (node_at t j).page (node_at t (suc j)).page w w' → Mended h t i w w'
  unfolding spare
  joined-mended j {w'} e m =
      let b : j < length t.own = (able (join j) e).0.inside in
      let s = acts (join j) e in
      let r : ℕ = (node_at t (suc j)).page in
      let taken : bit_at (map_in w) r ≡ 1 = omega (arith, marked r, bit_at-le (map_in w) r, pair-met h t j r (omega arith), same_self r) in
      let place : r / 64 < length (map_in w) = either_lt r (64 * length (map_in w)) (λ l. omega arith) (λ l. absurd (omega (arith, bit_at-past (map_in w) r l))) in
      record {
        stands = subst (λ (p : Plan). Standing least (page_in w') (suc (suc h)) (mend p t)) e (joined-stands w h t stands forks once j b m);
        bits = λ q. subst (λ (p : Plan). bit_at (map_in w') q + sum (same q) (spare p t) ≡ bit_at (map_in w) q) e
            (omega (arith, ap (λ (ws : List ℕ). bit_at ws q) m.map, clear-bits (map_in w) r place taken q));
        touches = touches-wider (t.page ∷ map (page_number (suc h)) (near i t.children)) m.touches
            (λ q a. let two = near-two j b s.0 s.1 q a.1 in (a.0, (two.0, tt)));
      }

  -- ---- each of the words' plans

  keep-mended : Plans w t.page i mending.Keep → Mended h t i w w
  keep-mended p = kept-mended (p ∙ plan-is)

  left-mended : (j : ℕ) (w' : List ℕ) → Plans w t.page i (mending.Left j) → MovesLeft t.page j w w' → Mended h t i w w'
  left-mended j w' p m =
      let b : j < length t.own = (able (move j (count_below w t.page j - 1)) (p ∙ plan-is)).0.inside in
      let plans : move j (count t j - 1) ≡ plan_at least h t i = rw (child-count j (omega arith)) at (p ∙ plan-is) in
      moved-mended j (count t j - 1) plans
      (rw (own-count j (omega arith)) at (m.moves (node_at t j).page (node_at t (suc j)).page (child-below j (omega arith)) (child-below (suc j) b)
      (can-give j b (able (move j (count t j - 1)) plans))))

  right-mended : (j : ℕ) (w' : List ℕ) → Plans w t.page i (mending.Right j) → MovesRight t.page j w w' → Mended h t i w w'
  right-mended j w' p m =
      let b : j < length t.own = (able (move j (suc (count_below w t.page j))) (p ∙ plan-is)).0.inside in
      let plans : move j (suc (count t j)) ≡ plan_at least h t i = rw (child-count j (omega arith)) at (p ∙ plan-is) in
      moved-mended j (suc (count t j)) plans
      (rw (own-count j (omega arith)) at (m.moves (node_at t j).page (node_at t (suc j)).page (child-below j (omega arith)) (child-below (suc j) b)
      (can-get j b (able (move j (suc (count t j))) plans))))

  join-mended : (j : ℕ) (w' : List ℕ) → Plans w t.page i (mending.Join j) → JoinsBelow t.page j w w' → Mended h t i w w'
  join-mended j w' p m =
      let fit = able (join j) (p ∙ plan-is) in
      let b : j < length t.own = fit.0.inside in
      joined-mended j (p ∙ plan-is)
      (m.joins (node_at t j).page (node_at t (suc j)).page (child-below j (omega arith)) (child-below (suc j) b) (can-join j b fit))

pub mends-keep : (u i : ℕ) (w : List ℕ) → Plans w u i mending.Keep → Mends u i w w
mends-keep u i w p = record {
  long = refl;
  head = refl;
  mended = λ h t e stands forks few loose marked inside.
      keep-mended w h t i stands forks few loose marked inside (subst (λ (v : ℕ). Plans w v i mending.Keep) (sym e) p);
}

pub mends-left : (u i j : ℕ) (w w' : List ℕ) → Plans w u i (mending.Left j) → MovesLeft u j w w' → Mends u i w w'
mends-left u i j w w' p m = record {
  long = m.long;
  head = front-head w w' m.front;
  mended = λ h t e stands forks few loose marked inside.
      left-mended w h t i stands forks few loose marked inside j w'
      (subst (λ (v : ℕ). Plans w v i (mending.Left j)) (sym e) p) (subst (λ (v : ℕ). MovesLeft v j w w') (sym e) m);
}

pub mends-right : (u i j : ℕ) (w w' : List ℕ) → Plans w u i (mending.Right j) → MovesRight u j w w' → Mends u i w w'
mends-right u i j w w' p m = record {
  long = m.long;
  head = front-head w w' m.front;
  mended = λ h t e stands forks few loose marked inside.
      right-mended w h t i stands forks few loose marked inside j w'
      (subst (λ (v : ℕ). Plans w v i (mending.Right j)) (sym e) p) (subst (λ (v : ℕ). MovesRight v j w w') (sym e) m);
}

pub mends-join : (u i j : ℕ) (w w' : List ℕ) → Plans w u i (mending.Join j) → JoinsBelow u j w w' → Mends u i w w'
mends-join u i j w w' p m = record {
  long = m.long;
  head = m.head;
  mended = λ h t e stands forks few loose marked inside.
      join-mended w h t i stands forks few loose marked inside j w'
      (subst (λ (v : ℕ). Plans w v i (mending.Join j)) (sym e) p) (subst (λ (v : ℕ). JoinsBelow v j w w') (sym e) m);
}
