-- A pool is sound exactly where check's walk goes through, meets as many pages as bits are set and as many entries as
-- the head says, and the cursor's words are right. Keys that rise meet no page twice: the first key of a page would be
-- met twice with it.
-- Assumes nothing.
use mathlib.Core.Path.{◌≡◌, refl, sym, ap, subst, ◌∙◌}
use mathlib.Core.Bool.{Bool, true, false}
use mathlib.Core.Option as pure
use mathlib.Core.List.{List, [], ◌∷◌}
use Prim.Native.Nat.{ℕ, zero, suc, pred, ◌+◌, ◌-◌, ◌*◌, ◌≤◌, ◌<◌}
use native.Mathlib.Omega.{arith}
use lib.Dec.{eqb}
use lib.ListN.{length}
use borrow.Author.Tests.{eqb-true, eq-eqb}
use Rattle.std.specs.Prelude.{Ok, Result, Some, Option}
use Rattle.model.specs.Basics.{tab, All, sum, same}
use Rattle.model.specs.Layout.{most_levels, pages_in, word, today}
use Rattle.model.specs.Head.{count_word, root_word, levels_word, open_word, after_word, key_word, headed, geometry_of}
use Rattle.model.specs.PageMap.{bit_at}
use Rattle.model.specs.Tree.{Entry, Tree, weave, entries, times, Rising, Shaped, meets, held, Formed}
use Rattle.model.specs.Page.{count_of, key_place, entry_in, entries_of}
use Rattle.model.specs.Standing.{Standing}
use Rattle.model.specs.Entries.{has, lookup}
use Rattle.model.specs.Path.{find}
use Rattle.model.specs.Pool.{whole_of, pool_of}
use Rattle.model.specs.Sound.{Sound}
use Rattle.model.specs.PoolCalls.{Checks}
use Rattle.lend.specs.Pages.{least, most, Inside, page_in, map_in}
use Rattle.tree.specs.declared.search.Found.{Found}
use Rattle.tree.specs.Sits.{Sits}
use Rattle.tree.specs.Search.{got_by, GetsBelow}
use Rattle.tree.specs.declared.check.Tally.{Tally}
use Rattle.tree.specs.Check.{Said, broken, over_tree, Walks, Cursored, CursorIs}
use Rattle.model.proofs.Cases.{either_lt, either-eq, contrary, same_self, same-other, same-le, never}
use Rattle.model.proofs.Basics.{all_both}
use Rattle.model.proofs.Sums.{sum-append, sum-le, sum_to-ext}
use Rattle.model.proofs.PageMap.{bit_at_lt}
use Rattle.model.proofs.Head.{head-facts}
use Rattle.model.proofs.Entries.{there, has-lookup}
use Rattle.model.proofs.Search.{found-held}
use Rattle.model.proofs.Numbers.{pages_below, pages_of, pages-met}
use Rattle.model.proofs.Read.{length-own, read-page}
use Rattle.model.proofs.Standing.{read-standing}
use Rattle.model.proofs.Right.{sound-right, right-pages}
use Rattle.pagemap.proofs.Map.{met-exactly}
use Rattle.pagemap.specs.Bits.{count_bits}
use Rattle.lend.proofs.Touching.{map-bits}
use Rattle.lend.proofs.Fitting.{headed-sized, head-root, head-levels}
use Rattle.tree.proofs.Meeting.{Follows, Goes}
use Rattle.tree.proofs.Walked.{Fine, GoesBelow, tree_at, tree-goes}
use Rattle.page.specs.declared.Unsound.{Unsound}

-- ---- how often a key is there

abbrev occurs : ℕ → List Entry → ℕ
occurs k es = sum (λ e. same k e.key) es

occurs-none : (k : ℕ) (es : List Entry) → All (λ x. k < x.key) es → occurs k es ≡ 0
occurs-none k [] a = refl
occurs-none k (e ∷ es) a = let l : k < e.key = a.0 in omega (arith, same-other k e.key (omega arith), occurs-none k es a.1)

rising-once : (k : ℕ) (es : List Entry) → Rising es → occurs k es ≤ 1
rising-once k [] r = omega arith
rising-once k (e ∷ es) r =
    either-eq k e.key
    (λ q. omega (arith, same-le k e.key, occurs-none k es (subst (λ (z : ℕ). All (λ x. z < x.key) es) (sym q) r.0)))
    (λ n. omega (arith, same-other k e.key n, rising-once k es r.1))

sum-weave : {S A : Type 0} (g : A → ℕ) (f : S → List A) (ss : List S) (es : List A) → length ss ≡ suc (length es)
    → sum g (weave f ss es) ≡ sum g es + sum (λ s. sum g (f s)) ss
sum-weave g f [] es h = absurd (omega arith)
sum-weave g f (s ∷ []) [] h = omega arith
sum-weave g f (s ∷ s' ∷ ss) [] h = absurd (omega arith)
sum-weave g f (s ∷ ss) (e ∷ es) h = omega (arith, sum-append g (f s) (e ∷ weave f ss es), sum-weave g f ss es (omega arith))

-- ---- a page is met no more often than its first key

module _ (w : List ℕ) (q : ℕ) where
  abbrev first : ℕ
  first = word (page_in w q) (key_place 0)

  own_first : 1 ≤ count_of (page_in w q) → 1 ≤ occurs first (entries_of most (page_in w q))
  unfolding entries_of
  own_first l = go (count_of (page_in w q)) l
    where
      go : (n : ℕ) → 1 ≤ n → 1 ≤ occurs first (tab n (entry_in most (page_in w q)))
      go zero l = absurd (omega arith)
      go (suc n) l = omega (arith, same_self first)

  page-first : (p : ℕ) (own : List Entry) → entries_of most (page_in w p) ≡ own → 1 ≤ length own → same q p ≤ occurs first own
  page-first p own e l =
      either-eq q p
      (λ s.
      let here : entries_of most (page_in w q) ≡ own = ap (λ (z : ℕ). entries_of most (page_in w z)) s ∙ e in
      let long : count_of (page_in w q) ≡ length own = sym (length-own most (page_in w q)) ∙ ap length here in
      omega (arith, same-le q p, ap (occurs first) here, own_first (omega arith)))
      (λ n. omega (arith, same-other q p n))

  times-first : (low h : ℕ) (t : Tree h) → 1 ≤ low → Shaped least low h t → Standing least (page_in w) h t → times q h t ≤ occurs first (entries h t)
  unfolding times entries Shaped Standing
  times-first low zero t l s a = omega arith
  times-first low (suc h) t l s a =
      let few = s.few in
      omega (
        arith,
        page-first t.page t.own a.0.own (omega arith),
        sum-weave (λ e. same first e.key) (entries h) t.children t.own s.forks,
        sum-le (λ c. Shaped least least h c × Standing least (page_in w) h c) (times q h) (λ c. occurs first (entries h c)) t.children
            (λ c x. times-first least h c (omega arith) x.0 x.1)
            (all_both (Shaped least least h) (Standing least (page_in w) h) (λ c. Shaped least least h c × Standing least (page_in w) h c) t.children (λ c x y. (x, y))
            s.below a.1),
      )

-- ---- of a tree whose pages stand right

module _ (w : List ℕ) (h p : ℕ) (f : Fine w h p 1) where
  abbrev t : Tree h
  t = tree_at w h p

  fine-none : (q : ℕ) → pages_in today (length w) ≤ q → times q h t ≡ 0
  fine-none q l = either_lt 0 (times q h t) (λ m. absurd (omega (arith, (f.marked q m).0))) (λ m. omega arith)

  fine-bits : Rising (entries h t) → (q : ℕ) → times q h t ≤ bit_at (map_in w) q
  fine-bits r q =
      let once : times q h t ≤ 1 =
      omega (
        arith,
        times-first w q 1 h t (omega arith) f.shaped (read-standing least (page_in w) h p f.heights),
        rising-once (first w q) (entries h t) r,
      ) in
      either_lt 0 (times q h t) (λ m. omega (arith, (f.marked q m).1)) (λ m. omega arith)

  pub fine-sits : Sits w 1 h t
  fine-sits = record {
    some = omega arith;
    stands = read-standing least (page_in w) h p f.heights;
    shaped = f.shaped;
    inside = λ q m. (f.marked q m).0;
  }

-- ---- a head that fits

-- where there are levels there is a root, inside the pool
pub record RootThere (w : List ℕ) : Type 0 where
  pub some : 1 ≤ root_word w
  pub inside : Inside (root_word w - 1) w
  pub deep : levels_word w - 1 < most_levels today
  pub is : root_word w - 1 ≡ pred (root_word w)

pub root-there : (w : List ℕ) → headed w ≡ true → (levels_word w ≡ 0 → ⊥) → RootThere w
root-there w e n =
    let root = head-root w e (omega arith) in
    let some = root.0 in
    let levels = head-levels w e in
    record { some = some; inside = root.1; deep = omega arith; is = omega arith }

-- ---- the walk from the root

abbrev pub nothing : Tally
nothing = record { pages = 0; entries = 0; last = 0 }

module _ (w : List ℕ) (head : headed w ≡ true) where
  abbrev h : ℕ
  h = levels_word w

  abbrev p : ℕ
  p = pred (root_word w)

  abbrev root : Tree h
  root = tree_at w h p

  -- what the walk finds, and the numbers that it is compared with
  record Walked : Type 0 where
    fine : Fine w h p 1
    follows : Follows w 0 [] (pages_below h root) (entries h root)
    pages : pages_below h root ≡ count_bits (map_in w)
    count : length (entries h root) ≡ count_word w

  past : (q : ℕ) → 64 * length (map_in w) ≤ q → pages_in today (length w) ≤ q
  past q l = omega (arith, map-bits w (headed-sized w head))

  walked-sound : Walked → Cursored w → Sound w
  unfolding whole_of meets held Formed geometry_of
  walked-sound f c =
      let met : (q : ℕ) → times q h root ≡ bit_at (map_in w) q =
      met-exactly (map_in w) (λ q. times q h root) (fine-bits w h p f.fine f.follows.rising)
      (pages-met h root (64 * length (map_in w)) (λ q l. fine-none w h p f.fine q (past q l)) ∙ f.pages) in
      record {
        head = head;
        met = met;
        past = λ q l. sym (met q) ∙ fine-none w h p f.fine q l;
        heights = f.fine.heights;
        formed = f.fine.shaped;
        rising = f.follows.rising;
        count = f.count;
        values = f.follows.zeros;
        closed = c.closed;
        start = c.start;
        named = c.named;
      }

  sound-cursored : Sound w → Cursored w
  sound-cursored s = record { closed = s.closed; start = s.start; named = s.named }

  sound-walked : Sound w → Walked
  unfolding whole_of meets held Formed pool_of pages_of count_bits geometry_of
  sound-walked s =
      let none : (q : ℕ) → pages_in today (length w) ≤ q → times q h root ≡ 0 = λ q l. s.met q ∙ s.past q l in
      let all = right-pages (pool_of w) (sound-right w s) in
      record {
        fine = record {
          heights = s.heights;
          shaped = s.formed;
          marked = λ q m.
              let bit = s.met q in (
                either_lt q (pages_in today (length w)) (λ l. l) (λ l. absurd (omega (arith, none q l))),
                omega (arith, bit_at_lt (map_in w) q),
              );
        };
        follows = record { few = omega arith; rising = s.rising; zeros = s.values };
        pages =
            sym (pages-met h root (64 * length (map_in w)) (λ q l. none q (past q l)))
            ∙ sum_to-ext (λ q. times q h root) (bit_at (map_in w)) (64 * length (map_in w)) (λ q l. s.met q);
        count = s.count;
      }

  root-goes : GoesBelow w h p 1 0 0 0 []
  root-goes = tree-goes w h p 1 0 0 0 [] (omega arith) (record { rising = tt; count = refl; last = refl })

  module _ (t : Tally) (e : over_tree w h p 1 (Ok nothing) ≡ Ok t) where
    goes_through : Goes (Fine w h p 1 × Follows w 0 [] (pages_below h root) (entries h root)) (0 + pages_below h root) (entries h root) (Ok t)
    goes_through =
        subst (Goes (Fine w h p 1 × Follows w 0 [] (pages_below h root) (entries h root)) (0 + pages_below h root) (entries h root)) e root-goes

    pub check-through : (r : Bool) → t.pages ≡ count_bits (map_in w) → t.entries ≡ count_word w → CursorIs w r → Checks w r
    unfolding whole_of held geometry_of
    check-through r pages count c =
        let g = goes_through in
        let f : Walked = record {
          fine = g.0.0;
          follows = g.0.1;
          pages = let e₁ = g.1 in omega arith;
          count = let e₁ = g.2.count in omega arith;
        } in
        let sits = fine-sits w h p g.0.0 in
        record {
          yes-sound = λ y. walked-sound f (c.right sits g.0.1.rising y);
          sound-yes = λ s. c.finds sits g.0.1.rising (sound-cursored s);
        }

    pub check-pages : (t.pages ≡ count_bits (map_in w) → ⊥) → Checks w false
    check-pages n = record {
      yes-sound = λ y. contrary y refl;
      sound-yes = λ s. let f = sound-walked s in let e₁ = goes_through.1 in let pages = f.pages in absurd (n (omega arith));
    }

    pub check-entries : (t.entries ≡ count_word w → ⊥) → Checks w false
    check-entries n = record {
      yes-sound = λ y. contrary y refl;
      sound-yes = λ s. let f = sound-walked s in let e₁ = goes_through.2.count in let count = f.count in absurd (n (omega arith));
    }

  pub check-broken : over_tree w h p 1 (Ok nothing) ≡ broken → Checks w false
  check-broken e = record {
    yes-sound = λ y. contrary y refl;
    sound-yes = λ s.
        let f = sound-walked s in
        absurd (subst (Goes (Fine w h p 1 × Follows w 0 [] (pages_below h root) (entries h root)) (0 + pages_below h root) (entries h root)) e root-goes (f.fine, f.follows));
  }

  -- the code's walk is from the root
  pub walk-root : (r : Said) → (levels_word w ≡ 0 → ⊥) → Walks w (root_word w - 1) (levels_word w - 1) 1 nothing r → over_tree w h p 1 (Ok nothing) ≡ r
  walk-root r n x =
      let up : suc (levels_word w - 1) ≡ levels_word w = omega arith in
      let is = (root-there w head n).is in
      sym (x.exact ∙ rw (up, is))

  -- a tree of no levels
  pub over_none : levels_word w ≡ 0 → over_tree w h p 1 (Ok nothing) ≡ Ok nothing
  unfolding over_tree
  over_none z = subst (λ (l : ℕ). over_tree w l p 1 (Ok nothing) ≡ Ok nothing) (sym z) refl

  pub count_none : levels_word w ≡ 0 → 0 ≡ count_word w
  count_none z =
      let f = head-facts w head in
      either_lt 0 (count_word w) (λ l. absurd (omega (arith, (f.rooted.1 l).1))) (λ l. omega arith)

pub check-head : (w : List ℕ) → headed w ≡ false → Checks w false
check-head w e = record { yes-sound = λ y. contrary y refl; sound-yes = λ s. contrary s.head e }

-- ---- the cursor

-- a search that finds its way answers by the key
gets-is : (w : List ℕ) (l h p k above : ℕ) (r : Result (Option Found) Unsound) → l ≡ suc h → GetsBelow w p h k above r → Sits w 1 l (tree_at w l p) → Rising (entries l (tree_at w l p))
    → r ≡ got_by above (lookup k (entries l (tree_at w l p))) (find k l (tree_at w l p)).read
gets-is w zero h p k above r e g s o = absurd (omega arith)
gets-is w (suc l) h p k above r e g s o =
    let same : h ≡ l = omega arith in
    let t : Tree (suc l) = tree_at w (suc l) p in
    subst (λ (z : ℕ). GetsBelow w p z k above r) same g 1 t s (read-page least (page_in w) l p)
    ∙ ap (λ (x : pure.Option ℕ). got_by above x (find k (suc l) t).read) (found-held k least 1 (suc l) t s.shaped o)

value_there : (above n : ℕ) (f : Found) (x : pure.Option ℕ) → Ok (Some f) ≡ got_by above x n → there x ≡ true
value_there above n f pure.none e = never (cc)
value_there above n f (pure.some u) e = refl

there-value : (above n : ℕ) (x : pure.Option ℕ) (r : Result (Option Found) Unsound) → r ≡ got_by above x n → there x ≡ true → ((f : Found) → r ≡ Ok (Some f) → ⊥) → ⊥
there-value above n pure.none r e y no_value = contrary y refl
there-value above n (pure.some v) r e y no_value = no_value _ e

none-there : (w : List ℕ) (l p k : ℕ) → l ≡ 0 → has k (entries l (tree_at w l p)) ≡ true → ⊥
unfolding entries has
none-there w zero p k z y = contrary y refl
none-there w (suc l) p k z y = omega arith

module _ (w : List ℕ) (head : headed w ≡ true) where
  pub cursor-start : after_word w ≡ 0 → CursorIs w (eqb (key_word w) 0)
  cursor-start z = record {
    right = λ s r y.
        let k = eqb-true (key_word w) 0 y in
        record { closed = λ o. (z, k); start = λ a. k; named = λ a. absurd (omega arith) };
    finds = λ s r c. eq-eqb (key_word w) 0 (c.start z);
  }

  module _ (after : after_word w ≡ 0 → ⊥) where
    pub cursor-closed : open_word w ≡ 0 → CursorIs w false
    cursor-closed o = record { right = λ s r y. contrary y refl; finds = λ s r c. absurd (after (c.closed o).0) }

    -- a gap after an entry: its key is there, or it is not
    abbrev There : Type 0
    There = has (key_word w) (held (whole_of w)) ≡ true

    cursor-absent : (Sits w 1 (whole_of w).levels (whole_of w).tree → Rising (held (whole_of w)) → There → ⊥) → CursorIs w false
    cursor-absent no_key = record {
      right = λ s r y. contrary y refl;
      finds = λ s r c.
          let f = (head-facts w head).after in
          let one : after_word w ≡ 1 = omega arith in
          absurd (no_key s r (c.named one));
    }

    pub cursor-empty : levels_word w ≡ 0 → CursorIs w false
    unfolding whole_of held geometry_of
    cursor-empty z = cursor-absent (λ s r y. none-there w (levels_word w) (pred (root_word w)) (key_word w) z y)

    module _ (l p : ℕ) (up : levels_word w ≡ suc l) (is : p ≡ pred (root_word w)) where
      got-is : (r : Result (Option Found) Unsound) → GetsBelow w p l (key_word w) 0 r → Sits w 1 (whole_of w).levels (whole_of w).tree → Rising (held (whole_of w))
          → r ≡ got_by 0 (lookup (key_word w) (held (whole_of w))) (find (key_word w) (whole_of w).levels (whole_of w).tree).read
      unfolding whole_of held geometry_of
      got-is r g s o =
          gets-is w (levels_word w) l (pred (root_word w)) (key_word w) 0 r up (subst (λ (z : ℕ). GetsBelow w z l (key_word w) 0 r) is g) s o

      pub cursor-lost : (r : Result (Option Found) Unsound) → GetsBelow w p l (key_word w) 0 r → ((f : Found) → r ≡ Ok (Some f) → ⊥) → CursorIs w false
      cursor-lost r g no_value =
          cursor-absent
          (λ s o y. there-value 0 _ (lookup (key_word w) (held (whole_of w))) r (got-is r g s o) (sym (has-lookup (key_word w) (held (whole_of w))) ∙ y) no_value)

      pub cursor-found : {r : Result (Option Found) Unsound} {f : Found} → (open_word w ≡ 0 → ⊥) → r ≡ Ok (Some f) → GetsBelow w p l (key_word w) 0 r → CursorIs w true
      cursor-found {r} {f} opened is g = record {
        right = λ s o y. record {
          closed = λ z. absurd (opened z);
          start = λ z. absurd (after z);
          named = λ z.
              has-lookup (key_word w) (held (whole_of w))
              ∙ value_there 0 _ f (lookup (key_word w) (held (whole_of w))) (sym is ∙ got-is r g s o);
        };
        finds = λ s o c. refl;
      }
