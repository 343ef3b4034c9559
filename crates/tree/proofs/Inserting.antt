-- An entry inserted into a pool: the free pages by the map are those by the tree; a tree that has grown along a path,
-- with a new root where it split, is `model`'s, and the words then hold the pool with that entry put at the gap.
-- Assumes nothing.
use mathlib.Core.Path.{subst, ◌≡◌, refl, sym, ap, ◌∙◌, subst₂}
use mathlib.Core.Bool.{true, false}
use mathlib.Core.Logic.{◌≢◌}
use mathlib.Core.List.{List, [], ◌∷◌, ◌++◌}
use Prim.Native.Nat.{ℕ, suc, pred, ◌+◌, ◌≤◌, ◌<◌}
use native.Mathlib.Omega.{arith}
use lib.ListN.{length, take, get_or, set, length-set}
use borrow.Author.Tests.{eq-eqb, ne_eqb, lt-ltb, le-ltb}
use Rattle.std.specs.Prelude.{Option, Some, None, Ok}
use Rattle.model.specs.Basics.{All, tab, ins}
use Rattle.model.specs.Layout.{head_words, pages_in, word, today}
use Rattle.model.specs.Head.{geometry_of, levels_word, headed}
use Rattle.model.specs.PageMap.{bit_at}
use Rattle.model.specs.Tree.{Entry, no_entry, Tree, Whole, held, meets, times, Formed}
use Rattle.model.specs.Standing.{root_of, page_number, Standing}
use Rattle.model.specs.Path.{gap_pages}
use Rattle.model.specs.Insert as insertion
use Rattle.model.specs.Insert.{whole, split, insert_at, top, insert, run, needed}
use Rattle.model.specs.Pool.{with_whole, Pool, held_by, free_of, room, pool_of, gap_by, least_by}
use Rattle.model.specs.Sound.{Sound}
use Rattle.model.specs.Written.{Written}
use Rattle.model.specs.MapCalls.{put_at, crowded}
use Rattle.pagemap.specs.Lowest.{free_in, lowest_of}
use Rattle.lend.specs.Touches.{Sized}
use Rattle.lend.specs.Pages.{least, page_in, map_in}
use Rattle.tree.specs.declared.insert.Up.{Up}
use Rattle.tree.specs.Sits.{PathOf}
use Rattle.tree.specs.Insert.{full, frees_in, fresh_in, Needs, up_of, UpStands, Grows, InsertsBelow, NewRoots, Inserts}
use Rattle.model.proofs.Cases.{either-eq, contrary, never}
use Rattle.model.proofs.Basics.{length-ins, ins-before, all_append, all_left, all_right, all_take, all-at, take-tab, get_or-tab, length-tab, front-word}
use Rattle.model.proofs.PageMap.{free-same}
use Rattle.model.proofs.Insert.{up_times, Used, insert_at-used, insert_at-times, insert-held, up_left, insert_at-root}
use Rattle.model.proofs.Standing.{standing-frame}
use Rattle.model.proofs.Right.{Right, sound-right}
use Rattle.model.proofs.Written.{sound-written}
use Rattle.model.proofs.Written as written
use Rattle.pagemap.proofs.Taking.{take-counts, lowest-kth}
use Rattle.lend.proofs.Touching.{map-bits}
use Rattle.lend.proofs.Fitting.{headed-sized}
use Rattle.tree.proofs.Sitting.{sound-sits}
use Rattle.tree.proofs.Paths.{first-page}
use Rattle.tree.proofs.Heads.{head-page, head-stored}
use Rattle.tree.proofs.Leaving.{head-word, key-stays, Carries, carries-leaves, leaves-written, written-least, written-bits, written-formed}
use Rattle.page.specs.Page.{plain}

-- ---- the pool by its words

-- P
pub written-pages : {w : List ℕ} {p : Pool} → Written w p → pages_in today (length w) ≡ p.pages
unfolding geometry_of
written-pages a = written.written-pages a

-- the free pages by the map are those by the tree
pub written-frees : {w : List ℕ} {p : Pool} → Written w p → frees_in w ≡ free_of p
unfolding free_of
written-frees {w} {p} a = rw (written-pages a) (free-same (bit_at (map_in w)) (λ q. meets q p.whole) p.pages (λ q _. written-bits a q))

-- what is done with what is handed up: nothing, or a new root over the two halves
abbrev pub Topped : List ℕ → Option Up → List ℕ → List ℕ → Type 0
Topped ps None w₁ w₂ = w₂ ≡ w₁
Topped ps (Some u) w₁ w₂ = NewRoots (length ps) (plain u.entry) (get_or ps 0 0) u.child w₁ w₂

pub topped-none : (ps : List ℕ) (u : Option Up) (w₁ w₂ : List ℕ) → ((x : Up) → u ≡ Some x → ⊥) → w₂ ≡ w₁ → Topped ps u w₁ w₂
topped-none ps None w₁ w₂ n e = e
topped-none ps (Some x) w₁ w₂ n e = absurd (n x refl)

pub topped-long : (ps : List ℕ) (u : Option Up) (w₁ w₂ : List ℕ) → Topped ps u w₁ w₂ → length w₂ ≡ length w₁
topped-long ps None w₁ w₂ e = ap length e
topped-long ps (Some u) w₁ w₂ n = n.long

pub topped-count : (ps : List ℕ) (u : Option Up) (w₁ w₂ : List ℕ) → Topped ps u w₁ w₂ → word w₂ 2 ≡ word w₁ 2
topped-count ps None w₁ w₂ e = ap (λ (l : List ℕ). word l 2) e
topped-count ps (Some u) w₁ w₂ n = n.count

-- ---- a tree that has grown, with its new root

module _ (w₁ w₂ ps : List ℕ) (h k q : ℕ) (first : k ≡ h → lowest_of (frees_in w₁) ≡ Some q) where
  pub top-carries : (w : List ℕ) (t : Tree h) (o : insertion.Up (Tree h)) → Sized w → length w₁ ≡ length w → take head_words w₁ ≡ take head_words w
      → word w 3 ≡ root_of h t → word w 4 ≡ h → length ps ≡ h → (0 < h → get_or ps 0 0 ≡ page_number h t) → root_of h (up_left o) ≡ root_of h t → Used h o k
      → UpStands w₁ h o → ((p : ℕ) → bit_at (map_in w₁) p ≡ up_times (times p h) o) → Topped ps (up_of h o) w₁ w₂ → Carries w (top q h o) w₂
  unfolding top meets times Standing
  top-carries w t (whole c) sized long head root levels many there stays u stands bits e = rw e (record {
    long = long;
    words = λ i b _ _. front-word head_words w w₁ head i b;
    root = front-word head_words w w₁ head 3 (omega arith) ∙ root ∙ sym stays;
    levels = front-word head_words w w₁ head 4 (omega arith) ∙ levels;
    bits = bits;
    stands = stands;
  })
  top-carries w t (split l x r) sized long head root levels many there stays u stands bits n =
      let taken = take-counts (map_in w₁) (λ p. up_times (times p h) (split l x r)) (pages_in today (length w₁)) q (map-bits w₁ (rw long sized)) bits (first u) in
      let none : times q h l + times q h r ≡ 0 = taken.1 in
      let tops = n.tops q (first u) in
      let same-page : (c : Tree h) → times q h c ≡ 0 → (p : ℕ) → 0 < times p h c → page_in w₁ p ≡ page_in w₂ p =
      λ c z p met. sym (tops.others p (λ e. omega (arith, ap (λ (y : ℕ). times y h c) e))) in
      record {
        long = n.long ∙ long;
        words = λ i b three four. tops.rooted.others i b three four ∙ front-word head_words w w₁ head i b;
        root = tops.rooted.root;
        levels = rw (← many) tops.rooted.levels;
        bits = λ p. rw tops.map (omega (arith, taken.2 p));
        stands = (
          record {
            height = rw many at tops.holds.height;
            own = tops.holds.own;
            children = λ b. tops.holds.children (omega arith) ∙ ap (λ (c : ℕ). c ∷ page_number h r ∷ []) (there b ∙ ap pred (sym stays));
          },
          (
            standing-frame least (page_in w₁) (page_in w₂) h l (same-page l (omega arith)) stands.0,
            (standing-frame least (page_in w₁) (page_in w₂) h r (same-page r (omega arith)) stands.1, tt),
          ),
        );
      }

  -- no page but those that grew and the new root has changed
  pub top-others : (o : insertion.Up (Tree h)) → Used h o k → Topped ps (up_of h o) w₁ w₂ → (p : ℕ) → (k ≡ h → p ≢ q) → page_in w₂ p ≡ page_in w₁ p
  top-others (whole c) u e p n = ap (λ (l : List ℕ). page_in l p) e
  top-others (split l x r) u made p n = (made.tops q (first u)).others p (n u)

-- ---- the pages that it needs

module _ (m : ℕ) (x : Whole) (g : ℕ) where
  -- those of the full pages, and one more for a new root
  pub needed-run : run m x.levels x.tree g ≤ needed m x g
  unfolding needed
  needed-run =
      let k = run m x.levels x.tree g in
      either-eq k x.levels (λ e. rw (eq-eqb k x.levels e) (omega arith)) (λ n. rw (ne_eqb k x.levels n) (omega arith))

  pub needed-top : run m x.levels x.tree g ≡ x.levels → needed m x g ≡ suc (run m x.levels x.tree g)
  unfolding needed
  needed-top e = rw (eq-eqb (run m x.levels x.tree g) x.levels e)

-- ---- of a pool with room for it

module _ (w : List ℕ) (P : Pool) (r : Right P) (a : Written w P) (g : ℕ) (e : Entry) (b : g ≤ length (held_by P))
    (sized : Sized w) (enough : needed least P.whole g ≤ length (frees_in w))
    (ps w₁ w₂ : List ℕ) (u : Option Up) (path : ps ≡ gap_pages P.whole.levels P.whole.tree g) (many : length ps ≡ P.whole.levels)
    (grows : Grows w P.whole.levels P.whole.tree g e w₁ u) (topped : Topped ps u w₁ w₂) where
  abbrev h : ℕ
  h = P.whole.levels

  abbrev t : Tree h
  t = P.whole.tree

  abbrev k : ℕ
  k = run least h t g

  abbrev o : insertion.Up (Tree h)
  o = insert_at least (fresh_in w) h t g e

  first : k ≡ h → lowest_of (frees_in w₁) ≡ Some (fresh_in w h)
  first e =
      let there : lowest_of (free_in (map_in w₁) (pages_in today (length w))) ≡ Some (fresh_in w k) =
      lowest-kth (map_in w₁) (bit_at (map_in w)) (pages_in today (length w)) k grows.bits (omega (arith, needed-top least P.whole g e)) in
      rw grows.touches.long (rw e at there)

  used : Used h o k
  unfolding held Formed
  used = insert_at-used least (fresh_in w) 1 h t g e (written-formed a r) b

  pub insert-carries : Carries w (insert least (fresh_in w) P.whole g e) w₂
  unfolding insert held Formed meets
  insert-carries =
      top-carries w₁ w₂ ps h k (fresh_in w h) first w t o sized grows.touches.long grows.touches.head
      (head-word a 3 (omega arith)) (head-word a 4 (omega arith)) many (λ l. first-page h t g l path)
      (insert_at-root least (fresh_in w) h t g e) used grows.stands
      (λ p. omega (arith, grows.bits p, written-bits a p, insert_at-times least (fresh_in w) p 1 h t g e (written-formed a r) b))
      (rw grows.handed at topped)

  pub insert-others : (q : ℕ) → All (λ p. q ≢ p) (ps ++ tab (needed least P.whole g) (fresh_in w)) → page_in w₂ q ≡ page_in w q
  insert-others q far =
      let fresh : All (λ p. q ≢ p) (tab (needed least P.whole g) (fresh_in w)) = all_right (λ p. q ≢ p) ps (tab (needed least P.whole g) (fresh_in w)) far in
      let below : All (λ p. q ≢ p) (tab k (fresh_in w)) =
      rw (take-tab k (needed least P.whole g) (fresh_in w) (needed-run least P.whole g)) at (all_take (λ p. q ≢ p) k (tab (needed least P.whole g) (fresh_in w)) fresh) in
      let old : All (λ p. q ≢ p) (gap_pages h t g) = rw path at (all_left (λ p. q ≢ p) ps (tab (needed least P.whole g) (fresh_in w)) far) in
      top-others w₁ w₂ ps h k (fresh_in w h) first o used (rw grows.handed at topped) q
      (λ e.
      let n = needed least P.whole g in
      let last : k < n = omega (arith, needed-top least P.whole g e) in
      rw (← e, ← get_or-tab n (fresh_in w) k 0 last) (all-at (λ p. q ≢ p) (tab n (fresh_in w)) k 0 (omega (arith, length-tab n (fresh_in w))) fresh))
      ∙ grows.touches.others q (all_append (λ p. q ≢ p) (gap_pages h t g) (tab k (fresh_in w)) old below)

  pub insert-written : gap_by P ≤ g → Written (set w₂ 2 (word w₂ 2 + 1)) (put_at g e P)
  insert-written before =
      let x = insert least (fresh_in w) P.whole g e in
      let after : held x ≡ ins g e (held_by P) = insert-held least (fresh_in w) P.whole g e (written-formed a r) b in
      let c = insert-carries in
      subst₂ (λ (m : ℕ) (l : List ℕ). Written (set w₂ 2 (word w₂ 2 + 1)) (with_whole P (insert m (λ j. get_or l j 0) P.whole g e))) (sym (written-least a)) (written-frees a)
      (leaves-written w P x (set w₂ 2 (word w₂ 2 + 1)) a
      (carries-leaves w P x w₂ (word w₂ 2 + 1) c (omega arith)
      (omega (arith, c.words 2 (omega arith) (omega arith) (omega arith), head-word a 2 (omega arith), ap length after, length-ins g e (held_by P) b))
      (key-stays (held_by P) (held x) P.cursor (λ i l. rw after (ap (λ (y : Entry). y.key) (ins-before g e (held_by P) i no_entry (omega arith) b))))))

-- ---- what an insert does

-- the pages that it needs, and those that are free
module _ (w ps : List ℕ) (k g : ℕ) (needs : Needs w ps k) (sound : Sound w) (b : g ≤ length (held_by (pool_of w)))
    (path : ps ≡ gap_pages (pool_of w).whole.levels (pool_of w).whole.tree g) where
  pages-needed : k ≡ needed least (pool_of w).whole g
  unfolding held
  pages-needed = needs.exact 1 (pool_of w).whole.levels (pool_of w).whole.tree g (sound-sits w sound) b path

  pool-needed : k ≡ needed (least_by (pool_of w)) (pool_of w).whole g
  pool-needed = pages-needed ∙ ap (λ (m : ℕ). needed m (pool_of w).whole g) (sym (written-least (sound-written w sound)))

  pages-free : length (frees_in w) ≡ room (pool_of w)
  pages-free = ap length (written-frees (sound-written w sound))

  pub crowded-full : length (frees_in w) < k → crowded g (pool_of w) ≡ true
  crowded-full l = lt-ltb (room (pool_of w)) (needed (least_by (pool_of w)) (pool_of w).whole g) (omega (arith, pool-needed, pages-free))

  pub crowded-room : k ≤ length (frees_in w) → crowded g (pool_of w) ≡ false
  crowded-room l = le-ltb (room (pool_of w)) (needed (least_by (pool_of w)) (pool_of w).whole g) (omega (arith, pool-needed, pages-free))

pub inserts-full : (w ps ss : List ℕ) (e : Entry) (k : ℕ) → Needs w ps k → length (frees_in w) < k → Inserts w ps ss e w full
inserts-full w ps ss e k needs none = record {
  long = refl;
  kept = λ _. refl;
  exact = λ g sound b path. rw (crowded-full w ps k g needs sound b path.pages none);
  holds = λ g sound b path _ free. contrary (crowded-full w ps k g needs sound b path.pages none) free;
  others = λ _ _ _ _ _ _ _. refl;
}

pub inserts-done : (w ps ss : List ℕ) (e : Entry) (k : ℕ) (w₁ : List ℕ) (u : Option Up) (w₂ : List ℕ) → headed w ≡ true → length ps ≡ levels_word w → Needs w ps k
    → k ≤ length (frees_in w) → InsertsBelow w ps ss e w₁ u → Topped ps u w₁ w₂ → Inserts w ps ss e (set w₂ 2 (word w₂ 2 + 1)) (Ok tt)
unfolding held meets
inserts-done w ps ss e k w₁ u w₂ fits many needs enough below topped = record {
  long = length-set w₂ 2 (word w₂ 2 + 1) ∙ topped-long ps u w₁ w₂ topped ∙ below.long;
  kept = λ x. never (cc);
  exact = λ g sound b path. rw (crowded-room w ps k g needs sound b path.pages enough);
  holds = λ g sound b path before _.
      let P = pool_of w in
      let a = sound-written w sound in
      insert-written w P (sound-right w sound) a g e b (headed-sized w fits) (suffices g sound b path) ps w₁ w₂ u path.pages
      (many ∙ head-word a 4 (omega arith)) (grows g sound b path) topped before;
  others = λ g sound b path _ q far.
      let P = pool_of w in
      let a = sound-written w sound in
      head-page (head-stored w₂ 2 (word w₂ 2 + 1) (omega arith)) q
      ∙ insert-others w P (sound-right w sound) a g e b (headed-sized w fits) (suffices g sound b path) ps w₁ w₂ u path.pages
      (many ∙ head-word a 4 (omega arith)) (grows g sound b path) topped q (subst (λ (l : List ℕ). All (λ p. q ≢ p) (ps ++ tab (needed least P.whole g) (λ j. get_or l j 0))) (sym (written-frees a)) far);
}
  where
    suffices : (g : ℕ) → Sound w → g ≤ length (held_by (pool_of w)) → PathOf (pool_of w).whole.levels (pool_of w).whole.tree g ps ss
        → needed least (pool_of w).whole g ≤ length (frees_in w)
    suffices g sound b path = omega (arith, pages-needed w ps k g needs sound b path.pages)

    grows : (g : ℕ) → Sound w → g ≤ length (held_by (pool_of w)) → PathOf (pool_of w).whole.levels (pool_of w).whole.tree g ps ss
        → Grows w (pool_of w).whole.levels (pool_of w).whole.tree g e w₁ u
    grows g sound b path =
        below.grows 1 (pool_of w).whole.levels (pool_of w).whole.tree g (sound-sits w sound) b path (λ q. omega (arith, written-bits (sound-written w sound) q))
        (omega (arith, needed-run least (pool_of w).whole g, suffices g sound b path))
