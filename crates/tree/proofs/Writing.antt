-- An entry overwritten where it stands: the entry at the spot of g is entry g, and the tree with another entry in its
-- place stands in the pages once that page alone has changed, and there the slot alone.
-- Assumes nothing.
use mathlib.Core.Path.{◌≡◌, refl, sym, ap, ◌∙◌}
use mathlib.Core.Logic.{◌≢◌}
use mathlib.Core.List.{List}
use Prim.Native.Nat.{ℕ, zero, suc, ◌≤◌, ◌<◌, ◌+◌, pred}
use native.Mathlib.Omega.{arith}
use lib.ListN.{length, take, drop, get_or, set, length-set}
use lib.Seq.{map-set_same, get_or-set_same, get_or-set_other}
use borrow.Author.Tests.{lt-ltb, le-ltb}
use Rattle.std.specs.Prelude.{Option, Some, None, Result}
use Rattle.model.specs.Basics.{All, sum, same}
use Rattle.model.specs.Layout.{most_entries, first_word, word, today}
use Rattle.model.specs.Tree.{Entry, Tree, no_entry, no_tree, entries, size, times, Shaped, held, entry, Formed, meets}
use Rattle.model.specs.Page.{count_of, height_of, entries_of, entry_in}
use Rattle.model.specs.Standing.{root_of, page_number, Standing, node_of, Holds}
use Rattle.model.specs.Gap.{slot_at, rest_at, child_at}
use Rattle.model.specs.Write.{write_at, write}
use Rattle.model.specs.Pool.{Pool, held_by, pool_of}
use Rattle.model.specs.Sound.{Sound}
use Rattle.model.specs.Written.{Written}
use Rattle.model.specs.Head.{geometry_of}
use Rattle.page.specs.Node.{instead}
use Rattle.page.specs.Page.{holds_at}
use Rattle.lend.specs.Pages.{least, most, ChangesIn, node_in, page_in}
use Rattle.tree.specs.declared.steps.Spot.{Spot}
use Rattle.tree.specs.Steps.{spot, spot_of}
use Rattle.tree.specs.Write.{Writes}
use Rattle.model.proofs.Cases.{either_lt, same_self, same-eq, either-eq, never}
use Rattle.model.proofs.Basics.{all-at, front-word}
use Rattle.model.proofs.Sums.{sum-at}
use Rattle.model.proofs.Gap.{way_down, child-shaped, located-below, located_here}
use Rattle.model.proofs.Write.{located-own, write-held, write_meets}
use Rattle.model.proofs.Read.{length-own}
use Rattle.model.proofs.Standing.{set-standing, all-standing}
use Rattle.model.proofs.Right.{Right, sound-right}
use Rattle.model.proofs.Written.{sound-written}
use Rattle.page.proofs.Pages.{holds_at_lem}
use Rattle.lend.proofs.Lent.{own_at}
use Rattle.lend.proofs.Touching.{only-map}
use Rattle.tree.proofs.Spots.{spot-some, spot-end}
use Rattle.tree.proofs.Leaving.{Leaves, leaves-written, head-word, key-stays, written-bits, written_stands, written-formed}
use Rattle.page.specs.declared.Unsound.{Unsound}

-- ---- entry g of a tree, at slot s of page p

pub record Spotted (m : ℕ) (pages : ℕ → List ℕ) (h : ℕ) (t : Tree h) (g p s : ℕ) : Type 0 where
  pub met : 0 < times p h t
  pub slot : s < count_of (pages p)
  pub many : count_of (pages p) ≤ most_entries m
  pub entry : get_or (entries h t) g no_entry ≡ get_or (entries_of (most_entries m) (pages p)) s no_entry

-- where it is in a child, or at the page itself
pub either-spot : {C : Type 0} (m low h : ℕ) (t : Tree (suc h)) (g p s : ℕ) → Shaped m low (suc h) t → g < size (suc h) t → spot_of (suc h) t g ≡ Some (spot p s)
    → (rest_at h t g < size h (child_at h t g) → spot_of h (child_at h t g) (rest_at h t g) ≡ Some (spot p s) → C)
    → (size h (child_at h t g) ≤ rest_at h t g → slot_at h t g < length t.own → t.page ≡ p → slot_at h t g ≡ s → C)
    → C
unfolding spot_of Shaped entries
either-spot m low h t g p s f b e deeper here =
    let r = rest_at h t g in
    let n = size h (child_at h t g) in
    either_lt r n
    (λ inner. deeper inner (rw (lt-ltb r n inner) at e))
    (λ outer.
    let o : slot_at h t g < length t.own =
    located-own (entries h) t.children t.own (no_tree h) g (slot_at h t g) r f.forks (way_down m low h t g f (omega arith)) outer b in
    let e' : Some (spot t.page (slot_at h t g)) ≡ Some (spot p s) = rw (le-ltb r n outer, lt-ltb (slot_at h t g) (length t.own) o) at e in
    let same : spot t.page (slot_at h t g) ≡ spot p s = cc in
    here outer o (ap (λ (x : Spot). x.page) same) (ap (λ (x : Spot). x.slot) same))

pub spotted : (m low : ℕ) (pages : ℕ → List ℕ) (h : ℕ) (t : Tree h) (g p s : ℕ) → Shaped m low h t → Standing m pages h t → g < size h t
    → spot_of h t g ≡ Some (spot p s) → Spotted m pages h t g p s
unfolding Shaped Standing times entries
spotted m low pages zero t g p s f a b e = absurd (omega arith)
spotted m low pages (suc h) t g p s f a b e =
    let i = slot_at h t g in
    let r = rest_at h t g in
    let c = child_at h t g in
    let L = way_down m low h t g f (omega arith) in
    either-spot m low h t g p s f b e
    (λ inner e'.
    let below = spotted m m pages h c r p s (child-shaped m low h t g f (omega arith)) (all-at (Standing m pages h) t.children i (no_tree h) L.inside a.1) inner e' in
    record {
      met = omega (arith, below.met, sum-at (times p h) t.children i (no_tree h) L.inside);
      slot = below.slot;
      many = below.many;
      entry = located-below (entries h) t.children t.own (no_tree h) g i r f.forks L no_entry inner ∙ below.entry;
    })
    (λ outer o ep es.
    let own : entries_of (most_entries m) (pages p) ≡ t.own = rw ep at a.0.own in
    let count : count_of (pages p) ≡ length t.own = sym (length-own (most_entries m) (pages p)) ∙ ap length own in
    record {
      met = rw ep (omega (arith, same_self p));
      slot = omega arith;
      many = omega (arith, f.many);
      entry = rw (own, ← es) (located_here (entries h) t.children t.own (no_tree h) g i r f.forks L no_entry outer o);
    })

-- ---- another entry in its place

-- the root's page stays
pub write-at-root : (h : ℕ) (t : Tree h) (g : ℕ) (e : Entry) → root_of h (write_at h t g e) ≡ root_of h t
unfolding write_at
write-at-root zero t g e = refl
write-at-root (suc h) t g e =
    let r = rest_at h t g in
    let n = size h (child_at h t g) in
    either_lt r n (λ inner. rw (lt-ltb r n inner)) (λ outer. rw (le-ltb r n outer))

module _ (m : ℕ) (pages pages' : ℕ → List ℕ) (p s : ℕ) (e : Entry) (others : (q : ℕ) → q ≢ p → pages q ≡ pages' q)
    (here : Holds (most_entries m) (height_of (pages p)) (instead s e (node_of (most_entries m) p (pages p))) (pages' p)) where
  -- trees that don't meet page p stand as they stood
  apart-stand : (h : ℕ) (ts : List (Tree h)) → sum (times p h) ts ≡ 0 → All (Standing m pages h) ts → All (Standing m pages' h) ts
  apart-stand h ts z = all-standing m pages pages' h ts (λ q l. others q (λ e. omega (arith, ap (λ (x : ℕ). sum (times x h) ts) e)))

  pub write-stands : (low h : ℕ) (t : Tree h) (g : ℕ) → Shaped m low h t → Standing m pages h t → g < size h t → ((q : ℕ) → times q h t ≤ 1)
      → spot_of h t g ≡ Some (spot p s) → Standing m pages' h (write_at h t g e)
  unfolding Shaped Standing times write_at
  write-stands low zero t g f a b once at = tt
  write-stands low (suc h) t g f a b once at =
      let i = slot_at h t g in
      let r = rest_at h t g in
      let c = child_at h t g in
      let n = size h c in
      let L = way_down m low h t g f (omega arith) in
      let few : same p t.page + sum (times p h) t.children ≤ 1 = once p in
      either-spot m low h t g p s f b at
      (λ inner below.
      let fc = child-shaped m low h t g f (omega arith) in
      let ac = all-at (Standing m pages h) t.children i (no_tree h) L.inside a.1 in
      let met : 0 < times p h c = (spotted m m pages h c r p s fc ac inner below).met in
      let parts : (q : ℕ) → sum (times q h) t.children ≡ sum (times q h) (take i t.children) + (times q h c + sum (times q h) (drop (suc i) t.children)) =
      λ q. sum-at (times q h) t.children i (no_tree h) L.inside in
      let other : t.page ≢ p = λ (x : t.page ≡ p). omega (arith, parts p, same-eq p t.page (sym x)) in
      let stay : pages t.page ≡ pages' t.page = others t.page other in
      let new = write-stands m h c r fc ac inner (λ q. omega (arith, parts q, once q)) below in
      rw (lt-ltb r n inner) (
        record {
          height = rw (← stay) a.0.height;
          own = rw (← stay) a.0.own;
          children = λ l. rw (← stay, map-set_same (page_number h) t.children i (write_at h c r e) (no_tree h) (ap pred (write-at-root h c r e))) (a.0.children l);
        },
        set-standing m pages pages' h i (write_at h c r e) t.children L.inside
            (λ q l. others q (λ (x : q ≡ p).
            let around : 0 < sum (times p h) (take i t.children) + sum (times p h) (drop (suc i) t.children) = rw x at l in
            omega (arith, parts p))) a.1 new,
      ))
      (λ outer o ep es.
      let here' : Holds (most_entries m) (height_of (pages t.page)) (instead i e (node_of (most_entries m) t.page (pages t.page))) (pages' t.page) =
      rw (← ep, ← es) at here in
      rw (le-ltb r n outer) (
        record {
          height = here'.height ∙ a.0.height;
          own = here'.own ∙ ap (λ (l : List Entry). set l i e) a.0.own;
          children = λ l. here'.children (rw (← a.0.height) at l) ∙ a.0.children l;
        },
        apart-stand h t.children (omega (arith, same-eq p t.page (sym ep))) a.1,
      ))

-- ---- of a pool

-- an entry with the same key in its place leaves all keys
set-keys : (es : List Entry) (g : ℕ) (e : Entry) → g < length es → e.key ≡ (get_or es g no_entry).key → (i : ℕ) → (get_or (set es g e) i no_entry).key ≡ (get_or es i no_entry).key
set-keys es g e b k i =
    either-eq i g
    (λ same. rw (same, get_or-set_same es g e no_entry b) k)
    (λ other. ap (λ (x : Entry). x.key) (get_or-set_other es g i e no_entry other))

module _ (w : List ℕ) (P : Pool) (r : Right P) (a : Written w P) (g p s : ℕ) (b : g < length (held_by P)) (at : spot_of P.whole.levels P.whole.tree g ≡ Some (spot p s)) where
  pool-spotted : Spotted least (page_in w) P.whole.levels P.whole.tree g p s
  unfolding held Formed
  pool-spotted = spotted least 1 (page_in w) P.whole.levels P.whole.tree g p s (written-formed a r) (written_stands a) b at

  -- the entry that is read there
  pub spot-entry : entry_in most (page_in w p) s ≡ get_or (held_by P) g no_entry
  unfolding held
  spot-entry = own_at (page_in w p) s pool-spotted.slot ∙ sym pool-spotted.entry

  pub write-leaves : (w' : List ℕ) (e : Entry) (c : Result (Unit {0}) Unsound) → e.key ≡ (get_or (held_by P) g no_entry).key
      → ChangesIn p (holds_at most (page_in w p) s 0) (instead s e (node_in w p)) w w' c → Leaves w P (write P.whole g e) w'
  unfolding held Formed meets write
  write-leaves w' e c k changes =
      let h = P.whole.levels in
      let t = P.whole.tree in
      let after : held (write P.whole g e) ≡ set (held_by P) g e = write-held least P.whole g e (written-formed a r) b in
      let same : (i : ℕ) → i < first_word today 0 → word w' i ≡ word w i = front-word (first_word today 0) w w' changes.only.front in
      let holds = changes.holds (holds_at_lem most (page_in w p) s 0 pool-spotted.many pool-spotted.slot (omega arith)) in
      record {
        long = changes.only.long;
        words = λ i l _ _ _. same i (omega arith);
        count = same 2 (omega arith) ∙ head-word a 2 (omega arith) ∙ sym (ap length after ∙ length-set (held_by P) g e);
        root = same 3 (omega arith) ∙ head-word a 3 (omega arith) ∙ sym (write-at-root h t g e);
        levels = same 4 (omega arith) ∙ head-word a 4 (omega arith);
        key = key-stays (held_by P) (held (write P.whole g e)) P.cursor (λ i _. rw after (set-keys (held_by P) g e b k i));
        bits = λ q. rw (only-map changes.only) (written-bits a q ∙ sym (write_meets least P.whole g e (written-formed a r) b q));
        stands = write-stands least (page_in w) (page_in w') p s e (λ q n. sym (changes.only.others q (n, tt))) holds 1 h t g (written-formed a r) (written_stands a) b r.once at;
      }

-- in a sound pool: what the spot of a gap says of the entry after it
module _ (w : List ℕ) (sound : Sound w) (g : ℕ) (within : g ≤ length (held_by (pool_of w))) where
  abbrev spotted-by : Option Spot
  spotted-by = spot_of (pool_of w).whole.levels (pool_of w).whole.tree g

  pub spot-there : {p s : ℕ} → spotted-by ≡ Some (spot p s) → (g < length (held_by (pool_of w))) × (entry_in most (page_in w p) s ≡ get_or (held_by (pool_of w)) g no_entry)
  unfolding held Formed pool_of geometry_of
  spot-there {p} {s} e =
      let P = pool_of w in
      let right = sound-right w sound in
      let there : g < length (held_by P) =
      either_lt g (length (held_by P)) (λ l. l)
      (λ l. never (cc (e, spot-end least 1 P.whole.levels P.whole.tree g right.formed (omega arith)))) in
      (there, spot-entry w P right (sound-written w sound) g p s there e)

  pub spot_past : spotted-by ≡ None → length (held_by (pool_of w)) ≤ g
  unfolding held Formed pool_of geometry_of
  spot_past e =
      let P = pool_of w in
      either_lt g (length (held_by P))
      (λ l.
      let some = spot-some least 1 P.whole.levels P.whole.tree g (sound-right w sound).formed l (Some (spot 0 0)) in
      never (cc (rw e at some)))
      (λ l. l)

-- the value of the entry that is read is put into its place
pub writes : (w w' : List ℕ) (p s key before v : ℕ) (c : Result (Unit {0}) Unsound) → entry key before ≡ entry_in most (page_in w p) s
    → ChangesIn p (holds_at most (page_in w p) s 0) (instead s (entry key v) (node_in w p)) w w' c → Writes p s v w w' before
writes w w' p s key before v c e changes = record {
  only = changes.only;
  before = λ g sound b at.
      ap (λ (x : Entry). x.value) (e ∙ spot-entry w (pool_of w) (sound-right w sound) (sound-written w sound) g p s b at);
  holds = λ g sound b at.
      let P = pool_of w in
      let r = sound-right w sound in
      let a = sound-written w sound in
      let k : key ≡ (get_or (held_by P) g no_entry).key = ap (λ (x : Entry). x.key) (e ∙ spot-entry w P r a g p s b at) in
      rw (← k) (leaves-written w P (write P.whole g (entry key v)) w' a (write-leaves w P r a g p s b at w' (entry key v) c k changes));
}
