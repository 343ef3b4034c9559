-- The words that hold a pool: the head by what the pool holds, the map's bits by the pages met, and the tree standing
-- in its pages. A sound pool's words are so, and words that are so are sound and hold that pool: what a call that
-- stores has to show.
-- Assumes nothing.
use mathlib.Core.Path.{◌≡◌, sym, ap, ◌∙◌, refl}
use mathlib.Core.Bool.{cond, true}
use mathlib.Core.List.{List}
use Prim.Native.Nat.{ℕ, zero, suc, pred, ◌≤◌, ◌<◌}
use native.Mathlib.Nat.{mul-le-mul_left}
use native.Mathlib.Omega.{arith}
use lib.Dec.{eqb}
use lib.ListN.{length, get_or}
use borrow.Author.Tests.{eq-eqb, ne_eqb}
use Rattle.model.specs.declared.Geometry.{Geometry}
use Rattle.model.specs.Basics.{tab}
use Rattle.model.specs.Layout.{word, most_entries}
use Rattle.model.specs.Head.{geometry_of, least_of, page_count, count_word, root_word, levels_word, open_word, after_word, key_word}
use Rattle.model.specs.Tree.{Entry, held, Rising, Formed, Tree, meets, entries, times, Shaped, size}
use Rattle.model.specs.Page.{page_of}
use Rattle.model.specs.Standing.{Standing, root_of}
use Rattle.model.specs.Entries.{Cursor, shut, gap, gap_after, has}
use Rattle.model.specs.Pool.{Pool, held_by, whole_of, cursor_of, pool_of, open_gap, least_by}
use Rattle.model.specs.Sound.{Sound}
use Rattle.model.specs.Written.{open_in, head_of, Written, after_in, key_in}
use Rattle.model.proofs.Numbers.{pages_of}
use Rattle.model.proofs.Cases.{either-eq, either_lt, same_self}
use Rattle.model.proofs.Basics.{get_or-tab}
use Rattle.model.proofs.Lawful.{pages-of, geometry-lawful}
use Rattle.model.proofs.Head.{HeadFacts, head-facts, head-fits}
use Rattle.model.proofs.Entries.{has_key, gap-after-has, gap-after-entry, has-entry}
use Rattle.model.proofs.Gap.{size-some}
use Rattle.model.proofs.Standing.{read-root, read-standing, standing-read, standing-heights}
use Rattle.model.proofs.Right.{Right, right-full, right-pages, right-levels}

-- ---- a sound pool's words

module _ (w : List ℕ) (s : Sound w) where
  facts : HeadFacts w
  facts = head-facts w s.head

  cursor-said : (open_word w ≡ open_in (cursor_of w)) × (after_word w ≡ after_in (cursor_of w)) × (key_word w ≡ key_in (held (whole_of w)) (cursor_of w))
  unfolding cursor_of
  cursor-said =
      let o : open_word w ≤ 1 = facts.opened in
      let a : after_word w ≤ 1 = facts.after in
      either-eq (open_word w) 0
      (λ z. rw (eq-eqb (open_word w) 0 z) (z, (s.closed z).0, (s.closed z).1))
      (λ n. rw (ne_eqb (open_word w) 0 n)
      (either-eq (after_word w) 0
      (λ z. rw (eq-eqb (after_word w) 0 z) (omega arith, z, s.start z))
      (λ k.
      let q : after_word w ≡ 1 = omega arith in
      let named = has_key (key_word w) (held (whole_of w)) s.rising (s.named q) in
      rw (ne_eqb (after_word w) 0 k, gap-after-has (key_word w) (held (whole_of w)) s.rising (s.named q)) (omega arith, q, sym named.1))))

  root_said : root_word w ≡ root_of (whole_of w).levels (whole_of w).tree
  unfolding whole_of
  root_said =
      either-eq (count_word w) 0
      (λ z. let r = facts.rooted.0 z in read-root (least_of w) (page_of w) (levels_word w) (root_word w) (λ z. r.0) (λ l. omega arith))
      (λ n. let r = facts.rooted.1 (omega arith) in read-root (least_of w) (page_of w) (levels_word w) (root_word w) (λ z. omega arith) (λ l. r.0))

  head-said : tab 9 (word w) ≡ head_of (pool_of w)
  unfolding pool_of whole_of
  head-said = cc (facts.form, facts.pages, s.count, root_said, cursor-said.0, cursor-said.1, cursor-said.2)

  -- the pool's tree stands in its pages
  pool-standing : Standing (least_of w) (page_of w) (whole_of w).levels (whole_of w).tree
  unfolding whole_of
  pool-standing = read-standing (least_of w) (page_of w) (levels_word w) (pred (root_word w)) s.heights

  pub sound-written : Written w (pool_of w)
  unfolding pool_of
  sound-written = record {
    geometry = refl;
    long = facts.long;
    head = head-said;
    spare = facts.spare;
    bits = λ q. sym (s.met q);
    stands = pool-standing;
  }

-- ---- words that hold a pool that is right

-- the cursor by its three words
cursor-back : (es : List Entry) (o a k : ℕ) (c : Cursor) → Rising es → open_gap c ≤ length es → o ≡ open_in c → a ≡ after_in c → k ≡ key_in es c
    → cond (eqb o 0) shut (gap (cond (eqb a 0) 0 (gap_after k es))) ≡ c
cursor-back es o a k shut r b eo ea ek = rw (eq-eqb o 0 eo)
cursor-back es o a k (gap zero) r b eo ea ek = rw (ne_eqb o 0 (omega arith), eq-eqb a 0 ea)
cursor-back es o a k (gap (suc g)) r b eo ea ek =
    rw (ne_eqb o 0 (omega arith), ne_eqb a 0 (omega arith), ek, gap-after-entry g es r b)

-- what the three words say of the cursor
record CursorSaid (es : List Entry) (c : Cursor) : Type 0 where
  opened : open_in c ≤ 1
  after : after_in c ≤ 1
  closed : open_in c ≡ 0 → (after_in c ≡ 0) × (key_in es c ≡ 0)
  start : after_in c ≡ 0 → key_in es c ≡ 0
  named : after_in c ≡ 1 → has (key_in es c) es ≡ true

cursor-says : (es : List Entry) (c : Cursor) → Rising es → open_gap c ≤ length es → CursorSaid es c
cursor-says es shut r b =
    record { opened = omega arith; after = omega arith; closed = λ z. (refl, refl); start = λ z. refl; named = λ z. absurd (omega arith) }
cursor-says es (gap zero) r b =
    record { opened = omega arith; after = omega arith; closed = λ z. (refl, refl); start = λ z. refl; named = λ z. absurd (omega arith) }
cursor-says es (gap (suc g)) r b =
    record { opened = omega arith; after = omega arith; closed = λ z. absurd (omega arith); start = λ z. absurd (omega arith); named = λ z. has-entry g es r b }

-- the root's page is inside the pool, and there is a root where there is an entry
root-inside : (h : ℕ) (t : Tree h) (P : ℕ) → ((q : ℕ) → P ≤ q → times q h t ≡ 0) → root_of h t ≤ P
unfolding times
root-inside zero t P z = omega arith
root-inside (suc h) t P z = either_lt t.page P (λ b. b) (λ b. omega (arith, z t.page b, same_self t.page))

root-there : (m h : ℕ) (t : Tree h) → Shaped m 1 h t
    → (size h t ≡ 0 → (root_of h t ≡ 0) × (h ≡ 0)) × (0 < size h t → (0 < root_of h t) × (0 < h))
unfolding entries
root-there m zero t s = (λ z. (refl, refl), λ l. absurd (omega arith))
root-there m (suc h) t s = (λ z. absurd (omega (arith, size-some m 1 h t (omega arith) s)), λ l. omega arith)

-- P
pub written-pages : {w : List ℕ} {p : Pool} → Written w p → page_count w ≡ p.pages
written-pages {w} {p} a = pages-of (geometry_of w) (geometry-lawful w) (length w) p.pages (rw a.geometry a.long)

module _ (w : List ℕ) (p : Pool) (r : Right p) (a : Written w p) where
  pages-back : page_count w ≡ p.pages
  pages-back = written-pages a

  least-back : least_of w ≡ least_by p
  least-back = ap (λ (γ : Geometry). γ.least) a.geometry

  at-word : (i : ℕ) → i < 9 → word w i ≡ get_or (head_of p) i 0
  at-word i l = sym (get_or-tab 9 (word w) i 0 l) ∙ ap (λ (h : List ℕ). get_or h i 0) a.head

  whole_back : whole_of w ≡ p.whole
  unfolding whole_of Formed
  whole_back =
      let L = p.whole.levels in
      rw (at-word 4 (omega arith), at-word 3 (omega arith))
      (ap (λ (t : Tree L). record { levels = L; tree = t }) (standing-read (least_of w) 1 (page_of w) L p.whole.tree (rw least-back r.formed) a.stands))

  cursor-is : cursor_of w ≡ p.cursor
  unfolding cursor_of
  cursor-is =
      rw whole_back
      (cursor-back (held_by p) (open_word w) (after_word w) (key_word w) p.cursor r.rising r.within
      (at-word 5 (omega arith)) (at-word 6 (omega arith)) (at-word 7 (omega arith)))

  pub written-pool : pool_of w ≡ p
  unfolding pool_of
  written-pool = rw (pages-back, at-word 8 (omega arith), whole_back, cursor-is, a.geometry)

  cursor-words : CursorSaid (held_by p) p.cursor
  cursor-words = cursor-says (held_by p) p.cursor r.rising r.within

  facts-back : HeadFacts w
  unfolding meets held Formed
  facts-back =
      let rooted = root-there (least_by p) p.whole.levels p.whole.tree r.formed in
      let n = at-word 2 (omega arith) in
      let root = at-word 3 (omega arith) in
      let levels = at-word 4 (omega arith) in
      let open-word = at-word 5 (omega arith) in
      let kind = at-word 8 (omega arith) in
      record {
        some = rw pages-back r.some;
        most = rw (pages-back, a.geometry) r.most;
        long = rw (pages-back, a.geometry) a.long;
        form = at-word 0 (omega arith);
        pages = rw pages-back (at-word 1 (omega arith));
        count =
            let few : pages_of p.whole ≤ p.pages = omega (arith, right-pages p r) in
            rw (pages-back, n, least-back) (omega (arith, right-full p r, mul-le-mul_left (most_entries (least_by p)) few));
        root = rw (pages-back, root) (root-inside p.whole.levels p.whole.tree p.pages r.inside);
        levels = rw (levels, a.geometry) (right-levels p r);
        opened = rw open-word cursor-words.opened;
        after = rw (at-word 6 (omega arith)) cursor-words.after;
        kind = rw kind r.kind;
        set-shut =
            rw (kind, open-word)
            (either-eq p.kind 1
            (λ e. rw (r.closed e) (omega arith))
            (λ e. omega (arith, cursor-words.opened, r.kind)));
        rooted = rw (n, root, levels) rooted;
        spare = a.spare;
      }

  pub written-sound : Sound w
  unfolding Formed
  written-sound = record {
    head = head-fits w facts-back;
    met = λ q. rw whole_back (sym (a.bits q));
    past = λ q h. a.bits q ∙ r.inside q (rw pages-back at h);
    heights = rw (at-word 4 (omega arith), at-word 3 (omega arith)) (standing-heights (least_of w) (page_of w) p.whole.levels p.whole.tree a.stands);
    formed = rw (whole_back, least-back) r.formed;
    rising = rw whole_back r.rising;
    count = rw whole_back (sym (at-word 2 (omega arith)));
    values = λ k. rw whole_back (r.zeros (sym (at-word 8 (omega arith)) ∙ k));
    closed = rw (at-word 5 (omega arith), at-word 6 (omega arith), at-word 7 (omega arith)) cursor-words.closed;
    start = rw (at-word 6 (omega arith), at-word 7 (omega arith)) cursor-words.start;
    named = rw (whole_back, at-word 6 (omega arith), at-word 7 (omega arith)) cursor-words.named;
  }
