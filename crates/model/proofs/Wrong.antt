-- Wrong bodies are refused. Document 01's five, for every sound pool on which they are wrong; its six errors that look
-- right, for whatever body makes them; and for each shape of promise two bodies more, as for what inner contracts say
-- of a page. docs/WRONG.md lists them. Assumes nothing.
use mathlib.Core.Path.{◌≡◌, refl, sym, ap, ◌∙◌}
use mathlib.Core.Bool.{true, false, not}
use mathlib.Core.Logic.{◌⊎◌, inl, inr, ⊎_elim, ◌≢◌}
use mathlib.Core.Option.{Option, none, some}
use mathlib.Core.List.{List, [], ◌∷◌, map}
use Prim.Native.Nat.{ℕ, suc, ◌*◌, ◌≤◌, ◌<◌}
use native.Mathlib.Omega.{arith}
use lib.Dec.{eqb}
use lib.ListN.{length, take, length-take}
use borrow.Author.Tests.{eq-eqb, ne_eqb, ltb-true}
use Rattle.model.specs.declared.Geometry.{Geometry}
use Rattle.model.specs.Basics.{All}
use Rattle.model.specs.Layout.{word}
use Rattle.model.specs.Head.{geometry_of, count_word, levels_word, open_word, after_word, key_word, kind_word, headed}
use Rattle.model.specs.PageMap.{map_of, bit_at}
use Rattle.model.specs.Tree.{Entry, Node, meets}
use Rattle.model.specs.Page.{entries_of, children_of}
use Rattle.model.specs.Standing.{Holds}
use Rattle.model.specs.Bound.{Bound, unbounded}
use Rattle.model.specs.Entries.{has, lookup, gap_before, gap_after, gap, key_fits, above, under, between}
use Rattle.model.specs.Search.{Found}
use Rattle.model.specs.Pool.{pool_of, whole_of, held_by, gap_by}
use Rattle.model.specs.Sound.{Sound}
use Rattle.model.specs.Refusal.{Test, map_kind, unfit, refusal}
use Rattle.model.specs.Call.{Call, Outcome, refused, answered, left, number, Meets, ReadsPages}
use Rattle.model.specs.PoolCalls.{make_tests, fresh, Makes, Clears, Counts, TellsEmpty, cursorless, Copies, Checks}
use Rattle.model.specs.MapCalls.{pages_read, map_insert, map_get, map_remove}
use Rattle.model.specs.ListCalls.{Column, value_column, shortest, listed, fronted, list_tests, Lists}
use Rattle.model.specs.CursorCalls.{next_of, prev_of, cursor_tests, cursor_open_upper, cursor_next, cursor_insert_after, Closes}
use Rattle.model.specs.Playback.{played, Plays}
use Rattle.model.specs.Season.{Season, number_in}
use Rattle.model.specs.Source.{view}
use Rattle.model.specs.Wrong.{Body, Fails, only_refuses, fixed_answer, changes_nothing, moves_once, invents_pages, page_order}
use Rattle.model.proofs.Cases.{never, contrary}
use Rattle.model.proofs.Basics.{every_true}
use Rattle.model.proofs.Entries.{has-lookup, gap-after-has}
use Rattle.model.proofs.Right.{sound-right}
use Rattle.model.proofs.Keeps.{passed, of-kind, insert-fits}
use Rattle.model.proofs.Meets.{given-answered, given-refused, gap-passes}
use Rattle.model.proofs.Making.{exact-answered, exact-refused}
use Rattle.model.proofs.Cursorless.{cursorless-high, cursorless-mid}
use Rattle.model.proofs.Reading.{read-absent}
use Rattle.model.proofs.Season.{season-demand}
use Rattle.model.proofs.SourceMap.{strike-lookup}
use Rattle.model.proofs.SourceList.{list-passed, those-all}

-- ---- of any call: a sound pool, and words and an outcome that it should not have

module _ {A : Type 0} (c : Call A) (w : List ℕ) (s : Sound w) where
  -- a call that only refuses: wherever its number is not the one that is due
  pub refuses-fails : (n : ℕ) → number c w ≢ n → Fails c (only_refuses n) w
  refuses-fails n other m = other (given-refused (number c w) n (c.answer (pool_of w)) (m.exact s)).0

  -- one fixed answer: wherever it is not the call's
  pub fixed-fails : (a : A) → a ≢ c.answer (pool_of w) → Fails c (fixed_answer a) w
  fixed-fails a other m = other (given-answered (number c w) (c.answer (pool_of w)) a (m.exact s)).1

  -- what a call that nothing refuses leaves
  leaves : number c w ≡ 0 → (v : List ℕ) (r : Outcome A) → Meets c w v r → pool_of v ≡ c.after (pool_of w)
  leaves pass v r m = m.holds s ∙ ap (λ (n : ℕ). left n (pool_of w) (c.after (pool_of w))) pass

  -- a pool left that is not the call's: so fails a split that stops one level short
  pub other-pool-fails : (body : Body A) → number c w ≡ 0 → pool_of (body w).0 ≢ c.after (pool_of w) → Fails c body w
  other-pool-fails body pass other m = other (leaves pass (body w).0 (body w).1 m)

  -- nothing changed: wherever the call changes what the pool holds
  pub nothing-fails : number c w ≡ 0 → c.after (pool_of w) ≢ pool_of w → Fails c (changes_nothing c) w
  nothing-fails pass other m = other (sym (leaves pass w _ m))

  -- a page that is not met, with its bit set: so fails a joined page whose bit stays set
  pub kept-bit-fails : (body : Body A) (q : ℕ) → meets q (whole_of (body w).0) ≡ 0 → bit_at (map_of (body w).0) q ≡ 1 → Fails c body w
  kept-bit-fails body q unmet set m = omega (arith, (m.sound s).met q)

  -- a word touched where nothing changes
  pub touched-fails : (body : Body A) → c.still (pool_of w) ≡ true → (body w).0 ≢ w → Fails c body w
  touched-fails body still other m = other (m.still s still)

-- a refusal after a store, on any words
pub stored-fails : {A : Type 0} (c : Call A) (w : List ℕ) (body : Body A) (n : ℕ) → (body w).1 ≡ refused n → (body w).0 ≢ w → Fails c body w
stored-fails c w body n is other m = other (m.kept n is)

-- ---- the five

-- a call that only refuses, by the room clause
pub full-fails : {γ : Geometry} {P accepted gone : ℕ} {w : List ℕ} (k x : ℕ) → Season γ P accepted gone w → number_in w ≤ γ.least * P
    → Fails (map_insert k x) (only_refuses 7) w
full-fails {w = w} k x season few = ((season-demand season).room few k x w).0

-- a get with one fixed answer: on every sound map that has a key and lacks another, one of the two fails
pub fixed-get-fails : (a : Found) (w : List ℕ) → Sound w → (k j x : ℕ) → view w k ≡ some x → view w j ≡ none
    → Fails (map_get k) (fixed_answer a) w ⊎ Fails (map_get j) (fixed_answer a) w
fixed-get-fails a w s k j x here gone = go a.value refl
  where
    go : (v : Option ℕ) → a.value ≡ v → Fails (map_get k) (fixed_answer a) w ⊎ Fails (map_get j) (fixed_answer a) w
    go none e = inl (fixed-fails (map_get k) w s a (λ q. let bad : none ≡ some x = sym e ∙ ap (λ (f : Found). f.value) q ∙ here in never (cc)))
    go (some v) e = inr (fixed-fails (map_get j) w s a (λ q. let bad : some v ≡ none = sym e ∙ ap (λ (f : Found). f.value) q ∙ gone in never (cc)))

-- a key that is still there after its removal, in a leaf or as a signpost in an upper page
pub left-fails : (k : ℕ) (w : List ℕ) → Sound w → number (map_remove k) w ≡ 0 → (body : Body (Option ℕ)) → has k (held_by (pool_of (body w).0)) ≡ true
    → Fails (map_remove k) body w
left-fails k w s pass body still m =
    let after = leaves (map_remove k) w s pass (body w).0 (body w).1 m in
    let gone : lookup k (held_by (pool_of (body w).0)) ≡ none = rw after (strike-lookup (pool_of w) (sound-right w s) k k ∙ rw (eq-eqb k k refl)) in
    contrary still (has-lookup k (held_by (pool_of (body w).0)) ∙ rw gone)

-- so a remove that changes nothing, wherever the key is there
pub removes-nothing-fails : (k : ℕ) (w : List ℕ) → Sound w → number (map_remove k) w ≡ 0 → has k (held_by (pool_of w)) ≡ true
    → Fails (map_remove k) (changes_nothing (map_remove k)) w
removes-nothing-fails k w s pass here = left-fails k w s pass (changes_nothing (map_remove k)) here

-- a cursor that moves on its first next and merely claims to later: at every gap after an entry that has one behind it
pub moves-once-fails : (first : Body (Option Entry)) (w : List ℕ) (g : ℕ) (e : Entry) → Sound w → (pool_of w).cursor ≡ gap g → after_word w ≡ 1
    → next_of (pool_of w) ≡ some e → Fails cursor_next (moves_once first) w
moves-once-fails first w g e s open-there after next =
    let stays : Fails cursor_next (changes_nothing cursor_next) w =
    nothing-fails cursor_next w s (gap-passes w s open-there) (λ q. let far : suc (gap_by (pool_of w)) ≡ gap_by (pool_of w) = ap gap_by (rw next at q) in omega arith) in
    rw (ne_eqb (after_word w) 0 (omega arith)) stays

-- an invented page count, wherever it is not the length of the search path; so a count that is always 1, for every
-- absent key of a pool of two levels or more
pub invented-fails : (count : List ℕ → ℕ) (k : ℕ) (w : List ℕ) → Sound w → number (map_get k) w ≡ 0 → count w ≢ pages_read k (pool_of w)
    → Fails (map_get k) (invents_pages count k) w
invented-fails count k w s pass other m =
    fixed-fails (map_get k) w s (record { value = lookup k (held_by (pool_of w)); read = count w }) (λ q. other (ap (λ (f : Found). f.read) q)) (rw pass at m)

pub always-one-fails : (k : ℕ) (w : List ℕ) → Sound w → number (map_get k) w ≡ 0 → has k (held_by (pool_of w)) ≡ false → 2 ≤ levels_word w
    → Fails (map_get k) (invents_pages (λ w. 1) k) w
always-one-fails k w s pass absent deep = invented-fails (λ w. 1) k w s pass (λ q. omega (arith, read-absent k w s absent))

-- more pages than there are levels, on any words: of every call that tells the pages read
pub many-pages-fails : {A : Type 0} (c : Call A) (read : A → ℕ) (w v : List ℕ) (a : A) → levels_word w < read a
    → ReadsPages c read w v (answered a) → ⊥
many-pages-fails c read w v a many m = omega (arith, m.few a refl)

-- ---- errors that look right: whatever body makes them

-- Excluded read alike at both ends: the gap after the key, of a key that is there
pub excluded-alike-fails : (k : ℕ) (w : List ℕ) → Sound w → number (cursor_open_upper 1 k) w ≡ 0 → has k (held_by (pool_of w)) ≡ true
    → (body : Body ℕ) → gap_by (pool_of (body w).0) ≡ gap_after k (held_by (pool_of w)) → Fails (cursor_open_upper 1 k) body w
excluded-alike-fails k w s pass here body alike m =
    let after = leaves (cursor_open_upper 1 k) w s pass (body w).0 (body w).1 m in
    let before : gap_by (pool_of (body w).0) ≡ gap_before k (held_by (pool_of w)) = ap gap_by after in
    omega (arith, gap-after-has k (held_by (pool_of w)) (sound-right w s).rising here)

-- the gap stepping over a key just inserted after it
pub steps-over-fails : (k x : ℕ) (w : List ℕ) → Sound w → number (cursor_insert_after k x) w ≡ 0 → (body : Body (Unit {0}))
    → gap_by (pool_of (body w).0) ≡ suc (gap_by (pool_of w)) → Fails (cursor_insert_after k x) body w
steps-over-fails k x w s pass body over m =
    let stays : gap_by (pool_of (body w).0) ≡ gap_by (pool_of w) = ap gap_by (leaves (cursor_insert_after k x) w s pass (body w).0 (body w).1 m) in
    omega arith

-- insert after accepting a key equal to a neighbour
pub equal-neighbour-fails : (k x : ℕ) (w : List ℕ) (e : Entry) → Sound w → (next_of (pool_of w) ≡ some e) ⊎ (prev_of (pool_of w) ≡ some e) → e.key ≡ k
    → (body : Body (Unit {0})) → (body w).1 ≡ answered tt → Fails (cursor_insert_after k x) body w
unfolding key_fits
equal-neighbour-fails k x w e s beside same body accepts m =
    let pass = (given-answered (number (cursor_insert_after k x) w) tt tt (sym accepts ∙ m.exact s)).0 in
    let fits = every_true (above (prev_of (pool_of w)) k ∷ under (next_of (pool_of w)) k ∷ []) (insert-fits k x w pass).0 in
    ⊎_elim
    (λ (n : next_of (pool_of w) ≡ some e). omega (arith, ltb-true k e.key (rw n at fits.1.0)))
    (λ (n : prev_of (pool_of w) ≡ some e). omega (arith, ltb-true e.key k (rw n at fits.0))) beside

-- values listed in the order of pages: the first of them is the root's, and not that of the first key
front-value : (es : List Entry) (e : Entry) (before : List ℕ) → 1 ≤ length before → word (fronted (map (λ e. e.value) (take (length before) (e ∷ es))) before) 0 ≡ e.value
front-value es e [] room = absurd (omega arith)
front-value es e (x ∷ before) room = refl

pub page-order-fails : (w before after : List ℕ) (n : ℕ) (first least : Entry) (rest more : List Entry) → Sound w → 1 ≤ length before
    → page_order (pool_of w).whole.levels (pool_of w).whole.tree ≡ first ∷ rest → held_by (pool_of w) ≡ least ∷ more → first.value ≢ least.value
    → after ≡ fronted (map (λ e. e.value) (take (length before) (page_order (pool_of w).whole.levels (pool_of w).whole.tree))) before
    → Lists (list_tests map_kind 2 2 w) unbounded unbounded w (value_column before after ∷ []) (answered n) → ⊥
page-order-fails w before after n first least rest more s room order held other laid m =
    let wrote = (m.writes s (list-passed m)).0 in
    let right : after ≡ fronted (map (λ e. e.value) (take (length before) (least ∷ more))) before = rw (those-all, held) at wrote in
    other (sym (front-value rest first before room) ∙ ap (λ (l : List ℕ). word l 0) (sym (rw order at laid) ∙ right) ∙ front-value more least before room)

-- ---- calls that look at the head alone

-- make that leaves the words; that refuses a length and a kind that are allowed
pub make-leaves-fails : (kind : ℕ) (w : List ℕ) → count_word w ≢ 0 → Makes kind w w (answered tt) → ⊥
unfolding fresh
make-leaves-fails kind w held m = held (ap count_word (exact-answered m).2)

pub make-refuses-fails : (kind n : ℕ) (w v : List ℕ) → refusal (make_tests kind w) ≡ 0 → Makes kind w v (refused n) → ⊥
make-refuses-fails kind n w v pass m = let e = exact-refused m in omega (arith, e.0, e.1)

-- clear that makes a map of a set; that empties a pool while the cursor is open
pub clear-kind-fails : (w : List ℕ) → kind_word w ≡ 1 → Clears w (fresh (geometry_of w) 0 w) (answered tt) → ⊥
unfolding fresh
clear-kind-fails w set m = let same : 0 ≡ kind_word w = ap kind_word (exact-answered m).2 in omega arith

pub clear-open-fails : (w v : List ℕ) → open_word w ≡ 1 → Clears w v (answered tt) → ⊥
clear-open-fails w v opened m =
    let a = passed (not (headed w)) 1 _ (omega arith) (exact-answered m).0 in
    contrary (eq-eqb (open_word w) 1 opened) (passed (eqb (open_word w) 1) 4 0 (omega arith) a.1).0

-- count that refuses a head that fits, sound or not; that has one fixed answer
pub count-refuses-fails : (n : ℕ) (w v : List ℕ) → headed w ≡ true → Counts w v (refused n) → ⊥
count-refuses-fails n w v fits m = let e = exact-refused m in let z : refusal (unfit w ∷ []) ≡ 0 = rw fits in omega (arith, e.0, e.1)

pub count-fixed-fails : (n : ℕ) (w v : List ℕ) → count_word w ≢ n → Counts w v (answered n) → ⊥
count-fixed-fails n w v other m = other (sym (exact-answered m).1)

-- is-empty that always says yes; that always says no
pub always-empty-fails : (w v : List ℕ) → count_word w ≢ 0 → TellsEmpty w v (answered true) → ⊥
always-empty-fails w v held m = contrary (sym (exact-answered m).1) (ne_eqb (count_word w) 0 held)

pub never-empty-fails : (w v : List ℕ) → count_word w ≡ 0 → TellsEmpty w v (answered false) → ⊥
never-empty-fails w v empty m = contrary (eq-eqb (count_word w) 0 empty) (sym (exact-answered m).1)

-- copy that copies the open cursor along; that stops a word early
pub copied-cursor-fails : (source w : List ℕ) → 8 ≤ length source → open_word source ≡ 1 → Copies source w source (answered tt) → ⊥
copied-cursor-fails source w long opened m =
    let same : open_word source ≡ open_word (cursorless source) = ap open_word (exact-answered m).2 in
    omega (arith, cursorless-mid source long 0)

pub short-copy-fails : (source w v : List ℕ) (i : ℕ) → 8 ≤ i → 8 ≤ length source → word v i ≢ word source i → Copies source w v (answered tt) → ⊥
short-copy-fails source w v i past long other m = other (ap (λ (l : List ℕ). word l i) (exact-answered m).2 ∙ cursorless-high source long i past)

-- close that leaves the gap's words; that closes a closed cursor
pub close-leaves-fails : (w : List ℕ) → 8 ≤ length w → key_word w ≢ 0 → Closes w w (answered tt) → ⊥
close-leaves-fails w long named m = named (ap key_word (exact-answered m).2 ∙ cursorless-mid w long 2)

pub close-closed-fails : (w v : List ℕ) → open_word w ≡ 0 → Closes w v (answered tt) → ⊥
close-closed-fails w v shut m =
    contrary (eq-eqb (open_word w) 0 shut) (passed (eqb (open_word w) 0) 5 0 (omega arith) (of-kind w map_kind _ (exact-answered m).0).2).0

-- check that says yes to words that are no sound pool; that says no to a sound one
pub always-yes-fails : (w : List ℕ) → (Sound w → ⊥) → Checks w true → ⊥
always-yes-fails w unsound m = unsound (m.yes-sound refl)

pub always-no-fails : (w : List ℕ) → Sound w → Checks w false → ⊥
always-no-fails w s m = contrary (m.sound-yes s) refl

-- ---- lists and playback

module _ (tests : List Test) (low high : Bound) (w : List ℕ) (cs : List Column) where
  -- a list that writes past the shortest slice
  pub long-list-fails : (n : ℕ) → Sound w → shortest cs < n → Lists tests low high w cs (answered n) → ⊥
  long-list-fails n s past m =
      let all : n ≡ length (listed low high cs (pool_of w)) = cc (m.exact s (list-passed m)) in
      omega (arith, length-take (shortest cs) (between low high (held_by (pool_of w))))

  -- that is refused and has written
  pub written-list-fails : (n : ℕ) → (All (λ c. c.after ≡ c.before) cs → ⊥) → Lists tests low high w cs (refused n) → ⊥
  written-list-fails n wrote m = wrote (m.kept n refl)

module _ (w v : List ℕ) (cs : List Column) (s : Sound w) (pass : refusal (cursor_tests w) ≡ 0) where
  -- playback that writes and leaves the gap
  pub play-stays-fails : (r : Outcome ℕ) → 1 ≤ length (played cs (pool_of w)) → gap_by (pool_of v) ≡ gap_by (pool_of w) → Plays w v cs r → ⊥
  play-stays-fails r left stays m = let over = ap gap_by (m.holds s pass) in omega arith

  -- that stops before the entries or the slices do
  pub play-short-fails : (n : ℕ) → n < length (played cs (pool_of w)) → Plays w v cs (answered n) → ⊥
  play-short-fails n short m = let all : n ≡ length (played cs (pool_of w)) = cc (m.exact s pass) in omega arith

-- ---- pages, as the inner contracts speak of them: other entries, other children

module _ (most h : ℕ) (x : Node ℕ) (page : List ℕ) where
  pub other-entries-fails : entries_of most page ≢ x.own → Holds most h x page → ⊥
  other-entries-fails other held = other held.own

  pub other-children-fails : 0 < h → children_of most page ≢ x.children → Holds most h x page → ⊥
  other-children-fails upper other held = other (held.children upper)
