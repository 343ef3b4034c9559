-- `insert::insert` meets its contract: the pages needed are counted, and where they are there the entry goes in along
-- the path, a new root is made where the old one split, and the count is one more.
use Rattle.std.proofs.Common.{◌*◌, ◌≤◌, length, sym, ◌∙◌, arith}
use borrow.Author.Tests.{leb-true, leb-false}
use Rattle.model.specs.Layout.{head_words, most_pages, most_entries, first_word, word, today}
use Rattle.model.specs.Head.{geometry_of}
use Rattle.lend.specs.Pages.{least}
use Rattle.tree.specs.Sits.{pages_of, slots_of}
use Rattle.tree.specs.Insert.{frees_in}
use Rattle.model.proofs.Basics.{front-word}
use Rattle.model.proofs.Head.{head-facts}
use Rattle.lend.proofs.Fitting.{headed-sized}
use Rattle.tree.proofs.Paths.{pages-long}
use Rattle.tree.proofs.Inserting.{Topped, topped-none, topped-long, topped-count, inserts-full, inserts-done}
use Rattle.tree.proofs.insert.insert.Goals as goal
use Rattle.tree.proofs.insert.insert.Goals.{Joined-insert_along, else-k-gt0-via-then-k-gt0+else-not-has_free, else-k-gt0-via-else-k-gt0, in-Some, in_default}
use Rattle.page.specs.Page.{plain}

pub has_free-requires : goal.has_free-requires
has_free-requires c = headed-sized c.args.pool.now c.requires.pool_value

pub returns-then-not-has_free : goal.returns-then-not-has_free
returns-then-not-has_free c =
    let a = c.args in
    inserts-full a.pool.now (pages_of a.path.now) (slots_of a.path.now) (plain a.entry) c.needed-k.result c.needed-k.ensures
    (leb-false _ _ (sym c.has_free.ensures ∙ c.if-not-has_free.true))

pub insert_along-requires-clause-sized : goal.insert_along-requires-clause-sized
insert_along-requires-clause-sized c = headed-sized c.args.pool.now c.requires.pool_value

pub new_root-requires : goal.new_root-requires
unfolding geometry_of
new_root-requires c =
    let z = headed-sized c.args.pool.now c.requires.pool_value in
    omega (arith, c.insert_along.ensures.long, c.requires.path_len, (head-facts c.args.pool.now c.requires.pool_value).levels)

topped : (c : Joined-insert_along) → Topped (pages_of c.args.path.now) c.insert_along.result c.insert_along.new.pool c.match-insert_along.pool
topped c =
    elim c.match-insert_along.branch [
      | in-Some w ↦ rw (w.in-Some.is, w.pool-is, pages-long c.args.path.now, ← w.root_of.ensures) w.new_root.ensures
      | in_default w ↦ topped-none (pages_of c.args.path.now) c.insert_along.result c.insert_along.new.pool c.match-insert_along.pool w.in_default.not-Some w.pool-is
    ]

stored : (c : Joined-insert_along)
    → (first_word today 0 ≤ length c.match-insert_along.pool) × (word c.match-insert_along.pool 2 ≤ most_entries least * most_pages today)
unfolding geometry_of
stored c =
    let w = c.args.pool.now in
    let z = headed-sized w c.requires.pool_value in
    let f = head-facts w c.requires.pool_value in
    omega (
      arith,
      topped-long (pages_of c.args.path.now) c.insert_along.result c.insert_along.new.pool c.match-insert_along.pool (topped c),
      c.insert_along.ensures.long,
      topped-count (pages_of c.args.path.now) c.insert_along.result c.insert_along.new.pool c.match-insert_along.pool (topped c),
      front-word head_words w c.insert_along.new.pool c.insert_along.ensures.head 2 (omega arith),
      f.count,
      f.most,
    )

pub bounds-pool-2 : goal.bounds-pool-2
bounds-pool-2 c = let k = stored (goal.at.bounds-pool-2 c).Joined-insert_along in omega arith

pub overflow_add-pool : goal.overflow_add-pool
overflow_add-pool c = let k = stored (goal.at.overflow_add-pool c).Joined-insert_along in omega arith

pub bounds-pool-2-2 : goal.bounds-pool-2-2
bounds-pool-2-2 c = let k = stored (goal.at.bounds-pool-2-2 c).Joined-insert_along in omega arith

pub returns : goal.returns
returns c =
    let a = c.args in
    let enough : c.needed-k.result ≤ length (frees_in a.pool.now) =
    elim c.else-k-gt0.branch [
      | else-k-gt0-via-then-k-gt0+else-not-has_free w ↦ leb-true _ _ (sym w.has_free.ensures ∙ w.if-not-has_free.false)
      | else-k-gt0-via-else-k-gt0 w ↦ omega (arith, w.if-k-gt0.false)
    ] in
    inserts-done a.pool.now (pages_of a.path.now) (slots_of a.path.now) (plain a.entry) c.needed-k.result c.insert_along.new.pool c.insert_along.result c.match-insert_along.pool
    c.requires.pool_value (pages-long a.path.now ∙ c.requires.path_len) c.needed-k.ensures enough c.insert_along.ensures (topped (goal.at.returns c).Joined-insert_along)
