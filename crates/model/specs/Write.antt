-- An entry overwritten in its place: what insert of a key present, replace, write next and write prev do to the tree.
-- No page is needed or freed.
-- Assumes nothing: these are definitions.
use Rattle.std.specs.Prelude.{cond, ℕ, zero, suc, ltb, set}
use Rattle.model.specs.Tree.{Entry, Tree, Whole, size}
use Rattle.model.specs.Gap.{slot_at, rest_at, child_at}

-- e in the place of entry g
unfoldable pub write_at : (h : ℕ) → Tree h → ℕ → Entry → Tree h
write_at zero t g e = t
write_at (suc h) t g e =
    cond (ltb (rest_at h t g) (size h (child_at h t g)))
    (record {
      page = t.page;
      own = t.own;
      children = set t.children (slot_at h t g) (write_at h (child_at h t g) (rest_at h t g) e);
    })
    (record { page = t.page; own = set t.own (slot_at h t g) e; children = t.children })

unfoldable pub write : Whole → ℕ → Entry → Whole
write x g e = record { levels = x.levels; tree = write_at x.levels x.tree g e }
