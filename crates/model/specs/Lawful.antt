-- What the laws ask of a geometry, so that they hold of every one that a head may come to name: document 01's is
-- lawful, and so are larger pages and longer pools (proofs/Lawful). No promise of a call speaks of it.
-- Assumes nothing: these are definitions.
use Rattle.std.specs.Prelude.{suc, ◌+◌, ◌*◌, ◌^◌, ◌≤◌, ◌<◌}
use Rattle.model.specs.declared.Geometry.{Geometry}
use Rattle.model.specs.Layout.{page_words, map_words, most_pages, most_levels, most_entries}

pub record Lawful (γ : Geometry) : Type 0 where
  -- a page that is not the root has an entry
  pub some : 1 ≤ γ.least
  -- a page has words for count, height, keys, values and children
  pub roomy : 3 + 3 * most_entries γ.least ≤ page_words γ
  -- the map has a bit for each page
  pub mapped : most_pages γ ≤ 64 * map_words γ
  -- a tree of one level more takes more pages than there may be
  pub deep : γ.least * most_pages γ + 2 < γ.least + 2 * suc γ.least ^ most_levels γ
