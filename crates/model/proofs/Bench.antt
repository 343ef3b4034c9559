-- Document 01's bench cases (a) to (n), by computation.
-- Assumes nothing.
use mathlib.Core.Path.{refl}
use Rattle.model.specs.Basics.{same}
use Rattle.model.specs.Layout.{allowed}
use Rattle.model.specs.PageMap.{free_from, free_pages}
use Rattle.model.specs.Tree.{entries, times, held, meets}
use Rattle.model.specs.Entries.{has, lookup, gap_of, key_fits}
use Rattle.model.specs.Insert.{fit, put, insert_at, top, insert, run, needed}
use Rattle.model.specs.Mend.{from_right, repair, plan, mend}
use Rattle.model.specs.Remove.{step, remove_at, collapse, remove_in, remove}
use Rattle.model.specs.Write.{write_at, write}
use Rattle.model.specs.Pool.{free_of}
use Rattle.model.specs.MapCalls.{file, no_room, strike}
use Rattle.model.specs.Bench.{Table, Lengths}

pub table : Table
unfolding same free_from free_pages entries times held meets has lookup gap_of key_fits fit put insert_at top insert run needed from_right repair plan mend step remove_at collapse remove_in remove write_at write free_of file no_room strike
table = record {
  tens-room = refl;
  a = refl;
  b = refl;
  c = refl;
  d = refl;
  e = refl;
  f = refl;
  g = refl;
  h = refl;
  i-room = refl;
  i = refl;
  i-gap = refl;
  j = refl;
  j-gap = refl;
  k-room = refl;
  k = refl;
  l = refl;
  m = refl;
  n = refl;
  n-free = refl;
}

pub lengths : Lengths
unfolding allowed
lengths = record { smallest = refl; usual = refl; usual-pages = refl; largest = refl; refused = refl }
