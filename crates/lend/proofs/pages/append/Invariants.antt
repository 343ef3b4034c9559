-- `pages::append` meets its contract: page `l` holds its own entries, the one between and the first j of page `r` after
-- each turn.
use Prim.Native.Nat.{◌+◌}
use Rattle.lend.proofs.Copied.{Joining}
use Rattle.lend.proofs.pages.append.Given as goal

abbrev pub invariant-loop-j : goal.invariant-loop-j
invariant-loop-j l = Joining l.l l.r (l.n + 1 + l.j) l.initial.pool l.pool
