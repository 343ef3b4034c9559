-- `entry::seek`: what is read at the spot after the path's gap tells whether the key is there.
use Rattle.map.proofs.Placing.{seeks-end, seeks-here, seeks-other}
use Rattle.map.proofs.entry.seek.Goals as goal

pub returns-in_default : goal.returns-in_default
returns-in_default c = seeks-end c.in_ok-seek.ensures c.spot_after.ensures c.in_default.is

pub returns-then-entry_at-key : goal.returns-then-entry_at-key
returns-then-entry_at-key c =
    seeks-here c.in_ok-seek.ensures c.spot_after.ensures c.in-Some.is c.entry_at.ensures c.if-entry_at-key.true

pub returns : goal.returns
returns c = seeks-other c.in_ok-seek.ensures c.spot_after.ensures c.in-Some.is c.entry_at.ensures c.if-entry_at-key.false
