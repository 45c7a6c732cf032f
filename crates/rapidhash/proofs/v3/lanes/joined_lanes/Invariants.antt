-- The loop's invariant: x is the XOR of the lanes so far. Assumes nothing.
use Rattle.std.proofs.Common.{◌≡◌}
use Rattle.rapidhash.specs.Hash.{joined}
use Rattle.rapidhash.proofs.v3.lanes.joined_lanes.Given as goal

abbrev pub invariant-loop-lane : goal.invariant-loop-lane
invariant-loop-lane g l = l.x ≡ joined l.lane-index l.lane-items
