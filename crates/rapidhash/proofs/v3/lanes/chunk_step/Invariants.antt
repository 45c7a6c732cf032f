-- The loop's invariant: the lanes are those of the step's first j. Assumes nothing.
use Rattle.std.proofs.Common.{◌≡◌, not, eqb}
use Rattle.rapidhash.specs.Hash.{chunk_step}
use Rattle.rapidhash.proofs.v3.lanes.chunk_step.Given as goal

abbrev pub invariant-loop-j : goal.invariant-loop-j
invariant-loop-j g l = l.lanes ≡ chunk_step l.j (not (eqb g.row.PROTECTED 0)) l.secrets l.chunk l.initial.lanes
