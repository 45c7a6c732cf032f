-- The loop's invariant: the lanes are those of the step's first j. Assumes nothing.
use Rattle.std.proofs.Common.{rules}
use Rattle.rapidhash.specs.Hash.{chunk_step}
use Rattle.rapidhash.proofs.Lanes.{step_more}
use Rattle.rapidhash.proofs.v3.lanes.chunk_step.Goals as goal

pub loop-j-init : goal.loop-j-init
unfolding chunk_step
loop-j-init g c = search rules

pub loop-j-preserved : goal.loop-j-preserved
loop-j-preserved g c = step_more _ _ _ _ _ c.loop-j.invariant c.mix_pair.ensures
