-- The rule itself. Assumes nothing.
use Rattle.rapidhash.specs.Hash.{avalanched}
use Rattle.rapidhash.proofs.v3.rapid_const.rapidhash_finish.Goals as goal

pub returns : goal.returns
unfolding avalanched
returns c = c.rapid_mix.ensures
