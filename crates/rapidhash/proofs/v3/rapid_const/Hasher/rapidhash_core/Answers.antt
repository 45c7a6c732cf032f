-- The last step on the ends. Assumes nothing.
use Rattle.rapidhash.proofs.Steps.{hash_steps}
use Rattle.rapidhash.proofs.v3.rapid_const.Hasher.rapidhash_core.Goals as goal

pub returns : goal.returns
returns g c = search hash_steps
