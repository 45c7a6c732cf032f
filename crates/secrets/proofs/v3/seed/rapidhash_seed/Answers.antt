-- The table of the code is `defaults`. Assumes nothing.
use Rattle.secrets.specs.Secrets.{stirred, defaults}
use Rattle.secrets.proofs.v3.seed.rapidhash_seed.Goals as goal

pub returns : goal.returns
unfolding stirred defaults
returns c = cc
