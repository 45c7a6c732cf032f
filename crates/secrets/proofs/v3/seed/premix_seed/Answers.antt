-- Stirred, then repaired. Assumes nothing.
use Rattle.secrets.proofs.Chain.{premixed}
use Rattle.secrets.proofs.v3.seed.premix_seed.Goals as goal

pub returns : goal.returns
returns c = search premixed
