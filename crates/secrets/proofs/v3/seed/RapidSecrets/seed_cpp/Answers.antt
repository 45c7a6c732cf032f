-- The seed stirred with secret 1, and the table of the code, which is `defaults`: `seed_plain`. Assumes nothing.
use Rattle.secrets.specs.Secrets.{defaults}
use Rattle.secrets.proofs.Chain.{seed_plain}
use Rattle.secrets.proofs.v3.seed.RapidSecrets.seed_cpp.Goals as goal

pub returns : goal.returns
unfolding defaults
returns c = seed_plain c.args.seed c.rapidhash_seed.ensures
