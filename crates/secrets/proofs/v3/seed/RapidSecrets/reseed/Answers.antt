-- The seed premixed with 6: `seed_again`. Assumes nothing.
use Rattle.secrets.proofs.Chain.{seed_again}
use Rattle.secrets.proofs.v3.seed.RapidSecrets.reseed.Goals as goal

pub returns : goal.returns
returns c = seed_again c.args.self c.premix_seed.ensures
