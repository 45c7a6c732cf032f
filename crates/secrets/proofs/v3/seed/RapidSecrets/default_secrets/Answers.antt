-- The constant is what the rule computes. Assumes nothing.
use Rattle.std.proofs.Common.{refl}
use Rattle.secrets.specs.Mix.{mix, mum, low, high}
use Rattle.secrets.specs.Secrets.{seed_cpp, stirred, defaults}
use Rattle.secrets.proofs.v3.seed.RapidSecrets.default_secrets.Goals as goal

pub returns : goal.returns
unfolding seed_cpp stirred defaults mix mum low high
returns c = refl
