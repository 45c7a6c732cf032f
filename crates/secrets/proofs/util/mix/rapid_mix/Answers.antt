-- The rule itself. Assumes nothing.
use Rattle.secrets.proofs.Folded.{mix_words}
use Rattle.secrets.proofs.util.mix.rapid_mix.Goals as goal

pub returns : goal.returns
returns c = mix_words _ _ _ c.rapid_mum-m.ensures
