-- Each carry is dropped in the code as in the rule: `low_sum`. Assumes nothing.
use Rattle.std.proofs.Common.{refl}
use Rattle.secrets.proofs.Product.{low_sum}
use Rattle.secrets.proofs.util.mix.low_word.Goals as goal

pub returns : goal.returns
returns c = low_sum _ _ c.times-ll.ensures.0 c.times-lh.ensures.0 c.times-hl.ensures.0 refl refl
