-- The rule itself. Assumes nothing.
use Rattle.rapidhash.proofs.Lanes.{pair_words}
use Rattle.rapidhash.proofs.v3.lanes.mix_pair.Goals as goal

pub returns : goal.returns
returns c = search pair_words
