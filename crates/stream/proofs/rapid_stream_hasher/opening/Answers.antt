-- The stream of no bytes, held: `opening_held`. Assumes nothing.
use Rattle.stream.proofs.Hold.{opening_held}
use Rattle.stream.proofs.rapid_stream_hasher.opening.Goals as goal

pub returns : goal.returns
returns c = opening_held c.args.settings c.blank.ensures
