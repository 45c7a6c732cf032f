-- The opening state of the same settings. Assumes nothing.
use Rattle.stream.specs.State.{reset_of}
use Rattle.stream.proofs.rapid_stream_hasher.RapidStreamHasher.reset.Goals as goal

pub returns : goal.returns
unfolding reset_of
returns c = c.opening.ensures
