-- The clauses in the order in which they are tested: `sound_in_order`. Assumes nothing.
use Rattle.stream.proofs.Clauses.{sound_in_order}
use Rattle.stream.proofs.rapid_stream_hasher.is_sound.Goals as goal

pub returns-then-is_sized : goal.returns-then-is_sized
returns-then-is_sized c = rw (sound_in_order, ← c.is_sized.ensures, c.if-is_sized.true) c.is_in_order.ensures

pub returns-else-is_sized : goal.returns-else-is_sized
returns-else-is_sized c = rw (sound_in_order, ← c.is_sized.ensures, c.if-is_sized.false)
