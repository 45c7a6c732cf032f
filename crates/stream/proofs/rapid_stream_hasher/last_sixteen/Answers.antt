-- The last 16 of the first bytes of the data, or those before it where it had none. Assumes nothing.
use Rattle.stream.proofs.Slide.{slide_sixteen, slide_zero}
use Rattle.stream.proofs.rapid_stream_hasher.last_sixteen.Goals as goal

pub returns-then-at-ge-CHUNK_PREV : goal.returns-then-at-ge-CHUNK_PREV
returns-then-at-ge-CHUNK_PREV c = search slide_sixteen

pub returns-else-at-ge-CHUNK_PREV : goal.returns-else-at-ge-CHUNK_PREV
returns-else-at-ge-CHUNK_PREV c = search slide_zero
