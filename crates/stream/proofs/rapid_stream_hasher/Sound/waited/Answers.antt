-- The bytes in the place of zeros: `waited_is`. Assumes nothing.
use Rattle.stream.proofs.Writes.{waited_is}
use Rattle.stream.proofs.rapid_stream_hasher.Sound.waited.Goals as goal

pub returns : goal.returns
returns c =
    let h = c.args.self in
    waited_is h.state.now h.whole h.is_sound c.args.«data».now _ c.requires c.put.ensures
