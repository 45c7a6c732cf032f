-- All bytes are taken: `write_took`. Assumes nothing.
use Rattle.stream.proofs.Answers.{write_took}
use Rattle.stream.proofs.rapid_stream_hasher.RapidStreamHasher.write.Goals as goal

pub returns-in-Ok : goal.returns-in-Ok
returns-in-Ok c =
    let ready = c.in-Ok.ensures in
    write_took c.args.self c.args.«data».now ready.0 c.in-Ok.h.is_sound ready.1 c.with_bytes-next.ensures
