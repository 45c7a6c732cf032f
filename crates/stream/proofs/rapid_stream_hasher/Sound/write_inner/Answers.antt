-- Where none waits the data goes on from there; else the waiting chunk is filled up and mixed. Assumes nothing.
use Rattle.std.proofs.Common.{◌≡◌, length, rules}
use Rattle.stream.proofs.Writes.{none_waits, inner_filled}
use Rattle.stream.proofs.rapid_stream_hasher.Sound.write_inner.Goals as goal

pub returns-then-m-eq0 : goal.returns-then-m-eq0
returns-then-m-eq0 c =
    let h = c.args.self in
    none_waits h.state.now h.whole h.is_sound c.args.«data».now c.if-m-eq0.true c.from_chunk_end.ensures

pub returns : goal.returns
returns c =
    let h = c.args.self in
    let full : length c.put-full.result ≡ 128 = search rules in
    inner_filled h.state.now h.whole h.is_sound c.args.«data».now c.put-full.result c.requires.0
    c.put-full.ensures full c.mix_first-next.ensures c.from_chunk_end-2.ensures
