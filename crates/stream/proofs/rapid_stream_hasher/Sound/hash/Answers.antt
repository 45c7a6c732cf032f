-- While no chunk is mixed the bytes that wait are the message; else the tail runs over them. Assumes nothing.
use Rattle.stream.proofs.Ending.{hash_first, hash_later}
use Rattle.stream.proofs.rapid_stream_hasher.Sound.hash.Goals as goal

pub returns-then-h-eq0 : goal.returns-then-h-eq0
returns-then-h-eq0 c =
    let h = c.args.self in
    hash_first h.state.now h.whole h.within c.if-h-eq0.true c.rapidhash_v3_inline.ensures

pub returns : goal.returns
returns c =
    let h = c.args.self in
    hash_later h.state.now h.whole h.within c.if-h-eq0.false c.word_at.ensures c.word_at-2.ensures
    c.join-seed.ensures c.tail_steps.ensures c.last_step.ensures
