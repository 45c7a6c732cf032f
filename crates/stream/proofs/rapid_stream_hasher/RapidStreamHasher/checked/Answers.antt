-- What the test of a sound state tells. Assumes nothing.
use Rattle.std.proofs.Common.{◌≡◌, length, ◌∙◌, sym, rules}
use Rattle.stream.proofs.Sound.{sound_facts}
use Rattle.stream.proofs.rapid_stream_hasher.RapidStreamHasher.checked.Goals as goal

pub invariant_of-result : goal.invariant_of-result
invariant_of-result c =
    let ok = sym c.is_sound.ensures ∙ c.if-is_sound.true in
    let f = sound_facts 7 c.args.self.now ok in
    let whole : length c.args.self.now.buffer ≡ 128 = search rules in
    record { is_sound = ok; whole = whole; within = f.within; short = f.short }
