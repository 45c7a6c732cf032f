-- 1 before 2; else there is room. Assumes nothing.
use Rattle.std.proofs.Common.{◌≡◌, Err, rules}
use Rattle.stream.specs.declared.rapid_stream_hasher.WriteError.TheVariants.{NotSound}
use Rattle.stream.proofs.Answers.{write_unsound, write_long}
use Rattle.stream.proofs.rapid_stream_hasher.RapidStreamHasher.ready_for.Goals as goal

pub returns-in_err-h : goal.returns-in_err-h
returns-in_err-h c =
    let e : c.from_residual.result ≡ Err NotSound = search rules in
    rw e (write_unsound c.args.self.now c.args.«data».now c.in_err-h.ensures)

pub returns-then-room-data : goal.returns-then-room-data
returns-then-room-data c =
    let h = c.in_ok-h.h in
    write_long c.args.self.now c.args.«data».now c.in_ok-h.ensures h.is_sound c.room-room.ensures c.if-room-data.true
