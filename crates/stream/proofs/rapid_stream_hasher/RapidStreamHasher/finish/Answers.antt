-- The hash of a sound state, and its count. Assumes nothing.
use Rattle.std.proofs.Common.{◌≡◌, Err, rules}
use Rattle.stream.proofs.Answers.{finish_done, finish_unsound}
use Rattle.stream.proofs.rapid_stream_hasher.RapidStreamHasher.finish.Goals as goal

pub returns-in_err-h : goal.returns-in_err-h
returns-in_err-h c =
    let e : c.from_residual.result ≡ Err (record {}) = search rules in
    rw e (finish_unsound c.args.self c.in_err-h.ensures)

pub returns : goal.returns
returns c = finish_done c.args.self c.in_ok-h.ensures c.in_ok-h.h.is_sound c.hash.ensures
