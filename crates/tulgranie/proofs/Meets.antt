-- The code of the library's calls that a stream is lent to meets their contracts, in every model of the logic. The prover found the proofs.
-- Assumes nothing.
use Rattle.tulgranie.proofs.streams.tulgranie_stream_write.Met as stream_write
use Rattle.tulgranie.proofs.streams.tulgranie_stream_write.Statement as stream_write_stated
use Rattle.tulgranie.proofs.streams.tulgranie_stream_finish.Met as stream_finish
use Rattle.tulgranie.proofs.streams.tulgranie_stream_finish.Statement as stream_finish_stated
use Rattle.tulgranie.proofs.streams.tulgranie_stream_reset.Met as stream_reset
use Rattle.tulgranie.proofs.streams.tulgranie_stream_reset.Statement as stream_reset_stated

pub stream_write_meets : {M : Type 1} → stream_write_stated.statement M
stream_write_meets = stream_write.met

pub stream_finish_meets : {M : Type 1} → stream_finish_stated.statement M
stream_finish_meets = stream_finish.met

pub stream_reset_meets : {M : Type 1} → stream_reset_stated.statement M
stream_reset_meets = stream_reset.met
