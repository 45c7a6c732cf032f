-- The code of the calls that a hasher is lent to meets their contracts, in every model of the logic. The prover found the proofs. Assumes nothing.
use Rattle.lent.proofs.write.Met as write
use Rattle.lent.proofs.write.Statement as write_stated
use Rattle.lent.proofs.finish.Met as finish
use Rattle.lent.proofs.finish.Statement as finish_stated
use Rattle.lent.proofs.reset.Met as reset
use Rattle.lent.proofs.reset.Statement as reset_stated
use Rattle.lent.proofs.hash_of_two.Met as hash_of_two
use Rattle.lent.proofs.hash_of_two.Statement as hash_of_two_stated

pub write_meets : {M : Type 1} → write_stated.statement M
write_meets = write.met

pub finish_meets : {M : Type 1} → finish_stated.statement M
finish_meets = finish.met

pub reset_meets : {M : Type 1} → reset_stated.statement M
reset_meets = reset.met

pub hash_of_two_meets : {M : Type 1} → hash_of_two_stated.statement M
hash_of_two_meets = hash_of_two.met
