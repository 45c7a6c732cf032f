-- Demand 1 for the stream: no contract leaves a choice. Two answers that one contract allows for the same state and bytes are equal.
-- Assumes nothing.
use Rattle.std.proofs.Common.{◌≡◌, eqb, Result, Ok, Err, refl, ap}
use Rattle.std.specs.Prelude.{⊤}
use Rattle.secrets.specs.Choice.{pick}
use Rattle.secrets.proofs.Demand1.{OneAnswer, one, told_back}
use Rattle.stream.specs.State.{Said, said, answered, Ended, ended}
use Rattle.stream.specs.declared.rapid_stream_hasher.RapidStreamHasher.{RapidStreamHasher}
use Rattle.stream.specs.declared.rapid_stream_hasher.NotSound.{NotSound as Unsound}
use Rattle.stream.specs.declared.rapid_stream_hasher.WriteError.{WriteError}
use Rattle.stream.specs.declared.rapid_stream_hasher.WriteError.TheVariants.{NotSound, TooLong}
use Rattle.stream.specs.declared.rapid_stream_hasher.Written.{Written}
use Rattle.stream.specs.declared.rapid_stream_hasher.Finished.{Finished}
use Rattle.stream.proofs.rapid_stream_hasher.WriteErrorFromNotSound.from.Reads as error
use Rattle.stream.proofs.rapid_stream_hasher.RapidStreamHasher.new.Reads as new
use Rattle.stream.proofs.rapid_stream_hasher.RapidStreamHasher.write.Reads as write
use Rattle.stream.proofs.rapid_stream_hasher.RapidStreamHasher.finish.Reads as finish
use Rattle.stream.proofs.rapid_stream_hasher.RapidStreamHasher.reset.Reads as reset

-- an outcome is told back from its number and room
outcome : Said → Result ⊤ WriteError
outcome s = pick (eqb s.number 0) (Ok tt) (pick (eqb s.number 1) (Err NotSound) (Err (TooLong s.room)))

outcome_back : (x : Result ⊤ WriteError) → outcome (said x) ≡ x
unfolding outcome
outcome_back (Ok _) = refl
outcome_back (Err NotSound) = refl
outcome_back (Err (TooLong r)) = refl

-- a write's answer from the state and what is said
abbrev pub written : RapidStreamHasher → Result ⊤ WriteError → Written
written s o = record { state = s; outcome = o }

pub written_apart : (x y : Written) → answered x ≡ answered y → x ≡ y
written_apart = told_back answered (λ a. written a.state (outcome a.says)) (λ w. ap (written w.state) (outcome_back w.outcome))

-- and what finish finds from the number, the hash and the count
finished : Ended → Result Finished Unsound
finished e = pick (eqb e.number 0) (Ok (record { hash = e.hash; count = e.count })) (Err (record {}))

finished_back : (x : Result Finished Unsound) → finished (ended x) ≡ x
unfolding finished
finished_back (Ok f) = refl
finished_back (Err _) = refl

pub ended_apart : (x y : Result Finished Unsound) → ended x ≡ ended y → x ≡ y
ended_apart = told_back ended finished finished_back

pub error_from_one : OneAnswer error.Post
error_from_one κ a r₁ r₂ s₁ s₂ p q = one p q

pub new_one : OneAnswer new.Post
new_one κ a r₁ r₂ s₁ s₂ p q = one p q

pub write_one : OneAnswer write.Post
write_one κ a r₁ r₂ s₁ s₂ p q = written_apart r₁ r₂ (one p q)

pub finish_one : OneAnswer finish.Post
finish_one κ a r₁ r₂ s₁ s₂ p q = ended_apart r₁ r₂ (one p q)

pub reset_one : OneAnswer reset.Post
reset_one κ a r₁ r₂ s₁ s₂ p q = one p q
