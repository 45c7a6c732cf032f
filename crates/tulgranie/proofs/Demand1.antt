-- Demand 1 for the library: no contract leaves a choice. Two answers that one contract allows for the same input are equal. Assumes nothing.
use Rattle.std.proofs.Common.{◌≡◌, refl}
use seplogic.Ra.Ura.{Ura}
use base.Logic.{SProp}
use prog.Memory.{Memory}
use prog.Routine.{Routine}
use types.Logic.{Logic}
use contract.Monad.{Fun}
use Rattle.secrets.proofs.Demand1.{OneAnswer, one, told_back}
use Rattle.lent.proofs.Demand1.{OneAfter, both}
use Rattle.stream.specs.declared.rapid_stream_hasher.RapidStreamHasher.{RapidStreamHasher}
use Rattle.stream.specs.State.{AfterWrite}
use Rattle.tulgranie.specs.Answers.{told_of, said_by, wrote_with, ended_of}
use Rattle.tulgranie.specs.declared.streams.StreamWrote.{StreamWrote}
use Rattle.tulgranie.specs.declared.streams.StreamEnded.{StreamEnded}
use Rattle.tulgranie.specs.declared.labels.Answer.{Answer}
use Rattle.tulgranie.proofs.hashes.ValueFromOptionU64.from.Reads as value
use Rattle.tulgranie.proofs.hashes.tulgranie_word8.Reads as word8
use Rattle.tulgranie.proofs.hashes.tulgranie_word4.Reads as word4
use Rattle.tulgranie.proofs.hashes.tulgranie_seed.Reads as seed
use Rattle.tulgranie.proofs.hashes.tulgranie_seed_cpp.Reads as seed-cpp
use Rattle.tulgranie.proofs.hashes.tulgranie_reseed.Reads as reseed
use Rattle.tulgranie.proofs.hashes.tulgranie_default_secrets.Reads as default-secrets
use Rattle.tulgranie.proofs.hashes.tulgranie_secret.Reads as secret
use Rattle.tulgranie.proofs.hashes.tulgranie_full.Reads as full
use Rattle.tulgranie.proofs.hashes.tulgranie_micro.Reads as micro
use Rattle.tulgranie.proofs.hashes.tulgranie_nano.Reads as nano
use Rattle.tulgranie.proofs.streams.StreamWroteFromResultUnitWriteError.from.Reads as wrote
use Rattle.tulgranie.proofs.streams.StreamEndedFromResultFinishedNotSound.from.Reads as ended
use Rattle.tulgranie.proofs.streams.tulgranie_stream_open.Reads as opened
use Rattle.tulgranie.specs.contracts.streams.tulgranie_stream_write as stream-write
use Rattle.tulgranie.specs.contracts.streams.tulgranie_stream_finish as stream-finish
use Rattle.tulgranie.specs.contracts.streams.tulgranie_stream_reset as stream-reset
use Rattle.tulgranie.proofs.labels.AnswerFromRefusal.from.Reads as refusal
use Rattle.tulgranie.proofs.labels.AnswerFromResultUnitRefusal.from.Reads as reading
use Rattle.tulgranie.proofs.labels.AnswerFromResultFieldRefusal.from.Reads as found
use Rattle.tulgranie.proofs.labels.AnswerFromResultU64Refusal.from.Reads as printed
use Rattle.tulgranie.proofs.labels.tulgranie_read.Reads as read
use Rattle.tulgranie.proofs.labels.tulgranie_find.Reads as find
use Rattle.tulgranie.proofs.labels.tulgranie_fingerprint.Reads as fingerprint

-- a struct is told back from its fields
pub answer_apart : (x y : Answer) → told_of x ≡ told_of y → x ≡ y
answer_apart =
    told_back told_of
    (λ t. record { number = t.number; place = t.place; tag = t.tag; start = t.start; length = t.length; fingerprint = t.fingerprint })
    (λ x. refl)

-- the state after a write, and its answer beside it
abbrev pub beside : RapidStreamHasher → StreamWrote → RapidStreamHasher × StreamWrote
beside h w = (h, w)

-- both are told back from what they tell together
abbrev told_with : RapidStreamHasher × StreamWrote → AfterWrite
told_with p = wrote_with p.0 p.1

pub written_apart : (x y : RapidStreamHasher × StreamWrote) → told_with x ≡ told_with y → x ≡ y
written_apart = told_back told_with (λ a. (a.state, record { number = a.says.number; room = a.says.room })) (λ x. refl)

pub wrote_apart : (x y : StreamWrote) → said_by x ≡ said_by y → x ≡ y
wrote_apart = told_back said_by (λ s. record { number = s.number; room = s.room }) (λ x. refl)

pub ended_apart : (x y : StreamEnded) → ended_of x ≡ ended_of y → x ≡ y
ended_apart = told_back ended_of (λ e. record { number = e.number; hash = e.hash; count = e.count }) (λ x. refl)

pub value_from_one : OneAnswer value.Post
value_from_one κ a r₁ r₂ s₁ s₂ p q = one p q

pub word8_one : OneAnswer word8.Post
word8_one κ a r₁ r₂ s₁ s₂ p q = one p q

pub word4_one : OneAnswer word4.Post
word4_one κ a r₁ r₂ s₁ s₂ p q = one p q

pub seed_one : OneAnswer seed.Post
seed_one κ a r₁ r₂ s₁ s₂ p q = one p q

pub seed_cpp_one : OneAnswer seed-cpp.Post
seed_cpp_one κ a r₁ r₂ s₁ s₂ p q = one p q

pub reseed_one : OneAnswer reseed.Post
reseed_one κ a r₁ r₂ s₁ s₂ p q = one p q

pub default_secrets_one : OneAnswer default-secrets.Post
default_secrets_one κ a r₁ r₂ s₁ s₂ p q = one p q

pub secret_one : OneAnswer secret.Post
secret_one κ a r₁ r₂ s₁ s₂ p q = one p q

pub full_one : OneAnswer full.Post
full_one κ a r₁ r₂ s₁ s₂ p q = one p q

pub micro_one : OneAnswer micro.Post
micro_one κ a r₁ r₂ s₁ s₂ p q = one p q

pub nano_one : OneAnswer nano.Post
nano_one κ a r₁ r₂ s₁ s₂ p q = one p q

pub wrote_from_one : OneAnswer wrote.Post
wrote_from_one κ a r₁ r₂ s₁ s₂ p q = wrote_apart r₁ r₂ (one p q)

pub ended_from_one : OneAnswer ended.Post
ended_from_one κ a r₁ r₂ s₁ s₂ p q = ended_apart r₁ r₂ (one p q)

pub open_one : OneAnswer opened.Post
open_one κ a r₁ r₂ s₁ s₂ p q = one p q

pub refusal_from_one : OneAnswer refusal.Post
refusal_from_one κ a r₁ r₂ s₁ s₂ p q = answer_apart r₁ r₂ (one p q)

pub reading_from_one : OneAnswer reading.Post
reading_from_one κ a r₁ r₂ s₁ s₂ p q = answer_apart r₁ r₂ (one p q)

pub found_from_one : OneAnswer found.Post
found_from_one κ a r₁ r₂ s₁ s₂ p q = answer_apart r₁ r₂ (one p q)

pub printed_from_one : OneAnswer printed.Post
printed_from_one κ a r₁ r₂ s₁ s₂ p q = answer_apart r₁ r₂ (one p q)

pub read_one : OneAnswer read.Post
read_one κ a r₁ r₂ s₁ s₂ p q = answer_apart r₁ r₂ (one p q)

pub find_one : OneAnswer find.Post
find_one κ a r₁ r₂ s₁ s₂ p q = answer_apart r₁ r₂ (one p q)

pub fingerprint_one : OneAnswer fingerprint.Post
fingerprint_one κ a r₁ r₂ s₁ s₂ p q = answer_apart r₁ r₂ (one p q)

-- of a lent stream the answer and the state after it are fixed
module _ {M : Type 1} {𝓤 : Ura M} (𝓛 : Logic 𝓤) (mem : Memory → SProp 𝓤) (run : Routine → Fun 𝓤) where
  pub stream_write_one : OneAfter 𝓤 stream-write.ended (stream-write.clauses 𝓛 mem run) (λ κs r e. beside e.0.now r)
  stream_write_one κs a g r₁ r₂ e₁ e₂ =
      both 𝓛 mem run _ _ (λ p q. written_apart (beside e₁.0.now r₁) (beside e₂.0.now r₂) (one p q))

  pub stream_finish_one : OneAfter 𝓤 stream-finish.ended (stream-finish.clauses 𝓛 mem run) (λ κs r e. r)
  stream_finish_one κs a g r₁ r₂ e₁ e₂ = both 𝓛 mem run _ _ (λ p q. ended_apart r₁ r₂ (one p q))

  pub stream_reset_one : OneAfter 𝓤 stream-reset.ended (stream-reset.clauses 𝓛 mem run) (λ κs r e. e.0.now)
  stream_reset_one κs a g r₁ r₂ e₁ e₂ = both 𝓛 mem run _ _ (λ p q. one p q)
