-- Each export has the contract of the function of the library `tulgranie` that it calls, so that what is proved there of every answer which a
-- contract allows (`Demand1`, `OfTheCode`, `OfRecords`) is so of the exports. Assumes nothing.
use Rattle.std.proofs.Common.{◌≡◌, refl}
use seplogic.Ra.Ura.{Ura}
use base.Logic.{SProp}
use prog.Memory.{Memory}
use prog.Routine.{Routine}
use types.Logic.{Logic}
use contract.Monad.{Fun}
use Rattle.tulgranie.proofs.hashes.tulgranie_word8.Reads as word8
use Rattle.tulgranie_c.proofs.hashes.tulgranie_word8.Reads as exported_word8
use Rattle.tulgranie.proofs.hashes.tulgranie_word4.Reads as word4
use Rattle.tulgranie_c.proofs.hashes.tulgranie_word4.Reads as exported_word4
use Rattle.tulgranie.proofs.hashes.tulgranie_seed.Reads as seed
use Rattle.tulgranie_c.proofs.hashes.tulgranie_seed.Reads as exported_seed
use Rattle.tulgranie.proofs.hashes.tulgranie_seed_cpp.Reads as seed_cpp
use Rattle.tulgranie_c.proofs.hashes.tulgranie_seed_cpp.Reads as exported_seed_cpp
use Rattle.tulgranie.proofs.hashes.tulgranie_reseed.Reads as reseed
use Rattle.tulgranie_c.proofs.hashes.tulgranie_reseed.Reads as exported_reseed
use Rattle.tulgranie.proofs.hashes.tulgranie_default_secrets.Reads as default_secrets
use Rattle.tulgranie_c.proofs.hashes.tulgranie_default_secrets.Reads as exported_default_secrets
use Rattle.tulgranie.proofs.hashes.tulgranie_secret.Reads as secret
use Rattle.tulgranie_c.proofs.hashes.tulgranie_secret.Reads as exported_secret
use Rattle.tulgranie.proofs.hashes.tulgranie_full.Reads as full
use Rattle.tulgranie_c.proofs.hashes.tulgranie_full.Reads as exported_full
use Rattle.tulgranie.proofs.hashes.tulgranie_micro.Reads as micro
use Rattle.tulgranie_c.proofs.hashes.tulgranie_micro.Reads as exported_micro
use Rattle.tulgranie.proofs.hashes.tulgranie_nano.Reads as nano
use Rattle.tulgranie_c.proofs.hashes.tulgranie_nano.Reads as exported_nano
use Rattle.tulgranie.proofs.streams.tulgranie_stream_open.Reads as stream_open
use Rattle.tulgranie_c.proofs.streams.tulgranie_stream_open.Reads as exported_stream_open
use Rattle.tulgranie.proofs.labels.tulgranie_read.Reads as read
use Rattle.tulgranie_c.proofs.labels.tulgranie_read.Reads as exported_read
use Rattle.tulgranie.proofs.labels.tulgranie_find.Reads as find
use Rattle.tulgranie_c.proofs.labels.tulgranie_find.Reads as exported_find
use Rattle.tulgranie.proofs.labels.tulgranie_fingerprint.Reads as fingerprint
use Rattle.tulgranie_c.proofs.labels.tulgranie_fingerprint.Reads as exported_fingerprint
use Rattle.tulgranie.specs.contracts.streams.tulgranie_stream_write as stream_write
use Rattle.tulgranie_c.specs.contracts.streams.tulgranie_stream_write as exported_stream_write
use Rattle.tulgranie.specs.contracts.streams.tulgranie_stream_finish as stream_finish
use Rattle.tulgranie_c.specs.contracts.streams.tulgranie_stream_finish as exported_stream_finish
use Rattle.tulgranie.specs.contracts.streams.tulgranie_stream_reset as stream_reset
use Rattle.tulgranie_c.specs.contracts.streams.tulgranie_stream_reset as exported_stream_reset

pub word8_same : exported_word8.Post ≡ word8.Post
word8_same = refl

pub word4_same : exported_word4.Post ≡ word4.Post
word4_same = refl

pub seed_same : exported_seed.Post ≡ seed.Post
seed_same = refl

pub seed_cpp_same : exported_seed_cpp.Post ≡ seed_cpp.Post
seed_cpp_same = refl

pub reseed_same : exported_reseed.Post ≡ reseed.Post
reseed_same = refl

pub default_secrets_same : exported_default_secrets.Post ≡ default_secrets.Post
default_secrets_same = refl

pub secret_same : exported_secret.Post ≡ secret.Post
secret_same = refl

pub full_same : exported_full.Post ≡ full.Post
full_same = refl

pub micro_same : exported_micro.Post ≡ micro.Post
micro_same = refl

pub nano_same : exported_nano.Post ≡ nano.Post
nano_same = refl

pub stream_open_same : exported_stream_open.Post ≡ stream_open.Post
stream_open_same = refl

pub read_same : exported_read.Post ≡ read.Post
read_same = refl

pub find_same : exported_find.Post ≡ find.Post
find_same = refl

pub fingerprint_same : exported_fingerprint.Post ≡ fingerprint.Post
fingerprint_same = refl

-- what a stream is lent to: what each asks and ensures in every model
module _ {M : Type 1} {𝓤 : Ura M} (𝓛 : Logic 𝓤) (mem : Memory → SProp 𝓤) (run : Routine → Fun 𝓤) where
  pub stream_write_same : exported_stream_write.clauses 𝓛 mem run ≡ stream_write.clauses 𝓛 mem run
  stream_write_same = refl

  pub stream_finish_same : exported_stream_finish.clauses 𝓛 mem run ≡ stream_finish.clauses 𝓛 mem run
  stream_finish_same = refl

  pub stream_reset_same : exported_stream_reset.clauses 𝓛 mem run ≡ stream_reset.clauses 𝓛 mem run
  stream_reset_same = refl
