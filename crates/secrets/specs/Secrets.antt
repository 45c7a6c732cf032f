-- Seeds and secrets (docs/RULES.md, section 2). Assumes nothing.
use Rattle.std.specs.Prelude.{ℕ, zero, suc, ◌+◌, ◌/◌, ◌%◌, ◌^◌, false, List, [], ◌∷◌, ◌==◌, bit_or, bit_xor, nat_le, slice_index}
use Rattle.secrets.specs.Choice.{pick}
use Rattle.secrets.specs.Mix.{mix}
use Rattle.secrets.specs.Numbers.{Returned, done, past_end}
use Rattle.secrets.specs.declared.v3.seed.RapidSecrets.{RapidSecrets}

-- the seven defaults S0 to S6
unfoldable pub defaults : List ℕ
defaults =
    0x2d358dccaa6c78a5 ∷ 0x8bb84b93962eacc9 ∷ 0x4b33a62ed433d4a3 ∷ 0x4d5a2da51de1aa47 ∷ 0xa0761d6478bd642f ∷ 0xe7037ed1a0b428db ∷ 0x90ed1765281c388c
    ∷ []

-- if the 16 bits of x from place `from` on are all zero, set bit b
unfoldable pub mend : ℕ → ℕ → ℕ → ℕ
mend from b x = pick (x / 2 ^ from % 2 ^ 16 == 0) (bit_or x (2 ^ b)) x

-- bits 48 to 63 and bit 63; bits 24 to 39 and bit 31; bits 0 to 15 and bit 0
unfoldable pub repair : ℕ → ℕ
repair x = mend 0 0 (mend 24 31 (mend 48 63 x))

-- x XOR the plain mix of (x XOR S2) and Si
unfoldable pub stirred : ℕ → ℕ → ℕ
stirred i x = bit_xor x (mix false (bit_xor x (slice_index defaults 2)) (slice_index defaults i))

-- premix of x with index i
unfoldable pub premix : ℕ → ℕ → ℕ
premix i x = repair (stirred i x)

-- n secrets from index i on, each the premix of the one before with its index
unfoldable pub chain : ℕ → ℕ → ℕ → List ℕ
chain zero i x = []
chain (suc n) i x = premix i x ∷ chain n (i + 1) (premix i x)

-- `seed`: premix with 0 gives the seed, and the seven secrets follow from it
unfoldable pub seed_of : ℕ → RapidSecrets
seed_of x = record { seed = premix 0 x; secrets = chain 7 0 (premix 0 x) }

-- `reseed`: premix of the seed with 6, secrets kept
unfoldable pub reseed_of : RapidSecrets → RapidSecrets
reseed_of x = record { seed = premix 6 x.seed; secrets = x.secrets }

-- `seed_cpp`: no repair, with the default secrets
unfoldable pub seed_cpp : ℕ → RapidSecrets
seed_cpp x = record { seed = stirred 1 x; secrets = defaults }

-- the secret at an index, or none over 6
abbrev pub secret_of : RapidSecrets → ℕ → Returned
secret_of x i = pick (nat_le i 6) (done (slice_index x.secrets i)) past_end
