-- The folded multiply (docs/RULES.md, section 1). Assumes nothing.
use Rattle.std.specs.Prelude.{ℕ, ◌*◌, ◌/◌, ◌%◌, ◌^◌, Bool, true, false, bit_xor}
use Rattle.secrets.specs.declared.util.mix.Mum.{Mum}

-- the low word of the 128-bit product
unfoldable pub low : ℕ → ℕ → ℕ
low a b = a * b % 2 ^ 64

-- the high word of the 128-bit product
unfoldable pub high : ℕ → ℕ → ℕ
high a b = a * b / 2 ^ 64

-- both words; protected: low word XOR a, high word XOR b
unfoldable pub mum : Bool → ℕ → ℕ → Mum
mum false a b = record { low = low a b; high = high a b }
mum true a b = record { low = bit_xor (low a b) a; high = bit_xor (high a b) b }

-- the XOR of the two words
unfoldable pub mix : Bool → ℕ → ℕ → ℕ
mix p a b = bit_xor (mum p a b).low (mum p a b).high
