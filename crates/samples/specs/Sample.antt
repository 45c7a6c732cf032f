-- The sample messages (oracle/README.md, "first-run"). Assumes nothing.
use Rattle.std.specs.Prelude.{ℕ, zero, suc, ◌+◌, ◌*◌, ◌/◌, ◌%◌, List, [], ◌∷◌, ◌++◌}

-- byte i of the sample of length n, the divisions rounded down
unfoldable pub byte_at : ℕ → ℕ → ℕ
byte_at n i = (i * 197 + i / 3 * 59 + i / 7 * 113 + n * 101 + 7) % 256

-- bytes 0 to k - 1, in order
unfoldable pub bytes_of : ℕ → ℕ → List ℕ
bytes_of n zero = []
bytes_of n (suc k) = bytes_of n k ++ (byte_at n k ∷ [])

-- a thousand bytes; the sample of length n is the first n of them
unfoldable pub message_of : ℕ → List ℕ
message_of n = bytes_of n 1000
