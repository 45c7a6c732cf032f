-- The examples that were worked by hand (docs/RULES.md, section 9), as one table of tests. Assumes nothing.
use Rattle.std.specs.Prelude.{ℕ, ◌+◌, ◌-◌, ◌^◌, Bool, true, false, List, [], ◌∷◌, ◌++◌, eqb, length, replicate}
use Rattle.secrets.specs.Choice.{every, all_are}
use Rattle.secrets.specs.Mix.{mum, mix}
use Rattle.secrets.specs.Secrets.{repair, seed_of}
use Rattle.rapidhash.specs.Hash.{chunks, ends_of, hash_of}
use Rattle.secrets.specs.declared.v3.seed.RapidSecrets.{RapidSecrets}
use Rattle.stream.specs.State.{opening_of, write_of, finish_of}
use Rattle.label.specs.Label.{read_of, hashed_of}
use Rattle.label.specs.Numbers.{told_reading}

-- seed 0 and all secrets 0, for W5 to W8
abbrev pub zeros : RapidSecrets
zeros = record { seed = 0; secrets = replicate 7 0 }

-- the full hash with them, with avalanche and protected as given
abbrev pub zeros_hash : Bool → Bool → List ℕ → ℕ
zeros_hash av p s = hash_of 7 av p zeros s

-- the number of which W9 says that it stays itself
abbrev pub fixed : ℕ
fixed = 0x4b33a62ed433d4a3

-- W1: (2^64 - 1) x (2^64 - 1)
unfoldable pub W1 : List Bool
W1 =
    let m = 2 ^ 64 - 1 in
    eqb (mum false m m).low 1 ∷ eqb (mum false m m).high (2 ^ 64 - 2) ∷ eqb (mix false m m) m ∷ eqb (mix true m m) m ∷ []

-- W2: 2^63 x 2
unfoldable pub W2 : List Bool
W2 =
    eqb (mum false (2 ^ 63) 2).low 0 ∷ eqb (mum false (2 ^ 63) 2).high 1 ∷ eqb (mix false (2 ^ 63) 2) 1
    ∷ eqb (mum true (2 ^ 63) 2).low (2 ^ 63) ∷ eqb (mum true (2 ^ 63) 2).high 3 ∷ eqb (mix true (2 ^ 63) 2) (2 ^ 63 + 3) ∷ []

-- W3: 0 x 9
unfoldable pub W3 : List Bool
W3 = eqb (mix false 0 9) 0 ∷ eqb (mix true 0 9) 9 ∷ []

-- W4: the bytes 01 02 03, before secrets
unfoldable pub W4 : List Bool
W4 = let e = ends_of 7 false zeros (1 ∷ 2 ∷ 3 ∷ []) in eqb e.a (2 ^ 45 + 3) ∷ eqb e.b 2 ∷ []

-- W5: the empty message, with avalanche, plain and protected
unfoldable pub W5 : List Bool
W5 = eqb (zeros_hash true false []) 0 ∷ eqb (zeros_hash true true []) 0xaaaaaaaaaaaaaaaa ∷ []

-- W6: the byte 01, without and with avalanche
unfoldable pub W6 : List Bool
W6 = eqb (zeros_hash false false (1 ∷ [])) 0x0000200000000001 ∷ eqb (zeros_hash true false (1 ∷ [])) 0xaaaa8aaaaaaaaaab ∷ []

-- W7: four zero bytes, without and with avalanche
unfoldable pub W7 : List Bool
W7 = eqb (zeros_hash false false (replicate 4 0)) 0 ∷ eqb (zeros_hash true false (replicate 4 0)) 0xaaaaaaaaaaaaaaaa ∷ []

-- W8: 17 zero bytes, without and with avalanche
unfoldable pub W8 : List Bool
W8 = eqb (zeros_hash false false (replicate 17 0)) 0 ∷ eqb (zeros_hash true false (replicate 17 0)) 0x5555555555555541 ∷ []

-- W9: the seed and all seven secrets that `seed` makes of one number are that number
unfoldable pub W9 : List Bool
W9 =
    eqb (seed_of fixed).seed fixed ∷ eqb (length (seed_of fixed).secrets) 7 ∷ all_are fixed (seed_of fixed).secrets ∷ []

-- W10: repair of 0
unfoldable pub W10 : List Bool
W10 = eqb (repair 0) 0x8000000080000001 ∷ []

-- the count that finish answers after n zero bytes were written to an opening
abbrev pub count_after : ℕ → ℕ
count_after n =
    (finish_of 7 (write_of 7 (opening_of (record { secrets = zeros; avalanche = true; protected = false })) (replicate n 0)).state).count

-- whether n bytes count k chunks: by the rule, and by the stream
abbrev pub counts : ℕ → ℕ → List Bool
counts n k = eqb (chunks 112 n) k ∷ eqb (count_after n) k ∷ []

-- W11: chunk counts at 0, 112, 113, 224 and 225 bytes
unfoldable pub W11 : List Bool
W11 = counts 0 0 ++ counts 112 0 ++ counts 113 1 ++ counts 224 1 ++ counts 225 2

-- whether reading a record gives a number and a place
abbrev pub reads : List ℕ → ℕ → ℕ → Bool
reads s number place = every (eqb (told_reading (read_of s)).number number ∷ eqb (told_reading (read_of s)).place place ∷ [])

-- W12: a good record with its hashed bytes, and four that are refused
unfoldable pub W12 : List Bool
W12 =
    let s : List ℕ = 0x01 ∷ 0x01 ∷ 0x00 ∷ 0x41 ∷ 0x02 ∷ 0x00 ∷ 0x00 ∷ [] in
    reads s 0 0 ∷ eqb (length (hashed_of s)) 1 ∷ all_are 0x41 (hashed_of s) ∷ reads [] 10 0 ∷ reads (0x01 ∷ 0x00 ∷ 0x00 ∷ []) 9 0
    ∷ reads (0x01 ∷ 0x01 ∷ 0x00 ∷ []) 6 0 ∷ reads (0x01 ∷ 0x01 ∷ 0x00 ∷ 0x41 ∷ 0x01 ∷ 0x01 ∷ 0x00 ∷ 0x42 ∷ []) 8 4 ∷ []

-- the table
unfoldable pub worked : List Bool
worked = W1 ++ W2 ++ W3 ++ W4 ++ W5 ++ W6 ++ W7 ++ W8 ++ W9 ++ W10 ++ W11 ++ W12
