-- The three hashes, stated once over the number of lanes L (docs/RULES.md, section 4). Chunks have 16 L bytes. Assumes nothing.
use Rattle.std.specs.Prelude.{ℕ, zero, suc, ◌+◌, ◌-◌, ◌*◌, ◌/◌, ◌^◌, Bool, List, [], ◌∷◌, map, eqb, leb, ltb, length, get_or, take, drop, set, replicate}
use Rattle.std.specs.Int.Bits.{bit_or, bit_xor}
use Rattle.secrets.specs.Choice.{pick}
use Rattle.rapidhash.specs.Words.{word}
use Rattle.secrets.specs.Mix.{mum, mix}
use Rattle.secrets.specs.declared.v3.seed.RapidSecrets.{RapidSecrets}
use Rattle.rapidhash.specs.declared.v3.lanes.Size.{Size}
use Rattle.rapidhash.specs.declared.v3.lanes.Size.TheVariants.{Full, Micro, Nano}
use Rattle.rapidhash.specs.declared.v3.lanes.Mixed.{Mixed}
use Rattle.rapidhash.specs.declared.v3.rapid_const.Reached.{Reached}
use Rattle.rapidhash.specs.declared.v3.rapid_const.Ends.{Ends}

-- full, micro and nano have 7, 5 and 3 lanes
abbrev pub lanes_of : Size → ℕ
lanes_of Full = 7
lanes_of Micro = 5
lanes_of Nano = 3

-- how many chunks of w bytes a message of n bytes mixes: each only when at least one byte follows it
unfoldable pub chunks : ℕ → ℕ → ℕ
chunks w n = (n - 1) / w

-- the two words at a place into x: mix of (word XOR the secret t) and (word 8 further on XOR x)
unfoldable pub mix_pair : Bool → List ℕ → ℕ → ℕ → ℕ → ℕ
mix_pair p s at t x = mix p (bit_xor (word 8 s at) t) (bit_xor (word 8 s (at + 8)) x)

-- one chunk: each of the first L lanes takes its two words, lane j at 16 j with secret j
unfoldable pub chunk_step : ℕ → Bool → List ℕ → List ℕ → List ℕ → List ℕ
chunk_step zero p sec c lanes = lanes
chunk_step (suc j) p sec c lanes = set (chunk_step j p sec c lanes) j (mix_pair p c (16 * j) (get_or sec j 0) (get_or lanes j 0))

-- the first chunk of s into the lanes, if s has one
unfoldable pub first_of : ℕ → Bool → List ℕ → List ℕ → List ℕ → List ℕ
first_of L p sec lanes s = pick (leb (16 * L) (length s)) (chunk_step L p sec (take (16 * L) s) lanes) lanes

-- k chunks of s, one after another
unfoldable pub lanes_after : ℕ → Bool → List ℕ → ℕ → List ℕ → List ℕ → List ℕ
lanes_after L p sec zero lanes s = lanes
lanes_after L p sec (suc k) lanes s = lanes_after L p sec k (chunk_step L p sec (take (16 * L) s) lanes) (drop (16 * L) s)

-- all the chunks that s mixes, and how far they reach
unfoldable pub mixed_of : ℕ → Bool → List ℕ → List ℕ → List ℕ → Mixed
mixed_of L p sec lanes s = record { lanes = lanes_after L p sec (chunks (16 * L) (length s)) lanes s; at = 16 * L * chunks (16 * L) (length s) }

-- the XOR of the first L lanes
unfoldable pub joined : ℕ → List ℕ → ℕ
joined zero lanes = 0
joined (suc j) lanes = bit_xor (joined j lanes) (get_or lanes j 0)

-- the tail's secrets in turn: 2, 2, 1, 1, 2, 1
abbrev pub turns : List ℕ → List ℕ
turns sec = map (λ i. get_or sec i 0) (2 ∷ 2 ∷ 1 ∷ 1 ∷ 2 ∷ 1 ∷ [])

-- the tail over the bytes left, from step j on: a step is taken while more than 16 (j + 1) bytes are left
unfoldable pub tail : Bool → List ℕ → ℕ → List ℕ → ℕ → ℕ
tail p s j [] x = x
tail p s j (t ∷ ts) x = pick (ltb (16 * (j + 1)) (length s)) (tail p s (j + 1) ts (mix_pair p s (16 * j) t x)) x

-- what the last step needs of a message of more than 16 bytes: of the bytes left, the seed so far and the message's last two words
unfoldable pub tail_ends : Bool → List ℕ → ℕ → List ℕ → ℕ → ℕ → Ends
tail_ends p sec x left a b = record { a = bit_xor a (length left); b = b; seed = tail p left 0 (turns sec) x; r = length left }

-- the chunks of a whole message: if it is longer than one, all lanes start at the seed, and then the seed is the XOR of the lanes
unfoldable pub reached_of : ℕ → Bool → RapidSecrets → List ℕ → Reached
reached_of L p x s =
    let m = mixed_of L p x.secrets (replicate 7 x.seed) s in
    pick (ltb (16 * L) (length s)) (record { seed = joined L m.lanes; at = m.at }) (record { seed = x.seed; at = 0 })

-- more than 16 bytes
unfoldable pub long_ends : ℕ → Bool → RapidSecrets → List ℕ → Ends
long_ends L p x s =
    let q = reached_of L p x s in
    tail_ends p x.secrets q.seed (drop q.at s) (word 8 s (length s - 16)) (word 8 s (length s - 8))

-- the length class decides: 0, 1 to 3, 4 to 7, 8 to 16, or more
unfoldable pub ends_of : ℕ → Bool → RapidSecrets → List ℕ → Ends
ends_of L p x s =
    pick (eqb (length s) 0) (record { a = 0; b = 0; seed = x.seed; r = length s })
    (pick (leb (length s) 3)
    (record { a = bit_or (get_or s 0 0 * 2 ^ 45) (get_or s (length s - 1) 0); b = get_or s (length s / 2) 0; seed = x.seed; r = length s })
    (pick (leb (length s) 7) (record { a = word 4 s 0; b = word 4 s (length s - 4); seed = bit_xor x.seed (length s); r = length s })
    (pick (leb (length s) 16) (record { a = word 8 s 0; b = word 8 s (length s - 8); seed = bit_xor x.seed (length s); r = length s })
    (long_ends L p x s))))

-- the avalanche step
unfoldable pub avalanched : Bool → List ℕ → ℕ → ℕ → ℕ → ℕ
avalanched p sec a b r = mix p (bit_xor a 0xaaaaaaaaaaaaaaaa) (bit_xor (bit_xor b (get_or sec 1 0)) r)

-- the last step: a XOR secret 1 and b XOR seed, multiplied; then the avalanche, or the XOR of the two words
unfoldable pub last_of : Bool → Bool → List ℕ → Ends → ℕ
last_of av p sec e =
    let m = mum p (bit_xor e.a (get_or sec 1 0)) (bit_xor e.b e.seed) in
    pick av (avalanched p sec m.low m.high e.r) (bit_xor m.low m.high)

-- the hash of a message at L lanes, with avalanche and protected as given
unfoldable pub hash_of : ℕ → Bool → Bool → RapidSecrets → List ℕ → ℕ
hash_of L av p x s = last_of av p x.secrets (ends_of L p x s)
