-- The stream by one byte (docs/RULES.md, section 5.1), over the number of lanes L; a chunk has 16 L bytes. Assumes nothing.
use Rattle.std.specs.Prelude.{ℕ, ◌+◌, ◌*◌, Bool, List, [], ◌∷◌, ◌++◌, eqb, length, drop, replicate}
use Rattle.secrets.specs.Choice.{pick}
use Rattle.rapidhash.specs.Words.{word}
use Rattle.rapidhash.specs.Hash.{chunk_step, joined, tail_ends, ends_of, last_of}
use Rattle.secrets.specs.declared.v3.seed.RapidSecrets.{RapidSecrets}
use Rattle.rapidhash.specs.declared.v3.rapid_const.Ends.{Ends}

-- a stream: its lanes, how many chunks they have taken, the 16 bytes that end the previous chunk, and the bytes that wait
pub record Stream : Type 0 where
  pub lanes : List ℕ
  pub count : ℕ
  pub prev : List ℕ
  pub rest : List ℕ

-- the last bytes of what has gone by, as many as p has: p, then s
unfoldable pub slide : List ℕ → List ℕ → List ℕ
slide p s = drop (length s) (p ++ s)

-- a stream of no bytes: all lanes at the seed
unfoldable pub opened : ℕ → Stream
opened seed = record { lanes = replicate 7 seed; count = 0; prev = replicate 16 0; rest = [] }

-- the bytes that wait are mixed as a chunk
unfoldable pub mixed_in : ℕ → Bool → List ℕ → Stream → Stream
mixed_in L p sec t =
    record { lanes = chunk_step L p sec t.rest t.lanes; count = t.count + 1; prev = slide t.prev t.rest; rest = [] }

-- a byte comes to those that wait
unfoldable pub with_byte : Stream → ℕ → Stream
with_byte t b = record { lanes = t.lanes; count = t.count; prev = t.prev; rest = t.rest ++ (b ∷ []) }

-- one byte more: a chunk is mixed only now that at least one byte follows it
unfoldable pub push : ℕ → Bool → List ℕ → Stream → ℕ → Stream
push L p sec t b = with_byte (pick (eqb (length t.rest) (16 * L)) (mixed_in L p sec t) t) b

-- byte after byte
unfoldable pub feed : ℕ → Bool → List ℕ → Stream → List ℕ → Stream
feed L p sec t [] = t
feed L p sec t (b ∷ bs) = feed L p sec (push L p sec t b) bs

-- what the last step needs: of the bytes that wait alone while no chunk is mixed; else of the tail over them, from the XOR of the lanes, and
-- of the last 16 bytes that have gone by
unfoldable pub stream_ends : ℕ → Bool → RapidSecrets → Stream → Ends
stream_ends L p x t =
    let q = slide t.prev t.rest in
    pick (eqb t.count 0) (ends_of L p x t.rest) (tail_ends p x.secrets (joined L t.lanes) t.rest (word 8 q 0) (word 8 q 8))

-- the hash of what has gone by
unfoldable pub stream_hash : ℕ → Bool → Bool → RapidSecrets → Stream → ℕ
stream_hash L av p x t = last_of av p x.secrets (stream_ends L p x t)
