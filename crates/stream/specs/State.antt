-- The state that the code keeps of a stream of L lanes, and the four calls on it (docs/RULES.md, sections 5.2 and 5.3); a chunk has 16 L bytes.
-- Assumes nothing.
use Rattle.std.specs.Prelude.{ℕ, ◌+◌, ◌-◌, ◌*◌, ◌^◌, Bool, true, false, List, [], ◌∷◌, ◌++◌, eqb, leb, length, take, drop, replicate, ⊤, Result, Ok, Err}
use Rattle.secrets.specs.Choice.{pick, every, all_are}
use Rattle.stream.specs.Stream.{Stream, opened, feed, stream_hash}
use Rattle.stream.specs.declared.rapid_stream_hasher.Settings.{Settings}
use Rattle.stream.specs.declared.rapid_stream_hasher.RapidStreamHasher.{RapidStreamHasher}
use Rattle.stream.specs.declared.rapid_stream_hasher.NotSound.{NotSound as Unsound}
use Rattle.stream.specs.declared.rapid_stream_hasher.WriteError.{WriteError}
use Rattle.stream.specs.declared.rapid_stream_hasher.WriteError.TheVariants.{NotSound, TooLong}
use Rattle.stream.specs.declared.rapid_stream_hasher.Written.{Written}
use Rattle.stream.specs.declared.rapid_stream_hasher.Finished.{Finished}

-- the stream that a state holds: 16 bytes that end the previous chunk, then the bytes that wait
unfoldable pub view : RapidStreamHasher → Stream
view h = record { lanes = h.lanes; count = h.count; prev = take 16 h.buffer; rest = take h.waiting (drop 16 h.buffer) }

-- the state that holds a stream: 16 bytes and then 112, of which those that nothing waits in are zero
unfoldable pub hold : Settings → Stream → RapidStreamHasher
hold o t =
    record {
      settings = o;
      lanes = t.lanes;
      count = t.count;
      waiting = length t.rest;
      buffer = t.prev ++ t.rest ++ replicate (112 - length t.rest) 0;
    }

-- the opening state
unfoldable pub opening_of : Settings → RapidStreamHasher
opening_of o = hold o (opened o.secrets.seed)

-- the bytes that a state of L lanes has gone by
abbrev pub sofar : ℕ → RapidStreamHasher → ℕ
sofar L h = 16 * L * h.count + h.waiting

-- the most bytes a stream may have
abbrev pub most : ℕ
most = 2 ^ 64 - 1

-- a state is sound if at most a chunk waits; if before the first chunk the lanes are the seed and the first 16 bytes zero; if after it at
-- least one byte waits; if unused bytes are zero; and if it is not too long
unfoldable pub sound : ℕ → RapidStreamHasher → Bool
sound L h =
    every
    (leb h.waiting (16 * L)
    ∷ pick (eqb h.count 0) (all_are h.settings.secrets.seed h.lanes) true
    ∷ pick (eqb h.count 0) (all_are 0 (take 16 h.buffer)) true
    ∷ pick (eqb h.count 0) true (leb 1 h.waiting)
    ∷ all_are 0 (drop (16 + h.waiting) h.buffer)
    ∷ leb (sofar L h) most
    ∷ [])

-- the clauses of it on how a state is begun: before the first chunk, and after it
abbrev pub begun : RapidStreamHasher → Bool
begun h =
    pick (eqb h.count 0) (pick (all_are h.settings.secrets.seed h.lanes) (all_are 0 (take 16 h.buffer)) false) (leb 1 h.waiting)

-- what a call says: a number of the table, and the room left beside 2
pub record Said : Type 0 where
  pub number : ℕ
  pub room : ℕ

-- 0: took; 1: not sound; 2: too long, with the room left
abbrev pub said : Result ⊤ WriteError → Said
said (Ok _) = record { number = 0; room = 0 }
said (Err NotSound) = record { number = 1; room = 0 }
said (Err (TooLong r)) = record { number = 2; room = r }

-- a write's answer: the state after it, and what it says
pub record AfterWrite : Type 0 where
  pub state : RapidStreamHasher
  pub says : Said

-- what the struct that a write returns answers
abbrev pub answered : Written → AfterWrite
answered w = record { state = w.state; says = said w.outcome }

-- what a refused write answers: the state as it was, and why
abbrev pub refused : RapidStreamHasher → WriteError → AfterWrite
refused h e = record { state = h; says = said (Err e) }

-- the state after all of the bytes
unfoldable pub taken : ℕ → RapidStreamHasher → List ℕ → RapidStreamHasher
taken L h s = hold h.settings (feed L h.settings.protected h.settings.secrets.secrets (view h) s)

-- write: 1 before 2; a refusal gives the state back
unfoldable pub write_of : ℕ → RapidStreamHasher → List ℕ → AfterWrite
write_of L h s =
    pick (sound L h)
    (pick (leb (sofar L h + length s) most)
    (record { state = taken L h s; says = said (Ok tt) })
    (record { state = h; says = said (Err (TooLong (most - sofar L h))) }))
    (record { state = h; says = said (Err NotSound) })

-- what finish answers: a number of the table, the hash and the number of chunks mixed
pub record Ended : Type 0 where
  pub number : ℕ
  pub hash : ℕ
  pub count : ℕ

-- 0: the hash and the count; 1: not sound, hash 0 and count 0
abbrev pub ended : Result Finished Unsound → Ended
ended (Ok f) = record { number = 0; hash = f.hash; count = f.count }
ended (Err _) = record { number = 1; hash = 0; count = 0 }

-- finish
unfoldable pub finish_of : ℕ → RapidStreamHasher → Ended
finish_of L h =
    let o = h.settings in
    pick (sound L h)
    (ended (Ok (record { hash = stream_hash L o.avalanche o.protected o.secrets (view h); count = h.count })))
    (ended (Err (record {})))

-- reset: the opening state of the same settings, whatever the state
unfoldable pub reset_of : RapidStreamHasher → RapidStreamHasher
reset_of h = opening_of h.settings
