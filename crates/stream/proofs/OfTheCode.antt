-- Demand 3 of the code itself: in every run of `write`, `finish` and `reset` from what `new` answers, where each answer is any that the call's
-- contract allows, the stream answers as a plain list of the accepted bytes. Assumes nothing.
use Rattle.std.proofs.Common.{ℕ, Bool, List, Bor, Result}
use contract.Lifetimes.{Lfts}
use Rattle.secrets.specs.declared.v3.seed.RapidSecrets.{RapidSecrets}
use Rattle.stream.specs.State.{AfterWrite, answered, Ended, ended}
use Rattle.stream.specs.Calls.{Call, Ran}
use Rattle.stream.specs.declared.rapid_stream_hasher.RapidStreamHasher.{RapidStreamHasher}
use Rattle.stream.specs.declared.rapid_stream_hasher.Written.{Written}
use Rattle.stream.specs.declared.rapid_stream_hasher.NotSound.{NotSound}
use Rattle.stream.specs.declared.rapid_stream_hasher.Finished.{Finished}
use Rattle.stream.proofs.rapid_stream_hasher.RapidStreamHasher.new.Reads as new
use Rattle.stream.proofs.rapid_stream_hasher.RapidStreamHasher.write.Reads as write
use Rattle.stream.proofs.rapid_stream_hasher.RapidStreamHasher.finish.Reads as finish
use Rattle.stream.proofs.rapid_stream_hasher.RapidStreamHasher.reset.Reads as reset
use Rattle.stream.proofs.Seven.{lanes, some_lanes, few_lanes}
use Rattle.stream.proofs.Runs.{Way, Runs, stop, by_write, by_finish, by_reset, rules, AsAList, ruled_as_a_list}

-- a step by `write`: the answer is any that the contract allows for the state and bytes lent
pub data Writes : RapidStreamHasher → List ℕ → AfterWrite → Type 0 where
  allowed : {h : RapidStreamHasher} (κ : Lfts 1) (d : Bor (List ℕ)) (r : Written) (e : _) → write.Post κ (h, (d, tt)) r e
      → Writes h d.now (answered r)

-- by `finish`
pub data Finishes : RapidStreamHasher → Ended → Type 0 where
  allowed : {h : RapidStreamHasher} (κ : Lfts 0) (r : Result Finished NotSound) (e : _) → finish.Post κ (h, tt) r e → Finishes h (ended r)

-- and by `reset`
pub data Resets : RapidStreamHasher → RapidStreamHasher → Type 0 where
  allowed : {h : RapidStreamHasher} (κ : Lfts 0) (r : RapidStreamHasher) (e : _) → reset.Post κ (h, tt) r e → Resets h r

-- the code's calls
abbrev pub calls : Way
calls = record { writes = Writes; finishes = Finishes; resets = Resets }

-- each contract is its rule
write_ruled : {h : RapidStreamHasher} {s : List ℕ} {a : AfterWrite} → Writes h s a → (rules lanes).writes h s a
write_ruled (Writes.allowed κ d r e p) = p

finish_ruled : {h : RapidStreamHasher} {a : Ended} → Finishes h a → (rules lanes).finishes h a
finish_ruled (Finishes.allowed κ r e p) = p

reset_ruled : {h a : RapidStreamHasher} → Resets h a → (rules lanes).resets h a
reset_ruled (Resets.allowed κ r e p) = p

-- so a run of the code is one by the rules
pub code_ruled : {h : RapidStreamHasher} {cs : List Call} {l : Ran RapidStreamHasher} → Runs calls h cs l → Runs (rules lanes) h cs l
code_ruled stop = stop
code_ruled (by_write s r) = by_write (write_ruled s) (code_ruled r)
code_ruled (by_finish s r) = by_finish (finish_ruled s) (code_ruled r)
code_ruled (by_reset s r) = by_reset (reset_ruled s) (code_ruled r)

-- Demand 3: from whatever `new` answers, every run of the code goes as on a plain list, and its last state is sound.
pub code_as_a_list : (κ : Lfts 0) (x : RapidSecrets) (av p : Bool) (h : RapidStreamHasher) (e : _) → new.Post κ (x, (av, (p, tt))) h e
    → {cs : List Call} {l : Ran RapidStreamHasher} → Runs calls h cs l
    → AsAList lanes (record { secrets = x; avalanche = av; protected = p }) cs l
code_as_a_list κ x av p h e opens r =
    ruled_as_a_list lanes some_lanes few_lanes (record { secrets = x; avalanche = av; protected = p }) opens (code_ruled r)
