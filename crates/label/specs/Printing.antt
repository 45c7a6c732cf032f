-- The hashed bytes of a record, handed to a stream in parts (docs/RULES.md, sections 5.3 and 7.4). Assumes nothing.
use Rattle.std.specs.Prelude.{ℕ, true, false, List, [], ◌∷◌, ◌++◌, map, Ok}
use Rattle.secrets.specs.declared.v3.seed.RapidSecrets.{RapidSecrets}
use Rattle.stream.specs.State.{said, write_of, Ended}
use Rattle.stream.specs.Calls.{Call, write, finish, Reply, wrote, finished}
use Rattle.stream.specs.declared.rapid_stream_hasher.RapidStreamHasher.{RapidStreamHasher}
use Rattle.stream.specs.declared.rapid_stream_hasher.Settings.{Settings}
use Rattle.label.specs.Label.{walk_of, with_tag, value_of}

-- a fingerprint's settings: the caller's secrets, avalanche on, protected off
abbrev pub printing : RapidSecrets → Settings
printing x = record { secrets = x; avalanche = true; protected = false }

-- a stream after the value of a tag was written to it, where the record has that
abbrev pub with_value : List ℕ → RapidStreamHasher → ℕ → RapidStreamHasher
with_value s h t = (write_of 7 h (value_of s (with_tag t (walk_of s).fields))).state

-- a write of each part, and finish
abbrev pub in_parts : List (List ℕ) → List Call
in_parts parts = map write parts ++ (finish ∷ [])

-- each write took its part, and finish answers as given
abbrev pub all_taken : List (List ℕ) → Ended → List Reply
all_taken parts e = map (λ (part : List ℕ). wrote (said (Ok tt))) parts ++ (finished e ∷ [])
