-- Sequences of calls on a stream of L lanes (docs/RULES.md, section 5.3), run on states and run on a plain list of the accepted bytes. Assumes
-- nothing.
use Rattle.std.specs.Prelude.{ℕ, ◌+◌, ◌-◌, ◌*◌, Bool, List, [], ◌∷◌, ◌++◌, leb, length, Ok, Err}
use Rattle.secrets.specs.Choice.{pick}
use Rattle.rapidhash.specs.Hash.{chunks, hash_of}
use Rattle.stream.specs.State.{most, Said, said, Ended, ended, write_of, finish_of, reset_of}
use Rattle.stream.specs.declared.rapid_stream_hasher.Settings.{Settings}
use Rattle.stream.specs.declared.rapid_stream_hasher.RapidStreamHasher.{RapidStreamHasher}
use Rattle.stream.specs.declared.rapid_stream_hasher.WriteError.TheVariants.{TooLong}

-- a call
pub data Call : Type 0 where
  write : List ℕ → Call
  finish : Call
  reset : Call

-- what a call answers besides the state
pub data Reply : Type 0 where
  wrote : Said → Reply
  finished : Ended → Reply
  did_reset : Reply

-- what calls come to: the replies one after another, and what they lead to
pub record Ran (A : Type 0) : Type 0 where
  pub replies : List Reply
  pub last : A

-- a reply before others
abbrev pub first : {A : Type 0} → Reply → Ran A → Ran A
first r l = record { replies = r ∷ l.replies; last = l.last }

-- calls on a state lead to a state
unfoldable pub on_states : ℕ → RapidStreamHasher → List Call → Ran RapidStreamHasher
on_states L h [] = record { replies = []; last = h }
on_states L h (write s ∷ cs) = first (wrote (write_of L h s).says) (on_states L (write_of L h s).state cs)
on_states L h (finish ∷ cs) = first (finished (finish_of L h)) (on_states L h cs)
on_states L h (reset ∷ cs) = first did_reset (on_states L (reset_of h) cs)

-- whether a list of bytes may grow by n
abbrev pub fits : List ℕ → ℕ → Bool
fits bytes n = leb (length bytes + n) most

-- calls on a plain list of the accepted bytes lead to such a list: a write adds its bytes, or says how many there is room for; finish is the
-- whole-message hash and the number of chunks that it mixes, and changes nothing; reset empties the list
unfoldable pub on_list : ℕ → Settings → List ℕ → List Call → Ran (List ℕ)
on_list L o bytes [] = record { replies = []; last = bytes }
on_list L o bytes (write s ∷ cs) =
    pick (fits bytes (length s))
    (first (wrote (said (Ok tt))) (on_list L o (bytes ++ s) cs))
    (first (wrote (said (Err (TooLong (most - length bytes))))) (on_list L o bytes cs))
on_list L o bytes (finish ∷ cs) =
    first
    (finished
    (ended (Ok (record { hash = hash_of L o.avalanche o.protected o.secrets bytes; count = chunks (16 * L) (length bytes) }))))
    (on_list L o bytes cs)
on_list L o bytes (reset ∷ cs) = first did_reset (on_list L o [] cs)
