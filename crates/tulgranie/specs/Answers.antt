-- The answers of the library for C as the rules' own (docs/RULES.md, section 8). Assumes nothing.
use Rattle.secrets.specs.Numbers.{Returned}
use Rattle.stream.specs.State.{Said, AfterWrite, Ended}
use Rattle.stream.specs.declared.rapid_stream_hasher.RapidStreamHasher.{RapidStreamHasher}
use Rattle.label.specs.Numbers.{Told}
use Rattle.tulgranie.specs.declared.hashes.Value.{Value}
use Rattle.tulgranie.specs.declared.streams.StreamWrote.{StreamWrote}
use Rattle.tulgranie.specs.declared.streams.StreamEnded.{StreamEnded}
use Rattle.tulgranie.specs.declared.labels.Answer.{Answer}

-- a number and a value
abbrev pub value_for : Returned → Value
value_for r = record { number = r.number; value = r.value }

-- an answer about a record, as what it tells
abbrev pub told_of : Answer → Told
told_of a =
    record { number = a.number; place = a.place; tag = a.tag; start = a.start; length = a.length; fingerprint = a.fingerprint }

-- what a write says, as the stream's own
abbrev pub said_by : StreamWrote → Said
said_by w = record { number = w.number; room = w.room }

-- with the state after it
abbrev pub wrote_with : RapidStreamHasher → StreamWrote → AfterWrite
wrote_with h w = record { state = h; says = said_by w }

-- what finish finds, as the stream's own
abbrev pub ended_of : StreamEnded → Ended
ended_of e = record { number = e.number; hash = e.hash; count = e.count }
