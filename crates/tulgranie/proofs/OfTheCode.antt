-- Demand 3 of the library: in every run of `tulgranie_stream_write`, `tulgranie_stream_finish` and `tulgranie_stream_reset` from what
-- `tulgranie_stream_open` answers, where each answer and the state after it are any that the call's contract allows, the stream answers as a plain
-- list of the accepted bytes. Assumes nothing.
use Rattle.std.proofs.Common.{Bool, List}
use seplogic.Ra.Ura.{Ura}
use base.Logic.{SProp, ent, id⊢}
use prog.Memory.{Memory}
use prog.Routine.{Routine}
use types.Logic.{Logic}
use contract.Lifetimes.{Lfts}
use contract.Monad.{Fun, fact}
use Rattle.secrets.specs.declared.v3.seed.RapidSecrets.{RapidSecrets}
use Rattle.stream.specs.Calls.{Call, Ran}
use Rattle.stream.specs.declared.rapid_stream_hasher.RapidStreamHasher.{RapidStreamHasher}
use Rattle.stream.proofs.Seven.{lanes}
use Rattle.stream.proofs.Runs.{Runs, AsAList}
use Rattle.lent.proofs.Runs.{Calls, way, ensured, lent_as_a_list}
use Rattle.tulgranie.specs.Answers.{wrote_with, ended_of}
use Rattle.tulgranie.proofs.streams.tulgranie_stream_open.Reads as opened
use Rattle.tulgranie.specs.contracts.streams.tulgranie_stream_write as write
use Rattle.tulgranie.specs.contracts.streams.tulgranie_stream_finish as finish
use Rattle.tulgranie.specs.contracts.streams.tulgranie_stream_reset as reset

module _ {M : Type 1} {𝓤 : Ura M} (𝓛 : Logic 𝓤) (mem : Memory → SProp 𝓤) (run : Routine → Fun 𝓤) where
  -- the exports, each with its own contract
  abbrev pub exports : Calls 𝓤
  exports = record {
    write = record {
      exits = write.ended;
      clauses = write.clauses 𝓛 mem run;
      given = λ κs a. (a.0.now, a.1.0.now);
      told = λ κs r e. wrote_with e.0.now r;
    };
    finish = record { exits = finish.ended; clauses = finish.clauses 𝓛 mem run; given = λ κs a. a.0.now; told = λ κs r e. ended_of r };
    reset = record { exits = reset.ended; clauses = reset.clauses 𝓛 mem run; given = λ κs a. a.0.now; told = λ κs r e. e.0.now };
    write_ruled = λ κs a g r e. id⊢ 𝓤 _;
    finish_ruled = λ κs a g r e. id⊢ 𝓤 _;
    reset_ruled = λ κs a g r e. id⊢ 𝓤 _;
  }

  -- Demand 3: from whatever `tulgranie_stream_open` answers, every run of the exports goes as on a plain list, and its last state is sound.
  pub exports_as_a_list : (κ : Lfts 0) (x : RapidSecrets) (av p : Bool) (h : RapidStreamHasher) (e : _) → opened.Post κ (x, (av, (p, tt))) h e
      → {cs : List Call} {l : Ran RapidStreamHasher} (r : Runs (way exports) h cs l)
      → ent 𝓤 (ensured exports r) (fact 𝓤 (AsAList lanes (record { secrets = x; avalanche = av; protected = p }) cs l))
  exports_as_a_list κ x av p h e opens = lent_as_a_list exports (record { secrets = x; avalanche = av; protected = p }) opens
