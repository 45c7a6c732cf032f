-- What is proved of label records, of the exported calls: of any answer that the contracts of `tulgranie_read`, `tulgranie_find` and
-- `tulgranie_fingerprint` allow. Assumes nothing.
use Rattle.std.proofs.Common.{◌≡◌, ℕ, ◌≤◌, true, false, List, ◌++◌, length, take, ap, ◌∙◌, Bor, Result, Ok, Err}
use mathlib.Core.List.{flatten}
use seplogic.Ra.Ura.{Ura}
use base.Logic.{SProp, ent, via}
use prog.Memory.{Memory}
use prog.Routine.{Routine}
use types.Logic.{Logic}
use contract.Lifetimes.{Lfts}
use contract.Monad.{Fun, fact, fact_mono}
use Rattle.secrets.specs.declared.v3.seed.RapidSecrets.{RapidSecrets}
use Rattle.rapidhash.specs.Hash.{chunks, hash_of}
use Rattle.stream.specs.State.{opening_of}
use Rattle.stream.specs.Calls.{Ran, on_states}
use Rattle.stream.specs.declared.rapid_stream_hasher.RapidStreamHasher.{RapidStreamHasher}
use Rattle.stream.proofs.Runs.{Runs}
use Rattle.lent.proofs.Runs.{way, ensured}
use Rattle.label.specs.Label.{walk_of, read_of, find_of, hashed_of, fingerprint_of}
use Rattle.label.specs.Numbers.{Told, told_lookup, told_reading, told_refusal, told_printed}
use Rattle.label.specs.Rows.{Row, Exactly, NoneListed}
use Rattle.label.specs.Good.{Plain, laid_out, Present, GoodRecord, values_to}
use Rattle.label.specs.Arrived.{Arrives}
use Rattle.label.specs.Printing.{printing, in_parts, all_taken}
use Rattle.label.specs.declared.field.Refusal.{Refusal}
use Rattle.label.proofs.ByNumber.{by_number, eleven_exactly}
use Rattle.label.proofs.CutShort.{arrived_read, print_refused, print_whole}
use Rattle.label.proofs.InParts.{as_listed, in_parts_lem}
use Rattle.tulgranie.specs.Answers.{told_of}
use Rattle.tulgranie.specs.declared.labels.Answer.{Answer}
use Rattle.tulgranie.proofs.OfTheCode.{exports, exports_as_a_list}
use Rattle.tulgranie.proofs.streams.tulgranie_stream_open.Reads as opened
use Rattle.tulgranie.proofs.labels.tulgranie_read.Reads as read
use Rattle.tulgranie.proofs.labels.tulgranie_find.Reads as find
use Rattle.tulgranie.proofs.labels.tulgranie_fingerprint.Reads as fingerprint

-- a number comes back from reading exactly when its row of the table holds of the place beside it
pub read_number : (κ : Lfts 1) (d : Bor (List ℕ)) (r : Answer) (z : _) → read.Post κ (d, tt) r z
    → (number : ℕ) → Exactly (r.number ≡ number) (Row d.now number r.place)
read_number κ d r z p number =
    let n : r.number ≡ (told_reading (read_of d.now)).number = ap (λ (t : Told). t.number) p in
    let l : r.place ≡ (told_reading (read_of d.now)).place = ap (λ (t : Told). t.place) p in
    rw (n, l) (by_number d.now number)

-- and 11 from finding exactly when the record is good and has no listed tag
pub find_eleven : (κ : Lfts 2) (d t : Bor (List ℕ)) (r : Answer) (z : _) → find.Post κ (d, (t, tt)) r z
    → Exactly (r.number ≡ 11) (((told_reading (read_of d.now)).number ≡ 0) × NoneListed (walk_of d.now).fields t.now)
find_eleven κ d t r z p =
    let n : r.number ≡ (told_lookup (find_of d.now t.now)).number = ap (λ (t : Told). t.number) p in
    rw n (eleven_exactly d.now t.now)

-- of a good record s of the fields ps the first n bytes arrived
module _ (s : List ℕ) (ps : List Plain) (g : GoodRecord s ps) (n : ℕ) (h : n ≤ length s) (κ : Lfts 1) (d : Bor (List ℕ)) (is : d.now ≡ take n s) where
  -- reading answers as the cases say
  pub read_cut : (r : Answer) (z : _) → read.Post κ (d, tt) r z → {q : Result Unit Refusal} → Arrives ps n q → told_of r ≡ told_reading q
  read_cut r z p a = (rw is at p) ∙ ap told_reading (arrived_read s ps g n h a)

  -- the fingerprint the same refusal, with fingerprint 0
  pub fingerprint_cut : (x : RapidSecrets) (r : Answer) (z : _) → fingerprint.Post κ (d, (x, tt)) r z → {q : Refusal} → Arrives ps n (Err q)
      → told_of r ≡ told_refusal q
  fingerprint_cut x r z p a = (rw is at p) ∙ print_refused s ps g n h x a

  -- or the hash of the values that arrived
  pub fingerprint_whole : (x : RapidSecrets) (r : Answer) (z : _) → fingerprint.Post κ (d, (x, tt)) r z → (earlier later : List Plain)
      → ps ≡ earlier ++ later → n ≡ length (laid_out earlier) → Present 1 earlier → Present 2 earlier
      → told_of r ≡ told_printed (Ok (hash_of 7 true false x (values_to 4 earlier)))
  fingerprint_whole x r z p earlier later e m one two =
      (rw is at p) ∙ ap told_printed (print_whole s ps g n h x earlier later e m one two)

-- a good record's hashed bytes in any parts, written to a stream of the same secrets: finish answers the fingerprint that comes back
pub fingerprint_in_parts : (κ : Lfts 1) (d : Bor (List ℕ)) (x : RapidSecrets) (r : Answer) (z : _) → fingerprint.Post κ (d, (x, tt)) r z
    → (parts : List (List ℕ)) → flatten parts ≡ hashed_of d.now → (told_reading (read_of d.now)).number ≡ 0
    → (on_states 7 (opening_of (printing x)) (in_parts parts)).replies
    ≡ all_taken parts (record { number = 0; hash = r.fingerprint; count = chunks 112 (length (hashed_of d.now)) })
fingerprint_in_parts κ d x r z p parts joins good =
    let f : r.fingerprint ≡ (told_printed (fingerprint_of x d.now)).fingerprint = ap (λ (t : Told). t.fingerprint) p in
    in_parts_lem x d.now parts joins good ∙ rw f

-- the same of the exported stream: what the contracts of a run's steps ensure, all together, entails in every model that it finishes so
module _ {M : Type 1} {𝓤 : Ura M} (𝓛 : Logic 𝓤) (mem : Memory → SProp 𝓤) (run : Routine → Fun 𝓤) where
  pub exports_in_parts : (κ : Lfts 0) (x : RapidSecrets) (h : RapidStreamHasher) (e : _) → opened.Post κ (x, (true, (false, tt))) h e
      → (s : List ℕ) (parts : List (List ℕ)) → flatten parts ≡ hashed_of s → (told_reading (read_of s)).number ≡ 0
      → {l : Ran RapidStreamHasher} (r : Runs (way (exports 𝓛 mem run)) h (in_parts parts) l)
      → ent 𝓤 (ensured (exports 𝓛 mem run) r)
      (fact 𝓤
      (l.replies
      ≡ all_taken parts (record { number = 0; hash = (told_printed (fingerprint_of x s)).fingerprint; count = chunks 112 (length (hashed_of s)) })))
  exports_in_parts κ x h e opens s parts joins good r =
      via 𝓤 _ (exports_as_a_list 𝓛 mem run κ x true false h e opens r) (fact_mono 𝓤 _ _ (λ k. as_listed x s parts joins k good))
