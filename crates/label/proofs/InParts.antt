-- A record's hashed bytes in any parts through a stream: finish answers the record's fingerprint. Assumes nothing.
use Rattle.std.proofs.Common.{◌≡◌, ℕ, ◌+◌, ◌≤◌, true, false, List, [], ◌∷◌, ◌++◌, length, ap, ◌∙◌, append_assoc, append-nil, arith, length-append, Bor, le-leb, Result}
use mathlib.Core.List.{flatten}
use contract.Lifetimes.{Lfts}
use Rattle.secrets.specs.declared.v3.seed.RapidSecrets.{RapidSecrets}
use Rattle.rapidhash.specs.Hash.{chunks, hash_of}
use Rattle.stream.specs.State.{most, opening_of}
use Rattle.stream.specs.Calls.{Ran, on_states, on_list}
use Rattle.stream.specs.declared.rapid_stream_hasher.RapidStreamHasher.{RapidStreamHasher}
use Rattle.stream.specs.declared.rapid_stream_hasher.Settings.{Settings}
use Rattle.stream.proofs.Seven.{some_lanes, few_lanes}
use Rattle.stream.proofs.Demand3.{as_a_list, reached_sound}
use Rattle.stream.proofs.Runs.{Runs, AsAList}
use Rattle.stream.proofs.OfTheCode.{calls, code_as_a_list}
use Rattle.stream.proofs.rapid_stream_hasher.RapidStreamHasher.new.Reads as new
use Rattle.label.specs.Label.{read_of, hashed_of, fingerprint_of}
use Rattle.label.specs.Numbers.{told_reading, told_printed}
use Rattle.label.specs.Printing.{printing, in_parts, all_taken}
use Rattle.label.specs.declared.field.Refusal.{Refusal}
use Rattle.label.proofs.ByNumber.{good_by_zero}
use Rattle.label.proofs.FingerLaws.{hashed_short, good_short}
use Rattle.label.proofs.fingerprint.fingerprint.Reads as fingerprint

-- on a plain list of the accepted bytes: every part is taken, and finish is of all of them
pub list_in_parts : (o : Settings) (bytes : List ℕ) (parts : List (List ℕ)) → length (bytes ++ flatten parts) ≤ most
    → (on_list 7 o bytes (in_parts parts)).replies
    ≡ all_taken parts
    (record {
      number = 0;
      hash = hash_of 7 o.avalanche o.protected o.secrets (bytes ++ flatten parts);
      count = chunks 112 (length (bytes ++ flatten parts));
    })
unfolding on_list flatten
list_in_parts o bytes [] h = rw append-nil
list_in_parts o bytes (p ∷ parts) h =
    let n = simp length-append at h in
    let later = list_in_parts o (bytes ++ p) parts (rw append_assoc h) in
    rw (le-leb (length bytes + length p) most (omega arith), later, append_assoc)

module _ (x : RapidSecrets) (s : List ℕ) (parts : List (List ℕ)) (joins : flatten parts ≡ hashed_of s) where
  -- a run that goes as on a plain list finishes in the record's fingerprint
  pub as_listed : {l : Ran RapidStreamHasher} → AsAList 7 (printing x) (in_parts parts) l → (told_reading (read_of s)).number ≡ 0
      → l.replies ≡ all_taken parts (record { number = 0; hash = (told_printed (fingerprint_of x s)).fingerprint; count = chunks 112 (length (hashed_of s)) })
  unfolding fingerprint_of
  as_listed a z =
      let e = good_by_zero (read_of s) z in
      let m = hashed_short s (good_short s e) in
      ap (λ (r : Ran RapidStreamHasher). r.replies) a.alike
      ∙ list_in_parts (printing x) [] parts (rw joins m)
      ∙ rw (joins, e)

  -- so do the states by the rules
  pub in_parts_lem : (told_reading (read_of s)).number ≡ 0
      → (on_states 7 (opening_of (printing x)) (in_parts parts)).replies
      ≡ all_taken parts
      (record { number = 0; hash = (told_printed (fingerprint_of x s)).fingerprint; count = chunks 112 (length (hashed_of s)) })
  in_parts_lem z =
      as_listed
      (record {
        alike = as_a_list 7 some_lanes few_lanes (printing x) (in_parts parts);
        last_sound = reached_sound 7 some_lanes few_lanes (printing x) (in_parts parts);
      })
      z

  -- and so of the code that makes it at once: whatever fingerprint the contract of `fingerprint` allows
  pub printed_in_parts : (κ : Lfts 1) (d : Bor (List ℕ)) (r : Result ℕ Refusal) (e : _) → d.now ≡ s → fingerprint.Post κ (d, (x, tt)) r e
      → (told_reading (read_of s)).number ≡ 0
      → (on_states 7 (opening_of (printing x)) (in_parts parts)).replies
      ≡ all_taken parts (record { number = 0; hash = (told_printed r).fingerprint; count = chunks 112 (length (hashed_of s)) })
  printed_in_parts κ d r e is p z = in_parts_lem z ∙ rw (rw is at p)

  -- and of the stream's code: in every run of it from whatever `new` answers, whatever its contracts allow
  pub code_in_parts : (κ : Lfts 0) (h : RapidStreamHasher) (e : _) → new.Post κ (x, (true, (false, tt))) h e → {l : Ran RapidStreamHasher}
      → Runs calls h (in_parts parts) l → (told_reading (read_of s)).number ≡ 0
      → l.replies ≡ all_taken parts (record { number = 0; hash = (told_printed (fingerprint_of x s)).fingerprint; count = chunks 112 (length (hashed_of s)) })
  code_in_parts κ h e opens r z = as_listed (code_as_a_list κ x true false h e opens r) z
