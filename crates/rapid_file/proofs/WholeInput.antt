-- What a reader of the file program looks for: where nothing failed, the stream has taken the bytes of all parts that were read, in
-- order, and its hash is the hash of the input as one message. Assumes nothing.
use Rattle.std.proofs.Common.{Option, None, Some, IfSome, Result, Ok, Err, OnOk, ◌≡◌, ℕ, ◌+◌, ◌≤◌, true, false, List, ◌++◌, length, sym, refl, ap, ◌∙◌, subst, arith, length-append}
use native.Mathlib.Decide.{dec_le}
use Rattle.secrets.specs.Secrets.{seed_cpp}
use Rattle.rapidhash.specs.Hash.{chunks, hash_of}
use Rattle.stream.specs.State.{most, sound, opening_of, ended, finish_of}
use Rattle.stream.specs.declared.rapid_stream_hasher.Settings.{Settings}
use Rattle.stream.specs.declared.rapid_stream_hasher.RapidStreamHasher.{RapidStreamHasher}
use Rattle.stream.proofs.After.{after, after_none, sofar_after, sound_after}
use Rattle.stream.proofs.Demand3.{refused_too_long, taken_when, taken_after, finish_is_whole}
use Rattle.rapid_file.specs.Parts.{part_bytes, progress_of, Came, none, part, bytes_in, CameFrom}
use Rattle.rapid_file.specs.Lines.{answer_of, line_for, line_of, IsLineOf, hashed, failed}
use Rattle.std.specs.Io.KnownBytes.{Appends}
use Rattle.std.proofs.KnownBytes.{Consumes-whole}
use Rattle.rapid_file.specs.declared.part.Part.{Part}
use Rattle.rapid_file.specs.declared.part.ReadFailed.{ReadFailed}
use Rattle.rapid_file.proofs.LineLaws.{answer_failed, answer_hash}

-- a stream that has taken just these bytes
pub record Holds (o : Settings) (bytes : List ℕ) (h : RapidStreamHasher) : Type 0 where
  pub state : h ≡ after 7 o bytes
  pub short : length bytes ≤ most

-- the stream in an answer
same_stream : {h s : RapidStreamHasher} {g : Result RapidStreamHasher ReadFailed} → g ≡ Ok h → g ≡ Ok s → h ≡ s
same_stream {h} u e = ap (λ (g : Result RapidStreamHasher ReadFailed). elim g [ Ok s ↦ s | Err _ ↦ h ]) (sym u ∙ e)

module _ (o : Settings) where
  -- one part more, where nothing failed
  one_part : (bytes : List ℕ) (p : Part) (r : Result (Unit {0}) ReadFailed) (h s : RapidStreamHasher) → Holds o bytes h → progress_of h p r ≡ Ok s
      → Holds o (bytes ++ part_bytes p) s
  unfolding progress_of
  one_part bytes p (Err x) h s k e = absurd (cc)
  one_part bytes p (Ok u) h s k e = go (dec_le (length bytes + length (part_bytes p)) most)
    where
      ok : sound 7 (after 7 o bytes) ≡ true
      ok = sound_after 7 o (omega arith) bytes k.short

      go : Dec (length bytes + length (part_bytes p) ≤ most) → Holds o (bytes ++ part_bytes p) s
      go (yes l) =
          let w = taken_when 7 (omega arith) (omega arith) (after 7 o bytes) (part_bytes p) ok (rw (sofar_after 7 o (omega arith) bytes) l) in
          record { state = sym (same_stream refl (rw (k.state, w) at e)) ∙ taken_after 7 (omega arith) (omega arith) o bytes (part_bytes p); short = rw length-append l }
      go (no n) =
          let w = refused_too_long 7 (omega arith) (omega arith) (after 7 o bytes) (part_bytes p) ok (rw (sofar_after 7 o (omega arith) bytes) (omega arith)) in
          let z = rw (k.state, w) at e in
          absurd (cc)

  -- all parts that were read, where nothing failed
  pub whole_input : {g : Result RapidStreamHasher ReadFailed} (c : Came (opening_of o) g) {t : RapidStreamHasher} → g ≡ Ok t → Holds o (bytes_in c) t
  unfolding bytes_in
  whole_input none e = record { state = sym (same_stream refl e) ∙ sym (after_none 7 o); short = omega arith }
  whole_input (part {s} p r c) {t} e = one_part (bytes_in c) p r s t (whole_input c refl) e

-- and the hash of the input is what finish answers
pub input_hash : {s : RapidStreamHasher} (c : Came (opening_of (record { secrets = seed_cpp 0; avalanche = true; protected = false })) (Ok s))
    → finish_of 7 s ≡ ended (Ok (record { hash = hash_of 7 true false (seed_cpp 0) (bytes_in c); count = chunks 112 (length (bytes_in c)) }))
input_hash c =
    let o : Settings = record { secrets = seed_cpp 0; avalanche = true; protected = false } in
    let k = whole_input o c refl in
    ap (finish_of 7) k.state ∙ finish_is_whole 7 (omega arith) (omega arith) o (bytes_in c) k.short

-- the line that is written at the end of an input is the line of its hash, or the fixed one
pub line_of_input : (g : Result RapidStreamHasher ReadFailed) (a b : Option (List ℕ))
    → CameFrom (opening_of (record { secrets = seed_cpp 0; avalanche = true; protected = false })) g a b → IfSome a (λ bytes. IsLineOf bytes (line_of g))
line_of_input (Err e) None b w = tt
line_of_input (Err e) (Some xs) b w = subst (λ (r : Result ℕ ReadFailed). IsLineOf xs (line_for r)) (answer_failed (Err e) (Err e) refl refl) failed
line_of_input (Ok s) a b w =
    let o : Settings = record { secrets = seed_cpp 0; avalanche = true; protected = false } in
    let k = whole_input o w.parts refl in
    let n = chunks 112 (length (bytes_in w.parts)) in
    let v = hash_of 7 true false (seed_cpp 0) (bytes_in w.parts) in
    let u : Ok v ≡ answer_of (Ok s) = answer_hash (Ok s) s refl (Ok (record { hash = v; count = n })) (sym (input_hash w.parts)) (record { hash = v; count = n }) refl in
    Consumes-whole a b (bytes_in w.parts) (λ bytes. IsLineOf bytes (line_of (Ok s))) w.bytes (w.ended s refl k.short)
    (subst (λ (r : Result ℕ ReadFailed). IsLineOf (bytes_in w.parts) (line_for r)) u (hashed k.short))

-- and so where the write succeeds
module _ {g : Result RapidStreamHasher ReadFailed} (a b : Option (List ℕ))
    (w : CameFrom (opening_of (record { secrets = seed_cpp 0; avalanche = true; protected = false })) g a b) where
  pub written_line : {T E : Type 0} (r : Result T E) (c d : Option (List ℕ)) → OnOk r (Appends c d (line_of g))
      → OnOk r (IfSome a (λ bytes. (line : List ℕ) × IsLineOf bytes line × Appends c d line))
  written_line (Err e) c d h = tt
  written_line (Ok x) c d h = go a (line_of_input g a b w)
    where
      go : (o : Option (List ℕ)) → IfSome o (λ bytes. IsLineOf bytes (line_of g)) → IfSome o (λ bytes. (line : List ℕ) × IsLineOf bytes line × Appends c d line)
      go None k = tt
      go (Some xs) k = (line_of g, k, h)
