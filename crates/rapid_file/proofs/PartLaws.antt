-- What one part comes to, by what the read and the write say; and part after part. Assumes nothing.
use Rattle.std.proofs.Common.{ℕ, ◌≡◌, ◌+◌, ◌<◌, ◌≤◌, false, eqb, List, length, length-append, Option, Result, Ok, Err, refl, sym, ◌∙◌, ap, subst, arith}
use Rattle.std.proofs.lemmas.List.{length-take-le}
use Rattle.std.proofs.KnownBytes.{Consumes-nil, Consumes-trans}
use Rattle.std.specs.Io.KnownBytes.{Consumes, IsAtEnd}
use Rattle.std.specs.Result.{IsErr}
use Rattle.std.proofs.lemmas.Bool.{false≢true}
use Rattle.stream.specs.State.{said, answered, most, write_of}
use Rattle.stream.specs.declared.rapid_stream_hasher.RapidStreamHasher.{RapidStreamHasher}
use Rattle.stream.specs.declared.rapid_stream_hasher.WriteError.{WriteError}
use Rattle.stream.specs.declared.rapid_stream_hasher.WriteError.TheVariants.{NotSound, TooLong}
use Rattle.stream.specs.declared.rapid_stream_hasher.Written.{Written}
use Rattle.std.specs.Prelude.{⊤}
use Rattle.rapid_file.specs.Parts.{AllFull, FullBeforeLast, part_bytes, failed_with, progress_of, Came, none, part, bytes_in, CameFrom}
use Rattle.rapid_file.specs.declared.part.Part.{Part}
use Rattle.rapid_file.specs.declared.part.ReadFailed.{ReadFailed}

-- a refusal has another number than 0
not_zero : (e : WriteError) → eqb (said (Err e)).number 0 ≡ false
not_zero NotSound = refl
not_zero (TooLong r) = refl

module _ (h : RapidStreamHasher) (p : Part) where
  -- a failed read
  pub part_failed : (r : Result (Unit {0}) ReadFailed) {e : ReadFailed} → r ≡ Err e → failed_with ≡ progress_of h p r
  unfolding progress_of
  part_failed r u = rw u

module _ (h : RapidStreamHasher) (p : Part) (w : Written) (writes : answered w ≡ write_of 7 h (part_bytes p)) where
  -- a part that the stream takes
  pub part_took : w.outcome ≡ Ok tt → Ok w.state ≡ progress_of h p (Ok tt)
  unfolding progress_of
  part_took e = rw (← writes, e)

  -- a part that it does not take
  pub part_refused : (q : Result RapidStreamHasher ReadFailed) {e : WriteError} → IsErr q → w.outcome ≡ Err e → q ≡ progress_of h p (Ok tt)
  unfolding progress_of
  part_refused (Err x) {e} i u = rw (← writes, u, not_zero e)
  part_refused (Ok s) i u = absurd (false≢true i)

-- parts that a reader gave, of n bytes in all: each but the last is full, and the last too where a fact holds
pub record Gave (h : RapidStreamHasher) (g : Result RapidStreamHasher ReadFailed) (a b : Option (List ℕ)) (n : ℕ) (last : Type 0) : Type 0 where
  pub parts : Came h g
  pub bytes : Consumes a b (bytes_in parts)
  pub long : length (bytes_in parts) ≡ n
  pub before : FullBeforeLast parts
  pub full : last → AllFull parts

-- no part yet
pub none_given : (h : RapidStreamHasher) (a : Option (List ℕ)) → Gave h (Ok h) a a 0 ⊤
unfolding bytes_in FullBeforeLast AllFull
none_given h a = record { parts = none; bytes = Consumes-nil a; long = refl; before = tt; full = λ u. tt }

-- one part more, of which the reader lost the bytes
module _ {h s : RapidStreamHasher} (p : Part) (a b c : Option (List ℕ)) (n : ℕ) (f : Gave h (Ok s) a b n ⊤) (k : Consumes b c (part_bytes p)) where
  more_given : (r : Result (Unit {0}) ReadFailed) → Gave h (progress_of s p r) a c (n + p.count) (p.count ≡ 8192)
  unfolding bytes_in FullBeforeLast AllFull
  more_given r =
      let le : p.count ≤ length p.bytes = omega (arith, p.size, p.within) in
      record {
        parts = part p r f.parts;
        bytes = Consumes-trans a b c _ _ f.bytes k;
        long = length-append (bytes_in f.parts) (part_bytes p) ∙ ap (λ (m : ℕ). m + length (part_bytes p)) f.long ∙ ap (λ (m : ℕ). n + m) (length-take-le p.count p.bytes le);
        before = f.full tt;
        full = λ e. (e, f.full tt);
      }

  -- and no further
  came_to : (r : Result (Unit {0}) ReadFailed) (q : Result RapidStreamHasher ReadFailed) → q ≡ progress_of s p r
      → ((t : RapidStreamHasher) → q ≡ Ok t → n + p.count ≤ most → IsAtEnd c) → CameFrom h q a c
  came_to r q e d =
      let w = more_given r in
      subst
      (λ (g : Result RapidStreamHasher ReadFailed). CameFrom h g a c)
      (sym e)
      (record { parts = w.parts; full = w.before; bytes = w.bytes; ended = λ t u y. d t (e ∙ u) (subst (λ (m : ℕ). m ≤ most) w.long y) })

  -- where a read failed
  pub failed_read : (q : Result RapidStreamHasher ReadFailed) → IsErr q → CameFrom h q a c
  unfolding progress_of
  failed_read (Err x) i = came_to (Err x) (Err x) (part_failed s p (Err x) refl) (λ t u. absurd (cc))
  failed_read (Ok t) i = absurd (false≢true i)

  -- where the stream does not take the part
  pub failed_write : (q v : Result RapidStreamHasher ReadFailed) {x : ReadFailed} → IsErr q → v ≡ Err x → v ≡ progress_of s p (Ok tt) → CameFrom h q a c
  failed_write (Err y) v i u e = came_to (Ok tt) (Err y) (sym u ∙ e) (λ t z. absurd (cc))
  failed_write (Ok t) v i u e = absurd (false≢true i)

  -- where the input has ended, or is too long
  pub last_part : (q : Result RapidStreamHasher ReadFailed) → q ≡ progress_of s p (Ok tt) → (n + p.count ≤ most → p.count < 8192)
      → (p.count < 8192 → IsAtEnd c) → CameFrom h q a c
  last_part q e o d = came_to (Ok tt) q e (λ t u y. d (o y))

  -- and on from a full part
  pub full_part : {t : RapidStreamHasher} (m : ℕ) → p.count ≡ 8192 → n + 8192 ≡ m → Ok t ≡ progress_of s p (Ok tt) → Gave h (Ok t) a c m ⊤
  full_part {t} m u v e =
      let j : n + p.count ≡ m = omega arith in
      let w = more_given (Ok tt) in
      let v : Gave h (progress_of s p (Ok tt)) a c (n + p.count) ⊤ =
      record { parts = w.parts; bytes = w.bytes; long = w.long; before = w.before; full = λ x. w.full u } in
      subst (λ (m : ℕ). Gave h (Ok t) a c m ⊤) j (subst (λ (q : Result RapidStreamHasher ReadFailed). Gave h q a c (n + p.count) ⊤) (sym e) v)
