-- The fingerprint's values one after another through the stream: demand 3 makes them one message. Assumes nothing.
use Rattle.std.proofs.Common.{◌≡◌, ℕ, ◌+◌, ◌≤◌, true, false, List, [], ◌∷◌, ◌++◌, fold, length, sym, ap, ◌∙◌, append_assoc, append-nil, arith, length-append, length-drop, length-take, Result, Ok, Err, Option}
use Rattle.std.proofs.Math.Decide.{dec_le}
use Rattle.rapidhash.specs.Hash.{chunks, hash_of}
use Rattle.label.specs.Label.{walk_of, with_tag, read_of, value_of, hashed_of}
use Rattle.label.specs.declared.field.Field.{Field}
use Rattle.label.specs.Printing.{printing, with_value}
use Rattle.label.proofs.ReadingLaws.{read_too_long}
use Rattle.secrets.specs.declared.v3.seed.RapidSecrets.{RapidSecrets}
use Rattle.stream.specs.State.{most, AfterWrite, opening_of, write_of, finish_of, Ended, ended}
use Rattle.stream.specs.declared.rapid_stream_hasher.Settings.{Settings}
use Rattle.stream.specs.declared.rapid_stream_hasher.RapidStreamHasher.{RapidStreamHasher}
use Rattle.stream.specs.declared.rapid_stream_hasher.Finished.{Finished}
use Rattle.stream.specs.declared.rapid_stream_hasher.NotSound.{NotSound}
use Rattle.stream.proofs.Seven.{some_lanes, few_lanes}
use Rattle.stream.proofs.After.{after, after_none, sound_after, sofar_after}
use Rattle.stream.proofs.Demand3.{taken_when, taken_after, finish_is_whole}

-- a value has no more bytes than the record
short_value : (s : List ℕ) (l : Option Field) → length s ≤ 8192 → length (value_of s l) ≤ 8192
unfolding value_of
short_value s l h = simp (length-take, length-drop) (omega arith)

-- so the four values are no more than a stream takes
pub hashed_short : (s : List ℕ) → length s ≤ 8192 → length (hashed_of s) ≤ most
unfolding hashed_of
hashed_short s short = simp length-append (omega (arith, value 1, value 2, value 3, value 4))
  where
    value : (t : ℕ) → length (value_of s (with_tag t (walk_of s).fields)) ≤ 8192
    value t = short_value s (with_tag t (walk_of s).fields) short

module _ (o : Settings) (s : List ℕ) where
  -- the values of tags, joined
  joined : List ℕ → List ℕ
  joined [] = []
  joined (t ∷ ts) = value_of s (with_tag t (walk_of s).fields) ++ joined ts

  -- a write after any bytes that leave room
  written : (xs v : List ℕ) → length xs + length v ≤ most → (write_of 7 (after 7 o xs) v).state ≡ after 7 o (xs ++ v)
  written xs v h =
      ap (λ (a : AfterWrite). a.state)
      (taken_when 7 some_lanes few_lanes (after 7 o xs) v (sound_after 7 o some_lanes xs (omega arith)) (rw (sofar_after 7 o some_lanes xs) h))
      ∙ taken_after 7 some_lanes few_lanes o xs v

  -- so the values that are written one after another are written as one
  all_written : (xs tags : List ℕ) → length (xs ++ joined tags) ≤ most → fold (with_value s) (after 7 o xs) tags ≡ after 7 o (xs ++ joined tags)
  unfolding joined
  all_written xs [] h = rw append-nil
  all_written xs (t ∷ ts) h =
      let v = value_of s (with_tag t (walk_of s).fields) in
      let n = simp length-append at h in
      rw (written xs v (omega arith), all_written (xs ++ v) ts (rw append_assoc h), append_assoc)

  -- tags 1 to 4 from the opening, and finish
  pub four_written : length (hashed_of s) ≤ most
      → finish_of 7 (fold (with_value s) (opening_of o) (1 ∷ 2 ∷ 3 ∷ 4 ∷ []))
      ≡ ended (Ok (record { hash = hash_of 7 o.avalanche o.protected o.secrets (hashed_of s); count = chunks 112 (length (hashed_of s)) }))
  unfolding joined hashed_of
  four_written h =
      let all : joined (1 ∷ 2 ∷ 3 ∷ 4 ∷ []) ≡ hashed_of s = simp (append_assoc, append-nil) in
      rw (sym (after_none 7 o), all_written [] (1 ∷ 2 ∷ 3 ∷ 4 ∷ []) (rw all h), all)
      (finish_is_whole 7 some_lanes few_lanes o (hashed_of s) h)

-- what finish answers of that stream
module _ (s : List ℕ) (x : RapidSecrets) (short : length s ≤ 8192) {h : RapidStreamHasher} (f : Result Finished NotSound)
    (wrote : h ≡ fold (with_value s) (opening_of (printing x)) (1 ∷ 2 ∷ 3 ∷ 4 ∷ [])) (finish : ended f ≡ finish_of 7 h) where
  hashed : ended f ≡ ended (Ok (record { hash = hash_of 7 true false x (hashed_of s); count = chunks 112 (length (hashed_of s)) }))
  hashed = finish ∙ rw wrote (four_written (printing x) s (hashed_short s short))

  pub hash_finished : {g : Finished} → f ≡ Ok g → g.hash ≡ hash_of 7 true false x (hashed_of s)
  hash_finished e = ap (λ (d : Ended). d.hash) (ap ended (sym e) ∙ hashed)

  pub never_unsound : {n : NotSound} → f ≡ Err n → 0 ≡ hash_of 7 true false x (hashed_of s)
  never_unsound e =
      let n : ◌≡◌ {A = ℕ} 1 0 = ap (λ (d : Ended). d.number) (ap ended (sym e) ∙ hashed) in
      absurd (omega arith)

-- a good record is not too long
pub good_short : (s : List ℕ) → read_of s ≡ Ok tt → length s ≤ 8192
good_short s e = go (dec_le (length s) 8192)
  where
    go : Dec (length s ≤ 8192) → length s ≤ 8192
    go (yes h) = h
    go (no n) =
        let bad = read_too_long s (omega arith) in
        cc
