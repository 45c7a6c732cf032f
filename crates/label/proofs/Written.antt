-- A field in a record, as it stands and as it is written. Assumes nothing.
use Rattle.std.proofs.Common.{◌≡◌, ℕ, ◌+◌, ◌-◌, ◌*◌, ◌/◌, ◌%◌, ◌<◌, ◌≤◌, List, ◌∷◌, ◌++◌, length, get_or, take, drop, sym, ap, ◌∙◌, add-one, arith, length-append, length-drop, take-append-drop, length-take, get_or-drop, drop-cons, drop-drop, Some}
use Rattle.std.proofs.Math.Seq.{take-append_seam, drop-append_seam}
use Rattle.rapidhash.specs.Words.{word}
use Rattle.label.specs.Label.{value_of}
use Rattle.label.specs.Good.{Plain, written, plain}
use Rattle.label.specs.declared.field.Field.{Field}
use Rattle.label.proofs.Standing.{Standing}

-- every number of a list is a byte
pub Bytes : List ℕ → Type 0
Bytes s = (i : ℕ) → get_or s i 0 < 256

-- the next element, and those after it
next : (s : List ℕ) (at : ℕ) → at < length s → drop at s ≡ get_or s at 0 ∷ drop (at + 1) s
next s at h = rw (drop-cons s at 0 h, add-one at)

-- a length of two bytes, and the bytes of a length
two_bytes : (s : List ℕ) (i : ℕ) → word 2 s i ≡ get_or s i 0 + get_or s (i + 1) 0 * 256
unfolding word
two_bytes s i =
    let e : get_or s (i + 0) 0 ≡ get_or s i 0 = ap (λ (k : ℕ). get_or s k 0) (omega arith) in
    omega arith

-- a field that stands at a place is written there, and the rest follows
module _ (s : List ℕ) (at before : ℕ) {f : Field} (bytes : Bytes s) (st : Standing s at before f) where
  pub value-length : length (value_of s (Some f)) ≡ f.length
  unfolding value_of
  value-length = let w = st.within in simp (length-take, length-drop) (omega arith)

  pub stands_written : drop at s ≡ written (plain s f) ++ drop (f.start + f.length) s
  unfolding value_of Bytes
  stands_written =
      let w = st.within in
      let start = st.start in
      let n = st.size in
      let two = two_bytes s (at + 1) in
      let small = bytes (at + 1) in
      let i : at + 1 + 1 ≡ at + 2 = omega arith in
      let third : get_or s (at + 1 + 1) 0 ≡ get_or s (at + 2) 0 = ap (λ (k : ℕ). get_or s k 0) i in
      let low : f.length % 256 ≡ get_or s (at + 1) 0 = omega arith in
      let high : f.length / 256 ≡ get_or s (at + 2) 0 = omega arith in
      let j : at + 2 + 1 ≡ f.start = omega arith in
      let value : drop f.start s ≡ take f.length (drop f.start s) ++ drop (f.start + f.length) s =
      sym (take-append-drop f.length (drop f.start s)) ∙ rw (drop-drop f.length f.start s) in
      rw (next s at (omega arith), next s (at + 1) (omega arith), i, next s (at + 2) (omega arith), j, value-length, st.tag, low, high)
      (ap (λ (r : List ℕ). get_or s at 0 ∷ get_or s (at + 1) 0 ∷ get_or s (at + 2) 0 ∷ r) value)

-- a field that is written at a place stands there
module _ (s : List ℕ) (at : ℕ) (p : Plain) (q : List ℕ) (e : drop at s ≡ written p ++ q) where
  pub written_within : at + 3 + length p.value ≤ length s
  written_within =
      let n : length s - at ≡ length p.value + length q + 3 = sym (length-drop at s) ∙ ap length e ∙ simp length-append (omega arith) in
      omega arith

  at_place : (i : ℕ) → get_or s (at + i) 0 ≡ get_or (written p ++ q) i 0
  at_place i = sym (get_or-drop at s i 0) ∙ ap (λ (l : List ℕ). get_or l i 0) e

  pub written_tag : get_or s at 0 ≡ p.tag
  written_tag = ap (λ (k : ℕ). get_or s k 0) (omega arith) ∙ at_place 0

  pub written-length : word 2 s (at + 1) ≡ length p.value
  written-length =
      let one : get_or s (at + 1) 0 ≡ length p.value % 256 = at_place 1 in
      let i : at + 1 + 1 ≡ at + 2 = omega arith in
      let two : get_or s (at + 1 + 1) 0 ≡ length p.value / 256 = ap (λ (k : ℕ). get_or s k 0) i ∙ at_place 2 in
      let w = two_bytes s (at + 1) in
      omega arith

  past_header : drop (at + 3) s ≡ p.value ++ q
  past_header = sym (drop-drop 3 at s) ∙ ap (λ (l : List ℕ). drop 3 l) e

  pub written_value : take (length p.value) (drop (at + 3) s) ≡ p.value
  written_value = rw (past_header, take-append_seam p.value q)

  pub written_rest : drop (at + 3 + length p.value) s ≡ q
  written_rest = sym (drop-drop (length p.value) (at + 3) s) ∙ rw (past_header, drop-append_seam p.value q)
