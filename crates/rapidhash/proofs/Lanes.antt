-- Lane by lane: two words into a lane, the first j lanes of a chunk's step and of their XOR, and one more. Assumes nothing.
use Rattle.std.proofs.Common.{◌≡◌, ℕ, zero, suc, ◌+◌, ◌*◌, ◌<◌, ◌≤◌, Bool, ◌≢◌, List, length, get_or, take, set, bit_xor, refl, ap, ◌∙◌, add-one, arith, length-set, get_or-set_other, get_or-take, le-leb}
use borrow.Author.Tests.{lt-leb}
use Rattle.secrets.specs.Mix.{mix}
use Rattle.rapidhash.specs.Words.{word}
use Rattle.rapidhash.specs.Hash.{mix_pair, chunk_step, first_of, joined}

-- two words at a place into x
pub pair_words : (p : Bool) (s : List ℕ) (at t x : ℕ) {u v y : ℕ} → u ≡ word 8 s at → v ≡ word 8 s (at + 8)
    → y ≡ mix p (bit_xor u t) (bit_xor v x) → y ≡ mix_pair p s at t x
unfolding mix_pair
pair_words p s at t x eu ev ey = rw (← eu, ← ev) ey

-- what holds of the first j holds of all n, once j is no less
at_end : {A : Type 0} (f : ℕ → A) {x : A} {j n : ℕ} → j ≤ n → n ≤ j → x ≡ f j → x ≡ f n
at_end f h k e = e ∙ ap f (omega arith)

-- one lane more
pub joined_more : (j : ℕ) (l : List ℕ) {x : ℕ} → x ≡ joined j l → bit_xor x (get_or l j 0) ≡ joined (j + 1) l
unfolding joined
joined_more j l h = rw (add-one, h)

-- and all
pub joined_all : (l : List ℕ) {j n x : ℕ} → j ≤ n → n ≤ j → x ≡ joined j l → x ≡ joined n l
joined_all l = at_end (λ j. joined j l)

-- the XOR of the first lanes asks for no other
pub joined_front : (j n : ℕ) (l : List ℕ) → j ≤ n → joined j (take n l) ≡ joined j l
unfolding joined
joined_front zero n l h = refl
joined_front (suc j) n l h =
    let lane : get_or (take n l) j 0 ≡ get_or l j 0 = get_or-take n l j 0 (omega arith) in
    rw (joined_front j n l (omega arith), lane)

module _ (p : Bool) (sec c l : List ℕ) where
  -- a step keeps the number of lanes
  pub step_length : (j : ℕ) → length (chunk_step j p sec c l) ≡ length l
  unfolding chunk_step
  step_length zero = refl
  step_length (suc j) = rw length-set (step_length j)

  -- and leaves the lanes from j on
  step_kept : (j k : ℕ) → j ≤ k → get_or (chunk_step j p sec c l) k 0 ≡ get_or l k 0
  unfolding chunk_step
  step_kept zero k h = refl
  step_kept (suc j) k h =
      let n : k ≢ j = λ e. omega arith in
      rw get_or-set_other (step_kept j k (omega arith))

  -- one lane more
  pub step_more : (j : ℕ) {m : List ℕ} {x : ℕ} → m ≡ chunk_step j p sec c l → x ≡ mix_pair p c (16 * j) (get_or sec j 0) (get_or m j 0)
      → set m j x ≡ chunk_step (j + 1) p sec c l
  unfolding chunk_step
  step_more j {m} {x} e h =
      rw (add-one, h, e)
      (ap (λ (y : ℕ). set (chunk_step j p sec c l) j (mix_pair p c (16 * j) (get_or sec j 0) y)) (step_kept j j (omega arith)))

module _ (L : ℕ) (p : Bool) (sec l s : List ℕ) where
  -- no first chunk where the bytes are fewer than one
  pub first_none : length s < 16 * L → l ≡ first_of L p sec l s
  unfolding first_of
  first_none h = rw (lt-leb (16 * L) (length s) h)

  -- else the first w of them, where w is a chunk's width
  pub first_some : (w : ℕ) {m : List ℕ} → w ≡ 16 * L → 16 * L ≤ length s → m ≡ chunk_step L p sec (take w s) l → m ≡ first_of L p sec l s
  unfolding first_of
  first_some w e h k = rw (le-leb (16 * L) (length s) h, ← e) k
