-- Zero bytes by words: a word is zero exactly where its bytes are. Assumes nothing.
use Rattle.std.proofs.Common.{◌≡◌, ℕ, zero, suc, ◌+◌, ◌*◌, ◌^◌, ◌<◌, ◌≤◌, Bool, true, false, ◌&&◌, eqb, ◌⊎◌, List, [], ◌∷◌, refl, length, get_or, drop, sym, ◌∙◌, inl, inr, eq-zero-or-pos, mul-pos, add-one, arith, drop-cons, eq-eqb, ne_eqb}
use Rattle.std.specs.List.{list_all}
use native.Mathlib.Nat.{one-le-pow}
use Rattle.secrets.specs.Choice.{pick, all_are}
use Rattle.rapidhash.specs.Words.{word}

-- the library's test of every element is the rule's
list_all_zero : (s : List ℕ) → list_all (λ x. eqb x 0) s ≡ all_are 0 s
unfolding all_are
list_all_zero [] = refl
list_all_zero (x ∷ xs) =
    elim (eqb x 0) as (λ t. (t && list_all (λ y. eqb y 0) xs) ≡ pick t (all_are 0 xs) false) [ true ↦ list_all_zero xs | false ↦ refl ]

pub all_by_test : (s : List ℕ) {b : Bool} → b ≡ list_all (λ x. eqb x 0) s → b ≡ all_are 0 s
all_by_test s e = e ∙ list_all_zero s

-- from a place on: the byte there, and the rest
pub all_cons : (v : ℕ) (s : List ℕ) (i : ℕ) → i < length s → all_are v (drop i s) ≡ pick (eqb (get_or s i 0) v) (all_are v (drop (i + 1) s)) false
unfolding all_are
all_cons v s i h = rw (drop-cons s i 0 h, add-one)

-- a sum of a number and a weighed digit is zero exactly where both are
both_zero : (x b w : ℕ) → 0 < w → (a : Bool) → pick (eqb x 0) (pick (eqb b 0) a false) false ≡ pick (eqb (x + b * w) 0) a false
both_zero x b w h a = go (eq-zero-or-pos x) (eq-zero-or-pos b)
  where
    go : (x ≡ 0) ⊎ (0 < x) → (b ≡ 0) ⊎ (0 < b) → pick (eqb x 0) (pick (eqb b 0) a false) false ≡ pick (eqb (x + b * w) 0) a false
    go (inl ex) (inl eb) =
        let e : x + b * w ≡ 0 = rw (ex, eb) (omega arith) in
        rw (eq-eqb (x + b * w) 0 e, ex, eb)
    go (inl ex) (inr pb) =
        let e : x + b * w ≡ 0 → ⊥ = λ k. omega (arith, mul-pos pb h) in
        rw (ne_eqb (x + b * w) 0 e, ne_eqb b 0 (λ k. omega arith), ex)
    go (inr px) q = rw (ne_eqb x 0 (λ k. omega arith), ne_eqb (x + b * w) 0 (λ k. omega arith))

-- from a place on: the word of n bytes there, and the rest
pub zero_word : (s : List ℕ) (n i : ℕ) → i + n ≤ length s → all_are 0 (drop i s) ≡ pick (eqb (word n s i) 0) (all_are 0 (drop (i + n) s)) false
unfolding word
zero_word s zero i h =
    let e : i + 0 ≡ i = omega arith in
    rw e
zero_word s (suc n) i h =
    let e : i + suc n ≡ i + n + 1 = omega arith in
    rw e
    (zero_word s n i (omega arith)
    ∙ rw (all_cons 0 s (i + n) (omega arith))
    (both_zero (word n s i) (get_or s (i + n) 0) (256 ^ n) (one-le-pow n 256 (omega arith)) (all_are 0 (drop (i + n + 1) s))))

module _ (s : List ℕ) {b : Bool} (i : ℕ) (e : b ≡ all_are 0 (drop i s)) (h : i + 8 ≤ length s) {w : ℕ} (is : w ≡ word 8 s i) where
  -- a word that is zero leaves the question to the rest
  pub word_next : w ≡ 0 → {r : List ℕ} → r ≡ drop (i + 8) s → b ≡ all_are 0 r
  word_next z er = e ∙ zero_word s 8 i h ∙ rw (eq-eqb (word 8 s i) 0 (sym is ∙ z), ← er)

  -- another one answers it
  pub word_not : (w ≡ 0 → ⊥) → false ≡ b
  word_not z = sym (e ∙ zero_word s 8 i h ∙ rw (ne_eqb (word 8 s i) 0 (λ k. z (is ∙ k))))
