-- Words of bytes: how a word falls into shorter ones, where it stands in a part, and what the library reads. Assumes nothing.
use Rattle.std.proofs.Common.{◌≡◌, ℕ, zero, suc, ◌+◌, ◌*◌, ◌^◌, ◌<◌, ◌≤◌, List, [], ◌∷◌, get_or, take, drop, refl, ap, ◌∙◌, add-zero, arith, get_or-drop, get_or-take}
use Rattle.std.specs.Int.{from_le_bytes, w32, w64}
use Rattle.rapidhash.specs.Words.{word}

-- four bytes weighed by their places are a word, with its bound
pub word_bytes : (b₀ b₁ b₂ b₃ : ℕ) {w₀ w₁ w₂ w₃ : ℕ} → (w₀ ≡ b₀) × (w₀ < 256) → (w₁ ≡ b₁) × (w₁ < 256) → (w₂ ≡ b₂) × (w₂ < 256) → (w₃ ≡ b₃) × (w₃ < 256)
    → (w₀ + w₁ * 0x100 + w₂ * 0x1_0000 + w₃ * 0x100_0000 ≡ word 4 (b₀ ∷ b₁ ∷ b₂ ∷ b₃ ∷ []) 0) × (w₀ + w₁ * 0x100 + w₂ * 0x1_0000 + w₃ * 0x100_0000 < 2 ^ 32)
unfolding word
word_bytes b₀ b₁ b₂ b₃ h₀ h₁ h₂ h₃ = omega arith

-- the four bytes at a place are the word there
pub word_at : (s : List ℕ) (i : ℕ) → word 4 (get_or s i 0 ∷ get_or s (i + 1) 0 ∷ get_or s (i + 2) 0 ∷ get_or s (i + 3) 0 ∷ []) 0 ≡ word 4 s i
unfolding word
word_at s i =
    let e : get_or s (i + 0) 0 ≡ get_or s i 0 = ap (λ (k : ℕ). get_or s k 0) (omega arith) in
    rw e

-- a word of 8 bytes from its two halves
pub word_halves : (s : List ℕ) (i : ℕ) → word 4 s i + word 4 s (i + 4) * 2 ^ 32 ≡ word 8 s i
unfolding word
word_halves s i =
    let e : (j : ℕ) → get_or s (i + 4 + j) 0 ≡ get_or s (i + (4 + j)) 0 = λ j. ap (λ (k : ℕ). get_or s k 0) (omega arith) in
    omega (arith, e 0, e 1, e 2, e 3)

-- a word of what is left is a word further on
pub word-drop : (n : ℕ) (s : List ℕ) (d i : ℕ) → word n (drop d s) i ≡ word n s (d + i)
unfolding word
word-drop zero s d i = refl
word-drop (suc n) s d i =
    let e : d + (i + n) ≡ d + i + n = omega arith in
    rw (word-drop n s d i, get_or-drop, e)

-- a word within the first bytes is a word of all
pub word-take : (n : ℕ) (s : List ℕ) (k i : ℕ) → i + n ≤ k → word n (take k s) i ≡ word n s i
unfolding word
word-take zero s k i h = refl
word-take (suc n) s k i h =
    let at : get_or (take k s) (i + n) 0 ≡ get_or s (i + n) 0 = get_or-take k s (i + n) 0 (omega arith) in
    rw (word-take n s k i (omega arith), at)

-- the n bytes at a place, taken out, are the word there
pub word_part : (n : ℕ) (s : List ℕ) (i : ℕ) → word n (take n (drop i s)) 0 ≡ word n s i
word_part n s i = word-take n (drop i s) n 0 (omega arith) ∙ word-drop n s i 0 ∙ rw add-zero

-- what the library reads of 8 bytes is their word
le_word8 : (b : List ℕ) → from_le_bytes w64 b ≡ word 8 b 0
unfolding word
le_word8 b = omega arith

le_word4 : (b : List ℕ) → from_le_bytes w32 b ≡ word 4 b 0
unfolding word
le_word4 b = omega arith

-- and so of those at a place
pub word8_read : (s : List ℕ) (i : ℕ) {b : List ℕ} {x : ℕ} → b ≡ take 8 (drop i s) → x ≡ from_le_bytes w64 b → x ≡ word 8 s i
word8_read s i e h = h ∙ rw e (le_word8 _ ∙ word_part 8 s i)

-- likewise of 4
pub word4_read : (s : List ℕ) (i : ℕ) {b : List ℕ} {x : ℕ} → b ≡ take 4 (drop i s) → x ≡ from_le_bytes w32 b → x ≡ word 4 s i
word4_read s i e h = h ∙ rw e (le_word4 _ ∙ word_part 4 s i)
