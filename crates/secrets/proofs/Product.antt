-- The product of two 64-bit numbers from the four products of their halves. Put together from the halves, each law is linear in those
-- products, so `omega` proves it. Assumes nothing.
use Rattle.std.proofs.Common.{◌≡◌, ℕ, ◌+◌, ◌*◌, ◌/◌, ◌%◌, ◌^◌, ◌<◌, ◌≤◌, sym, ap, ◌∙◌, lt_of_le_of_lt, le_of_lt, mul-le-mul, mul-le-mul_left, mul-lt-mul_of_pos_right, arith, pow_pos, shr_lt}
use Rattle.secrets.specs.Mix.{low, high}

-- a product of two halves leaves room for a half more below 2 ^ 64
pub times_bound : (x y : ℕ) → x < 2 ^ 32 → y < 2 ^ 32 → x * y ≤ 0xffff_fffe_0000_0001
times_bound x y hx hy =
    let h : x * y ≤ 0xffff_ffff * 0xffff_ffff = mul-le-mul {n₂ = 0xffff_ffff} {m₂ = 0xffff_ffff} (omega arith) (omega arith) in
    omega arith

-- a number from its halves
halves : (a : ℕ) → a ≡ a / 2 ^ 32 * 2 ^ 32 + a % 2 ^ 32
halves a = omega arith

-- what is dropped on the way is dropped at the end
sums_mod : (x y z : ℕ) → (x + (y % 2 ^ 64 + z % 2 ^ 64) % 2 ^ 64) % 2 ^ 64 ≡ (x + (y + z)) % 2 ^ 64
sums_mod x y z = omega arith

module _ (a₁ a₀ b₁ b₀ ll lh hl : ℕ) (el : ll ≡ a₀ * b₀) (em : lh ≡ a₀ * b₁) (eh : hl ≡ a₁ * b₀) where
  low_halves : (ll + (hl * 2 ^ 32 % 2 ^ 64 + lh * 2 ^ 32 % 2 ^ 64) % 2 ^ 64) % 2 ^ 64 ≡ (a₁ * 2 ^ 32 + a₀) * (b₁ * 2 ^ 32 + b₀) % 2 ^ 64
  low_halves = sums_mod ll (hl * 2 ^ 32) (lh * 2 ^ 32) ∙ omega arith

  high_halves : (hh s k : ℕ) → hh ≡ a₁ * b₁ → s + 2 ^ 32 * k ≡ hl + lh
      → hh + k + s / 2 ^ 32 + (ll / 2 ^ 32 + s % 2 ^ 32) / 2 ^ 32 ≡ (a₁ * 2 ^ 32 + a₀) * (b₁ * 2 ^ 32 + b₀) / 2 ^ 64
  high_halves hh s k e h = omega arith

module _ (a b : ℕ) {ll lh hl : ℕ} (el : ll ≡ a % 2 ^ 32 * (b % 2 ^ 32)) (em : lh ≡ a % 2 ^ 32 * (b / 2 ^ 32)) (eh : hl ≡ a / 2 ^ 32 * (b % 2 ^ 32)) where
  -- the low word is the low product and the shifted cross products, added with every carry dropped
  pub low_sum : {x r : ℕ} → x ≡ (hl * 2 ^ 32 % 2 ^ 64 + lh * 2 ^ 32 % 2 ^ 64) % 2 ^ 64 → r ≡ (ll + x) % 2 ^ 64 → r ≡ low a b
  unfolding low
  low_sum {x} {r} ex er =
      er ∙ ap (λ (z : ℕ). (ll + z) % 2 ^ 64) ex
      ∙ low_halves (a / 2 ^ 32) (a % 2 ^ 32) (b / 2 ^ 32) (b % 2 ^ 32) ll lh hl el em eh
      ∙ ap (λ (z : ℕ). z * (b / 2 ^ 32 * 2 ^ 32 + b % 2 ^ 32) % 2 ^ 64) (sym (halves a))
      ∙ ap (λ (z : ℕ). a * z % 2 ^ 64) (sym (halves b))

  -- the high word, where the cross products' sum is s, with k in the upper half for the carry that s dropped
  pub high_sum : (hh s k : ℕ) → hh ≡ a / 2 ^ 32 * (b / 2 ^ 32) → s + 2 ^ 32 * k ≡ hl + lh
      → hh + k + s / 2 ^ 32 + (ll / 2 ^ 32 + s % 2 ^ 32) / 2 ^ 32 ≡ high a b
  unfolding high
  high_sum hh s k e h =
      high_halves (a / 2 ^ 32) (a % 2 ^ 32) (b / 2 ^ 32) (b % 2 ^ 32) ll lh hl el em eh hh s k e h
      ∙ ap (λ (z : ℕ). z * (b / 2 ^ 32 * 2 ^ 32 + b % 2 ^ 32) / 2 ^ 64) (sym (halves a))
      ∙ ap (λ (z : ℕ). a * z / 2 ^ 64) (sym (halves b))

-- comparing the wrapped sum of the cross products with one of them yields the carry, with and without
pub carried : {x y s k : ℕ} → x < 2 ^ 64 → y < 2 ^ 64 → s ≡ (x + y) % 2 ^ 64 → s < x → k ≡ 2 ^ 32 → s + 2 ^ 32 * k ≡ x + y
carried hx hy e h f = omega arith

pub uncarried : {x y s k : ℕ} → x < 2 ^ 64 → y < 2 ^ 64 → s ≡ (x + y) % 2 ^ 64 → x ≤ s → k ≡ 0 → s + 2 ^ 32 * k ≡ x + y
uncarried hx hy e h f = omega arith

-- the high word of two 64-bit numbers is one
pub high_bound : (a b : ℕ) → a < 2 ^ 64 → b < 2 ^ 64 → high a b < 2 ^ 64
unfolding high
high_bound a b ha hb = shr_lt 64 64 (lt_of_le_of_lt (mul-le-mul_left a (le_of_lt hb)) (mul-lt-mul_of_pos_right ha (pow_pos 64)))

-- a part of a sum is below what the sum is below
pub part_lt : (x y : ℕ) {n : ℕ} → x + y < n → x < n
part_lt x y h = omega arith
