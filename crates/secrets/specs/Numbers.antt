-- The numbers that come back, with what is returned beside each (docs/RULES.md, section 8). Assumes nothing.
use Rattle.std.specs.Prelude.{ℕ, Option, Some, None}

-- a number of the table and the value returned with it
pub record Returned : Type 0 where
  pub number : ℕ
  pub value : ℕ

-- 0: done, with the answer
abbrev pub done : ℕ → Returned
done v = record { number = 0; value = v }

-- 3: word read past the end, or secret index over 6; value 0
abbrev pub past_end : Returned
past_end = record { number = 3; value = 0 }

-- the number and the value of a look-up: of what it found, or of nothing found
abbrev pub returned : Option ℕ → Returned
returned (Some v) = done v
returned None = past_end
