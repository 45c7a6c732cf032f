-- Choices and tests, as the rules say "if", "else" and "all". Assumes nothing.
use Rattle.std.specs.Prelude.{ℕ, Bool, true, false, List, [], ◌∷◌, ◌==◌}

-- the first where the test holds, else the second
abbrev pub pick {ℓ} : {A : Type ℓ} → Bool → A → A → A
pick true a b = a
pick false a b = b

-- whether every test of a list holds
abbrev pub every : List Bool → Bool
every [] = true
every (t ∷ ts) = pick t (every ts) false

-- whether all numbers of a list are v
unfoldable pub all_are : ℕ → List ℕ → Bool
all_are v [] = true
all_are v (x ∷ xs) = pick (x == v) (all_are v xs) false
