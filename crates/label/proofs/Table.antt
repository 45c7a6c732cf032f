-- The rows of the table of fields, as the code's `match` tells them apart. Assumes nothing.
use Rattle.std.proofs.Common.{◌≡◌, ℕ, ◌<◌, ◌≤◌, leb, arith, ne_eqb, le-leb, None}
use Rattle.std.proofs.Math.Decide.{dec_lt}
use Rattle.std.proofs.lemmas.Bool.{lt-leb}
use Rattle.secrets.specs.Choice.{pick}
use Rattle.label.specs.Label.{lengths, table}

-- past tag 4 only the fields for later use are left
past_four : (t : ℕ) → 5 ≤ t → table t ≡ pick (leb 128 t) (lengths 0 65535) None
unfolding table
past_four t h =
    rw (ne_eqb t 1 (λ e. omega arith), ne_eqb t 2 (λ e. omega arith), ne_eqb t 3 (λ e. omega arith), ne_eqb t 4 (λ e. omega arith))

pub later_use : (t : ℕ) → 128 ≤ t → table t ≡ lengths 0 65535
later_use t h = rw (past_four t (omega arith), le-leb 128 t h)

pub no_field_lem : (t : ℕ) → 5 ≤ t → t ≤ 127 → table t ≡ None
no_field_lem t l h = rw (past_four t l, lt-leb 128 t (omega arith))

pub no_field_zero : (t : ℕ) → t ≡ 0 → table t ≡ None
unfolding table
no_field_zero t e = rw e

-- both, as one arm of the `match` has them
pub no_field_below_five : (t : ℕ) → t ≤ 127 → (t < 5 → t ≡ 0) → table t ≡ None
no_field_below_five t h low = go (dec_lt t 5)
  where
    go : Dec (t < 5) → table t ≡ None
    go (yes k) = no_field_zero t (low k)
    go (no k) = no_field_lem t (omega arith) h

-- the rows past tag 4, for `lengths_of`
pub ruleset later_rows = (later_use, no_field_lem)
