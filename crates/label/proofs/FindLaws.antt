-- What finding finds lies in the record. Assumes nothing.
use Rattle.std.proofs.Common.{ℕ, ◌+◌, ◌≤◌, List, [], ◌∷◌, length, refl, arith, Option, Some, None, is_some, Result, Ok, Err}
use Rattle.rapidhash.proofs.Tests.{either}
use Rattle.std.specs.Option.{ok_or}
use Rattle.std.specs.Result.{result_and, result_ok}
use Rattle.label.specs.Label.{refusal, walk_of, with_tag, read_of, first_listed, find_of, start_of, length_of}
use Rattle.label.specs.declared.field.Field.{Field}
use Rattle.label.specs.declared.field.Refusal.{Refusal}
use Rattle.label.specs.declared.field.Why.TheVariants.{NotListed}
use Rattle.label.proofs.Within.{found_within}

-- what is found lies in the record
listed_within : (s tags : List ℕ) → start_of (first_listed (walk_of s).fields tags) + length_of (first_listed (walk_of s).fields tags) ≤ length s
unfolding first_listed
listed_within s [] = omega arith
listed_within s (t ∷ ts) =
    either (λ (l : Option Field). start_of l + length_of l ≤ length s) (is_some (with_tag t (walk_of s).fields)) (found_within s t refl) (listed_within s ts)

pub find_within : (s tags : List ℕ) → start_of (result_ok (find_of s tags)) + length_of (result_ok (find_of s tags)) ≤ length s
unfolding find_of
find_within s tags = go (read_of s) (first_listed (walk_of s).fields tags) (listed_within s tags)
  where
    go : (r : Result Unit Refusal) (l : Option Field) → start_of l + length_of l ≤ length s
        → start_of (result_ok (result_and r (ok_or l (refusal NotListed 0)))) + length_of (result_ok (result_and r (ok_or l (refusal NotListed 0)))) ≤ length s
    go (Ok u) (Some f) h = h
    go (Ok u) None h = omega arith
    go (Err r) l h = omega arith
