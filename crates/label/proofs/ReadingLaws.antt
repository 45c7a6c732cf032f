-- Reading, case after case, in the order of the refusals. Assumes nothing.
use Rattle.std.proofs.Common.{◌≡◌, ℕ, ◌<◌, ◌≤◌, Bool, true, false, List, [], ◌∷◌, length, le-leb, Ok, Err, is_some}
use Rattle.std.proofs.lemmas.Bool.{lt-leb}
use Rattle.secrets.specs.Choice.{every}
use Rattle.label.specs.Label.{refused_at, walk_of, with_tag, complete, read_of}
use Rattle.label.specs.declared.field.Why.TheVariants.{TooLong, Missing}
use Rattle.label.specs.declared.field.Refusal.{Refusal}
use Rattle.label.specs.declared.field.Field.{Field}

module _ (s : List ℕ) where
  pub read_too_long : 8192 < length s → read_of s ≡ refused_at TooLong 0
  unfolding read_of
  read_too_long h = rw (lt-leb (length s) 8192 h)

  module _ (short : length s ≤ 8192) where
    pub read_bad : {r : Refusal} → (walk_of s).ends ≡ Err r → read_of s ≡ Err r
    unfolding read_of
    read_bad e = rw (le-leb (length s) 8192 short, e)

    module _ (readable : (walk_of s).ends ≡ Ok tt) where
      pub read_missing : complete (walk_of s).fields ≡ false → read_of s ≡ refused_at Missing (length s)
      unfolding read_of
      read_missing e = rw (le-leb (length s) 8192 short, readable, e)

      pub read_good : complete (walk_of s).fields ≡ true → read_of s ≡ Ok tt
      unfolding read_of
      read_good e = rw (le-leb (length s) 8192 short, readable, e)

-- one tag missing is enough, and both are needed
pub lacks_first : (fs : List Field) → is_some (with_tag 1 fs) ≡ false → complete fs ≡ false
lacks_first fs e = rw e

pub as_second : (fs : List Field) {b : Bool} → is_some (with_tag 1 fs) ≡ true → is_some (with_tag 2 fs) ≡ b → complete fs ≡ b
as_second fs {b} o t = rw o (go b t)
  where
    go : (b : Bool) → is_some (with_tag 2 fs) ≡ b → every (is_some (with_tag 2 fs) ∷ []) ≡ b
    go true e = rw e
    go false e = rw e

-- the four answers, for `read`
pub ruleset read_laws = (read_too_long, read_bad, read_missing, read_good)
