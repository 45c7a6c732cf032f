-- A list of tags, gone through from the left. Assumes nothing.
use Rattle.std.proofs.Common.{◌≡◌, ℕ, ◌+◌, ◌<◌, List, length, get_or, drop, ◌∙◌, sym, add-one, drop-cons, Option, Some, None}
use Rattle.std.proofs.Math.Seq.{drop-length}
use Rattle.label.specs.Label.{with_tag, first_listed}
use Rattle.label.specs.declared.field.Field.{Field}

module _ (fs : List Field) (tags : List ℕ) (i : ℕ) where
  module _ (more : i < length tags) {l : Option Field} (looked : l ≡ with_tag (get_or tags i 0) fs) where
    pub listed_here : {f : Field} → l ≡ Some f → first_listed fs (drop i tags) ≡ Some f
    unfolding first_listed
    listed_here e = rw (drop-cons tags i 0 more, sym looked ∙ e)

    pub listed_later : l ≡ None → first_listed fs (drop i tags) ≡ first_listed fs (drop (i + 1) tags)
    unfolding first_listed
    listed_later e = rw (drop-cons tags i 0 more, sym looked ∙ e, add-one)

  pub listed_none : i ≡ length tags → first_listed fs (drop i tags) ≡ None
  unfolding first_listed
  listed_none h = rw (h, drop-length tags)

-- the three together, for `first_listed`
pub ruleset listed_laws = (listed_here, listed_later, listed_none)
