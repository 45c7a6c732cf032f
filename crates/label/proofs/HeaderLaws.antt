-- What stands at a place, case after case, in the order of the refusals. Assumes nothing.
use Rattle.std.proofs.Common.{◌≡◌, ℕ, ◌+◌, ◌*◌, ◌<◌, ◌≤◌, Bool, true, false, leb, List, [], ◌∷◌, length, get_or, refl, ap, ◌∙◌, arith, le-ltb, lt-ltb, le-leb, Some, None, Ok}
use Rattle.std.proofs.lemmas.Bool.{lt-leb}
use Rattle.secrets.specs.Choice.{every}
use Rattle.rapidhash.specs.Words.{word}
use Rattle.label.specs.Label.{table, refused_at, allows, within_row, field_of, header_of}
use Rattle.label.specs.declared.field.Lengths.{Lengths}
use Rattle.label.specs.declared.field.Why.TheVariants.{Cut, NoSuchTag, NotAbove, BadLength}

-- two numbers, the second of which counts 256 times
pub two_weighed : {a b : ℕ} (low high : ℕ) → a ≡ low → b ≡ high → a + b * 0x100 ≡ low + high * 0x100
two_weighed low high e k = rw (e, k)

-- a word of 2 bytes, byte by byte
pub word_two : (s : List ℕ) (i : ℕ) → get_or s i 0 + get_or s (i + 1) 0 * 0x100 ≡ word 2 s i
unfolding word
word_two s i =
    let e : get_or s (i + 0) 0 ≡ get_or s i 0 = ap (λ (k : ℕ). get_or s k 0) (omega arith) in
    omega arith

-- the limits of a row
module _ (row : Lengths) (n : ℕ) where
  pub too_short : n < row.least → allows row n ≡ false
  too_short h = rw (lt-leb row.least n h)

  pub long_enough : row.least ≤ n → allows row n ≡ leb n row.most
  long_enough h = rw (le-leb row.least n h) (go (leb n row.most))
    where
      go : (b : Bool) → every (b ∷ []) ≡ b
      go true = refl
      go false = refl

-- what stands where a header is, by the four tests in their order
module _ (s : List ℕ) (at before : ℕ) where
  pub field_no_tag : table (get_or s at 0) ≡ None → field_of s at before ≡ refused_at NoSuchTag at
  unfolding field_of
  field_no_tag k = rw k

  module _ {row : Lengths} (known : table (get_or s at 0) ≡ Some row) where
    pub field_not_above : get_or s at 0 ≤ before → field_of s at before ≡ refused_at NotAbove at
    unfolding field_of within_row
    field_not_above a = rw (known, le-ltb before (get_or s at 0) a)

    module _ (above : before < get_or s at 0) where
      pub field_bad_length : allows row (word 2 s (at + 1)) ≡ false → field_of s at before ≡ refused_at BadLength at
      unfolding field_of within_row
      field_bad_length f = rw (known, lt-ltb before (get_or s at 0) above, f)

      module _ (fits : allows row (word 2 s (at + 1)) ≡ true) where
        pub field_cut : length s < at + 3 + word 2 s (at + 1) → field_of s at before ≡ refused_at Cut at
        unfolding field_of within_row
        field_cut w = rw (known, lt-ltb before (get_or s at 0) above, fits, lt-leb (at + 3 + word 2 s (at + 1)) (length s) w)

        pub field_whole : at + 3 + word 2 s (at + 1) ≤ length s
            → field_of s at before ≡ Ok (record { tag = get_or s at 0; place = at; start = at + 3; length = word 2 s (at + 1) })
        unfolding field_of within_row
        field_whole w = rw (known, lt-ltb before (get_or s at 0) above, fits, le-leb (at + 3 + word 2 s (at + 1)) (length s) w)

  -- the same with the header's own bytes looked for
  pub header_cut_lem : length s < at + 3 → header_of s at before ≡ refused_at Cut at
  unfolding header_of
  header_cut_lem h = rw (lt-leb (at + 3) (length s) h)

  module _ (whole : at + 3 ≤ length s) where
    pub headed : header_of s at before ≡ field_of s at before
    unfolding header_of
    headed = rw (le-leb (at + 3) (length s) whole)

    pub header_no_field : table (get_or s at 0) ≡ None → header_of s at before ≡ refused_at NoSuchTag at
    header_no_field k = headed ∙ field_no_tag k

    module _ {row : Lengths} (known : table (get_or s at 0) ≡ Some row) where
      pub header_not_above : get_or s at 0 ≤ before → header_of s at before ≡ refused_at NotAbove at
      header_not_above h = headed ∙ field_not_above known h

      module _ (above : before < get_or s at 0) where
        pub header_too_short : word 2 s (at + 1) < row.least → header_of s at before ≡ refused_at BadLength at
        header_too_short h = headed ∙ field_bad_length known above (too_short row (word 2 s (at + 1)) h)

        module _ (enough : row.least ≤ word 2 s (at + 1)) where
          pub header_too_long : row.most < word 2 s (at + 1) → header_of s at before ≡ refused_at BadLength at
          header_too_long h =
              headed
              ∙ field_bad_length known above (long_enough row (word 2 s (at + 1)) enough ∙ lt-leb (word 2 s (at + 1)) row.most h)

          module _ (most : word 2 s (at + 1) ≤ row.most) where
            fits : allows row (word 2 s (at + 1)) ≡ true
            fits = long_enough row (word 2 s (at + 1)) enough ∙ le-leb (word 2 s (at + 1)) row.most most

            pub value_cut_lem : length s < at + 3 + word 2 s (at + 1) → header_of s at before ≡ refused_at Cut at
            value_cut_lem h = headed ∙ field_cut known above fits h

            pub header_field : at + 3 + word 2 s (at + 1) ≤ length s
                → header_of s at before ≡ Ok (record { tag = get_or s at 0; place = at; start = at + 3; length = word 2 s (at + 1) })
            header_field h = headed ∙ field_whole known above fits h

-- the tests of a header in their order, for `field_at`
pub ruleset field_laws = (field_no_tag, field_not_above, field_bad_length, field_cut, field_whole)

-- the header's own bytes, for `header`
pub ruleset header_laws = (header_cut_lem, headed)
