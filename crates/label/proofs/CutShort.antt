-- A good record whose end never arrives: wherever it is cut, what arrived is read as specs/Arrived says, by the rules and by the code. Assumes
-- nothing.
use Rattle.std.proofs.Common.{◌≡◌, ℕ, ◌+◌, ◌<◌, ◌≤◌, Bool, true, false, List, [], ◌∷◌, ◌++◌, length, take, sym, refl, ap, ◌∙◌, subst, arith, take_at, Bor, Result, Ok, Err, is_some}
use contract.Lifetimes.{Lfts}
use Rattle.secrets.specs.declared.v3.seed.RapidSecrets.{RapidSecrets}
use Rattle.rapidhash.specs.Words.{word}
use Rattle.rapidhash.specs.Hash.{hash_of}
use Rattle.label.specs.Label.{table, refused_at, within_row, field_of, header_of, onward, walk_from, walk_of, with_tag, read_of, value_of, hashed_of, fingerprint_of}
use Rattle.label.specs.Numbers.{told_refusal, told_reading, told_printed}
use Rattle.label.specs.Rows.{LedTo, Reads, unreadable, missing_first, missing_second, good}
use Rattle.label.specs.Good.{Plain, written, laid_out, Present, GoodRecord, values_to}
use Rattle.label.specs.Arrived.{Arrives, inside, lacking, whole, sent, sent_less}
use Rattle.label.specs.declared.field.Why.TheVariants.{Missing}
use Rattle.label.specs.declared.field.Refusal.{Refusal}
use Rattle.label.proofs.Refusals.{exactly}
use Rattle.label.proofs.GoodExactly.{present_found, found_present, Passed, first_stands, pass_good}
use Rattle.label.proofs.InOrder.{print_in_order}
use Rattle.label.proofs.reading.read.Reads as read
use Rattle.label.proofs.fingerprint.fingerprint.Reads as fingerprint
use Rattle.label.proofs.Arriving.{size, still_led, part_cut, Falls, in_field, at_end, falls, laid_first, first_ascend, first_in_table}

-- of a good record s of the fields ps the first n bytes arrived
module _ (s : List ℕ) (ps : List Plain) (g : GoodRecord s ps) (n : ℕ) (h : n ≤ length s) where
  -- which are not too many
  short : length (take n s) ≤ 8192
  short = let k = g.short in rw (size s n h) (omega arith)

  -- fields that end where the bytes do lead to their end
  led_to_end : {earlier later : List Plain} → n ≡ length (laid_out earlier) → (q : Passed s (length (laid_out earlier)) earlier later)
      → LedTo (take n s) (length (take n s)) q.before q.fields
  led_to_end m q = rw (size s n h ∙ m) (still_led s n h q.led (omega arith))

  -- a tag is found among them exactly if it is there
  module _ (t : ℕ) {at : ℕ} {earlier later : List Plain} (q : Passed s at earlier later) where
    found : Present t earlier → is_some (with_tag t q.fields) ≡ true
    found k = present_found s t q.fields (rw q.are k)

    there : is_some (with_tag t q.fields) ≡ true → Present t earlier
    there e = rw q.are at (found_present s t q.fields e)

    absent : is_some (with_tag t q.fields) ≡ false → Present t earlier → ⊥
    absent e k = let y = found k in let z : ◌≡◌ {A = ℕ} 0 1 = cc in omega arith

  -- a required tag that is not among them is missing
  lacks : {earlier later : List Plain} → n ≡ length (laid_out earlier) → Passed s (length (laid_out earlier)) earlier later
      → (Present 1 earlier × Present 2 earlier → ⊥) → Reads (take n s) (refused_at Missing (length (take n s)))
  lacks {earlier} m q k = go (is_some (with_tag 1 q.fields)) (is_some (with_tag 2 q.fields)) refl refl
    where
      go : (a b : Bool) → is_some (with_tag 1 q.fields) ≡ a → is_some (with_tag 2 q.fields) ≡ b → Reads (take n s) (refused_at Missing (length (take n s)))
      go false b o t = missing_first short (led_to_end m q) o
      go true false o t = missing_second short (led_to_end m q) t
      go true true o t = absurd (k (there 1 q o, there 2 q t))

  -- what arrived is read as the cases say
  pub arrived_read : {r : Result Unit Refusal} → Arrives ps n r → read_of (take n s) ≡ r
  arrived_read (inside earlier p later e a b) =
      let q = pass_good s earlier (p ∷ later) (rw e at g) in
      let f = first_stands s p later q.onward in
      let past : n < f.field.start + f.field.length = rw f.end b in
      (exactly (take n s) _).0 (unreadable short (still_led s n h q.led (omega arith)) (rw (size s n h) a) (part_cut s n h f.stands past))
  arrived_read (lacking earlier later e m k) =
      (exactly (take n s) _).0 (lacks m (pass_good s earlier later (rw e at g)) k) ∙ ap (refused_at Missing) (size s n h)
  arrived_read (whole earlier later e m one two) =
      let q = pass_good s earlier later (rw e at g) in
      (exactly (take n s) (Ok tt)).0 (good short (led_to_end m q) (found 1 q one) (found 2 q two))

  -- whatever n is, one of the cases holds
  pub always_read : Arrives ps n (read_of (take n s))
  always_read = go (falls ps n (rw g.joins at h))
    where
      is : {r : Result Unit Refusal} → Arrives ps n r → Arrives ps n (read_of (take n s))
      is a = rw (arrived_read a) a

      go : Falls ps n → Arrives ps n (read_of (take n s))
      go (in_field earlier p later e a b) = is (inside earlier p later e a b)
      go (at_end earlier later e m) = required (is_some (with_tag 1 q.fields)) (is_some (with_tag 2 q.fields)) refl refl
        where
          q : Passed s (length (laid_out earlier)) earlier later
          q = pass_good s earlier later (rw e at g)

          required : (a b : Bool) → is_some (with_tag 1 q.fields) ≡ a → is_some (with_tag 2 q.fields) ≡ b → Arrives ps n (read_of (take n s))
          required false b o t = is (lacking earlier later e m (λ k. absent 1 q o k.0))
          required true false o t = is (lacking earlier later e m (λ k. absent 2 q t k.1))
          required true true o t = is (whole earlier later e m (there 1 q o) (there 2 q t))

  -- and only one does
  pub one_case : {r q : Result Unit Refusal} → Arrives ps n r → Arrives ps n q → r ≡ q
  one_case a b = sym (arrived_read a) ∙ arrived_read b

  -- so what arrived is read in each way exactly when its case says
  pub cut_short : (r : Result Unit Refusal) → (Arrives ps n r → read_of (take n s) ≡ r) × (read_of (take n s) ≡ r → Arrives ps n r)
  cut_short r = (λ a. arrived_read a, λ e. subst (λ (q : Result Unit Refusal). Arrives ps n q) e always_read)

  -- cut where a field ends, with both required tags before it, it is a good record of the fields before
  pub whole_is_good : (earlier later : List Plain) → ps ≡ earlier ++ later → n ≡ length (laid_out earlier) → Present 1 earlier → Present 2 earlier
      → GoodRecord (take n s) earlier
  whole_is_good earlier later e m one two =
      let g : GoodRecord s (earlier ++ later) = rw e at g in
      record {
        short = short;
        joins = rw (g.joins, laid_first earlier later) (take_at (laid_out earlier) (laid_out later) n (sym m));
        ascends = first_ascend earlier later g.ascends;
        lengths = first_in_table earlier later g.lengths;
        first = one;
        second = two;
      }

  -- by its number: 6 at the field's start, 10 at n, or 0
  pub six_inside : (earlier : List Plain) (p : Plain) (later : List Plain) → ps ≡ earlier ++ (p ∷ later) → length (laid_out earlier) < n
      → n < length (laid_out earlier) + length (written p)
      → ((told_reading (read_of (take n s))).number ≡ 6) × ((told_reading (read_of (take n s))).place ≡ length (laid_out earlier))
  six_inside earlier p later e a b = let r = arrived_read (inside earlier p later e a b) in (rw r, rw r)

  pub ten_lacking : (earlier later : List Plain) → ps ≡ earlier ++ later → n ≡ length (laid_out earlier) → (Present 1 earlier × Present 2 earlier → ⊥)
      → ((told_reading (read_of (take n s))).number ≡ 10) × ((told_reading (read_of (take n s))).place ≡ n)
  ten_lacking earlier later e m k = let r = arrived_read (lacking earlier later e m k) in (rw r, rw r)

  pub done_whole : (earlier later : List Plain) → ps ≡ earlier ++ later → n ≡ length (laid_out earlier) → Present 1 earlier → Present 2 earlier
      → (told_reading (read_of (take n s))).number ≡ 0
  done_whole earlier later e m one two = rw (arrived_read (whole earlier later e m one two))

  -- its fingerprint: the same refusal, with fingerprint 0
  pub print_refused : (x : RapidSecrets) {q : Refusal} → Arrives ps n (Err q) → told_printed (fingerprint_of x (take n s)) ≡ told_refusal q
  unfolding fingerprint_of
  print_refused x a = rw (arrived_read a)

  -- or the hash of the values that arrived
  pub print_whole : (x : RapidSecrets) (earlier later : List Plain) → ps ≡ earlier ++ later → n ≡ length (laid_out earlier) → Present 1 earlier
      → Present 2 earlier → fingerprint_of x (take n s) ≡ Ok (hash_of 7 true false x (values_to 4 earlier))
  print_whole x earlier later e m one two = print_in_order x (take n s) earlier (whole_is_good earlier later e m one two)

  -- the same of the code: of any answer that a contract allows for the bytes that arrived
  module _ (κ : Lfts 1) (d : Bor (List ℕ)) (is : d.now ≡ take n s) where
    -- `read` answers as the cases say
    pub read_answers : (r : Result Unit Refusal) (z : _) → read.Post κ (d, tt) r z → {q : Result Unit Refusal} → Arrives ps n q → r ≡ q
    read_answers r z p a = (rw is at p) ∙ arrived_read a

    -- `fingerprint` the same refusal, with fingerprint 0
    pub no_fingerprint : (x : RapidSecrets) (r : Result ℕ Refusal) (z : _) → fingerprint.Post κ (d, (x, tt)) r z → {q : Refusal} → Arrives ps n (Err q)
        → told_printed r ≡ told_refusal q
    no_fingerprint x r z p a = ap told_printed (rw is at p) ∙ print_refused x a

    -- or the hash of the values that arrived
    pub fingerprint_of_whole : (x : RapidSecrets) (r : Result ℕ Refusal) (z : _) → fingerprint.Post κ (d, (x, tt)) r z → (earlier later : List Plain)
        → ps ≡ earlier ++ later → n ≡ length (laid_out earlier) → Present 1 earlier → Present 2 earlier
        → r ≡ Ok (hash_of 7 true false x (values_to 4 earlier))
    fingerprint_of_whole x r z p earlier later e m one two =
        (rw is at p) ∙ print_whole x earlier later e m one two

-- a byte lost in the middle can go unnoticed: both are read as good, and their hashed bytes differ
pub lost_in_the_middle : ((told_reading (read_of sent)).number ≡ 0) × ((told_reading (read_of sent_less)).number ≡ 0)
    × (hashed_of sent ≡ 0x41 ∷ 0x54 ∷ 0x68 ∷ 0x00 ∷ 0x80 ∷ 0x00 ∷ 0x00 ∷ []) × (hashed_of sent_less ≡ 0x41 ∷ 0x54 ∷ 0x04 ∷ [])
unfolding table within_row field_of header_of onward walk_from walk_of with_tag read_of value_of hashed_of word
lost_in_the_middle = (refl, refl, refl, refl)
