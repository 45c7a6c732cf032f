-- The two answers of a public read: the word where its bytes are there, and past the end. Assumes nothing.
use Rattle.std.proofs.Common.{◌≡◌, ℕ, ◌+◌, Bool, true, false, Some, None, leb, List, length, take, drop, sym, refl, ap, ◌∙◌}
use Rattle.std.specs.Int.{from_le_bytes, w32, w64}
use Rattle.secrets.specs.Choice.{pick}
use Rattle.secrets.specs.Numbers.{done, past_end}
use Rattle.rapidhash.specs.Words.{word_of}
use Rattle.rapidhash.proofs.Words.{word8_read, word4_read}

-- what is found by a test is there, and the test holds
found_by : (t : Bool) {b c : List ℕ} → Some b ≡ pick t (Some c) None → (t ≡ true) × (b ≡ c)
found_by true e = (refl, cc)
found_by false e = cc

-- the answer of a public read, where the bytes are there
pub word8_found : (s : List ℕ) (i : ℕ) {b : List ℕ} {x : ℕ} → Some b ≡ pick (leb (i + 8) (length s)) (Some (take 8 (drop i s))) None
    → x ≡ from_le_bytes w64 b → done x ≡ word_of 8 s i
word8_found s i e h = let f = found_by (leb (i + 8) (length s)) e in rw f.0 (ap done (word8_read s i f.1 h))

pub word4_found : (s : List ℕ) (i : ℕ) {b : List ℕ} {x : ℕ} → Some b ≡ pick (leb (i + 4) (length s)) (Some (take 4 (drop i s))) None
    → x ≡ from_le_bytes w32 b → done x ≡ word_of 4 s i
word4_found s i e h = let f = found_by (leb (i + 4) (length s)) e in rw f.0 (ap done (word4_read s i f.1 h))

-- and where they are not
pub read_past : (n : ℕ) (s : List ℕ) (i : ℕ) {t : Bool} → t ≡ leb (i + n) (length s) → t ≡ false → past_end ≡ word_of n s i
read_past n s i e h = rw (sym e ∙ h)
