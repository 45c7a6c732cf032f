-- The tail's steps, and the last step: one law for each way on. Assumes nothing.
use Rattle.std.proofs.Common.{◌≡◌, ℕ, ◌+◌, ◌*◌, ◌<◌, ◌≤◌, Bool, true, false, List, [], ◌∷◌, length, get_or, bit_xor, refl, le-ltb, lt-ltb}
use Rattle.secrets.specs.Mix.{mum}
use Rattle.rapidhash.specs.Hash.{mix_pair, tail, avalanched, ends_of, last_of, hash_of}
use Rattle.secrets.specs.declared.util.mix.Mum.{Mum}
use Rattle.secrets.specs.declared.v3.seed.RapidSecrets.{RapidSecrets}
use Rattle.rapidhash.specs.declared.v3.rapid_const.Ends.{Ends}

module _ (p : Bool) (s : List ℕ) (j : ℕ) where
  -- a step more while more than 16 (j + 1) bytes are left
  pub tail_go : (t : ℕ) (ts : List ℕ) (x : ℕ) {y z : ℕ} → 16 * (j + 1) < length s → y ≡ mix_pair p s (16 * j) t x → z ≡ tail p s (j + 1) ts y
      → z ≡ tail p s j (t ∷ ts) x
  unfolding tail
  tail_go t ts x h e k = rw (lt-ltb (16 * (j + 1)) (length s) h, ← e) k

  -- none where there are no more
  pub tail_stop : (t : ℕ) (ts : List ℕ) (x : ℕ) → length s ≤ 16 * (j + 1) → x ≡ tail p s j (t ∷ ts) x
  unfolding tail
  tail_stop t ts x h = rw (le-ltb (16 * (j + 1)) (length s) h)

  -- nor after the sixth
  pub tail_end : (x : ℕ) → x ≡ tail p s j [] x
  unfolding tail
  tail_end x = refl

module _ (av p : Bool) (sec : List ℕ) (e : Ends) {m : Mum} (h : m ≡ mum p (bit_xor e.a (get_or sec 1 0)) (bit_xor e.b e.seed)) where
  -- with the avalanche
  pub last_avalanche : {x : ℕ} → av ≡ true → x ≡ avalanched p sec m.low m.high e.r → x ≡ last_of av p sec e
  unfolding last_of
  last_avalanche on f = rw (on, ← h) f

  -- without it
  pub last_plain : av ≡ false → bit_xor m.low m.high ≡ last_of av p sec e
  unfolding last_of
  last_plain off = rw (off, ← h)

-- the last step on the ends of the message is the hash
pub hash_steps : (L : ℕ) (av p : Bool) (x : RapidSecrets) (s : List ℕ) {e : Ends} {h : ℕ} → e ≡ ends_of L p x s → h ≡ last_of av p x.secrets e
    → h ≡ hash_of L av p x s
unfolding hash_of
hash_steps L av p x s he hh = rw (← he) hh

-- a hash with secrets that are another's
pub with_default : (L : ℕ) (av p : Bool) (x : RapidSecrets) (s : List ℕ) {y : RapidSecrets} {h : ℕ} → y ≡ x → h ≡ hash_of L av p y s → h ≡ hash_of L av p x s
with_default L av p x s e hh = rw (← e) hh
