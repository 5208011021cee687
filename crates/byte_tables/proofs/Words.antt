-- Words and their bytes by place.
use Prim.Native.Nat.{ℕ, zero, suc, ◌+◌, ◌*◌, ◌/◌, ◌%◌, ◌<◌, ◌≤◌, zero-le}
use native.Mathlib.Omega.{arith}
use mathlib.Core.Path.{◌≡◌, refl, sym, ◌∙◌}
use mathlib.Core.List.{List, [], ◌∷◌}
use mathlib.Core.Bool.{cond}
use lib.ListN.{length, get_or}
use lib.Dec.{eqb}
use lib.Seq.{ext_get_or}
use Rattle.memory.specs.Walked.{Walked}
use Rattle.memory.proofs.Walk.{Walking, ends, walked_to}
use Rattle.byte_tables.specs.Bytes.{decoded, encoded}

-- The word whose bytes stand at 2p and 2p + 1, and the byte at place p of a memory of words.
abbrev pub word_at : List ℕ → ℕ → ℕ
word_at bytes p = get_or bytes (2 * p) 0 + 256 * get_or bytes (2 * p + 1) 0

abbrev pub byte_at : List ℕ → ℕ → ℕ
byte_at words p = cond (eqb (p % 2) 0) (get_or words (p / 2) 0 % 256) (get_or words (p / 2) 0 / 256)

-- An odd byte at the end is no word.
pub length_decoded : (bytes : List ℕ) → length (decoded bytes) ≡ length bytes / 2
unfolding decoded
length_decoded [] = refl
length_decoded (low ∷ []) = omega arith
length_decoded (low ∷ high ∷ bytes) = omega (arith, length_decoded bytes)

pub length_words_of : (bytes : List ℕ) (m : ℕ) → length bytes ≡ 2 * m → length (decoded bytes) ≡ m
length_words_of bytes m e = omega (arith, length_decoded bytes)

pub get_d_decoded : (bytes : List ℕ) (p : ℕ) → 2 * p + 1 < length bytes → get_or (decoded bytes) p 0 ≡ word_at bytes p
unfolding decoded
get_d_decoded [] p h = absurd (omega arith)
get_d_decoded (low ∷ []) p h = absurd (omega arith)
get_d_decoded (low ∷ high ∷ bytes) zero h = refl
get_d_decoded (low ∷ high ∷ bytes) (suc p) h =
    let e : 2 * suc p ≡ suc (suc (2 * p)) = omega arith in
    let o : 2 * suc p + 1 ≡ suc (suc (2 * p + 1)) = omega arith in
    rw (o, e) (get_d_decoded bytes p (omega arith))

pub length_bytes_of : (words : List ℕ) → length (encoded words) ≡ 2 * length words
unfolding encoded
length_bytes_of [] = refl
length_bytes_of (word ∷ words) = omega (arith, length_bytes_of words)

pub get_d_encoded : (words : List ℕ) (p : ℕ) → p < 2 * length words → get_or (encoded words) p 0 ≡ byte_at words p
unfolding encoded
get_d_encoded [] p h = absurd (omega arith)
get_d_encoded (word ∷ words) zero h = refl
get_d_encoded (word ∷ words) (suc zero) h = refl
get_d_encoded (word ∷ words) (suc (suc p)) h =
    let half : suc (suc p) / 2 ≡ suc (p / 2) = omega arith in
    let rest : suc (suc p) % 2 ≡ p % 2 = omega arith in
    rw (half, rest) (get_d_encoded words p (omega arith))

-- The loop that decodes: the first p words of `old` were written, and the memory is l.
pub record Decoding (bytes old : List ℕ) (p : ℕ) (l : List ℕ) : Type 0 where
  pub walking : Walking (λ q word. word_at bytes q) old p l

module _ {bytes old : List ℕ} where
  module _ {p : ℕ} {l : List ℕ} (c : Decoding bytes old p l) where
    pub decode_ends : length bytes ≡ 2 * length old → length l ≤ p → l ≡ decoded bytes
    decode_ends fits h =
        let whole = ends c.walking h in
        ext_get_or 0 l (decoded bytes) (whole.size ∙ sym (length_words_of bytes (length old) fits))
        (λ q k. whole.inside q zero-le (omega (arith, whole.size)) ∙ sym (get_d_decoded bytes q (omega (arith, whole.size))))

-- A walk that wrote every byte left the bytes of the words.
pub bytes_written : (words : List ℕ) {old l : List ℕ} → Walked (λ q byte. byte_at words q) old (2 * length words) l → length old ≡ 2 * length words → l ≡ encoded words
bytes_written words {old} {l} c fits =
    ext_get_or 0 l (encoded words) (c.size ∙ fits ∙ sym (length_bytes_of words))
    (λ q k. c.inside q zero-le (omega (arith, c.size)) ∙ sym (get_d_encoded words q (omega (arith, c.size))))

-- The loop that encodes: the bytes of the first p words were written over `old`, and the memory is l.
pub record Encoding (words old : List ℕ) (p : ℕ) (l : List ℕ) : Type 0 where
  pub count : p ≤ length words
  pub walked : Walked (λ q byte. byte_at words q) old (2 * p) l

module _ {words old : List ℕ} where
  module _ {p : ℕ} {l : List ℕ} (c : Encoding words old p l) (fits : length old ≡ 2 * length words) where
    pub encode_ends : length words ≤ p → l ≡ encoded words
    encode_ends h = bytes_written words (walked_to c.walked (omega (arith, c.count))) fits
