-- Document 01, "Job text and bench program", over bytes: decimal digits, the parts of a line, the lines of a text.
use Rattle.std.specs.Prelude.{ℕ, ◌+◌, ◌*◌, ◌≡◌, ◌≢◌, List, [], ◌∷◌, ◌++◌, true}
use Prim.Native.Char.{code}
use Rattle.text.specs.Numeral.{digits, decimal}
use Rattle.text.specs.Pieces.{lines, parts}

-- The ten decimal digits, each a byte and what it stands for.
pub data Digit : ℕ → ℕ → Type 0 where
  zero_digit : Digit (code "0") 0
  one : Digit (code "1") 1
  two : Digit (code "2") 2
  three : Digit (code "3") 3
  four : Digit (code "4") 4
  five : Digit (code "5") 5
  six : Digit (code "6") 6
  seven : Digit (code "7") 7
  eight : Digit (code "8") 8
  nine : Digit (code "9") 9

-- The digits of v with those bytes after them are the digits of n.
pub data Digits : ℕ → List ℕ → ℕ → Type 0 where
  no_more : {v : ℕ} → Digits v [] v
  digit : {v b d n : ℕ} {p : List ℕ} → Digit b d → Digits (10 * v + d) p n → Digits v (b ∷ p) n

-- Bytes, at least one, none of them the byte `end`.
pub data Run (end : ℕ) : List ℕ → Type 0 where
  byte : {b : ℕ} → b ≢ end → Run end (b ∷ [])
  and : {b : ℕ} {p : List ℕ} → b ≢ end → Run end p → Run end (b ∷ p)

-- "Spaces may stand before and after a form and one or more between its parts": a line, and its parts.
pub data Parted : List ℕ → List (List ℕ) → Type 0 where
  ends : Parted [] []
  space : {l : List ℕ} {ps : List (List ℕ)} → Parted l ps → Parted (code " " ∷ l) ps
  last : {p : List ℕ} → Run (code " ") p → Parted p (p ∷ [])
  part : {p l : List ℕ} {ps : List (List ℕ)} → Run (code " ") p → Parted l ps → Parted (p ++ code " " ∷ l) (p ∷ ps)

-- "one form a line, LF after each (the last may lack it)": a text, and its lines.
pub data Lined : List ℕ → List (List ℕ) → Type 0 where
  no_line : Lined [] []
  empty_line : {t : List ℕ} {ls : List (List ℕ)} → Lined t ls → Lined (code "\n" ∷ t) ([] ∷ ls)
  last_line : {l : List ℕ} → Run (code "\n") l → Lined l (l ∷ [])
  line : {l t : List ℕ} {ls : List (List ℕ)} → Run (code "\n") l → Lined t ls → Lined (l ++ code "\n" ∷ t) (l ∷ ls)

-- The definitions that the readers use say the same, both ways.
pub record DigitsExactly (v : ℕ) (p : List ℕ) : Type 0 where
  pub spelled : digits p ≡ true → Digits v p (decimal v p)
  pub all : {n : ℕ} → Digits v p n → digits p ≡ true
  pub value : {n : ℕ} → Digits v p n → decimal v p ≡ n

pub record PartsExactly (l : List ℕ) : Type 0 where
  pub spelled : Parted l (parts l)
  pub only : {ps : List (List ℕ)} → Parted l ps → parts l ≡ ps

pub record LinesExactly (t : List ℕ) : Type 0 where
  pub spelled : Lined t (lines t)
  pub only : {ls : List (List ℕ)} → Lined t ls → lines t ≡ ls

pub record Spelling : Type 0 where
  pub digits_exactly : (v : ℕ) (p : List ℕ) → DigitsExactly v p
  pub parts_exactly : (l : List ℕ) → PartsExactly l
  pub lines_exactly : (t : List ℕ) → LinesExactly t
