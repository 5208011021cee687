-- What document 01 says does not matter in a text: skipped lines, and spaces at a line's ends or beside others between its parts.
use Rattle.std.specs.Prelude.{ℕ, ◌≤◌, ◌≡◌, List, [], ◌∷◌, ◌++◌, length}
use Prim.Native.Char.{code}
use Rattle.text.specs.Pieces.{lines}
use Rattle.job_reading.specs.Reading.{Reading, refused, accepted, refusal, reading_of}

-- "Spaces may stand before and after a form and one or more between its parts": a line, and that line with spaces added.
pub data Spaced : List ℕ → List ℕ → Type 0 where
  same : {l : List ℕ} → Spaced l l
  before : {l m : List ℕ} → Spaced l m → Spaced l (code " " ∷ m)
  behind : {l m : List ℕ} → Spaced l m → Spaced l (m ++ (code " " ∷ []))
  between : {l : List ℕ} (x y : List ℕ) → Spaced l (x ++ code " " ∷ y) → Spaced l (x ++ code " " ∷ code " " ∷ y)

-- "Lines with nothing but spaces, and lines whose first other byte is `;`, are skipped."
pub data Skipped : List ℕ → Type 0 where
  blank : Skipped []
  comment : {l : List ℕ} → Skipped (code ";" ∷ l)
  space : {l : List ℕ} → Skipped l → Skipped (code " " ∷ l)

-- Lines, and those lines with spaces added to them and skipped lines put among them.
pub data Loosened : List (List ℕ) → List (List ℕ) → Type 0 where
  none : Loosened [] []
  keep : {l m : List ℕ} {ls ms : List (List ℕ)} → Spaced l m → Loosened ls ms → Loosened (l ∷ ls) (m ∷ ms)
  skip : {m : List ℕ} {ls ms : List (List ℕ)} → Skipped m → Loosened ls ms → Loosened ls (m ∷ ms)

-- A reading but for the line of a refusal.
abbrev pub unnumbered : Reading → Reading
unnumbered (refused r) = refused (refusal r.number 0)
unnumbered (accepted order algebras sizes weights) = accepted order algebras sizes weights

-- Both texts within the limit, such a text reads to the same words or to the same refusal on some line.
abbrev pub Insensitive : Type 0
Insensitive =
    (algebras sizes weights : ℕ) (text loosened : List ℕ) → length text ≤ 65536 → length loosened ≤ 65536 → Loosened (lines text) (lines loosened)
    → unnumbered (reading_of algebras sizes weights loosened) ≡ unnumbered (reading_of algebras sizes weights text)
