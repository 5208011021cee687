-- Document 01, "Job text and bench program": the lines of a text and the parts of a line.
use Rattle.std.specs.Prelude.{ℕ, suc, List, [], ◌∷◌, map, Bool, true, false, eqb}
use Prim.Native.Char.{code}

-- A piece of a list of bytes, and the place of its first byte there, from 0.
pub record Piece : Type 0 where
  pub at : ℕ
  pub bytes : List ℕ

-- Byte b at a place, before the pieces that follow it: it ends a piece, or belongs to the first of them.
abbrev pub pieced : Bool → ℕ → ℕ → List Piece → List Piece
pieced true at b ps = record { at = at; bytes = [] } ∷ ps
pieced false at b [] = record { at = at; bytes = b ∷ [] } ∷ []
pieced false at b (p ∷ ps) = record { at = at; bytes = b ∷ p.bytes } ∷ ps

-- The pieces that the byte `end` ends; the last may lack it.
unfoldable pub cut : ℕ → ℕ → List ℕ → List Piece
cut end at [] = []
cut end at (b ∷ l) = pieced (eqb b end) at b (cut end (suc at) l)

abbrev pub bytes_of : Piece → List ℕ
bytes_of p = p.bytes

-- "one form a line, LF after each (the last may lack it)"
unfoldable pub lines : List ℕ → List (List ℕ)
lines text = map bytes_of (cut (code "\n") 0 text)

abbrev pub begun : List ℕ → Piece → List Piece → List Piece
begun [] p ps = ps
begun (b ∷ l) p ps = p ∷ ps

abbrev pub nonempty : List Piece → List Piece
nonempty [] = []
nonempty (p ∷ ps) = begun p.bytes p (nonempty ps)

-- "Spaces may stand before and after a form and one or more between its parts": the parts with their places.
unfoldable pub placed : ℕ → List ℕ → List Piece
placed at line = nonempty (cut (code " ") at line)

unfoldable pub parts : List ℕ → List (List ℕ)
parts line = map bytes_of (placed 0 line)
