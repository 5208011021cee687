-- What the walks over bytes find: places of pieces and parts.
use Rattle.std.specs.Prelude.{ℕ, ◌+◌, ◌-◌, ◌<◌, ◌≤◌, max, ◌≡◌, List, [], ◌∷◌, map, length, get_or, take, drop, Option, None, Some}
use Prim.Native.Char.{code}
use Rattle.text.specs.Pieces.{bytes_of, cut, placed}
use Rattle.text.specs.declared.parts.Part.{Part}

abbrev pub between : ℕ → ℕ → List ℕ → List ℕ
between start end l = take (end - start) (drop start l)

-- The piece from `from` on ends before r.
pub record Until (end from : ℕ) (l : List ℕ) (r : ℕ) : Type 0 where
  pub least : from ≤ r
  pub most : r ≤ max from (length l)
  pub free : (q : ℕ) → from ≤ q → q < r → get_or l q 0 ≡ end → ⊥
  pub stands : r < length l → get_or l r 0 ≡ end
  pub piece : from < length l → cut end from (drop from l) ≡ record { at = from; bytes = between from r l } ∷ cut end (r + 1) (drop (r + 1) l)

-- Only spaces stand from `from` to r.
pub record Unspaced (from : ℕ) (l : List ℕ) (r : ℕ) : Type 0 where
  pub least : from ≤ r
  pub most : r ≤ max from (length l)
  pub each : (q : ℕ) → from ≤ q → q < r → get_or l q 0 ≡ code " "
  pub other : r < length l → get_or l r 0 ≡ code " " → ⊥
  pub same_parts : placed from (drop from l) ≡ placed r (drop r l)

-- The parts from a place on.
abbrev pub parts_from : ℕ → List ℕ → List (List ℕ)
parts_from from line = map bytes_of (placed from (drop from line))

-- The first part from `from` on stands at start to end. Where there is none, both are where the line ends, or `from` behind it.
pub record Found (from : ℕ) (line : List ℕ) (start end : ℕ) : Type 0 where
  pub least : from ≤ start
  pub ordered : start ≤ end
  pub most : end ≤ max start (length line)
  pub some : start < end → placed from (drop from line) ≡ record { at = start; bytes = between start end line } ∷ placed end (drop end line)
  pub none : end ≤ start → placed from (drop from line) ≡ []
  pub none_start : end ≤ start → start ≡ max from (length line)
  pub none_end : end ≤ start → end ≡ max from (length line)

-- Where the first part stands, which has bytes; None where there is none.
abbrev pub NextPart : ℕ → List ℕ → Option Part → Type 0
NextPart from line (Some p) = Found from line p.start p.end × (p.start < p.end)
NextPart from line None = Found from line (max from (length line)) (max from (length line))
