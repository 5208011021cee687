-- The parts of a line as its runs of bytes other than spaces, whatever their places: spaces beside spaces or at an end change nothing.
use Prim.Native.Nat.{ℕ, suc}
use Prim.Native.Char.{code}
use mathlib.Core.Path.{◌≡◌, refl, sym, ap, ap₂, ◌∙◌}
use mathlib.Core.List.{List, [], ◌∷◌, ◌++◌, map, append-nil}
use mathlib.Core.Bool.{Bool, true, false}
use lib.Dec.{eqb}
use Rattle.text.specs.Pieces.{Piece, pieced, cut, bytes_of, begun, nonempty, placed, parts}

-- a run before the parts that follow
abbrev joined : List ℕ → List (List ℕ) → List (List ℕ)
joined [] ps = ps
joined (b ∷ p) ps = (b ∷ p) ∷ ps

abbrev first_of : Bool → ℕ → List ℕ → List ℕ
first_of true b p = []
first_of false b p = b ∷ p

abbrev later_of : Bool → List ℕ → List (List ℕ) → List (List ℕ)
later_of true p ps = joined p ps
later_of false p ps = ps

-- the bytes before the first space, and the parts after it
pub first : List ℕ → List ℕ
first [] = []
first (b ∷ l) = first_of (eqb b (code " ")) b (first l)

pub later : List ℕ → List (List ℕ)
unfolding first
later [] = []
later (b ∷ l) = later_of (eqb b (code " ")) (first l) (later l)

runs : List ℕ → List (List ℕ)
runs l = joined (first l) (later l)

-- the same of pieces
abbrev first_piece : List Piece → List ℕ
first_piece [] = []
first_piece (p ∷ ps) = p.bytes

abbrev later_pieces : List Piece → List Piece
later_pieces [] = []
later_pieces (p ∷ ps) = ps

joined_begun : (p : Piece) (ps : List Piece) → map bytes_of (begun p.bytes p ps) ≡ joined p.bytes (map bytes_of ps)
joined_begun p ps = go p.bytes refl
  where
    go : (l : List ℕ) → p.bytes ≡ l → map bytes_of (begun l p ps) ≡ joined l (map bytes_of ps)
    go [] e = refl
    go (b ∷ l) e = ap (λ (x : List ℕ). x ∷ map bytes_of ps) e

all_pieces : (ps : List Piece) → map bytes_of (nonempty ps) ≡ joined (first_piece ps) (map bytes_of (nonempty (later_pieces ps)))
all_pieces [] = refl
all_pieces (p ∷ ps) = joined_begun p (nonempty ps)

first_pieced : (t : Bool) (at b : ℕ) (ps : List Piece) → first_piece (pieced t at b ps) ≡ first_of t b (first_piece ps)
first_pieced true at b ps = refl
first_pieced false at b [] = refl
first_pieced false at b (p ∷ ps) = refl

later_pieced : (t : Bool) (at b : ℕ) (ps : List Piece)
    → map bytes_of (nonempty (later_pieces (pieced t at b ps))) ≡ later_of t (first_piece ps) (map bytes_of (nonempty (later_pieces ps)))
later_pieced true at b ps = all_pieces ps
later_pieced false at b [] = refl
later_pieced false at b (p ∷ ps) = refl

first_cut : (at : ℕ) (l : List ℕ) → first_piece (cut (code " ") at l) ≡ first l
unfolding cut first
first_cut at [] = refl
first_cut at (b ∷ l) = first_pieced (eqb b (code " ")) at b (cut (code " ") (suc at) l) ∙ ap (first_of (eqb b (code " ")) b) (first_cut (suc at) l)

later_cut : (at : ℕ) (l : List ℕ) → map bytes_of (nonempty (later_pieces (cut (code " ") at l))) ≡ later l
unfolding cut later
later_cut at [] = refl
later_cut at (b ∷ l) =
    later_pieced (eqb b (code " ")) at b (cut (code " ") (suc at) l)
    ∙ ap₂ (later_of (eqb b (code " "))) (first_cut (suc at) l) (later_cut (suc at) l)

parts_runs : (l : List ℕ) → parts l ≡ runs l
unfolding parts placed runs
parts_runs l = all_pieces (cut (code " ") 0 l) ∙ ap₂ joined (first_cut 0 l) (later_cut 0 l)

joined_append : (p : List ℕ) (ps qs : List (List ℕ)) → joined p (ps ++ qs) ≡ joined p ps ++ qs
joined_append [] ps qs = refl
joined_append (b ∷ p) ps qs = refl

first_space : (x y : List ℕ) → first (x ++ code " " ∷ y) ≡ first x
unfolding first
first_space [] y = refl
first_space (b ∷ x) y = ap (first_of (eqb b (code " ")) b) (first_space x y)

later_space : (x y : List ℕ) → later (x ++ code " " ∷ y) ≡ later x ++ runs y
unfolding later first runs
later_space [] y = refl
later_space (b ∷ x) y = at (eqb b (code " ")) (later_space x y)
  where
    at : (t : Bool) → later (x ++ code " " ∷ y) ≡ later x ++ runs y
        → later_of t (first (x ++ code " " ∷ y)) (later (x ++ code " " ∷ y)) ≡ later_of t (first x) (later x) ++ runs y
    at true e = ap₂ joined (first_space x y) e ∙ joined_append (first x) (later x) (runs y)
    at false e = e

runs_space : (x y : List ℕ) → runs (x ++ code " " ∷ y) ≡ runs x ++ runs y
unfolding runs
runs_space x y = ap₂ joined (first_space x y) (later_space x y) ∙ joined_append (first x) (later x) (runs y)

-- A space parts a line in two.
pub parts_space : (x y : List ℕ) → parts (x ++ code " " ∷ y) ≡ parts x ++ parts y
parts_space x y = parts_runs (x ++ code " " ∷ y) ∙ runs_space x y ∙ sym (ap₂ (λ (p q : List (List ℕ)). p ++ q) (parts_runs x) (parts_runs y))

pub parts_none : parts [] ≡ []
unfolding parts placed cut
parts_none = refl

pub parts_before : (l : List ℕ) → parts (code " " ∷ l) ≡ parts l
parts_before l = parts_space [] l ∙ ap (λ (p : List (List ℕ)). p ++ parts l) parts_none

pub parts_behind : (l : List ℕ) → parts (l ++ (code " " ∷ [])) ≡ parts l
parts_behind l = parts_space l [] ∙ ap (λ (p : List (List ℕ)). parts l ++ p) parts_none ∙ append-nil (parts l)

pub parts_between : (x y : List ℕ) → parts (x ++ code " " ∷ code " " ∷ y) ≡ parts (x ++ code " " ∷ y)
parts_between x y = parts_space x (code " " ∷ y) ∙ ap (λ (p : List (List ℕ)). parts x ++ p) (parts_before y) ∙ sym (parts_space x y)

-- The parts of a line that begins with a byte other than a space: the first of them begins with it.
pub parts_byte : (b : ℕ) (l : List ℕ) → eqb b (code " ") ≡ false → parts (b ∷ l) ≡ (b ∷ first l) ∷ later l
unfolding runs first later
parts_byte b l e = parts_runs (b ∷ l) ∙ rw e

pub parts_alone : (b : ℕ) → eqb b (code " ") ≡ false → parts (b ∷ []) ≡ (b ∷ []) ∷ []
unfolding first later
parts_alone b e = parts_byte b [] e

pub parts_two : (b c : ℕ) (l : List ℕ) → eqb b (code " ") ≡ false → eqb c (code " ") ≡ false → parts (b ∷ c ∷ l) ≡ (b ∷ c ∷ first l) ∷ later l
unfolding first later
parts_two b c l e f = parts_byte b (c ∷ l) e ∙ rw f
