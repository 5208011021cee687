-- Pieces and parts, found by going from place to place.
use Prim.Native.Nat.{ℕ, suc, ◌+◌, ◌-◌, ◌<◌, ◌≤◌, max}
use Prim.Native.Char.{code}
use native.Mathlib.Numerals.{add-one}
use native.Mathlib.Omega.{arith}
use native.Mathlib.Decide.{dec_lt, ℕ_discrete}
use mathlib.Core.Path.{◌≡◌, refl, sym, ap, subst, ◌∙◌}
use mathlib.Core.List.{List, [], ◌∷◌, ◌++◌, map}
use lib.ListN.{length, get_or, take, drop, take-append-drop, length-take, length-drop, drop_of_length-le}
use mathlib.Core.Bool.{Bool, true, false}
use lib.Dec.{eqb}
use lib.Seq.{drop-cons, drop-drop, get_or-take, get_or-drop}
use borrow.Author.Tests.{eq-eqb, ne_eqb}
use Rattle.text.specs.Pieces.{Piece, pieced, cut, bytes_of, lines, begun, nonempty, placed}
use Rattle.text.specs.inner.Scan.{between, parts_from, Until, Unspaced, Found, NextPart}
use Rattle.std.proofs.Common.{Some, None}

abbrev piece_at : ℕ → List ℕ → Piece
piece_at at bytes = record { at = at; bytes = bytes }

-- A run of bytes other than `end`, and what follows it: nothing, or a byte `end`.
data Ends (end : ℕ) : List ℕ → Type 0 where
  last : Ends end []
  more : {l : List ℕ} → Ends end (end ∷ l)

cut-more : (end at : ℕ) (l : List ℕ) → cut end at (end ∷ l) ≡ record { at = at; bytes = [] } ∷ cut end (suc at) l
unfolding cut
cut-more end at l = rw (eq-eqb end end refl)

cut_run : (end at : ℕ) (run rest : List ℕ) → ((q : ℕ) → q < length run → get_or run q 0 ≡ end → ⊥) → Ends end rest → 0 < length (run ++ rest)
    → cut end at (run ++ rest) ≡ record { at = at; bytes = run } ∷ cut end (suc (at + length run)) (drop 1 rest)
unfolding cut
cut_run end at [] [] free e h = absurd (omega arith)
cut_run end at [] (b ∷ rest) free more h = let z : at + 0 ≡ at = omega arith in rw z (cut-more end at rest)
cut_run end at (b ∷ []) [] free e h = rw (ne_eqb b end (free 0 (omega arith)))
cut_run end at (b ∷ []) (c ∷ rest) free more h =
    rw (ne_eqb b end (free 0 (omega arith)), cut-more end (suc at) rest, add-one at)
cut_run end at (b ∷ c ∷ run) rest free e h =
    rw (ne_eqb b end (free 0 (omega arith)), cut_run end (suc at) (c ∷ run) rest (λ q k. free (suc q) (omega arith)) e (omega arith))
    (ap (λ (m : ℕ). piece_at at (b ∷ c ∷ run) ∷ cut end (suc m) (drop 1 rest)) (omega arith))

ends_at : (end r : ℕ) (l : List ℕ) → (r < length l → get_or l r 0 ≡ end) → Dec (r < length l) → Ends end (drop r l)
ends_at end r l h (yes k) = rw (drop-cons l r 0 k, h k) more
ends_at end r l h (no k) = let e : length l ≤ r = omega arith in rw (drop_of_length-le l e) last

-- What holds of each place from `from` to i, and of i, holds of each to i + 1.
pub below-from : {from : ℕ} (P : ℕ → Type 0) (i : ℕ) → ((q : ℕ) → from ≤ q → q < i → P q) → P i → (q : ℕ) → from ≤ q → q < i + 1 → P q
below-from P i before here q h k = at (ℕ_discrete q i)
  where
    at : Dec (q ≡ i) → P q
    at (yes e) = rw e here
    at (no e) = before q h (omega arith)

module _ (end from r : ℕ) (l : List ℕ) (least : from ≤ r) (most : r ≤ max from (length l)) where
  -- the bytes from `from` to r, and those from r on
  halves : drop from l ≡ between from r l ++ drop r l
  halves =
      let e : from + (r - from) ≡ r = omega arith in
      sym (take-append-drop (r - from) (drop from l))
      ∙ ap (λ (x : List ℕ). between from r l ++ x) (drop-drop (r - from) from l ∙ ap (λ (m : ℕ). drop m l) e)

  pub width : from ≤ length l → length (between from r l) ≡ r - from
  width h = simp (length-take, length-drop) (omega arith)

  pub until_here : ((q : ℕ) → from ≤ q → q < r → get_or l q 0 ≡ end → ⊥) → (r < length l → get_or l r 0 ≡ end) → Until end from l r
  until_here free stands = record { least = least; most = most; free = free; stands = stands; piece = piece }
    where
      piece : from < length l → cut end from (drop from l) ≡ record { at = from; bytes = between from r l } ∷ cut end (r + 1) (drop (r + 1) l)
      piece h =
          let w : length (between from r l) ≡ r - from = width (omega arith) in
          let z : suc (from + length (between from r l)) ≡ r + 1 = omega arith in
          ap (cut end from) halves
          ∙ cut_run end from (between from r l) (drop r l)
          (λ q k. rw (get_or-take (r - from) (drop from l) q 0 (omega arith), get_or-drop from l q 0) (free (from + q) (omega arith) (omega arith)))
          (ends_at end r l stands (dec_lt r (length l)))
          (rw (← halves, length-drop from l) (omega arith))
          ∙ ap (λ (m : ℕ). piece_at from (between from r l) ∷ cut end m (drop 1 (drop r l))) z
          ∙ ap (λ (x : List ℕ). piece_at from (between from r l) ∷ cut end (r + 1) x) (drop-drop 1 r l)

-- a space more
pub placed_space : (i : ℕ) (l : List ℕ) → i < length l → get_or l i 0 ≡ code " " → placed i (drop i l) ≡ placed (i + 1) (drop (i + 1) l)
unfolding placed
placed_space i l h e = rw (drop-cons l i 0 h, e, cut-more (code " ") i (drop (suc i) l), add-one i)

pub placed_end : (i : ℕ) (l : List ℕ) → length l ≤ i → placed i (drop i l) ≡ []
unfolding placed cut
placed_end i l h = rw (drop_of_length-le l h)

begun_some : (l : List ℕ) (p : Piece) (ps : List Piece) → 0 < length l → begun l p ps ≡ p ∷ ps
begun_some [] p ps h = absurd (omega arith)
begun_some (b ∷ l) p ps h = refl

-- A byte that ends a part, or the line's end, is passed over.
placed_past : (r : ℕ) (l : List ℕ) → (r < length l → get_or l r 0 ≡ code " ") → Dec (r < length l) → placed (r + 1) (drop (r + 1) l) ≡ placed r (drop r l)
placed_past r l h (yes k) = sym (placed_space r l k (h k))
placed_past r l h (no k) = placed_end (r + 1) l (omega arith) ∙ sym (placed_end r l (omega arith))

-- the part that a walk to the next space finds
module _ {from start end : ℕ} {line : List ℕ} (u : Unspaced from line start) (t : Until (code " ") start line end) where
  part_some : start < end → placed start (drop start line) ≡ piece_at start (between start end line) ∷ placed end (drop end line)
  unfolding placed
  part_some h =
      rw (t.piece (omega arith))
      (begun_some (between start end line) (piece_at start (between start end line)) (nonempty (cut (code " ") (end + 1) (drop (end + 1) line)))
      (rw (width (code " ") start end line t.least t.most (omega arith)) (omega arith))
      ∙ ap (λ (ps : List Piece). piece_at start (between start end line) ∷ ps) (placed_past end line t.stands (dec_lt end (length line))))

  at-end : end ≤ start → Dec (start < length line) → length line ≤ start
  at-end h (yes k) = let e : end ≡ start = omega (arith, t.least) in absurd (u.other k (rw e at (t.stands (omega arith))))
  at-end h (no k) = omega arith

  pub found_here : Found from line start end
  found_here = record {
    least = u.least;
    ordered = t.least;
    most = t.most;
    some = λ h. u.same_parts ∙ part_some h;
    none = λ h. u.same_parts ∙ placed_end start line (at-end h (dec_lt start (length line)));
    none_start = λ h. omega (arith, u.least, u.most, at-end h (dec_lt start (length line)));
    none_end = λ h. omega (arith, u.least, u.most, t.least, at-end h (dec_lt start (length line)));
  }

  pub part_here : start < end → NextPart from line (Some (record { start = start; end = end }))
  part_here h = (found_here, h)

  pub no_part : end ≤ start → NextPart from line None
  no_part h =
      let f = found_here in
      let e : end ≡ start = f.none_end h ∙ sym (f.none_start h) in
      subst (λ (m : ℕ). Found from line m m) (f.none_start h) (subst (λ (m : ℕ). Found from line start m) e f)

module _ {from start end : ℕ} {line : List ℕ} (f : Found from line start end) where
  pub parts_some : start < end → parts_from from line ≡ between start end line ∷ parts_from end line
  parts_some h = ap (map bytes_of) (f.some h)

  pub parts_none : end ≤ start → parts_from from line ≡ []
  parts_none h = ap (map bytes_of) (f.none h)

-- Pieces wherever they stand: the first line of a text, and the others.
pieced_same : (t : Bool) (a b x : ℕ) (ps qs : List Piece) → map bytes_of ps ≡ map bytes_of qs → map bytes_of (pieced t a x ps) ≡ map bytes_of (pieced t b x qs)
pieced_same true a b x ps qs e = ap (λ (l : List (List ℕ)). [] ∷ l) e
pieced_same false a b x [] [] e = refl
pieced_same false a b x [] (q ∷ qs) e = let z : 0 ≡ suc (length (map bytes_of qs)) = ap length e in absurd (omega arith)
pieced_same false a b x (p ∷ ps) [] e = let z : suc (length (map bytes_of ps)) ≡ 0 = ap length e in absurd (omega arith)
pieced_same false a b x (p ∷ ps) (q ∷ qs) e =
    let first : p.bytes ≡ q.bytes = cc in
    let rest : map bytes_of ps ≡ map bytes_of qs = cc in
    rw (first, rest)

cut_same : (end a b : ℕ) (l : List ℕ) → map bytes_of (cut end a l) ≡ map bytes_of (cut end b l)
unfolding cut
cut_same end a b [] = refl
cut_same end a b (x ∷ l) = pieced_same (eqb x end) a b x (cut end (suc a) l) (cut end (suc b) l) (cut_same end (suc a) (suc b) l)

pub first_line : (text : List ℕ) (e : ℕ) → 0 < length text → Until (code "\n") 0 text e → lines text ≡ take e text ∷ lines (drop (e + 1) text)
unfolding lines
first_line text e h u =
    let z : e - 0 ≡ e = omega arith in
    ap (map bytes_of) (u.piece h)
    ∙ rw z (ap (λ (ls : List (List ℕ)). take e text ∷ ls) (cut_same (code "\n") (e + 1) 0 (drop (e + 1) text)))
