-- What a cell makes of the words that come in.
use Rattle.std.specs.Prelude.{ℕ, cond, ◌&&◌, eqb, ltb}
use Rattle.semiring.specs.Algebra.{none_word_of, sum_of, product_of}
use Rattle.semiring.specs.declared.Algebra.{Algebra}
use Rattle.systolic.specs.Cell.{Cell}
use Rattle.turns.specs.Turn.{live, sums, pass_in}

-- c before the sum: "c starts as none when p = 0 and k = 0, else as c."
abbrev pub cStart : Algebra → ℕ → ℕ → ℕ → ℕ
cStart algebra p k c = cond (eqb p 0 && eqb k 0) (none_word_of algebra) c

-- "For p < 3 it becomes the sum of c and the product of a in and b in; for p = 3 it stays."
abbrev pub summed : Algebra → ℕ → ℕ → ℕ → ℕ → ℕ
summed algebra p left above c = cond (ltb p 3) (sum_of algebra c (product_of algebra left above)) c

-- Cell (i, j) at point k of pass p, of which `left` and `above` come in.
abbrev pub worked : Algebra → ℕ → ℕ → ℕ → ℕ → ℕ → ℕ → ℕ → Cell
worked algebra p k i j left above c =
    let new = summed algebra p left above (cStart algebra p k c) in
    record { c = new; a = cond (eqb k j) new left; b = cond (eqb k i && ltb p 3) new above }

-- c of a cell at point k of a pass.
abbrev pub new_c : Algebra → ℕ → ℕ → ℕ → Cell → ℕ
new_c algebra count pass k x =
    cond (live count pass) (summed algebra (pass_in pass) x.a x.b (cStart algebra (pass_in pass) k x.c)) x.c

-- The work in two halves, by row, column, pass and point: c, then what a and b take from it.
abbrev pub adding : Algebra → ℕ → ℕ → ℕ → ℕ → ℕ → Cell → Cell
adding algebra count i j pass k x = record { c = new_c algebra count pass k x; a = x.a; b = x.b }

abbrev pub taking : ℕ → ℕ → ℕ → ℕ → ℕ → Cell → Cell
taking count i j pass k x = record {
  c = x.c;
  a = cond (live count pass && eqb k j) x.c x.a;
  b = cond (sums count pass && eqb k i) x.c x.b;
}
