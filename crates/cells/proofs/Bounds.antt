-- Where the rows of a plane lie.
use Prim.Native.Nat.{ℕ, ◌+◌, ◌*◌, ◌<◌, ◌≤◌}
use native.Mathlib.Nat.{mul-le-mul_right}
use native.Mathlib.Omega.{arith}
use mathlib.Core.Bool.{Bool}
use mathlib.Core.List.{List}
use lib.ListN.{length}
use mir.Syntax.{w64}
use mir.Val.{Fits}
use Rattle.job_list.proofs.Fits.{area_fits}
use Rattle.memory.proofs.Geometry.{row_fits}
use Rattle.turns.proofs.Geometry.{pass_least, rows_fit}
use Rattle.turns.specs.Spans.{Spans}
use Rattle.turns.specs.declared.columns.Columns.{Columns}
use Rattle.turns.specs.declared.turn.Turn.{Turn}
use Rattle.cells.specs.Rows.{Row, Rows}

-- A row, and a span of its columns.
module _ {n count i : ℕ} {s : Turn} {l : List ℕ} (row : Row n count i s l) where
  pub area_most : n * n ≤ 1024
  area_most = area_fits row.most

  pub row_room : Fits w64 (i * n)
  row_room = omega (arith, area_most, row_fits row.row)

  pub point_inside : i * n + s.point < length l
  point_inside = omega (arith, row.below, row.long, row_fits row.row)

  module _ {test : ℕ → Bool} {u : ℕ} {r : Columns} (span : Spans n test u r) where
    pub span_order : i * n + r.from ≤ i * n + r.to
    span_order = omega (arith, span.order)

    pub span_end : i * n + r.to ≤ n * n
    span_end = omega (arith, span.within, row_fits row.row)

    pub left_room : Fits w64 (i * n + r.from)
    left_room = omega (arith, area_most, span_order, span_end)

    pub right_room : Fits w64 (i * n + r.to)
    right_room = omega (arith, area_most, span_end)

-- Rows.
module _ {n count from to : ℕ} {s : Turn} {l : List ℕ} (rows : Rows n count from to s l) where
  pub rows_pass : 1 ≤ s.pass
  rows_pass = pass_least n s.pass s.point rows.below (omega (arith, rows.late, rows.order))

  pub rows_order : from * n ≤ to * n
  rows_order = mul-le-mul_right n rows.order

  pub rows_end : to * n ≤ n * n
  rows_end = rows_fit n rows.fits

  pub rows_most : n * n ≤ 1024
  rows_most = area_fits rows.most

  pub from_room : Fits w64 (from * n)
  from_room = omega (arith, rows_order, rows_end, rows_most)

  pub to_room : Fits w64 (to * n)
  to_room = omega (arith, rows_end, rows_most)

pub ruleset row_places = (area_most, row_room, point_inside, span_order, span_end, left_room, right_room)

pub ruleset rows_places = (rows_pass, rows_order, rows_end, rows_most, from_room, to_room)
