-- An entry of a table with the byte after it, and the rows that the entries make.
use Prim.Native.Nat.{ℕ, ◌+◌, ◌*◌, ◌<◌, ◌≤◌}
use native.Mathlib.Omega.{arith}
use mathlib.Core.Path.{◌≡◌, ap}
use mathlib.Core.List.{List, [], ◌∷◌}
use lib.ListN.{length}
use mir.Syntax.{w64}
use mir.Val.{Fits}
use borrow.Author.Tests.{eq-eqb, ne_eqb}
use Rattle.memory.proofs.Geometry.{row_room, place_room, bytes-room, place_inside}
use Rattle.closure.specs.Table.{entries}
use Rattle.text.specs.Joined.{joined}
use Rattle.text.specs.declared.page.Page.{Page}
use Rattle.text.specs.inner.Printed.{Printed}
use Rattle.text.proofs.Printed.{◌then◌, printed_as}
use Rattle.road_sheet.specs.Rows.{shown_word, entry_text, row_line, table_text}
use Rattle.road_sheet.specs.inner.Tables.{Square}

-- Where the word from i to j stands, as the code counts it.
module _ {n : ℕ} {table : List ℕ} {i j : ℕ} (s : Square n table) (row : i < n) (column : j < n) where
  pub entry_row : Fits w64 (i * n)
  entry_row = row_room s.most i row

  pub entry_place : Fits w64 (i * n + j)
  entry_place = place_room s.most i j row column

  pub entry_bytes : Fits w64 ((i * n + j) * 2)
  entry_bytes = bytes-room s.most i j row column

  pub entry_inside : i * n + j < length table
  entry_inside = place_inside table i j s.words row column

  pub entry_next : Fits w64 (j + 1)
  entry_next = omega (arith, s.most)

-- The word, then LF or a space.
module _ (n : ℕ) (table : List ℕ) (i j : ℕ) {p q r : Page} {b : ℕ} (word : Printed p (shown_word (entries n table i j)) q)
    (byte : Printed q (b ∷ []) r) where
  pub entry-last : b ≡ 10 → j + 1 ≡ n → Printed p (entry_text n table i j) r
  entry-last is e = printed_as (word then byte) (rw (is, eq-eqb (j + 1) n e))

  pub entry_inner : b ≡ 32 → (j + 1 ≡ n → ⊥) → Printed p (entry_text n table i j) r
  entry_inner is d = printed_as (word then byte) (rw (is, ne_eqb (j + 1) n d))

-- All words of a row, and all rows.
module _ (n : ℕ) (table : List ℕ) {p q : Page} where
  pub row_printed : (i j : ℕ) → Printed p (joined j (entry_text n table i)) q → j ≤ n → n ≤ j → Printed p (row_line n table i) q
  unfolding row_line
  row_printed i j d most least = let e : j ≡ n = omega arith in printed_as d (ap (λ (m : ℕ). joined m (entry_text n table i)) e)

  pub table_printed : (i : ℕ) → Printed p (joined i (row_line n table)) q → i ≤ n → n ≤ i → Printed p (table_text n table) q
  unfolding table_text
  table_printed i d most least = let e : i ≡ n = omega arith in printed_as d (ap (λ (m : ℕ). joined m (row_line n table)) e)
