-- A point's level and its successor, 0 past the marks.
use Rattle.std.specs.Prelude.{ℕ, List, get_or}
use Rattle.levels.specs.declared.backwards.Mark.{Mark}

abbrev pub no_mark : Mark
no_mark = record { level = 0; next = 0 }

abbrev pub level_of : List Mark → ℕ → ℕ
level_of marks v = (get_or marks v no_mark).level

abbrev pub next_of : List Mark → ℕ → ℕ
next_of marks v = (get_or marks v no_mark).next
