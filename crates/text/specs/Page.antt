-- A lent page after a text was printed on it from its first byte on.
use Rattle.std.specs.Prelude.{ℕ, List, ◌++◌, length, take, drop}

-- As much of the text as there is room for; the page's other bytes stay.
abbrev pub overwritten : List ℕ → List ℕ → List ℕ
overwritten text page = take (length page) text ++ drop (length text) page
