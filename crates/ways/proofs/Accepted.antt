-- What the tests of a way's call ask of its input.
use Prim.Native.Nat.{ℕ, ◌<◌}
use mathlib.Core.Path.{◌≡◌, refl}
use mathlib.Core.List.{List}
use lib.ListN.{length}
use borrow.Author.Tests.{leb-false, eqb-false, not-false}
use Rattle.memory.specs.Lists.{same}
use Rattle.memory.proofs.Same.{same_equal}
use Rattle.refusals.proofs.First.{Clear, none_applied, equal}
use Rattle.semiring.specs.Algebra.{none_word_of}
use Rattle.semiring.specs.declared.Algebra.{Algebra}
use Rattle.closure.specs.Table.{entries}
use Rattle.closure.specs.Elimination.{eliminated}
use Rattle.closure.proofs.Accepted.{Accepted, clear_accepted}
use Rattle.ways.specs.Tests.{way_table, way_tests}
use Rattle.std.specs.Prelude.{Some as Known}

pub record WayAccepted (a : Algebra) (n : ℕ) (w c : List ℕ) (from to : ℕ) (list : List ℕ) : Type 0 where
  pub input : Accepted a n w c
  pub room : length list ≡ n
  pub from_inside : from < n
  pub to_inside : to < n
  pub closed : c ≡ eliminated a n w
  pub some : entries n c from to ≡ none_word_of a → ⊥

pub accepted : {a : Algebra} {n : ℕ} {w c : List ℕ} {from to : ℕ} {list : List ℕ} → Clear (way_table a n w c from to list)
    → WayAccepted a n w c from to list
accepted {a} {n} {w} {c} {from} {to} {list} (size, (links, (table, (words, (room, (start, (end, (closed, (some, _))))))))) = record {
  input = clear_accepted (size, (links, (table, (words, tt))));
  room = equal (length list) n room;
  from_inside = leb-false n from start;
  to_inside = leb-false n to end;
  closed = same_equal c (eliminated a n w) (not-false (same c (eliminated a n w)) closed);
  some = eqb-false (entries n c from to) (none_word_of a) some;
}

pub way_accepted : {a : Algebra} {n : ℕ} {w c : List ℕ} {from to : ℕ} {list : List ℕ} → way_tests (Known a) n w c from to list ≡ 0
    → WayAccepted a n w c from to list
way_accepted {a} {n} {w} {c} {from} {to} {list} e = accepted (none_applied (way_table a n w c from to list) refl e)
