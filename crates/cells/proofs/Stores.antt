-- A plane takes c in one column, if a span has it.
use Prim.Native.Nat.{ℕ, ◌+◌, ◌*◌, ◌%◌, ◌<◌, ◌≤◌}
use native.Mathlib.Omega.{arith}
use mathlib.Core.Path.{◌≡◌, refl}
use mathlib.Core.Logic.{◌≢◌}
use mathlib.Core.Bool.{Bool, true, false, ◌&&◌}
use mathlib.Core.List.{List}
use lib.Dec.{leb, ltb}
use lib.ListN.{length, get_or, set, length-set}
use lib.Seq.{get_or-set_same, get_or-set_other}
use mir.Syntax.{w64}
use mir.Val.{Fits}
use Rattle.turns.proofs.Spans.{has_in, has_out}
use Rattle.turns.specs.declared.columns.Columns.{Columns}
use Rattle.cells.specs.Settled.{Took}

-- The places of a column that the span has, of a row in planes of an area.
module _ (asked : Bool) (span : Columns) (area at j : ℕ) (told : asked ≡ (leb span.from j && ltb j span.to)) (so : asked ≡ true)
    (row : at + span.to ≤ area) (most : area ≤ 1024) where
  below : at + j < area
  below = omega (arith, has_in asked span.from j span.to told so)

  pub place_room : Fits w64 (at + j)
  place_room = omega (arith, below)

  pub place_bytes : Fits w64 ((at + j) * 2)
  place_bytes = omega (arith, below)

  pub place_inside : (l : List ℕ) → length l ≡ 3 * area → at + j < length l
  place_inside l long = omega (arith, below)

  module _ (plane : ℕ) (near : plane ≤ 2 * area) where
    pub plane_room : Fits w64 (plane + (at + j))
    plane_room = omega (arith, below)

    pub plane_bytes : Fits w64 ((plane + (at + j)) * 2)
    plane_bytes = omega (arith, below)

    pub plane_inside : (l : List ℕ) → length l ≡ 3 * area → plane + (at + j) < length l
    plane_inside l long = omega (arith, below)

pub ruleset places = (place_room, place_bytes, place_inside, plane_room, plane_bytes, plane_inside)

module _ {plane at : ℕ} {span : Columns} {l : List ℕ} where
  pub takes : {asked : Bool} {j : ℕ} → asked ≡ (leb span.from j && ltb j span.to) → asked ≡ true → plane + (at + j) < length l
      → Took (λ m. m) j plane at span l (set l (plane + (at + j)) (get_or l (at + j) 0))
  takes {asked} {j} told so inside =
      let (f, g) = has_in asked span.from j span.to told so in
      record {
        size = length-set l (plane + (at + j)) (get_or l (at + j) 0);
        put = λ m d e h. rw h (get_or-set_same l (plane + (at + j)) (get_or l (at + j) 0) 0 inside);
        kept = λ p h. get_or-set_other l (plane + (at + j)) p (get_or l (at + j) 0) 0 (λ e. h j f g refl e);
      }

  stays : {f : ℕ → ℕ} {x : ℕ} → ((j : ℕ) → span.from ≤ j → j < span.to → f j ≡ x → ⊥) → Took f x plane at span l l
  stays none = record { size = refl; put = λ j d e h. absurd (none j d e h); kept = λ p h. refl }

  pub takes_not : {asked : Bool} {j : ℕ} → asked ≡ (leb span.from j && ltb j span.to) → asked ≡ false
      → Took (λ m. m) j plane at span l l
  takes_not {asked} {j} told not = stays (λ m d e h. has_out asked span.from j span.to told not (omega arith) (omega arith))

  -- a column by what is twice its number
  pub halved : {twice half : ℕ} {l' : List ℕ} → 2 * half ≡ twice → Took (λ m. m) half plane at span l l'
      → Took (λ m. 2 * m) twice plane at span l l'
  halved even took = record {
    size = took.size;
    put = λ m d e h. took.put m d e (omega arith);
    kept = λ p f. took.kept p (λ m d e h. f m d e (omega arith));
  }

  pub odd : {twice : ℕ} → twice % 2 ≢ 0 → Took (λ m. 2 * m) twice plane at span l l
  odd f = stays (λ m d e h. omega arith)
