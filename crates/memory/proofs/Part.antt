-- A part of a memory: the words that are lent, and the memory once they are given back.
use Prim.Native.Nat.{ℕ, ◌+◌, ◌-◌, ◌<◌, ◌≤◌}
use native.Mathlib.Omega.{arith}
use mathlib.Core.Path.{◌≡◌, sym, ap, ◌∙◌}
use mathlib.Core.List.{List, ◌++◌}
use lib.ListN.{length, get_or, take, drop, length-append, length-take, length-drop, get_or-append}
use lib.Seq.{get_or-append-add, get_or-take, get_or-drop, length-take-le, take_at, drop_at}
use Rattle.memory.specs.Lists.{replaced}

module _ (at w : ℕ) (l : List ℕ) (fits : at + w ≤ length l) where
  pub part_length : length (take w (drop at l)) ≡ w
  part_length = simp (length-take, length-drop) (omega arith)

  pub part_word : (j : ℕ) → j < w → get_or (take w (drop at l)) j 0 ≡ get_or l (at + j) 0
  part_word j h = rw (get_or-take, get_or-drop)

  module _ (new : List ℕ) (same : length new ≡ w) where
    pub replaced_length : length (replaced at w new l) ≡ length l
    replaced_length = simp (length-append, length-take, length-drop) (omega arith)

    pub replaced_before : (p : ℕ) → p < at → get_or (replaced at w new l) p 0 ≡ get_or l p 0
    replaced_before p h =
        let e : length (take at l) ≡ at = length-take-le at l (omega arith) in
        get_or-append (take at l) (new ++ drop w (drop at l)) 0 p (omega arith) ∙ get_or-take at l p 0 h

    -- past the words before the part
    beyond : (p : ℕ) → get_or (replaced at w new l) (at + p) 0 ≡ get_or (new ++ drop w (drop at l)) p 0
    beyond p =
        ap (λ (m : ℕ). get_or (replaced at w new l) (m + p) 0) (sym (length-take-le at l (omega arith)))
        ∙ get_or-append-add (take at l) (new ++ drop w (drop at l)) p 0

    pub replaced_inside : (j : ℕ) → j < w → get_or (replaced at w new l) (at + j) 0 ≡ get_or new j 0
    replaced_inside j h = beyond j ∙ get_or-append new (drop w (drop at l)) 0 j (omega arith)

    pub replaced_after : (p : ℕ) → at + w ≤ p → get_or (replaced at w new l) p 0 ≡ get_or l p 0
    replaced_after p h =
        let q : ℕ = p - (at + w) in
        let e : p ≡ at + (w + q) = omega arith in
        let f : w ≡ length new = sym same in
        ap (λ (m : ℕ). get_or (replaced at w new l) m 0) e
        ∙ beyond (w + q)
        ∙ ap (λ (m : ℕ). get_or (new ++ drop w (drop at l)) (m + q) 0) f
        ∙ get_or-append-add new (drop w (drop at l)) q 0
        ∙ get_or-drop w (drop at l) q 0
        ∙ get_or-drop at l (w + q) 0
        ∙ ap (λ (m : ℕ). get_or l m 0) (sym e)

-- The part at a seam of the list: what stands before and after it stays.
pub replaced_seam : (at w : ℕ) (p y z new : List ℕ) → length p ≡ at → length y ≡ w → replaced at w new (p ++ (y ++ z)) ≡ p ++ (new ++ z)
replaced_seam at w p y z new before width = rw (take_at p (y ++ z) at before, drop_at p (y ++ z) at before, drop_at y z w width)
