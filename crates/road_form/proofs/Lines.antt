-- The form of a line, from the parts that are found one after the other.
use Prim.Native.Nat.{ℕ, ◌<◌, ◌≤◌}
use native.Mathlib.Omega.{arith}
use mathlib.Core.Path.{◌≡◌, refl, sym, ap, ap₂, subst, ◌∙◌}
use mathlib.Core.List.{List, [], ◌∷◌}
use mathlib.Core.Bool.{Bool, true, false, not, and-false}
use lib.ListN.{length}
use lib.Dec.{eqb}
use lib.Pointwise.{pointwise}
use lib.Seq.{take-length}
use Rattle.text.proofs.Alike.{same_pointwise}
use Rattle.std.proofs.Common.{Option, Some, None, unwrap_or, is_some}
use Rattle.text.specs.Ascii.{ascii}
use Rattle.text.specs.inner.Scan.{between, parts_from, Found, NextPart}
use Rattle.text.specs.declared.parts.Part.{Part}
use Rattle.text.proofs.Cuts.{parts_some, parts_none}
use Rattle.road_form.specs.declared.forms.Line.{Line}
use Rattle.road_form.specs.declared.forms.Line.TheVariants.{Problem, Arc, Unknown}
use Rattle.road_form.specs.declared.numbers.Number.{Number}
use Rattle.road_form.specs.Forms.{is_numeral, is_shortest, three_parts, problem_of, arc_of, problem_form, arc_form}
use Rattle.road_form.specs.inner.Numbers.{first_is, Takes, TakenFrom}
use Rattle.road_form.specs.inner.Says.{Says, Plain}

-- three parts, one after the other
module _ (k₁ k₂ k₃ : List ℕ → Bool) (form : List ℕ → List ℕ → List ℕ → Line) where
  abbrev three : List (List ℕ) → Line
  three = three_parts k₁ k₂ k₃ form

  first_other : (ps : List (List ℕ)) → first_is k₁ ps ≡ false → Unknown ≡ three ps
  first_other [] e = refl
  first_other (x ∷ []) e = refl
  first_other (x ∷ y ∷ []) e = refl
  first_other (x ∷ y ∷ z ∷ []) e = rw e
  first_other (x ∷ y ∷ z ∷ w ∷ ps) e = refl

  second_other : (x : List ℕ) (ps : List (List ℕ)) → first_is k₂ ps ≡ false → Unknown ≡ three (x ∷ ps)
  second_other x [] e = refl
  second_other x (y ∷ []) e = refl
  second_other x (y ∷ z ∷ []) e = rw (e, and-false (k₁ x))
  second_other x (y ∷ z ∷ w ∷ ps) e = refl

  third_other : (x y : List ℕ) (ps : List (List ℕ)) → first_is k₃ ps ≡ false → Unknown ≡ three (x ∷ y ∷ ps)
  third_other x y [] e = refl
  third_other x y (z ∷ []) e = rw (e, and-false (k₂ y), and-false (k₁ x))
  third_other x y (z ∷ w ∷ ps) e = refl

-- an arc's numerals
module _ {line : List ℕ} {from : ℕ} {t : Option Number} (a : Takes line from t) where
  pub arc_first : t ≡ None → Says arc_form (parts_from from line) Unknown
  arc_first e = record { is = first_other is_numeral is_numeral is_numeral arc_of (parts_from from line) (a.none e) }

  module _ {n : Number} {u : Option Number} (is₁ : t ≡ Some n) (b : Takes line n.end u) where
    pub arc_second : u ≡ None → Says arc_form (parts_from from line) Unknown
    arc_second h = let p = a.some n is₁ in record { is = rw p.parts (second_other is_numeral is_numeral is_numeral arc_of p.part (parts_from n.end line) (b.none h)) }

    module _ {n' : Number} {w : Option Number} (is₂ : u ≡ Some n') (d : Takes line n'.end w) where
      pub arc_third : w ≡ None → Says arc_form (parts_from from line) Unknown
      arc_third h =
          let p = a.some n is₁ in
          let q = b.some n' is₂ in
          record { is = rw (p.parts, q.parts) (third_other is_numeral is_numeral is_numeral arc_of p.part q.part (parts_from n'.end line) (d.none h)) }

      module _ {n'' : Number} (is₃ : w ≡ Some n'') where
        pub arc_more : {more : List ℕ} {ps : List (List ℕ)} → parts_from n''.end line ≡ more ∷ ps → Says arc_form (parts_from from line) Unknown
        arc_more h =
            let p = a.some n is₁ in
            let q = b.some n' is₂ in
            let r = d.some n'' is₃ in
            record { is = rw (p.parts, q.parts, r.parts, h) }

        pub arc_whole : parts_from n''.end line ≡ [] → Says arc_form (parts_from from line) (Arc (record { from = n.value; to = n'.value; length = n''.value }))
        arc_whole h =
            let p = a.some n is₁ in
            let q = b.some n' is₂ in
            let r = d.some n'' is₃ in
            record {
              is = (λ i. Arc (record { from = p.number i; to = q.number i; length = r.number i }))
                  ∙ rw (p.parts, q.parts, r.parts, h, p.numeral, q.numeral, r.numeral);
            }

-- a numeral of a line that has no other
line_takes : {line : List ℕ} {k : ℕ} {t : Option Number} → Plain line → TakenFrom line k t → k ≤ length line → Takes line k t
line_takes {line} {k} {t} p n h = subst (λ (x : List ℕ). Takes x k t) (take-length line) (n.takes (length line) p.one h)

not_not : (b : Bool) → b ≡ not (not b)
not_not true = refl
not_not false = refl

-- a problem's parts
module _ {line : List ℕ} (plain : Plain line) {from a b : ℕ} (f : Found from line a b) where
  module _ {answer : Bool} {name : List ℕ} (some : a < b) (named : name ≡ ascii "sp") (told : answer ≡ not (pointwise eqb (between a b line) name)) where
    shortest : is_shortest (between a b line) ≡ not answer
    shortest = sym (same_pointwise (between a b line) (ascii "sp")) ∙ ap (pointwise eqb (between a b line)) (sym named) ∙ not_not (pointwise eqb (between a b line) name) ∙ ap not (sym told)

    kind_other : answer ≡ true → first_is is_shortest (parts_from from line) ≡ false
    kind_other e = rw (parts_some f some) (shortest ∙ ap not e)

    kind : answer ≡ false → is_shortest (between a b line) ≡ true
    kind e = shortest ∙ ap not e

    pub problem_first : answer ≡ true → Says problem_form (parts_from from line) Unknown
    problem_first e = record { is = first_other is_shortest is_numeral is_numeral problem_of (parts_from from line) (kind_other e) }

    module _ {t : Option Number} (is₁ : answer ≡ false) (taken : TakenFrom line b t) where
      d : Takes line b t
      d = line_takes plain taken (omega (arith, f.most))

      module _ {n : Number} {u : Option Number} (is₂ : t ≡ Some n) (taken' : TakenFrom line n.end u) where
        g : Takes line n.end u
        g = line_takes plain taken' (d.some n is₂).within

        pub problem_third : {r : Option Line} → u ≡ None → r ≡ None → Says problem_form (parts_from from line) (unwrap_or r Unknown)
        problem_third h e =
            let p = d.some n is₂ in
            rw e (record { is = rw (parts_some f some, p.parts) (third_other is_shortest is_numeral is_numeral problem_of (between a b line) p.part (parts_from n.end line) (g.none h)) })

        module _ {n' : Number} (is₃ : u ≡ Some n') where
          pub problem_more : (m : Option Part) → NextPart n'.end line m → is_some m ≡ true → Says problem_form (parts_from from line) Unknown
          problem_more (Some more) j e =
              let p = d.some n is₂ in
              let q = g.some n' is₃ in
              record { is = rw (parts_some f some, p.parts, q.parts, parts_some j.0 j.1) }
          problem_more None j e = absurd (grind (arith, e))

          pub problem_whole : (m : Option Part) → NextPart n'.end line m → is_some m ≡ false → Says problem_form (parts_from from line) (Problem n.value n'.value)
          problem_whole (Some more) j e = absurd (grind (arith, e))
          problem_whole None j e =
              let p = d.some n is₂ in
              let q = g.some n' is₃ in
              record {
                is = ap₂ Problem p.number q.number
                    ∙ rw (parts_some f some, p.parts, q.parts, parts_none j (omega arith), kind is₁, p.numeral, q.numeral);
              }
