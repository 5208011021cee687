-- The line of an arc, from the numerals taken one after the other, wherever it ends.
use Prim.Native.Nat.{ℕ, zero, suc, ◌+◌, ◌-◌, ◌<◌, ◌≤◌}
use Prim.Native.Char.{code}
use native.Mathlib.Omega.{arith}
use native.Mathlib.Decide.{ℕ_discrete}
use mathlib.Core.Path.{◌≡◌, refl, sym, ap, subst, ◌∙◌}
use mathlib.Core.Logic.{◌≢◌}
use mathlib.Core.List.{List, [], ◌∷◌, map}
use mathlib.Core.Bool.{Bool, true, false, not, true≢false}
use lib.ListN.{length, get_or, take}
use lib.Dec.{eqb}
use borrow.Author.Tests.{eqb-true, eqb-false, not-true, not-false}
use Rattle.std.proofs.Common.{Option, Some, None}
use Rattle.text.specs.Pieces.{bytes_of}
use Rattle.text.specs.inner.Scan.{parts_from, Until}
use Rattle.text.proofs.Cuts.{until_here, found_here, parts_some, placed_space, placed_end}
use Rattle.text.proofs.Walks.{spaces_none, spaces_found, passed_none, passed_one}
use Rattle.road_form.specs.declared.forms.Line.{Line}
use Rattle.road_form.specs.declared.forms.Line.TheVariants.{Arc, Unknown}
use Rattle.road_form.specs.declared.forms.Said.{Said}
use Rattle.road_form.specs.declared.numbers.Number.{Number}
use Rattle.road_form.specs.Forms.{arc_form}
use Rattle.road_form.specs.inner.Numbers.{Takes, TakenFrom}
use Rattle.road_form.specs.inner.Says.{Says, LineRead, LineSaid, ArcSaid, EndsAt, ArcBegins, ArcTold, Plain}
use Rattle.road_form.proofs.Digits.{next-end}
use Rattle.road_form.proofs.Within.{line_length, line_byte, inside, at-end}
use Rattle.road_form.proofs.Lines.{arc_first, arc_second, arc_third, arc_more, arc_whole}
use Rattle.road_form.proofs.Heads.{space_at_end, arc}

-- `ends_at`
module _ {text : List ℕ} {at : ℕ} where
  pub ends_with_text : length text ≤ at → EndsAt text at true
  ends_with_text h = record { yes = λ z e u k. omega (arith, u.most); no = λ z. absurd (true≢false z) }

  pub ends_with_lf : at < length text → EndsAt text at (eqb (get_or text at 0) (code "\n"))
  ends_with_lf h = record {
    yes = λ z e u k. at-end u at k (eqb-true (get_or text at 0) (code "\n") z);
    no = λ z e u k. inside u at k h (eqb-false (get_or text at 0) (code "\n") z);
  }

-- `begins_arc`
module _ {text : List ℕ} where
  pub too_short : length text < 2 → ArcTold text false
  too_short h = record { yes = λ z. absurd (true≢false (sym z)); no = λ z b. omega (arith, b.two) }

  pub other_name : get_or text 0 0 ≢ code "a" → ArcTold text false
  other_name h = record { yes = λ z. absurd (true≢false (sym z)); no = λ z b. h b.name }

  pub by_space : 2 ≤ length text → get_or text 0 0 ≡ code "a" → ArcTold text (eqb (get_or text 1 0) (code " "))
  by_space h name = record {
    yes = λ z. record { two = h; name = name; spaced = eqb-true (get_or text 1 0) (code " ") z };
    no = λ z b. eqb-false (get_or text 1 0) (code " ") z b.spaced;
  }

-- Where no part follows, the line ends with a space.
space_here : (line : List ℕ) (k : ℕ) → k < length line → parts_from k line ≡ [] → get_or line k 0 ≡ code " "
space_here line k h none = by (ℕ_discrete (get_or line k 0) (code " "))
  where
    by : Dec (get_or line k 0 ≡ code " ") → get_or line k 0 ≡ code " "
    by (yes e) = e
    by (no other) =
        let (r, (past, u)) = next-end (code " ") k line (length line) (k + 1) (passed_one passed_none h other) (omega arith) in
        let some : 0 ≡ suc (length (parts_from r line)) = ap length (sym none ∙ parts_some (found_here (spaces_found spaces_none other) u) (omega arith)) in
        absurd (omega arith)

only_spaces : (line : List ℕ) (n k : ℕ) → k + suc n ≡ length line → parts_from k line ≡ [] → get_or line (k + n) 0 ≡ code " "
only_spaces line zero k h none = let z : k + 0 ≡ k = omega arith in rw z (space_here line k (omega arith) none)
only_spaces line (suc n) k h none =
    let e : get_or line k 0 ≡ code " " = space_here line k (omega arith) none in
    let z : k + suc n ≡ k + 1 + n = omega arith in
    rw z (only_spaces line n (k + 1) (omega arith) (ap (map bytes_of) (sym (placed_space k line (omega arith) e)) ∙ none))

-- The line that stands at the beginning of a text which begins with `a` and a space.
module _ {text : List ℕ} (b : ArcBegins text) {e : ℕ} (u : Until (code "\n") 0 text e) where
  abbrev line : List ℕ
  line = take e text

  two_bytes : 2 ≤ e
  two_bytes =
      let name = b.name in
      let spaced = b.spaced in
      let one : 0 < e = inside u 0 (omega arith) (omega (arith, b.two)) (λ z. omega arith) in
      let two : 1 < e = inside u 1 (omega arith) (omega (arith, b.two)) (λ z. omega arith) in
      omega arith

  name_is : get_or line 0 0 ≡ code "a"
  name_is = line_byte u 0 (omega (arith, two_bytes)) ∙ b.name

  space_is : get_or line 1 0 ≡ code " "
  space_is = line_byte u 1 (omega (arith, two_bytes)) ∙ b.spaced

  no_comment : get_or line 0 0 ≢ code "c"
  no_comment z = let name = name_is in omega arith

  closed_said : {r : Line} → get_or line (length line - 1) 0 ≢ code " " → Says arc_form (parts_from 1 line) r → LineRead line r
  closed_said closed says = arc line (omega (arith, two_bytes, line_length u)) space_is no_comment closed name_is says

  unknown_said : Says arc_form (parts_from 1 line) Unknown → LineRead line Unknown
  unknown_said says = by (ℕ_discrete (get_or line (length line - 1) 0) (code " "))
    where
      by : Dec (get_or line (length line - 1) 0 ≡ code " ") → LineRead line Unknown
      by (yes z) = space_at_end line (omega (arith, two_bytes, line_length u)) no_comment z
      by (no z) = closed_said z says

  -- a part or a space after the last numeral
  more_said : (k : ℕ) → k < e → ((p : List ℕ) (ps : List (List ℕ)) → parts_from k line ≡ p ∷ ps → Says arc_form (parts_from 1 line) Unknown) → LineRead line Unknown
  more_said k h more = by (parts_from k line) refl
    where
      by : (ps : List (List ℕ)) → parts_from k line ≡ ps → LineRead line Unknown
      by (p ∷ ps) z = unknown_said (more p ps z)
      by [] z =
          let n : ℕ = length line - k - 1 in
          let l : k + suc n ≡ length line = omega (arith, line_length u) in
          let last : k + n ≡ length line - 1 = omega (arith, line_length u) in
          space_at_end line (omega (arith, two_bytes, line_length u)) no_comment (subst (λ (q : ℕ). get_or line q 0 ≡ code " ") last (only_spaces line n k l z))

  module _ {t : Option Number} (x : TakenFrom text 1 t) where
    first : Takes line 1 t
    first = x.takes e u (omega (arith, two_bytes))

    no_first : t ≡ None → LineRead line Unknown
    no_first z = unknown_said (arc_first first z)

    module _ {n : Number} {t' : Option Number} (is₁ : t ≡ Some n) (y : TakenFrom text n.end t') where
      second : Takes line n.end t'
      second = y.takes e u (omega (arith, (first.some n is₁).within, line_length u))

      no_second : t' ≡ None → LineRead line Unknown
      no_second z = unknown_said (arc_second first is₁ second z)

      module _ {n' : Number} {t'' : Option Number} (is₂ : t' ≡ Some n') (w : TakenFrom text n'.end t'') where
        third : Takes line n'.end t''
        third = w.takes e u (omega (arith, (second.some n' is₂).within, line_length u))

        no_third : t'' ≡ None → LineRead line Unknown
        no_third z = unknown_said (arc_third first is₁ second is₂ third z)

        module _ {n'' : Number} (is₃ : t'' ≡ Some n'') where
          third_within : n''.end ≤ e
          third_within = omega (arith, (third.some n'' is₃).within, line_length u)

          not_ended : n''.end < e → LineRead line Unknown
          not_ended h = more_said n''.end h (λ p ps z. arc_more first is₁ second is₂ third is₃ z)

          whole : n''.end ≡ e → LineRead line (Arc (record { from = n.value; to = n'.value; length = n''.value }))
          whole z =
              let last_one = third.some n'' is₃ in
              let last : n''.end - 1 ≡ length line - 1 = omega (arith, line_length u) in
              closed_said (λ s. last_one.closed (rw last s))
              (arc_whole first is₁ second is₂ third is₃ (ap (map bytes_of) (placed_end n''.end line (omega (arith, line_length u)))))

-- `arc_line`
module _ {text : List ℕ} (b : ArcBegins text) {t : Option Number} (x : TakenFrom text 1 t) where
  missing : {r : Option Said} → r ≡ None → ((e : ℕ) → Until (code "\n") 0 text e → LineRead (take e text) Unknown) → ArcSaid text r
  missing e read = record {
    some = λ said z. cc;
    none = λ z said s. record { ends = s.ends; says = subst (LineRead (take said.end text)) (sym s.line) (read said.end s.ends) };
  }

  pub first_missing : {r : Option Said} → t ≡ None → r ≡ None → ArcSaid text r
  first_missing z e = missing e (λ e u. no_first b u x z)

  module _ {n : Number} {t' : Option Number} (is₁ : t ≡ Some n) (y : TakenFrom text n.end t') where
    pub second_missing : {r : Option Said} → t' ≡ None → r ≡ None → ArcSaid text r
    second_missing z e = missing e (λ e u. no_second b u x is₁ y z)

    module _ {n' : Number} {t'' : Option Number} (is₂ : t' ≡ Some n') (w : TakenFrom text n'.end t'') where
      pub third_missing : {r : Option Said} → t'' ≡ None → r ≡ None → ArcSaid text r
      third_missing z e = missing e (λ e u. no_third b u x is₁ y is₂ w z)

      module _ {n'' : Number} {ended : Bool} (is₃ : t'' ≡ Some n'') (at : EndsAt text n''.end ended) where
        pub line_goes_on : not ended ≡ true → ArcSaid text None
        line_goes_on z = missing refl (λ e u. not_ended b u x is₁ y is₂ w is₃ (at.no (not-true ended z) _ u (third_within b u x is₁ y is₂ w is₃)))

        line_ends : not ended ≡ false → LineSaid text (record { line = Arc (record { from = n.value; to = n'.value; length = n''.value }); end = n''.end })
        line_ends z =
            let (e, (past, u)) = next-end (code "\n") 0 text (length text) 0 passed_none (omega arith) in
            let same : n''.end ≡ e = at.yes (not-false ended z) e u (third_within b u x is₁ y is₂ w is₃) in
            record { ends = rw same u; says = rw same (whole b u x is₁ y is₂ w is₃ same) }

        pub arc_whole_line : not ended ≡ false
            → ArcSaid text (Some (record { line = Arc (record { from = n.value; to = n'.value; length = n''.value }); end = n''.end }))
        arc_whole_line z = record {
          some = λ said e. let same : record { line = Arc (record { from = n.value; to = n'.value; length = n''.value }); end = n''.end } ≡ said = cc in subst (LineSaid text) same (line_ends z);
          none = λ e. cc;
        }

-- `read_line`
module _ {text : List ℕ} {told : Bool} (a : ArcTold text told) where
  pub arc_begins : told ≡ true → ArcBegins text
  arc_begins z = a.yes z

  module _ {e : ℕ} (u : Until (code "\n") 0 text e) where
    alone : Until (code "\n") 0 (take e text) (length (take e text))
    alone =
        until_here (code "\n") 0 (length (take e text)) (take e text) (omega arith) (omega arith)
        (λ q h k z. let i : q < e = omega (arith, line_length u) in u.free q h i (sym (line_byte u q i) ∙ z))
        (λ h. absurd (omega arith))

    pub lent_length : e ≡ length (take e text)
    lent_length = sym (line_length u)

    pub plain : told ≡ false → Plain (take e text)
    plain z = record {
      one = alone;
      no_arc = λ b.
          let l : length (take e text) ≡ e = line_length u in
          let two : 2 ≤ e = omega (arith, b.two) in
          a.no z (record {
            two = omega (arith, u.most);
            name = sym (line_byte u 0 (omega arith)) ∙ b.name;
            spaced = sym (line_byte u 1 (omega arith)) ∙ b.spaced;
          });
    }

pub plain_said : {text : List ℕ} {e : ℕ} {r : Line} → Until (code "\n") 0 text e → LineRead (take e text) r → LineSaid text (record { line = r; end = e })
plain_said u read = record { ends = u; says = read }
