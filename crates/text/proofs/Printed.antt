-- Texts printed one after another are their join printed at once.
use Prim.Native.Nat.{ℕ, suc, ◌+◌, ◌-◌, ◌<◌, ◌≤◌, min}
use native.Mathlib.Nat.{add-zero}
use native.Mathlib.Numerals.{add-one}
use native.Mathlib.Omega.{arith}
use native.Mathlib.Decide.{dec_lt}
use mathlib.Core.Path.{◌≡◌, refl, sym, ap, ◌∙◌}
use mathlib.Core.List.{List, [], ◌∷◌, ◌++◌}
use lib.ListN.{length, get_or, set, take, length-append}
use lib.Seq.{sets, length-sets, set_out, take-suc}
use Rattle.text.specs.Joined.{joined}
use Rattle.text.specs.Page.{overwritten}
use Rattle.text.proofs.Joined.{joined-none, joined_next}
use Rattle.text.specs.declared.page.Page.{Page}
use Rattle.text.specs.inner.Printed.{Printed}

sets_append : (l : List ℕ) (at : ℕ) (xs ys : List ℕ) → sets l at (xs ++ ys) ≡ sets (sets l at xs) (at + length xs) ys
sets_append l at [] ys = ap (λ (k : ℕ). sets l k ys) (sym (add-zero at))
sets_append l at (x ∷ xs) ys =
    let e : suc at + length xs ≡ at + length (x ∷ xs) = omega arith in
    sets_append (set l at x) (suc at) xs ys ∙ ap (λ (k : ℕ). sets (sets l at (x ∷ xs)) k ys) e

-- past the end nothing is stored
sets_out : (l : List ℕ) (at : ℕ) (xs : List ℕ) → length l ≤ at → sets l at xs ≡ l
sets_out l at [] h = refl
sets_out l at (x ∷ xs) h = rw (set_out l at x h) (sets_out l (suc at) xs (omega arith))

sets_cons : (b : ℕ) (l : List ℕ) (at : ℕ) (xs : List ℕ) → sets (b ∷ l) (suc at) xs ≡ b ∷ sets l at xs
sets_cons b l at [] = refl
sets_cons b l at (x ∷ xs) = sets_cons b (set l at x) (suc at) xs

sets_front : (l xs : List ℕ) → sets l 0 xs ≡ overwritten xs l
sets_front [] xs = sets_out [] 0 xs (omega arith) ∙ nothing xs
  where
    nothing : (xs : List ℕ) → [] ≡ overwritten xs []
    nothing [] = refl
    nothing (x ∷ xs) = refl
sets_front (b ∷ l) [] = refl
sets_front (b ∷ l) (x ∷ xs) = sets_cons x l 0 xs ∙ ap (λ (r : List ℕ). x ∷ r) (sets_front l xs)

pub printed_none : (p : Page) → Printed p [] p
printed_none p = record { same_bytes = refl; bytes = refl; size = refl; after = omega arith }

infixl 60 ◌then◌
pub ◌then◌ : {p q r : Page} {xs ys : List ℕ} → Printed p xs q → Printed q ys r → Printed p (xs ++ ys) r
◌then◌ {p} {q} {r} {xs} {ys} a b = record {
  same_bytes = b.same_bytes ∙ a.same_bytes;
  bytes = b.bytes ∙ ap (λ (l : List ℕ). sets l q.at ys) a.bytes ∙ stored p.bytes.now (dec_lt (length p.bytes.now) (p.at + length xs)) a.after ∙ sym (sets_append p.bytes.now p.at xs ys);
  size = b.size ∙ a.size;
  after = omega (arith, a.after, b.after, a.size, length-append xs ys);
}
  where
    stored : (l : List ℕ) → Dec (length l < p.at + length xs) → q.at ≡ p.at + min (length l - p.at) (length xs)
        → sets (sets l p.at xs) q.at ys ≡ sets (sets l p.at xs) (p.at + length xs) ys
    stored l (yes h) after =
        let long = length-sets l p.at xs in
        sets_out (sets l p.at xs) q.at ys (omega arith) ∙ sym (sets_out (sets l p.at xs) (p.at + length xs) ys (omega arith))
    stored l (no h) after = let e : q.at ≡ p.at + length xs = omega arith in ap (λ (i : ℕ). sets (sets l p.at xs) i ys) e

-- the same text in other words
pub printed_as : {p q : Page} {xs ys : List ℕ} → Printed p xs q → xs ≡ ys → Printed p ys q
printed_as d e = rw (← e) d

-- a byte more of a text, or a text more of several
pub printed_byte : {p q r : Page} (text : List ℕ) (i : ℕ) → Printed p (take i text) q → i < length text
    → Printed q (get_or text i 0 ∷ []) r → Printed p (take (i + 1) text) r
printed_byte text i d h e = printed_as (d then e) (rw (add-one i) (sym (take-suc text i 0 h)))

pub printed_next : {p q r : Page} (f : ℕ → List ℕ) (i : ℕ) → Printed p (joined i f) q → Printed q (f i) r → Printed p (joined (i + 1) f) r
printed_next f i d e = printed_as (d then e) (joined_next i f)

pub printed_no_more : (p : Page) (f : ℕ → List ℕ) → Printed p (joined 0 f) p
printed_no_more p f = printed_as (printed_none p) (sym (joined-none f))

-- from the page's first byte on
pub printed_page : {p q : Page} {xs : List ℕ} → Printed p xs q → p.at ≡ 0 → q.bytes.now ≡ overwritten xs p.bytes.now
printed_page {p} {q} {xs} d e = d.bytes ∙ ap (λ (i : ℕ). sets p.bytes.now i xs) e ∙ sets_front p.bytes.now xs
