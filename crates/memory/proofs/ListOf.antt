-- The list of a function's values: its length, its words, and that these two are all there is to it.
use Prim.Native.Nat.{ℕ, zero, suc, ◌<◌}
use native.Mathlib.Nat.{not-suc-le-zero, le_of_suc-le-suc}
use native.Mathlib.Omega.{arith}
use mathlib.Core.Path.{◌≡◌, refl, sym, ap, ◌∙◌}
use mathlib.Core.List.{List}
use lib.ListN.{length, get_or}
use lib.Seq.{ext_get_or}
use Rattle.memory.specs.Lists.{list_of}

pub length_list_of : (m : ℕ) (f : ℕ → ℕ) → length (list_of m f) ≡ m
unfolding list_of
length_list_of zero f = refl
length_list_of (suc m) f = ap suc (length_list_of m (λ p. f (suc p)))

pub get_d_list_of : (m : ℕ) (f : ℕ → ℕ) (p : ℕ) → p < m → get_or (list_of m f) p 0 ≡ f p
unfolding list_of
get_d_list_of zero f p h = absurd (not-suc-le-zero h)
get_d_list_of (suc m) f zero h = refl
get_d_list_of (suc m) f (suc p) h = get_d_list_of m (λ q. f (suc q)) p (le_of_suc-le-suc h)

pub is_list_of : (m : ℕ) (f : ℕ → ℕ) (l : List ℕ) → length l ≡ m → ((p : ℕ) → p < m → get_or l p 0 ≡ f p) → l ≡ list_of m f
is_list_of m f l size word =
    ext_get_or 0 l (list_of m f) (size ∙ sym (length_list_of m f))
    (λ p h. let k : p < m = omega arith in word p k ∙ sym (get_d_list_of m f p k))
