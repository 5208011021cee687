-- The first bytes of a page that begins with a text are that text.
use Prim.Native.Nat.{ℕ, ◌≤◌}
use native.Mathlib.Omega.{arith}
use mathlib.Core.Path.{◌≡◌, sym, ap}
use mathlib.Core.List.{List, ◌++◌}
use lib.ListN.{length, take, length-append}
use lib.Seq.{length-take-le, take-append_seam}

module _ {n : ℕ} (text rest : List ℕ) {page : List ℕ} (outcome : n ≡ length text) (memory : page ≡ text ++ rest) where
  pub text_within : n ≤ length page
  text_within = omega (arith, length-append text rest, ap length memory)

  pub text_part : n ≡ length (take n page)
  text_part = sym (length-take-le n page text_within)

  pub text_whole : take n page ≡ text
  text_whole = rw (outcome, memory) (take-append_seam text rest)
