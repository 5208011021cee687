-- What an accepted text leaves: the words read, then zeros.
use Prim.Native.Nat.{ℕ, zero, suc, ◌<◌}
use native.Mathlib.Omega.{arith}
use mathlib.Core.Path.{◌≡◌, refl, sym, ap, ◌∙◌}
use mathlib.Core.List.{List, [], ◌∷◌}
use lib.ListN.{length, get_or}
use Rattle.job_form.specs.Buffer.{padded}
use Rattle.job_reading.specs.Reading.{Reading, refused, accepted, reading_of, algebras_in, sizes_in, weights_in, given, answer_of}
use Rattle.job_reading.specs.claims.Given.{Holds, GivenBy, ReadGiven}

padded_size : (n : ℕ) (ws : List ℕ) → length (padded n ws) ≡ n
padded_size zero ws = refl
padded_size (suc n) [] = ap suc (padded_size n [])
padded_size (suc n) (w ∷ ws) = ap suc (padded_size n ws)

padded_each : (n : ℕ) (ws : List ℕ) (p : ℕ) → p < n → get_or (padded n ws) p 0 ≡ get_or ws p 0
padded_each zero ws p h = absurd (omega arith)
padded_each (suc n) [] zero h = refl
padded_each (suc n) [] (suc p) h = padded_each n [] p (omega arith)
padded_each (suc n) (w ∷ ws) zero h = refl
padded_each (suc n) (w ∷ ws) (suc p) h = padded_each n ws p (omega arith)

holds : (n : ℕ) (ws buffer : List ℕ) → buffer ≡ padded n ws → Holds n ws buffer
holds n ws buffer e = record {
  size = ap length e ∙ padded_size n ws;
  each = λ p h. ap (λ (b : List ℕ). get_or b p 0) e ∙ padded_each n ws p h;
}

-- By what the reading is.
by : (l m n : ℕ) (text : List ℕ) (order jobs : ℕ) (algebras sizes weights : List ℕ) (reading : Reading) → reading_of l m n text ≡ reading
    → given order jobs ≡ answer_of reading → algebras ≡ padded l (algebras_in reading) → sizes ≡ padded m (sizes_in reading)
    → weights ≡ padded n (weights_in reading) → GivenBy l m n text order jobs algebras sizes weights
by l m n text order jobs algebras sizes weights (refused why) is e a s w = let z : ◌≡◌ {A = ℕ} 0 1 = cc in absurd (omega arith)
by l m n text order jobs algebras sizes weights (accepted o as' ss ws) is e a s w =
    let same : order ≡ o = cc in
    let many : jobs ≡ length ss = cc in
    record {
      algebras_read = as';
      sizes_read = ss;
      weights_read = ws;
      is = is ∙ ap (λ (x : ℕ). accepted x as' ss ws) (sym same);
      many = many;
      algebras_given = holds l as' algebras a;
      sizes_given = holds m ss sizes s;
      weights_given = holds n ws weights w;
    }

pub read_given : ReadGiven
read_given l m n text order jobs algebras sizes weights h =
    by l m n text order jobs algebras sizes weights (reading_of l m n text) refl h.outcome h.algebras_left h.sizes_left h.weights_left
