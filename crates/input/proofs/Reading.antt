-- The walk over the reads: what holds after each, and what all come to.
use Rattle.std.proofs.Common.{ℕ, zero, suc, ◌+◌, ◌-◌, ◌<◌, ◌≤◌, ◌≡◌, ◌≢◌, refl, sym, ap, subst, ◌∙◌, List, [], ◌∷◌, ◌++◌, Option, None, Some, length, take, arith}
use Rattle.std.proofs.lemmas.List.{length-take-le, take-append-le}
use Rattle.std.proofs.Math.Seq.{take-append-add}
use Rattle.std.proofs.KnownBytes.{Consumes-trans}
use Rattle.std.specs.Io.KnownBytes.{Consumes}
use borrow.Rule.Slice.PartMut.{put_mid, post_of}
use lib.IntN.{ℤ, pos, negsuc}
use Rattle.input.specs.declared.Input.{Input}
use Rattle.input.specs.declared.Input.TheVariants.{Ended, Full}
use Rattle.input.specs.Reads.{Reads, full, failed, ended, on, ReadInto}

-- `at` bytes were read, and whatever the reads to come give, all of them give
pub record Reaching (room at : ℕ) : Type 0 where
  pub within : at ≤ room
  pub back : (answers : List ℤ) (r : Option Input) → Reads room at answers r → ReadInto room r

pub reaching_none : (room : ℕ) → Reaching room 0
reaching_none room = record { within = omega arith; back = λ answers r h. record { answers = answers; reads = h } }

module _ {room at : ℕ} (r : Reaching room at) where
  pub reaching_on : (n : ℕ) → n ≢ 0 → at + n ≤ room → Reaching room (at + n)
  reaching_on zero some h = absurd (some refl)
  reaching_on (suc n) some h = record { within = h; back = λ answers x g. r.back (pos (suc n) ∷ answers) x (on h g) }

  pub reading_failed : at < room → ReadInto room None
  reading_failed h = r.back (negsuc 0 ∷ []) None (failed h)

  pub reading_ended : at < room → ReadInto room (Some (Ended at))
  reading_ended h = r.back (pos 0 ∷ []) (Some (Ended at)) (ended h)

  pub reading_full : room ≤ at → ReadInto room (Some Full)
  reading_full h = r.back [] (Some Full) (full h)

-- the bytes before a part, and the first that were read into it
front_joined : (at n room : ℕ) (text part : List ℕ) → at ≤ length text → n ≤ length part → take at text ++ take n part ≡ take (at + n) (put_mid at room text part)
front_joined at n room text part h k =
    let front = take at text in
    let all = part ++ post_of at room text in
    let long : length front ≡ at = length-take-le at text h in
    ap (λ l. front ++ l) (sym (take-append-le n part (post_of at room text) k))
    ∙ sym (take-append-add front all n)
    ∙ ap (λ m. take (m + n) (front ++ all)) long

-- the bytes so far, after a read of n into the part
pub bytes_on : (before between after : Option (List ℕ)) (text part : List ℕ) (at n room : ℕ) → at ≤ length text → n ≤ length part
    → Consumes before between (take at text) → Consumes between after (take n part) → Consumes before after (take (at + n) (put_mid at room text part))
bytes_on before between after text part at n room h k bytes given =
    subst (Consumes before after) (front_joined at n room text part h k) (Consumes-trans before between after _ _ bytes given)
