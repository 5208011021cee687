-- The loops of the search: every point seen from one point, every point of one level joined, level after level.
use Prim.Native.Nat.{ℕ, ◌+◌, ◌≤◌, ◌<◌}
use native.Mathlib.Omega.{arith}
use native.Mathlib.Decide.{ℕ_discrete}
use mathlib.Core.Path.{◌≡◌, sym, ◌∙◌}
use mathlib.Core.Logic.{inl, inr}
use mathlib.Core.List.{List}
use Rattle.levels.specs.declared.backwards.Search.{Search}
use Rattle.levels.specs.declared.backwards.Mark.{Mark}
use Rattle.levels.specs.inner.Marks.{level_of}
use Rattle.levels.specs.inner.Search.{Keeps, JoinedIn, Grown, Seen, Visited, Met, Linked, Searched, LevelDone, Ended}
use Rattle.levels.proofs.Searching.{grown_none, grown_then, grown_standing, joined_still}

-- `join`: the points below v were seen from u
pub record Linking (q : Search) (r u : ℕ) (marks marks' : List Mark) (v : ℕ) : Type 0 where
  pub grown : Grown q r marks marks'
  pub from_here : level_of marks u ≡ r
  pub most : v ≤ q.size
  pub sofar : (x : ℕ) → x < v → Keeps q u x → 1 ≤ level_of marks' x

module _ {q : Search} {r u : ℕ} {marks : List Mark} (m : Met q r u marks) where
  pub other_level : (level_of marks u ≡ r → ⊥) → Linked q r u marks marks
  other_level f = record { grown = grown_none m.standing; joined = λ e. absurd (f e) }

  pub link_begins : level_of marks u ≡ r → Linking q r u marks marks 0
  link_begins e = record { grown = grown_none m.standing; from_here = e; most = omega arith; sofar = λ x h. absurd (omega arith) }

  module _ {l' : List Mark} {v : ℕ} (k : Linking q r u marks l' v) where
    pub link_seen : v < q.size → Seen q r u v l'
    link_seen h = record {
      met = record { standing = grown_standing m.standing k.grown; least = m.least; most = m.most; u_inside = m.u_inside };
      v_inside = h;
      u_level = k.grown.kept u (omega (arith, m.least, k.from_here)) ∙ k.from_here;
    }

    pub link_goes_on : {l'' : List Mark} → v < q.size → Visited q r u v l' l'' → Linking q r u marks l'' (v + 1)
    link_goes_on {l''} b g = record {
      grown = grown_then k.grown g.grown;
      from_here = k.from_here;
      most = omega arith;
      sofar = λ x h e. at x h e (ℕ_discrete x v);
    }
      where
        at : (x : ℕ) → x < v + 1 → Keeps q u x → Dec (x ≡ v) → 1 ≤ level_of l'' x
        at x h e (yes q) = rw q (g.levelled (rw q at e))
        at x h e (no q) = let b : 1 ≤ level_of l' x = k.sofar x (omega arith) e in omega (arith, g.grown.kept x b)

    pub link_ends : q.size ≤ v → Linked q r u marks l'
    link_ends h = record { grown = k.grown; joined = λ e x b. k.sofar x (omega arith) }

-- `next_level`: the points of level r below u were joined
pub record LevelBegun (q : Search) (r : ℕ) (marks marks' : List Mark) (u : ℕ) : Type 0 where
  pub grown : Grown q r marks marks'
  pub most : u ≤ q.size
  pub sofar : (x : ℕ) → x < u → level_of marks' x ≡ r → JoinedIn q marks' x

module _ {q : Search} {r : ℕ} {marks : List Mark} (s : Searched q r marks) where
  pub level_begins : LevelBegun q r marks marks 0
  level_begins = record { grown = grown_none s.standing; most = omega arith; sofar = λ x h. absurd (omega arith) }

  module _ {l' : List Mark} {u : ℕ} (k : LevelBegun q r marks l' u) where
    pub level_met : r ≤ q.size → u < q.size → Met q r u l'
    level_met most h = record { standing = grown_standing s.standing k.grown; least = s.least; most = most; u_inside = h }

    pub level_goes_on : {l'' : List Mark} → u < q.size → Linked q r u l' l'' → LevelBegun q r marks l'' (u + 1)
    level_goes_on {l''} b g = record {
      grown = grown_then k.grown g.grown;
      most = omega arith;
      sofar = λ x h e. at x h (sym (g.grown.fresh x (omega arith)) ∙ e) (ℕ_discrete x u);
    }
      where
        at : (x : ℕ) → x < u + 1 → level_of l' x ≡ r → Dec (x ≡ u) → JoinedIn q l'' x
        at x h e (yes q) = rw q (g.joined (rw q at e))
        at x h e (no q) = joined_still x g.grown (k.sofar x (omega arith) e)

    pub level_ends : q.size ≤ u → LevelDone q r marks l'
    level_ends h = record {
      grown = k.grown;
      searched = record {
        standing = grown_standing s.standing k.grown;
        least = omega arith;
        joined = λ x b p q. at x b p q (ℕ_discrete (level_of l' x) r);
      };
    }
      where
        at : (x : ℕ) → x < q.size → 1 ≤ level_of l' x → level_of l' x < r + 1 → Dec (level_of l' x ≡ r) → JoinedIn q l' x
        at x b p q (yes e) = k.sofar x (omega arith) e
        at x b p q (no f) =
            let e : level_of l' x ≡ level_of marks x = k.grown.fresh x (omega arith) in
            joined_still x k.grown (s.joined x b (omega arith) (omega (arith, f)))

-- `reach`: `from` has a level, or no level is left
module _ {q : Search} {marks : List Mark} {r : ℕ} (k : Searched q r marks) where
  pub levels_reach : {from : ℕ} → (level_of marks from ≡ 0 → ⊥) → Ended q from marks
  levels_reach f = record { standing = k.standing; enough = inl (omega arith) }

  pub levels_end : {from : ℕ} → q.size < r → Ended q from marks
  levels_end h = record { standing = k.standing; enough = inr (λ u b p q. k.joined u b p (omega arith)) }
