-- The steps of the search: none, one store, one after another.
use Prim.Native.Nat.{ℕ, ◌+◌, ◌≤◌, ◌<◌}
use native.Mathlib.Omega.{arith}
use native.Mathlib.Decide.{ℕ_discrete}
use mathlib.Core.Path.{◌≡◌, refl, sym, ap, ◌∙◌}
use mathlib.Core.List.{List}
use lib.ListN.{get_or, set, length-set}
use lib.Seq.{get_or-set_same, get_or-set_other}
use borrow.Author.Tests.{ne_eqb}
use Rattle.semiring.specs.Algebra.{product_of}
use Rattle.closure.specs.Table.{entries}
use Rattle.ways.specs.inner.Levels.{Step}
use Rattle.levels.specs.declared.backwards.Search.{Search}
use Rattle.levels.specs.declared.backwards.Mark.{Mark}
use Rattle.levels.specs.inner.Marks.{no_mark, level_of, next_of}
use Rattle.levels.specs.inner.Search.{link, closed_to, Keeps, JoinedIn, Standing, Grown, Seen, Visited}

-- What point v is given, seen from point u of level r.
abbrev pub given : ℕ → ℕ → Mark
given r u = record { level = r + 1; next = u }

module _ {q : Search} where
  pub grown_none : {r : ℕ} {marks : List Mark} → Standing q marks → Grown q r marks marks
  grown_none s = record {
    size = refl;
    certificate = s.certificate;
    kept = λ v h. refl;
    fresh = λ v h. refl;
  }

  pub grown_then : {r : ℕ} {l l' l'' : List Mark} → Grown q r l l' → Grown q r l' l''
      → Grown q r l l''
  grown_then {l} {l'} {l''} p q = record {
    size = q.size ∙ p.size;
    certificate = q.certificate;
    kept = λ v h.
        let e : level_of l' v ≡ level_of l v = p.kept v h in
        q.kept v (omega arith) ∙ e;
    fresh = λ v h.
        let e : level_of l'' v ≡ level_of l' v = q.fresh v h in
        e ∙ p.fresh v (omega arith);
  }

  pub grown_standing : {r : ℕ} {l l' : List Mark} → Standing q l → Grown q r l l' → Standing q l'
  grown_standing s g = record {
    lent = record {
      most = s.lent.most;
      inside = s.lent.inside;
      links = s.lent.links;
      closed = s.lent.closed;
      room = omega (arith, s.lent.room, g.size);
      few = omega (arith, s.lent.few, g.size);
    };
    certificate = g.certificate;
  }

  pub joined_still : {r : ℕ} {l l' : List Mark} (u : ℕ) → Grown q r l l' → JoinedIn q l u → JoinedIn q l' u
  joined_still {l} {l'} u g j v h k =
      let b : 1 ≤ level_of l v = j v h k in
      omega (arith, g.kept v b)

  -- One store: point v gets level r + 1 with successor u.
  module _ {r u v : ℕ} {marks : List Mark} (s : Seen q r u v marks) (v_none : level_of marks v ≡ 0)
      (keeps : Keeps q u v) where
    mark_same : get_or (set marks v (given r u)) v no_mark ≡ given r u
    mark_same = get_or-set_same marks v (given r u) no_mark (omega (arith, s.v_inside, s.met.standing.lent.room))

    mark_other : (y : ℕ) → (y ≡ v → ⊥) → get_or (set marks v (given r u)) y no_mark ≡ get_or marks y no_mark
    mark_other y f = get_or-set_other marks v y (given r u) no_mark f

    level_same : level_of (set marks v (given r u)) v ≡ r + 1
    level_same = ap (λ (m : Mark). m.level) mark_same

    next_same : next_of (set marks v (given r u)) v ≡ u
    next_same = ap (λ (m : Mark). m.next) mark_same

    level_kept : (y : ℕ) → (y ≡ v → ⊥) → level_of (set marks v (given r u)) y ≡ level_of marks y
    level_kept y f = ap (λ (m : Mark). m.level) (mark_other y f)

    next_kept : (y : ℕ) → (y ≡ v → ⊥) → next_of (set marks v (given r u)) y ≡ next_of marks y
    next_kept y f = ap (λ (m : Mark). m.next) (mark_other y f)

    level_other : (y : ℕ) → 1 ≤ level_of marks y → level_of (set marks v (given r u)) y ≡ level_of marks y
    level_other y h = level_kept y (λ e. let d = ap (λ (z : ℕ). level_of marks z) e in omega arith)

    u_still : level_of (set marks v (given r u)) u ≡ r
    u_still = level_other u (omega (arith, s.met.least, s.u_level)) ∙ s.u_level

    new_step : Step q.algebra q.size (link q) (closed_to q) (level_of (set marks v (given r u))) v u
    new_step = record {
      inside = s.met.u_inside;
      levelled = omega (arith, u_still, s.met.least);
      below = omega (arith, u_still, level_same);
      word = keeps;
    }

    old_step : (x : ℕ) → 1 ≤ level_of marks x
        → Step q.algebra q.size (link q) (closed_to q) (level_of marks) x (next_of marks x)
        → Step q.algebra q.size (link q) (closed_to q) (level_of (set marks v (given r u))) x (next_of marks x)
    old_step x h o = record {
      inside = o.inside;
      levelled = omega (arith, o.levelled, level_other (next_of marks x) o.levelled);
      below = omega (arith, o.below, level_other (next_of marks x) o.levelled, level_other x h);
      word = o.word;
    }

    falls : (x : ℕ) → x < q.size → 1 ≤ level_of (set marks v (given r u)) x → (x ≡ q.target → ⊥) → Dec (x ≡ v)
        → Step q.algebra q.size (link q) (closed_to q) (level_of (set marks v (given r u))) x (next_of (set marks v (given r u)) x)
    falls x h b f (yes e) = rw (e, next_same) new_step
    falls x h b f (no e) =
        let k : 1 ≤ level_of marks x = omega (arith, level_kept x e) in
        rw (next_kept x e) (old_step x k (s.met.standing.certificate.falls h k f))

    fresh_at : (x : ℕ) → level_of (set marks v (given r u)) x ≤ r → Dec (x ≡ v) → level_of (set marks v (given r u)) x ≡ level_of marks x
    fresh_at x h (yes e) = let q = ap (λ (z : ℕ). level_of (set marks v (given r u)) z) e in absurd (omega (arith, level_same))
    fresh_at x h (no e) = level_kept x e

    grown_one : Grown q r marks (set marks v (given r u))
    grown_one =
        let root = s.met.standing.certificate.target in
        record {
          size = length-set marks v (given r u);
          certificate = record {
            target = level_other q.target (omega (arith, root)) ∙ root;
            falls = λ {v = x} h b f. falls x h b f (ℕ_discrete x v);
          };
          kept = level_other;
          fresh = λ x h. fresh_at x h (ℕ_discrete x v);
        }

    pub stored : Visited q r u v marks (set marks v (given r u))
    stored = record { grown = grown_one; levelled = λ k. omega (arith, level_same) }

  -- Point v, seen from point u: it has a level already; its link does not keep its word; or it gets the next level.
  module _ {r u v : ℕ} {marks : List Mark} (s : Seen q r u v marks) where
    pub has_level : (level_of marks v ≡ 0 → ⊥) → Visited q r u v marks marks
    has_level f = record { grown = grown_none s.met.standing; levelled = λ k. omega arith }

    -- v has no level and u has one, so they are two points, and the link between them is as it was given
    link_given : level_of marks v ≡ 0 → link q v u ≡ entries q.size q.links.now v u
    link_given e =
        rw (ne_eqb v u (λ q. let d = ap (λ (z : ℕ). level_of marks z) q in omega (arith, s.met.least, s.u_level)))

    offered : {made : ℕ} → level_of marks v ≡ 0 → made ≡ product_of q.algebra (entries q.size q.links.now v u) (closed_to q u)
        → product_of q.algebra (link q v u) (closed_to q u) ≡ made
    offered e f = ap (λ (x : ℕ). product_of q.algebra x (closed_to q u)) (link_given e) ∙ sym f

    pub not_kept : (made : ℕ) → level_of marks v ≡ 0 → made ≡ product_of q.algebra (entries q.size q.links.now v u) (closed_to q u)
        → (closed_to q v ≡ made → ⊥) → Visited q r u v marks marks
    not_kept made e f other = record { grown = grown_none s.met.standing; levelled = λ k. absurd (other (k ∙ offered e f)) }

    pub joins : (made : ℕ) → level_of marks v ≡ 0 → made ≡ product_of q.algebra (entries q.size q.links.now v u) (closed_to q u)
        → closed_to q v ≡ made → Visited q r u v marks (set marks v (given r u))
    joins made e f same = stored s e (same ∙ sym (offered e f))
