-- A tick from its three calls, and ticks one after the other, of an array that is ready: `Ready` names the jobs and the memories.
use Prim.Native.Nat.{ℕ, ◌+◌, ◌-◌, ◌*◌, ◌≤◌, ◌<◌}
use native.Mathlib.Omega.{arith}
use mathlib.Core.Path.{◌≡◌, refl, sym, ap, ◌∙◌}
use mathlib.Core.List.{List}
use lib.ListN.{length}
use Rattle.job_list.specs.Jobs.{Jobs, jobs_of}
use Rattle.job_list.proofs.Fits.{fits_small, words_most}
use Rattle.systolic.specs.Cell.{Planes}
use Rattle.systolic.specs.Tick.{Array, planes_after, emitted_rows, ticked, ticks}
use Rattle.systolic.proofs.Ticks.{ticks_add}
use Rattle.turns.specs.Turn.{step_of}
use Rattle.turns.specs.Layout.{planes_in}
use Rattle.stage.specs.declared.jobs.Job.{Job}
use Rattle.stage.specs.declared.stage.Stage.{Stage}
use Rattle.stage.specs.Found.{AlgebraIn, Found}
use Rattle.stage.specs.Staged.{Staged}
use Rattle.feeding.specs.Filled.{Filling, Filled}
use Rattle.ticks.specs.Swept.{Held, Edged, Made}
use Rattle.emission.specs.Sent.{Emitting}
use Rattle.ticks.specs.Ready.{array_of, Ready}
use Rattle.ticks.proofs.Edged.{edged}
use Rattle.ticks.proofs.Lent.{held_planes, made_planes}

module _ {J : Jobs} {last : ℕ} {edges planes results : List ℕ} (ready : Ready J last edges planes results) where
  -- The array stays ready as long as its memories keep their lengths.
  pub ready_again : {last' : ℕ} {edges' planes' results' : List ℕ} → last' ≤ last → length edges' ≡ length edges
      → length planes' ≡ length planes → length results' ≡ length results → Ready J last' edges' planes' results'
  ready_again h e f g = record {
    list = ready.list;
    weights_fit = ready.weights_fit;
    edges_fit = e ∙ ready.edges_fit;
    planes_fit = f ∙ ready.planes_fit;
    results_fit = g ∙ ready.results_fit;
    ticks = omega (arith, ready.ticks);
  }

-- The calls of a tick.
module _ {algebras : List ℕ} {n : ℕ} {sizes weights : List ℕ} {s : Stage} {edges planes results : List ℕ}
    (ready : Ready (jobs_of algebras n sizes weights) (s.tick + 1) edges planes results) (stage : Staged n s.tick algebras sizes s) where
  pub tick_fills : {pass : ℕ} {job : Job} {edges' planes' : List ℕ} → Found algebras sizes pass job → length edges' ≡ length edges → length planes' ≡ length planes
      → Filling n s.head job weights planes' edges'
  tick_fills found same same' = record {
    least = stage.head.least;
    most = stage.head.most;
    below = stage.head.below;
    early = omega (arith, stage.head.early);
    end = found.end;
    within = omega (arith, found.within, ready.weights_fit);
    few = omega (arith, ready.weights_fit, words_most (fits_small ready.list));
    planes_fit = same' ∙ ready.planes_fit;
    room = omega (arith, ready.edges_fit);
  }

  pub tick_emits : {pass : ℕ} {job : Job} {planes' : List ℕ} → Found algebras sizes pass job → length planes' ≡ length planes → Emitting n s.head job planes' results
  tick_emits found same = record {
    least = stage.head.least;
    most = stage.head.most;
    below = stage.head.below;
    early = stage.head.early;
    end = found.end;
    within = omega (arith, found.within, ready.results_fit);
    few = omega (arith, ready.results_fit, words_most (fits_small ready.list));
    planes_fit = same ∙ ready.planes_fit;
  }

  -- the edges filled, the cells swept, and what leaves read off them
  pub tick_done : {edges' planes' results' : List ℕ} → length planes' ≡ length planes
      → Filled n s.head s.front weights planes edges'
      → ((algebras' sizes' weights' : List ℕ) (t : ℕ) (r : Planes) → length sizes' ≡ length sizes → step_of n s.head ≡ t + 4 * n
      → AlgebraIn algebras' sizes' s.head.pass s.front.algebra → AlgebraIn algebras' sizes' (s.head.pass - 1) s.middle.algebra
      → Held (jobs_of algebras' n sizes' weights') r planes → Edged (jobs_of algebras' n sizes' weights') t r edges'
      → Made (jobs_of algebras' n sizes' weights') t r planes')
      → ((algebras' sizes' weights' : List ℕ) (t : ℕ) → step_of n s.head ≡ t + 4 * n → Found algebras' sizes' (s.head.pass - 2) s.back
      → results' ≡ emitted_rows (jobs_of algebras' n sizes' weights') t (planes_in n planes') n results)
      → array_of n planes' results' ≡ ticked (jobs_of algebras n sizes weights) s.tick (array_of n planes results)
  unfolding ticked
  tick_done {edges'} {planes'} {results'} same filled sweeps emits =
      let J : Jobs = jobs_of algebras n sizes weights in
      let t : ℕ = s.tick in
      let held : Held J (planes_in n planes) planes = held_planes J planes ready.planes_fit in
      let ins : Edged J t (planes_in n planes) edges' = edged algebras sizes weights t stage.head.below stage.step stage.front held filled in
      let cells : Made J t (planes_in n planes) planes' =
      sweeps algebras sizes weights t (planes_in n planes) refl stage.step stage.front.algebra stage.middle.algebra held ins in
      let made : planes_in n planes' ≡ planes_after J t (planes_in n planes) =
      made_planes J t (planes_in n planes) planes' (same ∙ ready.planes_fit) cells in
      let wrote = emits algebras sizes weights t stage.step stage.back ∙ ap (λ (p : Planes). emitted_rows J t p n results) made in
      λ x. record { planes = made x; results = wrote x }

-- The loop of the ticks from `from` on to `to`: those before t are made.
pub record Making (J : Jobs) (from to t : ℕ) (planes₀ results₀ edges planes results : List ℕ) : Type 0 where
  pub first : from ≤ t
  pub most : t ≤ to
  pub ready : Ready J to edges planes results
  pub array : array_of J.order planes results ≡ ticks J from (t - from) (array_of J.order planes₀ results₀)

ticks_none : (J : Jobs) (t : ℕ) (x : Array) → ticks J t 0 x ≡ x
unfolding ticks
ticks_none J t x = refl

ticks_single : (J : Jobs) (t : ℕ) (x : Array) → ticks J t 1 x ≡ ticked J t x
unfolding ticks
ticks_single J t x = refl

pub begins : {J : Jobs} {from to : ℕ} {edges planes results : List ℕ} → Ready J to edges planes results → from ≤ to
    → Making J from to from planes results edges planes results
begins {J} {from} {planes} {results} ready order =
    let e : from - from ≡ 0 = omega arith in
    record {
      first = omega arith;
      most = order;
      ready = ready;
      array = rw e (sym (ticks_none J from (array_of J.order planes results)));
    }

module _ {J : Jobs} {from to t : ℕ} {planes₀ results₀ edges planes results : List ℕ} (c : Making J from to t planes₀ results₀ edges planes results) where
  pub ends : to ≤ t → array_of J.order planes results ≡ ticks J from (to - from) (array_of J.order planes₀ results₀)
  ends last = let e : t ≡ to = omega (arith, c.most) in rw e at c.array

  module _ (more : t < to) where
    pub goes_on : {n : ℕ} {algebras sizes : List ℕ} {s : Stage} {edges' planes' results' : List ℕ} → Staged n t algebras sizes s
        → length edges' ≡ length edges → length planes' ≡ length planes → length results' ≡ length results
        → array_of J.order planes' results' ≡ ticked J s.tick (array_of J.order planes results)
        → Making J from to (t + 1) planes₀ results₀ edges' planes' results'
    goes_on stage e f g made =
        let d : from + (t - from) ≡ t = omega (arith, c.first) in
        let d' : t + 1 - from ≡ t - from + 1 = omega (arith, c.first) in
        record {
          first = omega (arith, c.first);
          most = omega arith;
          ready = ready_again c.ready (omega arith) e f g;
          array =
              made
              ∙ ap (λ (x : ℕ). ticked J x (array_of J.order planes results)) stage.tick
              ∙ ap (ticked J t) c.array
              ∙ sym (ticks_single J t (ticks J from (t - from) (array_of J.order planes₀ results₀)))
              ∙ ap (λ (x : ℕ). ticks J x 1 (ticks J from (t - from) (array_of J.order planes₀ results₀))) (sym d)
              ∙ sym (ticks_add J from (t - from) 1 (array_of J.order planes₀ results₀))
              ∙ ap (λ (x : ℕ). ticks J from x (array_of J.order planes₀ results₀)) (sym d');
        }
