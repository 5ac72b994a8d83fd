-- A point to which a run comes has come along edges to the start of a block, and from there by the instructions of the
-- block.
use Rattle.std.proofs.Common.{◌≡◌, ◌⊎◌, ℕ, zero, suc, ◌+◌, ◌<◌, ◌≤◌, false, List, [], ◌∷◌, length, slice_get, Some, refl, sym, ap, subst, ◌∙◌, arith, inl, inr}
use Rattle.std.specs.List.{AllByRecursion}
use Rattle.std.proofs.lemmas.Bool.{false≢true}
use Rattle.cil_model.specs.Blocks.{branch_targets, is_block_start}
use Rattle.cil_model.specs.Calls.{entry_frame}
use Rattle.cil_model.specs.FitKinds.{FrameFits, HasCode, TypedCodeSteps}
use Rattle.cil_model.specs.Passes.{successors}
use Rattle.cil_model.specs.Runs.{LocalRuns, LocalStep, MayBegin, StepsTo, entry_config, instr_at}
use Rattle.cil_model.specs.Shapes.{shape_of}
use Rattle.cil_model.specs.Values.{Heap}
use Rattle.cil_model.specs.declared.instruction.Instr.{Instr}
use Rattle.cil_model.specs.declared.machine.Config.{Config}
use Rattle.cil_model.specs.declared.machine.Config.TheVariants as configs
use Rattle.cil_model.specs.declared.machine.FaultKind.{FaultKind}
use Rattle.cil_model.specs.declared.machine.Value.{Value}
use Rattle.cil_model.specs.declared.unit.Unit.{Unit as MethodUnit}
use Rattle.cil_model.proofs.KindsSettle.{found_at, reached_begins}
use Rattle.cil_model.proofs.Lists.{of_found}
use Rattle.cil_model.proofs.StepsKeep.{KeepsFrame, local_step_keeps}
use Rattle.cil_model.proofs.TypedCode.{typed_code_steps}
use Rattle.flow_graph.proofs.Items.{of_place}
use Rattle.flow_graph.proofs.StepsGo.{step_goes}
use Rattle.flow_graph.proofs.Successors.{all_successors, only_next}
use Rattle.machine_points.specs.Points.{IsReached, lives_at, point}
use Rattle.machine_points.specs.declared.point.Point.{Point}
use Rattle.machine_points.proofs.PointsKeep.{entry_point}
use Rattle.unit_flow.specs.Chains.{IsChain, IsPassed, Leads}
use Rattle.unit_flow.specs.Flow.{GoesAlong, GoesThrough, IsLawful, Steps, block_instrs, edge_at, start_of}
use Rattle.unit_flow.specs.Runs.{ComesTo, RunsGoAlong}
use Rattle.unit_flow.specs.Ways.{way_of}
use Rattle.unit_flow.specs.declared.unit_flow.UnitFlow.{UnitFlow}
use Rattle.unit_flow.proofs.BlockChains.{IsStartOf, block_chain, block_starts_there}
use Rattle.unit_flow.proofs.KindsAlong.{makes}
use Rattle.unit_flow.proofs.LawfulCode as laws
use Rattle.unit_flow.proofs.WayLaws.{takes_way}

-- ---- through a block

-- Nothing was done yet.
pub record IsThere (is rest : List Instr) (p q : Point) : Type 0 where
  pub rest_is : rest ≡ is
  pub point_is : q ≡ p

-- From before these instructions a point goes on by the first of them, to before the rest.
abbrev pub Passes : MethodUnit → List Instr → Point → List Instr → Point → Type 0
Passes unit [] p rest q = IsThere [] rest p q
Passes unit (i ∷ is) p rest q =
    IsThere (i ∷ is) rest p q ⊎ ((mid : Point) × Steps unit i p mid × Passes unit is mid rest q)

there : (is : List Instr) (p : Point) → IsThere is is p p
there is p = record { rest_is = refl; point_is = refl }

passes_none : (unit : MethodUnit) (is : List Instr) (p : Point) → Passes unit is p is p
passes_none unit [] p = there [] p
passes_none unit (i ∷ is) p = inl (there (i ∷ is) p)

same_first : (i j : Instr) (is js : List Instr) → i ∷ is ≡ j ∷ js → i ≡ j
same_first i j is js same = cc

same_rest : (i j : Instr) (is js : List Instr) → i ∷ is ≡ j ∷ js → is ≡ js
same_rest i j is js same = cc

none_first : (i : Instr) (is : List Instr) → i ∷ is ≡ [] → ⊥
none_first i is same = cc

steps_from : (unit : MethodUnit) (i k : Instr) (p q new : Point) → i ≡ k → q ≡ p → Steps unit i q new
    → Steps unit k p new
steps_from unit i k p q new same is step =
    subst (λ (x : Instr). Steps unit x p new) same (subst (λ (x : Point). Steps unit i x new) is step)

passes_more : (unit : MethodUnit) (is : List Instr) (p : Point) (i j : Instr) (rest : List Instr) (q new : Point)
    → Passes unit is p (i ∷ j ∷ rest) q → Steps unit i q new → Passes unit is p (j ∷ rest) new
passes_more unit [] p i j rest q new is_there step = absurd (none_first i (j ∷ rest) is_there.rest_is)
passes_more unit (k ∷ is) p i j rest q new (inl is_there) step = inr (
  new,
  steps_from unit i k p q new (same_first i k (j ∷ rest) is is_there.rest_is) is_there.point_is step,
  subst (λ (js : List Instr). Passes unit js new (j ∷ rest) new) (same_rest i k (j ∷ rest) is is_there.rest_is)
      (passes_none unit (j ∷ rest) new),
)
passes_more unit (k ∷ is) p i j rest q new (inr (mid, first, more)) step =
    inr (mid, first, passes_more unit is mid i j rest q new more step)

passes_all : (unit : MethodUnit) (number : ℕ) (is : List Instr) (p : Point) (i : Instr) (q new : Point)
    → Passes unit is p (i ∷ []) q → Steps unit i q new → way_of i.op q.frame.stack ≡ number
    → GoesThrough unit number is p new
passes_all unit number [] p i q new is_there step way = absurd (none_first i [] is_there.rest_is)
passes_all unit number (k ∷ []) p i q new (inl is_there) step way =
    let same : i ≡ k = same_first i k [] [] is_there.rest_is in (
      steps_from unit i k p q new same is_there.point_is step,
      subst (λ (x : Instr). way_of x.op p.frame.stack ≡ number) same
          (subst (λ (x : Point). way_of i.op x.frame.stack ≡ number) is_there.point_is way),
    )
passes_all unit number (k ∷ []) p i q new (inr (mid, first, is_there)) step way =
    absurd (none_first i [] is_there.rest_is)
passes_all unit number (k ∷ l ∷ is) p i q new (inl is_there) step way =
    absurd (none_first l is (sym (same_rest i k [] (l ∷ is) is_there.rest_is)))
passes_all unit number (k ∷ l ∷ is) p i q new (inr (mid, first, more)) step way =
    (mid, first, passes_all unit number (l ∷ is) mid i q new more step way)

-- ---- steps stay in the body

-- A point in the unit's body, whose stack fits the kinds there.
pub record IsInBody (code : UnitFlow) (p : Point) : Type 0 where
  pub fits : FrameFits code.unit code.kinds p.heap p.frame
  pub inside : code.unit.body_start ≤ p.frame.at

-- The point came along so many edges to the start of a block, and from there to before the rest of the block. It is
-- there still, or where no block starts.
pub record IsOnItsWay (code : UnitFlow) (p : Point) : Type 0 where
  pub block : ℕ
  pub below : block < length code.graph.blocks
  pub count : ℕ
  pub first : Point
  pub here : first.frame.at ≡ start_of code block
  pub came : ComesTo code count block first
  pub rest : List Instr
  pub passes : Passes code.unit (block_instrs code block) first rest p
  pub chain : IsChain code.unit code.graph block p.frame.at rest
  pub still : (p ≡ first) ⊎ (is_block_start code.unit p.frame.at ≡ false)

module _ (code : UnitFlow) (lawful : IsLawful code) where
  abbrev unit : MethodUnit
  unit = code.unit

  abbrev pub typed : TypedCodeSteps (shape_of unit) unit.instrs code.kinds
  typed = typed_code_steps (shape_of unit) unit.instrs code.kinds (laws.decoded code lawful) lawful.kinds

  abbrev pub itself : HasCode (shape_of unit) unit.instrs unit
  itself = record { shape_is = refl; instrs_are = refl }

  -- At the start of a block.
  starts : (block count : ℕ) (p : Point) → block < length code.graph.blocks → p.frame.at ≡ start_of code block
      → ComesTo code count block p → IsOnItsWay code p
  starts block count p below here came = record {
    block = block;
    below = below;
    count = count;
    first = p;
    here = here;
    came = came;
    rest = block_instrs code block;
    passes = passes_none unit (block_instrs code block) p;
    chain =
        subst (λ (at : ℕ). IsChain unit code.graph block at (block_instrs code block)) (sym here)
        (block_chain code lawful block below);
    still = inl refl;
  }

  enters : (index : ℕ) (args : List Value) (heap : Heap) → MayBegin unit args heap
      → IsOnItsWay code (point (entry_frame unit index args heap) heap)
  enters index args heap begins =
      starts 0 0 (point (entry_frame unit index args heap) heap) (laws.has_block code lawful)
      (sym (laws.first_start code lawful))
      (record { index = index; args = args; heap = heap; may = begins; is = refl }, refl)

  module _ (p q : Point) (in_body : IsInBody code p) (on : IsInBody code q)
      (step : LocalStep unit (lives_at p) (lives_at q)) where
    by_it : (i : Instr) → i.at ≡ p.frame.at → instr_at unit.instrs i.at ≡ Some i → Steps unit i p q
    by_it i here found = record {
      of = record { heap = in_body.fits.heap_is; frame = in_body.fits.frame };
      to = subst (λ (at : ℕ). instr_at unit.instrs at ≡ Some i) here found;
      goes = step;
    }

    -- From the last instruction of a block it goes along an edge.
    leaves : (way : IsOnItsWay code p) (i : Instr) → Passes unit (block_instrs code way.block) way.first (i ∷ []) p
        → IsChain unit code.graph way.block p.frame.at (i ∷ []) → IsOnItsWay code q
    unfolding by_it
    leaves way i passes last =
        let by = by_it i last.here last.found in
        let n = way_of i.op p.frame.stack in
        let goes = takes_way unit i p q by in
        let begins = reached_begins unit.instrs code.kinds q.frame.at on.fits.kinds on.fits.before in
        let edge : Leads code.graph way.block n q.frame.at = last.leads n q.frame.at begins.0 goes on.inside begins.1 in
        let k = edge.edge in
        let through = passes_all unit n (block_instrs code way.block) way.first i p q passes by refl in
        let along : GoesAlong code k way.first q =
        subst (λ (b : ℕ). GoesThrough unit (edge_at code k).number (block_instrs code b) way.first q) (sym edge.from)
        (subst (λ (m : ℕ). GoesThrough unit m (block_instrs code way.block) way.first q) (sym edge.number) through) in
        let before : ComesTo code way.count (edge_at code k).from way.first =
        subst (λ (b : ℕ). ComesTo code way.count b way.first) (sym edge.from) way.came in
        starts (edge_at code k).to (suc way.count) q (laws.joins code lawful k edge.below).to (sym edge.to)
        (k, edge.below, refl, (way.first, before, along))

    -- From another it goes to the next one.
    goes_within : (way : IsOnItsWay code p) (i j : Instr) (is : List Instr)
        → Passes unit (block_instrs code way.block) way.first (i ∷ j ∷ is) p
        → IsChain unit code.graph way.block p.frame.at (i ∷ j ∷ is) → IsOnItsWay code q
    unfolding by_it
    goes_within way i j is passes chain =
        let passed : IsPassed unit p.frame.at i = chain.0.passed in
        let by = by_it i passed.here passed.found in
        let next : q.frame.at ≡ i.at + i.size = only_next (i.at + i.size) (way_of i.op p.frame.stack) q.frame.at
        (subst (λ (ats : List ℕ). slice_get ats (way_of i.op p.frame.stack) ≡ Some q.frame.at) passed.next
        (takes_way unit i p q by)) in
        record {
          block = way.block;
          below = way.below;
          count = way.count;
          first = way.first;
          here = way.here;
          came = way.came;
          rest = j ∷ is;
          passes = passes_more unit (block_instrs code way.block) way.first i j is p q passes by;
          chain = subst (λ (at : ℕ). IsChain unit code.graph way.block at (j ∷ is)) (sym next) chain.1;
          still = inr (subst (λ (at : ℕ). is_block_start unit at ≡ false) (sym next) chain.0.inner);
        }

    goes_on : IsOnItsWay code p → IsOnItsWay code q
    goes_on way = by way.rest way.passes way.chain
      where
        by : (rest : List Instr) → Passes unit (block_instrs code way.block) way.first rest p
            → IsChain unit code.graph way.block p.frame.at rest → IsOnItsWay code q
        by [] passes chain = elim chain [ ]
        by (i ∷ []) passes chain = leaves way i passes chain
        by (i ∷ j ∷ is) passes chain = goes_within way i j is passes chain

  stays : (p q : Point) → IsInBody code p → LocalStep unit (lives_at p) (lives_at q) → IsInBody code q
  stays p q in_body step =
      let f = p.frame in
      let i = step.0 in
      let here = found_at unit.instrs f.at i step.1 in
      let inside = in_body.inside in
      let targets =
      of_found (λ j. unit.body_start ≤ j.at → AllByRecursion (λ at. unit.body_start ≤ at)
      (branch_targets j.op)) unit.instrs f.at i (laws.lawful_body code lawful).inside step.1
      (omega (arith, here, inside)) in
      let goes = step_goes unit i f q.frame p.heap q.heap step step.1 in
      record {
        fits = typed.kept unit f q.frame p.heap q.heap itself in_body.fits step;
        inside = of_place (λ at. unit.body_start ≤ at) (successors i.op (i.at + i.size)) goes.0 q.frame.at
            (all_successors (λ at. unit.body_start ≤ at) i.op (i.at + i.size) targets (omega (arith, here, inside)))
            goes.1;
      }

  -- ---- runs

  -- A point in the body that is on its way, or an end.
  abbrev IsFine : Config → Type 0
  IsFine (configs.Live (f ∷ []) heap) = IsInBody code (point f heap) × IsOnItsWay code (point f heap)
  IsFine (configs.Live _ heap) = ⊥
  IsFine _ = Unit {0}

  steps_on : (p : Point) (new : Config) → IsInBody code p → IsOnItsWay code p → LocalStep unit (lives_at p) new
      → KeepsFrame unit p.frame p.heap new → IsFine new
  steps_on p (configs.Live (g ∷ []) after) in_body way step kept =
      let on = stays p (point g after) in_body step in (on, goes_on p (point g after) in_body on step way)
  steps_on p (configs.Live [] after) in_body way step kept = absurd kept
  steps_on p (configs.Live (g ∷ h ∷ frames) after) in_body way step kept = absurd kept
  steps_on p _ in_body way step kept = tt

  fine_step : (c new : Config) → IsFine c → LocalStep unit c new → IsFine new
  fine_step (configs.Live (f ∷ []) heap) new (in_body, way) step =
      steps_on (point f heap) new in_body way step
      (local_step_keeps unit f heap in_body.fits.heap_is in_body.fits.frame new (makes code lawful) step)
  fine_step (configs.Live [] heap) new fine step = absurd fine
  fine_step (configs.Live (f ∷ g ∷ frames) heap) new fine step = absurd fine
  fine_step _ new fine step = absurd step

  fine_steps : (start : Config) (n : ℕ) (c : Config) → IsFine start → StepsTo (LocalStep unit) start n c → IsFine c
  fine_steps start zero c fine same = subst IsFine (sym same) fine
  fine_steps start (suc n) c fine (mid, steps, step) = fine_step mid c (fine_steps start n mid fine steps) step

  fine_entry : (index : ℕ) (args : List Value) (heap : Heap) → MayBegin unit args heap
      → IsFine (entry_config unit index args heap)
  fine_entry index args heap begins =
      let of = entry_point unit index args heap lawful.formed.locals begins in (
        record {
          fits = record {
            heap_is = of.heap;
            frame = of.frame;
            kinds = [];
            before = (laws.lawful_body code lawful).empty;
            fit = tt;
          };
          inside = omega arith;
        },
        enters index args heap begins,
      )

  -- Each point of a run is on its way.
  pub run_comes : (p : Point) → IsReached unit p → IsInBody code p × IsOnItsWay code p
  run_comes p reached =
      fine_steps (entry_config unit reached.index reached.args reached.heap) reached.count (lives_at p)
      (fine_entry reached.index reached.args reached.heap reached.runs.begins) reached.runs.steps

  -- A step to a fault, of a point to which a run comes.
  pub record StepsToFault (kind : FaultKind) (index at : ℕ) : Type 0 where
    pub before : Point
    pub in_body : IsInBody code before
    pub way : IsOnItsWay code before
    pub step : LocalStep unit (lives_at before) (configs.Fault kind index at)

  fault_step : (c : Config) (kind : FaultKind) (index at : ℕ) → IsFine c
      → LocalStep unit c (configs.Fault kind index at) → StepsToFault kind index at
  fault_step (configs.Live (f ∷ []) heap) kind index at (in_body, way) step =
      record { before = point f heap; in_body = in_body; way = way; step = step }
  fault_step (configs.Live [] heap) kind index at fine step = absurd fine
  fault_step (configs.Live (f ∷ g ∷ frames) heap) kind index at fine step = absurd fine
  fault_step _ kind index at fine step = absurd step

  -- A run that ends in a fault.
  pub run_faults : (start : ℕ) (args : List Value) (heap : Heap) (n : ℕ) (kind : FaultKind) (index at : ℕ)
      → LocalRuns unit start args heap n (configs.Fault kind index at)
      → StepsToFault kind index at
  run_faults start args heap n kind index at runs = by n runs.steps
    where
      by : (m : ℕ) → StepsTo (LocalStep unit) (entry_config unit start args heap) m (configs.Fault kind index at)
          → StepsToFault kind index at
      by zero same = absurd (cc)
      by (suc m) (mid, steps, step) =
          fault_step mid kind index at (fine_steps (entry_config unit start args heap) m mid
          (fine_entry start args heap runs.begins) steps) step

  -- ---- starts of blocks

  comes_there : (block : ℕ) (p : Point) → block < length code.graph.blocks → p.frame.at ≡ start_of code block
      → IsOnItsWay code p → (n : ℕ) × ComesTo code n block p
  comes_there block p below here way =
      let start : IsStartOf code block (start_of code block) = block_starts_there code lawful block below in
      elim way.still [
        | inl same ↦
            let at_start : start_of code way.block ≡ start_of code block =
            sym way.here ∙ (ap (λ (r : Point). r.frame.at) (sym same) ∙ here) in
            let block_is : way.block ≡ block = start.alone way.block way.below at_start in (
              way.count,
              subst (λ (b : ℕ). ComesTo code way.count b p) block_is
                  (subst (λ (r : Point). ComesTo code way.count way.block r) (sym same) way.came),
            )
        | inr inner ↦ absurd (false≢true (sym inner ∙ (ap (is_block_start unit) here ∙ start.marked)))
      ]

pub runs_go_along : (code : UnitFlow) → IsLawful code → RunsGoAlong code
runs_go_along code lawful =
    λ block p comes. comes_there code lawful block p comes.below comes.here (run_comes code lawful p comes.reached).1
