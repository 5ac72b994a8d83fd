-- The states where a unit's analysis settles are small.
use Rattle.std.proofs.Common.{ℕ, suc, ◌<◌, ◌^◌, List, [], ◌∷◌, length, map, get_or, None, arith}
use Rattle.std.specs.List.{AllByRecursion}
use Rattle.std.specs.Option.{ForSome}
use Rattle.std.proofs.lemmas.List.{length-map}
use Rattle.std.proofs.lemmas.Option.{none-some}
use Rattle.flow_graph.proofs.GraphFacts.{blocks_counted}
use Rattle.merged_states.specs.Laws.Sizes.{join_few, widen_few}
use Rattle.state_facts.specs.Sizes.{AreSmall, HasFewNames, IsSmall}
use Rattle.transfer_rules.proofs.NameCounts.{along_few, entry_few, fitting_small, unknown_few}
use Rattle.transfer_rules.specs.Flow.{Fits}
use Rattle.transfer_rules.specs.Laws.FlowLaws as flows
use Rattle.transfer_rules.specs.Laws.FormsMerged as merged
use Rattle.transfer_rules.specs.Laws.UnknownLaws as unknowns
use Rattle.transfer_rules.specs.declared.unit_state.UnitState.{UnitState}
use Rattle.unit_flow.specs.Flow.{IsLawful, kinds_at}
use Rattle.unit_flow.specs.declared.unit_flow.UnitFlow.{UnitFlow}
use Rattle.widening_engine.specs.Limits.{limit_of, unit_flow}
use Rattle.widening_engine.specs.Rounds.{limit}
use Rattle.widening_engine.proofs.EdgeSteps.{Keeps}
use Rattle.widening_engine.proofs.Limiting.{limit_fits}

-- The state fits the block, and has few names.
abbrev IsFew : UnitFlow → ℕ → UnitState → Type 0
IsFew code block a = Fits code block a.state × ForSome a.state HasFewNames

all_few : (code : UnitFlow) → IsLawful code → Keeps (unit_flow code) (IsFew code)
all_few code lawful = record {
  source_below = λ edge below. flows.source_below code edge lawful below;
  target_below = λ edge below. flows.target_below code edge lawful below;
  along = λ edge a below is. (
    flows.along_fits code edge a.state lawful below is.0,
    along_few a.state code edge,
  );
  join = λ block a b first second. (
    merged.join_fits code.unit (kinds_at code block) a.state b.state first.0 second.0,
    join_few a.state b.state first.1 second.1,
  );
  widen = λ block a b first second. (
    merged.widen_fits code.unit (kinds_at code block) a.state b.state first.0 second.0,
    widen_few a.state b.state first.1 second.1,
  );
  entry = (flows.entry_fits code lawful, entry_few code.unit);
  nothing = λ block below. (tt, λ x is. absurd (none-some x is));
  unknown = λ block below. (unknowns.unknown_fits code block lawful, unknown_few code block);
}

each_of : {S X : Type 0} (P : X → Type 0) (f : S → X) (other : S) (xs : List S)
    → ((i : ℕ) → i < length xs → P (f (get_or xs i other))) → AllByRecursion P (map f xs)
each_of P f other [] all = tt
each_of P f other (x ∷ xs) all =
    (all 0 (omega arith), each_of P f other xs (λ i below. all (suc i) (omega (arith, below))))

few_blocks : (code : UnitFlow) → IsLawful code → length code.graph.blocks < 2 ^ 16
few_blocks code lawful =
    rw lawful.graph (omega (arith, blocks_counted code.unit, lawful.formed.limits.blocks))

pub limit_small : (code : UnitFlow) → IsLawful code → AreSmall (limit_of code)
unfolding limit_of
limit_small code lawful =
    let states : List UnitState = limit (unit_flow code) in
    let few = limit_fits (unit_flow code) (IsFew code) (all_few code lawful) in record {
      count = omega (arith, length-map states (λ a. a.state), few.count, few_blocks code lawful);
      each = each_of (λ state. ForSome state IsSmall) (λ a. a.state) (record { state = None }) states
          (λ block below.
          let is = few.fit block (omega (arith, below, few.count)) in
          fitting_small code block _ lawful is.0 is.1);
    }
