-- States of blocks have few names: those at entries, along edges, and where nothing is known.
use Rattle.std.proofs.Common.{◌≡◌, ℕ, ◌+◌, ◌*◌, ◌≤◌, List, [], ◌∷◌, length, reverse, Option, Some, None, refl, subst, arith}
use Rattle.std.specs.Option.{ForSome}
use Rattle.std.proofs.lemmas.Option.{none-some, same_Some}
use Rattle.cil_model.specs.Calls.{clauses_in_force}
use Rattle.cil_model.specs.Clauses.{clauses_of}
use Rattle.cil_model.specs.Limits.{MAX_VARIABLES}
use Rattle.cil_model.specs.Shapes.{shape_of}
use Rattle.cil_model.specs.declared.clause.ClauseKind.TheVariants.{Requires}
use Rattle.cil_model.specs.declared.place.Kind.{Kind}
use Rattle.cil_model.specs.declared.place.Kind.TheVariants as kinds
use Rattle.cil_model.specs.declared.place.Place.{Place}
use Rattle.cil_model.specs.declared.place.Place.TheVariants as places
use Rattle.cil_model.specs.declared.unit.Unit.{Unit as MethodUnit}
use Rattle.frame_names.specs.declared.var.Var.TheVariants as vars
use Rattle.merged_states.specs.Laws.Sizes.{normal_few}
use Rattle.state_facts.proofs.NameCounts.{push_few, push_unknown_address_few, push_unknown_few, push_within_few}
use Rattle.state_facts.specs.Sizes.{HasFewNames, IsSmall}
use Rattle.state_facts.specs.StateFacts.{StateFacts, State}
use Rattle.transfer_rules.specs.Entry.{begun, entry, no_variables, required, with_unknown}
use Rattle.transfer_rules.specs.Flow.{Fits, along_edge, through}
use Rattle.transfer_rules.specs.Forms.{FitsStack, kinds_over}
use Rattle.transfer_rules.specs.Unknown.{lengths, push_of_kind, unknown, unknown_over, with_stack}
use Rattle.transfer_rules.specs.Laws.CalledForms.{fit_long, over_long}
use Rattle.transfer_rules.specs.Laws.StackSizes.{within_stack}
use Rattle.unit_flow.specs.Flow.{IsLawful, block_instrs, edge_at, kinds_at, start_of}
use Rattle.unit_flow.specs.declared.unit_flow.UnitFlow.{UnitFlow}

-- ---- in normal form

pub entry_few : (unit : MethodUnit) → ForSome (entry unit) HasFewNames
unfolding entry
entry_few unit = normal_few (required (clauses_of Requires (clauses_in_force unit)) (begun unit))

pub along_few : (a : State) (code : UnitFlow) (edge : ℕ) → ForSome (along_edge a code edge) HasFewNames
unfolding along_edge
along_few a code edge =
    normal_few (through code.unit (edge_at code edge).number (block_instrs code (edge_at code edge).from) a)

-- ---- where nothing is known

types_few : (types : List Place) (state : State) → ForSome state HasFewNames
    → ForSome (with_unknown types state) HasFewNames
types_few [] state few = few
types_few (place ∷ types) state few = types_few types _ (push_unknown_few place state few)

kind_few : (kind : Kind) (state : State) → ForSome state HasFewNames → ForSome (push_of_kind kind state) HasFewNames
kind_few kinds.Int state few = push_unknown_few places.Int state few
kind_few kinds.Native state few = push_within_few lengths state few
kind_few kinds.Ints state few = push_unknown_few places.Ints state few
kind_few kinds.Bools state few = push_unknown_few places.Bools state few
kind_few kinds.NullRef state few = push_few (vars.Reference 0) state few
kind_few kinds.Text state few = push_few vars.Text state few
kind_few kinds.AddrInts state few = push_unknown_address_few places.Ints state few
kind_few kinds.AddrBools state few = push_unknown_address_few places.Bools state few

stack_few : (stack : List Kind) (state : State) → ForSome state HasFewNames
    → ForSome (with_stack stack state) HasFewNames
stack_few [] state few = few
stack_few (kind ∷ stack) state few = stack_few stack _ (kind_few kind state few)

none_few : ForSome (Some no_variables) HasFewNames
none_few =
    λ x is. subst HasFewNames (same_Some no_variables x is)
    (record { references = omega arith; symbols = omega arith })

over_few : (unit : MethodUnit) (at : Option (List Kind)) → ForSome (unknown_over unit at) HasFewNames
over_few unit None = λ x is. absurd (none-some x is)
over_few unit (Some stack) =
    stack_few (reverse stack) _
    (types_few unit.locals _ (types_few unit.args _ (types_few unit.args (Some no_variables) none_few)))

pub unknown_few : (code : UnitFlow) (block : ℕ) → ForSome (unknown code block) HasFewNames
unfolding unknown
unknown_few code block = over_few code.unit (kinds_at code block)

-- ---- variables are few

few_fit : (unit : MethodUnit) (at : Option (List Kind)) (state : State)
    → ((stack : List Kind) → at ≡ Some stack → length unit.args + length unit.locals + length stack ≤ MAX_VARIABLES)
    → FitsStack unit at state → ForSome state (λ known. length known.variables ≤ 2 * MAX_VARIABLES)
few_fit unit at None few fits = λ x is. absurd (none-some x is)
few_fit unit None (Some known) few fits = absurd fits
few_fit unit (Some stack) (Some known) few has =
    λ x is. subst (λ (it : StateFacts). length it.variables ≤ 2 * MAX_VARIABLES) (same_Some known x is)
    (omega (
      arith,
      few stack refl,
      fit_long known (kinds_over unit stack) known.variables has.fit,
      over_long unit stack,
    ))

variables_few : (code : UnitFlow) (block : ℕ) (state : State) → IsLawful code → Fits code block state
    → ForSome state (λ known. length known.variables ≤ 2 * MAX_VARIABLES)
variables_few code block state lawful fits =
    let unit = code.unit in
    few_fit unit (kinds_at code block) state
    (λ stack is. omega (
      arith,
      lawful.formed.limits.variables,
      within_stack (shape_of unit) unit.instrs code.kinds (start_of code block) stack lawful.kinds is,
    ))
    fits

small_known : (known : StateFacts) → length known.variables ≤ 2 * MAX_VARIABLES → HasFewNames known → IsSmall known
small_known known most few = record {
  variables = omega (arith, most);
  references = omega (arith, most, few.references);
  symbols = omega (arith, most, few.references, few.symbols);
}

-- A state of a block that has few names is small.
pub fitting_small : (code : UnitFlow) (block : ℕ) (state : State) → IsLawful code → Fits code block state
    → ForSome state HasFewNames → ForSome state IsSmall
fitting_small code block state lawful fits few =
    λ x is. small_known x (variables_few code block state lawful fits x is) (few x is)
