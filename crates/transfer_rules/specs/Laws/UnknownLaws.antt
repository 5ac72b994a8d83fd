-- The state of a block about which nothing is known fits the block.
use Rattle.std.proofs.Common.{◌≡◌, ◌≢◌, ℕ, pos, List, [], ◌∷◌, ◌++◌, map, Option, Some, None, refl, sym, subst, append-nil, append_assoc, arith}
use Rattle.std.specs.Prelude.{reverse}
use Rattle.std.specs.Option.{option_and_then, option_map}
use Rattle.cil_model.specs.Kinds.{address_kind}
use Rattle.cil_model.specs.WellFormed.{HoldValues}
use Rattle.cil_model.specs.declared.place.Kind.{Kind}
use Rattle.cil_model.specs.declared.place.Kind.TheVariants as kinds
use Rattle.cil_model.specs.declared.place.Place.{Place}
use Rattle.cil_model.specs.declared.place.Place.TheVariants as places
use Rattle.cil_model.specs.declared.unit.Unit.{Unit as MethodUnit}
use Rattle.alias_facts.specs.PairsOf.{Pair}
use Rattle.frame_names.specs.declared.var.Var.TheVariants as vars
use Rattle.number_facts.specs.Fresh.{Made, fresh}
use Rattle.state_facts.proofs.Growing.{Formed}
use Rattle.state_facts.proofs.UnknownAddresses.{unknown_address_form}
use Rattle.state_facts.proofs.UnknownValues.{unknown_form, within_form}
use Rattle.state_facts.specs.Calls.{returned, with_returned}
use Rattle.state_facts.specs.Forms.{HasForm, IsArrayPlace}
use Rattle.state_facts.specs.StateFacts.{StateFacts, State}
use Rattle.state_facts.specs.UnknownValues as rule
use Rattle.state_facts.specs.UnknownValues.{addressed, push_unknown, push_unknown_address, push_within, with_index, with_within}
use Rattle.transfer_rules.specs.Entry.{no_variables, with_unknown}
use Rattle.transfer_rules.specs.Flow.{Fits}
use Rattle.transfer_rules.specs.Forms.{FitsStack, HasKinds, kind_in}
use Rattle.transfer_rules.specs.Laws.Fitting.{AreKinds, has_pushed, over_stack}
use Rattle.transfer_rules.specs.Laws.FittingResults.{GivesNumber, address_more, array_more, made_number, number_more, some_number}
use Rattle.transfer_rules.specs.Unknown.{lengths, push_of_kind, unknown, unknown_over, with_stack}
use Rattle.unit_flow.specs.Flow.{IsLawful, kinds_at}
use Rattle.unit_flow.specs.declared.unit_flow.UnitFlow.{UnitFlow}

-- ---- one value

each_array : (ks : List Kind) (apart : List Pair) (place : Place) (known : StateFacts) (o : Option Made)
    → HasKinds ks known → IsArrayPlace place
    → Formed (option_map (returned apart place known) o)
    → AreKinds (ks ++ kind_in place ∷ []) (option_map (returned apart place known) o)
each_array ks apart place known None has array form = tt
each_array ks apart place known (Some made) has array form =
    array_more ks place known (returned apart place known made) has form array
    (record { reference = _; variables = refl; references = refl; place_is = refl })

each_address : (ks : List Kind) (k : Kind) (place : Place) (known : StateFacts) (made : Made) (o : Option Made)
    → HasKinds ks known → IsArrayPlace place → address_kind place ≡ Some k
    → Formed (option_map (addressed known (returned known.apart place known made)) o)
    → AreKinds (ks ++ k ∷ []) (option_map (addressed known (returned known.apart place known made)) o)
each_address ks k place known made None has array is form = tt
each_address ks k place known made (Some index) has array is form =
    address_more ks k place index.expr known (addressed known (returned known.apart place known made) index) has form
    array is (record { reference = _; variables = refl; references = refl; place_is = refl })

with_address : (ks : List Kind) (k : Kind) (place : Place) (known : StateFacts) (o : Option Made) → HasKinds ks known
    → IsArrayPlace place → address_kind place ≡ Some k
    → Formed (option_and_then (with_index known) (option_map (returned known.apart place known) o))
    → AreKinds (ks ++ k ∷ []) (option_and_then (with_index known) (option_map (returned known.apart place known) o))
with_address ks k place known None has array is form = tt
with_address ks k place known (Some made) has array is form =
    each_address ks k place known made
    (fresh (returned known.apart place known made).facts (pos 0) (pos 2147483647) None []) has array is form

address_unknown : (ks : List Kind) (k : Kind) (place : Place) (known : StateFacts) → HasKinds ks known
    → IsArrayPlace place → address_kind place ≡ Some k → Formed (rule.with_unknown_address place known)
    → AreKinds (ks ++ k ∷ []) (rule.with_unknown_address place known)
unfolding rule.with_unknown_address with_returned
address_unknown ks k place known has array is form =
    with_address ks k place known (fresh known.facts (pos 0) (pos 2147483647) None []) has array is form

address_kept : (ks : List Kind) (k : Kind) (place : Place) (state : State) → IsArrayPlace place
    → address_kind place ≡ Some k → AreKinds ks state → AreKinds (ks ++ k ∷ []) (push_unknown_address place state)
address_kept ks k place None array is are = tt
address_kept ks k place (Some known) array is has =
    address_unknown ks k place known has array is (unknown_address_form place known has.form array)

array_unknown : (ks : List Kind) (place : Place) (known : StateFacts) → HasKinds ks known → IsArrayPlace place
    → Formed (with_returned known.apart place known)
    → AreKinds (ks ++ kind_in place ∷ []) (with_returned known.apart place known)
unfolding with_returned
array_unknown ks place known has array form =
    each_array ks known.apart place known (fresh known.facts (pos 0) (pos 2147483647) None []) has array form

one_unknown : (ks : List Kind) (place : Place) (known : StateFacts) → place ≢ places.Void → HasKinds ks known
    → Formed (rule.with_unknown place known)
    → AreKinds (ks ++ kind_in place ∷ []) (rule.with_unknown place known)
unfolding rule.with_unknown
one_unknown ks places.Void known is has form = absurd (is refl)
one_unknown ks places.Bool known is has form = number_more ks kinds.Int known _ refl has form (some_number _ _ known)
one_unknown ks places.Int known is has form = number_more ks kinds.Int known _ refl has form (some_number _ _ known)
one_unknown ks places.Bools known is has form = array_unknown ks places.Bools known has tt form
one_unknown ks places.Ints known is has form = array_unknown ks places.Ints known has tt form

pub unknown_kept : (ks : List Kind) (place : Place) (state : State) → place ≢ places.Void → AreKinds ks state
    → AreKinds (ks ++ kind_in place ∷ []) (push_unknown place state)
unknown_kept ks place None is are = tt
unknown_kept ks place (Some known) is has = one_unknown ks place known is has (unknown_form place known has.form)

within_number : (known : StateFacts) → GivesNumber known (with_within lengths known)
unfolding with_within
within_number known = made_number known _

within_kept : (ks : List Kind) (state : State) → AreKinds ks state
    → AreKinds (ks ++ kinds.Native ∷ []) (push_within lengths state)
within_kept ks None are = tt
within_kept ks (Some known) has =
    number_more ks kinds.Native known (with_within lengths known) refl has (within_form lengths known has.form)
    (within_number known)

-- ---- values of types, and a stack

pub types_kept : (types : List Place) (ks : List Kind) (state : State) → HoldValues types → AreKinds ks state
    → AreKinds (ks ++ map kind_in types) (with_unknown types state)
types_kept [] ks state hold are = subst (λ l. AreKinds l state) (sym (append-nil ks)) are
types_kept (place ∷ types) ks state hold are =
    subst (λ l. AreKinds l (with_unknown types (push_unknown place state)))
    (append_assoc ks (kind_in place ∷ []) (map kind_in types))
    (types_kept types (ks ++ kind_in place ∷ []) (push_unknown place state) hold.1
    (unknown_kept ks place state hold.0 are))

kind_kept : (kind : Kind) (ks : List Kind) (state : State) → AreKinds ks state
    → AreKinds (ks ++ kind ∷ []) (push_of_kind kind state)
kind_kept kinds.Int ks state are = unknown_kept ks places.Int state (λ is. cc) are
kind_kept kinds.Native ks state are = within_kept ks state are
kind_kept kinds.Ints ks state are = unknown_kept ks places.Ints state (λ is. cc) are
kind_kept kinds.Bools ks state are = unknown_kept ks places.Bools state (λ is. cc) are
kind_kept kinds.NullRef ks None are = tt
kind_kept kinds.NullRef ks (Some known) has =
    has_pushed ks kinds.NullRef (vars.Reference 0) known has (omega arith) refl
kind_kept kinds.Text ks None are = tt
kind_kept kinds.Text ks (Some known) has = has_pushed ks kinds.Text vars.Text known has tt tt
kind_kept kinds.AddrInts ks state are = address_kept ks kinds.AddrInts places.Ints state tt refl are
kind_kept kinds.AddrBools ks state are = address_kept ks kinds.AddrBools places.Bools state tt refl are

stack_kept : (stack : List Kind) (ks : List Kind) (state : State) → AreKinds ks state
    → AreKinds (ks ++ stack) (with_stack stack state)
stack_kept [] ks state are = subst (λ l. AreKinds l state) (sym (append-nil ks)) are
stack_kept (kind ∷ stack) ks state are =
    subst (λ l. AreKinds l (with_stack stack (push_of_kind kind state))) (append_assoc ks (kind ∷ []) stack)
    (stack_kept stack (ks ++ kind ∷ []) (push_of_kind kind state) (kind_kept kind ks state are))

-- ---- blocks

pub nothing_known : HasForm no_variables
nothing_known = record {
  narrow = tt;
  named = record { bounds = tt; definitions = tt };
  rising = (tt, tt);
  tests = tt;
  variables = tt;
  references = tt;
  pairs = tt;
  contents = tt;
}

pub no_kinds : HasKinds [] no_variables
no_kinds = record { form = nothing_known; fit = tt }

pub unknown_over_fits : (unit : MethodUnit) (at : Option (List Kind)) → HoldValues unit.args → HoldValues unit.locals
    → FitsStack unit at (unknown_over unit at)
unknown_over_fits unit None args locals = tt
unknown_over_fits unit (Some stack) args locals =
    let first = types_kept unit.args [] (Some no_variables) args no_kinds in
    let second = types_kept unit.args (map kind_in unit.args) (with_unknown unit.args (Some no_variables)) args first in
    let third =
    types_kept unit.locals (map kind_in unit.args ++ map kind_in unit.args)
    (with_unknown unit.args (with_unknown unit.args (Some no_variables)))
    locals second in
    over_stack unit stack (unknown_over unit (Some stack))
    (stack_kept (reverse stack) (map kind_in unit.args ++ map kind_in unit.args ++ map kind_in unit.locals)
    (with_unknown unit.locals (with_unknown unit.args (with_unknown unit.args (Some no_variables)))) third)

pub unknown_fits : (code : UnitFlow) (block : ℕ) → IsLawful code → Fits code block (unknown code block)
unfolding unknown
unknown_fits code block lawful =
    unknown_over_fits code.unit (kinds_at code block) lawful.formed.args lawful.formed.locals
