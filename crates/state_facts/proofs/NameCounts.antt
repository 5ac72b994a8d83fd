-- A value of which little is known comes with few names: where a state has few, it has few after it.
use Rattle.std.proofs.Common.{◌≡◌, ◌+◌, ◌≤◌, ℤ, pos, int_eq, List, [], ◌∷◌, length, Option, Some, None, refl, subst, arith, length-append}
use Rattle.std.specs.Int.{int_max, int_min}
use Rattle.std.specs.Option.{ForSome, option_and_then, option_map}
use Rattle.std.proofs.lemmas.Bool.{cond_both}
use Rattle.std.proofs.lemmas.Option.{none-some, same_Some}
use Rattle.alias_facts.specs.PairsOf.{Pair}
use Rattle.cil_model.specs.Arithmetic.{LEAST, GREATEST}
use Rattle.cil_model.specs.declared.place.Place.{Place}
use Rattle.cil_model.specs.declared.place.Place.TheVariants as places
use Rattle.frame_names.specs.declared.var.Var.{Var}
use Rattle.frame_names.specs.declared.var.Var.TheVariants as vars
use Rattle.interval_domain.specs.Interval.{Interval}
use Rattle.number_facts.specs.Facts.{Facts}
use Rattle.number_facts.specs.Fresh.{Made, fresh, noted}
use Rattle.number_spans.specs.Stored.{range_without}
use Rattle.number_spans.specs.declared.span.Span.{Span}
use Rattle.state_facts.specs.Calls.{returned, with_returned}
use Rattle.state_facts.specs.Moves.{on_top, pushed, with_number}
use Rattle.state_facts.specs.Sizes.{HasFewNames}
use Rattle.state_facts.specs.StateFacts.{StateFacts, State}
use Rattle.state_facts.specs.States.{push}
use Rattle.state_facts.specs.UnknownValues.{addressed, push_unknown, push_unknown_address, push_within, with_index, with_unknown, with_unknown_address, with_within}

-- ---- a number that is made

-- It has a symbol of its own at most.
abbrev HasOneMore : Facts → Made → Type 0
HasOneMore facts made = length made.facts.ranges ≤ length facts.ranges + 1

noted_count : (facts : Facts) (r : Interval) → HasOneMore facts (noted facts r [])
unfolding noted
noted_count facts r =
    cond_both (int_eq r.lo r.hi) _ _ (HasOneMore facts) (λ e. omega arith)
    (λ e. omega (arith, length-append facts.ranges (r ∷ [])))

fresh_count : (facts : Facts) (lo hi : ℤ) (hole : Option ℤ) (made : Made) → fresh facts lo hi hole [] ≡ Some made
    → HasOneMore facts made
unfolding fresh
fresh_count facts lo hi hole made is = by (range_without (int_max lo LEAST) (int_min hi GREATEST) hole) is
  where
    by : (found : Option Interval) → option_map (λ r. noted facts r []) found ≡ Some made → HasOneMore facts made
    by None same = absurd (none-some made same)
    by (Some r) same = subst (HasOneMore facts) (same_Some (noted facts r []) made same) (noted_count facts r)

-- What is made with such a number.
module _ (P : StateFacts → Type 0) (facts : Facts) (make : Made → StateFacts)
    (so : (made : Made) → HasOneMore facts made → P (make made)) where
  each_made : (found : Option Made) → ((made : Made) → found ≡ Some made → HasOneMore facts made)
      → ForSome (option_map make found) P
  each_made None more = λ x is. absurd (none-some x is)
  each_made (Some made) more = λ x is. subst P (same_Some (make made) x is) (so made (more made refl))

  with_made : (lo hi : ℤ) (hole : Option ℤ) → ForSome (option_map make (fresh facts lo hi hole [])) P
  with_made lo hi hole = each_made (fresh facts lo hi hole []) (λ made is. fresh_count facts lo hi hole made is)

-- ---- what comes on top

pushed_few : (known : StateFacts) (v : Var) → HasFewNames known → HasFewNames (pushed known v)
pushed_few known v few =
    let size = length-append known.variables (v ∷ []) in record {
      references = omega (arith, few.references, size);
      symbols = omega (arith, few.symbols, size);
    }

on_top_few : (known : StateFacts) → HasFewNames known → (made : Made) → HasOneMore known.facts made
    → HasFewNames (on_top known made)
on_top_few known few made more =
    let size = length-append known.variables (vars.Number made.expr ∷ []) in record {
      references = omega (arith, few.references, size);
      symbols = omega (arith, few.symbols, more, size);
    }

number_few : (known : StateFacts) (lo hi : ℤ) → HasFewNames known → ForSome (with_number lo hi known) HasFewNames
unfolding with_number
number_few known lo hi few = with_made HasFewNames known.facts (on_top known) (on_top_few known few) lo hi None

within_few : (r : Span) (known : StateFacts) → HasFewNames known → ForSome (with_within r known) HasFewNames
unfolding with_within
within_few r known few = with_made HasFewNames known.facts (on_top known) (on_top_few known few) r.lo r.hi r.hole

-- ---- an array of which little is known

-- A variable, a reference and a symbol more.
record IsReturned (known later : StateFacts) : Type 0 where
  variables : length later.variables ≡ length known.variables + 1
  references : length later.references ≡ length known.references + 1
  symbols : length later.facts.ranges ≤ length known.facts.ranges + 1

is_returned : (apart : List Pair) (place : Place) (known : StateFacts) (made : Made) → HasOneMore known.facts made
    → IsReturned known (returned apart place known made)
is_returned apart place known made more = record {
  variables = length-append known.variables _;
  references = length-append known.references _;
  symbols = more;
}

each_returned : (apart : List Pair) (place : Place) (known : StateFacts)
    → ForSome (with_returned apart place known) (IsReturned known)
unfolding with_returned
each_returned apart place known =
    with_made (IsReturned known) known.facts (returned apart place known) (is_returned apart place known) (pos 0) (pos 2147483647) None

returned_few : (known later : StateFacts) → HasFewNames known → IsReturned known later → HasFewNames later
returned_few known later few is = record {
  references = omega (arith, few.references, is.variables, is.references);
  symbols = omega (arith, few.symbols, is.variables, is.references, is.symbols);
}

array_few : (apart : List Pair) (place : Place) (known : StateFacts) → HasFewNames known
    → ForSome (with_returned apart place known) HasFewNames
array_few apart place known few =
    λ later is. returned_few known later few (each_returned apart place known later is)

unknown_few : (place : Place) (known : StateFacts) → HasFewNames known → ForSome (with_unknown place known) HasFewNames
unfolding with_unknown
unknown_few places.Void known few = λ x is. subst HasFewNames (same_Some known x is) few
unknown_few places.Bool known few = number_few known (pos 0) (pos 255) few
unknown_few places.Int known few = number_few known LEAST GREATEST few
unknown_few places.Bools known few = array_few known.apart places.Bools known few
unknown_few places.Ints known few = array_few known.apart places.Ints known few

addressed_few : (known later : StateFacts) → HasFewNames known → IsReturned known later → (made : Made)
    → HasOneMore later.facts made → HasFewNames (addressed known later made)
addressed_few known later few is made more =
    let size = length-append known.variables (vars.Address (length known.references + 1) made.expr ∷ []) in record {
      references = omega (arith, few.references, is.references, size);
      symbols = omega (arith, few.symbols, is.references, is.symbols, more, size);
    }

index_few : (known later : StateFacts) → HasFewNames known → IsReturned known later
    → ForSome (with_index known later) HasFewNames
index_few known later few is =
    with_made HasFewNames later.facts (addressed known later) (addressed_few known later few is) (pos 0) (pos 2147483647) None

-- ---- states

few_then : (P : StateFacts → Type 0) (next : StateFacts → State) (state : State) → ForSome state P
    → ((known : StateFacts) → P known → ForSome (next known) HasFewNames)
    → ForSome (option_and_then next state) HasFewNames
few_then P next None few more = λ x is. absurd (none-some x is)
few_then P next (Some known) few more = more known (few known refl)

address_few : (place : Place) (known : StateFacts) → HasFewNames known
    → ForSome (with_unknown_address place known) HasFewNames
unfolding with_unknown_address
address_few place known few =
    few_then (IsReturned known) (with_index known) (with_returned known.apart place known)
    (each_returned known.apart place known) (λ later is. index_few known later few is)

pub push_few : (v : Var) (state : State) → ForSome state HasFewNames → ForSome (push v state) HasFewNames
push_few v None few = λ x is. absurd (none-some x is)
push_few v (Some known) few =
    λ x is. subst HasFewNames (same_Some (pushed known v) x is) (pushed_few known v (few known refl))

pub push_within_few : (r : Span) (state : State) → ForSome state HasFewNames
    → ForSome (push_within r state) HasFewNames
push_within_few r state few = few_then HasFewNames (with_within r) state few (within_few r)

pub push_unknown_few : (place : Place) (state : State) → ForSome state HasFewNames
    → ForSome (push_unknown place state) HasFewNames
push_unknown_few place state few = few_then HasFewNames (with_unknown place) state few (unknown_few place)

pub push_unknown_address_few : (place : Place) (state : State) → ForSome state HasFewNames
    → ForSome (push_unknown_address place state) HasFewNames
push_unknown_address_few place state few =
    few_then HasFewNames (with_unknown_address place) state few (address_few place)
