-- Addresses of the code, of a state that may be reached or not.
use Rattle.std.proofs.Common.{◌≡◌, ℕ, Some, None, refl, sym, ◌∙◌}
use Rattle.std.specs.Option.{ForSome, option_and_then}
use Rattle.domain_api.specs.declared.expr.Expr.{Expr}
use Rattle.frame_names.specs.declared.var.Var.TheVariants as vars
use Rattle.state_facts.specs.Forms.{HasNumber, HasReference, HasVar}
use Rattle.state_facts.specs.StateFacts.{State}
use Rattle.state_facts.specs.States as states
use Rattle.transfer_rules.specs.Acts.{with_address, with_item_at, with_put_at}
use Rattle.transfer_rules.specs.Operands.{Took, TookTwo, on_one, on_two, over_one}

-- ---- what is there

pub both_there : (r : ℕ) (i : Expr) (state : State) → ForSome state (λ known. HasVar known (vars.Reference r))
    → ForSome state (λ known. HasVar known (vars.Number i)) → ForSome state (λ known. HasVar known (vars.Address r i))
both_there r i state first second = λ known is. (first known is, second known is)

pub array_there : (r : ℕ) (i : Expr) (state : State) → ForSome state (λ known. HasVar known (vars.Address r i))
    → ForSome state (λ known. HasReference known r)
array_there r i state there = λ known is. (there known is).0

pub index_there : (r : ℕ) (i : Expr) (state : State) → ForSome state (λ known. HasVar known (vars.Address r i))
    → ForSome state (λ known. HasNumber known i)
index_there r i state there = λ known is. (there known is).1

-- ---- what is done

over_address : (r : ℕ) (i : Expr) (after : State)
    → states.push (vars.Address r i) after ≡ option_and_then (with_address (vars.Reference r) (vars.Number i)) after
over_address r i None = refl
over_address r i (Some known) = refl

pub address_is : (r : ℕ) (i : Expr) (state after : State) → TookTwo (Some (vars.Reference r, vars.Number i)) state after
    → states.push (vars.Address r i) after ≡ option_and_then (on_two with_address) state
address_is r i state after took = over_address r i after ∙ sym (took with_address)

over_item : (r : ℕ) (i : Expr) (after : State)
    → states.load r i after ≡ over_one with_item_at (Some (vars.Address r i)) after
over_item r i None = refl
over_item r i (Some known) = refl

pub item_is : (r : ℕ) (i : Expr) (state after : State) → Took (Some (vars.Address r i)) state after
    → states.load r i after ≡ option_and_then (on_one with_item_at) state
item_is r i state after took = over_item r i after ∙ sym (took with_item_at)

over_put : (r : ℕ) (i value : Expr) (after : State)
    → states.store r i value after ≡ option_and_then (with_put_at (vars.Address r i) (vars.Number value)) after
over_put r i value None = refl
over_put r i value (Some known) = refl

pub put_is : (r : ℕ) (i value : Expr) (state after : State)
    → TookTwo (Some (vars.Address r i, vars.Number value)) state after
    → states.store r i value after ≡ option_and_then (on_two with_put_at) state
put_is r i value state after took = over_put r i value after ∙ sym (took with_put_at)

pub ruleset addressing = (both_there, array_there, index_there, address_is, item_is, put_is)
