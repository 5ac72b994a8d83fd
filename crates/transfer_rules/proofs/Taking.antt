-- What is taken from the stack is what each rule over operands takes.
use Rattle.std.proofs.Common.{◌≡◌, Bool, true, false, Option, Some, None, refl, sym, ap, subst, ◌∙◌}
use Rattle.std.specs.Prelude.{IfSome, reverse, slice_get}
use Rattle.std.specs.Option.{ForSome, option_and_then}
use Rattle.std.proofs.lemmas.Bool.{false≢true}
use Rattle.frame_names.specs.declared.var.Var.{Var}
use Rattle.obligation_prover.specs.Operations.{from_top}
use Rattle.state_facts.specs.Forms.{HasVar}
use Rattle.state_facts.specs.Moves.{popped}
use Rattle.state_facts.specs.StateFacts.{StateFacts, State, variables_in}
use Rattle.state_facts.specs.States.{pop}
use Rattle.transfer_rules.specs.Operands.{IsTaken, Rule, Took, TookCondition, TookTwo, on_one, over_one, over_two, with_one}

-- ---- one

over_found : (rule : Var → Rule) (o : Option Var) (known : StateFacts) → with_one rule o known ≡ over_one rule o (Some known)
over_found rule None known = refl
over_found rule (Some v) known = refl

pub took_top : (state after : State) (top : Option Var) → top ≡ option_and_then (from_top 0) state → after ≡ pop state → Took top state after
took_top None after top is left = λ rule. sym (ap (λ (o : Option Var). over_one rule o after) is)
took_top (Some known) after top is left = λ rule.
    over_found rule (from_top 0 known) (popped known)
    ∙ ap (λ (o : Option Var). over_one rule o (Some (popped known))) (sym is)
    ∙ ap (λ (s : State). over_one rule top s) (sym left)

taken_of : (known : StateFacts) (after : State) (v : Var) → HasVar known v → after ≡ Some (popped known) → IsTaken after v
unfolding popped
taken_of known after v there left =
    subst (λ (s : State). IsTaken s v) (sym left)
    (record { reached = refl; there = λ x is. subst (λ (k : StateFacts). HasVar k v) (same (popped known) x is) there })
  where
    same : (a b : StateFacts) → Some a ≡ Some b → a ≡ b
    same a b e = cc

pub top_taken : (state after : State) (top : Option Var) → top ≡ option_and_then (from_top 0) state → after ≡ pop state
    → IfSome top (λ v. ForSome state (λ known. HasVar known v)) → IfSome top (IsTaken after)
top_taken None after None is left there = tt
top_taken None after (Some v) is left there = absurd cc
top_taken (Some known) after None is left there = tt
top_taken (Some known) after (Some v) is left there = taken_of known after v (there known refl) left

-- What is there stays where another value is taken.
pub still_taken : (state after : State) (top : Option Var) (v : Var) → IsTaken state v → top ≡ option_and_then (from_top 0) state → after ≡ pop state → IsTaken after v
still_taken None after top v taken is left = absurd (false≢true taken.reached)
still_taken (Some known) after top v taken is left = taken_of known after v (taken.there known refl) left

pub still_there : (state : State) (v : Var) → ForSome state (λ known. HasVar known v) → ForSome (pop state) (λ known. HasVar known v)
unfolding popped
still_there None v there = λ x is. absurd cc
still_there (Some known) v there = λ x is. subst (λ (k : StateFacts). HasVar k v) (same (popped known) x is) (there known refl)
  where
    same : (a b : StateFacts) → Some a ≡ Some b → a ≡ b
    same a b e = cc

-- ---- two

pub took_both : (state between after : State) (lower upper : Var) → Took (Some upper) state between → Took (Some lower) between after
    → TookTwo (Some (lower, upper)) state after
took_both state between after lower upper first second = λ rule.
    first (λ upper. on_one (λ lower. rule lower upper)) ∙ second (λ lower. rule lower upper)

pub took_upper : (state between after : State) (upper : Var) → Took (Some upper) state between → Took None between after → TookTwo None state after
took_upper state between after upper first second = λ rule.
    first (λ upper. on_one (λ lower. rule lower upper)) ∙ second (λ lower. rule lower upper)

pub took_none : (state between after : State) → Took None state between → TookTwo None state after
took_none state between after first = λ rule. first (λ upper. on_one (λ lower. rule lower upper))

-- ---- conditions

pub took_condition : (state after : State) (top : Option Var) → Took top state after → TookCondition false top state after
took_condition state after top took = λ rule. took rule

pub took_pair : (message : Bool) (state after : State) (two : Option (Var × Var)) (vs : Var × Var) (condition : Var) → message ≡ true → TookTwo two state after
    → two ≡ Some vs → condition ≡ vs.0 → TookCondition message (Some condition) state after
took_pair message state after two vs condition is took some first = λ rule.
    rw (is, first) (took (λ condition message. rule condition) ∙ ap (λ (o : Option (Var × Var)). over_two (λ condition message. rule condition) o after) some)

pub took_no_pair : (message : Bool) (state after : State) (two : Option (Var × Var)) → message ≡ true → TookTwo two state after → two ≡ None
    → TookCondition message None state after
took_no_pair message state after two is took none = λ rule.
    rw is (took (λ condition message. rule condition) ∙ ap (λ (o : Option (Var × Var)). over_two (λ condition message. rule condition) o after) none)

-- What the code reads of the top.
pub top_is : (state : State) → slice_get (reverse (variables_in state)) 0 ≡ option_and_then (from_top 0) state
top_is None = refl
top_is (Some known) = refl

pub ruleset taking = (took_top, top_taken, still_taken, took_both, took_upper, took_none, took_condition)
