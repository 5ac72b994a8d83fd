-- Where a method begins, one variable after another.
use Rattle.std.proofs.Common.{◌≡◌, ℕ, ◌+◌, ◌<◌, ◌≤◌, List, [], ◌∷◌, ◌++◌, map, length, take, get_or, slice_get, Some, None, refl, sym, ap, ◌∙◌, append-nil, append_assoc, arith}
use Rattle.std.specs.Option.{option_map}
use Rattle.std.proofs.lemmas.List.{get_or_append_left, length-append, take_all, take_more}
use Rattle.std.proofs.lemmas.Option.{slice_get-get_or}
use Rattle.cil_model.specs.declared.place.Place.{Place}
use Rattle.frame_names.specs.declared.var.Var.{Var}
use Rattle.frame_names.specs.declared.var.Var.TheVariants as vars
use Rattle.state_facts.specs.StateFacts.{StateFacts, State, variables_in}
use Rattle.state_facts.specs.States.{push}
use Rattle.transfer_rules.specs.Entry.{twice, with_first, with_more, with_zeros, zero_in}

abbrev of_variables : StateFacts → List Var → State
of_variables known vs = Some (record known { variables = vs })

-- Zeros that are pushed are zeros behind the variables.
pub zeros_are : (places : List Place) (state : State)
    → with_zeros places state ≡ option_map (with_more (map zero_in places)) state
zeros_are [] None = refl
zeros_are [] (Some known) = ap (of_variables known) (sym (append-nil known.variables))
zeros_are (place ∷ places) None = zeros_are places None
zeros_are (place ∷ places) (Some known) =
    zeros_are places (push (zero_in place) (Some known))
    ∙ ap (of_variables known) (append_assoc known.variables (zero_in place ∷ []) (map zero_in places))

-- ---- all variables once more

-- before the first nothing came on top
pub none_again : (state : State) → state ≡ with_first 0 state
none_again None = refl
none_again (Some known) = ap (of_variables known) (sym (append-nil known.variables))

there_still : (known : StateFacts) (i : ℕ) (more : List Var) (v : Var) → i < length known.variables
    → slice_get (known.variables ++ more) i ≡ Some (get_or known.variables i v)
there_still known i more v below =
    slice_get-get_or (known.variables ++ more) i v (omega (arith, below, length-append known.variables more))
    ∙ ap (λ w. Some w) (get_or_append_left known.variables more v i below)

-- one more of them comes on top
pub once_more : (state before after : State) (i : ℕ) → i < length (variables_in state) → before ≡ with_first i state
    → ((v : Var) → slice_get (variables_in before) i ≡ Some v → after ≡ push v before)
    → after ≡ with_first (i + 1) state
once_more None before after i below is more = absurd (omega (arith, below))
once_more (Some known) before after i below is more =
    let v = get_or known.variables i vars.Text in
    let there : slice_get (variables_in before) i ≡ Some v =
    ap (λ s. slice_get (variables_in s) i) is ∙ there_still known i (take i known.variables) vars.Text below in
    let all : (known.variables ++ take i known.variables) ++ v ∷ [] ≡ known.variables ++ take (i + 1) known.variables =
    append_assoc known.variables (take i known.variables) (v ∷ [])
    ∙ ap (λ vs. known.variables ++ vs) (sym (take_more known.variables i vars.Text below)) in
    more v there ∙ (ap (push v) is ∙ ap (of_variables known) all)

-- and in the end all have
pub all_again : (state after : State) (n : ℕ) → length (variables_in state) ≤ n → after ≡ with_first n state
    → after ≡ option_map twice state
all_again None after n most is = is
all_again (Some known) after n most is = is ∙ ap (λ vs. of_variables known (known.variables ++ vs)) (take_all n known.variables most)

pub ruleset again = (none_again, once_more, all_again)
