-- The arguments are taken from below the result.
use Rattle.std.proofs.Common.{◌≡◌, ℕ, zero, suc, ◌+◌, ◌-◌, ◌≤◌, List, [], ◌∷◌, ◌++◌, length, reverse, take, drop, slice_get, Some, None, refl, ap, sym, ◌∙◌, append-nil, arith}
use Rattle.std.specs.Option.{ForSome, option_map}
use Rattle.std.proofs.lemmas.List.{drop_all, drop_at, length-append, length-take-le, reverse-append, reverse-reverse, take_all}
use Rattle.std.proofs.lemmas.Option.{none-some, same_Some}
use Rattle.frame_names.specs.declared.var.Var.{Var}
use Rattle.state_facts.specs.Moves.{popped}
use Rattle.state_facts.specs.StateFacts.{StateFacts, State, variables_in}
use Rattle.state_facts.specs.States.{pop, push}
use Rattle.contract_calls.specs.CallStates.{less, without_top}

abbrev of_variables : StateFacts → List Var → State
of_variables known vs = Some (record known { variables = vs })

-- ---- one more is taken

take_within : (k m : ℕ) (xs : List Var) → k ≤ m → take k (take m xs) ≡ take k xs
take_within zero m xs below = refl
take_within (suc k) zero xs below = absurd (omega (arith, below))
take_within (suc k) (suc m) [] below = refl
take_within (suc k) (suc m) (x ∷ xs) below = ap (λ l. x ∷ l) (take_within k m xs (omega (arith, below)))

pub none_taken : (state : State) → state ≡ option_map (without_top 0) state
none_taken None = refl
none_taken (Some known) =
    ap (of_variables known) (sym (take_all (length known.variables - 0) known.variables (omega arith)))

pub one_more : (state before after : State) (i : ℕ) → before ≡ option_map (without_top i) state → after ≡ pop before
    → after ≡ option_map (without_top (i + 1)) state
unfolding popped
one_more None before after i is taken = taken ∙ ap pop is
one_more (Some known) before after i is taken =
    let vs = known.variables in
    let many = length-take-le (length vs - i) vs (omega arith) in
    let fewer : length (take (length vs - i) vs) - 1 ≡ length vs - (i + 1) = omega (arith, many) in
    taken
    ∙ (ap pop is
    ∙ ap (of_variables known)
    (ap (λ n. take n (take (length vs - i) vs)) fewer
    ∙ take_within (length vs - (i + 1)) (length vs - i) vs (omega arith)))

pub ruleset taking = (none_taken, one_more)

-- ---- the result alone is left

pub less_nothing : (state : State) (first count : ℕ)
    → ForSome state (λ known. length known.variables ≡ first + count + 0)
    → option_map (without_top count) state ≡ option_map (less first count) state
less_nothing None first count many = refl
less_nothing (Some known) first count many =
    let vs = known.variables in
    let size = many known refl in
    let start : length vs - count ≡ first = omega (arith, size) in
    ap (of_variables known)
    (ap (λ n. take n vs) start
    ∙ (sym (append-nil (take first vs))
    ∙ ap (λ l. take first vs ++ l) (sym (drop_all (first + count) vs (omega (arith, size))))))

top_left : (vs : List Var) (v : Var) (n : ℕ) → slice_get (reverse vs) 0 ≡ Some v → length vs ≡ n + 1
    → drop n vs ≡ v ∷ []
top_left vs v n is size = by (reverse vs) refl is
  where
    by : (l : List Var) → reverse vs ≡ l → slice_get l 0 ≡ Some v → drop n vs ≡ v ∷ []
    by [] same at = absurd (none-some v at)
    by (x ∷ rest) same at =
        let parts : vs ≡ reverse rest ++ v ∷ [] =
        sym (reverse-reverse vs)
        ∙ (ap reverse same ∙ (reverse-append (x ∷ []) rest ∙ ap (λ y. reverse rest ++ y ∷ []) (same_Some x v at))) in
        let long = ap (λ (l : List Var). length l) parts ∙ length-append (reverse rest) (v ∷ []) in
        ap (drop n) parts ∙ drop_at (reverse rest) (v ∷ []) n (omega (arith, size, long))

pub less_result : (state : State) (first count : ℕ) (v : Var) → Some v ≡ slice_get (reverse (variables_in state)) 0
    → ForSome state (λ known. length known.variables ≡ first + count + 1)
    → push v (option_map (without_top (count + 1)) state) ≡ option_map (less first count) state
less_result None first count v is many = refl
less_result (Some known) first count v is many =
    let vs = known.variables in
    let size = many known refl in
    let start : length vs - (count + 1) ≡ first = omega (arith, size) in
    ap (of_variables known)
    (ap (λ n. take n vs ++ v ∷ []) start
    ∙ ap (λ l. take first vs ++ l) (sym (top_left vs v (first + count) (sym is) size)))

pub less_none : (state : State) (first count : ℕ) → None ≡ slice_get (reverse (variables_in state)) 0
    → ForSome state (λ known. length known.variables ≡ first + count + 1) → state ≡ option_map (less first count) state
less_none None first count is many = refl
less_none (Some known) first count is many =
    absurd (by known.variables (reverse known.variables) refl (many known refl) is)
  where
    by : (vs l : List Var) → reverse vs ≡ l → length vs ≡ first + count + 1 → None ≡ slice_get l 0 → ⊥
    by vs [] same size at =
        let long = ap (λ (l : List Var). length l) (sym (reverse-reverse vs) ∙ ap reverse same) in
        omega (arith, size, long)
    by vs (x ∷ l) same size at = none-some x at

pub ruleset lessening = (less_nothing, less_result, less_none)
