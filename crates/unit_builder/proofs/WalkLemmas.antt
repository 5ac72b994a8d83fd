-- A walk, step by step.
use Rattle.std.proofs.Common.{◌≡◌, ℕ, zero, suc, ◌<◌, ◌≤◌, Bool, true, false, ⊎_elim, List, [], ◌∷◌, ◌++◌, length, get_or, Contains, Option, Some, None, is_some, IsSome, refl, sym, ap, ◌∙◌, subst, arith, append_assoc, length-append}
use Rattle.std.specs.Prelude.{nat_eq}
use Rattle.std.proofs.lemmas.Bool.{eq-eqb}
use Rattle.std.proofs.lemmas.List.{append-nil, get_or_append_left, get_or_push, length_push}
use Rattle.std.specs.Option.{option_and_then, option_map_or}
use Rattle.asm_image.specs.Bodies.{method_of}
use Rattle.asm_image.specs.Rows.{methods_of}
use Rattle.asm_image.specs.declared.method_row.MethodRow.{MethodRow}
use Rattle.unit_builder.specs.Met.{all_met, met, met_by, place_in}
use Rattle.unit_builder.specs.Meanings.{as_token}
use Rattle.unit_builder.specs.Bodies.{callee_keys}
use Rattle.unit_builder.specs.Outcomes.{outcome_of}
use Rattle.unit_builder.specs.Reach.{Reaches, reaches_in}
use Rattle.unit_builder.specs.Scopes.{scope_of}
use Rattle.unit_builder.specs.Walks.{IsWalk, IsWhole, Tells, calls_by, calls_in, calls_of, is_reached, numbers, unit_at, unit_by}
use Rattle.unit_builder.specs.declared.entry.Outcome.{Outcome}
use Rattle.unit_builder.specs.declared.entry.Outcome.TheVariants.{Analysed, Skipped}
use Rattle.unit_builder.specs.declared.reach.Visited.{Visited}
use Rattle.unit_builder.proofs.CallFacts.{callees-there}
use Rattle.unit_builder.proofs.MetLemmas.{before_or_last, place-last, place-stays, place-tells}
use Rattle.unit_builder.proofs.ReachLemmas.{Contains-behind, equal_numbers, goes_on, reaches, stays_in, within_more}
use Rattle.unit_builder.proofs.VisitLemmas.{some_is}

-- ---- methods that are met one after another

pub some_there : {A : Type 0} (found : Option A) (x : A) → found ≡ Some x → IsSome found
some_there found x is = ap is_some is

met_extends : (tokens : List ℕ) (token : ℕ) → (others : List ℕ) × (met tokens token ≡ tokens ++ others)
met_extends tokens token = extends (place_in tokens token) where
  extends : (place : Option ℕ) → (others : List ℕ) × (met_by tokens token place ≡ tokens ++ others)
  extends None = (token ∷ [], refl)
  extends (Some place) = ([], sym (append-nil tokens))

pub all-extends : (tokens calls : List ℕ) → (others : List ℕ) × (all_met tokens calls ≡ tokens ++ others)
all-extends tokens [] = ([], sym (append-nil tokens))
all-extends tokens (token ∷ calls) =
    let first = met_extends tokens token in
    let rest = all-extends (met tokens token) calls in
    (first.0 ++ rest.0, rest.1 ∙ ap (λ ts. ts ++ rest.0) first.1 ∙ append_assoc tokens first.0 rest.0)

met-there : (tokens : List ℕ) (token : ℕ) → IsSome (place_in (met tokens token) token)
met-there tokens token = there (place_in tokens token) refl where
  there : (place : Option ℕ) → place_in tokens token ≡ place → IsSome (place_in (met_by tokens token place) token)
  there None none = some_there (place_in (tokens ++ token ∷ []) token) (length tokens) (place-last tokens token none)
  there (Some place) is = some_there (place_in tokens token) place is

pub all-stays : (tokens calls : List ℕ) (token : ℕ) → IsSome (place_in tokens token) → IsSome (place_in (all_met tokens calls) token)
all-stays tokens calls token there =
    let found = some_is (place_in tokens token) there in
    let extends = all-extends tokens calls in
    some_there (place_in (all_met tokens calls) token) found.0 (ap (λ ts. place_in ts token) extends.1 ∙ place-stays tokens extends.0 token found.0 found.1)

pub all-there : (calls tokens : List ℕ) (token place : ℕ) → place < length calls → get_or calls place token ≡ token → IsSome (place_in (all_met tokens calls) token)
all-there [] tokens token place lt is = absurd (omega arith)
all-there (first ∷ calls) tokens token zero lt is =
    all-stays (met tokens first) calls token (subst (λ t. IsSome (place_in (met tokens t) token)) (sym is) (met-there tokens token))
all-there (first ∷ calls) tokens token (suc place) lt is = all-there calls (met tokens first) token place (omega arith) is

-- What is so of those that were met, and of each new one wherever it comes to stand, is so of all.
met-each : (P : ℕ → ℕ → Type 0) (tokens : List ℕ) (token : ℕ) → ((place : ℕ) → place < length tokens → P place (get_or tokens place 0))
    → ((place : ℕ) → length tokens ≤ place → P place token)
    → (place : ℕ) → place < length (met tokens token) → P place (get_or (met tokens token) place 0)
met-each P tokens token old new = each (place_in tokens token) where
  each : (found : Option ℕ) → (place : ℕ) → place < length (met_by tokens token found) → P place (get_or (met_by tokens token found) place 0)
  each (Some at) place lt = old place lt
  each None place lt =
      let long = length_push tokens token in
      ⊎_elim
      (λ before. subst (P place) (sym (get_or_append_left tokens (token ∷ []) 0 place before)) (old place before))
      (λ last. subst (P place) (sym (get_or_push tokens token 0 place last)) (new place (omega arith)))
      (before_or_last (length tokens) place (omega arith))

met-longer : (tokens : List ℕ) (token : ℕ) → length tokens ≤ length (met tokens token)
met-longer tokens token = let extends = met_extends tokens token in omega (arith, ap length extends.1, length-append tokens extends.0)

pub all-each : (P : ℕ → ℕ → Type 0) (calls tokens : List ℕ) → ((place : ℕ) → place < length tokens → P place (get_or tokens place 0))
    → ((token : ℕ) → Contains calls token → (place : ℕ) → length tokens ≤ place → P place token)
    → (place : ℕ) → place < length (all_met tokens calls) → P place (get_or (all_met tokens calls) place 0)
all-each P [] tokens old new = old
all-each P (first ∷ calls) tokens old new =
    all-each P calls (met tokens first)
    (met-each P tokens first old (new first (0, omega arith, refl)))
    (λ token called place after. new token (Contains-behind first calls token called) place (omega (arith, met-longer tokens first)))

-- ---- one step

-- The calls of a method that was visited.
no-calls : (callees : List ℕ) (outcome : Outcome) → unit_by outcome ≡ None → [] ≡ calls_by callees outcome
no-calls callees (Analysed unit) none = absurd cc
no-calls callees (Skipped reason) none = refl

pub told-calls : (asm : List ℕ) (token : ℕ) (visited : Option Visited) → Tells asm token visited → numbers (calls_in visited) ≡ calls_of asm token
unfolding unit_at calls_of
told-calls asm token None none = of_method (method_of asm (as_token token)) none where
  of_method : (method : Option MethodRow) → option_and_then (λ m. unit_by (outcome_of asm m)) method ≡ None
      → [] ≡ option_map_or (λ m. calls_by (callee_keys (scope_of asm) m) (outcome_of asm m)) method []
  of_method None none = refl
  of_method (Some method) none = no-calls (callee_keys (scope_of asm) method) (outcome_of asm method) none
told-calls asm token (Some visited) told = told.callees

-- What is called is a method of the assembly.
pub calls-there : (asm : List ℕ) (token called : ℕ) → Contains (calls_of asm token) called → IsSome (method_of asm (as_token called))
unfolding calls_of
calls-there asm token called there = of_method (method_of asm (as_token token)) there where
  by_outcome : (method : MethodRow) (outcome : Outcome) → Contains (calls_by (callee_keys (scope_of asm) method) outcome) called → IsSome (method_of asm (as_token called))
  by_outcome method (Analysed unit) there = callees-there asm method called there
  by_outcome method (Skipped reason) there = absurd (omega (arith, there.1))

  of_method : (method : Option MethodRow) → Contains (option_map_or (λ m. calls_by (callee_keys (scope_of asm) m) (outcome_of asm m)) method []) called → IsSome (method_of asm (as_token called))
  of_method None there = absurd (omega (arith, there.1))
  of_method (Some method) there = by_outcome method (outcome_of asm method) there

module _ (asm : List ℕ) (from : ℕ) (tokens : List ℕ) (visits : List (Option Visited)) (walk : IsWalk asm from tokens visits)
    (next : length visits < length tokens) (visited : Option Visited) (told : Tells asm (get_or tokens (length visits) 0) visited) where
  calls_are : numbers (calls_in visited) ≡ calls_of asm (get_or tokens (length visits) 0)
  calls_are = told-calls asm (get_or tokens (length visits) 0) visited told

  token_stays : (place : ℕ) → place < length tokens → get_or (all_met tokens (numbers (calls_in visited))) place 0 ≡ get_or tokens place 0
  token_stays place lt =
      let extends = all-extends tokens (numbers (calls_in visited)) in
      ap (λ ts. get_or ts place 0) extends.1 ∙ get_or_append_left tokens extends.0 0 place lt

  longer : length tokens ≤ length (all_met tokens (numbers (calls_in visited)))
  longer = let extends = all-extends tokens (numbers (calls_in visited)) in omega (arith, ap length extends.1, length-append tokens extends.0)

  there_more : (place : ℕ) → place < length (all_met tokens (numbers (calls_in visited)))
      → IsSome (method_of asm (as_token (get_or (all_met tokens (numbers (calls_in visited))) place 0)))
  there_more =
      all-each (λ place token. IsSome (method_of asm (as_token token))) (numbers (calls_in visited)) tokens walk.there
      (λ token called place after. calls-there asm (get_or tokens (length visits) 0) token (subst (λ calls. Contains calls token) calls_are called))

  near_more : (place : ℕ) → place < length (all_met tokens (numbers (calls_in visited)))
      → reaches_in nat_eq (calls_of asm) place from (get_or (all_met tokens (numbers (calls_in visited))) place 0) ≡ true
  near_more =
      all-each (λ place token. reaches_in nat_eq (calls_of asm) place from token ≡ true) (numbers (calls_in visited)) tokens walk.near
      (λ token called place after.
      within_more nat_eq equal_numbers (calls_of asm) (suc (length visits)) place from token (omega arith)
      (goes_on nat_eq equal_numbers (calls_of asm) (length visits) from (get_or tokens (length visits) 0) token (walk.near (length visits) next)
      (subst (λ calls. Contains calls token) calls_are called)))

  told_more : (place : ℕ) → place < length (visits ++ visited ∷ [])
      → Tells asm (get_or (all_met tokens (numbers (calls_in visited))) place 0) (get_or (visits ++ visited ∷ []) place None)
  told_more place lt =
      let long = length_push visits visited in
      ⊎_elim
      (λ before.
      subst (λ v. Tells asm (get_or (all_met tokens (numbers (calls_in visited))) place 0) v) (sym (get_or_append_left visits (visited ∷ []) None place before))
      (subst (λ t. Tells asm t (get_or visits place None)) (sym (token_stays place (omega arith))) (walk.told place before)))
      (λ last.
      subst (λ v. Tells asm (get_or (all_met tokens (numbers (calls_in visited))) place 0) v) (sym (get_or_push visits visited None place last))
      (subst (λ t. Tells asm t visited) (sym (token_stays place (omega arith))) (subst (λ p. Tells asm (get_or tokens p 0) visited) last told)))
      (before_or_last (length visits) place (omega arith))

  closed_more : (place token : ℕ) → place < length (visits ++ visited ∷ [])
      → Contains (calls_of asm (get_or (all_met tokens (numbers (calls_in visited))) place 0)) token → IsSome (place_in (all_met tokens (numbers (calls_in visited))) token)
  closed_more place token lt called =
      let long = length_push visits visited in
      let of_old = subst (λ t. Contains (calls_of asm t) token) (token_stays place (omega arith)) called in
      ⊎_elim
      (λ before. all-stays tokens (numbers (calls_in visited)) token (walk.closed place token before of_old))
      (λ last.
      let called_here : Contains (numbers (calls_in visited)) token =
      subst (λ calls. Contains calls token) (sym calls_are) (subst (λ p. Contains (calls_of asm (get_or tokens p 0)) token) (sym last) of_old) in
      all-there (numbers (calls_in visited)) tokens token called_here.0 called_here.1 called_here.2)
      (before_or_last (length visits) place (omega arith))

  pub step : IsWalk asm from (all_met tokens (numbers (calls_in visited))) (visits ++ visited ∷ [])
  step =
      let long = length_push visits visited in
      let extends = all-extends tokens (numbers (calls_in visited)) in
      record {
        start = ap (λ ts. place_in ts from) extends.1 ∙ place-stays tokens extends.0 from 0 walk.start;
        there = there_more;
        near = near_more;
        visited = omega (arith, longer);
        told = told_more;
        closed = closed_more;
      }

-- ---- the end

same_tests : (a b : Bool) → (a ≡ true → b ≡ true) → (b ≡ true → a ≡ true) → a ≡ b
same_tests true true to from = refl
same_tests true false to from = sym (to refl)
same_tests false true to from = from refl
same_tests false false to from = refl

module _ (asm : List ℕ) (from : ℕ) (tokens : List ℕ) (visits : List (Option Visited)) (walk : IsWalk asm from tokens visits)
    (all : length tokens ≤ length visits) (few : length tokens ≤ length (methods_of asm)) where
  reached_if_met : (token : ℕ) → IsSome (place_in tokens token) → is_reached asm from token ≡ true
  unfolding is_reached
  reached_if_met token there =
      let found = some_is (place_in tokens token) there in
      let at = place-tells tokens token found.0 found.1 in
      within_more nat_eq equal_numbers (calls_of asm) found.0 (length (methods_of asm)) from token (omega (arith, at.0))
      (subst (λ t. reaches_in nat_eq (calls_of asm) found.0 from t ≡ true) at.1 (walk.near found.0 at.0))

  met_if_reaching : (token : ℕ) → Reaches (calls_of asm) from token → IsSome (place_in tokens token)
  met_if_reaching token way =
      stays_in nat_eq equal_numbers (calls_of asm) (λ t. IsSome (place_in tokens t))
      (λ n to met called.
      let found = some_is (place_in tokens n) met in
      let at = place-tells tokens n found.0 found.1 in
      walk.closed found.0 to (omega (arith, at.0)) (subst (λ t. Contains (calls_of asm t) to) (sym at.1) called))
      from token (some_there (place_in tokens from) 0 walk.start) way

  reaching_if_reached : (token : ℕ) → is_reached asm from token ≡ true → Reaches (calls_of asm) from token
  unfolding is_reached
  reaching_if_reached token reached = reaches nat_eq equal_numbers (calls_of asm) (length (methods_of asm)) from token reached

  there_if_reached : (token : ℕ) → is_reached asm from token ≡ true → IsSome (method_of asm (as_token token))
  there_if_reached token reached =
      let found = some_is (place_in tokens token) (met_if_reaching token (reaching_if_reached token reached)) in
      let at = place-tells tokens token found.0 found.1 in
      subst (λ t. IsSome (method_of asm (as_token t))) at.1 (walk.there found.0 at.0)

  pub whole : IsWhole asm from tokens visits
  whole = record {
    met = λ token. same_tests (is_some (place_in tokens token)) (is_reached asm from token) (reached_if_met token) (λ reached. met_if_reaching token (reaching_if_reached token reached));
    reached = λ token. (reaching_if_reached token, λ way. reached_if_met token (met_if_reaching token way));
    there = there_if_reached;
    all = omega (arith, walk.visited);
    told = walk.told;
  }

-- ---- the start

pub walk-start : (asm : List ℕ) (from : ℕ) → IsSome (method_of asm (as_token from)) → IsWalk asm from (met [] from) []
walk-start asm from there = record {
  start = start;
  there = λ place lt. alone (λ n token. IsSome (method_of asm (as_token token))) there place lt;
  near = λ place lt. alone (λ n token. reaches_in nat_eq (calls_of asm) n from token ≡ true) (eq-eqb from from refl) place lt;
  visited = omega arith;
  told = λ place lt. absurd (omega arith);
  closed = λ place token lt called. absurd (omega arith);
} where
  start : place_in (from ∷ []) from ≡ Some 0
  start = rw (eq-eqb from from refl) refl

  alone : (P : ℕ → ℕ → Type 0) → P 0 from → (place : ℕ) → place < length (from ∷ []) → P place (get_or (from ∷ []) place 0)
  alone P first zero lt = first
  alone P first (suc place) lt = absurd (omega arith)
