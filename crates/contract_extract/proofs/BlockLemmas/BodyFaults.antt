-- The first fault of a body, met from its first instruction on.
use Rattle.std.proofs.Common.{◌≡◌, ℕ, ◌+◌, ◌<◌, ◌≤◌, suc, List, ◌∷◌, drop, flat_map, get_or, length, Option, sym, ap, ◌∙◌, arith}
use Rattle.std.proofs.Math.Seq.{drop-cons}
use Rattle.std.proofs.lemmas.List.{drop_all}
use Rattle.cil_model.specs.declared.instruction.Instr.{Instr}
use Rattle.clause_faults.specs.Faults.{body_faults, first_fault}
use Rattle.clause_faults.specs.SharedStacks.{either}
use Rattle.clause_faults.specs.declared.clause_fault.ClauseFault.{ClauseFault}
use Rattle.clause_faults.proofs.FaultLemmas.Earliest.{either-assoc, either-none, first_fault-append}

-- The first of all faults is the first so far, or of those after.
abbrev pub IsFirstSoFar : ℕ → List Instr → ℕ → Option ClauseFault → Type 0
IsFirstSoFar start body n first = either first (first_fault (flat_map (body_faults start) (drop n body))) ≡ first_fault (flat_map (body_faults start) body)

pub next_first : (start : ℕ) (body : List Instr) (n : ℕ) (i : Instr) (first found next : Option ClauseFault) → n < length body → i ≡ get_or body n i
    → found ≡ first_fault (body_faults start i) → next ≡ either first found → IsFirstSoFar start body n first → IsFirstSoFar start body (n + 1) next
next_first start body n i first found next within here is_found is_next so_far =
    let after : ℕ = suc n in
    let more : n + 1 ≡ after = omega arith in
    let split : drop n body ≡ i ∷ drop (n + 1) body = drop-cons body n i within ∙ ap (λ (j : Instr). j ∷ drop after body) (sym here) ∙ ap (λ (m : ℕ). i ∷ drop m body) (sym more) in
    let behind = flat_map (body_faults start) (drop (n + 1) body) in
    ap (λ o. either o (first_fault behind)) (is_next ∙ ap (either first) is_found)
    ∙ either-assoc first (first_fault (body_faults start i)) (first_fault behind)
    ∙ ap (either first) (sym (first_fault-append (body_faults start i) behind))
    ∙ sym (ap (λ rest. either first (first_fault (flat_map (body_faults start) rest))) split)
    ∙ so_far

pub all_met : (start : ℕ) (body : List Instr) (n : ℕ) (first : Option ClauseFault) → length body ≤ n → IsFirstSoFar start body n first → first ≡ first_fault (flat_map (body_faults start) body)
all_met start body n first past so_far =
    sym (either-none first) ∙ sym (ap (λ rest. either first (first_fault (flat_map (body_faults start) rest))) (drop_all n body past)) ∙ so_far
