-- What is spelled of a lawful unit fits its fields.
use Rattle.std.proofs.Common.{◌≡◌, ℕ, ◌+◌, ◌≤◌, List, [], ◌∷◌, length, filter_map, Option, Some, None, refl, arith, inl, inr}
use Rattle.cil_model.specs.WellFormed.{InOrderOfUse, called_by}
use Rattle.cil_model.specs.declared.instruction.Instr.{Instr}
use Rattle.unit_flow.specs.Flow.{IsLawful}
use Rattle.unit_flow.specs.declared.unit_flow.UnitFlow.{UnitFlow}
use Rattle.unit_form.proofs.AddedClauses.{may_be_added}
use Rattle.unit_form.specs.Spelling.{HasFields}

-- Each new number is one more.
last_in_order : (first all : ℕ) (numbers : List ℕ) → InOrderOfUse first all numbers → all ≤ first + length numbers
last_in_order first all [] order = omega (arith, order)
last_in_order first all (n ∷ ns) (inl known) = omega (arith, last_in_order first all ns known.1)
last_in_order first all (n ∷ ns) (inr new) = omega (arith, last_in_order (first + 1) all ns new.1)

few_called : (is : List Instr) → length (filter_map (λ i. called_by i.op) is) ≤ length is
few_called [] = omega arith
few_called (i ∷ is) = by (called_by i.op) refl (few_called is)
  where
    by : (number : Option ℕ) → called_by i.op ≡ number
        → length (filter_map (λ j. called_by j.op) is) ≤ length is
        → length (filter_map (λ j. called_by j.op) (i ∷ is)) ≤ length (i ∷ is)
    by None same few = rw same (omega (arith, few))
    by (Some n) same few = rw same (omega (arith, few))

-- Such a unit can be spelled as a file.
pub spelled : (code : UnitFlow) → IsLawful code → HasFields code.unit
spelled code lawful =
    let formed = lawful.formed in
    record {
      name = formed.name;
      args = formed.args;
      locals = formed.locals;
      variables = formed.limits.variables;
      callees = formed.callees;
      count = omega (
        arith,
        few_called code.unit.instrs,
        formed.limits.instructions,
        last_in_order 0 (length code.unit.callees) (filter_map (λ i. called_by i.op) code.unit.instrs) formed.order,
      );
      code = formed.limits.code;
      added = may_be_added code.unit formed;
    }
