-- A unit's spelling, in each form, passes the tests of a unit file, and the unit is read from it again.
use Rattle.std.proofs.Common.{◌≡◌, ℕ, ◌≤◌, List, [], ◌++◌, length, None, option_map, slice_get, sym, ap, ap₂, subst, ◌∙◌, arith}
use Rattle.std.proofs.lemmas.Option.{slice_get_past}
use Rattle.cc_base.specs.Tests.{first_of}
use Rattle.cc_base.proofs.TestLemmas.{first_of-append_none, first_of-nil, first_of-none, must_hold}
use Rattle.cil_model.specs.Blocks.{start_of_body}
use Rattle.cil_model.specs.Limits.{MAX_BLOCKS, MAX_INSTRUCTIONS}
use Rattle.cil_model.specs.Shapes.{shape_of}
use Rattle.cil_model.specs.WellFormed.{IsWellFormed}
use Rattle.cil_model.specs.declared.instruction.Instr.{Instr}
use Rattle.cil_model.specs.declared.unit.Unit.{Unit as MethodUnit}
use Rattle.clause_faults.specs.Faults.{fault_at as clause_fault_at}
use Rattle.flow_graph.proofs.GraphFacts.{blocks_counted}
use Rattle.flow_graph.specs.BlocksOf.{block_starts}
use Rattle.il_decoder.proofs.Sequence.{code_only}
use Rattle.il_decoder.specs.Decoding.{instructions_of}
use Rattle.il_decoder.specs.Faults.{fault_at as il_fault_at}
use Rattle.stack_typer.proofs.Settling.{kinds_no_fault}
use Rattle.stack_typer.specs.FaultPlaces.{type_fault_at}
use Rattle.unit_form.proofs.AddedClauses.{may_be_added}
use Rattle.unit_form.proofs.OffsetsCounted.{offsets_counted}
use Rattle.unit_form.proofs.UnitAgain.{UnitAgain, unit_again as fields_again, written_spells}
use Rattle.unit_form.specs.AddedClauses.{added_clauses}
use Rattle.unit_form.specs.FieldsRead.{HasRead}
use Rattle.unit_form.specs.Spelling.{HasFields, IsSpelledBy, unit_bytes}
use Rattle.unit_form.specs.UnitFields.{FieldsOfUnit, unit_fields}
use Rattle.method_unit.specs.UnitFile.{added_test, block_test, clause_test, code_tests_of, count_test, decoding_test, field_test, first_unit_fault, fit_together, form_at, instr_tests, number_tests, order_tests, shape_told, start_test, told_clauses, typing_test, unit_of, unit_told}
use Rattle.method_unit.specs.Units.{IsUnit}
use Rattle.unit_form.specs.declared.unit_fault.UnitFault.{UnitFault}
use Rattle.method_unit.proofs.OrderOfUse.{named_are_numbers, use_is_ordered, used_are_few}
use Rattle.method_unit.proofs.ToldClauses.{all_together, fit_within}

-- ---- the fields

pub unit_has_fields : (unit : MethodUnit) → IsWellFormed unit → HasFields unit
unit_has_fields unit well = record {
  name = well.name;
  args = well.args;
  locals = well.locals;
  variables = well.limits.variables;
  callees = well.callees;
  count = omega (arith, used_are_few (length unit.callees) unit.instrs well.order, well.limits.instructions);
  code = well.limits.code;
  added = may_be_added unit well;
}

-- ---- the tests of the code

none_past : {X : Type 0} (fault : X → UnitFault) (most : ℕ) (xs : List X) → length xs ≤ most → option_map fault (slice_get xs most) ≡ None
none_past fault most xs few = ap (option_map fault) (slice_get_past xs most few)

count_passes : (base : ℕ) (is : List Instr) → length is ≤ MAX_INSTRUCTIONS → count_test base is ≡ None
unfolding count_test
count_passes base is few = none_past (λ i. form_at base i.at) MAX_INSTRUCTIONS is few

starts_pass : (base : ℕ) (starts : List ℕ) → length starts ≤ MAX_BLOCKS → start_test base starts ≡ None
unfolding start_test
starts_pass base starts few = none_past (form_at base) MAX_BLOCKS starts few

module _ (unit : MethodUnit) (is : IsUnit unit) where
  few_blocks : length (block_starts unit.instrs (start_of_body unit.instrs)) ≤ MAX_BLOCKS
  few_blocks = subst (λ start. length (block_starts unit.instrs start) ≤ MAX_BLOCKS) is.well_formed.body (omega (arith, blocks_counted unit, is.well_formed.limits.blocks))

  clauses_pass : (base : ℕ) → clause_test base unit.instrs (shape_of unit) ≡ None
  unfolding clause_test
  clauses_pass base = ap (option_map (λ fault. form_at base (clause_fault_at fault))) is.clauses

  added_passes : (at : ℕ) → added_test (told_clauses unit.instrs) (added_clauses unit) at ≡ None
  unfolding added_test
  added_passes at =
      (must_hold _ _).1 (ap fit_together (all_together unit is.well_formed) ∙ fit_within unit.clauses is.well_formed.limits.clauses)

  typing_passes : (base : ℕ) → typing_test base unit.instrs (shape_of unit) ≡ None
  unfolding typing_test
  typing_passes base = ap (option_map (λ fault. form_at base (type_fault_at fault))) (kinds_no_fault (shape_of unit) unit.instrs is.well_formed.runs.stacks is.well_formed.runs.kinds)

  decoding_passes : (base : ℕ) → decoding_test base unit.code ≡ None
  unfolding decoding_test
  decoding_passes base = ap (option_map (λ fault. form_at base (il_fault_at fault))) (code_only unit.code unit.instrs is.well_formed.code).0

  order_passes : (offsets : List ℕ) → length offsets ≡ length unit.callees → first_of (order_tests unit.instrs offsets) ≡ None
  order_passes offsets counted = use_is_ordered unit.instrs offsets (rw counted is.well_formed.order)

  instrs_pass : (base : ℕ) (offsets : List ℕ) (at : ℕ) → length offsets ≡ length unit.callees → first_of (instr_tests base (shape_of unit) offsets (added_clauses unit) at unit.instrs) ≡ None
  unfolding instr_tests
  instrs_pass base offsets at counted =
      first_of-none (count_test base unit.instrs) _ (count_passes base unit.instrs is.well_formed.limits.instructions)
      ∙ (first_of-append_none (number_tests base (length unit.callees) unit.instrs) _
      (named_are_numbers base (length unit.callees) unit.instrs is.well_formed.named is.well_formed.order)
      ∙ (first_of-none (clause_test base unit.instrs (shape_of unit)) _ (clauses_pass base)
      ∙ (first_of-none (added_test (told_clauses unit.instrs) (added_clauses unit) at) _ (added_passes at)
      ∙ (first_of-none (block_test base unit.instrs) _ (starts_pass base (block_starts unit.instrs (start_of_body unit.instrs)) few_blocks)
      ∙ (first_of-append_none (order_tests unit.instrs offsets) _ (order_passes offsets counted)
      ∙ (first_of-none (typing_test base unit.instrs (shape_of unit)) [] (typing_passes base) ∙ first_of-nil))))))

  -- ---- the fields that are read

  module _ (fields : FieldsOfUnit) (has : HasRead unit fields) where
    same_shape : shape_told fields ≡ shape_of unit
    same_shape = λ i. record {
      result = sym has.result i;
      args = sym has.args i;
      locals = sym has.locals i;
      max_stack = sym has.max_stack i;
      callees = sym has.callees i;
    }

    same_instrs : instructions_of fields.code ≡ unit.instrs
    same_instrs = ap instructions_of (sym has.code) ∙ (code_only unit.code unit.instrs is.well_formed.code).1

    code_passes : length fields.callee_offsets ≡ length fields.callees → first_of (code_tests_of fields) ≡ None
    unfolding code_tests_of
    code_passes counted =
        first_of-none (decoding_test fields.code_offset fields.code) _ (ap (decoding_test fields.code_offset) (sym has.code) ∙ decoding_passes fields.code_offset)
        ∙ (ap₂ (λ shape all. first_of (instr_tests fields.code_offset shape fields.callee_offsets fields.added fields.added_offset all)) same_shape same_instrs
        ∙ (ap (λ added. first_of (instr_tests fields.code_offset (shape_of unit) fields.callee_offsets added fields.added_offset unit.instrs)) (sym has.added)
        ∙ instrs_pass fields.code_offset fields.callee_offsets fields.added_offset (counted ∙ ap length (sym has.callees))))

    same_clauses : told_clauses (instructions_of fields.code) ++ fields.added ≡ unit.clauses
    same_clauses = ap₂ (λ all added. told_clauses all ++ added) same_instrs (sym has.added) ∙ all_together unit is.well_formed

    same_body : start_of_body (instructions_of fields.code) ≡ unit.body_start
    same_body = ap start_of_body same_instrs ∙ sym is.well_formed.body

    same_unit : unit_told fields (instructions_of fields.code) ≡ unit
    same_unit = λ i. record {
      name = sym has.name i;
      result = sym has.result i;
      args = sym has.args i;
      locals = sym has.locals i;
      max_stack = sym has.max_stack i;
      callees = sym has.callees i;
      code = sym has.code i;
      clauses = same_clauses i;
      body_start = same_body i;
      instrs = same_instrs i;
    }

  -- ---- the file

  module _ (bytes : List ℕ) (spelled : IsSpelledBy unit bytes) where
    again : UnitAgain bytes unit
    again = fields_again bytes unit (unit_has_fields unit is.well_formed) spelled

    fields_pass : field_test bytes ≡ None
    unfolding field_test
    fields_pass = again.passed

    file_passes : first_unit_fault bytes ≡ None
    unfolding first_unit_fault
    file_passes = first_of-none (field_test bytes) _ fields_pass ∙ code_passes (unit_fields bytes).value again.has (offsets_counted bytes)

    file_tells : unit_of bytes ≡ unit
    unfolding unit_of
    file_tells = same_unit (unit_fields bytes).value again.has

pub spelled_again : (bytes : List ℕ) (unit : MethodUnit) → IsUnit unit → IsSpelledBy unit bytes → (first_unit_fault bytes ≡ None) × (unit_of bytes ≡ unit)
spelled_again bytes unit is spelled = (file_passes unit is bytes spelled, file_tells unit is bytes spelled)

-- Bytes spell one unit, in whatever form.
pub one_spelled : (bytes : List ℕ) (a b : MethodUnit) → IsUnit a → IsUnit b → IsSpelledBy a bytes → IsSpelledBy b bytes → a ≡ b
one_spelled bytes a b is other spelled same = sym (spelled_again bytes a is spelled).1 ∙ (spelled_again bytes b other same).1

-- ---- what is written

pub unit_spelled : (unit : MethodUnit) → IsUnit unit → IsSpelledBy unit (unit_bytes unit)
unit_spelled unit is = written_spells unit (unit_has_fields unit is.well_formed)

pub unit_again : (unit : MethodUnit) → IsUnit unit → (first_unit_fault (unit_bytes unit) ≡ None) × (unit_of (unit_bytes unit) ≡ unit)
unit_again unit is = spelled_again (unit_bytes unit) unit is (unit_spelled unit is)

-- Units of one key are one.
pub one_unit : (a b : MethodUnit) → IsUnit a → IsUnit b → unit_bytes a ≡ unit_bytes b → a ≡ b
one_unit a b is other same = sym (unit_again a is).1 ∙ (ap unit_of same ∙ (unit_again b other).1)
