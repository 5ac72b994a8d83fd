-- A file without a fault spells the unit that is read of it.
use Rattle.std.proofs.Common.{◌≡◌, ℕ, ◌≤◌, zero, suc, true, List, [], ◌∷◌, ◌++◌, length, map, Option, Some, None, option_map, slice_get, refl, sym, ap, subst, ◌∙◌, arith}
use Rattle.std.specs.List.{AllByRecursion}
use Rattle.cc_base.specs.LittleEndian.{IsBytes}
use Rattle.cc_base.specs.Tests.{first_of}
use Rattle.cc_base.proofs.TestLemmas.{must_hold, none_before, none_behind, none_here}
use Rattle.cil_model.specs.Blocks.{start_of_body}
use Rattle.cil_model.specs.ClauseTrees.{clauses_in}
use Rattle.cil_model.specs.Limits.{MAX_BLOCKS, MAX_INSTRUCTIONS}
use Rattle.cil_model.specs.TreeKinds.{IsNumberClause}
use Rattle.cil_model.specs.Bodies.{HasBody}
use Rattle.cil_model.specs.WellFormed.{ClausesWithinLimits, IsWellFormed, told_by_code}
use Rattle.cil_model.proofs.TypedCode.{formed_never_stuck}
use Rattle.cil_model.proofs.Lists.{all_append}
use Rattle.cil_model.specs.declared.clause.Clause.{Clause}
use Rattle.cil_model.specs.declared.instruction.Instr.{Instr}
use Rattle.cil_model.specs.declared.shape.Shape.{Shape}
use Rattle.cil_model.specs.declared.unit.Unit.{Unit as MethodUnit}
use Rattle.cil_model.proofs.Rows.{code_is_decoded}
use Rattle.clause_faults.specs.Faults.{first_clause_fault}
use Rattle.flow_graph.specs.BlocksOf.{block_starts}
use Rattle.flow_graph.proofs.GraphFacts.{blocks_counted}
use Rattle.il_decoder.specs.Decoding.{instructions_of}
use Rattle.unit_form.specs.Spelling.{IsSpelledBy}
use Rattle.unit_form.specs.UnitFields.{FieldsOfUnit, unit_fields}
use Rattle.unit_form.proofs.OffsetsCounted.{offsets_counted}
use Rattle.unit_form.proofs.AddedClauses.{added_behind}
use Rattle.unit_form.proofs.UnitTaken.{UnitTaken, unit_taken as fields_taken}
use Rattle.unit_form.specs.AddedClauses.{MayBeAdded, added_clauses}
use Rattle.method_unit.specs.UnitFile.{added_test, block_test, clause_test, code_tests_of, count_test, decoding_test, field_test, first_unit_fault, fit_together, instr_tests, number_tests, order_tests, shape_told, start_test, told_clauses, typing_test, unit_of, unit_told}
use Rattle.method_unit.specs.UnitOf.{IsRead, IsUnitIn, IsUnitOf}
use Rattle.method_unit.specs.Units.{IsUnit}
use Rattle.method_unit.proofs.OrderOfUse.{numbers_are_named, order_is_use}
use Rattle.method_unit.proofs.ToldClauses.{are_told, limits_kept}

-- ---- tests that are passed

none_of : {X Y : Type 0} (f : X → Y) (x : Option X) → option_map f x ≡ None → x ≡ None
none_of f None none = refl
none_of f (Some x) none = absurd cc

-- Nothing stands at an index, so the list ends before.
ends_before : {X : Type 0} (xs : List X) (n : ℕ) → slice_get xs n ≡ None → length xs ≤ n
ends_before [] n none = omega arith
ends_before (x ∷ xs) zero none = absurd cc
ends_before (x ∷ xs) (suc n) none = omega (arith, ends_before xs n none)

pub record InstrsPassed (base : ℕ) (shape : Shape) (offsets : List ℕ) (added : List Clause) (is : List Instr) : Type 0 where
  pub few : length is ≤ MAX_INSTRUCTIONS
  pub numbers : first_of (number_tests base (length shape.callees) is) ≡ None
  pub clauses : first_clause_fault is shape ≡ None
  pub together : fit_together (told_clauses is ++ added) ≡ true
  pub blocks : length (block_starts is (start_of_body is)) ≤ MAX_BLOCKS
  pub order : first_of (order_tests is offsets) ≡ None

instrs_passed : (base : ℕ) (shape : Shape) (offsets : List ℕ) (added : List Clause) (at : ℕ) (is : List Instr) → first_of (instr_tests base shape offsets added at is) ≡ None → InstrsPassed base shape offsets added is
unfolding instr_tests count_test clause_test added_test start_test
instrs_passed base shape offsets added at is none =
    let numbers = number_tests base (length shape.callees) is in
    let last = typing_test base is shape ∷ [] in
    let order = order_tests is offsets in
    let clauses = clause_test base is shape in
    let together = added_test (told_clauses is) added at in
    let blocks = block_test base is in
    let behind_count = none_behind (count_test base is ∷ []) (numbers ++ (clauses ∷ together ∷ blocks ∷ (order ++ last))) none in
    let behind_numbers = none_behind numbers (clauses ∷ together ∷ blocks ∷ (order ++ last)) behind_count in
    let behind_clauses = none_behind (clauses ∷ []) (together ∷ blocks ∷ (order ++ last)) behind_numbers in
    let behind_added = none_behind (together ∷ []) (blocks ∷ (order ++ last)) behind_clauses in
    let behind_blocks = none_behind (blocks ∷ []) (order ++ last) behind_added in
    record {
      few = ends_before is MAX_INSTRUCTIONS (none_of _ _ (none_here (count_test base is) _ none));
      numbers = none_before numbers _ behind_count;
      clauses = none_of _ _ (none_here clauses _ behind_numbers);
      together = (must_hold _ _).0 (none_here together _ behind_clauses);
      blocks = ends_before _ MAX_BLOCKS (none_of _ _ (none_here blocks _ behind_added));
      order = none_before order _ behind_blocks;
    }

-- ---- the unit

module _ (fields : FieldsOfUnit) (is : List Instr) (unit : MethodUnit) (of : IsUnitOf fields is unit) where
  written_are : of.told.written ≡ told_clauses is
  written_are = are_told is of.told.written of.told.contracts.told

  pub unit_is_told : unit ≡ unit_told fields is
  unit_is_told =
      let clauses = of.told.clauses ∙ ap (λ (written : List Clause). written ++ fields.added) written_are in
      λ i. record {
        name = of.told.name i;
        result = of.told.result i;
        args = of.told.args i;
        locals = of.told.locals i;
        max_stack = of.told.max_stack i;
        callees = of.told.callees i;
        code = of.told.code i;
        clauses = clauses i;
        body_start = of.told.contracts.body i;
        instrs = of.told.instrs i;
      }

module _ (bytes : List ℕ) (unit : MethodUnit) (fits : IsBytes bytes) (none : first_unit_fault bytes ≡ None) (of : IsUnitIn bytes unit) where
  fields : FieldsOfUnit
  fields = (unit_fields bytes).value

  is : List Instr
  is = instructions_of fields.code

  told : MethodUnit
  told = unit_told fields is

  fields_passed : first_of (unit_fields bytes).tests ≡ None
  unfolding first_unit_fault field_test
  fields_passed = none_here (field_test bytes) _ none

  passed : InstrsPassed fields.code_offset (shape_told fields) fields.callee_offsets fields.added is
  unfolding first_unit_fault code_tests_of fields is
  passed =
      let rest = instr_tests fields.code_offset (shape_told fields) fields.callee_offsets fields.added fields.added_offset is in
      let code = none_behind (field_test bytes ∷ []) (code_tests_of fields) none in
      instrs_passed fields.code_offset (shape_told fields) fields.callee_offsets fields.added fields.added_offset is (none_behind (decoding_test fields.code_offset fields.code ∷ []) rest code)

  told_are : clauses_in is ≡ map told_by_code (told_clauses is)
  unfolding fields is
  told_are = of.told.contracts.told ∙ ap (map told_by_code) (written_are fields is unit of)

  added_are : added_clauses told ≡ fields.added
  unfolding fields is told
  added_are = added_behind is (told_clauses is) fields.added told_are

  taken : UnitTaken bytes told
  unfolding fields is told
  taken =
      fields_taken bytes told fits fields_passed
      (record { name = refl; result = refl; args = refl; locals = refl; max_stack = refl; callees = refl; code = refl; added = added_are })

  added_good : MayBeAdded fields.args fields.result fields.added
  unfolding fields is told
  added_good = subst (MayBeAdded fields.args fields.result) added_are taken.fields.added

  -- The clauses of both kinds keep the limits together.
  within : ClausesWithinLimits (told_clauses is ++ fields.added)
  unfolding fields is
  within =
      let written = subst ClausesWithinLimits (written_are fields is unit of) of.limits in
      let kept = limits_kept (told_clauses is ++ fields.added) passed.together in
      record {
        count = kept.0;
        nodes = all_append _ (told_clauses is) fields.added written.nodes added_good.limits.nodes;
        conditions = all_append _ (told_clauses is) fields.added written.conditions added_good.limits.conditions;
        old_values = kept.1;
      }

  well_formed : IsWellFormed told
  unfolding fields is told
  well_formed =
      let written = written_are fields is unit of in
      let decoded = code_is_decoded is fields.code of.spelled in
      record {
        name = taken.fields.name;
        code = of.spelled;
        body = refl;
        args = taken.fields.args;
        locals = taken.fields.locals;
        named = numbers_are_named fields.code_offset (length fields.callees) is passed.numbers;
        clauses = record { written = told_clauses is; added = fields.added; all = refl; told = told_are; ensures = added_good.ensures };
        order = order_is_use fields.code_offset (length fields.callees) is fields.callee_offsets (offsets_counted bytes) passed.numbers passed.order;
        callees = taken.fields.callees;
        numbers = all_append _ (told_clauses is) fields.added
            (subst (AllByRecursion (IsNumberClause fields.args fields.result)) written (of.numbers of.kinds.0 decoded of.kinds.1)) added_good.numbers;
        runs = record { stacks = of.kinds.0; kinds = of.kinds.1; body = subst (HasBody is of.kinds.0) of.told.contracts.body (of.body of.kinds.0 decoded of.kinds.1) };
        limits = record {
          code = taken.fields.code;
          instructions = passed.few;
          blocks = omega (arith, blocks_counted told, passed.blocks);
          variables = taken.fields.variables;
          clauses = within;
        };
      }

  pub unit_read : IsRead bytes unit
  unfolding unit_of fields is told
  unit_read =
      let same = unit_is_told fields is unit of in
      let is_unit = subst IsUnit (sym same) (record { well_formed = well_formed; clauses = passed.clauses }) in
      record {
        same = same;
        is_unit = is_unit;
        runs = formed_never_stuck unit is_unit.well_formed;
        spelled = subst (λ (u : MethodUnit). IsSpelledBy u bytes) (sym same) taken.spelled;
      }
