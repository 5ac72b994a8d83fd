-- The spelling of a unit passes the tests of its fields, and they are read from it again.
use Rattle.std.proofs.Common.{◌≡◌, ℕ, ◌+◌, ◌≤◌, List, [], ◌∷◌, ◌++◌, length, drop, None, Result, Ok, Err, refl, sym, subst, subst₂, ap, ap₂, ◌∙◌, arith, append-nil, length-drop}
use Rattle.std.specs.Prelude.{IfOk, nat_le, slice_index, ◌==◌}
use Rattle.std.specs.List.{flat_map, AllByRecursion}
use Rattle.std.proofs.lemmas.Bool.{le-leb}
use Rattle.byteorder.specs.Endian.{little_bytes}
use Rattle.cc_base.specs.LittleEndian.{IsBytes}
use Rattle.cc_base.specs.Tests.{first_of, GivesOnly, JudgesOrNoMemory}
use Rattle.cc_base.specs.declared.refusal.Refusal.{Refusal}
use Rattle.cc_base.specs.declared.refusal.Refusal.TheVariants.{Bad, NoMemory}
use Rattle.cc_base.proofs.TestLemmas.{first_of-append_none, first_of-nil}
use Rattle.cil_model.specs.Limits.{MAX_CODE_BYTES, MAX_VARIABLES}
use Rattle.cil_model.specs.Places.{place_number}
use Rattle.cil_model.specs.WellFormed.{ClausesWithinLimits, HasInts, IsAdded, IsCallee}
use Rattle.cil_model.specs.declared.clause.Clause.{Clause}
use Rattle.cil_model.specs.declared.place.Place.{Place}
use Rattle.cil_model.specs.declared.unit.CalleeInfo.{CalleeInfo}
use Rattle.cil_model.specs.declared.unit.Unit.{Unit as MethodUnit}
use Rattle.unit_form.specs.AddedClauses.{MayBeAdded, added_clauses}
use Rattle.unit_form.specs.Callees.{callee_fields}
use Rattle.unit_form.specs.FieldsRead.{HasRead}
use Rattle.unit_form.specs.Fields.{count_field, name_field, place_field, u16_field, u32_field, variables_field}
use Rattle.unit_form.specs.Forms.{IsCount, MayAdd, count_bytes, form_of, is_form_number, magic}
use Rattle.unit_form.specs.Parses.{field}
use Rattle.unit_form.specs.Spelling.{HasCounts, HasFields, IsSpelledBy, added_bytes, callee_bytes, clauses_bytes, fields_bytes, form_with, name_bytes, places_bytes, unit_bytes, unit_spelling}
use Rattle.unit_form.specs.UnitFields.{FieldsOfUnit, added_field, code_field, end_tests, fields_in, magic_tests, max_stack_field, unit_fields}
use Rattle.unit_form.specs.declared.clause_list.ClauseList.TheVariants.{Added}
use Rattle.unit_form.specs.declared.unit_fault.UnitFault.{UnitFault}
use Rattle.unit_form.specs.declared.form.UnitForm.{UnitForm}
use Rattle.unit_form.specs.declared.form.UnitForm.TheVariants.{First, Second, Third}
use Rattle.unit_form.proofs.Again.{ReadsBack, both, bytes_again, count_again, field_inside, name_again, one_test, place_again, test_before, u16_again, u32_again, variables_again}
use Rattle.unit_form.proofs.CalleesAgain.{callees_again, clauses_again}
use Rattle.unit_form.proofs.CalleesTaken.{IsOfList}
use Rattle.unit_form.proofs.UnitTaken.{fields_onto, fields_taken_within, unit_taken}
use Rattle.unit_form.proofs.WholeTrees.{no_fault}
use Rattle.unit_form.proofs.Stands.{lies}

-- A file that begins with the magic of a form has that form.

magic_again : (form : UnitForm) (bytes rest : List ℕ) → bytes ≡ magic form ++ rest → first_of (magic_tests bytes) ≡ None
unfolding magic_tests
magic_again First bytes rest there =
    let long : 4 ≤ length bytes = omega (arith, lies bytes 0 (magic First) rest there (omega arith)) in
    first_of-append_none (field bytes 0 4 ∷ []) _ (field_inside bytes 0 4 long)
    ∙ test_before (slice_index bytes 0 == 67) _ _ (rw there refl) (test_before (slice_index bytes 1 == 67) _ _ (rw there refl)
    (test_before (slice_index bytes 2 == 85) _ _ (rw there refl) (one_test (is_form_number (slice_index bytes 3)) _ (rw there refl))))
magic_again Second bytes rest there =
    let long : 4 ≤ length bytes = omega (arith, lies bytes 0 (magic Second) rest there (omega arith)) in
    first_of-append_none (field bytes 0 4 ∷ []) _ (field_inside bytes 0 4 long)
    ∙ test_before (slice_index bytes 0 == 67) _ _ (rw there refl) (test_before (slice_index bytes 1 == 67) _ _ (rw there refl)
    (test_before (slice_index bytes 2 == 85) _ _ (rw there refl) (one_test (is_form_number (slice_index bytes 3)) _ (rw there refl))))
magic_again Third bytes rest there =
    let long : 4 ≤ length bytes = omega (arith, lies bytes 0 (magic Third) rest there (omega arith)) in
    first_of-append_none (field bytes 0 4 ∷ []) _ (field_inside bytes 0 4 long)
    ∙ test_before (slice_index bytes 0 == 67) _ _ (rw there refl) (test_before (slice_index bytes 1 == 67) _ _ (rw there refl)
    (test_before (slice_index bytes 2 == 85) _ _ (rw there refl) (one_test (is_form_number (slice_index bytes 3)) _ (rw there refl))))

form_again : (form : UnitForm) (bytes rest : List ℕ) → bytes ≡ magic form ++ rest → form_of bytes ≡ form
unfolding form_of
form_again First bytes rest there = rw there refl
form_again Second bytes rest there = rw there refl
form_again Third bytes rest there = rw there refl

behind_magic : (form : UnitForm) (rest : List ℕ) → drop 4 (magic form ++ rest) ≡ rest
behind_magic First rest = refl
behind_magic Second rest = refl
behind_magic Third rest = refl

stack_again : (form : UnitForm) (variables : ℕ) (bytes : List ℕ) (at size : ℕ) (rest : List ℕ) → IsCount form size → variables + size ≤ MAX_VARIABLES → drop at bytes ≡ count_bytes form size ++ rest → ReadsBack bytes (max_stack_field form variables bytes at) size rest
unfolding max_stack_field
stack_again form variables bytes at size rest counted few there =
    let found = count_field form bytes at in
    let one = count_again form bytes at size rest counted there in
    record {
      passed = first_of-append_none found.tests _ one.passed ∙ one_test _ _ (ap (λ (n : ℕ). nat_le (variables + n) MAX_VARIABLES) one.value ∙ le-leb _ _ few);
      value = one.value;
      behind = one.behind;
      inside = one.inside;
    }

code_again : (bytes : List ℕ) (at : ℕ) (code rest : List ℕ) → length code ≤ MAX_CODE_BYTES → drop at bytes ≡ little_bytes 4 (length code) ++ (code ++ rest) → ReadsBack bytes (code_field bytes at) code rest
unfolding code_field
code_again bytes at code rest few there =
    let count = u32_field bytes at in
    let one = u32_again bytes at (length code) (code ++ rest) (omega (arith, few)) there in
    let two = bytes_again bytes count.next count.value code rest one.value one.inside one.behind in
    record {
      passed = first_of-append_none count.tests _ one.passed ∙ test_before _ _ _ (ap (λ (n : ℕ). nat_le n MAX_CODE_BYTES) one.value ∙ le-leb _ _ few) two.passed;
      value = two.value;
      behind = two.behind;
      inside = two.inside;
    }

-- ---- added clauses

nothing : (clauses : List Clause) → length clauses ≡ 0 → [] ≡ clauses
nothing [] none = refl
nothing (clause ∷ clauses) none = absurd (omega (arith, none))

of_added : (clauses : List Clause) → AllByRecursion IsAdded clauses → AllByRecursion (λ clause. IsOfList Added clause.kind) clauses
of_added [] all = tt
of_added (clause ∷ clauses) all = (all.0.0, of_added clauses all.1)

have_ints : (clauses : List Clause) → AllByRecursion IsAdded clauses → AllByRecursion HasInts clauses
have_ints [] all = tt
have_ints (clause ∷ clauses) all = (all.0.1, have_ints clauses all.1)

added_again : (form : UnitForm) (args : List Place) (result : Place) (bytes : List ℕ) (at : ℕ) (clauses : List Clause) → IsCount form (length args) → MayAdd form (length clauses) → MayBeAdded args result clauses
    → at ≤ length bytes → drop at bytes ≡ added_bytes form clauses → ReadsBack bytes (added_field form args result bytes at) clauses []
unfolding added_field
added_again First args result bytes at clauses few counted good before there = record { passed = first_of-nil; value = nothing clauses counted; behind = there; inside = before }
added_again Second args result bytes at clauses few counted good before there = record { passed = first_of-nil; value = nothing clauses counted; behind = there; inside = before }
added_again Third args result bytes at clauses few counted good before there =
    clauses_again Added Third args result bytes at clauses [] few (both _ _ (le-leb 1 (length clauses) counted) (le-leb _ _ good.limits.count)) (of_added clauses good.ensures) good.limits (have_ints clauses good.ensures) good.numbers
    (there ∙ sym (append-nil (clauses_bytes Third clauses)))

end_again : (bytes : List ℕ) (at : ℕ) → drop at bytes ≡ [] → first_of (end_tests bytes at) ≡ None
unfolding end_tests
end_again bytes at nothing = one_test _ _ (le-leb _ _ (omega (arith, ap length nothing, length-drop at bytes)))

-- The fields behind the magic are read again.
record FieldsAgain (form : UnitForm) (bytes : List ℕ) (unit : MethodUnit) : Type 0 where
  passed : first_of (fields_in form bytes).tests ≡ None
  has : HasRead unit (fields_in form bytes).value

fields_again : (form : UnitForm) (bytes : List ℕ) (unit : MethodUnit) → HasFields unit → HasCounts form unit → bytes ≡ unit_spelling form unit → FieldsAgain form bytes unit
unfolding fields_in unit_spelling
fields_again form bytes unit is counts there =
    let name = name_field bytes 4 in
    let result = place_field bytes name.next in
    let args = variables_field form 0 bytes result.next in
    let locals = variables_field form (length args.value) bytes args.next in
    let max_stack = max_stack_field form (length args.value + length locals.value) bytes locals.next in
    let count = u16_field bytes max_stack.next in
    let callees = callee_fields form count.value bytes count.next in
    let code = code_field bytes callees.next in
    let added = added_field form args.value result.value bytes code.next in
    let part9 = added_bytes form (added_clauses unit) in
    let part8 = little_bytes 4 (length unit.code) ++ (unit.code ++ part9) in
    let part7 = flat_map (callee_bytes form) unit.callees ++ part8 in
    let part6 = little_bytes 2 (length unit.callees) ++ part7 in
    let part5 = count_bytes form unit.max_stack ++ part6 in
    let part4 = places_bytes form unit.locals ++ part5 in
    let part3 = places_bytes form unit.args ++ part4 in
    let part2 = place_number unit.result ∷ part3 in
    let part1 = name_bytes unit.name ++ part2 in
    let d1 : drop 4 bytes ≡ part1 = ap (drop 4) there ∙ behind_magic form (fields_bytes form unit ++ part9) ∙ fields_onto form unit part9 in
    let one = name_again bytes 4 unit.name part2 is.name d1 in
    let two = place_again bytes name.next unit.result part3 one.behind in
    let three = variables_again form 0 bytes result.next unit.args part4 is.args counts.args (omega (arith, is.variables)) two.behind in
    let locals_there : ReadsBack bytes (variables_field form (length unit.args) bytes args.next) unit.locals part5 = variables_again form (length unit.args) bytes args.next unit.locals part5 is.locals counts.locals (omega (arith, is.variables)) three.behind in
    let four : ReadsBack bytes locals unit.locals part5 = subst (λ places. ReadsBack bytes (variables_field form (length places) bytes args.next) unit.locals part5) (sym three.value) locals_there in
    let stack_there : ReadsBack bytes (max_stack_field form (length unit.args + length unit.locals) bytes locals.next) unit.max_stack part6 = stack_again form (length unit.args + length unit.locals) bytes locals.next unit.max_stack part6 counts.max_stack is.variables four.behind in
    let variables : length args.value + length locals.value ≡ length unit.args + length unit.locals = ap₂ (λ a b. length a + length b) three.value four.value in
    let five : ReadsBack bytes max_stack unit.max_stack part6 = subst (λ n. ReadsBack bytes (max_stack_field form n bytes locals.next) unit.max_stack part6) (sym variables) stack_there in
    let six = u16_again bytes max_stack.next (length unit.callees) part7 (omega (arith, is.count)) five.behind in
    let callees_there : ReadsBack bytes (callee_fields form (length unit.callees) bytes count.next) unit.callees part8 = callees_again form bytes count.next unit.callees part8 is.callees counts.callees six.inside six.behind in
    let seven : ReadsBack bytes callees unit.callees part8 = subst (λ n. ReadsBack bytes (callee_fields form n bytes count.next) unit.callees part8) (sym six.value) callees_there in
    let eight = code_again bytes callees.next unit.code part9 is.code seven.behind in
    let added_there : ReadsBack bytes (added_field form unit.args unit.result bytes code.next) (added_clauses unit) [] = added_again form unit.args unit.result bytes code.next (added_clauses unit) counts.args counts.added is.added eight.inside eight.behind in
    let nine : ReadsBack bytes added (added_clauses unit) [] = subst₂ (λ places place. ReadsBack bytes (added_field form places place bytes code.next) (added_clauses unit) []) (sym three.value) (sym two.value) added_there in
    record {
      passed = first_of-append_none name.tests _ one.passed ∙ first_of-append_none result.tests _ two.passed
          ∙ first_of-append_none args.tests _ three.passed ∙ first_of-append_none locals.tests _ four.passed ∙ first_of-append_none max_stack.tests _ five.passed
          ∙ first_of-append_none count.tests _ six.passed ∙ first_of-append_none callees.tests _ seven.passed ∙ first_of-append_none code.tests _ eight.passed
          ∙ first_of-append_none added.tests _ nine.passed ∙ end_again bytes added.next nine.behind;
      has = record {
        name = sym one.value;
        result = sym two.value;
        args = sym three.value;
        locals = sym four.value;
        max_stack = sym five.value;
        callees = sym seven.value;
        code = sym eight.value;
        added = sym nine.value;
      };
    }

pub record UnitAgain (bytes : List ℕ) (unit : MethodUnit) : Type 0 where
  pub passed : first_of (unit_fields bytes).tests ≡ None
  pub has : HasRead unit (unit_fields bytes).value

pub unit_again : (bytes : List ℕ) (unit : MethodUnit) → HasFields unit → IsSpelledBy unit bytes → UnitAgain bytes unit
unfolding unit_fields unit_spelling
unit_again bytes unit is spelled =
    let there = sym spelled.same in
    let here = fields_again spelled.form bytes unit is spelled.counts there in
    let fields = subst (λ f. FieldsAgain f bytes unit) (sym (form_again spelled.form bytes _ there)) here in
    record { passed = first_of-append_none (magic_tests bytes) _ (magic_again spelled.form bytes _ there) ∙ fields.passed; has = fields.has }

-- ---- what is written

-- Each number below 65,536 can be written in the form in which a unit is.
is_count : (added : List Clause) (n : ℕ) → n ≤ 65_535 → IsCount (form_with added) n
is_count [] n few = omega (arith, few)
is_count (clause ∷ added) n few = omega (arith, few)

may_add : (added : List Clause) → MayAdd (form_with added) (length added)
may_add [] = refl
may_add (clause ∷ added) = omega arith

few_args : (added : List Clause) (callees : List CalleeInfo) → AllByRecursion IsCallee callees → AllByRecursion (λ callee. IsCount (form_with added) (length callee.args)) callees
few_args added [] all = tt
few_args added (callee ∷ callees) all = (is_count added (length callee.args) (omega (arith, all.0.few_args)), few_args added callees all.1)

-- Every unit is spelled in the form in which it is written.
pub written_spells : (unit : MethodUnit) → HasFields unit → IsSpelledBy unit (unit_bytes unit)
unfolding unit_bytes
written_spells unit is =
    let added = added_clauses unit in
    record {
      form = form_with added;
      counts = record {
        args = is_count added (length unit.args) (omega (arith, is.variables));
        locals = is_count added (length unit.locals) (omega (arith, is.variables));
        max_stack = is_count added unit.max_stack (omega (arith, is.variables));
        callees = few_args added unit.callees is.callees;
        added = may_add added;
      };
      same = refl;
    }

-- ---- answers

-- The fields that are read are those of a unit that the bytes spell.
pub fields_spelled : {F : Type 0} (bytes : List ℕ) (told : F → FieldsOfUnit) (answer : Result F (Refusal UnitFault)) → IsBytes bytes
    → JudgesOrNoMemory answer (first_of (unit_fields bytes).tests) (λ f. told f ≡ (unit_fields bytes).value)
    → IfOk answer (λ f. (unit : MethodUnit) → HasRead unit (told f) → IsSpelledBy unit bytes × HasFields unit)
fields_spelled bytes told (Ok f) fits judged = λ unit has.
    let taken = unit_taken bytes unit fits judged.0 (subst (λ g. HasRead unit g) judged.1 has) in
    (taken.spelled, taken.fields)
fields_spelled bytes told (Err refusal) fits judged = tt

-- A unit that the bytes spell has the fields that are read.
pub fields_only : {F : Type 0} (bytes : List ℕ) (unit : MethodUnit) (told : F → FieldsOfUnit) (answer : Result F (Refusal UnitFault)) → HasFields unit → IsSpelledBy unit bytes
    → JudgesOrNoMemory answer (first_of (unit_fields bytes).tests) (λ f. told f ≡ (unit_fields bytes).value) → GivesOnly answer (λ f. HasRead unit (told f))
fields_only bytes unit told (Ok f) is spelled judged = subst (λ g. HasRead unit g) (sym judged.1) (unit_again bytes unit is spelled).has
fields_only bytes unit told (Err (Bad fault)) is spelled judged = no_fault (sym judged ∙ (unit_again bytes unit is spelled).passed)
fields_only bytes unit told (Err NoMemory) is spelled judged = tt

-- The added clauses that are read keep the limits together.
pub added_within : {F : Type 0} (bytes : List ℕ) (told : F → FieldsOfUnit) (answer : Result F (Refusal UnitFault)) → IsBytes bytes
    → JudgesOrNoMemory answer (first_of (unit_fields bytes).tests) (λ f. told f ≡ (unit_fields bytes).value)
    → IfOk answer (λ f. ClausesWithinLimits (told f).added)
added_within bytes told (Ok f) fits judged =
    subst (λ (g : FieldsOfUnit). ClausesWithinLimits g.added) (sym judged.1) (fields_taken_within bytes fits judged.0)
added_within bytes told (Err refusal) fits judged = tt
