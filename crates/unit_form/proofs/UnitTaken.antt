-- A unit file whose fields pass their tests is the spelling of these fields.
use Rattle.std.proofs.Common.{◌≡◌, ℕ, ◌+◌, ◌≤◌, Bool, true, false, List, [], ◌∷◌, ◌++◌, length, drop, None, refl, sym, ap, ◌∙◌, arith, append-nil}
use Rattle.std.specs.Prelude.{nat_le, slice_index, ◌==◌, ◌||◌}
use Rattle.std.specs.List.{AllByRecursion, flat_map}
use Rattle.std.proofs.lemmas.Bool.{leb-true, eqb-true}
use Rattle.std.proofs.lemmas.List.{append_assoc, drop_all}
use Rattle.byteorder.specs.Endian.{little_bytes}
use Rattle.cc_base.specs.LittleEndian.{IsBytes}
use Rattle.cc_base.specs.Tests.{first_of, must}
use Rattle.cc_base.proofs.TestLemmas.{none_before, none_behind, none_here}
use Rattle.cil_model.specs.Limits.{MAX_CODE_BYTES, MAX_VARIABLES}
use Rattle.cil_model.specs.Places.{place_number}
use Rattle.cil_model.specs.WellFormed.{ClausesWithinLimits, HasInts, IsAdded}
use Rattle.cil_model.specs.declared.clause.Clause.{Clause}
use Rattle.cil_model.specs.declared.place.Place.{Place}
use Rattle.cil_model.specs.declared.unit.Unit.{Unit as MethodUnit}
use Rattle.unit_form.specs.AddedClauses.{MayBeAdded, added_clauses}
use Rattle.unit_form.specs.Callees.{callee_fields, clauses_field, next_callee}
use Rattle.unit_form.specs.FieldsRead.{HasRead}
use Rattle.unit_form.specs.Fields.{bytes_field, count_field, name_field, place_field, u16_field, u32_field, variables_field}
use Rattle.unit_form.specs.Forms.{IsCount, MayAdd, count_bytes, form_numbered, form_of, is_form_number, magic}
use Rattle.unit_form.specs.Parses.{field}
use Rattle.unit_form.specs.Spelling.{HasFields, IsSpelledBy, added_bytes, callee_bytes, fields_bytes, name_bytes, places_bytes, shape_bytes, unit_spelling}
use Rattle.unit_form.specs.declared.unit_fault.UnitFault.TheVariants.{Form, Version}
use Rattle.unit_form.specs.UnitFields.{added_field, code_field, end_tests, fields_in, magic_tests, max_stack_field, unit_fields}
use Rattle.unit_form.specs.declared.clause_list.ClauseList.TheVariants.{Added}
use Rattle.unit_form.specs.declared.form.UnitForm.{UnitForm}
use Rattle.unit_form.specs.declared.form.UnitForm.TheVariants.{First, Second, Third}
use Rattle.unit_form.proofs.CalleesTaken.{IsOfList, callees_taken, clauses_taken}
use Rattle.unit_form.proofs.Counted.{length-many}
use Rattle.unit_form.proofs.Stands.{byte_stands}
use Rattle.unit_form.proofs.Taken.{Stands, both_true, bytes_taken, count_small, count_taken, field_lies, holds, length-bytes_field, name_taken, place_taken, u16_taken, u16_small, u32_taken, variables_taken}

-- The number of a form is the last byte of its magic.
number_form : (number : ℕ) → is_form_number number ≡ true → magic (form_numbered number) ≡ 67 ∷ 67 ∷ 85 ∷ number ∷ []
number_form number e = by_first (number == 0x31) (number == 0x32) (number == 0x33) refl refl refl e
  where
    by_first : (one two three : Bool) → (number == 0x31) ≡ one → (number == 0x32) ≡ two → (number == 0x33) ≡ three → (one || (two || three)) ≡ true
        → magic (form_numbered number) ≡ 67 ∷ 67 ∷ 85 ∷ number ∷ []
    by_first true two three e1 e2 e3 e = rw e1 (ap (λ (n : ℕ). 67 ∷ 67 ∷ 85 ∷ n ∷ []) (sym (eqb-true number 0x31 e1)))
    by_first false true three e1 e2 e3 e = rw (e1, e2) (ap (λ (n : ℕ). 67 ∷ 67 ∷ 85 ∷ n ∷ []) (sym (eqb-true number 0x32 e2)))
    by_first false false true e1 e2 e3 e = rw (e1, e2) (ap (λ (n : ℕ). 67 ∷ 67 ∷ 85 ∷ n ∷ []) (sym (eqb-true number 0x33 e3)))
    by_first false false false e1 e2 e3 e = absurd (cc)

magic_taken : (bytes : List ℕ) → first_of (magic_tests bytes) ≡ None → bytes ≡ magic (form_of bytes) ++ drop 4 bytes
unfolding magic_tests form_of
magic_taken bytes passed =
    let t0 = field bytes 0 4 in
    let t1 = must (slice_index bytes 0 == 67) (Form 0) in
    let t2 = must (slice_index bytes 1 == 67) (Form 1) in
    let t3 = must (slice_index bytes 2 == 85) (Form 2) in
    let t4 = must (is_form_number (slice_index bytes 3)) (Version 3) in
    let r1 = none_behind (t0 ∷ []) (t1 ∷ t2 ∷ t3 ∷ t4 ∷ []) passed in
    let r2 = none_behind (t1 ∷ []) (t2 ∷ t3 ∷ t4 ∷ []) r1 in
    let r3 = none_behind (t2 ∷ []) (t3 ∷ t4 ∷ []) r2 in
    let r4 = none_behind (t3 ∷ []) (t4 ∷ []) r3 in
    let long = field_lies bytes 0 4 (none_here t0 _ passed) in
    let one = byte_stands bytes 0 67 (omega (arith, long)) (eqb-true _ 67 (holds _ _ (none_here t1 _ r1))) in
    let two = byte_stands bytes 1 67 (omega (arith, long)) (eqb-true _ 67 (holds _ _ (none_here t2 _ r2))) in
    let three = byte_stands bytes 2 85 (omega (arith, long)) (eqb-true _ 85 (holds _ _ (none_here t3 _ r3))) in
    let four = byte_stands bytes 3 (slice_index bytes 3) (omega (arith, long)) refl in
    let letters : bytes ≡ 67 ∷ 67 ∷ 85 ∷ slice_index bytes 3 ∷ drop 4 bytes = cc in
    letters ∙ ap (λ (t : List ℕ). t ++ drop 4 bytes) (sym (number_form (slice_index bytes 3) (holds _ _ (none_here t4 _ r4))))

stack_taken : (form : UnitForm) (variables : ℕ) (bytes : List ℕ) (at : ℕ) → IsBytes bytes → first_of (max_stack_field form variables bytes at).tests ≡ None
    → Stands bytes at (max_stack_field form variables bytes at) (count_bytes form (max_stack_field form variables bytes at).value)
    × (variables + (max_stack_field form variables bytes at).value ≤ MAX_VARIABLES) × IsCount form (max_stack_field form variables bytes at).value
unfolding max_stack_field
stack_taken form variables bytes at fits passed =
    let size = count_field form bytes at in
    let two = none_here _ [] (none_behind size.tests _ passed) in
    (record { there = (count_taken form bytes at fits (none_before size.tests _ passed)).there }, leb-true _ _ (holds _ _ two), count_small form bytes at fits)

code_taken : (bytes : List ℕ) (at : ℕ) → IsBytes bytes → first_of (code_field bytes at).tests ≡ None
    → (drop at bytes ≡ little_bytes 4 (length (code_field bytes at).value) ++ ((code_field bytes at).value ++ drop (code_field bytes at).next bytes))
    × (length (code_field bytes at).value ≤ MAX_CODE_BYTES)
unfolding code_field
code_taken bytes at fits passed =
    let count = u32_field bytes at in
    let code = bytes_field count.value bytes count.next in
    let t1 = must (nat_le count.value MAX_CODE_BYTES) (Form at) in
    let rest = none_behind count.tests (t1 ∷ code.tests) passed in
    let size = length-bytes_field count.value bytes count.next (none_behind (t1 ∷ []) code.tests rest) in
    let few = leb-true _ _ (holds _ _ (none_here t1 _ rest)) in (
      (u32_taken bytes at fits (none_before count.tests _ passed)).there ∙ ap (λ (n : ℕ). little_bytes 4 n ++ drop count.next bytes) (sym size)
          ∙ ap (λ (t : List ℕ). little_bytes 4 (length code.value) ++ t) (bytes_taken count.value bytes count.next).there,
      omega (arith, size, few),
    )

-- The clauses that were added, and nothing after them.
pub record AddedTaken (form : UnitForm) (args : List Place) (result : Place) (bytes : List ℕ) (at : ℕ) : Type 0 where
  pub stands : Stands bytes at (added_field form args result bytes at) (added_bytes form (added_field form args result bytes at).value)
  pub counted : MayAdd form (length (added_field form args result bytes at).value)
  pub good : MayBeAdded args result (added_field form args result bytes at).value

none_added : (args : List Place) (result : Place) → MayBeAdded args result []
none_added args result = record { ensures = tt; limits = record { count = omega arith; nodes = tt; conditions = tt; old_values = omega arith }; numbers = tt }

all_added : (clauses : List Clause) → AllByRecursion (λ clause. IsOfList Added clause.kind) clauses → AllByRecursion HasInts clauses → AllByRecursion IsAdded clauses
all_added [] of ints = tt
all_added (clause ∷ clauses) of ints = ((of.0, ints.0), all_added clauses of.1 ints.1)

added_taken : (form : UnitForm) (args : List Place) (result : Place) (bytes : List ℕ) (at : ℕ) → IsBytes bytes → first_of (added_field form args result bytes at).tests ≡ None
    → AddedTaken form args result bytes at
unfolding added_field
added_taken First args result bytes at fits passed = record { stands = record { there = refl }; counted = refl; good = none_added args result }
added_taken Second args result bytes at fits passed = record { stands = record { there = refl }; counted = refl; good = none_added args result }
added_taken Third args result bytes at fits passed =
    let taken = clauses_taken Added Third args result bytes at fits passed in
    let clauses = (clauses_field Added Third args result bytes at).value in
    record {
      stands = taken.stands;
      counted = leb-true _ _ (both_true (nat_le 1 (length clauses)) _ taken.counted).0;
      good = record { ensures = all_added clauses taken.kinds taken.ints; limits = taken.limits; numbers = taken.numbers };
    }

nothing_left : (bytes : List ℕ) (at : ℕ) → first_of (end_tests bytes at) ≡ None → drop at bytes ≡ []
unfolding end_tests
nothing_left bytes at passed = drop_all at bytes (leb-true _ _ (holds _ _ (none_here _ [] passed)))

-- Bytes that the fields of a unit begin, from its name on.
pub fields_onto : (form : UnitForm) (unit : MethodUnit) (rest : List ℕ)
    → fields_bytes form unit ++ rest
    ≡ name_bytes unit.name ++ (place_number unit.result ∷ (places_bytes form unit.args ++ (places_bytes form unit.locals ++ (count_bytes form unit.max_stack
    ++ (little_bytes 2 (length unit.callees) ++ (flat_map (callee_bytes form) unit.callees ++ (little_bytes 4 (length unit.code) ++ (unit.code ++ rest))))))))
unfolding fields_bytes shape_bytes
fields_onto form unit rest =
    let width = little_bytes 4 (length unit.code) in
    let callees = flat_map (callee_bytes form) unit.callees in
    let count = little_bytes 2 (length unit.callees) in
    let size = count_bytes form unit.max_stack in
    let part8 = width ++ unit.code in
    let part7 = callees ++ part8 in
    let part6 = count ++ part7 in
    let part4 = places_bytes form unit.locals ++ size in
    let part3 = places_bytes form unit.args ++ part4 in
    let behind : part6 ++ rest ≡ count ++ (callees ++ (width ++ (unit.code ++ rest))) =
    append_assoc count part7 rest
    ∙ ap (λ (t : List ℕ). count ++ t) (append_assoc callees part8 rest
    ∙ ap (λ (t : List ℕ). callees ++ t) (append_assoc width unit.code rest)) in
    append_assoc (name_bytes unit.name ++ (place_number unit.result ∷ part3)) part6 rest
    ∙ ap (λ (t : List ℕ). (name_bytes unit.name ++ (place_number unit.result ∷ part3)) ++ t) behind
    ∙ append_assoc (name_bytes unit.name) (place_number unit.result ∷ part3) _
    ∙ ap (λ (t : List ℕ). name_bytes unit.name ++ (place_number unit.result ∷ t)) (append_assoc (places_bytes form unit.args) part4 _
    ∙ ap (λ (t : List ℕ). places_bytes form unit.args ++ t) (append_assoc (places_bytes form unit.locals) size _))

pub record UnitTaken (bytes : List ℕ) (unit : MethodUnit) : Type 0 where
  pub spelled : IsSpelledBy unit bytes
  pub fields : HasFields unit

pub unit_taken : (bytes : List ℕ) (unit : MethodUnit) → IsBytes bytes → first_of (unit_fields bytes).tests ≡ None → HasRead unit (unit_fields bytes).value → UnitTaken bytes unit
unfolding unit_fields fields_in unit_spelling
unit_taken bytes unit fits passed has =
    let form = form_of bytes in
    let name = name_field bytes 4 in
    let result = place_field bytes name.next in
    let args = variables_field form 0 bytes result.next in
    let locals = variables_field form (length args.value) bytes args.next in
    let max_stack = max_stack_field form (length args.value + length locals.value) bytes locals.next in
    let count = u16_field bytes max_stack.next in
    let callees = callee_fields form count.value bytes count.next in
    let code = code_field bytes callees.next in
    let added = added_field form args.value result.value bytes code.next in
    let r9 = added.tests ++ end_tests bytes added.next in
    let r8 = code.tests ++ r9 in
    let r7 = callees.tests ++ r8 in
    let r6 = count.tests ++ r7 in
    let r5 = max_stack.tests ++ r6 in
    let r4 = locals.tests ++ r5 in
    let r3 = args.tests ++ r4 in
    let r2 = result.tests ++ r3 in
    let r1 = name.tests ++ r2 in
    let p1 = none_behind (magic_tests bytes) r1 passed in
    let p2 = none_behind name.tests r2 p1 in
    let p3 = none_behind result.tests r3 p2 in
    let p4 = none_behind args.tests r4 p3 in
    let p5 = none_behind locals.tests r5 p4 in
    let p6 = none_behind max_stack.tests r6 p5 in
    let p7 = none_behind count.tests r7 p6 in
    let p8 = none_behind callees.tests r8 p7 in
    let p9 = none_behind code.tests r9 p8 in
    let the_name = name_taken bytes 4 fits (none_before name.tests r2 p1) in
    let the_result = place_taken bytes name.next (none_before result.tests r3 p2) in
    let the_args = variables_taken form 0 bytes result.next fits (none_before args.tests r4 p3) in
    let the_locals = variables_taken form (length args.value) bytes args.next fits (none_before locals.tests r5 p4) in
    let the_stack = stack_taken form (length args.value + length locals.value) bytes locals.next fits (none_before max_stack.tests r6 p5) in
    let the_count = u16_taken bytes max_stack.next fits (none_before count.tests r7 p6) in
    let the_callees = callees_taken form count.value bytes count.next fits (none_before callees.tests r8 p7) in
    let the_code = code_taken bytes callees.next fits (none_before code.tests r9 p8) in
    let the_added = added_taken form args.value result.value bytes code.next fits (none_before added.tests (end_tests bytes added.next) p9) in
    let ends = nothing_left bytes added.next (none_behind added.tests (end_tests bytes added.next) p9) in
    let many = length-many (next_callee form bytes) [] count.value count.next in
    let part9 = added_bytes form added.value in
    let part8 = little_bytes 4 (length code.value) ++ (code.value ++ part9) in
    let e9 : drop code.next bytes ≡ part9 = the_added.stands.there ∙ ap (λ (t : List ℕ). part9 ++ t) ends ∙ append-nil part9 in
    let e8 : drop count.next bytes ≡ flat_map (callee_bytes form) callees.value ++ part8 =
    the_callees.0.there ∙ ap (λ (t : List ℕ). flat_map (callee_bytes form) callees.value ++ t) (the_code.0 ∙ ap (λ (t : List ℕ). little_bytes 4 (length code.value) ++ (code.value ++ t)) e9) in
    let e7 : drop max_stack.next bytes ≡ little_bytes 2 (length callees.value) ++ (flat_map (callee_bytes form) callees.value ++ part8) =
    the_count.there ∙ ap (λ (n : ℕ). little_bytes 2 n ++ drop count.next bytes) (sym many) ∙ ap (λ (t : List ℕ). little_bytes 2 (length callees.value) ++ t) e8 in
    let spelled : bytes ≡ magic form ++ (name_bytes name.value ++ (place_number result.value ∷ (places_bytes form args.value ++ (places_bytes form locals.value ++ (count_bytes form max_stack.value
    ++ (little_bytes 2 (length callees.value) ++ (flat_map (callee_bytes form) callees.value ++ part8))))))) =
    magic_taken bytes (none_before (magic_tests bytes) r1 passed)
    ∙ ap (λ (t : List ℕ). magic form ++ t) (the_name.stands.there
    ∙ ap (λ (t : List ℕ). name_bytes name.value ++ t) (the_result.there
    ∙ ap (λ (t : List ℕ). place_number result.value ∷ t) (the_args.stands.there
    ∙ ap (λ (t : List ℕ). places_bytes form args.value ++ t) (the_locals.stands.there
    ∙ ap (λ (t : List ℕ). places_bytes form locals.value ++ t) (the_stack.0.there
    ∙ ap (λ (t : List ℕ). count_bytes form max_stack.value ++ t) e7))))) in
    record {
      spelled = record {
        form = form;
        counts = record {
          args = rw has.args the_args.count;
          locals = rw has.locals the_locals.count;
          max_stack = rw has.max_stack the_stack.2;
          callees = rw has.callees the_callees.2;
          added = rw has.added the_added.counted;
        };
        same = ap (λ (t : List ℕ). magic form ++ t) (fields_onto form unit (added_bytes form (added_clauses unit)))
            ∙ rw (has.name, has.result, has.args, has.locals, has.max_stack, has.callees, has.code, has.added) (sym spelled);
      };
      fields = record {
        name = rw has.name the_name.name;
        args = rw has.args the_args.hold;
        locals = rw has.locals the_locals.hold;
        variables = rw (has.args, has.locals, has.max_stack) the_stack.1;
        callees = rw has.callees the_callees.1;
        count = rw has.callees (omega (arith, many, u16_small bytes max_stack.next fits));
        code = rw has.code the_code.1;
        added = rw (has.args, has.result, has.added) the_added.good;
      };
    }

-- The added clauses that are read keep the limits together.
pub fields_taken_within : (bytes : List ℕ) → IsBytes bytes → first_of (unit_fields bytes).tests ≡ None → ClausesWithinLimits (unit_fields bytes).value.added
fields_taken_within bytes fits passed =
    let fields = (unit_fields bytes).value in
    let unit : MethodUnit = record {
      name = fields.name;
      result = fields.result;
      args = fields.args;
      locals = fields.locals;
      max_stack = fields.max_stack;
      callees = fields.callees;
      code = fields.code;
      clauses = fields.added;
      body_start = 0;
      instrs = [];
    } in
    let has : HasRead unit fields = record { name = refl; result = refl; args = refl; locals = refl; max_stack = refl; callees = refl; code = refl; added = refl } in
    (unit_taken bytes unit fits passed has).fields.added.limits
