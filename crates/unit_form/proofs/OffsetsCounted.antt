-- Each callee that is read has an offset.
use Rattle.std.proofs.Common.{◌≡◌, ℕ, zero, suc, ◌+◌, List, [], length, refl, sym, ap, ◌∙◌}
use Rattle.unit_form.specs.Callees.{callee_field, callee_offsets, next_callee}
use Rattle.unit_form.specs.Fields.{name_field, place_field, u16_field, variables_field}
use Rattle.unit_form.specs.Forms.{form_of}
use Rattle.unit_form.specs.UnitFields.{fields_in, max_stack_field, unit_fields}
use Rattle.unit_form.specs.declared.form.UnitForm.{UnitForm}
use Rattle.unit_form.proofs.Counted.{length-many}

length-callee_offsets : (form : UnitForm) (count : ℕ) (bytes : List ℕ) (at : ℕ) → length (callee_offsets form count bytes at) ≡ count
unfolding callee_offsets
length-callee_offsets form zero bytes at = refl
length-callee_offsets form (suc count) bytes at = ap suc (length-callee_offsets form count bytes (callee_field form bytes at).next)

pub offsets_counted : (bytes : List ℕ) → length (unit_fields bytes).value.callee_offsets ≡ length (unit_fields bytes).value.callees
unfolding unit_fields fields_in
offsets_counted bytes =
    let form = form_of bytes in
    let name = name_field bytes 4 in
    let result = place_field bytes name.next in
    let args = variables_field form 0 bytes result.next in
    let locals = variables_field form (length args.value) bytes args.next in
    let max_stack = max_stack_field form (length args.value + length locals.value) bytes locals.next in
    let count = u16_field bytes max_stack.next in
    length-callee_offsets form count.value bytes count.next ∙ sym (length-many (next_callee form bytes) [] count.value count.next)
