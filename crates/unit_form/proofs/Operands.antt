-- What is wrong with the operand of a root.
use Rattle.std.proofs.Common.{◌≡◌, ℕ, ◌+◌, List, [], Some, None, ap, ◌∙◌, sym}
use Rattle.std.specs.Prelude.{is_some}
use Rattle.std.specs.Option.{option_map_or}
use Rattle.cc_base.specs.Tests.{first_of, must}
use Rattle.cc_base.proofs.TestLemmas.{first_of-append_none, first_of-append_some, first_of-nil, first_of-none, must-failed}
use Rattle.cil_model.specs.TermCodes.{Root, NullRoot}
use Rattle.unit_form.specs.Fields.{bytes_field}
use Rattle.unit_form.specs.Parses.{IsRead}
use Rattle.unit_form.specs.TreeFields.{operand_field, operand_size, root_of}
use Rattle.unit_form.specs.declared.unit_fault.UnitFault.{UnitFault}
use Rattle.unit_form.specs.declared.unit_fault.UnitFault.TheVariants.{Form}
use Rattle.unit_form.specs.declared.form.UnitForm.{UnitForm}

pub operand_cut : (form : UnitForm) (bytes : List ℕ) (at tag size : ℕ) (fault : UnitFault) → size ≡ operand_size form tag → first_of (bytes_field size bytes at).tests ≡ Some fault
    → first_of (operand_field form tag bytes at).tests ≡ Some fault
unfolding operand_field
operand_cut form bytes at tag size fault e cut =
    let same : first_of (bytes_field (operand_size form tag) bytes at).tests ≡ Some fault = rw (← e) cut in
    first_of-append_some _ _ fault same

pub operand_broken : (form : UnitForm) (bytes operand : List ℕ) (at tag size : ℕ) → size ≡ operand_size form tag → first_of (bytes_field size bytes at).tests ≡ None
    → operand ≡ (bytes_field size bytes at).value → root_of form tag operand ≡ None → first_of (operand_field form tag bytes at).tests ≡ Some (Form at)
unfolding operand_field
operand_broken form bytes operand at tag size e passed is none =
    let found : root_of form tag (bytes_field (operand_size form tag) bytes at).value ≡ None = rw (← e, ← is) none in
    let same : first_of (bytes_field (operand_size form tag) bytes at).tests ≡ None = rw (← e) passed in
    first_of-append_none _ _ same ∙ must-failed _ (Form at) _ (ap is_some found)

pub operand_read : (form : UnitForm) (bytes operand : List ℕ) (at tag size : ℕ) (root : Root) → size ≡ operand_size form tag → first_of (bytes_field size bytes at).tests ≡ None
    → IsRead bytes (bytes_field size bytes at) operand (at + size) → root_of form tag operand ≡ Some root
    → (first_of (operand_field form tag bytes at).tests ≡ None) × IsRead bytes (operand_field form tag bytes at) root (at + size)
unfolding operand_field
operand_read form bytes operand at tag size root e passed (is, next, inside) found =
    let same : root_of form tag (bytes_field (operand_size form tag) bytes at).value ≡ Some root = rw (← e, ← is) found in
    let before : first_of (bytes_field (operand_size form tag) bytes at).tests ≡ None = rw (← e) passed in
    let behind : at + size ≡ (bytes_field (operand_size form tag) bytes at).next = rw (← e) next in (
      first_of-append_none _ _ before ∙ first_of-none _ [] (ap (λ holds. must holds (Form at)) (ap is_some same)) ∙ first_of-nil,
      (sym (ap (λ it. option_map_or (λ found. found) it NullRoot) same), behind, inside),
    )
