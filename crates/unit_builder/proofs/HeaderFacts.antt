-- The header of a method's body.
use Rattle.std.proofs.Common.{◌≡◌, ℕ, ◌+◌, ◌≤◌, Bool, true, false, List, [], length, take, drop, refl, sym, ap, subst, ◌∙◌, arith, length-drop, if◌then◌else◌}
use Rattle.std.specs.Prelude.{Option, Some, None, Result, Ok, Err, option_map, unwrap_or, nat_le}
use Rattle.std.specs.Option.{option_and_then}
use Rattle.std.proofs.lemmas.List.{length-take}
use Rattle.std.proofs.lemmas.Option.{none-some, same_Some}
use Rattle.asm_image.specs.Bodies.{has_il_body}
use Rattle.asm_image.specs.Tokens.{locals_of}
use Rattle.asm_image.specs.declared.method_row.MethodRow.{MethodRow}
use Rattle.cc_base.specs.Tests.{first_of, Judges}
use Rattle.unit_builder.specs.Making.{AreVariablesOf}
use Rattle.unit_builder.specs.declared.header.Variables.{Variables}
use Rattle.unit_builder.specs.declared.reason.Reason.{Reason}
use Rattle.il_decoder.specs.Body.{body_code, body_fault, code_at, code_fault, header_at, tiny_header}
use Rattle.il_decoder.specs.declared.body.Header.{Header}
use Rattle.pe_reader.specs.Addresses.{bytes_at, first_bytes, rest_at}
use Rattle.pe_reader.proofs.Rest.{any_length}
use Rattle.unit_builder.specs.Bodies.{code_told, header_of, locals_named, locals_told}
use Rattle.unit_builder.specs.Reasons.{header_tests, name_test}
use Rattle.cc_base.proofs.TestLemmas.{first_of-one}
use Rattle.cil_model.specs.declared.place.Place.{Place}

-- ---- methods without a header

pub no_locals : (asm : List ℕ) (method : MethodRow) → header_at asm method.rva ≡ None → locals_told asm (header_of asm method) ≡ []
unfolding header_of locals_told locals_named locals_of tiny_header
no_locals asm method none = rw none refl

pub no_stack : (asm : List ℕ) (method : MethodRow) → header_at asm method.rva ≡ None → (header_of asm method).max_stack ≡ 8
unfolding header_of tiny_header
no_stack asm method none = rw none refl

pub header_is : (asm : List ℕ) (method : MethodRow) (header : Header) → header_at asm method.rva ≡ Some header → header_of asm method ≡ header
unfolding header_of
header_is asm method header there = rw there refl

-- ---- how long the code is

first_short : (len : ℕ) (rest : Option (List ℕ)) (bytes : List ℕ) → first_bytes len rest ≡ Some bytes → length bytes ≤ len
first_short len None bytes some = absurd (none-some bytes some)
first_short len (Some rest) bytes some = by (nat_le len (length rest)) some
  where
    by : (fits : Bool) → (if fits then Some (take len rest) else None) ≡ Some bytes → length bytes ≤ len
    by true some = let same = same_Some _ _ some in subst (λ (b : List ℕ). length b ≤ len) same (let long = length-take len rest in omega (arith, long))
    by false some = absurd (none-some bytes some)

drop_short : (skip len : ℕ) (bytes : Option (List ℕ)) (code : List ℕ) → ((b : List ℕ) → bytes ≡ Some b → length b ≤ skip + len) → option_map (drop skip) bytes ≡ Some code → length code ≤ len
drop_short skip len None code short some = absurd (none-some code some)
drop_short skip len (Some bytes) code short some =
    subst (λ (c : List ℕ). length c ≤ len) (same_Some _ _ some) (let less = short bytes refl in let long = length-drop skip bytes in omega (arith, less, long))

-- The code after a header is as long as the header says.
pub code_short : (asm : List ℕ) (rva : ℕ) (header : Header) (code : List ℕ) → code_at asm rva header ≡ Some code → length code ≤ header.code_len
unfolding code_at
code_short asm rva header code there =
    drop_short header.len header.code_len (bytes_at asm rva (header.len + header.code_len)) code
    (λ bytes some. first_short (header.len + header.code_len) (rest_at asm rva) bytes (sym (any_length asm rva (header.len + header.code_len)) ∙ some)) there

code_found : (asm : List ℕ) (rva : ℕ) (header : Header) (code : List ℕ) → header_at asm rva ≡ Some header → body_code asm rva ≡ Some code → length code ≤ header.code_len
unfolding body_code
code_found asm rva header code there some = code_short asm rva header code (sym (ap (option_and_then (code_at asm rva)) there) ∙ some)

by_code : (asm : List ℕ) (rva : ℕ) (header : Header) (body : Bool) (code : Option (List ℕ)) → header_at asm rva ≡ Some header → body_code asm rva ≡ code
    → length (unwrap_or (if body then body_code asm rva else None) []) ≤ header.code_len
by_code asm rva header false code there is = omega arith
by_code asm rva header true None there is = rw is (omega arith)
by_code asm rva header true (Some code) there is = rw is (code_found asm rva header code there is)

pub told_short : (asm : List ℕ) (method : MethodRow) (header : Header) → header_at asm method.rva ≡ Some header → length (code_told asm method) ≤ header.code_len
unfolding code_told
told_short asm method header there = by_code asm method.rva header (has_il_body method) (body_code asm method.rva) there refl

-- A body without a fault has a header.
pub header_there : (asm : List ℕ) (rva : ℕ) → body_fault asm rva ≡ None → (header : Header) × (header_at asm rva ≡ Some header)
unfolding body_fault
header_there asm rva none = by (header_at asm rva) none
  where
    by : (found : Option Header) → code_fault asm rva found ≡ None → (header : Header) × (found ≡ Some header)
    by None none = absurd cc
    by (Some header) none = (header, refl)

-- A method without a header has the variables of one without code, where its name is passed.
pub without_header : (asm : List ℕ) (method : MethodRow) (locals : List Place) → header_at asm method.rva ≡ None → name_test method ≡ None → locals ≡ []
    → (first_of (header_tests asm method (header_at asm method.rva)) ≡ None) × ((locals ≡ locals_told asm (header_of asm method)) × (8 ≡ (header_of asm method).max_stack))
unfolding header_tests
without_header asm method locals none named empty =
    (rw none (first_of-one (name_test method) ∙ named), (empty ∙ sym (no_locals asm method none), sym (no_stack asm method none)))

-- What was read of the variables of a method, of a file that is this one.
pub variables_told : (asm other : List ℕ) (method : MethodRow) (read : Result Variables Reason) → asm ≡ other
    → Judges read (first_of (header_tests asm method (header_at asm method.rva)))
    (λ told. (told.locals ≡ locals_told asm (header_of asm method)) × (told.max_stack ≡ (header_of asm method).max_stack))
    → Judges read (first_of (header_tests other method (header_at other method.rva))) (AreVariablesOf other method)
variables_told asm other method (Ok variables) same judged =
    subst (λ (a : List ℕ). (first_of (header_tests a method (header_at a method.rva)) ≡ None) × AreVariablesOf a method variables) same
    (judged.0, record { locals = judged.1.0; max_stack = judged.1.1 })
variables_told asm other method (Err reason) same judged =
    subst (λ (a : List ℕ). first_of (header_tests a method (header_at a method.rva)) ≡ Some reason) same judged
