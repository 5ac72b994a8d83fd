-- What is wrong with the code of a method, and what is kept of it.
use Rattle.std.proofs.Common.{◌≡◌, ℕ, zero, suc, ◌+◌, ◌<◌, Bool, true, false, List, [], ◌∷◌, ◌++◌, get_or, length, arith, inl, inr, refl, sym, ap, subst, ◌∙◌, if◌then◌else◌}
use Rattle.std.specs.Prelude.{◌⊎◌, replicate, Option, Some, None, unwrap_or, is_some}
use Rattle.std.specs.Option.{option_and_then}
use Rattle.std.proofs.lemmas.Option.{none-some}
use Rattle.asm_image.specs.Bodies.{has_il_body}
use Rattle.asm_image.specs.declared.method_row.MethodRow.{MethodRow}
use Rattle.cc_base.specs.Tests.{first_of, must}
use Rattle.cc_base.proofs.TestLemmas.{first_of-none, first_of-one, first_of-some}
use Rattle.il_decoder.specs.Body.{body_code, body_fault, code_at, code_fault, header_at}
use Rattle.il_decoder.specs.Decoding.{code_tests}
use Rattle.il_decoder.specs.declared.body.Header.{Header}
use Rattle.il_decoder.specs.declared.fault.IlFault.{IlFault}
use Rattle.il_decoder.specs.declared.fault.IlFault.TheVariants.{Short}
use Rattle.method_code.specs.OfMethods.{clauses_of as clauses_with, code_of, decoded_instrs, instrs_of}
use Rattle.method_code.specs.Reading.{IsCodeOf, IsReadOf}
use Rattle.method_code.specs.declared.code_reader.MethodCode.{MethodCode}
use Rattle.std.specs.declared.alloc.Global.{Global}
use Rattle.std.specs.declared.vec.Vec.{Vec}
use Rattle.unit_builder.proofs.MetLemmas.{before_or_last}
use Rattle.unit_builder.specs.Linked.{linked}
use Rattle.unit_builder.specs.Scopes.{Scope, alone, scope_in, scope_of}
use Rattle.unit_builder.specs.Bodies.{clauses_of, code_told, il_fault}
use Rattle.asm_image.specs.Rows.{methods_of}
use Rattle.std.proofs.lemmas.Option.{slice_get_within}
use Rattle.std.proofs.lemmas.List.{get_or-replicate, get_or_append_left, get_or_default, get_or_push, length-replicate, length_push}
use Rattle.cil_model.specs.declared.instruction.Instr.{Instr}
use Rattle.method_code.specs.Reading.{with_instrs}
use Rattle.unit_builder.specs.Slots.{AreAllSlots, AreSlots, IsSlotOf, IsWhole, TellsClauses}
use Rattle.unit_builder.specs.declared.slots.Slot.{Slot}
use Rattle.unit_builder.specs.declared.slots.Slot.TheVariants.{Unread, Faulty, Whole, Spent}

-- ---- what is wrong

-- A fault of the body is that of the method.
pub body_faulty : (s : Scope) (method : MethodRow) (fault : IlFault) → body_fault s.asm method.rva ≡ Some fault → il_fault s.asm method ≡ Some fault
unfolding il_fault
body_faulty s method fault some = first_of-some (body_fault s.asm method.rva) _ fault some

-- The code of a body that is whole.
code_there : (s : Scope) (method : MethodRow) (code : List ℕ) → has_il_body method ≡ true → body_code s.asm method.rva ≡ Some code → code_of s.asm method ≡ Some code
code_there s method code body there = rw body there

code_is_told : (s : Scope) (method : MethodRow) (code : List ℕ) → code_of s.asm method ≡ Some code → code_told s.asm method ≡ code
unfolding code_told
code_is_told s method code there = ap (λ (found : Option (List ℕ)). unwrap_or found []) there

-- What is wrong with a method whose body is whole, is what is wrong with its code.
fault_of_code : (s : Scope) (method : MethodRow) (code : List ℕ) → body_fault s.asm method.rva ≡ None → code_of s.asm method ≡ Some code
    → il_fault s.asm method ≡ first_of (code_tests code)
unfolding il_fault
fault_of_code s method code whole there =
    first_of-none (body_fault s.asm method.rva) _ whole
    ∙ (first_of-one (first_of (code_tests (code_told s.asm method))) ∙ ap (λ (told : List ℕ). first_of (code_tests told)) (code_is_told s method code there))

pub code_faulty : (s : Scope) (method : MethodRow) (code : List ℕ) (fault : IlFault) → has_il_body method ≡ true → body_fault s.asm method.rva ≡ None
    → body_code s.asm method.rva ≡ Some code → first_of (code_tests code) ≡ Some fault → il_fault s.asm method ≡ Some fault
code_faulty s method code fault body whole there some = fault_of_code s method code whole (code_there s method code body there) ∙ some

-- Code that was read is that of the method.
pub code_whole : (s : Scope) (method : MethodRow) (code : List ℕ) (read : MethodCode) → has_il_body method ≡ true → body_fault s.asm method.rva ≡ None
    → body_code s.asm method.rva ≡ Some code → first_of (code_tests code) ≡ None → IsReadOf s.meaning method code read → IsWhole s method read
code_whole s method code read body whole there none of =
    let own = code_there s method code body there in
    record {
      faultless = fault_of_code s method code whole own ∙ none;
      code_is = record { code = code; own = own; faultless = none; read_of = of };
    }

-- ---- methods without code

-- A body that is not whole has no code.
no_body_code : (s : Scope) (rva : ℕ) (header : Option Header) (fault : IlFault) → code_fault s.asm rva header ≡ Some fault → option_and_then (code_at s.asm rva) header ≡ None
no_body_code s rva None fault some = refl
no_body_code s rva (Some header) fault some = by (code_at s.asm rva header) some
  where
    by : (code : Option (List ℕ)) → must (is_some code) (Short 0) ≡ Some fault → code ≡ None
    by None some = refl
    by (Some code) some = absurd (none-some fault some)

none_told : (s : Scope) (code : Option (List ℕ)) (fault : IlFault) → first_of (code_tests (unwrap_or code [])) ≡ Some fault → option_and_then (decoded_instrs s.meaning) code ≡ None
none_told s None fault some = refl
none_told s (Some code) fault some = rw some refl

bodiless : (s : Scope) (method : MethodRow) → body_code s.asm method.rva ≡ None → code_of s.asm method ≡ None
bodiless s method none = by (has_il_body method)
  where
    by : (body : Bool) → (if body then body_code s.asm method.rva else None) ≡ None
    by true = none
    by false = refl

by_body : (s : Scope) (method : MethodRow) (body : Option IlFault) (fault : IlFault) → body_fault s.asm method.rva ≡ body
    → first_of (body ∷ first_of (code_tests (code_told s.asm method)) ∷ []) ≡ Some fault → instrs_of s.meaning s.asm method ≡ None
unfolding instrs_of code_told body_fault body_code
by_body s method (Some other) fault is some =
    ap (option_and_then (decoded_instrs s.meaning)) (bodiless s method (no_body_code s method.rva (header_at s.asm method.rva) other is))
by_body s method None fault is some =
    none_told s (code_of s.asm method) fault (sym (first_of-one _) ∙ (sym (first_of-none None (first_of (code_tests (code_told s.asm method)) ∷ []) refl) ∙ some))

faulty_instrs : (s : Scope) (method : MethodRow) (fault : IlFault) → il_fault s.asm method ≡ Some fault → instrs_of s.meaning s.asm method ≡ None
unfolding il_fault
faulty_instrs s method fault some = by_body s method (body_fault s.asm method.rva) fault refl some

no_clauses : (s : Scope) (method : MethodRow) → instrs_of s.meaning s.asm method ≡ None → clauses_of s method ≡ []
unfolding clauses_with
no_clauses s method none = rw none refl

-- Callers know nothing of a method whose code does not read.
pub faulty_clauses : (s : Scope) (method : MethodRow) (fault : IlFault) → il_fault s.asm method ≡ Some fault → clauses_of s method ≡ []
faulty_clauses s method fault some = no_clauses s method (faulty_instrs s method fault some)

-- Nor of one without a body of IL.
pub bodiless_clauses : (s : Scope) (method : MethodRow) → has_il_body method ≡ false → clauses_of s method ≡ []
unfolding instrs_of
bodiless_clauses s method none = no_clauses s method (rw none refl)

-- ---- slots

-- A slot without code, of which callers were told.
pub no_code_clauses : (s : Scope) (method : MethodRow) (slot : Slot) → (slot ≡ Unread) ⊎ ((fault : IlFault) × (slot ≡ Faulty fault)) → TellsClauses s method slot → [] ≡ clauses_of s method
no_code_clauses s method slot (inl unread) told = absurd (subst (TellsClauses s method) unread told)
no_code_clauses s method slot (inr (fault, faulty)) told = sym (faulty_clauses s method fault (subst (TellsClauses s method) faulty told))

-- A slot with code, with its instructions or without.
pub code_kept : (s : Scope) (method : MethodRow) (slot : Slot) (code : MethodCode) → (slot ≡ Whole code) ⊎ (slot ≡ Spent code) → TellsClauses s method slot
    → (instrs : List Instr) × IsCodeOf s.meaning s.asm method (with_instrs instrs code)
code_kept s method slot code (inl whole) told = (code.instrs, (subst (TellsClauses s method) whole told).code_is)
code_kept s method slot code (inr spent) told = let left = subst (TellsClauses s method) spent told in (left.taken, left.whole.code_is)

-- No slot was read.
pub fresh_slots : (s : Scope) (count : ℕ) → count ≡ length (methods_of s.asm) → AreSlots s (replicate count Unread)
fresh_slots s count same = record {
  count = length-replicate count Unread ∙ same;
  each = λ index method other there.
      let inside = slice_get_within (methods_of s.asm) index method there in
      subst (IsSlotOf s method) (sym (get_or-replicate count index Unread other (omega (arith, inside, same)))) tt;
}

-- ---- the slots of all files

-- Those of one file.
pub one_file : (asm : List ℕ) (own : Vec Slot Global) (slots : List (Vec Slot Global)) → own.items ≡ replicate (length (methods_of asm)) Unread → slots ≡ own ∷ []
    → AreAllSlots (alone asm) slots
one_file asm own slots fresh is = subst (AreAllSlots (alone asm)) (sym is) (record { count = refl; each = each })
  where
    each : (file : ℕ) (other : Vec Slot Global) → file < 1 → AreSlots (scope_in (alone asm) file) (get_or (own ∷ []) file other).items
    each zero other lt = subst (AreSlots (scope_of asm)) (sym fresh) (fresh_slots (scope_of asm) (length (methods_of asm)) refl)
    each (suc file) other lt = absurd (omega (arith, lt))

-- Those of the first of several files.
pub record AreFresh (files : List (List ℕ)) (count : ℕ) (slots : List (Vec Slot Global)) : Type 0 where
  pub long : length slots ≡ count
  pub each : (file : ℕ) (other : Vec Slot Global) → file < count → AreSlots (scope_in (linked files) file) (get_or slots file other).items

pub none_fresh : (files : List (List ℕ)) → AreFresh files 0 []
none_fresh files = record { long = refl; each = λ file other lt. absurd (omega (arith, lt)) }

pub one_fresh : (files : List (List ℕ)) (count : ℕ) (asm : List ℕ) (own : Vec Slot Global) (slots more : List (Vec Slot Global)) → AreFresh files count slots → count < length files
    → asm ≡ get_or files count asm → own.items ≡ replicate (length (methods_of asm)) Unread → more ≡ slots ++ own ∷ [] → AreFresh files (count + 1) more
one_fresh files count asm own slots more fresh lt here new is = subst (AreFresh files (count + 1)) (sym is) (record {
  long = omega (arith, length_push slots own, fresh.long);
  each = λ file other below. elim (before_or_last count file below) [
    | inl before ↦
        subst (λ (v : Vec Slot Global). AreSlots (scope_in (linked files) file) v.items)
        (sym (get_or_append_left slots (own ∷ []) other file (omega (arith, before, fresh.long)))) (fresh.each file other before)
    | inr last ↦
        subst (λ (v : Vec Slot Global). AreSlots (scope_in (linked files) file) v.items) (sym (get_or_push slots own other file (fresh.long ∙ last)))
        (subst (λ (n : ℕ). AreSlots (scope_in (linked files) n) own.items) last own_fresh)
  ];
})
  where
    bytes : get_or files count [] ≡ asm
    bytes = get_or_default files count [] asm lt ∙ sym here

    own_fresh : AreSlots (scope_in (linked files) count) own.items
    own_fresh =
        subst (AreSlots (scope_in (linked files) count)) (sym new)
        (fresh_slots (scope_in (linked files) count) (length (methods_of asm)) (ap (λ (a : List ℕ). length (methods_of a)) (sym bytes)))

pub all_fresh : (files : List (List ℕ)) (count : ℕ) (slots : List (Vec Slot Global)) → AreFresh files count slots → count ≡ length files → AreAllSlots (linked files) slots
all_fresh files count slots fresh whole = record {
  count = fresh.long ∙ whole;
  each = λ file other lt. fresh.each file other (omega (arith, lt, whole));
}
