-- Methods with two reasons that stand next to each other: the first one is told.
use Rattle.std.proofs.Common.{◌≡◌, ℕ, nat_le, Bool, true, false, List, [], ◌∷◌, length, refl, ap, ◌∙◌, if◌then◌else◌}
use Rattle.std.specs.Prelude.{Option, Some, None}
use Rattle.std.specs.List.{list_all}
use Rattle.asm_image.specs.declared.method_row.MethodRow.{MethodRow}
use Rattle.cc_base.specs.Tests.{first_of}
use Rattle.cc_base.proofs.TestLemmas.{first_of-append_none, first_of-append_some}
use Rattle.cil_model.specs.Limits.{MAX_BLOCKS, MAX_CODE_BYTES, MAX_INSTRUCTIONS}
use Rattle.cil_model.specs.declared.place.Place.{Place}
use Rattle.cil_model.specs.declared.type_fault.TypeFault.{TypeFault}
use Rattle.clause_faults.specs.Faults.{first_clause_fault}
use Rattle.clause_faults.specs.declared.clause_fault.ClauseFault.{ClauseFault}
use Rattle.il_decoder.specs.Body.{header_at}
use Rattle.il_decoder.specs.declared.body.Header.{Header}
use Rattle.il_decoder.specs.declared.fault.IlFault.{IlFault}
use Rattle.signature_blobs.specs.declared.method.SigTypes.TheVariants as types
use Rattle.stack_typer.specs.FirstTypeFault.{first_type_fault}
use Rattle.unit_builder.specs.Scopes.{Scope}
use Rattle.unit_builder.proofs.Outcomes.{is_skipped}
use Rattle.unit_builder.proofs.TestParts.{own_first}
use Rattle.unit_builder.specs.Bodies.{callee_keys, il_fault, locals_named, locals_told, unit_instrs}
use Rattle.unit_builder.specs.Callees.{unit_name}
use Rattle.unit_builder.specs.Outcomes.{outcome_in}
use Rattle.unit_builder.specs.Reasons.{blocks_in, code_tests, has_short_name, header_tests, is_short_name, own_tests, reason_tests, row_tests, token_tests, unit_shape}
use Rattle.unit_builder.specs.declared.entry.Outcome.TheVariants.{Skipped}
use Rattle.unit_builder.specs.declared.reason.Reason.{Reason}
use Rattle.unit_builder.specs.declared.reason.Reason.TheVariants.{Instance, Generic, NoBody, SignatureType, LocalType, LocalsNotZero, Section, TooLarge, Code, Clauses}

-- This is why the method is not analysed.
abbrev IsTold : Scope → MethodRow → Reason → Type 0
IsTold s method reason = Skipped reason ≡ outcome_in s method

-- ---- the row

row_told : (s : Scope) (method : MethodRow) (reason : Reason) → first_of (row_tests method) ≡ Some reason → IsTold s method reason
unfolding reason_tests
row_told s method reason some = is_skipped s method reason (first_of-append_some (row_tests method) _ reason some)

abbrev method_with : Bool → Bool → ℕ → MethodRow
method_with static generic rva = record {
  token = record { 0 = 0x06000001 };
  name = [];
  flags = if static then 0x0010 else 0;
  impl_flags = 0;
  rva = rva;
  sig = record { has_this = false; generic = generic; types = types.Other };
}

-- An instance method that is generic; a generic one without a body; one without a body and with a type outside the
-- profile; and one with such a type, whatever its body.
instance_first : (s : Scope) → IsTold s (method_with false true 0) Instance
unfolding row_tests first_of
instance_first s = row_told s _ Instance refl

generic_first : (s : Scope) → IsTold s (method_with true true 0) Generic
unfolding row_tests first_of
generic_first s = row_told s _ Generic refl

body_first : (s : Scope) → IsTold s (method_with true false 0) NoBody
unfolding row_tests first_of
body_first s = row_told s _ NoBody refl

signature_first : (s : Scope) → IsTold s (method_with true false 0x2050) SignatureType
unfolding row_tests first_of
signature_first s = row_told s _ SignatureType refl

-- ---- the header

module _ (s : Scope) (method : MethodRow) (row : first_of (row_tests method) ≡ None) where
  header_told : (found : Option Header) (reason : Reason) → header_at s.asm method.rva ≡ found → first_of (header_tests s.asm method found) ≡ Some reason → IsTold s method reason
  unfolding reason_tests
  header_told found reason there some =
      is_skipped s method reason (first_of-append_none (row_tests method) _ row
      ∙ first_of-append_some (header_tests s.asm method (header_at s.asm method.rva)) _ reason (ap (λ h. first_of (header_tests s.asm method h)) there ∙ some))

  -- Locals that do not read, and a table of exceptions.
  local_type_first : (h : Header) → header_at s.asm method.rva ≡ Some h → locals_named s.asm h ≡ None → h.more_sections ≡ true → IsTold s method LocalType
  unfolding header_tests first_of
  local_type_first h there unknown sections = header_told (Some h) LocalType there (rw unknown refl)

  -- Locals that are not 0 at first, and a table of exceptions.
  locals_first : (h : Header) (place : Place) (places : List Place) → header_at s.asm method.rva ≡ Some h → locals_named s.asm h ≡ Some (place ∷ places) → h.init_locals ≡ false
      → h.more_sections ≡ true → IsTold s method LocalsNotZero
  unfolding header_tests locals_told first_of
  locals_first h place places there named unset sections = header_told (Some h) LocalsNotZero there (rw (named, unset) refl)

  -- A table of exceptions, and code that is too long.
  section_first : (h : Header) → header_at s.asm method.rva ≡ Some h → locals_named s.asm h ≡ Some [] → h.more_sections ≡ true → nat_le h.code_len MAX_CODE_BYTES ≡ false → IsTold s method Section
  unfolding header_tests locals_told first_of
  section_first h there named sections long = header_told (Some h) Section there (rw (named, sections) refl)

  -- A name that is too long, and no header.
  name_first : header_at s.asm method.rva ≡ None → is_short_name (unit_name method) ≡ false → IsTold s method TooLarge
  unfolding header_tests first_of
  name_first none long = header_told None TooLarge none (rw long refl)

  -- ---- the code

  module _ (header : first_of (header_tests s.asm method (header_at s.asm method.rva)) ≡ None) where
    own_told : (reason : Reason) → first_of (own_tests s method) ≡ Some reason → IsTold s method reason
    own_told reason some = is_skipped s method reason (own_first s method reason row header some)

    -- Code that does not read, whatever else.
    code_first : (fault : IlFault) → il_fault s.asm method ≡ Some fault → IsTold s method (Code fault)
    unfolding own_tests first_of
    code_first fault some = own_told (Code fault) (rw some refl)

    module _ (reads : il_fault s.asm method ≡ None) where
      -- Too many instructions, and a fault of clauses.
      count_first : (fault : ClauseFault) → nat_le (length (unit_instrs s method)) MAX_INSTRUCTIONS ≡ false
          → first_clause_fault (unit_instrs s method) (unit_shape s method) ≡ Some fault → IsTold s method TooLarge
      unfolding own_tests code_tests first_of
      count_first fault many some = own_told TooLarge (rw (reads, many) refl)

      module _ (few : nat_le (length (unit_instrs s method)) MAX_INSTRUCTIONS ≡ true) (names : list_all (has_short_name s.info) (callee_keys s method) ≡ true) where
        -- A fault of clauses, and too many blocks.
        clauses_first : (fault : ClauseFault) → first_clause_fault (unit_instrs s method) (unit_shape s method) ≡ Some fault → nat_le (blocks_in (unit_instrs s method)) MAX_BLOCKS ≡ false
            → IsTold s method (Clauses fault)
        unfolding own_tests code_tests first_of
        clauses_first fault some many = own_told (Clauses fault) (rw (reads, few, names, some) refl)

        module _ (clauses : first_clause_fault (unit_instrs s method) (unit_shape s method) ≡ None) where
          -- Too many blocks, and a number that names nothing.
          blocks_first : (reason : Reason) → nat_le (blocks_in (unit_instrs s method)) MAX_BLOCKS ≡ false
              → first_of (token_tests (length (callee_keys s method)) (unit_instrs s method)) ≡ Some reason → IsTold s method TooLarge
          unfolding own_tests code_tests first_of
          blocks_first reason many some = own_told TooLarge (rw (reads, few, names, clauses, many) refl)

          -- A number that names nothing, and code without kinds.
          token_first : (reason : Reason) (fault : TypeFault) → nat_le (blocks_in (unit_instrs s method)) MAX_BLOCKS ≡ true
              → first_of (token_tests (length (callee_keys s method)) (unit_instrs s method)) ≡ Some reason
              → first_type_fault (unit_instrs s method) (unit_shape s method) ≡ Some fault → IsTold s method reason
          unfolding own_tests code_tests first_of
          token_first reason fault blocks some untyped = own_told reason (rw (reads, few, names, clauses, blocks) some)
