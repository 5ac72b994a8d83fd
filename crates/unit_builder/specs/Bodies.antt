-- What the row of a method and its body tell of its unit.
use Rattle.std.specs.Prelude.{ℕ, List, [], ◌∷◌, map, Option, Some, None, unwrap_or}
use Rattle.asm_image.specs.Tokens.{locals_of}
use Rattle.asm_image.specs.declared.method_row.MethodRow.{MethodRow}
use Rattle.cc_base.specs.Tests.{first_of}
use Rattle.cc_base.specs.declared.token.Token.{Token}
use Rattle.cil_model.specs.declared.clause.Clause.{Clause}
use Rattle.cil_model.specs.declared.instruction.Instr.{Instr}
use Rattle.cil_model.specs.declared.place.Place.{Place}
use Rattle.il_decoder.specs.Body.{body_fault, header_at, tiny_header}
use Rattle.il_decoder.specs.Decoding.{code_tests, instructions_of}
use Rattle.il_decoder.specs.declared.body.Header.{Header}
use Rattle.il_decoder.specs.declared.fault.IlFault.{IlFault}
use Rattle.method_code.specs.Called.{callees_of}
use Rattle.method_code.specs.Numbering.{numbered}
use Rattle.method_code.specs.OfMethods.{clauses_of as clauses_with, code_of}
use Rattle.pe_reader.specs.Addresses.{metadata}
use Rattle.signature_blobs.specs.declared.local.LocalSig.{LocalSig}
use Rattle.signature_blobs.specs.declared.local.LocalSig.TheVariants as locals
use Rattle.unit_builder.specs.Meanings.{as_token}
use Rattle.unit_builder.specs.Scopes.{Scope, scope_of}

-- ---- the header

-- The header of the method's body. Where there is none, that of a body without code.
unfoldable pub header_of : List ℕ → MethodRow → Header
header_of asm method = unwrap_or (header_at asm method.rva) (tiny_header 0)

abbrev pub known_locals : Option LocalSig → Option (List Place)
known_locals (Some (locals.Known places)) = Some places
known_locals _ = None

-- The types of the locals that a header names, where their signature reads and each of them is in the profile.
unfoldable pub locals_named : List ℕ → Header → Option (List Place)
locals_named asm header = known_locals (locals_of (metadata asm) header.local_token)

-- The same, and no locals where they are not known.
unfoldable pub locals_told : List ℕ → Header → List Place
locals_told asm header = unwrap_or (locals_named asm header) []

-- ---- the code

-- The bytes of the method's code. There are none where it has no code that stands there whole.
unfoldable pub code_told : List ℕ → MethodRow → List ℕ
code_told asm method = unwrap_or (code_of asm method) []

-- What is wrong with the body or with the code of a method.
unfoldable pub il_fault : List ℕ → MethodRow → Option IlFault
il_fault asm method = first_of (body_fault asm method.rva ∷ first_of (code_tests (code_told asm method)) ∷ [])

-- The instructions as they are decoded, with the tokens of the metadata.
unfoldable pub decoded_instrs : List ℕ → MethodRow → List Instr
decoded_instrs asm method = instructions_of (code_told asm method)

-- The instructions with the numbers of the unit.
unfoldable pub unit_instrs : Scope → MethodRow → List Instr
unit_instrs scope method = numbered scope.meaning (decoded_instrs scope.asm method)

-- The keys of the methods that the code calls, in order of first use.
unfoldable pub callee_keys : Scope → MethodRow → List ℕ
callee_keys scope method = callees_of scope.meaning (decoded_instrs scope.asm method)

-- The same as tokens, of a file alone.
unfoldable pub callee_tokens : List ℕ → MethodRow → List Token
callee_tokens asm method = map as_token (callee_keys (scope_of asm) method)

-- What callers know of a method: its clauses.
abbrev pub clauses_of : Scope → MethodRow → List Clause
clauses_of scope method = clauses_with scope.meaning scope.asm method
