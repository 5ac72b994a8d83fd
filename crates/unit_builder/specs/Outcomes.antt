-- The unit of a method, and what comes of each method of a file.
use Rattle.std.specs.Prelude.{ℕ, List, map, Option, Some, None}
use Rattle.asm_image.specs.Rows.{methods_of}
use Rattle.asm_image.specs.declared.method_row.MethodRow.{MethodRow}
use Rattle.cc_base.specs.Tests.{first_of}
use Rattle.cil_model.specs.Blocks.{start_of_body}
use Rattle.cil_model.specs.declared.unit.Unit.{Unit as MethodUnit}
use Rattle.method_code.specs.Numbering.{spelled_code}
use Rattle.method_code.specs.OfMethods.{args_of, result_of, told_clauses}
use Rattle.unit_builder.specs.Bodies.{callee_keys, header_of, locals_told, unit_instrs}
use Rattle.unit_builder.specs.Callees.{unit_name}
use Rattle.unit_builder.specs.Reasons.{reason_tests}
use Rattle.unit_builder.specs.Scopes.{Files, Scope, scope_in, scope_of}
use Rattle.unit_builder.specs.declared.entry.MethodEntry.{MethodEntry}
use Rattle.unit_builder.specs.declared.entry.Outcome.{Outcome}
use Rattle.unit_builder.specs.declared.entry.Outcome.TheVariants.{Analysed, Skipped}
use Rattle.unit_builder.specs.declared.reason.Reason.{Reason}

-- The unit of a method that is analysed.
unfoldable pub unit_of : Scope → MethodRow → MethodUnit
unit_of scope method = record {
  name = unit_name method;
  result = result_of method.sig.types;
  args = args_of method.sig.types;
  locals = locals_told scope.asm (header_of scope.asm method);
  max_stack = (header_of scope.asm method).max_stack;
  callees = map scope.info (callee_keys scope method);
  code = spelled_code (unit_instrs scope method);
  clauses = told_clauses (unit_instrs scope method);
  body_start = start_of_body (unit_instrs scope method);
  instrs = unit_instrs scope method;
}

abbrev pub outcome_by : Option Reason → MethodUnit → Outcome
outcome_by None unit = Analysed unit
outcome_by (Some reason) unit = Skipped reason

-- A method is analysed where no test fails. Else the first that does is why it is not.
unfoldable pub outcome_in : Scope → MethodRow → Outcome
outcome_in scope method = outcome_by (first_of (reason_tests scope method)) (unit_of scope method)

-- A method with its printed name, and what comes of it.
abbrev pub entry_in : Scope → MethodRow → MethodEntry
entry_in scope method = record { token = method.token; name = method.name; outcome = outcome_in scope method }

-- An entry for each method of a file, in the order of its rows.
abbrev pub entries_in : Files → ℕ → List MethodEntry
entries_in files file = map (entry_in (scope_in files file)) (methods_of (files.bytes file))

-- ---- one file

unfoldable pub outcome_of : List ℕ → MethodRow → Outcome
outcome_of asm method = outcome_in (scope_of asm) method

abbrev pub entry_of : List ℕ → MethodRow → MethodEntry
entry_of asm method = record { token = method.token; name = method.name; outcome = outcome_of asm method }

-- An entry for each method of the assembly, in the order of its rows.
unfoldable pub entries_of : List ℕ → List MethodEntry
entries_of asm = map (entry_of asm) (methods_of asm)

-- What is known of the unit, where there is one.
abbrev pub IfAnalysed : Outcome → (MethodUnit → Type 0) → Type 0
IfAnalysed (Analysed unit) P = P unit
IfAnalysed (Skipped reason) P = Unit {0}
