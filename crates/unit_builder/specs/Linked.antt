-- Several files as one: what the tokens in their code mean, and what comes of their methods.
use Rattle.std.specs.Prelude.{ℕ, List, [], false, length, map, get_or, slice_get, Option, Some, None, if◌then◌else◌}
use Rattle.std.specs.List.{range_with_len}
use Rattle.std.specs.Option.{option_and_then, option_map_or}
use Rattle.asm_image.specs.Bodies.{method_of}
use Rattle.asm_image.specs.Calls.{callee_of}
use Rattle.asm_image.specs.Tokens.{element_of}
use Rattle.asm_image.specs.declared.callee.Callee.{Callee}
use Rattle.asm_image.specs.declared.callee.Callee.TheVariants.{Method, ContractCall, Outside}
use Rattle.asm_image.specs.declared.method_row.MethodRow.{MethodRow}
use Rattle.asm_links.specs.Targets.{target}
use Rattle.cc_base.specs.declared.token.Token.{Token}
use Rattle.cil_model.specs.declared.machine.World.{World}
use Rattle.cil_model.specs.declared.unit.Unit.{Unit as MethodUnit}
use Rattle.method_code.specs.Meanings.{Meaning}
use Rattle.method_code.specs.declared.call.Call.{Call}
use Rattle.method_code.specs.declared.call.Call.TheVariants as calls
use Rattle.pe_reader.specs.Addresses.{metadata}
use Rattle.unit_builder.specs.Callable.{is_callable}
use Rattle.unit_builder.specs.Graphs.{calls_in, unit_in, world_in}
use Rattle.unit_builder.specs.Meanings.{as_token}
use Rattle.unit_builder.specs.Outcomes.{entries_in}
use Rattle.unit_builder.specs.Scopes.{Files, file_of, key_at, token_in}
use Rattle.unit_builder.specs.declared.entry.MethodEntry.{MethodEntry}

-- ---- what tokens mean

-- The method of a key.
unfoldable pub linked_method : List (List ℕ) → ℕ → Option MethodRow
linked_method files key = option_and_then (λ asm. method_of asm (as_token (token_in key))) (slice_get files (file_of key))

-- A call of the method of a key, where units may have an entry of it.
abbrev pub call_of_key : List (List ℕ) → ℕ → Call
call_of_key files key = if option_map_or is_callable (linked_method files key) false then calls.Callee key else calls.Unknown

abbrev pub call_to : List (List ℕ) → Option (ℕ × Token) → Call
call_to files None = calls.Unknown
call_to files (Some home) = call_of_key files (key_at home.0 home.1.0)

-- A call of the class of contracts keeps its meaning. Each other one calls the method that its token means.
abbrev pub linked_call : List (List ℕ) → Callee → Option (ℕ × Token) → Call
linked_call files (ContractCall operation) target = calls.Contract operation.0
linked_call files (Method token) target = call_to files target
linked_call files Outside target = call_to files target

abbrev pub linked_meaning_by : List (List ℕ) → ℕ → Option (List ℕ) → Meaning
linked_meaning_by files file (Some asm) = record {
  call = λ token. linked_call files (callee_of (metadata asm) token) (target files file token);
  element = element_of (metadata asm);
}
linked_meaning_by files file None = record { call = λ token. calls.Unknown; element = λ token. None }

-- What the tokens in the code of a file mean.
unfoldable pub linked_meaning : List (List ℕ) → ℕ → Meaning
linked_meaning files file = linked_meaning_by files file (slice_get files file)

-- ---- files

abbrev pub linked : List (List ℕ) → Files
linked files = record {
  count = length files;
  bytes = λ file. get_or files file [];
  meaning = linked_meaning files;
  method = linked_method files;
}

-- For each file an entry for each of its methods.
unfoldable pub linked_entries : List (List ℕ) → List (List MethodEntry)
linked_entries files = map (entries_in (linked files)) (range_with_len 0 (length files))

-- The keys of the methods that the method of a key calls, and its unit, where it is analysed; and its world.
abbrev pub linked_calls : List (List ℕ) → ℕ → List ℕ
linked_calls files = calls_in (linked files)

abbrev pub linked_unit : List (List ℕ) → ℕ → Option MethodUnit
linked_unit files = unit_in (linked files)

abbrev pub linked_world : List (List ℕ) → ℕ → World
linked_world files = world_in (linked files)
