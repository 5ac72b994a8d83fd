-- What the tokens in the code of an assembly mean. The key of a method is the number of its token.
use Rattle.std.specs.Prelude.{ℕ, List, false, if◌then◌else◌}
use Rattle.std.specs.Option.{option_map_or}
use Rattle.asm_image.specs.Bodies.{method_of}
use Rattle.asm_image.specs.Calls.{callee_of}
use Rattle.asm_image.specs.Tokens.{element_of}
use Rattle.asm_image.specs.declared.callee.Callee.{Callee}
use Rattle.asm_image.specs.declared.callee.Callee.TheVariants.{Method, ContractCall, Outside}
use Rattle.cc_base.specs.declared.token.Token.{Token}
use Rattle.method_code.specs.Meanings.{Meaning}
use Rattle.method_code.specs.declared.call.Call.{Call}
use Rattle.method_code.specs.declared.call.Call.TheVariants as calls
use Rattle.pe_reader.specs.Addresses.{metadata}
use Rattle.unit_builder.specs.Callable.{is_callable}

-- The token of a method, by its key.
abbrev pub as_token : ℕ → Token
as_token key = record { 0 = key }

-- What units know of what a token names: a method only where they may have an entry of it.
abbrev pub call_by : List ℕ → Callee → Call
call_by asm (Method token) = if option_map_or is_callable (method_of asm token) false then calls.Callee token.0 else calls.Unknown
call_by asm (ContractCall operation) = calls.Contract operation.0
call_by asm Outside = calls.Unknown

-- What a call of this token calls.
unfoldable pub called : List ℕ → ℕ → Call
called asm token = call_by asm (callee_of (metadata asm) token)

-- What the tokens of an assembly mean.
abbrev pub meaning_of : List ℕ → Meaning
meaning_of asm = record { call = called asm; element = element_of (metadata asm) }
