-- Files whose methods may call each other, and what the code of one of them sees of the others.
use Rattle.std.specs.Prelude.{ℕ, ◌+◌, ◌*◌, ◌/◌, ◌%◌, ◌^◌, List, Option}
use Rattle.std.specs.Option.{option_map_or}
use Rattle.asm_image.specs.Bodies.{method_of}
use Rattle.asm_image.specs.declared.method_row.MethodRow.{MethodRow}
use Rattle.cil_model.specs.declared.unit.CalleeInfo.{CalleeInfo}
use Rattle.method_code.specs.Meanings.{Meaning}
use Rattle.method_code.specs.OfMethods.{clauses_of as clauses_with}
use Rattle.unit_builder.specs.Callees.{info_with, no_info}
use Rattle.unit_builder.specs.Meanings.{as_token, meaning_of}

-- ---- keys

-- The key of a method: the list index of its file, above the 32 bits of its token. Where there is one file, keys are
-- tokens.
abbrev pub key_at : ℕ → ℕ → ℕ
key_at file token = file * 2 ^ 32 + token

abbrev pub file_of : ℕ → ℕ
file_of key = key / 2 ^ 32

abbrev pub token_in : ℕ → ℕ
token_in key = key % 2 ^ 32

-- ---- files

pub record Files : Type 0 where
  -- How many files there are, and the bytes of the file of each list index.
  pub count : ℕ
  pub bytes : ℕ → List ℕ
  -- What the tokens in the code of each file mean.
  pub meaning : ℕ → Meaning
  -- The method of a key.
  pub method : ℕ → Option MethodRow

-- What the code of a file sees: the file, what its tokens mean, and what callers know of the method of a key.
pub record Scope : Type 0 where
  pub asm : List ℕ
  pub meaning : Meaning
  pub info : ℕ → CalleeInfo

-- What callers know of a method of this key. Its clauses are those that are read in its own file.
abbrev pub info_at : Files → ℕ → MethodRow → CalleeInfo
info_at files key method = info_with method (clauses_with (files.meaning (file_of key)) (files.bytes (file_of key)) method)

abbrev pub info_in : Files → ℕ → CalleeInfo
info_in files key = option_map_or (info_at files key) (files.method key) no_info

abbrev pub scope_in : Files → ℕ → Scope
scope_in files file = record { asm = files.bytes file; meaning = files.meaning file; info = info_in files }

-- ---- one file

-- A file alone.
abbrev pub alone : List ℕ → Files
alone asm = record {
  count = 1;
  bytes = λ file. asm;
  meaning = λ file. meaning_of asm;
  method = λ key. method_of asm (as_token key);
}

abbrev pub scope_of : List ℕ → Scope
scope_of asm = scope_in (alone asm) 0
