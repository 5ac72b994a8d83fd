-- The methods of several files that calls mean.
use Rattle.std.specs.Prelude.{ℕ, suc, ◌++◌, Bool, true, false, List, [], ◌∷◌, map, filter, get_or, Option, Some, None, if◌then◌else◌}
use Rattle.asm_image.specs.Calls.{callee_of}
use Rattle.asm_image.specs.Members.{MethodKey, assembly_name, class_of, member_of, name_of_method}
use Rattle.asm_image.specs.Rows.{methods_of}
use Rattle.asm_image.specs.declared.callee.Callee.{Callee}
use Rattle.asm_image.specs.declared.callee.Callee.TheVariants.{Method, ContractCall, Outside}
use Rattle.asm_image.specs.declared.method_row.MethodRow.{MethodRow}
use Rattle.asm_links.specs.Keys.{same_key}
use Rattle.cc_base.specs.declared.token.Token.{Token}
use Rattle.pe_reader.specs.Addresses.{metadata}
use Rattle.signature_blobs.specs.declared.method.SigTypes.{SigTypes}
use Rattle.signature_blobs.specs.declared.method.SigTypes.TheVariants as types

-- ---- the methods of all files

-- What tells a method of an assembly of this name from others.
abbrev pub key_with : List ℕ → List ℕ → MethodRow → MethodKey
key_with asm name method = record {
  assembly = name;
  namespace = (class_of (metadata asm) method.token.0).namespace;
  class = (class_of (metadata asm) method.token.0).name;
  name = name_of_method (metadata asm) method.token.0;
  sig = method.sig;
}

-- A method as others call it: what tells it from others, and the list index of its file with its token.
abbrev pub Named : Type 0
Named = MethodKey × (ℕ × Token)

abbrev pub named : ℕ → List ℕ → List ℕ → MethodRow → Named
named file asm name method = (key_with asm name method, (file, method.token))

abbrev pub named_with : ℕ → List ℕ → Option (List ℕ) → List Named
named_with file asm None = []
named_with file asm (Some name) = map (named file asm name) (methods_of asm)

-- The methods of a file. An assembly without a name has none that others can call.
unfoldable pub named_in : ℕ → List ℕ → List Named
named_in file asm = named_with file asm (assembly_name (metadata asm))

-- Those of files that have list indexes from this one on.
abbrev pub all_named : ℕ → List (List ℕ) → List Named
all_named file [] = []
all_named file (asm ∷ others) = named_in file asm ++ all_named (suc file) others

-- ---- what a call means

-- The one method of a list that has one.
abbrev pub only : List Named → Option (ℕ × Token)
only [] = None
only (one ∷ []) = Some one.1
only (one ∷ other ∷ others) = None

-- Those that a key tells.
abbrev pub told_by : MethodKey → List Named → List Named
told_by key methods = filter (λ method. same_key key method.0) methods

abbrev pub has_known_types : SigTypes → Bool
has_known_types (types.Known signature) = true
has_known_types types.Other = false

-- A method of another assembly means the one method of the files that its names and its signature tell. Where there is
-- none or more than one, or where its signature is outside the profile, it means nothing.
unfoldable pub meant : List (List ℕ) → MethodKey → Option (ℕ × Token)
meant files key = if has_known_types key.sig.types then only (told_by key (all_named 0 files)) else None

abbrev pub meant_by : List (List ℕ) → Option MethodKey → Option (ℕ × Token)
meant_by files (Some key) = meant files key
meant_by files None = None

-- A method of the file itself is meant by its own token. A call of the class of contracts means no method.
abbrev pub target_by : List (List ℕ) → ℕ → Callee → Option MethodKey → Option (ℕ × Token)
target_by files file (Method token) member = Some (file, token)
target_by files file (ContractCall operation) member = None
target_by files file Outside member = meant_by files member

-- The method that a token means in the code of a file: the list index of its file, and its token.
unfoldable pub target : List (List ℕ) → ℕ → ℕ → Option (ℕ × Token)
target files file token =
    let md = metadata (get_or files file []) in target_by files file (callee_of md token) (member_of md token)
