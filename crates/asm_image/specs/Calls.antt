-- What the tokens of calls name (ECMA-335 II.22 and III.3.19).
use Rattle.std.specs.Prelude.{ℕ, ◌+◌, ◌/◌, ◌%◌, List, [], ◌∷◌, ◌==◌, ◌&&◌, nat_le, false, Bool, Option, Some, None, option_map, unwrap_or, Result, Ok, Err, if◌then◌else◌, codes}
use Rattle.std.specs.Option.{option_and_then}
use Rattle.std.specs.Str.{bytes_eq}
use Rattle.cil_model.specs.declared.place.Place.{Place}
use Rattle.cil_model.specs.Places.{place_number}
use Rattle.metadata_tables.specs.Layout.{row_count, cell}
use Rattle.metadata_tables.specs.Numbers.{type_ref, type_ref_name, type_ref_namespace, method_def, member_ref, member_ref_class, member_ref_name, member_ref_signature, method_spec, method_spec_method, method_spec_instantiation}
use Rattle.signature_blobs.specs.Signatures.{spec_signature}
use Rattle.signature_blobs.specs.declared.fault.SigFault.{SigFault}
use Rattle.asm_image.specs.Cells.{text, blob}
use Rattle.asm_image.specs.Tokens.{row_in}
use Rattle.asm_image.specs.declared.callee.Callee.{Callee}
use Rattle.asm_image.specs.declared.callee.Callee.TheVariants.{Method, ContractCall, Outside}
use Rattle.asm_image.specs.declared.calls.ContractMethod.{ContractMethod}

-- The row of a table that a coded index names (II.24.2.6): its lowest bits, which have so many values,
-- are the table's tag, and the others the row.
unfoldable pub tagged_row : List ℕ → ℕ → ℕ → ℕ → ℕ → Option ℕ
tagged_row md table tag values index =
    if index % values == tag && nat_le 1 (index / values) && nat_le (index / values) (row_count md table)
    then Some (index / values) else None

-- The row of TypeRef that the column Class of a MemberRef names. It is a MemberRefParent, whose tag 1 of 3
-- bits is TypeRef.
abbrev pub class_row : List ℕ → ℕ → Option ℕ
class_row md row = tagged_row md type_ref 1 8 (cell md member_ref row member_ref_class)

-- The row of MemberRef that the column Method of a MethodSpec names. It is a MethodDefOrRef, whose tag 1 of
-- one bit is MemberRef.
abbrev pub member_row : List ℕ → ℕ → Option ℕ
member_row md row = tagged_row md member_ref 1 2 (cell md method_spec row method_spec_method)

-- A row of TypeRef is the class of contracts, in whatever assembly.
unfoldable pub is_contract_class : List ℕ → ℕ → Bool
is_contract_class md row =
    bytes_eq (text md type_ref row type_ref_name) (codes "Contract")
    && bytes_eq (text md type_ref row type_ref_namespace) (codes "System.Diagnostics.Contracts")

-- A row of MemberRef is a method of that class.
unfoldable pub is_contract_method : List ℕ → ℕ → Bool
is_contract_method md row = unwrap_or (option_map (is_contract_class md) (class_row md row)) false

-- Signatures in MemberRef (II.23.2.2): `void (bool)`, `void (bool, string)` and `void ()`; `T <T>()` and
-- `T <T>(T)`.
abbrev pub condition : List ℕ
condition = 0x00 ∷ 0x01 ∷ 0x01 ∷ 0x02 ∷ []

abbrev pub condition_and_text : List ℕ
condition_and_text = 0x00 ∷ 0x02 ∷ 0x01 ∷ 0x02 ∷ 0x0e ∷ []

abbrev pub nothing : List ℕ
nothing = 0x00 ∷ 0x00 ∷ 0x01 ∷ []

abbrev pub generic : List ℕ
generic = 0x10 ∷ 0x01 ∷ 0x00 ∷ 0x1e ∷ 0x00 ∷ []

abbrev pub generic_of_one : List ℕ
generic_of_one = 0x10 ∷ 0x01 ∷ 0x01 ∷ 0x1e ∷ 0x00 ∷ 0x1e ∷ 0x00 ∷ []

-- A method of that class: its name, its signature and the number of a call of it.
abbrev pub Listed : Type 0
Listed = List ℕ × List ℕ × ℕ

-- A method as the code has it.
abbrev pub listed : ContractMethod → Listed
listed method = (method.name.now, method.signature.now, method.number)

-- The methods that are not generic.
abbrev pub plain_methods : List Listed
plain_methods =
    (codes "Requires", condition, 1)
    ∷ (codes "Requires", condition_and_text, 2)
    ∷ (codes "Ensures", condition, 3)
    ∷ (codes "Ensures", condition_and_text, 4)
    ∷ (codes "Assert", condition, 5)
    ∷ (codes "Assert", condition_and_text, 6)
    ∷ (codes "Assume", condition, 7)
    ∷ (codes "Assume", condition_and_text, 8)
    ∷ (codes "EndContractBlock", nothing, 9)
    ∷ []

-- The generic ones. To their numbers that of the type argument is added.
abbrev pub generic_methods : List Listed
generic_methods = (codes "Result", generic, 10) ∷ (codes "OldValue", generic_of_one, 20) ∷ []

-- The number of the first listed method with a name and a signature.
abbrev pub number_among : List Listed → List ℕ → List ℕ → Option ℕ
number_among [] name signature = None
number_among (method ∷ methods) name signature =
    if bytes_eq method.0 name && bytes_eq method.1 signature then Some method.2 else number_among methods name signature

-- The number of the listed method that a row of MemberRef names.
unfoldable pub member_number : List ℕ → List Listed → ℕ → Option ℕ
member_number md methods row =
    if is_contract_method md row then number_among methods (text md member_ref row member_ref_name) (blob md member_ref row member_ref_signature) else None

-- The place that was read, where there is one.
abbrev pub read_place : Result (Option Place) SigFault → Option Place
read_place (Ok place) = place
read_place (Err fault) = None

-- The number of the type argument that a row of MethodSpec gives, where it is in the profile.
abbrev pub argument_number : List ℕ → ℕ → Option ℕ
argument_number md row = option_map place_number (read_place (spec_signature (blob md method_spec row method_spec_instantiation)))

-- The number of the generic method that a row of MethodSpec names, with its type argument.
unfoldable pub instance_number : List ℕ → ℕ → Option ℕ
instance_number md row =
    option_and_then
    (λ method. option_map (λ argument. method + argument) (argument_number md row))
    (option_and_then (member_number md generic_methods) (member_row md row))

-- The call of a number.
abbrev pub numbered : Option ℕ → Callee
numbered (Some number) = ContractCall (record { 0 = number })
numbered None = Outside

-- The callee of a token that is a row of MethodDef, of MemberRef, of MethodSpec or of none of them.
abbrev pub callee_by : List ℕ → ℕ → Option ℕ → Option ℕ → Option ℕ → Callee
callee_by md token (Some method) member instance = Method (record { 0 = token })
callee_by md token None (Some member) instance = numbered (member_number md plain_methods member)
callee_by md token None None (Some instance) = numbered (instance_number md instance)
callee_by md token None None None = Outside

-- What a token calls.
unfoldable pub callee_of : List ℕ → ℕ → Callee
callee_of md token = callee_by md token (row_in md method_def token) (row_in md member_ref token) (row_in md method_spec token)
