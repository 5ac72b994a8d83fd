-- The names in the heap `#Strings` (ECMA-335 II.24.2.3).
use Rattle.std.specs.Prelude.{ℕ, ◌+◌, ◌*◌, List, [], ◌∷◌, ◌++◌, length, map, flat_map, codes, if◌then◌else◌}
use Rattle.std.specs.Str.{bytes_eq}
use Rattle.asm_writer.specs.declared.name.ExternPart.{ExternPart}
use Rattle.asm_writer.specs.declared.name.ExternPart.TheVariants as parts
use Rattle.asm_writer.specs.declared.name.Name.{Name}
use Rattle.asm_writer.specs.declared.name.Name.TheVariants as names
use Rattle.asm_writer.specs.declared.plan.AsmPlan.{AsmPlan}
use Rattle.asm_writer.specs.declared.plan.Extern.{Extern}
use Rattle.asm_writer.specs.declared.plan.MethodPlan.{MethodPlan}
use Rattle.asm_writer.specs.Linked.{Linked}
use Rattle.asm_writer.specs.Packing.{Packing, packed, filled}

-- The names in the order of the heap. After them stand those of the methods, those of the externs, and that of the
-- assembly.
abbrev pub cited_names : List Name
cited_names =
    names.Empty ∷ names.Object ∷ names.System ∷ names.Int32 ∷ names.Boolean ∷ names.Contract ∷ names.Contracts
    ∷ names.Global ∷ names.Requires ∷ names.Ensures ∷ names.Assert ∷ names.Assume ∷ names.EndContractBlock
    ∷ names.Result ∷ names.OldValue ∷ names.Mscorlib ∷ names.Class ∷ names.Namespace ∷ names.File ∷ []

-- The module is named as the class, with `.dll`.
unfoldable pub name_text : AsmPlan → Name → List ℕ
name_text plan names.Empty = []
name_text plan names.Object = codes "Object"
name_text plan names.System = codes "System"
name_text plan names.Int32 = codes "Int32"
name_text plan names.Boolean = codes "Boolean"
name_text plan names.Contract = codes "Contract"
name_text plan names.Contracts = codes "System.Diagnostics.Contracts"
name_text plan names.Global = codes "<Module>"
name_text plan names.Requires = codes "Requires"
name_text plan names.Ensures = codes "Ensures"
name_text plan names.Assert = codes "Assert"
name_text plan names.Assume = codes "Assume"
name_text plan names.EndContractBlock = codes "EndContractBlock"
name_text plan names.Result = codes "Result"
name_text plan names.OldValue = codes "OldValue"
name_text plan names.Mscorlib = codes "mscorlib"
name_text plan names.Class = plan.class.items
name_text plan names.Namespace = plan.namespace.items
name_text plan names.File = plan.class.items ++ codes ".dll"

-- Which of the names of the heap it is.
abbrev pub name_index : Name → ℕ
name_index names.Empty = 0
name_index names.Object = 1
name_index names.System = 2
name_index names.Int32 = 3
name_index names.Boolean = 4
name_index names.Contract = 5
name_index names.Contracts = 6
name_index names.Global = 7
name_index names.Requires = 8
name_index names.Ensures = 9
name_index names.Assert = 10
name_index names.Assume = 11
name_index names.EndContractBlock = 12
name_index names.Result = 13
name_index names.OldValue = 14
name_index names.Mscorlib = 15
name_index names.Class = 16
name_index names.Namespace = 17
name_index names.File = 18

-- The same of the name of the method of this index.
abbrev pub method_name_index : ℕ → ℕ
method_name_index method = length cited_names + method

unfoldable pub zero_ended : List ℕ → List ℕ
zero_ended name = name ++ 0 ∷ []

abbrev pub name_item : AsmPlan → Name → List ℕ
name_item plan name = zero_ended (name_text plan name)

abbrev pub method_name_item : MethodPlan → List ℕ
method_name_item m = zero_ended m.name.items

-- The four names of an extern, in the order of its parts.
abbrev pub extern_name_items : Extern → List (List ℕ)
extern_name_items e =
    zero_ended e.assembly.items ∷ zero_ended e.namespace.items ∷ zero_ended e.class.items ∷ zero_ended e.name.items ∷ []

abbrev pub part_index : ExternPart → ℕ
part_index parts.Assembly = 0
part_index parts.Namespace = 1
part_index parts.Class = 2
part_index parts.Name = 3

-- Which of the names of the heap a name of the extern of this index is, after those of so many methods.
abbrev pub extern_name_index : ℕ → ℕ → ExternPart → ℕ
extern_name_index methods index part = length cited_names + methods + 4 * index + part_index part

-- The name of the assembly, where it is not that of the class.
unfoldable pub own_name_items : AsmPlan → List ℕ → List (List ℕ)
own_name_items plan assembly = if bytes_eq assembly plan.class.items then [] else zero_ended assembly ∷ []

-- Which of the names of the heap it is.
unfoldable pub own_name_index : Linked → ℕ
own_name_index all =
    if bytes_eq all.assembly all.plan.class.items then name_index names.Class
    else extern_name_index (length all.plan.methods.items) (length all.externs) parts.Assembly

abbrev pub string_items : Linked → List (List ℕ)
string_items all =
    map (name_item all.plan) cited_names
    ++ map method_name_item all.plan.methods.items
    ++ flat_map extern_name_items all.externs
    ++ own_name_items all.plan all.assembly

unfoldable pub strings_heap : Linked → Packing
strings_heap all = filled (packed (string_items all))
