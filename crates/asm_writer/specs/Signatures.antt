-- Signatures and their blobs (ECMA-335 II.23.2 and II.24.2.4).
use Rattle.std.specs.Prelude.{ℕ, ◌+◌, ◌/◌, ◌%◌, List, [], ◌∷◌, ◌++◌, length, flat_map, nat_lt, if◌then◌else◌, Bool, true}
use Rattle.cil_model.specs.declared.place.Place.{Place}
use Rattle.cil_model.specs.declared.place.Place.TheVariants as places
use Rattle.asm_writer.specs.declared.plan.Extern.{Extern}
use Rattle.asm_writer.specs.declared.plan.MethodPlan.{MethodPlan}

-- A number below 4000 in the shortest of its compressed forms (II.23.2).
unfoldable pub compressed : ℕ → List ℕ
compressed n = if nat_lt n 0x80 then n ∷ [] else (0x80 + n / 256) ∷ n % 256 ∷ []

-- Types as they stand in signatures (II.23.1.16).
abbrev pub VOID : ℕ
VOID = 0x01

abbrev pub BOOLEAN : ℕ
BOOLEAN = 0x02

abbrev pub I4 : ℕ
I4 = 0x08

abbrev pub STRING : ℕ
STRING = 0x0e

abbrev pub SZARRAY : ℕ
SZARRAY = 0x1d

abbrev pub MVAR : ℕ
MVAR = 0x1e

abbrev pub type_bytes : Place → List ℕ
type_bytes places.Void = VOID ∷ []
type_bytes places.Bool = BOOLEAN ∷ []
type_bytes places.Int = I4 ∷ []
type_bytes places.Bools = SZARRAY ∷ BOOLEAN ∷ []
type_bytes places.Ints = SZARRAY ∷ I4 ∷ []

-- The calling convention (II.15.3): HASTHIS where the method is not static.
abbrev pub convention : Bool → ℕ
convention is_static = if is_static then 0x00 else 0x20

-- MethodDefSig (II.23.2.1) and MethodRefSig (II.23.2.2): whether the method is static, what it returns, and its
-- arguments.
abbrev pub signature_of : Bool → Place → List Place → List ℕ
signature_of is_static gives args =
    convention is_static ∷ compressed (length args) ++ type_bytes gives ++ flat_map type_bytes args

unfoldable pub signature : MethodPlan → List ℕ
signature m = signature_of m.is_static m.result m.args.items

unfoldable pub extern_signature : Extern → List ℕ
extern_signature e = signature_of true e.result e.args.items

-- LocalVarSig (II.23.2.6).
unfoldable pub local_signature : List Place → List ℕ
local_signature locals = 0x07 ∷ compressed (length locals) ++ flat_map type_bytes locals

-- A blob: its length, compressed, and its bytes.
unfoldable pub blob : List ℕ → List ℕ
blob bytes = compressed (length bytes) ++ bytes

unfoldable pub signature_blob : MethodPlan → List ℕ
signature_blob m = blob (signature m)

unfoldable pub extern_blob : Extern → List ℕ
extern_blob e = blob (extern_signature e)

-- The blob of a method's locals, where it has any.
unfoldable pub local_blob : List Place → List ℕ
local_blob [] = []
local_blob (place ∷ places) = blob (local_signature (place ∷ places))
