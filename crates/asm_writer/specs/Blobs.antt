-- The blobs in the heap `#Blob` (ECMA-335 II.24.2.4).
use Rattle.std.specs.Prelude.{ℕ, ◌+◌, ◌*◌, List, [], ◌∷◌, ◌++◌, length, map, flat_map}
use Rattle.asm_writer.specs.declared.blob.Blob.{Blob}
use Rattle.asm_writer.specs.declared.blob.Blob.TheVariants as blobs
use Rattle.asm_writer.specs.declared.plan.Extern.{Extern}
use Rattle.asm_writer.specs.declared.plan.MethodPlan.{MethodPlan}
use Rattle.asm_writer.specs.Packing.{Packing, packed, filled}
use Rattle.asm_writer.specs.Signatures.{VOID, BOOLEAN, I4, STRING, SZARRAY, MVAR, blob, signature_blob, local_blob, extern_blob}

-- The blobs in the order of the heap. After them stand those of the methods and those of the externs.
abbrev pub cited_blobs : List Blob
cited_blobs =
    blobs.Empty ∷ blobs.Condition ∷ blobs.ConditionAndMessage ∷ blobs.Nothing ∷ blobs.Result ∷ blobs.OldValue
    ∷ blobs.OfBool ∷ blobs.OfInt ∷ blobs.OfBools ∷ blobs.OfInts ∷ []

-- The signatures of the contract calls (MethodRefSig, II.23.2.2), and the instantiations of `Result` and
-- `OldValue` (MethodSpec, II.23.2.15).
abbrev pub blob_content : Blob → List ℕ
blob_content blobs.Empty = []
blob_content blobs.Condition = 0x00 ∷ 1 ∷ VOID ∷ BOOLEAN ∷ []
blob_content blobs.ConditionAndMessage = 0x00 ∷ 2 ∷ VOID ∷ BOOLEAN ∷ STRING ∷ []
blob_content blobs.Nothing = 0x00 ∷ 0 ∷ VOID ∷ []
blob_content blobs.Result = 0x10 ∷ 1 ∷ 0 ∷ MVAR ∷ 0 ∷ []
blob_content blobs.OldValue = 0x10 ∷ 1 ∷ 1 ∷ MVAR ∷ 0 ∷ MVAR ∷ 0 ∷ []
blob_content blobs.OfBool = 0x0a ∷ 1 ∷ BOOLEAN ∷ []
blob_content blobs.OfInt = 0x0a ∷ 1 ∷ I4 ∷ []
blob_content blobs.OfBools = 0x0a ∷ 1 ∷ SZARRAY ∷ BOOLEAN ∷ []
blob_content blobs.OfInts = 0x0a ∷ 1 ∷ SZARRAY ∷ I4 ∷ []

-- Which of the blobs of the heap it is.
abbrev pub blob_index : Blob → ℕ
blob_index blobs.Empty = 0
blob_index blobs.Condition = 1
blob_index blobs.ConditionAndMessage = 2
blob_index blobs.Nothing = 3
blob_index blobs.Result = 4
blob_index blobs.OldValue = 5
blob_index blobs.OfBool = 6
blob_index blobs.OfInt = 7
blob_index blobs.OfBools = 8
blob_index blobs.OfInts = 9

-- The same of the blobs of the method of this index: its signature, and after it its locals.
abbrev pub signature_index : ℕ → ℕ
signature_index method = length cited_blobs + 2 * method

abbrev pub locals_index : ℕ → ℕ
locals_index method = signature_index method + 1

-- The same of the signature of the extern of this index, after those of so many methods.
abbrev pub extern_signature_index : ℕ → ℕ → ℕ
extern_signature_index methods index = signature_index methods + index

abbrev pub blob_item : Blob → List ℕ
blob_item cited = blob (blob_content cited)

-- A method without locals has no bytes for them.
abbrev pub method_blob_items : MethodPlan → List (List ℕ)
method_blob_items m = signature_blob m ∷ local_blob m.locals.items ∷ []

abbrev pub blob_items : List MethodPlan → List Extern → List (List ℕ)
blob_items methods externs = map blob_item cited_blobs ++ flat_map method_blob_items methods ++ map extern_blob externs

unfoldable pub blob_heap : List MethodPlan → List Extern → Packing
blob_heap methods externs = filled (packed (blob_items methods externs))
