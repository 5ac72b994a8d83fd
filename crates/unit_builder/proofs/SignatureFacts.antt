-- What signatures say: types of values, and not too many of them.
use Rattle.std.proofs.Common.{◌≡◌, ◌≢◌, ℕ, zero, suc, ◌+◌, ◌%◌, ◌≤◌, ◌==◌, nat_lt, Bool, List, [], ◌∷◌, length, refl, sym, ap, subst, arith}
use Rattle.std.specs.Prelude.{Option, Some, None, Result, Ok, Err, unwrap_or}
use Rattle.std.specs.Option.{option_and_then}
use Rattle.std.proofs.lemmas.Bool.{cond_both, ltb-false}
use Rattle.asm_image.specs.Cells.{read_signature, signature, signature_blob}
use Rattle.asm_image.specs.Rows.{method_row}
use Rattle.asm_image.specs.Tokens.{faultless, locals_at, locals_of, row_in}
use Rattle.asm_image.specs.declared.method_row.MethodRow.{MethodRow}
use Rattle.cil_model.specs.Limits.{MAX_VARIABLES}
use Rattle.cil_model.specs.WellFormed.{HoldValues}
use Rattle.cil_model.specs.declared.place.Place.{Place}
use Rattle.cil_model.specs.declared.place.Place.TheVariants as places
use Rattle.il_decoder.specs.declared.body.Header.{Header}
use Rattle.metadata_tables.specs.Heaps.{blob_at}
use Rattle.metadata_tables.specs.Layout.{cell}
use Rattle.metadata_tables.specs.Numbers.{stand_alone_sig, stand_alone_sig_signature}
use Rattle.method_code.specs.OfMethods.{args_of}
use Rattle.pe_reader.specs.Addresses.{metadata}
use Rattle.signature_blobs.specs.Numbers.{compressed_at, count_at}
use Rattle.signature_blobs.specs.Reading.{Reading, byte_at, known, made, ◌>>=◌}
use Rattle.signature_blobs.specs.Signatures.{as_locals, as_types, by_first, local_signature, locals_at as places_at, method_signature, parameters_at, signature_at, types_of}
use Rattle.signature_blobs.specs.Spelling.{is_generic}
use Rattle.signature_blobs.specs.Types.{element_of, result_at, type_at, types_at}
use Rattle.signature_blobs.specs.declared.fault.SigFault.{SigFault}
use Rattle.signature_blobs.specs.declared.local.LocalSig.{LocalSig}
use Rattle.signature_blobs.specs.declared.local.LocalSig.TheVariants as locals
use Rattle.signature_blobs.specs.declared.method.MethodSig.{MethodSig}
use Rattle.signature_blobs.specs.declared.method.SigTypes.{SigTypes}
use Rattle.signature_blobs.specs.declared.method.SigTypes.TheVariants as types
use Rattle.signature_blobs.specs.declared.method.Signature.{Signature}
use Rattle.unit_builder.specs.Bodies.{known_locals, locals_named, locals_told}
use Rattle.unit_builder.specs.Rows.{IsRowOf}

-- What is so of a value that was read, if one was.
abbrev IfRead : {A : Type 0} → (A → Type 0) → Reading A → Type 0
IfRead P (Ok (Some x)) = P x
IfRead P (Ok None) = Unit {0}
IfRead P (Err fault) = Unit {0}

-- Behind a step, where it is so whatever the step gives; and where something is so of that.
behind : {A B : Type 0} (P : B → Type 0) (r : Reading A) (f : A → Reading B) → ((x : A) → IfRead P (f x)) → IfRead P (r >>= f)
behind P (Ok (Some x)) f so = so x
behind P (Ok None) f so = tt
behind P (Err fault) f so = tt

behind_one : {A B : Type 0} (Q : A → Type 0) (P : B → Type 0) (r : Reading A) (f : A → Reading B) → IfRead Q r → ((x : A) → Q x → IfRead P (f x)) → IfRead P (r >>= f)
behind_one Q P (Ok (Some x)) f first so = so x first
behind_one Q P (Ok None) f first so = tt
behind_one Q P (Err fault) f first so = tt

-- ---- types

abbrev IsValue : Place × ℕ → Type 0
IsValue found = found.0 ≢ places.Void

bool_value : places.Bool ≢ places.Void
bool_value e = absurd cc

int_value : places.Int ≢ places.Void
int_value e = absurd cc

bools_value : places.Bools ≢ places.Void
bools_value e = absurd cc

ints_value : places.Ints ≢ places.Void
ints_value e = absurd cc

element_value : (code after : ℕ) → IfRead IsValue (element_of code after)
element_value code after =
    cond_both (code == 0x02) _ _ (IfRead IsValue) (λ e. bools_value) (λ e. cond_both (code == 0x08) _ _ (IfRead IsValue) (λ e. ints_value) (λ e. tt))

type_value : (blob : List ℕ) (at : ℕ) → IfRead IsValue (type_at blob at)
unfolding type_at
type_value blob at = behind IsValue (known (byte_at blob at)) _ (λ code.
    cond_both (code == 0x02) _ _ (IfRead IsValue) (λ e. bool_value) (λ e.
    cond_both (code == 0x08) _ _ (IfRead IsValue) (λ e. int_value) (λ e.
    cond_both (code == 0x1D) _ _ (IfRead IsValue) (λ e. behind IsValue (known (byte_at blob (at + 1))) _ (λ element. element_value element (at + 2))) (λ e. tt))))

-- So many values.
abbrev AreSo : ℕ → List Place → Type 0
AreSo n places = HoldValues places × (length places ≡ n)

one_more : (n : ℕ) (place : Place) (read : Reading (List Place)) → place ≢ places.Void → IfRead (AreSo n) read
    → IfRead (AreSo (suc n)) (read >>= (λ others. Ok (Some (place ∷ others))))
one_more n place (Ok (Some others)) value so = ((value, so.0), ap suc so.1)
one_more n place (Ok None) value so = tt
one_more n place (Err fault) value so = tt

types_values : (n : ℕ) (blob : List ℕ) (at : ℕ) → IfRead (AreSo n) (types_at blob at n)
unfolding types_at
types_values zero blob at = (tt, refl)
types_values (suc n) blob at =
    behind_one IsValue (AreSo (suc n)) (type_at blob at) _ (type_value blob at) (λ first value. one_more n first.0 (types_at blob first.1 n) value (types_values n blob first.1))

-- ---- counts

abbrev IsFew : ℕ × ℕ → Type 0
IsFew count = count.0 ≤ MAX_VARIABLES

count_few : (blob : List ℕ) (at : ℕ) → IfRead IsFew (count_at blob at)
unfolding count_at
count_few blob at = behind IsFew (known (compressed_at blob at)) _ (λ count.
    cond_both (nat_lt MAX_VARIABLES count.0) _ _ (IfRead IsFew) (λ e. tt) (λ e. ltb-false MAX_VARIABLES count.0 e))

-- Types of values, as many as a method may have.
abbrev pub AreFewValues : List Place → Type 0
AreFewValues places = HoldValues places × (length places ≤ MAX_VARIABLES)

few : (n : ℕ) (places : List Place) → n ≤ MAX_VARIABLES → AreSo n places → AreFewValues places
few n places less so = (so.0, subst (λ k. k ≤ MAX_VARIABLES) (sym so.1) less)

-- ---- methods

abbrev HasFew : Signature → Type 0
HasFew sig = AreFewValues sig.args

signature_few : (blob : List ℕ) (generic : Bool) → IfRead HasFew (signature_at blob generic)
unfolding signature_at
signature_few blob generic = behind HasFew (known (parameters_at blob generic)) _ (λ at.
    behind_one IsFew HasFew (count_at blob at) _ (count_few blob at) (λ count less.
    behind HasFew (result_at blob count.1) _ (λ result.
    behind_one (AreSo count.0) HasFew (types_at blob result.1 count.0) _ (types_values count.0 blob result.1) (λ args so. few count.0 args less so))))

abbrev KnownFew : SigTypes → Type 0
KnownFew (types.Known sig) = HasFew sig
KnownFew types.Other = Unit {0}

abbrev TypesFew : Result SigTypes SigFault → Type 0
TypesFew (Ok said) = KnownFew said
TypesFew (Err fault) = Unit {0}

as_types_few : (read : Reading Signature) → IfRead HasFew read → TypesFew (made as_types read)
as_types_few (Ok (Some sig)) so = so
as_types_few (Ok None) so = tt
as_types_few (Err fault) so = tt

types_few : (blob : List ℕ) (convention : ℕ) → TypesFew (types_of blob convention)
unfolding types_of
types_few blob convention =
    cond_both (convention % 16 == 0) _ _ TypesFew (λ e. as_types_few (signature_at blob (is_generic convention)) (signature_few blob (is_generic convention))) (λ e. tt)

abbrev MethodFew : Result MethodSig SigFault → Type 0
MethodFew read = KnownFew (read_signature read).types

made_few : (f : SigTypes → MethodSig) (read : Result SigTypes SigFault) → ((said : SigTypes) → (f said).types ≡ said) → TypesFew read → MethodFew (made f read)
made_few f (Ok said) same so = subst KnownFew (sym (same said)) so
made_few f (Err fault) same so = tt

first_few : (blob : List ℕ) (read : ℕ → Result MethodSig SigFault) → ((first : ℕ) → MethodFew (read first)) → MethodFew (by_first blob read)
first_few [] read so = tt
first_few (first ∷ rest) read so = so first

method_few : (blob : List ℕ) → MethodFew (method_signature blob)
unfolding method_signature
method_few blob = first_few blob _ (λ convention.
    cond_both (nat_lt 5 (convention % 16)) _ _ MethodFew (λ e. tt) (λ e. made_few _ (types_of blob convention) (λ said. refl) (types_few blob convention)))

args_few : (said : SigTypes) → KnownFew said → AreFewValues (args_of said)
args_few (types.Known sig) so = so
args_few types.Other so = (tt, omega arith)

row_few : (md : List ℕ) (number : ℕ) → AreFewValues (args_of (method_row md number).sig.types)
unfolding method_row signature
row_few md number = args_few (signature md number).types (method_few (signature_blob md number))

-- The arguments of a method are of values, and not too many.
pub arguments_few : (asm : List ℕ) (method : MethodRow) → IsRowOf asm method → AreFewValues (args_of method.sig.types)
arguments_few asm method row = subst (λ (m : MethodRow). AreFewValues (args_of m.sig.types)) (sym row.row_is) (row_few (metadata asm) row.number)

-- ---- locals

abbrev LocalsFew : Option LocalSig → Type 0
LocalsFew (Some (locals.Known places)) = AreFewValues places
LocalsFew (Some locals.Other) = Unit {0}
LocalsFew None = Unit {0}

places_few : (blob : List ℕ) → IfRead AreFewValues (places_at blob)
unfolding places_at
places_few blob =
    behind_one IsFew AreFewValues (count_at blob 1) _ (count_few blob 1) (λ count less.
    subst (IfRead AreFewValues) refl (by_count count.0 (types_at blob count.1 count.0) less (types_values count.0 blob count.1)))
  where
    by_count : (n : ℕ) (read : Reading (List Place)) → n ≤ MAX_VARIABLES → IfRead (AreSo n) read → IfRead AreFewValues read
    by_count n (Ok (Some places)) less so = few n places less so
    by_count n (Ok None) less so = tt
    by_count n (Err fault) less so = tt

as_locals_few : (read : Reading (List Place)) → IfRead AreFewValues read → LocalsFew (faultless (made as_locals read))
as_locals_few (Ok (Some places)) so = so
as_locals_few (Ok None) so = tt
as_locals_few (Err fault) so = tt

local_first : (blob : List ℕ) (read : ℕ → Result LocalSig SigFault) → ((first : ℕ) → LocalsFew (faultless (read first))) → LocalsFew (faultless (by_first blob read))
local_first [] read so = tt
local_first (first ∷ rest) read so = so first

local_few : (blob : List ℕ) → LocalsFew (faultless (local_signature blob))
unfolding local_signature
local_few blob = local_first blob _ (λ first.
    cond_both (first == 0x07) _ _ (λ (read : Result LocalSig SigFault). LocalsFew (faultless read)) (λ e. as_locals_few (places_at blob) (places_few blob)) (λ e. tt))

found_few : (blob : Option (List ℕ)) → LocalsFew (option_and_then (λ b. faultless (local_signature b)) blob)
found_few None = tt
found_few (Some blob) = local_few blob

row_locals : (md : List ℕ) (row : Option ℕ) → LocalsFew (option_and_then (locals_at md) row)
unfolding locals_at
row_locals md None = tt
row_locals md (Some row) = found_few (blob_at md (cell md stand_alone_sig row stand_alone_sig_signature))

named_few : (md : List ℕ) (token : ℕ) → LocalsFew (locals_of md token)
unfolding locals_of
named_few md token = cond_both (token == 0) _ _ LocalsFew (λ e. (tt, omega arith)) (λ e. row_locals md (row_in md stand_alone_sig token))

known_few : (sig : Option LocalSig) → LocalsFew sig → AreFewValues (unwrap_or (known_locals sig) [])
known_few (Some (locals.Known places)) so = so
known_few (Some locals.Other) so = (tt, omega arith)
known_few None so = (tt, omega arith)

-- The locals that a header names are of values, and not too many.
pub locals_few : (asm : List ℕ) (header : Header) → AreFewValues (locals_told asm header)
unfolding locals_told locals_named
locals_few asm header = known_few (locals_of (metadata asm) header.local_token) (named_few (metadata asm) header.local_token)
