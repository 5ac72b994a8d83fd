-- What the blob of a signature says (II.23.2).
use Rattle.std.specs.Prelude.{ℕ, ◌%◌, List, [], ◌∷◌, Bool, nat_lt, ◌==◌, Option, Some, None, Result, Ok, Err, if◌then◌else◌}
use Rattle.cil_model.specs.declared.place.Place.{Place}
use Rattle.signature_blobs.specs.declared.fault.SigFault.{SigFault}
use Rattle.signature_blobs.specs.declared.fault.SigFault.TheVariants.{Short, Form}
use Rattle.signature_blobs.specs.declared.method.MethodSig.{MethodSig}
use Rattle.signature_blobs.specs.declared.method.Signature.{Signature}
use Rattle.signature_blobs.specs.declared.method.SigTypes.{SigTypes}
use Rattle.signature_blobs.specs.declared.method.SigTypes.TheVariants.{Known, Other}
use Rattle.signature_blobs.specs.declared.local.LocalSig.{LocalSig}
use Rattle.signature_blobs.specs.declared.local.LocalSig.TheVariants as locals
use Rattle.signature_blobs.specs.Reading.{Reading, known, ◌>>=◌, made}
use Rattle.signature_blobs.specs.Numbers.{compressed_at, count_at}
use Rattle.signature_blobs.specs.Spelling.{has_this, is_generic}
use Rattle.signature_blobs.specs.Types.{type_at, result_at, types_at}

-- What is read by the first byte, which tells what a blob is.
abbrev pub by_first : {A : Type 0} → List ℕ → (ℕ → Result A SigFault) → Result A SigFault
by_first [] read = Err (Short 0)
by_first (first ∷ rest) read = read first

-- The offset after the convention byte and, of a generic method, the number of its type parameters.
unfoldable pub parameters_at : List ℕ → Bool → Result ℕ SigFault
parameters_at blob generic = if generic then made (λ number. number.1) (compressed_at blob 1) else Ok 1

-- The number of parameters, the result and the parameters.
unfoldable pub signature_at : List ℕ → Bool → Reading Signature
signature_at blob generic = do
  at ← known (parameters_at blob generic)
  count ← count_at blob at
  result ← result_at blob count.1
  args ← types_at blob result.1 count.0
  Ok (Some (record { result = result.0; args = args }))

abbrev pub as_types : Option Signature → SigTypes
as_types (Some signature) = Known signature
as_types None = Other

-- The types after a convention byte. The profile has the convention 0 alone.
unfoldable pub types_of : List ℕ → ℕ → Result SigTypes SigFault
types_of blob convention =
    if convention % 16 == 0 then made as_types (signature_at blob (is_generic convention))
    else Ok Other

-- The signature of a method (II.23.2.1). The low four bits of its first byte are a convention's number.
unfoldable pub method_signature : List ℕ → Result MethodSig SigFault
method_signature blob = by_first blob (λ convention.
    if nat_lt 5 (convention % 16) then Err (Form 0)
    else made (λ types. record { has_this = has_this convention; generic = is_generic convention; types = types }) (types_of blob convention))

-- The number of locals and their types.
unfoldable pub locals_at : List ℕ → Reading (List Place)
locals_at blob = do
  count ← count_at blob 1
  types_at blob count.1 count.0

abbrev pub as_locals : Option (List Place) → LocalSig
as_locals (Some places) = locals.Known places
as_locals None = locals.Other

-- The signature of locals (II.23.2.6).
unfoldable pub local_signature : List ℕ → Result LocalSig SigFault
local_signature blob = by_first blob (λ first.
    if first == 0x07 then made as_locals (locals_at blob) else Err (Form 0))

-- The number of type arguments, of which the profile has one, and its type.
unfoldable pub argument_at : List ℕ → Reading Place
argument_at blob = do
  count ← known (compressed_at blob 1)
  argument ← if count.0 == 1 then type_at blob count.1 else Ok None
  Ok (Some argument.0)

-- The type argument of a generic method (II.23.2.15).
unfoldable pub spec_signature : List ℕ → Reading Place
spec_signature blob = by_first blob (λ first. if first == 0x0A then argument_at blob else Err (Form 0))
