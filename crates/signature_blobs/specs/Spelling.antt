-- How signatures are spelled (II.23.2).
use Rattle.std.specs.Prelude.{◌≡◌, ◌≢◌, ℕ, ◌+◌, ◌%◌, ◌≤◌, List, [], ◌∷◌, ◌++◌, length, drop, Bool, true, false, not, ◌==◌, bit_and}
use Rattle.std.specs.List.{flat_map, AllByRecursion}
use Rattle.cc_base.specs.Compressed.{SpellsNumber}
use Rattle.cil_model.specs.Limits.{MAX_VARIABLES}
use Rattle.cil_model.specs.declared.place.Place.{Place}
use Rattle.cil_model.specs.declared.place.Place.TheVariants.{Void, Bool as OfBool, Int, Bools, Ints}
use Rattle.signature_blobs.specs.declared.method.Signature.{Signature}
use Rattle.signature_blobs.specs.declared.method.SigTypes.{SigTypes}
use Rattle.signature_blobs.specs.declared.method.SigTypes.TheVariants as types
use Rattle.signature_blobs.specs.declared.local.LocalSig.{LocalSig}
use Rattle.signature_blobs.specs.declared.local.LocalSig.TheVariants as locals

-- These bytes stand in the blob from one offset up to another.
pub record Stands (bytes blob : List ℕ) (at after : ℕ) : Type 0 where
  pub ends : after ≡ at + length bytes
  pub parts : drop at blob ≡ bytes ++ drop after blob

-- Bytes of which this holds stand in the blob from one offset up to another.
pub record SomeStand (P : List ℕ → Type 0) (blob : List ℕ) (at after : ℕ) : Type 0 where
  pub bytes : List ℕ
  pub holds : P bytes
  pub stand : Stands bytes blob at after

-- The same, up to whatever offset.
pub record StandFrom (P : List ℕ → Type 0) (blob : List ℕ) (at : ℕ) : Type 0 where
  pub after : ℕ
  pub some : SomeStand P blob at after

-- The blob begins with bytes of which this holds.
pub record Begins (P : List ℕ → Type 0) (blob : List ℕ) : Type 0 where
  pub prefix : List ℕ
  pub rest : List ℕ
  pub holds : P prefix
  pub parts : blob ≡ prefix ++ rest

-- VOID, BOOLEAN, I4, and SZARRAY with its element type (II.23.1.16).
abbrev pub type_bytes : Place → List ℕ
type_bytes Void = 0x01 ∷ []
type_bytes OfBool = 0x02 ∷ []
type_bytes Int = 0x08 ∷ []
type_bytes Bools = 0x1D ∷ 0x02 ∷ []
type_bytes Ints = 0x1D ∷ 0x08 ∷ []

-- Parameters and locals are of any type but VOID.
abbrev pub AreValues : List Place → Type 0
AreValues places = AllByRecursion (λ place. place ≢ Void) places

-- Places of values, one after another.
pub record SpellsPlaces (places : List Place) (bytes : List ℕ) : Type 0 where
  pub values : AreValues places
  pub parts : bytes ≡ flat_map type_bytes places

-- The bit HASTHIS of a convention byte: the method has a `this`.
abbrev pub has_this : ℕ → Bool
has_this convention = not (bit_and convention 0x20 == 0)

-- The bit GENERIC: the method has type parameters.
abbrev pub is_generic : ℕ → Bool
is_generic convention = not (bit_and convention 0x10 == 0)

-- A generic method alone has a number of type parameters.
abbrev pub SpellsTypeCount : Bool → List ℕ → Type 0
SpellsTypeCount true bytes = (n : ℕ) × SpellsNumber n bytes
SpellsTypeCount false bytes = bytes ≡ []

-- A number of places and the places, of which there are at most as many as a method has variables.
pub record SpellsCount (places : List Place) (bytes : List ℕ) : Type 0 where
  pub number : SpellsNumber (length places) bytes
  pub few : length places ≤ MAX_VARIABLES
  pub values : AreValues places

-- What stands after the convention byte: of a generic method the number of its type parameters, the
-- number of parameters, the result and the parameters.
pub record SpellsTypes (generic : Bool) (signature : Signature) (bytes : List ℕ) : Type 0 where
  pub type_count : List ℕ
  pub count : List ℕ
  pub type_counted : SpellsTypeCount generic type_count
  pub counted : SpellsCount signature.args count
  pub parts : bytes ≡ type_count ++ (count ++ (type_bytes signature.result ++ flat_map type_bytes signature.args))

-- The signature of a method with these flags (II.23.2.1). Its convention is 0, in the low four bits
-- of the first byte.
pub record SpellsMethod (this generic : Bool) (signature : Signature) (bytes : List ℕ) : Type 0 where
  pub convention : ℕ
  pub behind : List ℕ
  pub default : convention % 16 ≡ 0
  pub this_is : has_this convention ≡ this
  pub generic_is : is_generic convention ≡ generic
  pub types : SpellsTypes generic signature behind
  pub parts : bytes ≡ convention ∷ behind

-- A number of locals and the locals.
pub record SpellsList (places : List Place) (bytes : List ℕ) : Type 0 where
  pub count : List ℕ
  pub counted : SpellsCount places count
  pub parts : bytes ≡ count ++ flat_map type_bytes places

-- The signature of these locals (II.23.2.6).
pub record SpellsLocals (places : List Place) (bytes : List ℕ) : Type 0 where
  pub behind : List ℕ
  pub list : SpellsList places behind
  pub parts : bytes ≡ 0x07 ∷ behind

-- One type argument: the number 1 and its type.
pub record SpellsArgument (place : Place) (bytes : List ℕ) : Type 0 where
  pub count : List ℕ
  pub one : SpellsNumber 1 count
  pub value : place ≢ Void
  pub parts : bytes ≡ count ++ type_bytes place

-- An instantiation with this type (II.23.2.15).
pub record SpellsInstance (place : Place) (bytes : List ℕ) : Type 0 where
  pub behind : List ℕ
  pub argument : SpellsArgument place behind
  pub parts : bytes ≡ 0x0A ∷ behind

-- What is known of the types of a method.
abbrev pub IfKnown : SigTypes → (Signature → Type 0) → Type 0
IfKnown (types.Known signature) P = P signature
IfKnown types.Other P = Unit {0}

-- What is known of the locals of a method.
abbrev pub IfKnownLocals : LocalSig → (List Place → Type 0) → Type 0
IfKnownLocals (locals.Known places) P = P places
IfKnownLocals locals.Other P = Unit {0}
