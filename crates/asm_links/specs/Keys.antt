-- When two methods are told apart, and how what tells a method is hashed.
use Rattle.std.specs.Prelude.{ℕ, ◌==◌, ◌&&◌, ◌++◌, Bool, true, false, List, [], ◌∷◌, slice_get}
use Rattle.std.specs.Option.{option_map_or}
use Rattle.std.specs.Bool.{beq}
use Rattle.std.specs.Hash as fed
use Rattle.std.specs.Hash.{HashWrites}
use Rattle.std.specs.Str.{bytes_eq}
use Rattle.asm_image.specs.Members.{MethodKey}
use Rattle.cil_model.specs.Places.{place_number}
use Rattle.cil_model.specs.declared.place.Place.{Place}
use Rattle.signature_blobs.specs.declared.method.MethodSig.{MethodSig}
use Rattle.signature_blobs.specs.declared.method.SigTypes.{SigTypes}
use Rattle.signature_blobs.specs.declared.method.SigTypes.TheVariants as types

-- ---- equal keys

abbrev pub same_place : Place → Place → Bool
same_place a b = place_number a == place_number b

-- The number of the type of an index, 0 after the last.
abbrev pub number_in : List Place → ℕ → ℕ
number_in places index = option_map_or place_number (slice_get places index) 0

abbrev pub same_places : List Place → List Place → Bool
same_places [] [] = true
same_places [] (other ∷ others) = false
same_places (place ∷ places) [] = false
same_places (place ∷ places) (other ∷ others) = same_place place other && same_places places others

abbrev pub same_types : SigTypes → SigTypes → Bool
same_types (types.Known a) (types.Known b) = same_place a.result b.result && same_places a.args b.args
same_types (types.Known a) types.Other = false
same_types types.Other (types.Known b) = false
same_types types.Other types.Other = true

abbrev pub same_sig : MethodSig → MethodSig → Bool
same_sig a b = beq a.has_this b.has_this && beq a.generic b.generic && same_types a.types b.types

-- The names are equal byte for byte, and so are the signatures as they are read.
abbrev pub same_names : MethodKey → MethodKey → Bool
same_names a b = bytes_eq a.assembly b.assembly && bytes_eq a.namespace b.namespace && bytes_eq a.class b.class && bytes_eq a.name b.name

abbrev pub same_key : MethodKey → MethodKey → Bool
same_key a b = same_names a b && same_sig a.sig b.sig

-- ---- hashes

abbrev pub places_input : List Place → HashWrites
places_input [] = []
places_input (place ∷ places) = fed.u8 (place_number place) ++ places_input places

abbrev pub types_input : SigTypes → HashWrites
types_input (types.Known known) = fed.u8 (place_number known.result) ++ places_input known.args
types_input types.Other = []

abbrev pub sig_input : MethodSig → HashWrites
sig_input sig = fed.bool sig.has_this ++ (fed.bool sig.generic ++ types_input sig.types)

abbrev pub key_input : MethodKey → HashWrites
key_input key =
    fed.slice fed.u8 key.assembly
    ++ (fed.slice fed.u8 key.namespace ++ (fed.slice fed.u8 key.class ++ (fed.slice fed.u8 key.name ++ sig_input key.sig)))
