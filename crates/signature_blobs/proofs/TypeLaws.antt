-- Types that stand in a blob: what a loop found, and what is read where they stand.
use Rattle.std.proofs.Common.{◌≡◌, ◌≢◌, ℕ, ◌+◌, false, eqb, List, [], ◌∷◌, ◌++◌, length, Some, Ok, refl, ap₂, subst, sym, ◌∙◌, append-nil}
use Rattle.std.specs.List.{flat_map}
use Rattle.std.proofs.lemmas.Bool.{lt-ltb}
use Rattle.std.proofs.lemmas.List.Concat.{flat_map-cons, flat_map-append}
use Rattle.cil_model.specs.declared.place.Place.{Place}
use Rattle.cil_model.specs.declared.place.Place.TheVariants.{Void, Bool as OfBool, Int, Bools, Ints}
use Rattle.signature_blobs.specs.Reading.{byte_at}
use Rattle.signature_blobs.specs.Types.{type_at, result_at, types_at}
use Rattle.signature_blobs.specs.Spelling.{Stands, SomeStand, StandFrom, SpellsPlaces, type_bytes, AreValues}
use Rattle.signature_blobs.proofs.Standing.{nothing_stands, join_stands, prefix_stands, back_stands, first_stands}

-- no type, and one more
pub types-none : (blob : List ℕ) (at : ℕ) → SomeStand (SpellsPlaces []) blob at at
types-none blob at = record { bytes = []; holds = record { values = tt; parts = refl }; stand = nothing_stands blob at }

values-more : (places : List Place) (place : Place) → AreValues places → place ≢ Void → AreValues (places ++ place ∷ [])
values-more [] place values value = (value, tt)
values-more (first ∷ places) place values value = (values.0, values-more places place values.1 value)

pub types-more : (blob : List ℕ) (places : List Place) (place : Place) (at mid after : ℕ) → SomeStand (SpellsPlaces places) blob at mid → place ≢ Void
    → Stands (type_bytes place) blob mid after → SomeStand (SpellsPlaces (places ++ place ∷ [])) blob at after
types-more blob places place at mid after prefix value last = record {
  bytes = prefix.bytes ++ type_bytes place;
  holds = record {
    values = values-more places place prefix.holds.values value;
    parts =
        ap₂ (λ (a b : List ℕ). a ++ b) prefix.holds.parts (sym (flat_map-cons type_bytes place [] ∙ append-nil (type_bytes place)))
        ∙ sym (flat_map-append type_bytes places (place ∷ []));
  };
  stand = join_stands prefix.bytes (type_bytes place) blob at mid after prefix.stand last;
}

pub places_stand : (blob : List ℕ) (places : List Place) (at : ℕ) (p : StandFrom (SpellsPlaces places) blob at) → Stands (flat_map type_bytes places) blob at p.after
places_stand blob places at p = subst (λ (t : List ℕ). Stands t blob at p.after) p.some.holds.parts p.some.stand

byte_read : (blob bytes : List ℕ) (at after b : ℕ) → Stands (b ∷ bytes) blob at after → byte_at blob at ≡ Ok b
byte_read blob bytes at after b stands =
    let first = first_stands b bytes blob at after stands in
    rw (lt-ltb at (length blob) first.0, first.1) refl

pub type_read : (blob : List ℕ) (at after : ℕ) (place : Place) → place ≢ Void → Stands (type_bytes place) blob at after → type_at blob at ≡ Ok (Some (place, after))
unfolding type_at
type_read blob at after Void value stands = absurd (value refl)
type_read blob at after OfBool value stands = let h = byte_read blob [] at after 0x02 stands in rw (h, stands.ends) refl
type_read blob at after Int value stands = let h = byte_read blob [] at after 0x08 stands in rw (h, stands.ends) refl
type_read blob at after Bools value stands =
    let h = byte_read blob (0x02 ∷ []) at after 0x1D stands in
    let k = byte_read blob [] (at + 1) after 0x02 (back_stands (0x1D ∷ []) (0x02 ∷ []) blob at after stands) in
    rw (h, k, stands.ends) refl
type_read blob at after Ints value stands =
    let h = byte_read blob (0x08 ∷ []) at after 0x1D stands in
    let k = byte_read blob [] (at + 1) after 0x08 (back_stands (0x1D ∷ []) (0x08 ∷ []) blob at after stands) in
    rw (h, k, stands.ends) refl

-- a type that is not void begins with another byte than VOID
other_result : (blob bytes : List ℕ) (at after b : ℕ) → Stands (b ∷ bytes) blob at after → eqb b 0x01 ≡ false → result_at blob at ≡ type_at blob at
unfolding result_at
other_result blob bytes at after b stands other = rw (byte_read blob bytes at after b stands, other) refl

pub result_read : (blob : List ℕ) (at after : ℕ) (place : Place) → Stands (type_bytes place) blob at after → result_at blob at ≡ Ok (Some (place, after))
unfolding result_at
result_read blob at after Void stands = let h = byte_read blob [] at after 0x01 stands in rw (h, stands.ends) refl
result_read blob at after OfBool stands = other_result blob [] at after 0x02 stands refl ∙ type_read blob at after OfBool (λ h. absurd cc) stands
result_read blob at after Int stands = other_result blob [] at after 0x08 stands refl ∙ type_read blob at after Int (λ h. absurd cc) stands
result_read blob at after Bools stands = other_result blob (0x02 ∷ []) at after 0x1D stands refl ∙ type_read blob at after Bools (λ h. absurd cc) stands
result_read blob at after Ints stands = other_result blob (0x08 ∷ []) at after 0x1D stands refl ∙ type_read blob at after Ints (λ h. absurd cc) stands

pub types_read : (blob : List ℕ) (at after : ℕ) (places : List Place) → AreValues places → Stands (flat_map type_bytes places) blob at after → types_at blob at (length places) ≡ Ok (Some places)
unfolding types_at
types_read blob at after [] values stands = refl
types_read blob at after (place ∷ places) values stands =
    let both : Stands (type_bytes place ++ flat_map type_bytes places) blob at after = subst (λ (t : List ℕ). Stands t blob at after) (flat_map-cons type_bytes place places) stands in
    let first = type_read blob at (at + length (type_bytes place)) place values.0 (prefix_stands (type_bytes place) (flat_map type_bytes places) blob at after both) in
    let others = types_read blob (at + length (type_bytes place)) after places values.1 (back_stands (type_bytes place) (flat_map type_bytes places) blob at after both) in
    rw (first, others) refl

pub ruleset types = (types-none, types-more)
