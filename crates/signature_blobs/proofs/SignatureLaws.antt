-- A signature is read where a blob begins with one of its spellings, and what was read stands there.
use Rattle.cil_model.specs.Limits.{MAX_VARIABLES}
use Rattle.std.proofs.Common.{◌≡◌, ◌≢◌, ℕ, ◌+◌, ◌%◌, ◌<◌, ◌≤◌, Bool, true, false, List, [], ◌∷◌, ◌++◌, length, slice_index, Some, Result, Ok, refl, ap, subst, ◌∙◌, arith}
use Rattle.std.specs.List.{flat_map}
use Rattle.std.proofs.lemmas.Bool.{le-ltb, eq-eqb}
use Rattle.cc_base.specs.Compressed.{SpellsNumber}
use Rattle.cil_model.specs.declared.place.Place.{Place}
use Rattle.cil_model.specs.declared.place.Place.TheVariants.{Void}
use Rattle.signature_blobs.specs.declared.fault.SigFault.{SigFault}
use Rattle.signature_blobs.specs.declared.method.Signature.{Signature}
use Rattle.signature_blobs.specs.declared.method.SigTypes.TheVariants.{Known}
use Rattle.signature_blobs.specs.declared.local.LocalSig.TheVariants as locals
use Rattle.signature_blobs.specs.Numbers.{count_at}
use Rattle.signature_blobs.specs.Spelling.{Stands, SomeStand, StandFrom, Begins, AreValues, SpellsPlaces, SpellsTypeCount, SpellsCount, SpellsTypes, SpellsMethod, SpellsList, SpellsLocals, SpellsArgument, SpellsInstance, type_bytes, has_this, is_generic}
use Rattle.signature_blobs.specs.Signatures.{by_first, parameters_at, signature_at, types_of, method_signature, locals_at, local_signature, argument_at, spec_signature}
use Rattle.signature_blobs.proofs.Standing.{nothing_stands, join_stands, prefix_stands, back_stands, first_stands, whole_stands, begins}
use Rattle.signature_blobs.proofs.NumberLaws.{number_read}
use Rattle.signature_blobs.proofs.TypeLaws.{places_stand, type_read, result_read, types_read}

-- ---- what was read stands there

pub no_count : (blob : List ℕ) → SomeStand (SpellsTypeCount false) blob 1 1
no_count blob = record { bytes = []; holds = refl; stand = nothing_stands blob 1 }

pub some_count : (blob : List ℕ) (n after : ℕ) → SomeStand (SpellsNumber n) blob 1 after → SomeStand (SpellsTypeCount true) blob 1 after
some_count blob n after number = record { bytes = number.bytes; holds = (n, number.holds); stand = number.stand }

counted : (places : List Place) (n : ℕ) (bytes : List ℕ) → SpellsNumber n bytes → n ≤ MAX_VARIABLES → length places ≡ n → AreValues places → SpellsCount places bytes
counted places n bytes spells few number values = record { number = rw number spells; few = omega arith; values = values }

pub types_stand : (blob : List ℕ) (generic : Bool) (result : Place) (args : List Place) (n at mid end : ℕ) → SomeStand (SpellsTypeCount generic) blob 1 at
    → SomeStand (SpellsNumber n) blob at mid → n ≤ MAX_VARIABLES → Stands (type_bytes result) blob mid end → length args ≡ n → StandFrom (SpellsPlaces args) blob end
    → StandFrom (SpellsTypes generic (record { result = result; args = args })) blob 1
types_stand blob generic result args n at mid end types count few gives number takes =
    let w = flat_map type_bytes args in
    let last = join_stands (type_bytes result) w blob mid end takes.after gives (places_stand blob args end takes) in
    let behind = join_stands count.bytes (type_bytes result ++ w) blob at mid takes.after count.stand last in
    record {
      after = takes.after;
      some = record {
        bytes = types.bytes ++ (count.bytes ++ (type_bytes result ++ w));
        holds = record {
          type_count = types.bytes;
          count = count.bytes;
          type_counted = types.holds;
          counted = counted args n count.bytes count.holds few number takes.some.holds.values;
          parts = refl;
        };
        stand = join_stands types.bytes (count.bytes ++ (type_bytes result ++ w)) blob 1 at takes.after types.stand behind;
      };
    }

pub method_begins : (blob : List ℕ) (convention : ℕ) (signature : Signature) → 0 < length blob → slice_index blob 0 ≡ convention → convention % 16 ≡ 0
    → StandFrom (SpellsTypes (is_generic convention) signature) blob 1 → Begins (SpellsMethod (has_this convention) (is_generic convention) signature) blob
method_begins blob convention signature lt first default types =
    begins (SpellsTypes (is_generic convention) signature) (SpellsMethod (has_this convention) (is_generic convention) signature) blob convention lt first types
    (λ bytes spells. record { convention = convention; behind = bytes; default = default; this_is = refl; generic_is = refl; types = spells; parts = refl })

pub list_stands : (blob : List ℕ) (places : List Place) (n mid : ℕ) → SomeStand (SpellsNumber n) blob 1 mid → n ≤ MAX_VARIABLES
    → length places ≡ n → StandFrom (SpellsPlaces places) blob mid → StandFrom (SpellsList places) blob 1
list_stands blob places n mid count few number takes = record {
  after = takes.after;
  some = record {
    bytes = count.bytes ++ flat_map type_bytes places;
    holds = record { count = count.bytes; counted = counted places n count.bytes count.holds few number takes.some.holds.values; parts = refl };
    stand = join_stands count.bytes (flat_map type_bytes places) blob 1 mid takes.after count.stand (places_stand blob places mid takes);
  };
}

pub locals_begin : (blob : List ℕ) (places : List Place) → 0 < length blob → slice_index blob 0 ≡ 0x07 → StandFrom (SpellsList places) blob 1
    → Begins (SpellsLocals places) blob
locals_begin blob places lt first list =
    begins (SpellsList places) (SpellsLocals places) blob 0x07 lt first list (λ bytes spells. record { behind = bytes; list = spells; parts = refl })

pub argument_stands : (blob : List ℕ) (place : Place) (mid after : ℕ) → SomeStand (SpellsNumber 1) blob 1 mid → place ≢ Void → Stands (type_bytes place) blob mid after
    → StandFrom (SpellsArgument place) blob 1
argument_stands blob place mid after count value type = record {
  after = after;
  some = record {
    bytes = count.bytes ++ type_bytes place;
    holds = record { count = count.bytes; one = count.holds; value = value; parts = refl };
    stand = join_stands count.bytes (type_bytes place) blob 1 mid after count.stand type;
  };
}

pub instance_begins : (blob : List ℕ) (place : Place) → 0 < length blob → slice_index blob 0 ≡ 0x0A → StandFrom (SpellsArgument place) blob 1
    → Begins (SpellsInstance place) blob
instance_begins blob place lt first argument =
    begins (SpellsArgument place) (SpellsInstance place) blob 0x0A lt first argument (λ bytes spells. record { behind = bytes; argument = spells; parts = refl })

pub ruleset stand = (no_count, some_count, types_stand, method_begins, list_stands, locals_begin, argument_stands, instance_begins)

-- ---- what stands there is read

count_read : (blob bytes : List ℕ) (at n after : ℕ) → SpellsNumber n bytes → n ≤ MAX_VARIABLES → Stands bytes blob at after → count_at blob at ≡ Ok (Some (n, after))
unfolding count_at
count_read blob bytes at n after spells few stands = rw (number_read blob bytes at n after spells stands, le-ltb MAX_VARIABLES n few) refl

parameters_read : (blob bytes : List ℕ) (generic : Bool) (at : ℕ) → SpellsTypeCount generic bytes → Stands bytes blob 1 at → parameters_at blob generic ≡ Ok at
unfolding parameters_at
parameters_read blob bytes true at spells stands = rw (number_read blob bytes 1 spells.0 at spells.1 stands) refl
parameters_read blob bytes false at spells stands =
    let none : Stands [] blob 1 at = subst (λ (t : List ℕ). Stands t blob 1 at) spells stands in
    ap (λ (k : ℕ). Ok k) (omega (arith, none.ends))

signature_read : (blob bytes : List ℕ) (generic : Bool) (signature : Signature) (after : ℕ) → SpellsTypes generic signature bytes → Stands bytes blob 1 after
    → signature_at blob generic ≡ Ok (Some signature)
unfolding signature_at
signature_read blob bytes generic signature after b stands =
    let x = b.type_count in
    let y = b.count in
    let z = type_bytes signature.result in
    let w = flat_map type_bytes signature.args in
    let i : ℕ = 1 + length b.type_count in
    let j : ℕ = 1 + length b.type_count + length b.count in
    let k : ℕ = 1 + length b.type_count + length b.count + length (type_bytes signature.result) in
    let all : Stands (x ++ (y ++ (z ++ w))) blob 1 after = subst (λ (t : List ℕ). Stands t blob 1 after) b.parts stands in
    let behind_x = back_stands x (y ++ (z ++ w)) blob 1 after all in
    let behind_y = back_stands y (z ++ w) blob i after behind_x in
    let start = parameters_read blob x generic i b.type_counted (prefix_stands x (y ++ (z ++ w)) blob 1 after all) in
    let count = count_read blob y i (length signature.args) j b.counted.number b.counted.few (prefix_stands y (z ++ w) blob i after behind_x) in
    let result = result_read blob j k signature.result (prefix_stands z w blob j after behind_y) in
    let args = types_read blob k after signature.args b.counted.values (back_stands z w blob j after behind_y) in
    rw (start, count, result, args) refl

-- A blob that begins with a byte and what stands after it.
record Opens (first : ℕ) (behind blob : List ℕ) : Type 0 where
  lt : 0 < length blob
  is : slice_index blob 0 ≡ first
  end : ℕ
  stands : Stands behind blob 1 end

opens : (first : ℕ) (bytes behind blob rest : List ℕ) → bytes ≡ first ∷ behind → blob ≡ bytes ++ rest → Opens first behind blob
opens first bytes behind blob rest parts whole =
    let stands : Stands (first ∷ behind) blob 0 (length (first ∷ behind)) = whole_stands blob (first ∷ behind) rest (whole ∙ ap (λ (t : List ℕ). t ++ rest) parts) in
    let at_first = first_stands first behind blob 0 (length (first ∷ behind)) stands in
    record { lt = at_first.0; is = at_first.1; end = length (first ∷ behind); stands = back_stands (first ∷ []) behind blob 0 (length (first ∷ behind)) stands }

by_first_is : {A : Type 0} (blob : List ℕ) (first : ℕ) (read : ℕ → Result A SigFault) → 0 < length blob → slice_index blob 0 ≡ first → by_first blob read ≡ read first
by_first_is [] first read lt e = absurd (omega arith)
by_first_is (b ∷ rest) first read lt e = ap read e

pub method_read : (blob : List ℕ) (this generic : Bool) (signature : Signature) → Begins (SpellsMethod this generic signature) blob
    → method_signature blob ≡ Ok (record { has_this = this; generic = generic; types = Known signature })
unfolding method_signature types_of
method_read blob this generic signature begin =
    let s = begin.holds in
    let o = opens s.convention begin.prefix s.behind blob begin.rest s.parts begin.parts in
    let read = signature_read blob s.behind generic signature o.end s.types o.stands in
    by_first_is blob s.convention _ o.lt o.is
    ∙ rw (le-ltb 5 (s.convention % 16) (omega (arith, s.default)), eq-eqb (s.convention % 16) 0 s.default, s.this_is, s.generic_is, read) refl

pub local_read : (blob : List ℕ) (places : List Place) → Begins (SpellsLocals places) blob → local_signature blob ≡ Ok (locals.Known places)
unfolding local_signature locals_at
local_read blob places begin =
    let s = begin.holds in
    let y = s.list.count in
    let w = flat_map type_bytes places in
    let o = opens 0x07 begin.prefix s.behind blob begin.rest s.parts begin.parts in
    let all : Stands (y ++ w) blob 1 o.end = subst (λ (t : List ℕ). Stands t blob 1 o.end) s.list.parts o.stands in
    let count = count_read blob y 1 (length places) (1 + length y) s.list.counted.number s.list.counted.few (prefix_stands y w blob 1 o.end all) in
    let types = types_read blob (1 + length y) o.end places s.list.counted.values (back_stands y w blob 1 o.end all) in
    by_first_is blob 0x07 _ o.lt o.is ∙ rw (count, types) refl

pub spec_read : (blob : List ℕ) (place : Place) → Begins (SpellsInstance place) blob → spec_signature blob ≡ Ok (Some place)
unfolding spec_signature argument_at
spec_read blob place begin =
    let s = begin.holds in
    let y = s.argument.count in
    let z = type_bytes place in
    let o = opens 0x0A begin.prefix s.behind blob begin.rest s.parts begin.parts in
    let all : Stands (y ++ z) blob 1 o.end = subst (λ (t : List ℕ). Stands t blob 1 o.end) s.argument.parts o.stands in
    let count = number_read blob y 1 1 (1 + length y) s.argument.one (prefix_stands y z blob 1 o.end all) in
    let type = type_read blob (1 + length y) o.end place s.argument.value (back_stands y z blob 1 o.end all) in
    by_first_is blob 0x0A _ o.lt o.is ∙ rw (count, type) refl
