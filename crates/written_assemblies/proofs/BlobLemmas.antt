-- Blobs and signatures that were written, as they are read.
use Rattle.cil_model.specs.Limits.{MAX_VARIABLES}
use Rattle.std.proofs.Common.{◌≡◌, ℕ, ◌+◌, ◌*◌, ◌/◌, ◌%◌, ◌^◌, ◌<◌, ◌≤◌, List, [], ◌∷◌, ◌++◌, length, take, drop, Bool, true, false, not, Some, Ok, refl, sym, ap, ap₂, ◌∙◌, append_assoc, arith, inl, inr}
use Rattle.std.specs.Prelude.{option_map, nat_lt, if◌then◌else◌}
use Rattle.std.specs.List.{flat_map}
use Rattle.std.proofs.lemmas.Bool.{cases_lt, lt-ltb, le-ltb, le-leb}
use Rattle.std.proofs.lemmas.List.{append-nil, length-append, drop_at, take_at}
use Rattle.byteorder.specs.Endian.{big_bytes}
use Rattle.cc_base.specs.Compressed.{SpellsNumber}
use Rattle.cc_base.specs.declared.compressed.Compressed.{Compressed}
use Rattle.cc_base.proofs.CompressedLemmas.{compressed_only}
use Rattle.cil_model.specs.declared.place.Place.{Place}
use Rattle.cil_model.specs.declared.place.Place.TheVariants as places
use Rattle.metadata_tables.specs.Heaps.{whole_length, item_of}
use Rattle.signature_blobs.specs.Signatures.{method_signature, local_signature}
use Rattle.signature_blobs.specs.Spelling as spelling
use Rattle.signature_blobs.specs.Spelling.{Begins, AreValues, SpellsMethod, SpellsTypes, SpellsCount, SpellsLocals, SpellsList, has_this, is_generic}
use Rattle.signature_blobs.specs.declared.method.SigTypes.TheVariants.{Known}
use Rattle.signature_blobs.specs.declared.local.LocalSig.TheVariants as locals
use Rattle.signature_blobs.proofs.SignatureLaws.{method_read, local_read}
use Rattle.asm_writer.specs.declared.plan.MethodPlan.{MethodPlan}
use Rattle.asm_writer.specs.Signatures as written
use Rattle.asm_writer.specs.Signatures.{compressed, type_bytes, convention, signature, signature_of, blob}

-- ---- a number before its bytes

two_bytes : (n : ℕ) → 0x80 ≤ n → n < 2 ^ 14 → (0x80 + n / 256) ∷ n % 256 ∷ [] ≡ big_bytes 2 (0x8000 + n)
two_bytes n low few = ap₂ (λ (x y : ℕ). x ∷ y ∷ []) (omega arith) (omega arith)

pub spells : (n : ℕ) → n < 2 ^ 14 → SpellsNumber n (compressed n)
unfolding compressed
spells n few =
    elim (cases_lt n 0x80) [
      | inl lt ↦ inl (omega (arith, lt), rw (lt-ltb n 0x80 lt) refl)
      | inr le ↦ inr (inl (few, rw (le-ltb n 0x80 le) (two_bytes n le few)))
    ]

whole : (content rest : List ℕ) → length content < 2 ^ 14 → whole_length (blob content ++ rest) ≡ Some (record { number = length content; width = length (compressed (length content)) })
unfolding whole_length blob
whole content rest few =
    let n = length content in
    let found = compressed_only n (compressed n) (content ++ rest) (spells n few) in
    let size = length-append (compressed n ++ content) rest in
    let prefix = length-append (compressed n) content in
    let fits : length (compressed n) + n ≤ length (compressed n ++ content ++ rest) = omega (arith, size, prefix) in
    rw (append_assoc (compressed n) content rest, found) (rw (sym (append_assoc (compressed n) content rest), le-leb _ _ fits) refl)

part : (content rest : List ℕ) → take (length content) (drop (length (compressed (length content))) (blob content ++ rest)) ≡ content
unfolding blob
part content rest =
    ap (λ (x : List ℕ). take (length content) (drop (length (compressed (length content))) x)) (append_assoc (compressed (length content)) content rest)
    ∙ ap (take (length content)) (drop_at (compressed (length content)) (content ++ rest) _ refl)
    ∙ take_at content rest (length content) refl

pub blob_back : (content rest : List ℕ) → length content < 2 ^ 14 → item_of (blob content ++ rest) ≡ Some content
unfolding item_of
blob_back content rest few =
    ap (option_map (λ (prefix : Compressed). take prefix.number (drop prefix.width (blob content ++ rest)))) (whole content rest few) ∙ ap (λ (x : List ℕ). Some x) (part content rest)

-- ---- the signature of a method

type_same : (place : Place) → type_bytes place ≡ spelling.type_bytes place
type_same places.Void = refl
type_same places.Bool = refl
type_same places.Int = refl
type_same places.Bools = refl
type_same places.Ints = refl

types_same : (ps : List Place) → flat_map type_bytes ps ≡ flat_map spelling.type_bytes ps
types_same [] = refl
types_same (p ∷ ps) = ap₂ (λ (a b : List ℕ). a ++ b) (type_same p) (types_same ps)

convention_is : (is_static : Bool) → (convention is_static % 16 ≡ 0) × (has_this (convention is_static) ≡ not is_static) × (is_generic (convention is_static) ≡ false)
convention_is true = (refl, refl, refl)
convention_is false = (refl, refl, refl)

spells_method : (is_static : Bool) (gives : Place) (args : List Place) → length args ≤ MAX_VARIABLES → AreValues args
    → SpellsMethod (not is_static) false (record { result = gives; args = args }) (signature_of is_static gives args)
spells_method is_static gives args few values = record {
  convention = convention is_static;
  behind = compressed (length args) ++ type_bytes gives ++ flat_map type_bytes args;
  default = (convention_is is_static).0;
  this_is = (convention_is is_static).1;
  generic_is = (convention_is is_static).2;
  types = record {
    type_count = [];
    count = compressed (length args);
    type_counted = refl;
    counted = record { number = spells (length args) (omega (arith, few)); few = few; values = values };
    parts =
        append_assoc (compressed (length args)) (type_bytes gives) (flat_map type_bytes args)
        ∙ ap₂ (λ (a b : List ℕ). compressed (length args) ++ (a ++ b)) (type_same gives) (types_same args);
  };
  parts = refl;
}

-- What is read of a signature.
pub signature_of_back : (is_static : Bool) (gives : Place) (args : List Place) → length args ≤ MAX_VARIABLES → AreValues args
    → method_signature (signature_of is_static gives args) ≡ Ok (record { has_this = not is_static; generic = false; types = Known (record { result = gives; args = args }) })
signature_of_back is_static gives args few values =
    method_read (signature_of is_static gives args) (not is_static) false (record { result = gives; args = args })
    (record {
      prefix = signature_of is_static gives args;
      rest = [];
      holds = spells_method is_static gives args few values;
      parts = sym (append-nil (signature_of is_static gives args));
    })

pub signature_back : (m : MethodPlan) → length m.args.items ≤ MAX_VARIABLES → AreValues m.args.items
    → method_signature (signature m) ≡ Ok (record { has_this = not m.is_static; generic = false; types = Known (record { result = m.result; args = m.args.items }) })
unfolding signature
signature_back m few values = signature_of_back m.is_static m.result m.args.items few values

-- ---- that of its locals

spells_locals : (ps : List Place) → length ps ≤ MAX_VARIABLES → AreValues ps → SpellsLocals ps (written.local_signature ps)
unfolding written.local_signature
spells_locals ps few values = record {
  behind = compressed (length ps) ++ flat_map type_bytes ps;
  list = record {
    count = compressed (length ps);
    counted = record { number = spells (length ps) (omega (arith, few)); few = few; values = values };
    parts = ap (λ (b : List ℕ). compressed (length ps) ++ b) (types_same ps);
  };
  parts = refl;
}

pub locals_back : (ps : List Place) → length ps ≤ MAX_VARIABLES → AreValues ps → local_signature (written.local_signature ps) ≡ Ok (locals.Known ps)
locals_back ps few values =
    local_read (written.local_signature ps) ps
    (record { prefix = written.local_signature ps; rest = []; holds = spells_locals ps few values; parts = sym (append-nil (written.local_signature ps)) })

-- ---- their sizes

type_short : (place : Place) → length (type_bytes place) ≤ 2
type_short places.Void = omega arith
type_short places.Bool = omega arith
type_short places.Int = omega arith
type_short places.Bools = omega arith
type_short places.Ints = omega arith

types_short : (ps : List Place) → length (flat_map type_bytes ps) ≤ 2 * length ps
types_short [] = omega arith
types_short (p ∷ ps) =
    let one = type_short p in
    let rest = types_short ps in
    let all = length-append (type_bytes p) (flat_map type_bytes ps) in
    omega (arith, one, rest, all)

either_short : (n : ℕ) (one : Bool) → length (if one then n ∷ [] else (0x80 + n / 256) ∷ n % 256 ∷ []) ≤ 2
either_short n true = omega arith
either_short n false = omega arith

count_short : (n : ℕ) → length (compressed n) ≤ 2
unfolding compressed
count_short n = either_short n (nat_lt n 0x80)

pub signature_of_short : (is_static : Bool) (gives : Place) (args : List Place) → length args ≤ MAX_VARIABLES → length (signature_of is_static gives args) < 2 ^ 14
signature_of_short is_static gives args few =
    let count = count_short (length args) in
    let result = type_short gives in
    let types = types_short args in
    let all = length-append (compressed (length args) ++ type_bytes gives) (flat_map type_bytes args) in
    let prefix = length-append (compressed (length args)) (type_bytes gives) in
    omega (arith, count, result, types, all, prefix, few)

pub signature_short : (m : MethodPlan) → length m.args.items ≤ MAX_VARIABLES → length (signature m) < 2 ^ 14
unfolding signature
signature_short m few = signature_of_short m.is_static m.result m.args.items few

pub locals_short : (ps : List Place) → length ps ≤ MAX_VARIABLES → length (written.local_signature ps) < 2 ^ 14
unfolding written.local_signature
locals_short ps few =
    let count = count_short (length ps) in
    let types = types_short ps in
    let all = length-append (compressed (length ps)) (flat_map type_bytes ps) in
    omega (arith, count, types, all, few)
