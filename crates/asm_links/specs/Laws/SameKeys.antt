-- Keys that are the same are equal, so they are hashed alike.
use Rattle.std.proofs.Common.{◌≡◌, ℕ, ◌==◌, ◌&&◌, Bool, true, false, List, [], ◌∷◌, refl, sym, ap, ap₂, subst, ◌∙◌, true≢false, if◌then◌else◌}
use Rattle.std.specs.Bool.{Decides, beq}
use Rattle.std.specs.Cmp.{IsEquivalence, booleans_Decides}
use Rattle.std.specs.Str.{bytes_eq}
use Rattle.std.proofs.lemmas.Bool.{and_from, and_parts, eq-eqb, eqb-true}
use Rattle.std.proofs.lemmas.Slice.Eq.{bytes_eq-Decides}
use Rattle.asm_image.specs.Members.{MethodKey}
use Rattle.asm_links.specs.Keys.{key_input, same_key, same_names, same_place, same_places, same_sig, same_types}
use Rattle.cil_model.specs.Places.{place_number}
use Rattle.cil_model.specs.declared.place.Place.{Place}
use Rattle.cil_model.specs.declared.place.Place.TheVariants as places
use Rattle.signature_blobs.specs.declared.method.MethodSig.{MethodSig}
use Rattle.signature_blobs.specs.declared.method.Signature.{Signature}
use Rattle.signature_blobs.specs.declared.method.SigTypes.{SigTypes}
use Rattle.signature_blobs.specs.declared.method.SigTypes.TheVariants as types

-- ---- signatures

-- The place of a number.
abbrev of_number : ℕ → Place
of_number n = if n == 0 then places.Void else if n == 1 then places.Bool else if n == 2 then places.Int else if n == 3 then places.Bools else places.Ints

back : (place : Place) → of_number (place_number place) ≡ place
back places.Void = refl
back places.Bool = refl
back places.Int = refl
back places.Bools = refl
back places.Ints = refl

place_is : (a b : Place) → same_place a b ≡ true → a ≡ b
place_is a b same = sym (back a) ∙ ap of_number (eqb-true (place_number a) (place_number b) same) ∙ back b

place_itself : (a : Place) → same_place a a ≡ true
place_itself a = eq-eqb (place_number a) (place_number a) refl

places_are : (xs ys : List Place) → same_places xs ys ≡ true → xs ≡ ys
places_are [] [] same = refl
places_are [] (y ∷ ys) same = absurd (true≢false (sym same))
places_are (x ∷ xs) [] same = absurd (true≢false (sym same))
places_are (x ∷ xs) (y ∷ ys) same =
    let both = and_parts (same_place x y) (same_places xs ys) same in ap₂ (λ z zs. z ∷ zs) (place_is x y both.0) (places_are xs ys both.1)

places_themselves : (xs : List Place) → same_places xs xs ≡ true
places_themselves [] = refl
places_themselves (x ∷ xs) = and_from (same_place x x) (same_places xs xs) (place_itself x) (places_themselves xs)

types_are : (a b : SigTypes) → same_types a b ≡ true → a ≡ b
types_are (types.Known a) (types.Known b) same =
    let both = and_parts (same_place a.result b.result) (same_places a.args b.args) same in
    let result = place_is a.result b.result both.0 in
    let args = places_are a.args b.args both.1 in
    ap types.Known (λ i. record { result = result i; args = args i })
types_are (types.Known a) types.Other same = absurd (true≢false (sym same))
types_are types.Other (types.Known b) same = absurd (true≢false (sym same))
types_are types.Other types.Other same = refl

types_themselves : (a : SigTypes) → same_types a a ≡ true
types_themselves (types.Known a) = and_from (same_place a.result a.result) (same_places a.args a.args) (place_itself a.result) (places_themselves a.args)
types_themselves types.Other = refl

sig_is : (a b : MethodSig) → same_sig a b ≡ true → a ≡ b
sig_is a b same =
    let first = and_parts (beq a.has_this b.has_this && beq a.generic b.generic) (same_types a.types b.types) same in
    let second = and_parts (beq a.has_this b.has_this) (beq a.generic b.generic) first.0 in
    let this = (booleans_Decides a.has_this b.has_this).0 second.0 in
    let generic = (booleans_Decides a.generic b.generic).0 second.1 in
    let of = types_are a.types b.types first.1 in
    λ i. record { has_this = this i; generic = generic i; types = of i }

sig_itself : (a : MethodSig) → same_sig a a ≡ true
sig_itself a =
    and_from (beq a.has_this a.has_this && beq a.generic a.generic) (same_types a.types a.types)
    (and_from (beq a.has_this a.has_this) (beq a.generic a.generic) ((booleans_Decides a.has_this a.has_this).1 refl) ((booleans_Decides a.generic a.generic).1 refl))
    (types_themselves a.types)

-- ---- keys

bytes_themselves : (xs : List ℕ) → bytes_eq xs xs ≡ true
bytes_themselves xs = (bytes_eq-Decides xs xs).1 refl

key_is : (a b : MethodKey) → same_key a b ≡ true → a ≡ b
key_is a b same =
    let all = and_parts (same_names a b) (same_sig a.sig b.sig) same in
    let first = and_parts (bytes_eq a.assembly b.assembly && bytes_eq a.namespace b.namespace && bytes_eq a.class b.class) (bytes_eq a.name b.name) all.0 in
    let second = and_parts (bytes_eq a.assembly b.assembly && bytes_eq a.namespace b.namespace) (bytes_eq a.class b.class) first.0 in
    let third = and_parts (bytes_eq a.assembly b.assembly) (bytes_eq a.namespace b.namespace) second.0 in
    let assembly = (bytes_eq-Decides a.assembly b.assembly).0 third.0 in
    let namespace = (bytes_eq-Decides a.namespace b.namespace).0 third.1 in
    let class = (bytes_eq-Decides a.class b.class).0 second.1 in
    let name = (bytes_eq-Decides a.name b.name).0 first.1 in
    let sig = sig_is a.sig b.sig all.1 in
    λ i. record { assembly = assembly i; namespace = namespace i; class = class i; name = name i; sig = sig i }

key_itself : (a : MethodKey) → same_key a a ≡ true
key_itself a =
    and_from (same_names a a) (same_sig a.sig a.sig)
    (and_from (bytes_eq a.assembly a.assembly && bytes_eq a.namespace a.namespace && bytes_eq a.class a.class) (bytes_eq a.name a.name)
    (and_from (bytes_eq a.assembly a.assembly && bytes_eq a.namespace a.namespace) (bytes_eq a.class a.class)
    (and_from (bytes_eq a.assembly a.assembly) (bytes_eq a.namespace a.namespace) (bytes_themselves a.assembly) (bytes_themselves a.namespace))
    (bytes_themselves a.class)) (bytes_themselves a.name))
    (sig_itself a.sig)

-- Two keys are the same exactly where they are equal.
pub same_key-Decides : (a b : MethodKey) → Decides (same_key a b) (a ≡ b)
same_key-Decides a b = (key_is a b, λ same. subst (λ k. same_key a k ≡ true) same (key_itself a))

-- ---- laws of a table's keys

both_ways : (s t : Bool) → (s ≡ true → t ≡ true) → (t ≡ true → s ≡ true) → s ≡ t
both_ways true t to from = sym (to refl)
both_ways false true to from = from refl
both_ways false false to from = refl

pub key_equivalence : {K : Type 0} (f : K → MethodKey) → IsEquivalence (λ a b. same_key (f a) (f b))
key_equivalence f = record {
  refl = λ a. key_itself (f a);
  symm = λ a b. both_ways (same_key (f a) (f b)) (same_key (f b) (f a))
      (λ same. (same_key-Decides (f b) (f a)).1 (sym (key_is (f a) (f b) same))) (λ same. (same_key-Decides (f a) (f b)).1 (sym (key_is (f b) (f a) same)));
  congr = λ a b c same. ap (λ k. same_key k (f c)) (key_is (f a) (f b) same);
}

pub key_hashed : (a b : MethodKey) → same_key a b ≡ true → key_input a ≡ key_input b
key_hashed a b same = ap key_input (key_is a b same)
