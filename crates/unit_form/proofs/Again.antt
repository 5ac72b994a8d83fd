-- The spelling of fields passes their tests, and they are read from it again: numbers, names and places.
use Rattle.std.proofs.Common.{◌≡◌, ◌≢◌, ℕ, ◌+◌, ◌^◌, ◌<◌, ◌≤◌, Bool, true, List, [], ◌∷◌, ◌++◌, length, map, take, drop, Option, None, refl, sym, subst, ap, ◌∙◌, arith, length-append, length-drop, append_assoc}
use Rattle.std.specs.Prelude.{is_some, ◌&&◌, ◌==◌, not, nat_le}
use Rattle.std.specs.List.{AllByRecursion, flat_map}
use Rattle.std.proofs.lemmas.Bool.{le-leb}
use Rattle.std.proofs.lemmas.List.{take_at}
use Rattle.byteorder.specs.Endian.{little_bytes}
use Rattle.cc_base.specs.LittleEndian.{u16_at, u32_at}
use Rattle.cc_base.specs.Tests.{first_of, must}
use Rattle.cc_base.proofs.ByteLemmas.{length-little_bytes}
use Rattle.cc_base.proofs.TestLemmas.{first_of-append_none, first_of-none, first_of-nil, must_hold}
use Rattle.cil_model.specs.Limits.{MAX_VARIABLES}
use Rattle.cil_model.specs.Places.{place_number, place_of_number}
use Rattle.cil_model.specs.WellFormed.{HoldValues, IsUnitName}
use Rattle.cil_model.specs.declared.place.Place.{Place}
use Rattle.cil_model.specs.declared.place.Place.TheVariants as places
use Rattle.unit_form.specs.Fields.{count_field, u8_field, u16_field, u32_field, bytes_field, is_graphic, graphic_tests, name_field, place_numbered, place_field, variable_field, variable_fields, variables_field}
use Rattle.unit_form.specs.Forms.{IsCount, count_bytes}
use Rattle.unit_form.specs.Parses.{Parse, field, many}
use Rattle.unit_form.specs.Spelling.{name_bytes, places_bytes}
use Rattle.unit_form.specs.declared.unit_fault.UnitFault.{UnitFault}
use Rattle.unit_form.specs.declared.form.UnitForm.{UnitForm}
use Rattle.unit_form.specs.declared.form.UnitForm.TheVariants.{First, Second, Third}
use Rattle.unit_form.proofs.Stands.{behind, lies, byte_of, byte_read, number_read}
use Rattle.unit_form.proofs.Taken.{AllGood, one_each}

-- A value is read back, and this stands after it.
pub record ReadsBack {X : Type 0} (bytes : List ℕ) (parse : Parse X) (x : X) (rest : List ℕ) : Type 0 where
  pub passed : first_of parse.tests ≡ None
  pub value : parse.value ≡ x
  pub behind : drop parse.next bytes ≡ rest
  pub inside : parse.next ≤ length bytes

pub one_test : (test : Bool) (fault : UnitFault) → test ≡ true → first_of (must test fault ∷ []) ≡ None
one_test test fault e = first_of-none _ [] ((must_hold test fault).1 e) ∙ first_of-nil

pub test_before : (test : Bool) (fault : UnitFault) (tests : List (Option UnitFault)) → test ≡ true → first_of tests ≡ None → first_of (must test fault ∷ tests) ≡ None
test_before test fault tests e passed = first_of-none _ tests ((must_hold test fault).1 e) ∙ passed

pub field_inside : (bytes : List ℕ) (at size : ℕ) → at + size ≤ length bytes → first_of (field bytes at size ∷ []) ≡ None
unfolding field
field_inside bytes at size inside = one_test _ _ (le-leb _ _ inside)

-- ---- numbers

pub u8_again : (bytes : List ℕ) (at b : ℕ) (rest : List ℕ) → drop at bytes ≡ b ∷ rest → ReadsBack bytes (u8_field bytes at) b rest
unfolding u8_field
u8_again bytes at b rest there =
    let inside = lies bytes at (b ∷ []) rest there (omega arith) in
    record { passed = field_inside bytes at 1 inside; value = byte_read bytes at b rest there; behind = behind bytes at (at + 1) (b ∷ []) rest there refl; inside = inside }

pub u16_again : (bytes : List ℕ) (at n : ℕ) (rest : List ℕ) → n < 2 ^ 16 → drop at bytes ≡ little_bytes 2 n ++ rest → ReadsBack bytes (u16_field bytes at) n rest
unfolding u16_field u16_at
u16_again bytes at n rest small there =
    let two = length-little_bytes 2 n in
    let inside : at + 2 ≤ length bytes = omega (arith, lies bytes at (little_bytes 2 n) rest there (omega (arith, two)), two) in
    record { passed = field_inside bytes at 2 inside; value = number_read 2 bytes at n rest small there; behind = behind bytes at (at + 2) (little_bytes 2 n) rest there (omega (arith, two)); inside = inside }

pub u32_again : (bytes : List ℕ) (at n : ℕ) (rest : List ℕ) → n < 2 ^ 32 → drop at bytes ≡ little_bytes 4 n ++ rest → ReadsBack bytes (u32_field bytes at) n rest
unfolding u32_field u32_at
u32_again bytes at n rest small there =
    let four = length-little_bytes 4 n in
    let inside : at + 4 ≤ length bytes = omega (arith, lies bytes at (little_bytes 4 n) rest there (omega (arith, four)), four) in
    record { passed = field_inside bytes at 4 inside; value = number_read 4 bytes at n rest small there; behind = behind bytes at (at + 4) (little_bytes 4 n) rest there (omega (arith, four)); inside = inside }

pub count_again : (form : UnitForm) (bytes : List ℕ) (at n : ℕ) (rest : List ℕ) → IsCount form n → drop at bytes ≡ count_bytes form n ++ rest → ReadsBack bytes (count_field form bytes at) n rest
unfolding count_field
count_again First bytes at n rest small there = u8_again bytes at n rest (there ∙ ap (λ (t : List ℕ). t ++ rest) (byte_of n small))
count_again Second bytes at n rest small there = u16_again bytes at n rest small there
count_again Third bytes at n rest small there = u16_again bytes at n rest small there

pub bytes_again : (bytes : List ℕ) (at count : ℕ) (text rest : List ℕ) → count ≡ length text → at ≤ length bytes → drop at bytes ≡ text ++ rest → ReadsBack bytes (bytes_field count bytes at) text rest
unfolding bytes_field
bytes_again bytes at count text rest size before there =
    let inside : at + count ≤ length bytes = omega (arith, ap length there, length-append text rest, length-drop at bytes, size) in
    record {
      passed = field_inside bytes at count inside;
      value = ap (take count) there ∙ take_at text rest count (sym size);
      behind = behind bytes at (at + count) text rest there (ap (λ (n : ℕ). at + n) size);
      inside = inside;
    }

-- ---- names

pub both : (a b : Bool) → a ≡ true → b ≡ true → (a && b) ≡ true
both a b e f = rw (e, f) refl

graphic_again : (at : ℕ) (text : List ℕ) → AllByRecursion (λ b. (0x21 ≤ b) × (b ≤ 0x7e)) text → first_of (graphic_tests at text) ≡ None
unfolding graphic_tests
graphic_again at [] all = first_of-nil
graphic_again at (b ∷ text) all = test_before (is_graphic b) _ (graphic_tests (at + 1) text) (both (nat_le 0x21 b) (nat_le b 0x7e) (le-leb _ _ all.0.0) (le-leb _ _ all.0.1)) (graphic_again (at + 1) text all.1)

pub name_again : (bytes : List ℕ) (at : ℕ) (name rest : List ℕ) → IsUnitName name → drop at bytes ≡ name_bytes name ++ rest → ReadsBack bytes (name_field bytes at) name rest
unfolding name_field
name_again bytes at name rest is there =
    let count = u16_field bytes at in
    let one = u16_again bytes at (length name) (name ++ rest) (omega (arith, is.short)) (there ∙ append_assoc (little_bytes 2 (length name)) name rest) in
    let two = bytes_again bytes count.next count.value name rest one.value one.inside one.behind in
    let text = bytes_field count.value bytes count.next in
    let three : first_of (graphic_tests count.next text.value) ≡ None = ap (λ (t : List ℕ). first_of (graphic_tests count.next t)) two.value ∙ graphic_again count.next name is.graphic in
    record {
      passed = first_of-append_none count.tests _ one.passed ∙ first_of-append_none text.tests _ two.passed ∙ three;
      value = two.value;
      behind = two.behind;
      inside = two.inside;
    }

-- ---- places

pub numbered_again : (place : Place) → place_numbered (place_number place) ≡ place
numbered_again places.Void = refl
numbered_again places.Bool = refl
numbered_again places.Int = refl
numbered_again places.Bools = refl
numbered_again places.Ints = refl

known_again : (place : Place) → is_some (place_of_number (place_number place)) ≡ true
known_again places.Void = refl
known_again places.Bool = refl
known_again places.Int = refl
known_again places.Bools = refl
known_again places.Ints = refl

pub place_again : (bytes : List ℕ) (at : ℕ) (place : Place) (rest : List ℕ) → drop at bytes ≡ place_number place ∷ rest → ReadsBack bytes (place_field bytes at) place rest
unfolding place_field
place_again bytes at place rest there =
    let number = u8_field bytes at in
    let one = u8_again bytes at (place_number place) rest there in
    record {
      passed = first_of-append_none number.tests _ one.passed ∙ one_test _ _ (ap (λ (n : ℕ). is_some (place_of_number n)) one.value ∙ known_again place);
      value = ap place_numbered one.value ∙ numbered_again place;
      behind = one.behind;
      inside = one.inside;
    }

holds_value : (place : Place) → place ≢ places.Void → not (place_number place == 0) ≡ true
holds_value places.Void is = absurd (is refl)
holds_value places.Bool is = refl
holds_value places.Int is = refl
holds_value places.Bools is = refl
holds_value places.Ints is = refl

variable_again : (bytes : List ℕ) (at : ℕ) (place : Place) (rest : List ℕ) → place ≢ places.Void → drop at bytes ≡ place_number place ∷ rest → ReadsBack bytes (variable_field bytes at) place rest
unfolding variable_field
variable_again bytes at place rest is there =
    let found = place_field bytes at in
    let one = place_again bytes at place rest there in
    record {
      passed = first_of-append_none found.tests _ one.passed ∙ one_test _ _ (ap (λ p. not (place_number p == 0)) one.value ∙ holds_value place is);
      value = one.value;
      behind = one.behind;
      inside = one.inside;
    }

-- ---- many fields

pub many_again : {X : Type 0} (bytes : List ℕ) (one : List X → ℕ → Parse X) (spell : X → List ℕ) (Good : List X → X → Type 0)
    → ((read : List X) (at : ℕ) (x : X) (rest : List ℕ) → Good read x → drop at bytes ≡ spell x ++ rest → ReadsBack bytes (one read at) x rest)
    → (read xs : List X) (at : ℕ) (rest : List ℕ) → AllGood Good read xs → at ≤ length bytes → drop at bytes ≡ flat_map spell xs ++ rest
    → ReadsBack bytes (many one read (length xs) at) xs rest
unfolding many
many_again bytes one spell Good each read [] at rest good before there = record { passed = first_of-nil; value = refl; behind = there; inside = before }
many_again bytes one spell Good each read (x ∷ xs) at rest good before there =
    let first = one read at in
    let here = each read at x (flat_map spell xs ++ rest) good.0 (there ∙ append_assoc (spell x) (flat_map spell xs) rest) in
    let later = many_again bytes one spell Good each (read ++ x ∷ []) xs first.next rest good.1 here.inside here.behind in
    let others = many one (read ++ first.value ∷ []) (length xs) first.next in
    let same : others ≡ many one (read ++ x ∷ []) (length xs) first.next = ap (λ y. many one (read ++ y ∷ []) (length xs) first.next) here.value in
    record {
      passed = first_of-append_none first.tests others.tests here.passed ∙ ap (λ parse. first_of parse.tests) same ∙ later.passed;
      value = ap (λ parse. first.value ∷ parse.value) same ∙ ap (λ ys. first.value ∷ ys) later.value ∙ ap (λ y. y ∷ xs) here.value;
      behind = ap (λ parse. drop parse.next bytes) same ∙ later.behind;
      inside = subst (λ parse. parse.next ≤ length bytes) (sym same) later.inside;
    }

-- ---- variables

good_places : (read variables : List Place) → HoldValues variables → AllGood (λ before place. place ≢ places.Void) read variables
good_places read [] hold = tt
good_places read (place ∷ others) hold = (hold.0, good_places (read ++ place ∷ []) others hold.1)

pub variables_again : (form : UnitForm) (others : ℕ) (bytes : List ℕ) (at : ℕ) (variables : List Place) (rest : List ℕ) → HoldValues variables → IsCount form (length variables) → others + length variables ≤ MAX_VARIABLES
    → drop at bytes ≡ places_bytes form variables ++ rest → ReadsBack bytes (variables_field form others bytes at) variables rest
unfolding variables_field
variables_again form others bytes at variables rest hold counted few there =
    let count = count_field form bytes at in
    let one = count_again form bytes at (length variables) (map place_number variables ++ rest) counted (there ∙ append_assoc (count_bytes form (length variables)) (map place_number variables) rest) in
    let spelled = one.behind ∙ ap (λ (t : List ℕ). t ++ rest) (sym (one_each variables)) in
    let all = many_again bytes (λ read. variable_field bytes) (λ place. place_number place ∷ []) (λ before place. place ≢ places.Void) (λ read at place rest good there. variable_again bytes at place rest good there) [] variables count.next rest (good_places [] variables hold) one.inside spelled in
    let parse = variable_fields count.value bytes count.next in
    let same : parse ≡ variable_fields (length variables) bytes count.next = ap (λ (n : ℕ). variable_fields n bytes count.next) one.value in
    record {
      passed = first_of-append_none count.tests _ one.passed
          ∙ test_before _ _ parse.tests (ap (λ (n : ℕ). nat_le (others + n) MAX_VARIABLES) one.value ∙ le-leb _ _ few) (ap (λ parse. first_of parse.tests) same ∙ all.passed);
      value = ap (λ parse. parse.value) same ∙ all.value;
      behind = ap (λ parse. drop parse.next bytes) same ∙ all.behind;
      inside = subst (λ parse. parse.next ≤ length bytes) (sym same) all.inside;
    }
