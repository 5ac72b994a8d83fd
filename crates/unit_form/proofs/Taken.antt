-- Fields whose tests are passed are spelled where they stand: numbers, names and places.
use Rattle.std.proofs.Common.{◌≡◌, ◌≢◌, ℕ, zero, suc, ◌+◌, ◌^◌, ◌<◌, ◌≤◌, Bool, true, false, List, [], ◌∷◌, ◌++◌, length, map, take, drop, cond, eqb, Option, None, Some, refl, sym, ap, ◌∙◌, arith, length-drop, drop-drop, append_assoc}
use Rattle.std.specs.Prelude.{is_some, ◌&&◌, ◌==◌, not, nat_le, ⊤}
use Rattle.std.specs.List.{AllByRecursion, flat_map}
use Rattle.std.specs.Option.{option_map_or}
use Rattle.std.proofs.lemmas.Bool.{leb-true, eqb-true, cond_both}
use Rattle.std.proofs.lemmas.List.{length-take-le, take-append-drop}
use Rattle.byteorder.specs.Endian.{little_bytes}
use Rattle.cc_base.specs.LittleEndian.{IsBytes, u16_at, u32_at}
use Rattle.cc_base.specs.Tests.{first_of, must}
use Rattle.cc_base.proofs.NumberLemmas.{u16_at-lt}
use Rattle.cc_base.proofs.TestLemmas.{none_before, none_behind, none_here, must_hold}
use Rattle.cil_model.specs.Limits.{MAX_VARIABLES}
use Rattle.cil_model.specs.Places.{place_number, place_of_number}
use Rattle.cil_model.specs.WellFormed.{HoldValues, IsUnitName}
use Rattle.cil_model.specs.declared.place.Place.{Place}
use Rattle.cil_model.specs.declared.place.Place.TheVariants as places
use Rattle.unit_form.specs.Fields.{count_field, u8_field, u16_field, u32_field, bytes_field, is_graphic, graphic_tests, name_field, place_numbered, place_field, variable_field, variable_fields, variables_field}
use Rattle.unit_form.specs.Forms.{IsCount, count_bytes}
use Rattle.unit_form.specs.Parses.{Parse, field, many}
use Rattle.unit_form.specs.Spelling.{name_bytes, places_bytes}
use Rattle.unit_form.specs.declared.unit_fault.UnitFault.{UnitFault}
use Rattle.unit_form.specs.declared.form.UnitForm.{UnitForm}
use Rattle.unit_form.specs.declared.form.UnitForm.TheVariants.{First, Second, Third}
use Rattle.unit_form.proofs.Stands.{byte_of, byte_stands, number_stands}
use Rattle.unit_form.proofs.Counted.{length-many}

-- What was read is spelled so where it stands.
pub record Stands {X : Type 0} (bytes : List ℕ) (at : ℕ) (parse : Parse X) (spelled : List ℕ) : Type 0 where
  pub there : drop at bytes ≡ spelled ++ drop parse.next bytes

pub field_lies : (bytes : List ℕ) (at size : ℕ) → field bytes at size ≡ None → at + size ≤ length bytes
unfolding field
field_lies bytes at size none = leb-true _ _ ((must_hold _ _).0 none)

pub holds : (test : Bool) (fault : UnitFault) → must test fault ≡ None → test ≡ true
holds test fault none = (must_hold test fault).0 none

-- ---- numbers

pub u8_taken : (bytes : List ℕ) (at : ℕ) → first_of (u8_field bytes at).tests ≡ None → Stands bytes at (u8_field bytes at) ((u8_field bytes at).value ∷ [])
unfolding u8_field
u8_taken bytes at passed = record { there = byte_stands bytes at _ (field_lies bytes at 1 (none_here _ [] passed)) refl }

pub u16_taken : (bytes : List ℕ) (at : ℕ) → IsBytes bytes → first_of (u16_field bytes at).tests ≡ None → Stands bytes at (u16_field bytes at) (little_bytes 2 (u16_field bytes at).value)
unfolding u16_field u16_at
u16_taken bytes at fits passed = record { there = number_stands 2 bytes at _ fits (field_lies bytes at 2 (none_here _ [] passed)) refl }

pub u32_taken : (bytes : List ℕ) (at : ℕ) → IsBytes bytes → first_of (u32_field bytes at).tests ≡ None → Stands bytes at (u32_field bytes at) (little_bytes 4 (u32_field bytes at).value)
unfolding u32_field u32_at
u32_taken bytes at fits passed = record { there = number_stands 4 bytes at _ fits (field_lies bytes at 4 (none_here _ [] passed)) refl }

pub u16_small : (bytes : List ℕ) (at : ℕ) → IsBytes bytes → (u16_field bytes at).value < 2 ^ 16
unfolding u16_field
u16_small bytes at fits = u16_at-lt bytes at fits

pub count_small : (form : UnitForm) (bytes : List ℕ) (at : ℕ) → IsBytes bytes → IsCount form (count_field form bytes at).value
unfolding count_field u8_field
count_small First bytes at fits = fits at
count_small Second bytes at fits = u16_small bytes at fits
count_small Third bytes at fits = u16_small bytes at fits

pub count_taken : (form : UnitForm) (bytes : List ℕ) (at : ℕ) → IsBytes bytes → first_of (count_field form bytes at).tests ≡ None
    → Stands bytes at (count_field form bytes at) (count_bytes form (count_field form bytes at).value)
unfolding count_field
count_taken First bytes at fits passed =
    let count = u8_field bytes at in
    record { there = (u8_taken bytes at passed).there ∙ ap (λ (t : List ℕ). t ++ drop count.next bytes) (sym (byte_of count.value (count_small First bytes at fits))) }
count_taken Second bytes at fits passed = record { there = (u16_taken bytes at fits passed).there }
count_taken Third bytes at fits passed = record { there = (u16_taken bytes at fits passed).there }

pub bytes_taken : (count : ℕ) (bytes : List ℕ) (at : ℕ) → Stands bytes at (bytes_field count bytes at) (bytes_field count bytes at).value
unfolding bytes_field
bytes_taken count bytes at =
    record { there = sym (take-append-drop count (drop at bytes)) ∙ ap (λ (t : List ℕ). take count (drop at bytes) ++ t) (drop-drop count at bytes) }

pub length-bytes_field : (count : ℕ) (bytes : List ℕ) (at : ℕ) → first_of (bytes_field count bytes at).tests ≡ None → length (bytes_field count bytes at).value ≡ count
unfolding bytes_field
length-bytes_field count bytes at passed =
    let inside = field_lies bytes at count (none_here _ [] passed) in
    length-take-le count (drop at bytes) (omega (arith, length-drop at bytes, inside))

-- ---- names

pub both_true : (a b : Bool) → (a && b) ≡ true → (a ≡ true) × (b ≡ true)
both_true true b e = (refl, e)
both_true false b e = absurd (cc)

graphic : (at : ℕ) (text : List ℕ) → first_of (graphic_tests at text) ≡ None → AllByRecursion (λ b. (0x21 ≤ b) × (b ≤ 0x7e)) text
unfolding graphic_tests
graphic at [] passed = tt
graphic at (b ∷ text) passed =
    let here = both_true _ _ (holds _ _ (none_here (must (is_graphic b) _) (graphic_tests (at + 1) text) passed)) in
    ((leb-true _ _ here.0, leb-true _ _ here.1), graphic (at + 1) text (none_behind (must (is_graphic b) _ ∷ []) (graphic_tests (at + 1) text) passed))

pub record NameTaken (bytes : List ℕ) (at : ℕ) : Type 0 where
  pub stands : Stands bytes at (name_field bytes at) (name_bytes (name_field bytes at).value)
  pub name : IsUnitName (name_field bytes at).value

pub name_taken : (bytes : List ℕ) (at : ℕ) → IsBytes bytes → first_of (name_field bytes at).tests ≡ None → NameTaken bytes at
unfolding name_field
name_taken bytes at fits passed =
    let count = u16_field bytes at in
    let text = bytes_field count.value bytes count.next in
    let one = none_before count.tests _ passed in
    let others = none_behind count.tests (text.tests ++ graphic_tests count.next text.value) passed in
    let two = none_before text.tests _ others in
    let three = none_behind text.tests (graphic_tests count.next text.value) others in
    let size = length-bytes_field count.value bytes count.next two in
    record {
      stands = record {
        there = (u16_taken bytes at fits one).there ∙ ap (λ (n : ℕ). little_bytes 2 n ++ drop count.next bytes) (sym size)
            ∙ ap (λ (t : List ℕ). little_bytes 2 (length text.value) ++ t) (bytes_taken count.value bytes count.next).there
            ∙ sym (append_assoc (little_bytes 2 (length text.value)) text.value (drop text.next bytes));
      };
      name = record { graphic = graphic count.next text.value three; short = omega (arith, size, u16_small bytes at fits) };
    }

-- ---- places

-- A chain of tests of a byte, taken apart at its first.
pub case_of : {X : Type 0} (P : Option X → Type 0) (b k : ℕ) (here others : Option X) → (b ≡ k → P here) → P others → P (cond (eqb b k) here others)
case_of P b k here others met rest = cond_both (eqb b k) here others P (λ e. met (eqb-true b k e)) (λ e. rest)

abbrev pub IsNumbered : ℕ → Option Place → Type 0
IsNumbered number None = ⊤
IsNumbered number (Some place) = place_number place ≡ number

pub place_numbers : (number : ℕ) → IsNumbered number (place_of_number number)
place_numbers n =
    case_of (IsNumbered n) n 0 _ _ (λ e. sym e) (case_of (IsNumbered n) n 1 _ _ (λ e. sym e) (case_of (IsNumbered n) n 2 _ _ (λ e. sym e)
    (case_of (IsNumbered n) n 3 _ _ (λ e. sym e) (case_of (IsNumbered n) n 4 _ _ (λ e. sym e) tt))))

pub numbered : (number : ℕ) → is_some (place_of_number number) ≡ true → place_number (place_numbered number) ≡ number
numbered number e = by_place (place_of_number number) (place_numbers number) e
  where
    by_place : (found : Option Place) → IsNumbered number found → is_some found ≡ true → place_number (option_map_or (λ place. place) found places.Void) ≡ number
    by_place (Some place) is e = is
    by_place None is e = absurd (cc)

pub place_taken : (bytes : List ℕ) (at : ℕ) → first_of (place_field bytes at).tests ≡ None → Stands bytes at (place_field bytes at) (place_number (place_field bytes at).value ∷ [])
unfolding place_field
place_taken bytes at passed =
    let number = u8_field bytes at in
    let one = none_before number.tests _ passed in
    let two = none_here _ [] (none_behind number.tests _ passed) in
    record { there = (u8_taken bytes at one).there ∙ ap (λ (n : ℕ). n ∷ drop number.next bytes) (sym (numbered number.value (holds _ _ two))) }

no_void : (place : Place) → not (place_number place == 0) ≡ true → place ≢ places.Void
no_void place e same = absurd (false_true (ap (λ p. not (place_number p == 0)) (sym same) ∙ e))
  where
    false_true : false ≡ true → ⊥
    false_true e = absurd (cc)

pub record VariableTaken (bytes : List ℕ) (at : ℕ) : Type 0 where
  pub stands : Stands bytes at (variable_field bytes at) (place_number (variable_field bytes at).value ∷ [])
  pub value : (variable_field bytes at).value ≢ places.Void

variable_taken : (bytes : List ℕ) (at : ℕ) → first_of (variable_field bytes at).tests ≡ None → VariableTaken bytes at
unfolding variable_field
variable_taken bytes at passed =
    let place = place_field bytes at in
    let two = none_here _ [] (none_behind place.tests _ passed) in
    record { stands = record { there = (place_taken bytes at (none_before place.tests _ passed)).there }; value = no_void place.value (holds _ _ two) }

-- ---- many fields

-- Each item is good after those before it.
abbrev pub AllGood : {X : Type 0} → (List X → X → Type 0) → List X → List X → Type 0
AllGood Good read [] = ⊤
AllGood Good read (x ∷ xs) = Good read x × AllGood Good (read ++ x ∷ []) xs

-- Fields that are spelled each where they stand are spelled together.
pub many_taken : {X : Type 0} (bytes : List ℕ) (one : List X → ℕ → Parse X) (spell : X → List ℕ) (Good : List X → X → Type 0)
    → ((read : List X) (at : ℕ) → first_of (one read at).tests ≡ None → Stands bytes at (one read at) (spell (one read at).value) × Good read (one read at).value)
    → (count : ℕ) (read : List X) (at : ℕ) → first_of (many one read count at).tests ≡ None
    → Stands bytes at (many one read count at) (flat_map spell (many one read count at).value) × AllGood Good read (many one read count at).value
unfolding many
many_taken bytes one spell Good each zero read at passed = (record { there = refl }, tt)
many_taken bytes one spell Good each (suc count) read at passed =
    let first = one read at in
    let others = many one (read ++ first.value ∷ []) count first.next in
    let here = each read at (none_before first.tests others.tests passed) in
    let later = many_taken bytes one spell Good each count (read ++ first.value ∷ []) first.next (none_behind first.tests others.tests passed) in
    (record { there = here.0.there ∙ ap (λ (t : List ℕ). spell first.value ++ t) later.0.there ∙ sym (append_assoc (spell first.value) (flat_map spell others.value) _) }, (here.1, later.1))

-- ---- variables

pub record VariablesTaken (form : UnitForm) (others : ℕ) (bytes : List ℕ) (at : ℕ) : Type 0 where
  pub stands : Stands bytes at (variables_field form others bytes at) (places_bytes form (variables_field form others bytes at).value)
  pub hold : HoldValues (variables_field form others bytes at).value
  pub few : others + length (variables_field form others bytes at).value ≤ MAX_VARIABLES
  pub count : IsCount form (length (variables_field form others bytes at).value)

all_hold : (read variables : List Place) → AllGood (λ before place. place ≢ places.Void) read variables → HoldValues variables
all_hold read [] good = tt
all_hold read (place ∷ others) good = (good.0, all_hold (read ++ place ∷ []) others good.1)

pub one_each : (variables : List Place) → flat_map (λ place. place_number place ∷ []) variables ≡ map place_number variables
one_each [] = refl
one_each (place ∷ others) = ap (λ (t : List ℕ). place_number place ∷ t) (one_each others)

pub variables_taken : (form : UnitForm) (others : ℕ) (bytes : List ℕ) (at : ℕ) → IsBytes bytes → first_of (variables_field form others bytes at).tests ≡ None → VariablesTaken form others bytes at
unfolding variables_field
variables_taken form others bytes at fits passed =
    let count = count_field form bytes at in
    let variables = variable_fields count.value bytes count.next in
    let one = none_before count.tests _ passed in
    let rest = none_behind count.tests (must (nat_le (others + count.value) MAX_VARIABLES) _ ∷ variables.tests) passed in
    let two = none_here _ variables.tests rest in
    let three = none_behind (must (nat_le (others + count.value) MAX_VARIABLES) _ ∷ []) variables.tests rest in
    let all = many_taken bytes (λ read. variable_field bytes) (λ place. place_number place ∷ []) (λ before place. place ≢ places.Void) (λ read at passed. let taken = variable_taken bytes at passed in (taken.stands, taken.value)) count.value [] count.next three in
    let size = length-many (λ (read : List Place). variable_field bytes) [] count.value count.next in
    record {
      stands = record {
        there = (count_taken form bytes at fits one).there ∙ ap (λ (n : ℕ). count_bytes form n ++ drop count.next bytes) (sym size)
            ∙ ap (λ (t : List ℕ). count_bytes form (length variables.value) ++ t) (all.0.there ∙ ap (λ (t : List ℕ). t ++ drop variables.next bytes) (one_each variables.value))
            ∙ sym (append_assoc (count_bytes form (length variables.value)) (map place_number variables.value) (drop variables.next bytes));
      };
      hold = all_hold [] variables.value all.1;
      few = omega (arith, size, leb-true _ _ (holds _ _ two));
      count = rw size (count_small form bytes at fits);
    }
