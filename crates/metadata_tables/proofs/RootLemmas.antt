-- The tests of the root and of the stream headers.
use Rattle.std.proofs.Common.{◌≡◌, ◌≢◌, ℕ, ◌+◌, ◌-◌, ◌≤◌, ◌<◌, List, [], ◌∷◌, ◌++◌, length, length-drop, take, drop, Bool, true, false, eqb, Option, Some, None, refl, sym, ap, ◌∙◌, arith, inl, inr, ◌⊎◌}
use Rattle.std.specs.Prelude.{sum, is_some}
use Rattle.std.proofs.lemmas.List.{take_all}
use Rattle.std.proofs.lemmas.List.Sums.{sum_by-cons}
use Rattle.std.proofs.lemmas.Bool.{cases_lt}
use Rattle.std.proofs.lemmas.Bool.Decides.{nat_tests}
use Rattle.cc_base.specs.LittleEndian.{u32_at}
use Rattle.cc_base.specs.Tests.{first_of, must}
use Rattle.cc_base.proofs.TestLemmas.{must-passed, must-failed, first_of-append, first_of-append_none, first_of-append_some}
use Rattle.metadata_tables.specs.declared.fault.TableFault.{TableFault}
use Rattle.metadata_tables.specs.declared.fault.TableFault.TheVariants.{BadRoot}
use Rattle.metadata_tables.specs.Tests.{fields}
use Rattle.metadata_tables.specs.Root.{zero_ended, signature, version_width, headers_at, root_tests, name_of, padded, name_width, next_header, stream_of, header_tests}
use Rattle.metadata_tables.proofs.FieldLemmas.{fields-fits, fields-short, fields-none}
use Rattle.std.specs.Option.{option_or}

-- Fields of one fault that end before the end.
pub fields-all : (end : ℕ) (fault : TableFault) (at : ℕ) (widths : List ℕ) → at + sum widths ≤ end
    → first_of (fields end (λ _. fault) at widths) ≡ None
fields-all end fault at [] h = fields-none end (λ _. fault) at
fields-all end fault at (width ∷ widths) h =
    let total : sum (width ∷ widths) ≡ width + sum widths = sum_by-cons (λ (x : ℕ). x) width widths in
    fields-fits end (λ _. fault) at width widths (omega arith)
    ∙ fields-all end fault (at + width) widths (omega arith)

-- Fields of one fault of which one passes the end.
pub fields-some : (end : ℕ) (fault : TableFault) (at : ℕ) (widths : List ℕ) → at ≤ end → end < at + sum widths
    → first_of (fields end (λ _. fault) at widths) ≡ Some fault
fields-some end fault at [] h past = absurd (omega arith)
fields-some end fault at (width ∷ widths) h past =
    let total : sum (width ∷ widths) ≡ width + sum widths = sum_by-cons (λ (x : ℕ). x) width widths in
    elim (cases_lt end (at + width)) [
      | inl short ↦ fields-short end (λ _. fault) at width widths short
      | inr fit ↦ fields-fits end (λ _. fault) at width widths fit ∙ fields-some end fault (at + width) widths fit (omega arith)
    ]

bool_cases : (b : Bool) → (b ≡ true) ⊎ (b ≡ false)
bool_cases true = inl refl
bool_cases false = inr refl

root_fields : List ℕ → List (Option TableFault)
root_fields md = fields (length md) (λ _. BadRoot) 4 (2 ∷ 2 ∷ 4 ∷ 4 ∷ version_width md ∷ 2 ∷ 2 ∷ [])

-- The root where its first field fits.
root-first : (md : List ℕ) → 4 ≤ length md
    → first_of (root_tests md) ≡ first_of (must (eqb (u32_at md 0) signature) BadRoot ∷ root_fields md)
unfolding root_tests root_fields
root-first md h =
    first_of-append_none (fields (length md) (λ _. BadRoot) 0 (4 ∷ [])) (must (eqb (u32_at md 0) signature) BadRoot ∷ root_fields md)
    (fields-all (length md) BadRoot 0 (4 ∷ []) (omega arith))

pub root-good : (md : List ℕ) → 20 + version_width md ≤ length md → u32_at md 0 ≡ signature → first_of (root_tests md) ≡ None
unfolding root_fields
root-good md h same =
    let equal : eqb (u32_at md 0) signature ≡ true = grind (arith, nat_tests) in
    root-first md (omega arith) ∙ must-passed _ BadRoot (root_fields md) equal
    ∙ fields-all (length md) BadRoot 4 (2 ∷ 2 ∷ 4 ∷ 4 ∷ version_width md ∷ 2 ∷ 2 ∷ []) (omega arith)

pub root-other : (md : List ℕ) → 4 ≤ length md → u32_at md 0 ≢ signature → first_of (root_tests md) ≡ Some BadRoot
root-other md h other =
    let differs : eqb (u32_at md 0) signature ≡ false = grind (arith, nat_tests) in
    root-first md h ∙ must-failed _ BadRoot (root_fields md) differs

pub root-short : (md : List ℕ) → length md < 20 + version_width md → first_of (root_tests md) ≡ Some BadRoot
unfolding root_tests root_fields
root-short md h =
    elim (cases_lt (length md) 4) [
      | inl short ↦
          first_of-append_some (fields (length md) (λ _. BadRoot) 0 (4 ∷ [])) (must (eqb (u32_at md 0) signature) BadRoot ∷ root_fields md) BadRoot
          (fields-some (length md) BadRoot 0 (4 ∷ []) (omega arith) (omega arith))
      | inr enough ↦
          elim (bool_cases (eqb (u32_at md 0) signature)) [
            | inl same ↦ root-first md enough ∙ must-passed _ BadRoot (root_fields md) same
                ∙ fields-some (length md) BadRoot 4 (2 ∷ 2 ∷ 4 ∷ 4 ∷ version_width md ∷ 2 ∷ 2 ∷ []) enough (omega arith)
            | inr other ↦ root-first md enough ∙ must-failed _ BadRoot (root_fields md) other
          ]
    ]

pub version-is : (md : List ℕ) → u32_at md 12 ≡ version_width md
unfolding version_width
version-is md = refl

pub headers_at-is : (md : List ℕ) → 20 + version_width md ≡ headers_at md
unfolding headers_at
headers_at-is md = refl

-- ---- a stream header

-- The code's slice from a place to the end.
pub rest-is : (n : ℕ) (bytes : List ℕ) → take (length bytes - n) (drop n bytes) ≡ drop n bytes
rest-is n bytes = take_all (length bytes - n) (drop n bytes) (omega (arith, length-drop n bytes))

pub name_of-is : (md : List ℕ) (at : ℕ) (name : Option (List ℕ)) → name ≡ zero_ended (take (length md - (at + 8)) (drop (at + 8) md)) → name_of md at ≡ name
unfolding name_of
name_of-is md at name e = sym (e ∙ ap zero_ended (rest-is (at + 8) md))

pub next_header-is : (md : List ℕ) (at : ℕ) (name : List ℕ) → name_of md at ≡ Some name → at + 8 + padded (length name) ≡ next_header md at
unfolding name_width
next_header-is md at name e = rw e refl

header_numbers : List ℕ → ℕ → List (Option TableFault)
header_numbers md at = fields (length md) (λ _. BadRoot) at (4 ∷ 4 ∷ [])

header_name : List ℕ → ℕ → List (Option TableFault)
header_name md at = must (is_some (name_of md at)) BadRoot ∷ fields (length md) (λ _. BadRoot) (at + 8) (name_width md at ∷ [])

header_stream : List ℕ → ℕ → List (Option TableFault)
header_stream md at = fields (length md) (λ _. BadRoot) (stream_of md at).at ((stream_of md at).size ∷ [])

header-parts : (md : List ℕ) (at : ℕ)
    → first_of (header_tests md at) ≡ option_or (option_or (first_of (header_numbers md at)) (first_of (header_name md at))) (first_of (header_stream md at))
unfolding header_tests header_numbers header_name header_stream
header-parts md at =
    first_of-append (header_numbers md at ++ header_name md at) (header_stream md at)
    ∙ ap (λ (o : Option TableFault). option_or o (first_of (header_stream md at))) (first_of-append (header_numbers md at) (header_name md at))

numbers-good : (md : List ℕ) (at : ℕ) → at + 8 ≤ length md → first_of (header_numbers md at) ≡ None
unfolding header_numbers
numbers-good md at h = fields-all (length md) BadRoot at (4 ∷ 4 ∷ []) (omega arith)

name-good : (md : List ℕ) (at : ℕ) (name : List ℕ) → name_of md at ≡ Some name → next_header md at ≤ length md → first_of (header_name md at) ≡ None
unfolding header_name
name-good md at name e h =
    let there : is_some (name_of md at) ≡ true = rw e refl in
    must-passed _ BadRoot (fields (length md) (λ _. BadRoot) (at + 8) (name_width md at ∷ [])) there
    ∙ fields-all (length md) BadRoot (at + 8) (name_width md at ∷ []) (omega arith)

pub header-short : (md : List ℕ) (at : ℕ) → at ≤ length md → length md < at + 8 → first_of (header_tests md at) ≡ Some BadRoot
unfolding header_numbers
header-short md at h short =
    let bad : first_of (header_numbers md at) ≡ Some BadRoot = fields-some (length md) BadRoot at (4 ∷ 4 ∷ []) h (omega arith) in
    header-parts md at ∙ rw bad refl

pub header-endless : (md : List ℕ) (at : ℕ) → at + 8 ≤ length md → name_of md at ≡ None → first_of (header_tests md at) ≡ Some BadRoot
unfolding header_name
header-endless md at h e =
    let missing : is_some (name_of md at) ≡ false = rw e refl in
    let bad : first_of (header_name md at) ≡ Some BadRoot = must-failed _ BadRoot (fields (length md) (λ _. BadRoot) (at + 8) (name_width md at ∷ [])) missing in
    header-parts md at ∙ rw (numbers-good md at h, bad) refl

pub header-long : (md : List ℕ) (at : ℕ) (name : List ℕ) → at + 8 ≤ length md → name_of md at ≡ Some name → length md < at + 8 + padded (length name)
    → first_of (header_tests md at) ≡ Some BadRoot
unfolding header_name
header-long md at name h e long =
    let next = next_header-is md at name e in
    let there : is_some (name_of md at) ≡ true = rw e refl in
    let bad : first_of (header_name md at) ≡ Some BadRoot =
    must-passed _ BadRoot (fields (length md) (λ _. BadRoot) (at + 8) (name_width md at ∷ [])) there
    ∙ fields-some (length md) BadRoot (at + 8) (name_width md at ∷ []) h (omega arith) in
    header-parts md at ∙ rw (numbers-good md at h, bad) refl

pub header-outside : (md : List ℕ) (at : ℕ) (name : List ℕ) → at + 8 ≤ length md → name_of md at ≡ Some name → at + 8 + padded (length name) ≤ length md
    → length md < u32_at md at + u32_at md (at + 4) → first_of (header_tests md at) ≡ Some BadRoot
unfolding header_stream stream_of
header-outside md at name h e fit outside =
    let next = next_header-is md at name e in
    let bad : first_of (header_stream md at) ≡ Some BadRoot = fields-short (length md) (λ _. BadRoot) (u32_at md at) (u32_at md (at + 4)) [] outside in
    header-parts md at ∙ rw (numbers-good md at h, name-good md at name e (omega arith), bad) refl

pub header-good : (md : List ℕ) (at : ℕ) (name : List ℕ) → at + 8 ≤ length md → name_of md at ≡ Some name → at + 8 + padded (length name) ≤ length md
    → u32_at md at + u32_at md (at + 4) ≤ length md → first_of (header_tests md at) ≡ None
unfolding header_stream stream_of
header-good md at name h e fit within =
    let next = next_header-is md at name e in
    let good : first_of (header_stream md at) ≡ None = fields-all (length md) BadRoot (u32_at md at) (u32_at md (at + 4) ∷ []) (omega arith) in
    header-parts md at ∙ rw (numbers-good md at h, name-good md at name e (omega arith), good) refl
