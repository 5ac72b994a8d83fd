-- The sections of a prefix of reports: each has lines of its own report alone.
use Rattle.std.proofs.Common.{◌≡◌, ℕ, zero, suc, ◌+◌, ◌==◌, not, Bool, true, false, cond, List, [], ◌∷◌, ◌++◌, take, Some, slice_get, slice_index_or, refl, sym, ap, subst, ◌∙◌, append_assoc, arith}
use Rattle.std.specs.Prelude.{Contains}
use Rattle.std.specs.List.{AllByRecursion, before_first, flat_map, prefix_len}
use Rattle.std.proofs.lemmas.Bool.{ne_eqb}
use Rattle.cc_base.specs.Sink.{IsPrefix}
use Rattle.answer_lines.proofs.WholeLines.{IsOneLine, as_lines, is_later}
use Rattle.assembly_reports.specs.Sections.{begins_section, lines_of, longer, sections_of}
use Rattle.assembly_reports.proofs.Members.{in_prefix, none_contained}

-- ---- the lines of a prefix of whole lines

-- They are the first of these lines.
abbrev HasFirst : List ℕ → List (List ℕ) → Type 0
HasFirst text lines = (m : ℕ) × (lines_of text ≡ take m lines)

longer_first : (c : ℕ) (line : List ℕ) (lines : List (List ℕ)) (m : ℕ) → (n : ℕ) × (longer c (take m (line ∷ lines)) ≡ take n ((c ∷ line) ∷ lines))
longer_first c line lines zero = (0, refl)
longer_first c line lines (suc m) = (suc m, refl)

prefix_of_none : (text : List ℕ) → IsPrefix text [] → lines_of text ≡ []
prefix_of_none [] prefix = refl
prefix_of_none (c ∷ text) (rest, is) = absurd cc

prefix_of_more : (text : List ℕ) (lines : List (List ℕ))
    → ((line : List ℕ) (others : List (List ℕ)) → IsOneLine line → AllByRecursion IsOneLine others → IsPrefix text (line ++ 10 ∷ as_lines others) → HasFirst text (line ∷ others))
    → AllByRecursion IsOneLine lines → IsPrefix text (as_lines lines) → HasFirst text lines
prefix_of_more text [] found all prefix = (0, prefix_of_none text prefix)
prefix_of_more text (line ∷ lines) found all (rest, is) = found line lines all.0 all.1 (rest, sym (append_assoc line (10 ∷ []) (as_lines lines)) ∙ is)

-- Where the first of the lines was begun.
prefix_of_line : (text line : List ℕ) (lines : List (List ℕ)) → IsOneLine line → AllByRecursion IsOneLine lines → IsPrefix text (line ++ 10 ∷ as_lines lines)
    → HasFirst text (line ∷ lines)
prefix_of_line [] line lines one all prefix = (0, refl)
prefix_of_line (c ∷ text) [] lines one all (rest, is) =
    let feed : 10 ≡ c = cc in
    let later : as_lines lines ≡ text ++ rest = cc in
    let found = prefix_of_more text lines (λ line others one all prefix. prefix_of_line text line others one all prefix) all (rest, later) in (
      suc found.0,
      ap (λ (b : ℕ). cond (b == 10) ([] ∷ lines_of text) (longer b (lines_of text))) (sym feed) ∙ ap (λ (l : List (List ℕ)). [] ∷ l) found.1,
    )
prefix_of_line (c ∷ text) (d ∷ line) lines one all (rest, is) =
    let same : d ≡ c = cc in
    let later : line ++ 10 ∷ as_lines lines ≡ text ++ rest = cc in
    let found = prefix_of_line text line lines one.1 all (rest, later) in
    let more = longer_first d line lines found.0 in
    let other : (d == 10) ≡ false = ne_eqb d 10 one.0 in (
      more.0,
      ap (λ (b : ℕ). cond (b == 10) ([] ∷ lines_of text) (longer b (lines_of text))) (sym same)
          ∙ ap (λ (feed : Bool). cond feed ([] ∷ lines_of text) (longer d (lines_of text))) other ∙ ap (longer d) found.1 ∙ more.1,
    )

pub prefix_of_lines : (text : List ℕ) (lines : List (List ℕ)) → AllByRecursion IsOneLine lines → IsPrefix text (as_lines lines) → HasFirst text lines
prefix_of_lines text lines all prefix = prefix_of_more text lines (λ line others one all prefix. prefix_of_line text line others one all prefix) all prefix

-- ---- the sections of the first of such lines

-- A line that begins no section.
abbrev pub IsInside : List ℕ → Type 0
IsInside line = begins_section line ≡ false

-- Lines of which the first begins a section, and no other.
abbrev pub IsSection : List (List ℕ) → Type 0
IsSection [] = ⊥
IsSection (line ∷ lines) = (begins_section line ≡ true) × AllByRecursion IsInside lines

-- No line, or a line that begins a section.
abbrev Begins : List (List ℕ) → Type 0
Begins [] = Unit {0}
Begins (line ∷ lines) = begins_section line ≡ true

section_begins : (lines more : List (List ℕ)) → IsSection lines → Begins (lines ++ more)
section_begins [] more is = absurd is
section_begins (line ∷ lines) more is = is.0

all_begin : {X : Type 0} (said : X → List (List ℕ)) (items : List X) → AllByRecursion (λ item. IsSection (said item)) items → Begins (flat_map said items)
all_begin said [] all = tt
all_begin said (item ∷ items) all = section_begins (said item) (flat_map said items) all.0

-- Up to the next section there are lines of this one alone.
up_to_next : (lines more : List (List ℕ)) (m : ℕ) → AllByRecursion IsInside lines → Begins more
    → (n : ℕ) × (before_first begins_section (take m (lines ++ more)) ≡ take n lines)
up_to_next lines more zero inside begins = (0, refl)
up_to_next [] [] (suc m) inside begins = (0, refl)
up_to_next [] (line ∷ more) (suc m) inside begins =
    (0, ap (λ (first : Bool). take (cond (not first) (1 + prefix_len (λ l. not (begins_section l)) (take m more)) 0) (line ∷ take m more)) begins)
up_to_next (line ∷ lines) more (suc m) inside begins =
    let later = up_to_next lines more m inside.1 begins in
    let rest = take m (lines ++ more) in
    let one : 1 + prefix_len (λ l. not (begins_section l)) rest ≡ suc (prefix_len (λ l. not (begins_section l)) rest) = omega arith in (
      suc later.0,
      ap (λ (first : Bool). take (cond (not first) (1 + prefix_len (λ l. not (begins_section l)) rest) 0) (line ∷ rest)) inside.0
          ∙ ap (λ (n : ℕ). take n (line ∷ rest)) one ∙ ap (λ (l : List (List ℕ)). line ∷ l) later.1,
    )

-- The sections after this one are those of the lines after it.
after_lines : (lines more : List (List ℕ)) (m : ℕ) → AllByRecursion IsInside lines → (n : ℕ) × (sections_of (take m (lines ++ more)) ≡ sections_of (take n more))
after_lines lines more zero inside = (0, refl)
after_lines [] more (suc m) inside = (suc m, refl)
after_lines (line ∷ lines) more (suc m) inside =
    let later = after_lines lines more m inside.1 in
    let rest = take m (lines ++ more) in (
      later.0,
      ap (λ (first : Bool). cond first (before_first begins_section rest ∷ sections_of rest) (sections_of rest)) inside.0 ∙ later.1,
    )

-- What has a line in section k of these lines.
pub record IsKth {X : Type 0} (said : X → List (List ℕ)) (items : List X) (k : ℕ) (line : List ℕ) : Type 0 where
  pub item : X
  pub kth : slice_get items k ≡ Some item
  pub has : Contains (said item) line

abbrev SectionHas : List (List ℕ) → ℕ → List ℕ → Type 0
SectionHas lines k line = Contains (slice_index_or (sections_of lines) k []) line

-- Where the lines of some items are sections, a line in section k of the first of these lines is one of item k.
pub section_of_prefix : {X : Type 0} (said : X → List (List ℕ)) (items : List X) (m k : ℕ) (line : List ℕ) → AllByRecursion (λ item. IsSection (said item)) items
    → SectionHas (take m (flat_map said items)) k line → IsKth said items k line
section_of_prefix said [] zero k line all has = absurd (none_contained line has)
section_of_prefix said [] (suc m) k line all has = absurd (none_contained line has)
section_of_prefix {X} said (item ∷ items) m k line all has = by_lines (said item) refl all.0 m k has (λ n j. section_of_prefix said items n j line all.1)
  where
    others : List (List ℕ)
    others = flat_map said items

    by_begins : (head : List ℕ) (lines : List (List ℕ)) (n : ℕ) → said item ≡ head ∷ lines → AllByRecursion IsInside lines → (j : ℕ)
        → Contains (slice_index_or (before_first begins_section (take n (lines ++ others)) ∷ sections_of (take n (lines ++ others))) j []) line
        → ((n j : ℕ) → SectionHas (take n others) j line → IsKth said items j line) → IsKth said (item ∷ items) j line
    by_begins head lines n same inside zero has later =
        let up_to = up_to_next lines others n inside (all_begin said items all.1) in
        let among : Contains lines line = in_prefix up_to.0 lines line (subst (λ (l : List (List ℕ)). Contains l line) up_to.1 has) in
        record { item = item; kth = refl; has = subst (λ (l : List (List ℕ)). Contains l line) (sym same) (is_later head line lines among) }
    by_begins head lines n same inside (suc j) has later =
        let after = after_lines lines others n inside in
        let there = later after.0 j (subst (λ (l : List (List (List ℕ))). Contains (slice_index_or l j []) line) after.1 has) in
        record { item = there.item; kth = there.kth; has = there.has }

    by_lines : (lines : List (List ℕ)) → said item ≡ lines → IsSection lines → (n j : ℕ) → SectionHas (take n (lines ++ others)) j line
        → ((n j : ℕ) → SectionHas (take n others) j line → IsKth said items j line) → IsKth said (item ∷ items) j line
    by_lines [] same is n j has later = absurd is
    by_lines (head ∷ lines) same is zero j has later = absurd (none_contained line has)
    by_lines (head ∷ lines) same is (suc n) j has later =
        let rest = take n (lines ++ others) in
        by_begins head lines n same is.1 j
        (subst (λ (begins : Bool). Contains (slice_index_or (cond begins (before_first begins_section rest ∷ sections_of rest) (sections_of rest)) j []) line) is.0 has) later
