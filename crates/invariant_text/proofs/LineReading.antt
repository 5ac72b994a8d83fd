-- Lines of a block: which kind each is of, and that of two lines of one kind both say the same where their texts are
-- the same.
use Rattle.std.proofs.Common.{◌≡◌, ℕ, zero, suc, ◌-◌, ◌<◌, ◌^◌, ◌==◌, nat_lt, ℤ, pos, negsuc, Bool, true, false, List}
use Rattle.std.proofs.Common.{[], ◌∷◌, ◌++◌, length, drop, get_or, refl, sym, ap, ◌∙◌, arith, append_assoc}
use Rattle.std.proofs.Common.{if◌then◌else◌, codes}
use Rattle.std.specs.Fmt.{decimal}
use Rattle.std.specs.Int.Signed.{mag}
use Rattle.std.proofs.lemmas.List.{append_cancel_left}
use Rattle.cil_model.specs.Places.{place_text}
use Rattle.cil_model.specs.declared.place.Place.{Place}
use Rattle.cil_model.specs.declared.place.Place.TheVariants as places
use Rattle.cil_model.specs.declared.unit.Unit.{Unit as MethodUnit}
use Rattle.alias_facts.specs.PairsOf.{Pair}
use Rattle.alias_facts.specs.declared.nullness.Nullness.{Nullness}
use Rattle.alias_facts.specs.declared.nullness.Nullness.TheVariants.{May, NotNull, Null}
use Rattle.array_contents.specs.Contents.{Segments}
use Rattle.domain_api.specs.declared.expr.Expr.{Expr}
use Rattle.frame_names.specs.declared.reference.Reference.{Reference}
use Rattle.frame_names.specs.declared.var.Var.{Var}
use Rattle.interval_domain.specs.Interval.{Interval}
use Rattle.number_spans.specs.Stored.{IsNarrow}
use Rattle.pentagon_domain.specs.declared.bound_row.BoundRow.{BoundRow}
use Rattle.symbolic_values.specs.declared.def.Def.{Def}
use Rattle.invariant_text.specs.Lines.{line}
use Rattle.invariant_text.specs.NumberTexts.{added_text, expr_text, range_text, symbol_text}
use Rattle.invariant_text.specs.ReferenceLines.{apart_line, known_text, nullness_text, reference_line, segments_text}
use Rattle.invariant_text.specs.SymbolLines.{bound_line, def_text, definition_line, symbol_line}
use Rattle.invariant_text.specs.VariableLines.{reference_text, value_text, variable_line, variable_name}
use Rattle.invariant_text.proofs.DefReading.{IsSmallDef, def_read, null_text, other_text, reference_read}
use Rattle.invariant_text.proofs.ExprReading.{EndsExpr, IsSmall, added_no_digit, behind_letter, expr_read, less_added}
use Rattle.invariant_text.proofs.ExprReading.{letter_no_digit, more_added, nothing_added, number_text}
use Rattle.invariant_text.proofs.NumberReading.{begins_digit, behind_digits, number_begins, number_behind, number_read}
use Rattle.invariant_text.proofs.RangeReading.{range_read}
use Rattle.invariant_text.proofs.SegmentReading.{IsSmallSegments, all_segments_read, segments_parts, bound_parts}
use Rattle.invariant_text.proofs.ValueReading.{IsSmallVar, value_read}

-- ---- which kind a line is of

-- What stands behind the digits of a symbol, by its second byte: a range is 2, a bound 4, a definition 5.
abbrev pub symbol_kind : ℕ → ℕ
symbol_kind c = if c == 105 then 2 else if c == 61 then 5 else 4

-- Variables are 1, references 3, and two that are apart 6.
abbrev pub inner_kind : List ℕ → ℕ
inner_kind text =
    if get_or text 0 0 == 115
    then (if get_or text 1 0 == 116 then 1 else symbol_kind (get_or (behind_digits (drop 1 text)) 1 0))
    else if get_or text 0 0 == 114 then (if get_or (behind_digits (drop 1 text)) 1 0 == 97 then 6 else 3)
    else if get_or text 0 0 == 110 then 6
    else if get_or text 0 0 == 105 then 1
    else if get_or text 0 0 == 97 then 1
    else if get_or text 0 0 == 108 then 1
    else 4

-- The kind of the line that the text begins with. 7 is none of a state.
abbrev pub line_kind : List ℕ → ℕ
line_kind text = if get_or text 2 0 == 32 then inner_kind (drop 4 text) else 7

line_parts : (text r : List ℕ) → line text ++ r ≡ 32 ∷ 32 ∷ 32 ∷ 32 ∷ (text ++ 10 ∷ r)
line_parts text r = append_assoc (codes "    " ++ text) (codes "\n") r ∙ append_assoc (codes "    ") text (10 ∷ r)

-- A line whose text is put together of two, and one of three.
two_parts : (a b r : List ℕ) → line (a ++ b) ++ r ≡ 32 ∷ 32 ∷ 32 ∷ 32 ∷ (a ++ (b ++ 10 ∷ r))
two_parts a b r = line_parts (a ++ b) r ∙ ap (λ (text : List ℕ). 32 ∷ 32 ∷ 32 ∷ 32 ∷ text) (append_assoc a b (10 ∷ r))

three_parts : (a b c r : List ℕ) → line (a ++ b ++ c) ++ r ≡ 32 ∷ 32 ∷ 32 ∷ 32 ∷ (a ++ (b ++ (c ++ 10 ∷ r)))
three_parts a b c r =
    two_parts (a ++ b) c r ∙ ap (λ (text : List ℕ). 32 ∷ 32 ∷ 32 ∷ 32 ∷ text) (append_assoc a b (c ++ 10 ∷ r))

-- Behind the letter of a symbol no other letter stands.
symbol_second : (n : ℕ) (r : List ℕ) → n < 2 ^ 64 → (get_or (decimal n ++ r) 0 0 == 116) ≡ false
symbol_second n r fits = letter_no_digit 116 (decimal n ++ r) (omega arith) (number_begins n r fits)

symbol_inner : (n : ℕ) (r : List ℕ) → n < 2 ^ 64 → begins_digit r ≡ false
    → inner_kind (115 ∷ decimal n ++ r) ≡ symbol_kind (get_or r 1 0)
symbol_inner n r fits none = rw (symbol_second n r fits, number_behind n r fits none)

-- ---- variables

named_inner : (first second third : Bool) (i j k l : ℕ) (r : List ℕ)
    → inner_kind ((if first then codes "in " ++ decimal i else if second then codes "arg " ++ decimal j
    else if third then codes "local " ++ decimal k else codes "stack " ++ decimal l) ++ r) ≡ 1
named_inner true second third i j k l r = refl
named_inner false true third i j k l r = refl
named_inner false false true i j k l r = refl
named_inner false false false i j k l r = refl

name_inner : (args locals i : ℕ) (r : List ℕ) → inner_kind (variable_name args locals i ++ r) ≡ 1
unfolding variable_name
name_inner args locals i r =
    named_inner (nat_lt i args) (nat_lt (i - args) args) (nat_lt (i - args - args) locals) i (i - args)
    (i - args - args) (i - args - args - locals) r

pub variable_parts : (unit : MethodUnit) (i : ℕ) (v : Var) (r : List ℕ) → variable_line unit i v ++ r
    ≡ 32 ∷ 32 ∷ 32 ∷ 32 ∷ (variable_name (length unit.args) (length unit.locals) i
    ++ (codes " = " ++ (value_text v ++ 10 ∷ r)))
unfolding variable_line
variable_parts unit i v r =
    three_parts (variable_name (length unit.args) (length unit.locals) i) (codes " = ") (value_text v) r

pub variable_kind : (unit : MethodUnit) (i : ℕ) (v : Var) (r : List ℕ) → line_kind (variable_line unit i v ++ r) ≡ 1
variable_kind unit i v r =
    rw (variable_parts unit i v r) (name_inner (length unit.args) (length unit.locals) i
    (codes " = " ++ (value_text v ++ 10 ∷ r)))

pub variable_read : (unit : MethodUnit) (i : ℕ) (v w : Var) (r q : List ℕ) → IsSmallVar v → IsSmallVar w
    → variable_line unit i v ++ r ≡ variable_line unit i w ++ q → (v ≡ w) × (r ≡ q)
variable_read unit i v w r q first second same =
    let behind = append_cancel_left (variable_name (length unit.args) (length unit.locals) i)
    (codes " = " ++ (value_text v ++ 10 ∷ r))
    (codes " = " ++ (value_text w ++ 10 ∷ q)) (ap (drop 4)
    (sym (variable_parts unit i v r) ∙ same ∙ variable_parts unit i w q)) in
    value_read v w r q first second (ap (drop 3) behind)

-- ---- ranges of symbols

pub symbol_parts : (n : ℕ) (range : Interval) (r : List ℕ)
    → symbol_line n range ++ r ≡ 32 ∷ 32 ∷ 32 ∷ 32 ∷ 115 ∷ decimal n ++ (codes " in " ++ (range_text range ++ 10 ∷ r))
unfolding symbol_line
symbol_parts n range r = three_parts (symbol_text n) (codes " in ") (range_text range) r

pub symbol_line_kind : (n : ℕ) (range : Interval) (r : List ℕ) → n < 2 ^ 64 → line_kind (symbol_line n range ++ r) ≡ 2
symbol_line_kind n range r fits =
    rw (symbol_parts n range r) (symbol_inner n (codes " in " ++ (range_text range ++ 10 ∷ r)) fits refl)

pub symbol_read : (n : ℕ) (a b : Interval) (r q : List ℕ) → IsNarrow a → IsNarrow b
    → symbol_line n a ++ r ≡ symbol_line n b ++ q
    → (a ≡ b) × (r ≡ q)
symbol_read n a b r q first second same =
    let behind = append_cancel_left (decimal n) (codes " in " ++ (range_text a ++ 10 ∷ r))
    (codes " in " ++ (range_text b ++ 10 ∷ q))
    (ap (drop 5) (sym (symbol_parts n a r) ∙ same ∙ symbol_parts n b q)) in
    let read = range_read a b (10 ∷ r) (10 ∷ q) first second (record { no_digit = refl; no_hole = refl })
    (record { no_digit = refl; no_hole = refl })
    (ap (drop 4) behind) in
    (read.0, ap (drop 1) read.1)

-- ---- bounds

-- The numbers of the bound have 64 bits.
pub record IsSmallRow (row : BoundRow) : Type 0 where
  pub from : row.s < 2 ^ 64
  pub to : row.t < 2 ^ 64
  pub constant : mag row.k < 2 ^ 63

abbrev pub lower : BoundRow → Expr
lower row = record { sym = row.s; k = row.k }

pub row_parts : (row : BoundRow) (r : List ℕ)
    → bound_line row ++ r ≡ 32 ∷ 32 ∷ 32 ∷ 32 ∷ (expr_text (lower row)
    ++ (codes " <= " ++ (symbol_text row.t ++ 10 ∷ r)))
unfolding bound_line
row_parts row r = three_parts (expr_text (lower row)) (codes " <= ") (symbol_text row.t) r

number_inner : (text : List ℕ) → begins_digit text ≡ true → inner_kind text ≡ 4
number_inner text is =
    rw (
      letter_no_digit 115 text (omega arith) is,
      letter_no_digit 114 text (omega arith) is,
      letter_no_digit 110 text (omega arith) is,
      letter_no_digit 105 text (omega arith) is,
      letter_no_digit 97 text (omega arith) is,
      letter_no_digit 108 text (omega arith) is,
    )

added_second : (k : ℤ) (r : List ℕ) → symbol_kind (get_or (added_text k ++ (codes " <= " ++ r)) 1 0) ≡ 4
added_second (pos zero) r = rw nothing_added
added_second (pos (suc n)) r = rw (more_added n)
added_second (negsuc n) r = rw (less_added n)

lower_inner : (s : ℕ) (k : ℤ) (r : List ℕ) → s < 2 ^ 64 → mag k < 2 ^ 63
    → inner_kind (expr_text (record { sym = s; k = k }) ++ (codes " <= " ++ r)) ≡ 4
lower_inner zero (pos n) r s_fits k_fits =
    rw (number_text (pos n)) (number_inner (decimal n ++ (codes " <= " ++ r))
    (number_begins n (codes " <= " ++ r) (omega (arith, k_fits))))
lower_inner zero (negsuc n) r s_fits k_fits = rw (number_text (negsuc n))
lower_inner (suc s) k r s_fits k_fits =
    rw (behind_letter s k (codes " <= " ++ r))
    (symbol_inner (suc s) (added_text k ++ (codes " <= " ++ r)) s_fits (added_no_digit k (codes " <= " ++ r) refl)
    ∙ added_second k r)

pub row_kind : (row : BoundRow) (r : List ℕ) → IsSmallRow row → line_kind (bound_line row ++ r) ≡ 4
row_kind row r small =
    rw (row_parts row r) (lower_inner row.s row.k (symbol_text row.t ++ 10 ∷ r) small.from small.constant)

pub row_read : (a b : BoundRow) (r q : List ℕ) → IsSmallRow a → IsSmallRow b → bound_line a ++ r ≡ bound_line b ++ q
    → (a ≡ b) × (r ≡ q)
row_read a b r q first second same =
    let below = expr_read (lower a) (lower b) (codes " <= " ++ (symbol_text a.t ++ 10 ∷ r))
    (codes " <= " ++ (symbol_text b.t ++ 10 ∷ q))
    (record { symbol = first.from; constant = first.constant })
    (record { symbol = second.from; constant = second.constant })
    (record { no_digit = refl; not_added = refl }) (record { no_digit = refl; not_added = refl })
    (ap (drop 4) (sym (row_parts a r) ∙ same ∙ row_parts b q)) in
    let above = number_read a.t b.t (10 ∷ r) (10 ∷ q) first.to second.to refl refl (ap (drop 5) below.1) in
    ((λ i. record { s = (below.0 i).sym; t = above.0 i; k = (below.0 i).k }), ap (drop 1) above.1)

-- ---- definitions

abbrev pub IsSmallDefinition : ℕ × Def → Type 0
IsSmallDefinition d = (d.0 < 2 ^ 64) × IsSmallDef d.1

pub definition_parts : (d : ℕ × Def) (r : List ℕ)
    → definition_line d ++ r ≡ 32 ∷ 32 ∷ 32 ∷ 32 ∷ 115 ∷ decimal d.0 ++ (codes " = " ++ (def_text d.1 ++ 10 ∷ r))
unfolding definition_line
definition_parts d r = three_parts (symbol_text d.0) (codes " = ") (def_text d.1) r

pub definition_kind : (d : ℕ × Def) (r : List ℕ) → IsSmallDefinition d → line_kind (definition_line d ++ r) ≡ 5
definition_kind d r small =
    rw (definition_parts d r) (symbol_inner d.0 (codes " = " ++ (def_text d.1 ++ 10 ∷ r)) small.0 refl)

pub definition_read : (d e : ℕ × Def) (r q : List ℕ) → IsSmallDefinition d → IsSmallDefinition e
    → definition_line d ++ r ≡ definition_line e ++ q
    → (d ≡ e) × (r ≡ q)
definition_read d e r q first second same =
    let symbols = number_read d.0 e.0 (codes " = " ++ (def_text d.1 ++ 10 ∷ r))
    (codes " = " ++ (def_text e.1 ++ 10 ∷ q)) first.0 second.0 refl refl
    (ap (drop 5) (sym (definition_parts d r) ∙ same ∙ definition_parts e q)) in
    let defs = def_read d.1 e.1 r q first.1 second.1 (ap (drop 3) symbols.1) in
    ((λ i. (symbols.0 i, defs.0 i)), defs.1)

-- ---- references that are apart

abbrev pub IsSmallPair : Pair → Type 0
IsSmallPair p = (p.0 < 2 ^ 64) × (p.1 < 2 ^ 64)

pub apart_parts : (p : Pair) (r : List ℕ)
    → apart_line p ++ r ≡ 32 ∷ 32 ∷ 32 ∷ 32 ∷ (reference_text p.0
    ++ (codes " apart " ++ (reference_text p.1 ++ 10 ∷ r)))
unfolding apart_line
apart_parts p r = three_parts (reference_text p.0) (codes " apart ") (reference_text p.1) r

apart_inner : (n : ℕ) (r : List ℕ) → n < 2 ^ 64 → inner_kind (reference_text n ++ (codes " apart " ++ r)) ≡ 6
apart_inner zero r fits = rw null_text
apart_inner (suc n) r fits = rw (other_text n, number_behind (suc n) (codes " apart " ++ r) fits refl)

pub apart_kind : (p : Pair) (r : List ℕ) → IsSmallPair p → line_kind (apart_line p ++ r) ≡ 6
apart_kind p r small = rw (apart_parts p r) (apart_inner p.0 (reference_text p.1 ++ 10 ∷ r) small.0)

pub apart_read : (a b : Pair) (r q : List ℕ) → IsSmallPair a → IsSmallPair b → apart_line a ++ r ≡ apart_line b ++ q
    → (a ≡ b) × (r ≡ q)
apart_read a b r q first second same =
    let left = reference_read a.0 b.0 (codes " apart " ++ (reference_text a.1 ++ 10 ∷ r))
    (codes " apart " ++ (reference_text b.1 ++ 10 ∷ q))
    first.0 second.0 refl refl (ap (drop 4) (sym (apart_parts a r) ∙ same ∙ apart_parts b q)) in
    let right = reference_read a.1 b.1 (10 ∷ r) (10 ∷ q) first.1 second.1 refl refl (ap (drop 7) left.1) in
    ((λ i. (left.0 i, right.0 i)), ap (drop 1) right.1)

-- ---- references

-- What the line of a reference says.
abbrev pub Known : Type 0
Known = Reference × Segments

-- The numbers have 64 bits.
pub record IsSmallKnown (known : Known) : Type 0 where
  pub length_is : IsSmall known.0.length
  pub segments : IsSmallSegments known.1

abbrev place_at : List ℕ → Place
place_at text =
    if get_or text 0 0 == 118 then places.Void
    else if get_or text 0 0 == 98 then (if get_or text 4 0 == 91 then places.Bools else places.Bool)
    else if get_or text 5 0 == 91 then places.Ints
    else places.Int

place_told : (p : Place) (r : List ℕ) → place_at (place_text p ++ 32 ∷ r) ≡ p
place_told places.Void r = refl
place_told places.Bool r = refl
place_told places.Int r = refl
place_told places.Bools r = refl
place_told places.Ints r = refl

pub place_second : (p : Place) (r : List ℕ) → (get_or (place_text p ++ r) 0 0 == 97) ≡ false
place_second places.Void r = refl
place_second places.Bool r = refl
place_second places.Int r = refl
place_second places.Bools r = refl
place_second places.Ints r = refl

place_read : (a b : Place) (r q : List ℕ) → place_text a ++ 32 ∷ r ≡ place_text b ++ 32 ∷ q → (a ≡ b) × (r ≡ q)
place_read a b r q same =
    let is : a ≡ b = sym (place_told a r) ∙ ap place_at same ∙ place_told b q in (
      is,
      ap (drop 1) (append_cancel_left (place_text a) (32 ∷ r) (32 ∷ q)
          (same ∙ ap (λ (p : Place). place_text p ++ 32 ∷ q) (sym is))),
    )

abbrev nullness_at : List ℕ → Nullness
nullness_at text = if get_or text 0 0 == 109 then May else if get_or text 0 0 == 110 then NotNull else Null

nullness_told : (n : Nullness) (r : List ℕ) → nullness_at (nullness_text n ++ r) ≡ n
nullness_told May r = refl
nullness_told NotNull r = refl
nullness_told Null r = refl

nullness_read : (a b : Nullness) (r q : List ℕ) → nullness_text a ++ r ≡ nullness_text b ++ q → (a ≡ b) × (r ≡ q)
nullness_read a b r q same =
    let is : a ≡ b = sym (nullness_told a r) ∙ ap nullness_at same ∙ nullness_told b q in
    (is, append_cancel_left (nullness_text a) r q (same ∙ ap (λ (n : Nullness). nullness_text n ++ q) (sym is)))

-- What stands behind the number of a reference.
abbrev pub told_of : Known → List ℕ → List ℕ
told_of known r =
    32 ∷ (place_text known.0.place ++ 32 ∷ (nullness_text known.0.nullness
    ++ (codes " length " ++ (expr_text known.0.length ++ (segments_text known.1 ++ 10 ∷ r)))))

pub known_parts : (n : ℕ) (known : Known) (r : List ℕ)
    → reference_line n known.0 known.1 ++ r ≡ 32 ∷ 32 ∷ 32 ∷ 32 ∷ (reference_text n ++ told_of known r)
unfolding reference_line known_text
known_parts n known r =
    let ref = reference_text n in
    let place = place_text known.0.place in
    let nullness = nullness_text known.0.nullness in
    let size = expr_text known.0.length in
    let rest = segments_text known.1 ++ 10 ∷ r in
    two_parts (known_text n known.0) (segments_text known.1) r
    ∙ ap (λ (text : List ℕ). 32 ∷ 32 ∷ 32 ∷ 32 ∷ text)
    (append_assoc (ref ++ codes " " ++ place ++ codes " " ++ nullness ++ codes " length ") size rest
    ∙ append_assoc (ref ++ codes " " ++ place ++ codes " " ++ nullness) (codes " length ") (size ++ rest)
    ∙ append_assoc (ref ++ codes " " ++ place ++ codes " ") nullness (codes " length " ++ (size ++ rest))
    ∙ append_assoc (ref ++ codes " " ++ place) (codes " ") (nullness ++ (codes " length " ++ (size ++ rest)))
    ∙ append_assoc (ref ++ codes " ") place (32 ∷ (nullness ++ (codes " length " ++ (size ++ rest))))
    ∙ append_assoc ref (codes " ") (place ++ 32 ∷ (nullness ++ (codes " length " ++ (size ++ rest)))))

known_inner : (n : ℕ) (known : Known) (r : List ℕ) → 0 < n → n < 2 ^ 64
    → inner_kind (reference_text n ++ told_of known r) ≡ 3
known_inner zero known r some fits = absurd (omega (arith, some))
known_inner (suc n) known r some fits =
    rw (
      other_text n,
      number_behind (suc n) (told_of known r) fits refl,
      place_second known.0.place (32 ∷ (nullness_text known.0.nullness
          ++ (codes " length " ++ (expr_text known.0.length ++ (segments_text known.1 ++ 10 ∷ r))))),
    )

pub known_kind : (n : ℕ) (known : Known) (r : List ℕ) → 0 < n → n < 2 ^ 64
    → line_kind (reference_line n known.0 known.1 ++ r) ≡ 3
known_kind n known r some fits = rw (known_parts n known r) (known_inner n known r some fits)

pub segments_end : (s : Segments) (r : List ℕ) → EndsExpr (segments_text s ++ r)
segments_end s r =
    rw (segments_parts s r, bound_parts (get_or s.bounds 0 []) _) (record { no_digit = refl; not_added = refl })

pub known_read : (n : ℕ) (a b : Known) (r q : List ℕ) → IsSmallKnown a → IsSmallKnown b
    → reference_line n a.0 a.1 ++ r ≡ reference_line n b.0 b.1 ++ q → (a ≡ b) × (r ≡ q)
known_read n a b r q first second same =
    let behind = λ (known : Known) (text : List ℕ). codes " length "
    ++ (expr_text known.0.length ++ (segments_text known.1 ++ 10 ∷ text)) in
    let told = append_cancel_left (reference_text n) (told_of a r) (told_of b q)
    (ap (drop 4) (sym (known_parts n a r) ∙ same ∙ known_parts n b q)) in
    let place = place_read a.0.place b.0.place (nullness_text a.0.nullness ++ behind a r)
    (nullness_text b.0.nullness ++ behind b q) (ap (drop 1) told) in
    let nullness = nullness_read a.0.nullness b.0.nullness (behind a r) (behind b q) place.1 in
    let size = expr_read a.0.length b.0.length (segments_text a.1 ++ 10 ∷ r) (segments_text b.1 ++ 10 ∷ q)
    first.length_is second.length_is
    (segments_end a.1 (10 ∷ r)) (segments_end b.1 (10 ∷ q)) (ap (drop 8) nullness.1) in
    let segments = all_segments_read a.1 b.1 r q first.segments second.segments size.1 in
    ((λ i. (record { place = place.0 i; nullness = nullness.0 i; length = size.0 i }, segments.0 i)), segments.1)
