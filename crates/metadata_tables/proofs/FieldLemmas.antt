-- The first fault of fields.
use Rattle.std.proofs.Common.{◌≡◌, ℕ, zero, suc, ◌+◌, ◌-◌, ◌*◌, ◌/◌, ◌≤◌, ◌<◌, List, [], ◌∷◌, length, get_or, drop, replicate, Option, Some, None, refl, sym, ap, ◌∙◌, arith, add-one, drop-cons, inl, inr, length-drop}
use Rattle.std.proofs.Math.Nat.{div-mul-le_self, lt-div-mul-add, lt_of_mul-lt-mul_right}
use Rattle.std.proofs.lemmas.Bool.{cases_lt, le-leb, lt-leb}
use Rattle.std.proofs.lemmas.List.{nil_from_length}
use Rattle.cc_base.specs.Tests.{first_of}
use Rattle.metadata_tables.specs.declared.fault.TableFault.{TableFault}
use Rattle.metadata_tables.specs.Tests.{fields}

-- A field that does not pass the end.
pub fields-fits : (end : ℕ) (fault : ℕ → TableFault) (at width : ℕ) (widths : List ℕ) → at + width ≤ end
    → first_of (fields end fault at (width ∷ widths)) ≡ first_of (fields end fault (at + width) widths)
unfolding fields first_of
fields-fits end fault at width widths h = rw (le-leb (at + width) end h) refl

-- A field that passes the end.
pub fields-short : (end : ℕ) (fault : ℕ → TableFault) (at width : ℕ) (widths : List ℕ) → end < at + width
    → first_of (fields end fault at (width ∷ widths)) ≡ Some (fault at)
unfolding fields first_of
fields-short end fault at width widths h = rw (lt-leb (at + width) end h) refl

-- No field.
pub fields-none : (end : ℕ) (fault : ℕ → TableFault) (at : ℕ) → first_of (fields end fault at []) ≡ None
unfolding fields first_of
fields-none end fault at = refl

-- A field whose test is passed.
pub field-fits : (end : ℕ) (fault : ℕ → TableFault) (at width : ℕ) → first_of (fields end fault at (width ∷ [])) ≡ None → at + width ≤ end
field-fits end fault at width e =
    elim (cases_lt end (at + width)) [
      | inl past ↦
          let failed = fields-short end fault at width [] past in
          absurd cc
      | inr fit ↦ fit
    ]

-- Fields of one width that all fit.
pub run-fits : (count end : ℕ) (fault : ℕ → TableFault) (at width : ℕ) → at + count * width ≤ end
    → first_of (fields end fault at (replicate count width)) ≡ None
run-fits zero end fault at width h = fields-none end fault at
run-fits (suc count) end fault at width h =
    let one : at + width ≤ end = omega (arith) in
    let others : at + width + count * width ≤ end = omega arith in
    fields-fits end fault at width (replicate count width) one ∙ run-fits count end fault (at + width) width others

-- The first of them that passes the end.
pub run-short : (count room end : ℕ) (fault : ℕ → TableFault) (at width : ℕ) → room < count → at + room * width ≤ end → end < at + room * width + width
    → first_of (fields end fault at (replicate count width)) ≡ Some (fault (at + room * width))
run-short zero room end fault at width h fit short = absurd (omega arith)
run-short (suc count) zero end fault at width h fit short =
    let here : at ≡ at + 0 * width = omega arith in
    let past : end < at + width = omega arith in
    fields-short end fault at width (replicate count width) past ∙ ap (λ (place : ℕ). Some (fault place)) here
run-short (suc count) (suc room) end fault at width h fit short =
    let here : (at + width) + room * width ≡ at + suc room * width = omega arith in
    let one : at + width ≤ end = omega arith in
    fields-fits end fault at width (replicate count width) one
    ∙ run-short count room end fault (at + width) width (omega arith) (omega arith) (omega arith)
    ∙ ap (λ (place : ℕ). Some (fault place)) here

-- The first that passes the end is after as many as there is room for.
pub run-room : (count end : ℕ) (fault : ℕ → TableFault) (at width : ℕ) → at ≤ end → end - at < count * width
    → first_of (fields end fault at (replicate count width)) ≡ Some (fault (at + (end - at) / width * width))
run-room count end fault at zero h needed = absurd (omega arith)
run-room count end fault at (suc w) h needed =
    let width : ℕ = suc w in
    let fit : (end - at) / width * width ≤ end - at = div-mul-le_self (end - at) width in
    let next : end - at < (end - at) / width * width + width = lt-div-mul-add (omega arith) in
    let fewer : (end - at) / width < count = lt_of_mul-lt-mul_right width (omega arith) in
    run-short count ((end - at) / width) end fault at width fewer (omega arith) (omega arith)

-- Where no field passes the end, all of them stand before it.
pub run-end : (count end : ℕ) (fault : ℕ → TableFault) (at width : ℕ) → at ≤ end
    → first_of (fields end fault at (replicate count width)) ≡ None → at + count * width ≤ end
run-end zero end fault at width h e = omega arith
run-end (suc count) end fault at width h e =
    let all : at + width + count * width ≤ end =
    elim (cases_lt end (at + width)) [
      | inl past ↦
          let failed = fields-short end fault at width (replicate count width) past in
          absurd cc
      | inr fit ↦ run-end count end fault (at + width) width fit (sym (fields-fits end fault at width (replicate count width) fit) ∙ e)
    ] in
    omega arith

-- The fields from a number on, of which the first fits.
pub fields-next : (end : ℕ) (fault : ℕ → TableFault) (at : ℕ) (widths : List ℕ) (i width : ℕ) (all : Option TableFault)
    → i < length widths → width ≡ get_or widths i 0 → at + width ≤ end
    → first_of (fields end fault at (drop i widths)) ≡ all → first_of (fields end fault (at + width) (drop (i + 1) widths)) ≡ all
fields-next end fault at widths i width all within same fit so_far =
    let split : drop i widths ≡ width ∷ drop (i + 1) widths = rw (add-one, same) (drop-cons widths i 0 within) in
    sym (fields-fits end fault at width (drop (i + 1) widths) fit)
    ∙ ap (λ (ws : List ℕ). first_of (fields end fault at ws)) (sym split) ∙ so_far

-- The fields from a number on, of which the first passes the end.
pub fields-stop : (end : ℕ) (fault : ℕ → TableFault) (at : ℕ) (widths : List ℕ) (i width : ℕ) (all : Option TableFault)
    → i < length widths → width ≡ get_or widths i 0 → end < at + width
    → first_of (fields end fault at (drop i widths)) ≡ all → all ≡ Some (fault at)
fields-stop end fault at widths i width all within same short so_far =
    let split : drop i widths ≡ width ∷ drop (i + 1) widths = rw (add-one, same) (drop-cons widths i 0 within) in
    sym so_far ∙ ap (λ (ws : List ℕ). first_of (fields end fault at ws)) split
    ∙ fields-short end fault at width (drop (i + 1) widths) short

-- No field is left.
pub fields-done : (end : ℕ) (fault : ℕ → TableFault) (at : ℕ) (widths : List ℕ) (i : ℕ) (all : Option TableFault)
    → length widths ≤ i → first_of (fields end fault at (drop i widths)) ≡ all → all ≡ None
fields-done end fault at widths i all past so_far =
    sym so_far ∙ ap (λ (ws : List ℕ). first_of (fields end fault at ws)) (nil_from_length (drop i widths) (omega (arith, length-drop i widths))) ∙ fields-none end fault at
