-- Each range is read back from its text, and so is the line of a symbol.
use Rattle.std.proofs.Common.{◌≡◌, ℕ, ◌==◌, ℤ, ◌≤ℤ◌, Bool, true, false, ◌&&◌, List, [], ◌∷◌, ◌++◌, Option, Some, None}
use Rattle.std.proofs.Common.{refl, arith, codes, if◌then◌else◌, int_le, int_lt, ◌||◌}
use Rattle.std.specs.Fmt.{signed_decimal}
use Rattle.std.specs.Ordering.{int_eq}
use Rattle.std.proofs.lemmas.Bool.{true≢false}
use Rattle.std.proofs.lemmas.Int.{ints}
use Rattle.interval_domain.specs.Interval.{Interval, between, interval, lost, without}
use Rattle.number_spans.specs.Stored.{IsInner, IsNarrow, range_without}
use Rattle.invariant_text.specs.NumberTexts.{hole_text, range_text}
use Rattle.invariant_text.specs.SymbolLines.{symbol_line}
use Rattle.invariant_text.proofs.LineReading.{symbol_parts}
use Rattle.invariant_text.proofs.RangeReading.{EndsRange, IsSmallHole, begins_hole, hole_no_digit, int32_small}
use Rattle.invariant_text.proofs.RangeReading.{range_parts, small_hole}
use Rattle.invariant_reader.specs.Prefixes.{behind}
use Rattle.invariant_reader.specs.Ranges.{read_hole, read_range}
use Rattle.invariant_reader.specs.Symbols.{read_symbol_line}
use Rattle.invariant_reader.proofs.NumberReads.{digits_skipped, signed_reads}

-- ---- ranges

neither : (space letter : Bool) (o : Option (List ℕ)) → space && letter ≡ false
    → (if space then (if letter then o else None) else None) ≡ None
neither true true o none = absurd (true≢false none)
neither true false o none = refl
neither false letter o none = refl

one_alone : (space : Bool) (o : Option (List ℕ)) → (if space then o else o) ≡ o
one_alone true o = refl
one_alone false o = refl

no_hole : (text : List ℕ) → begins_hole text ≡ false → behind (codes " not ") text ≡ None
no_hole [] none = refl
no_hole (a ∷ []) none = one_alone (a == 32) None
no_hole (a ∷ b ∷ text) none = neither (a == 32) (b == 110) (behind (codes "ot ") text) none

hole_reads : (hole : Option ℤ) (rest : List ℕ) → IsSmallHole hole → EndsRange rest
    → read_hole (hole_text hole ++ rest) ≡ Some (hole, rest)
unfolding read_hole
hole_reads None rest small ends = rw (no_hole rest ends.no_hole)
hole_reads (Some hole) rest small ends = rw (signed_reads hole rest small ends.no_digit)

-- A hole between the ends is kept.
tested_so : (r x y z : Interval) (a b c d e : Bool) → a ≡ false → b ≡ false → c ≡ false → d ≡ false → e ≡ false
    → (if a || b then Some r else (if c then None else Some (if d then x else (if e then y else z)))) ≡ Some z
tested_so r x y z a b c d e none_a none_b none_c none_d none_e = rw (none_a, none_b, none_c, none_d, none_e) refl

ordered_le : (lo hi : ℤ) → lo ≤ℤ hi → int_le lo hi ≡ true
ordered_le lo hi ordered = grind (arith, ints, ordered)

kept : (lo hi : ℤ) (hole : Option ℤ) → lo ≤ℤ hi → IsInner lo hi hole
    → range_without lo hi hole ≡ Some (interval lo hi hole)
unfolding range_without without lost
kept lo hi None ordered inner = rw (ordered_le lo hi ordered)
kept lo hi (Some hole) ordered inner =
    let above = inner.0 in
    let below = inner.1 in
    rw (ordered_le lo hi ordered) (tested_so (between lo hi) _ _ (interval lo hi (Some hole)) (int_lt hole lo)
    (int_lt hi hole) (int_eq lo hi) (int_eq hole lo) (int_eq hole hi) (grind (arith, ints, above, below))
    (grind (arith, ints, above, below)) (grind (arith, ints, above, below)) (grind (arith, ints, above, below))
    (grind (arith, ints, above, below)))

pub range_reads : (range : Interval) (rest : List ℕ) → IsNarrow range → EndsRange rest
    → read_range (range_text range ++ rest) ≡ Some (range, rest)
unfolding read_range
range_reads range rest narrow ends =
    let lo = int32_small range.lo narrow.least (omega (arith, ints, narrow.ordered, narrow.greatest)) in
    let hi = int32_small range.hi (omega (arith, ints, narrow.least, narrow.ordered)) narrow.greatest in
    let greatest = signed_decimal range.hi ++ (hole_text range.hole ++ rest) in
    rw (
      range_parts range rest,
      signed_reads range.lo (46 ∷ 46 ∷ greatest) lo refl,
      signed_reads range.hi (hole_text range.hole ++ rest) hi (hole_no_digit range.hole rest ends.no_digit),
      hole_reads range.hole rest (small_hole range.lo range.hi range.hole range refl narrow) ends,
      kept range.lo range.hi range.hole narrow.ordered narrow.inner,
    )

-- ---- the lines of symbols

pub symbol_line_reads : (n : ℕ) (range : Interval) (rest : List ℕ) → IsNarrow range
    → read_symbol_line (symbol_line n range ++ rest) ≡ Some (range, rest)
unfolding read_symbol_line
symbol_line_reads n range rest narrow =
    rw (
      symbol_parts n range rest,
      digits_skipped n (codes " in " ++ (range_text range ++ 10 ∷ rest)) refl,
      range_reads range (10 ∷ rest) narrow (record { no_digit = refl; no_hole = refl }),
    )
