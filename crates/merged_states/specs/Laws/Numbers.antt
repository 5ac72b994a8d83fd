-- What a state knows of numbers, as it is handed on for merging, is so wherever the state holds.
use Rattle.std.proofs.Common.{◌≡◌, ℕ, ◌+◌, ◌<◌, ◌≤◌, ℤ, pos, ◌≤ℤ◌, Some, length, slice_get, sym, ◌∙◌, subst, arith}
use Rattle.std.proofs.lemmas.Int.{ints}
use Rattle.std.proofs.lemmas.Option.{slice_get_within, get_or_from_slice_get}
use Rattle.std.proofs.lemmas.List.FromFn.{length-map-range_with_len, get_or-map-range_with_len}
use Rattle.merged_numbers.specs.Meaning.{AllowsKnown}
use Rattle.number_facts.specs.Ends.{span_at}
use Rattle.number_facts.specs.Facts.{Facts, range_at}
use Rattle.number_facts.specs.Laws.Allowing.{AllowsNumbers, span_has}
use Rattle.number_spans.specs.Spans.{Has}
use Rattle.number_spans.specs.declared.span.Span.{Span}
use Rattle.merged_states.specs.Parts.{numbers_known, spans_of}

zero_more : (n : ℕ) → 0 + n ≡ n
zero_more n = omega arith

pub spans_there : (facts : Facts) (s : ℕ) (r : Span) → slice_get (spans_of facts) s ≡ Some r
    → (s ≤ length facts.ranges) × (span_at facts s ≡ r)
spans_there facts s r is =
    let count : ℕ = length facts.ranges + 1 in
    let long : length (spans_of facts) ≡ count = length-map-range_with_len (span_at facts) 0 count in
    let within : s < length (spans_of facts) = slice_get_within (spans_of facts) s r is in
    let below : s < count = omega (arith, within, long) in (
      omega (arith, below),
      sym (get_or-map-range_with_len (span_at facts) 0 count s s r below (zero_more s))
          ∙ get_or_from_slice_get (spans_of facts) s r r is,
    )

pub numbers_allowed : (facts : Facts) (number : ℕ → ℤ) → AllowsNumbers facts number
    → AllowsKnown (numbers_known facts) number
numbers_allowed facts number allowed = record {
  spans = λ s r is. let there =
      spans_there facts s r is in subst (λ q. Has q (number s)) there.1 (span_has facts number s there.0 allowed);
  bounds = allowed.bounds;
}

between_zeros : (n : ℤ) → pos 0 ≤ℤ n → n ≤ℤ pos 0 → n ≡ pos 0
between_zeros n above below = omega (arith, ints, above, below)

-- Symbol 0 is the number 0.
pub zero_is : (facts : Facts) (number : ℕ → ℤ) → AllowsNumbers facts number → number 0 ≡ pos 0
unfolding range_at
zero_is facts number allowed = let own = allowed.ranges 0 (omega arith) in between_zeros (number 0) own.above own.below
