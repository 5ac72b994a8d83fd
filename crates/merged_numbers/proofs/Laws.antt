-- What one or two states know is so of new symbols.
use Rattle.std.proofs.Common.{◌≡◌, ℕ, ℤ, ◌+ℤ◌, ◌≤ℤ◌, Bool, true, false, List, [], ◌∷◌, Some, FitsSigned, w32, refl, arith}
use Rattle.std.specs.Prelude.{if◌then◌else◌}
use Rattle.std.specs.List.{AllByRecursion}
use Rattle.std.proofs.lemmas.Int.{ints}
use Rattle.number_spans.specs.Spans.{Has}
use Rattle.symbolic_values.specs.declared.pairs.Key.{Key}
use Rattle.symbolic_values.specs.Pairing.{origin}
use Rattle.symbolic_values.specs.Worth.{behind_uses, worth_of_use}
use Rattle.merged_numbers.specs.declared.rule.Rule.{Rule}
use Rattle.merged_numbers.specs.Known.{Known, term_of, int32s, term_gap}
use Rattle.merged_numbers.specs.Merging.{merged_span, merged_gap, merged, own_span, own_gap, normed}
use Rattle.merged_numbers.specs.Meaning.{AllowsKnown, AreInt32, Keeps}
use Rattle.merged_numbers.proofs.TermLaws.{int32s_has, term_gap_so}
use Rattle.merged_numbers.proofs.MergeLaws.{span_first, span_second, gap_both}
use Rattle.merged_numbers.proofs.OutcomeLaws.{outcome_so}

-- ---- one side

own_has : (is_first : Bool) (side : Known) (number : ℕ → ℤ) (u : Key) → AllowsKnown side number → FitsSigned w32 (worth_of_use is_first number u)
    → Has (int32s side (term_of is_first u)) (worth_of_use is_first number u)
own_has true side number u allowed fits = int32s_has side number (term_of true u) allowed fits
own_has false side number u allowed fits = int32s_has side number (term_of false u) allowed fits

own_gap_so : (is_first : Bool) (side : Known) (number : ℕ → ℤ) (u v : Key) (k : ℤ) → AllowsKnown side number
    → term_gap side (term_of is_first u) (term_of is_first v) ≡ Some k → (worth_of_use is_first number u +ℤ k) ≤ℤ worth_of_use is_first number v
own_gap_so true side number u v k allowed is = term_gap_so side number (term_of true u) (term_of true v) k allowed is
own_gap_so false side number u v k allowed is = term_gap_so side number (term_of false u) (term_of false v) k allowed is

own_all : (side : Known) (number : ℕ → ℤ) (keys : List Key) → AllowsKnown side number → AreInt32 true number keys
    → AllByRecursion (λ u. Has (own_span side u) (worth_of_use true number u)) keys
own_all side number [] allowed fit = tt
own_all side number (u ∷ us) allowed fit = (own_has true side number u allowed fit.0, own_all side number us allowed fit.1)

-- What one state knows is so in the names of its own keys.
pub normed_keeps : (keys : List Key) (side : Known) → Keeps true keys side (normed keys side)
normed_keeps keys side number allowed fit =
    outcome_so (own_span side) (own_gap side) (worth_of_use true number) (behind_uses true number (origin ∷ keys)) keys (λ i. refl)
    (own_all side number keys allowed fit) (λ u v k is. own_gap_so true side number u v k allowed is)

-- ---- both sides

of_two : Bool → Known → Known → Known
of_two is_first a b = if is_first then a else b

merged_has : (rule : Rule) (is_first : Bool) (a b : Known) (number : ℕ → ℤ) (u : Key) → AllowsKnown (of_two is_first a b) number
    → FitsSigned w32 (worth_of_use is_first number u) → Has (merged_span rule a b u) (worth_of_use is_first number u)
unfolding of_two
merged_has rule true a b number u allowed fits =
    span_first rule (int32s a (term_of true u)) (int32s b (term_of false u)) (worth_of_use true number u) fits (own_has true a number u allowed fits)
merged_has rule false a b number u allowed fits =
    span_second rule (int32s a (term_of true u)) (int32s b (term_of false u)) (worth_of_use false number u) fits (own_has false b number u allowed fits)

merged_all : (rule : Rule) (is_first : Bool) (a b : Known) (number : ℕ → ℤ) (keys : List Key) → AllowsKnown (of_two is_first a b) number
    → AreInt32 is_first number keys → AllByRecursion (λ u. Has (merged_span rule a b u) (worth_of_use is_first number u)) keys
merged_all rule is_first a b number [] allowed fit = tt
merged_all rule is_first a b number (u ∷ us) allowed fit =
    (merged_has rule is_first a b number u allowed fit.0, merged_all rule is_first a b number us allowed fit.1)

below : (m n k l : ℤ) → (m +ℤ l) ≤ℤ n → k ≤ℤ l → (m +ℤ k) ≤ℤ n
below m n k l above less = omega (arith, ints, above, less)

merged_gap_so : (rule : Rule) (is_first : Bool) (a b : Known) (number : ℕ → ℤ) (u v : Key) (k : ℤ) → AllowsKnown (of_two is_first a b) number
    → merged_gap rule a b u v ≡ Some k → (worth_of_use is_first number u +ℤ k) ≤ℤ worth_of_use is_first number v
unfolding of_two
merged_gap_so rule true a b number u v k allowed is =
    let both = gap_both rule (term_gap a (term_of true u) (term_of true v)) (term_gap b (term_of false u) (term_of false v)) k is in
    below (worth_of_use true number u) (worth_of_use true number v) k both.0.amount (own_gap_so true a number u v both.0.amount allowed both.0.is) both.0.least
merged_gap_so rule false a b number u v k allowed is =
    let both = gap_both rule (term_gap a (term_of true u) (term_of true v)) (term_gap b (term_of false u) (term_of false v)) k is in
    below (worth_of_use false number u) (worth_of_use false number v) k both.1.amount (own_gap_so false b number u v both.1.amount allowed both.1.is) both.1.least

merged_so : (rule : Rule) (is_first : Bool) (keys : List Key) (a b : Known) → Keeps is_first keys (of_two is_first a b) (merged rule keys a b)
merged_so rule is_first keys a b number allowed fit =
    outcome_so (merged_span rule a b) (merged_gap rule a b) (worth_of_use is_first number) (behind_uses is_first number (origin ∷ keys)) keys (λ i. refl)
    (merged_all rule is_first a b number keys allowed fit) (λ u v k is. merged_gap_so rule is_first a b number u v k allowed is)

-- What the first state knows is so of both as one, and so is what the second knows.
pub merged_first : (rule : Rule) (keys : List Key) (a b : Known) → Keeps true keys a (merged rule keys a b)
unfolding of_two
merged_first rule keys a b = merged_so rule true keys a b

pub merged_second : (rule : Rule) (keys : List Key) (a b : Known) → Keeps false keys b (merged rule keys a b)
unfolding of_two
merged_second rule keys a b = merged_so rule false keys a b

pub ruleset merges = (merged_first, merged_second)
