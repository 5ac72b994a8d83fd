-- What is included is so.
use Rattle.std.proofs.Common.{◌≡◌, ◌≢◌, ℕ, zero, suc, ◌+◌, ◌-◌, ◌<◌, ◌≤◌, ℤ, pos, ◌+ℤ◌, ◌-ℤ◌, ◌≤ℤ◌, Bool, true, false, ◌&&◌, int_le, List, [], ◌∷◌, length, get_or, slice_get, Option, Some, None, FitsSigned, w32, option_map, drop, drop-cons, add-one, refl, sym, ap, ◌∙◌, arith}
use Rattle.std.specs.List.{list_all}
use Rattle.std.proofs.lemmas.Bool.{and_parts}
use Rattle.std.proofs.lemmas.Int.{ints}
use Rattle.std.proofs.lemmas.List.{drop_all}
use Rattle.frame_names.specs.declared.slots.Bound.{Bound}
use Rattle.interval_domain.specs.Interval.{Interval, one}
use Rattle.pentagon_domain.specs.declared.bound_row.BoundRow.{BoundRow}
use Rattle.pentagon_domain.specs.Gaps as by_bounds
use Rattle.number_spans.specs.Spans.{Has, moved_hole}
use Rattle.number_spans.specs.Stored as ranges
use Rattle.number_spans.specs.declared.span.Span.{Span}
use Rattle.number_spans.proofs.ComparingLaws.{excluded_apart}
use Rattle.symbolic_values.specs.Worth as exprs
use Rattle.merged_numbers.specs.declared.term.Term.{Term}
use Rattle.merged_numbers.specs.Known.{Known, gap, int32s, term, worth}
use Rattle.domain_api.specs.Order.{gap_is_at_least}
use Rattle.merged_numbers.specs.Included.{AreValues, Includes, is_within, all_within, behind_binding, bound_term, follows, included, lacks, lies_above, lies_within, term_at, value_of, worth_or_zero}
use Rattle.merged_numbers.specs.Meaning.{AllowsKnown}
use Rattle.merged_numbers.proofs.TermLaws.{gap_so, int32s_has}

-- ---- ranges

lacks_apart : (r : Span) (hole : Option ℤ) (n k : ℤ) → Has r n → lacks r (moved_hole hole k) ≡ true → hole ≢ Some (n -ℤ k)
lacks_apart r None n k has lack = λ is. grind arith
lacks_apart r (Some h) n k has lack = λ is. excluded_apart r (h +ℤ k) n has lack (omega (arith, ints, same h (n -ℤ k) is))
  where
    same : (a b : ℤ) → Some a ≡ Some b → a ≡ b
    same a b is = cc

le_of : (m n : ℤ) → int_le m n ≡ true → m ≤ℤ n
le_of m n e = omega (arith, ints, e)

within_allows : (r : Span) (k n : ℤ) (range : Interval) → lies_within r k range ≡ true → Has r n → ranges.Allows range (n -ℤ k)
unfolding lies_within
within_allows r k n range inside has =
    let parts = and_parts (int_le (range.lo +ℤ k) r.lo && int_le r.hi (range.hi +ℤ k)) (lacks r (moved_hole range.hole k)) inside in
    let ends = and_parts (int_le (range.lo +ℤ k) r.lo) (int_le r.hi (range.hi +ℤ k)) parts.0 in
    let low = le_of (range.lo +ℤ k) r.lo ends.0 in
    let high = le_of r.hi (range.hi +ℤ k) ends.1 in
    record {
      above = omega (arith, ints, low, has.above);
      below = omega (arith, ints, high, has.below);
      no_hole = lacks_apart r range.hole n k has parts.1;
    }

one_within : (a : Known) (number : ℕ → ℤ) (x : Bound) (range : Interval) → AllowsKnown a number → FitsSigned w32 (exprs.worth number x.value)
    → lies_within (int32s a (value_of x)) x.offset range ≡ true → ranges.Allows range (worth number (bound_term x))
one_within a number x range allowed fits inside =
    let allows = within_allows (int32s a (value_of x)) x.offset (worth number (value_of x)) range inside (int32s_has a number (value_of x) allowed fits) in
    let same : ((number x.value.sym +ℤ x.value.k) -ℤ x.offset) ≡ (number x.value.sym +ℤ (x.value.k -ℤ x.offset)) = omega (arith, ints) in
    rw same at allows

all_allow : (a : Known) (number : ℕ → ℤ) (binding : List Bound) (rs : List Interval) → AllowsKnown a number → AreValues number binding
    → all_within a binding rs ≡ true → (i : ℕ) → i < length rs → ranges.Allows (get_or rs i (one (pos 0))) (behind_binding binding number (suc i))
all_allow a number [] [] allowed fit all i inside = absurd (omega (arith, inside))
all_allow a number [] (range ∷ rs) allowed fit all i inside = absurd cc
all_allow a number (x ∷ xs) [] allowed fit all i inside = absurd cc
all_allow a number (x ∷ xs) (range ∷ rs) allowed fit all zero inside =
    one_within a number x range allowed fit.0 (and_parts (lies_within (int32s a (value_of x)) x.offset range) _ all).0
all_allow a number (x ∷ xs) (range ∷ rs) allowed fit all (suc i) inside =
    all_allow a number xs rs allowed fit.1 (and_parts (lies_within (int32s a (value_of x)) x.offset range) _ all).1 i (omega (arith, inside))

-- ---- bounds

reached : (m n a b k : ℤ) (known : Option ℤ) → ((l : ℤ) → known ≡ Some l → (m +ℤ l) ≤ℤ n) → gap_is_at_least known ((a +ℤ k) -ℤ b) ≡ true
    → ((m +ℤ a) +ℤ k) ≤ℤ (n +ℤ b)
reached m n a b k None so is = absurd cc
reached m n a b k (Some l) so is = let above = so l refl in let least = le_of ((a +ℤ k) -ℤ b) l is in omega (arith, ints, above, least)

above_so : (a : Known) (number : ℕ → ℤ) (x y : Option Term) (k : ℤ) → AllowsKnown a number → lies_above a x y k ≡ true
    → (worth_or_zero number x +ℤ k) ≤ℤ worth_or_zero number y
above_so a number None y k allowed is = absurd cc
above_so a number (Some x) None k allowed is = absurd cc
above_so a number (Some x) (Some y) k allowed is =
    reached (number x.sym) (number y.sym) x.k y.k k (gap a x.sym y.sym) (λ l told. gap_so a number x.sym y.sym l allowed told) is

all_above : (a : Known) (number : ℕ → ℤ) (binding : List Bound) (rows : List BoundRow) → AllowsKnown a number → list_all (follows a binding) rows ≡ true
    → by_bounds.Allows rows (behind_binding binding number)
all_above a number binding [] allowed all = tt
all_above a number binding (row ∷ rows) allowed all =
    let parts = and_parts (follows a binding row) (list_all (follows a binding) rows) all in
    (above_so a number (term_at binding row.s) (term_at binding row.t) row.k allowed parts.0, all_above a number binding rows allowed parts.1)

-- What is included is so of what symbols are bound to.
pub included_so : (a : Known) (binding : List Bound) (rs : List Interval) (rows : List BoundRow) (answer : Bool) → answer ≡ included a binding rs rows
    → Includes a binding rs rows answer
included_so a binding rs rows answer told number is allowed fit =
    let parts = and_parts (all_within a binding rs) (list_all (follows a binding) rows) (sym told ∙ is) in
    record { ranges = all_allow a number binding rs allowed fit parts.0; bounds = all_above a number binding rows allowed parts.1 }

-- ---- the code

pub term_behind : (binding : List Bound) (s : ℕ) → s ≢ 0 → term_at binding s ≡ option_map bound_term (slice_get binding (s - 1))
term_behind binding zero other = elim (other refl) [ ]
term_behind binding (suc s) other = let back : s ≡ suc s - 1 = omega arith in ap (λ k. option_map bound_term (slice_get binding k)) back

pub term_zero : (binding : List Bound) (s : ℕ) → s ≡ 0 → term_at binding s ≡ Some (term 0 (pos 0))
term_zero binding zero is = refl
term_zero binding (suc s) is = absurd (omega (arith, is))

pub ruleset terms = (term_behind, term_zero)

within_split : (a : Known) (binding : List Bound) (rs : List Interval) (i : ℕ) (d : Bound) (e : Interval) → i < length binding → i < length rs
    → all_within a (drop i binding) (drop i rs) ≡ (is_within a (get_or binding i d) (get_or rs i e) && all_within a (drop (i + 1) binding) (drop (i + 1) rs))
within_split a binding rs i d e inside also =
    let first : drop i binding ≡ get_or binding i d ∷ drop (suc i) binding = drop-cons binding i d inside in
    let second : drop i rs ≡ get_or rs i e ∷ drop (suc i) rs = drop-cons rs i e also in
    rw (add-one, first, second) refl

pub within_more : (a : Known) (binding : List Bound) (rs : List Interval) (i : ℕ) (d : Bound) (e : Interval) (whole : Bool) → length binding ≡ length rs → i < length rs
    → is_within a (get_or binding i d) (get_or rs i e) ≡ true → all_within a (drop i binding) (drop i rs) ≡ whole
    → all_within a (drop (i + 1) binding) (drop (i + 1) rs) ≡ whole
within_more a binding rs i d e whole same inside here so_far =
    let split = within_split a binding rs i d e (omega (arith, same, inside)) inside in
    rw here at (rw split at so_far)

pub within_fails : (a : Known) (binding : List Bound) (rs : List Interval) (i : ℕ) (d : Bound) (e : Interval) (whole : Bool) → length binding ≡ length rs → i < length rs
    → is_within a (get_or binding i d) (get_or rs i e) ≡ false → all_within a (drop i binding) (drop i rs) ≡ whole → false ≡ whole
within_fails a binding rs i d e whole same inside here so_far =
    let split = within_split a binding rs i d e (omega (arith, same, inside)) inside in
    rw here at (rw split at so_far)

pub within_end : (a : Known) (binding : List Bound) (rs : List Interval) (i : ℕ) (whole : Bool) → length binding ≡ length rs → length rs ≤ i
    → all_within a (drop i binding) (drop i rs) ≡ whole → true ≡ whole
within_end a binding rs i whole same past so_far =
    let none : drop i binding ≡ [] = drop_all i binding (omega (arith, same, past)) in
    let also : drop i rs ≡ [] = drop_all i rs past in
    rw (none, also) at so_far

pub lengths_differ : (a : Known) (binding : List Bound) (rs : List Interval) → length binding ≢ length rs → false ≡ all_within a binding rs
lengths_differ a [] [] other = elim (other refl) [ ]
lengths_differ a [] (r ∷ rs) other = refl
lengths_differ a (x ∷ xs) [] other = refl
lengths_differ a (x ∷ xs) (r ∷ rs) other =
    let rest = lengths_differ a xs rs (λ e. other (ap suc e)) in
    rw (sym rest) (sym (and_false (is_within a x r)))
  where
    and_false : (b : Bool) → (b && false) ≡ false
    and_false true = refl
    and_false false = refl

pub ruleset all = (within_more, within_fails, within_end, lengths_differ)

-- ---- each of a list

each_split : (p : BoundRow → Bool) (rows : List BoundRow) (i : ℕ) (d : BoundRow) → i < length rows
    → list_all p (drop i rows) ≡ (p (get_or rows i d) && list_all p (drop (i + 1) rows))
each_split p rows i d inside =
    let split : drop i rows ≡ get_or rows i d ∷ drop (suc i) rows = drop-cons rows i d inside in
    rw (add-one, split) refl

pub follows_more : (a : Known) (binding : List Bound) (rows : List BoundRow) (i : ℕ) (d : BoundRow) (whole : Bool) → i < length rows
    → follows a binding (get_or rows i d) ≡ true → list_all (follows a binding) (drop i rows) ≡ whole
    → list_all (follows a binding) (drop (i + 1) rows) ≡ whole
follows_more a binding rows i d whole inside here so_far = rw here at (rw (each_split (follows a binding) rows i d inside) at so_far)

pub follows_fails : (a : Known) (binding : List Bound) (rows : List BoundRow) (i : ℕ) (d : BoundRow) (whole : Bool) → i < length rows
    → follows a binding (get_or rows i d) ≡ false → list_all (follows a binding) (drop i rows) ≡ whole → false ≡ whole
follows_fails a binding rows i d whole inside here so_far = rw here at (rw (each_split (follows a binding) rows i d inside) at so_far)

pub follows_end : (a : Known) (binding : List Bound) (rows : List BoundRow) (i : ℕ) (whole : Bool) → length rows ≤ i
    → list_all (follows a binding) (drop i rows) ≡ whole → true ≡ whole
follows_end a binding rows i whole past so_far = let none : drop i rows ≡ [] = drop_all i rows past in rw none at so_far

pub ruleset each = (follows_more, follows_fails, follows_end)
