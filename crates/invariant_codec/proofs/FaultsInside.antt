-- The offset that a fault names is one of the bytes, or their end.
use Rattle.std.proofs.Common.{◌≡◌, ℕ, zero, suc, ◌+◌, ◌≤◌, Bool, true, false, List, [], ◌∷◌, ◌++◌, length}
use Rattle.std.proofs.Common.{Option, Some, None, refl, sym, ◌∙◌, arith}
use Rattle.std.specs.Prelude.{ℤ, IfSome, nat_le, ◌==◌}
use Rattle.std.proofs.lemmas.Bool.{leb-true}
use Rattle.std.proofs.lemmas.Option.{none-some}
use Rattle.cc_base.specs.Tests.{first_of, must}
use Rattle.cc_base.proofs.TestLemmas.{first_of-append_none, first_of-append_some, first_of-nil, first_of-one, must_hold}
use Rattle.cc_base.proofs.TestLemmas.{none_before, none_behind, none_here}
use Rattle.invariant_codec.specs.Formats.{Format, choice, each, in_order, comes_next, last_part, only, tested}
use Rattle.invariant_codec.specs.Numbers.{byte, expr, flag, hole, hole_where, int32, int64, name, near_expr, number, proper_name, range, ranges}
use Rattle.invariant_codec.specs.Parses.{field, many}
use Rattle.invariant_codec.specs.Segments.{array, array_place, arrays, bound, first_bound, next_bound, next_segment, nullness_format, segment, segments}
use Rattle.invariant_codec.specs.States.{known, known_where, state, states, states_file}
use Rattle.invariant_codec.specs.Symbols.{address, def, def_of, def_with_two, definition, definition_precedes, definitions, null_test, number_in, other_symbol, pair, pairs, reference_in, row, row_precedes, rows, var, var_of, variables}
use Rattle.invariant_codec.specs.declared.fault.InvFault.{InvFault}
use Rattle.invariant_codec.specs.declared.fault.InvFault.TheVariants.{Form, Short}
use Rattle.domain_api.specs.declared.expr.Expr.{Expr}
use Rattle.alias_facts.specs.PairsOf.{comes_before}
use Rattle.frame_names.specs.declared.var.Var.TheVariants as vars
use Rattle.invariant_codec.specs.Invariants.{fault_at, first_states_fault}

-- Each fault of tests is inside, and where none fails, so is what stands behind them.
record IsInside (bytes : List ℕ) (tests : List (Option InvFault)) (next : ℕ) : Type 0 where
  fault : (f : InvFault) → first_of tests ≡ Some f → fault_at f ≤ length bytes
  next_low : first_of tests ≡ None → next ≤ length bytes

-- Whatever is read from an offset inside.
abbrev AreInside : {X : Type 0} → List ℕ → Format X → Type 0
AreInside bytes format = (at : ℕ) → at ≤ length bytes
    → IsInside bytes (format.read bytes at).tests (format.read bytes at).next

-- ---- tests

one_fault : (bytes : List ℕ) (holds : Bool) (f g : InvFault) → fault_at f ≤ length bytes
    → first_of (must holds f ∷ []) ≡ Some g → fault_at g ≤ length bytes
one_fault bytes true f g low is = absurd (none-some g (sym (first_of-one None) ∙ is))
one_fault bytes false f g low is =
    let same : f ≡ g = some_same f g (sym (first_of-one (Some f)) ∙ is) in
    rw (← same) low
  where
    some_same : (f g : InvFault) → Some f ≡ Some g → f ≡ g
    some_same f g same = cc

-- The fault of tests and others is one of either.
either_fault : (bytes : List ℕ) (tests others : List (Option InvFault)) (f : InvFault)
    → ((g : InvFault) → first_of tests ≡ Some g → fault_at g ≤ length bytes)
    → (first_of tests ≡ None → (g : InvFault) → first_of others ≡ Some g → fault_at g ≤ length bytes)
    → first_of (tests ++ others) ≡ Some f → fault_at f ≤ length bytes
either_fault bytes tests others f one two is = by (first_of tests) refl
  where
    by : (found : Option InvFault) → first_of tests ≡ found → fault_at f ≤ length bytes
    by None none = two none f (sym (first_of-append_none tests others none) ∙ is)
    by (Some g) some = one f (some ∙ sym (first_of-append_some tests others g some) ∙ is)

-- ---- ways to put formats together

field_inside : (bytes : List ℕ) (at width : ℕ) → at ≤ length bytes → IsInside bytes (field bytes at width ∷ []) (at + width)
unfolding field
field_inside bytes at width low = record {
  fault = λ f is. one_fault bytes (nat_le (at + width) (length bytes)) (Short at) f low is;
  next_low = λ none. leb-true _ _ ((must_hold _ _).0 (none_here _ [] none));
}

nothing_inside : (bytes : List ℕ) (at : ℕ) → at ≤ length bytes → IsInside bytes [] at
nothing_inside bytes at low = record { fault = λ f is. absurd (none-some f (sym first_of-nil ∙ is)); next_low = λ none. low }

-- A test of what was read, whose fault stands at its first byte.
tested_part : {bytes : List ℕ} {tests : List (Option InvFault)} {next at : ℕ} (holds : Bool) → IsInside bytes tests next
    → at ≤ length bytes → IsInside bytes (tests ++ must holds (Form at) ∷ []) next
tested_part {bytes} {tests} {next} {at} holds its low = record {
  fault = λ f is. either_fault bytes tests _ f its.fault (λ none g. one_fault bytes holds (Form at) g low) is;
  next_low = λ none. its.next_low (none_before tests _ none);
}

-- One part, and then others.
next_part : {bytes : List ℕ} {tests others : List (Option InvFault)} {next last : ℕ} → IsInside bytes tests next
    → (next ≤ length bytes → IsInside bytes others last) → IsInside bytes (tests ++ others) last
next_part {bytes} {tests} {others} its rest = record {
  fault = λ f is. either_fault bytes tests others f its.fault (λ none. (rest (its.next_low none)).fault) is;
  next_low = λ none. (rest (its.next_low (none_before tests others none))).next_low (none_behind tests others none);
}

many_inside : {X : Type 0} (bytes : List ℕ) (item : List X → Format X) (before : List X) (count : ℕ)
    → ((xs : List X) → AreInside bytes (item xs)) → (at : ℕ) → at ≤ length bytes
    → IsInside bytes (many (λ xs. (item xs).read bytes) before count at).tests (many (λ xs. (item xs).read bytes) before count at).next
unfolding many
many_inside bytes item before zero insides at low = nothing_inside bytes at low
many_inside bytes item before (suc count) insides at low =
    let first = (item before).read bytes at in
    next_part (insides before at low) (λ l. many_inside bytes item (before ++ first.value ∷ []) count insides first.next l)

each_inside : {X : Type 0} (bytes : List ℕ) (item : Format X) → AreInside bytes item → (count : ℕ) → AreInside bytes (each item count)
each_inside bytes item inside count at low = many_inside bytes (λ before. item) [] count (λ xs. inside) at low

order_inside : {X : Type 0} (bytes : List ℕ) (precedes : X → X → Bool) (item : Format X) → AreInside bytes item → (count : ℕ)
    → AreInside bytes (in_order precedes item count)
order_inside bytes precedes item inside count at low =
    many_inside bytes (λ before. tested (comes_next precedes before) item) [] count (λ xs at l. tested_part _ (inside at l) l) at low

-- ---- numbers, expressions and ranges

byte_inside : (bytes : List ℕ) → AreInside bytes byte
unfolding byte
byte_inside bytes at low = field_inside bytes at 1 low

number_inside : (bytes : List ℕ) (width : ℕ) → AreInside bytes (number width)
unfolding number
number_inside bytes width at low = field_inside bytes at width low

int32_inside : (bytes : List ℕ) → AreInside bytes int32
unfolding int32
int32_inside bytes at low = number_inside bytes 4 at low

int64_inside : (bytes : List ℕ) → AreInside bytes int64
unfolding int64
int64_inside bytes at low = number_inside bytes 8 at low

flag_inside : (bytes : List ℕ) → AreInside bytes flag
unfolding flag
flag_inside bytes at low = tested_part _ (byte_inside bytes at low) low

name_inside : (bytes : List ℕ) (count : ℕ) → AreInside bytes (name count)
unfolding name
name_inside bytes count at low = tested_part _ (number_inside bytes 2 at low) low

proper_inside : (bytes : List ℕ) (count : ℕ) → AreInside bytes (proper_name count)
unfolding proper_name
proper_inside bytes count at low = tested_part _ (number_inside bytes 2 at low) low

expr_inside : (bytes : List ℕ) (symbols : ℕ) → AreInside bytes (expr symbols)
unfolding expr
expr_inside bytes symbols at low = next_part (name_inside bytes symbols at low) (λ l. int64_inside bytes _ l)

near_inside : (bytes : List ℕ) (symbols : ℕ) → AreInside bytes (near_expr symbols)
unfolding near_expr
near_inside bytes symbols at low = next_part (name_inside bytes symbols at low) (λ l. tested_part _ (int64_inside bytes _ l) l)

where_inside : (bytes : List ℕ) (lo hi : ℤ) (is : Bool) → AreInside bytes (hole_where lo hi is)
where_inside bytes lo hi true at low = tested_part _ (int32_inside bytes at low) low
where_inside bytes lo hi false at low = nothing_inside bytes at low

hole_inside : (bytes : List ℕ) (lo hi : ℤ) → AreInside bytes (hole lo hi)
unfolding hole
hole_inside bytes lo hi at low = next_part (flag_inside bytes at low) (λ l. where_inside bytes lo hi _ _ l)

range_inside : (bytes : List ℕ) → AreInside bytes range
unfolding range
range_inside bytes at low =
    next_part (int32_inside bytes at low) (λ l. next_part (tested_part _ (int32_inside bytes _ l) l) (λ l. hole_inside bytes _ _ _ l))

ranges_inside : (bytes : List ℕ) → AreInside bytes ranges
unfolding ranges
ranges_inside bytes at low =
    next_part (number_inside bytes 2 at low) (λ l. each_inside bytes range (range_inside bytes) _ _ l)

-- ---- references

bound_inside : (bytes : List ℕ) (symbols : ℕ) → AreInside bytes (bound symbols)
unfolding bound
bound_inside bytes symbols at low =
    next_part (tested_part _ (byte_inside bytes at low) low) (λ l. each_inside bytes (expr symbols) (expr_inside bytes symbols) _ _ l)

segment_inside : (bytes : List ℕ) (symbols : ℕ) (length_is : Expr) (is_last : Bool) → AreInside bytes (segment symbols length_is is_last)
unfolding segment next_bound
segment_inside bytes symbols length_is is_last at low =
    next_part (range_inside bytes at low)
    (λ l. next_part (flag_inside bytes _ l) (λ l. tested_part _ (bound_inside bytes symbols _ l) l))

segments_inside : (bytes : List ℕ) (symbols : ℕ) (length_is : Expr) → AreInside bytes (segments symbols length_is)
unfolding segments first_bound
segments_inside bytes symbols length_is at low =
    next_part (tested_part _ (byte_inside bytes at low) low)
    (λ l. next_part (tested_part _ (bound_inside bytes symbols _ l) l)
    (λ l. many_inside bytes (next_segment symbols length_is _) [] _ (λ before. segment_inside bytes symbols length_is _) _ l))

array_inside : (bytes : List ℕ) (symbols : ℕ) → AreInside bytes (array symbols)
unfolding array array_place nullness_format
array_inside bytes symbols at low =
    next_part (tested_part _ (byte_inside bytes at low) low)
    (λ l. next_part (tested_part _ (byte_inside bytes _ l) l)
    (λ l. next_part (near_inside bytes symbols _ l) (λ l. segments_inside bytes symbols _ _ l)))

arrays_inside : (bytes : List ℕ) (symbols : ℕ) → AreInside bytes (arrays symbols)
unfolding arrays
arrays_inside bytes symbols at low =
    next_part (number_inside bytes 2 at low) (λ l. each_inside bytes (array symbols) (array_inside bytes symbols) _ _ l)

-- ---- variables, and what is known of symbols

address_inside : (bytes : List ℕ) (symbols references : ℕ) → AreInside bytes (address symbols references)
unfolding address
address_inside bytes symbols references at low =
    next_part (name_inside bytes references at low) (λ l. near_inside bytes symbols _ l)

choice_inside : {X : Type 0} (bytes : List ℕ) (is : Bool) (one other : Format X) → AreInside bytes one → AreInside bytes other
    → AreInside bytes (choice is one other)
choice_inside bytes true one other first second = first
choice_inside bytes false one other first second = second

var_of_inside : (bytes : List ℕ) (symbols references tag : ℕ) → AreInside bytes (var_of symbols references tag)
var_of_inside bytes symbols references tag =
    let number = last_part number_in vars.Number (near_expr symbols) in
    let reference = last_part reference_in vars.Reference (name references) in
    let last = choice (tag == 3) (only vars.Text) (address symbols references) in
    choice_inside bytes (tag == 1) number (choice (tag == 2) reference last) (λ at l. near_inside bytes symbols at l)
    (choice_inside bytes (tag == 2) reference last (λ at l. name_inside bytes references at l)
    (choice_inside bytes (tag == 3) (only vars.Text) (address symbols references) (λ at l. nothing_inside bytes at l)
    (address_inside bytes symbols references)))

var_inside : (bytes : List ℕ) (symbols references : ℕ) → AreInside bytes (var symbols references)
unfolding var
var_inside bytes symbols references at low =
    next_part (tested_part _ (byte_inside bytes at low) low) (λ l. var_of_inside bytes symbols references (byte.read bytes at).value _ l)

variables_inside : (bytes : List ℕ) (symbols references : ℕ) → AreInside bytes (variables symbols references)
unfolding variables
variables_inside bytes symbols references at low =
    next_part (number_inside bytes 2 at low)
    (λ l. each_inside bytes (var symbols references) (var_inside bytes symbols references) _ _ l)

row_inside : (bytes : List ℕ) (symbols : ℕ) → AreInside bytes (row symbols)
unfolding row other_symbol
row_inside bytes symbols at low =
    next_part (proper_inside bytes symbols at low)
    (λ l. next_part (tested_part _ (number_inside bytes 2 _ l) l) (λ l. int64_inside bytes _ l))

rows_inside : (bytes : List ℕ) (symbols : ℕ) → AreInside bytes (rows symbols)
unfolding rows
rows_inside bytes symbols at low =
    next_part (number_inside bytes 4 at low) (λ l. order_inside bytes row_precedes (row symbols) (row_inside bytes symbols) _ _ l)

two_exprs_inside : (bytes : List ℕ) (symbols tag : ℕ) → AreInside bytes (def_with_two symbols tag)
unfolding def_with_two
two_exprs_inside bytes symbols tag at low =
    next_part (expr_inside bytes symbols at low) (λ l. expr_inside bytes symbols _ l)

null_inside : (bytes : List ℕ) (references : ℕ) → AreInside bytes (null_test references)
unfolding null_test
null_inside bytes references at low = next_part (name_inside bytes references at low) (λ l. flag_inside bytes _ l)

def_of_inside : (bytes : List ℕ) (symbols references tag : ℕ) → AreInside bytes (def_of symbols references tag)
def_of_inside bytes symbols references tag =
    choice_inside bytes (tag == 4) (null_test references) (def_with_two symbols tag) (null_inside bytes references)
    (two_exprs_inside bytes symbols tag)

definition_inside : (bytes : List ℕ) (symbols references : ℕ) → AreInside bytes (definition symbols references)
unfolding definition def
definition_inside bytes symbols references at low =
    next_part (proper_inside bytes symbols at low)
    (λ l. next_part (tested_part _ (byte_inside bytes _ l) l) (λ l. def_of_inside bytes symbols references _ _ l))

definitions_inside : (bytes : List ℕ) (symbols references : ℕ) → AreInside bytes (definitions symbols references)
unfolding definitions
definitions_inside bytes symbols references at low =
    next_part (number_inside bytes 2 at low)
    (λ l. order_inside bytes definition_precedes (definition symbols references) (definition_inside bytes symbols references) _ _ l)

pair_inside : (bytes : List ℕ) (references : ℕ) → AreInside bytes (pair references)
unfolding pair
pair_inside bytes references at low =
    tested_part _ (next_part (proper_inside bytes references at low) (λ l. proper_inside bytes references _ l)) low

pairs_inside : (bytes : List ℕ) (references : ℕ) → AreInside bytes (pairs references)
unfolding pairs
pairs_inside bytes references at low =
    next_part (number_inside bytes 4 at low) (λ l. order_inside bytes comes_before (pair references) (pair_inside bytes references) _ _ l)

-- ---- states

known_inside : (bytes : List ℕ) → AreInside bytes known
unfolding known
known_inside bytes at low =
    next_part (ranges_inside bytes at low) (λ l.
    next_part (arrays_inside bytes _ _ l) (λ l.
    next_part (variables_inside bytes _ _ _ l) (λ l.
    next_part (rows_inside bytes _ _ l) (λ l.
    next_part (definitions_inside bytes _ _ _ l) (λ l. pairs_inside bytes _ _ l)))))

known_where_inside : (bytes : List ℕ) (reached : Bool) → AreInside bytes (known_where reached)
known_where_inside bytes true at low = known_inside bytes at low
known_where_inside bytes false at low = nothing_inside bytes at low

state_inside : (bytes : List ℕ) → AreInside bytes state
unfolding state
state_inside bytes at low = next_part (flag_inside bytes at low) (λ l. known_where_inside bytes _ _ l)

states_inside : (bytes : List ℕ) → AreInside bytes states
unfolding states
states_inside bytes at low = next_part (number_inside bytes 2 at low) (λ l. each_inside bytes state (state_inside bytes) _ _ l)

pub fault_inside : (bytes : List ℕ) → IfSome (first_states_fault bytes) (λ fault. fault_at fault ≤ length bytes)
unfolding first_states_fault states_file
fault_inside bytes =
    let it = states.read bytes 0 in
    let its = states_inside bytes 0 (omega arith) in
    of_each (first_of (it.tests ++ (must (nat_le (length bytes) it.next) (Form it.next) ∷ [])))
    (λ f is. either_fault bytes it.tests _ f its.fault
    (λ none g. one_fault bytes (nat_le (length bytes) it.next) (Form it.next) g (its.next_low none)) is)
  where
    of_each : (found : Option InvFault) → ((f : InvFault) → found ≡ Some f → fault_at f ≤ length bytes)
        → IfSome found (λ fault. fault_at fault ≤ length bytes)
    of_each None each = tt
    of_each (Some f) each = each f refl
