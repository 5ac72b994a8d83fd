-- States of which all fits its fields are spelled by the formats.
use Rattle.std.proofs.Common.{◌≡◌, ℕ, ◌+◌, ◌<◌, ◌≤◌, ◌^◌, ℤ, ◌≤ℤ◌, ◌<ℤ◌, Bool, true, false}
use Rattle.std.proofs.Common.{◌&&◌, ◌||◌, List, [], ◌∷◌, ◌++◌, length, map, get_or, Option, None, Some, refl, sym}
use Rattle.std.proofs.Common.{subst, ap, ◌∙◌, arith, FitsSigned, w32, w64}
use Rattle.std.specs.Prelude.{◌==◌, IfSome, not, nat_lt, int_le, int_lt}
use Rattle.std.specs.List.{AllByRecursion}
use Rattle.std.proofs.Math.Facts.{Fits-of_z, to_z-of_z}
use Rattle.std.proofs.lemmas.Bool.{le-leb, true_from_ne_false}
use Rattle.std.proofs.lemmas.Bool.Decides.{nat_tests}
use Rattle.std.proofs.lemmas.Int.{ints}
use Rattle.std.proofs.lemmas.List.{length-map}
use Rattle.abs_state.specs.StateParts.{AreParts, IsKnown, StateParts, known_of, parts_of}
use Rattle.alias_facts.specs.PairsOf.{Pair, AreInOrder, comes_before, is_proper}
use Rattle.alias_facts.specs.declared.nullness.Nullness.{Nullness}
use Rattle.alias_facts.specs.declared.nullness.Nullness.TheVariants as nullness
use Rattle.array_contents.specs.Contents.{AreFormed, Contents, IsFormed, Segments}
use Rattle.array_segments.proofs.CommonLaw.{has_any}
use Rattle.array_segments.specs.SegmentLists.{Has, HasFew, zero_expr}
use Rattle.cil_model.specs.declared.place.Place.{Place}
use Rattle.cil_model.specs.declared.place.Place.TheVariants as places
use Rattle.domain_api.specs.declared.expr.Expr.{Expr}
use Rattle.frame_names.specs.declared.reference.Reference.{Reference}
use Rattle.frame_names.specs.declared.var.Var.{Var}
use Rattle.frame_names.specs.declared.var.Var.TheVariants as vars
use Rattle.interval_domain.specs.Interval.{Interval}
use Rattle.number_facts.specs.Holds.{Names, NamesOwn}
use Rattle.number_spans.specs.Stored.{IsInner, IsNarrow}
use Rattle.pentagon_domain.specs.Gaps.{AreBelow}
use Rattle.pentagon_domain.specs.Rows.{AreBounds, is_pair}
use Rattle.pentagon_domain.specs.declared.bound_row.BoundRow.{BoundRow}
use Rattle.state_facts.specs.Forms as forms
use Rattle.state_facts.specs.StateFacts.{State}
use Rattle.symbolic_values.specs.declared.def.Def.{Def}
use Rattle.symbolic_values.specs.declared.def.Def.TheVariants.{Eq, Lt, LtUn, NullTest, Sub}
use Rattle.invariant_codec.specs.Formats.{AllGood, comes_after, comes_next}
use Rattle.invariant_codec.specs.Numbers as numbers
use Rattle.invariant_codec.specs.Segments as segments
use Rattle.invariant_codec.specs.Spellable.{AreSpellable, Fits, IsShort, IsShortDef, IsSpellable}
use Rattle.invariant_codec.specs.States as states
use Rattle.invariant_codec.specs.Symbols as symbols
use Rattle.invariant_codec.proofs.GoodStates.{AreAfter, AreArrays, AreSegments, last_is, one_more}
use Rattle.invariant_codec.proofs.Narrow.{high_fits, hole_fits, low_fits}
use Rattle.invariant_codec.proofs.NumberLaws.{both_true}

-- ---- lists

good_all : {X : Type 0} (P Q : X → Type 0) → ((x : X) → Q x → P x) → (before xs : List X) → AllByRecursion Q xs
    → AllGood (λ before. P) before xs
good_all P Q so before [] all = tt
good_all P Q so before (x ∷ xs) all = (so x all.0, good_all P Q so (before ++ x ∷ []) xs all.1)

pub all_both : {X : Type 0} (P Q : X → Type 0) → (xs : List X) → AllByRecursion P xs → AllByRecursion Q xs
    → AllByRecursion (λ x. P x × Q x) xs
all_both P Q [] a b = tt
all_both P Q (x ∷ xs) a b = ((a.0, b.0), all_both P Q xs a.1 b.1)

abbrev pub AreSorted : {X : Type 0} → (X → X → Bool) → List X → Type 0
AreSorted precedes [] = Unit {0}
AreSorted precedes (x ∷ xs) = AreAfter precedes x xs × AreSorted precedes xs

-- Where each comes after all before it, each comes after the last of them.
after_last : {X : Type 0} (P Q : X → Type 0) (precedes : X → X → Bool) → ((x : X) → Q x → P x)
    → (before : List X) (x : X) (xs : List X)
    → AllByRecursion Q xs → AreAfter precedes x xs → AreSorted precedes xs
    → AllGood (λ before x. P x × (comes_next precedes before x ≡ true)) (before ++ x ∷ []) xs
after_last P Q precedes so before x [] all first sorted = tt
after_last P Q precedes so before x (y ∷ ys) all first sorted =
    let comes : comes_next precedes (before ++ x ∷ []) y ≡ true = subst (λ last. comes_after precedes last y ≡ true)
    (sym (last_is before x)) first.0 in
    ((so y all.0, comes), after_last P Q precedes so (before ++ x ∷ []) y ys all.1 sorted.0 sorted.1)

in_order_all : {X : Type 0} (P Q : X → Type 0) (precedes : X → X → Bool) → ((x : X) → Q x → P x) → (xs : List X)
    → AllByRecursion Q xs → AreSorted precedes xs
    → AllGood (λ before x. P x × (comes_next precedes before x ≡ true)) [] xs
in_order_all P Q precedes so [] all sorted = tt
in_order_all P Q precedes so (x ∷ xs) all
    sorted = ((so x all.0, refl), after_last P Q precedes so [] x xs all.1 sorted.0 sorted.1)

-- ---- numbers

within_is : (least most n : ℕ) → least ≤ n → n ≤ most → numbers.is_within least most n ≡ true
within_is least most n above below = rw (le-leb least n above, le-leb n most below) refl

le_is : (m n : ℤ) → m ≤ℤ n → int_le m n ≡ true
le_is m n below = true_from_ne_false (int_le m n) (λ e. grind (arith, ints, below, e))

lt_is : (m n : ℤ) → m <ℤ n → int_lt m n ≡ true
lt_is m n below = true_from_ne_false (int_lt m n) (λ e. grind (arith, ints, below, e))

int32_spelled : (z : ℤ) → FitsSigned w32 z → numbers.int32.IsSpelled z
unfolding numbers.int32 numbers.number
int32_spelled z fits = ((Fits-of_z {w = w32} {z = z} fits).fits, sym (to_z-of_z {w = w32} {z = z} fits))

int64_spelled : (z : ℤ) → FitsSigned w64 z → numbers.int64.IsSpelled z
unfolding numbers.int64 numbers.number
int64_spelled z fits = ((Fits-of_z {w = w64} {z = z} fits).fits, sym (to_z-of_z {w = w64} {z = z} fits))

flag_spelled : (is : Bool) → numbers.flag.IsSpelled is
unfolding numbers.flag numbers.byte
flag_spelled true = ((omega arith, refl), refl)
flag_spelled false = ((omega arith, refl), refl)

name_spelled : (count n : ℕ) → n ≤ count → count < 2 ^ 16 → (numbers.name count).IsSpelled n
unfolding numbers.name numbers.number
name_spelled count n there small = (omega (arith, there, small), le-leb n count there)

proper_spelled : (count n : ℕ) → 1 ≤ n → n ≤ count → count < 2 ^ 16 → (numbers.proper_name count).IsSpelled n
unfolding numbers.proper_name numbers.number
proper_spelled count n some there small = (omega (arith, there, small), within_is 1 count n some there)

expr_spelled : (count : ℕ) (e : Expr) → count < 2 ^ 16 → (e.sym ≤ count) × IsShort e → (numbers.expr count).IsSpelled e
unfolding numbers.expr
expr_spelled count e small is = (name_spelled count e.sym is.0 small, (int64_spelled e.k is.1, refl))

near_spelled : (count : ℕ) (e : Expr) → count < 2 ^ 16 → forms.IsNumber count e → (numbers.near_expr count).IsSpelled e
unfolding numbers.near_expr
near_spelled count e small is =
    let fits : FitsSigned w64 e.k = omega (arith, ints, is.near.least, is.near.greatest) in (
      name_spelled count e.sym is.there small,
      ((int64_spelled e.k fits, rw (le_is _ _ is.near.least, le_is _ _ is.near.greatest) refl), refl),
    )

hole_spelled : (lo hi : ℤ) (hole : Option ℤ) → IsInner lo hi hole → ((n : ℤ) → hole ≡ Some n → FitsSigned w32 n)
    → (numbers.hole lo hi).IsSpelled hole
unfolding numbers.hole
hole_spelled lo hi None inner fits = (flag_spelled false, refl)
hole_spelled lo hi (Some n) inner fits = (
  flag_spelled true,
  ((int32_spelled n (fits n refl), rw (lt_is lo n inner.0, lt_is n hi inner.1) refl), refl),
)

range_spelled : (r : Interval) → IsNarrow r → numbers.range.IsSpelled r
unfolding numbers.range
range_spelled r narrow = (
  int32_spelled r.lo (low_fits r narrow),
  (
    (int32_spelled r.hi (high_fits r narrow), le_is r.lo r.hi narrow.ordered),
    (hole_spelled r.lo r.hi r.hole narrow.inner (hole_at r narrow), refl),
  ),
)
  where
    hole_at : (r : Interval) → IsNarrow r → (n : ℤ) → r.hole ≡ Some n → FitsSigned w32 n
    hole_at r narrow n is = subst (λ hole. IfSome hole (λ n. FitsSigned w32 n)) is (hole_fits r narrow)

-- ---- variables, bounds, definitions and pairs

var_spelled : (count references : ℕ) (v : Var) → count < 2 ^ 16 → references < 2 ^ 16 → forms.IsVar count references v
    → (symbols.var count references).IsSpelled v
unfolding symbols.var symbols.address numbers.byte
var_spelled count references (vars.Number e) small few is = ((omega arith, refl), (near_spelled count e small is, refl))
var_spelled count references (vars.Reference r) small few
    is = ((omega arith, refl), (name_spelled references r is few, refl))
var_spelled count references vars.Text small few is = ((omega arith, refl), refl)
var_spelled count references (vars.Address r e) small few is =
    ((omega arith, refl), (name_spelled references r is.0 few, (near_spelled count e small is.1, refl)))

abbrev IsRow : ℕ → BoundRow → Type 0
IsRow count r = (is_pair r.s r.t ≡ true) × (AreBelow (count + 1) r × FitsSigned w64 r.k)

row_spelled : (count : ℕ) (r : BoundRow) → count < 2 ^ 16 → IsRow count r → (symbols.row count).IsSpelled r
unfolding symbols.row symbols.other_symbol numbers.number
row_spelled count r small is =
    let one = both_true (not (r.s == 0) && not (r.t == 0)) (not (r.s == r.t)) is.0 in
    let two = both_true (not (r.s == 0)) (not (r.t == 0)) one.0 in
    let s : 1 ≤ r.s = some r.s two.0 in
    let t : 1 ≤ r.t = some r.t two.1 in
    let from = is.1.0.from in
    let to = is.1.0.to in (
      proper_spelled count r.s s (omega (arith, from)) small,
      (
        (omega (arith, to, small), rw (within_is 1 count r.t t (omega (arith, to)), one.1) refl),
        (int64_spelled r.k is.1.1, refl),
      ),
    )
  where
    some : (n : ℕ) → not (n == 0) ≡ true → 1 ≤ n
    some n is = grind (arith, nat_tests, is)

def_spelled : (count references : ℕ) (d : Def) → count < 2 ^ 16 → references < 2 ^ 16 → Names count d
    → forms.TestsOf references d → IsShortDef d → (symbols.def count references).IsSpelled d
unfolding symbols.def symbols.def_with_two symbols.null_test numbers.byte
def_spelled count references (Eq a b) small few names tests
    short = (
      (omega arith, refl),
      (
        expr_spelled count a small (names.0, short.0),
        (expr_spelled count b small (names.1, short.1), refl),
      ),
    )
def_spelled count references (Lt a b) small few names tests
    short = (
      (omega arith, refl),
      (
        expr_spelled count a small (names.0, short.0),
        (expr_spelled count b small (names.1, short.1), refl),
      ),
    )
def_spelled count references (LtUn a b) small few names tests
    short = (
      (omega arith, refl),
      (
        expr_spelled count a small (names.0, short.0),
        (expr_spelled count b small (names.1, short.1), refl),
      ),
    )
def_spelled count references (NullTest r is) small few names tests
    short = ((omega arith, refl), (name_spelled references r tests few, (flag_spelled is, refl)))
def_spelled count references (Sub a b) small few names tests
    short = (
      (omega arith, refl),
      (
        expr_spelled count a small (names.0, short.0),
        (expr_spelled count b small (names.1, short.1), refl),
      ),
    )

record IsDefinition (count references : ℕ) (d : symbols.Definition) : Type 0 where
  some : 1 ≤ d.0
  named : NamesOwn count d
  tests : forms.TestsOf references d.1
  short : IsShortDef d.1

definition_spelled : (count references : ℕ) (d : symbols.Definition) → count < 2 ^ 16 → references < 2 ^ 16
    → IsDefinition count references d → (symbols.definition count references).IsSpelled d
unfolding symbols.definition
definition_spelled count references d small few is = (
  proper_spelled count d.0 is.some is.named.0 small,
  (def_spelled count references d.1 small few is.named.1 is.tests is.short, refl),
)

all_definitions : (count references : ℕ) (ds : List symbols.Definition) → AllByRecursion (λ d. 1 ≤ d.0) ds
    → AllByRecursion (NamesOwn count) ds
    → AllByRecursion (λ d. forms.TestsOf references d.1) ds → AllByRecursion (λ d. IsShortDef d.1) ds
    → AllByRecursion (IsDefinition count references) ds
all_definitions count references [] some named tests short = tt
all_definitions count references (d ∷ ds) some named tests short = (
  record { some = some.0; named = named.0; tests = tests.0; short = short.0 },
  all_definitions count references ds
      some.1 named.1 tests.1 short.1,
)

less_all : (d : symbols.Definition) (ds : List symbols.Definition) → AllByRecursion (λ later. d.0 < later.0) ds
    → AreAfter symbols.definition_precedes d ds
less_all d [] all = tt
less_all d (e ∷ ds) all = (grind (arith, nat_tests, all.0), less_all d ds all.1)

pub sorted_definitions : (ds : List symbols.Definition) → forms.SymbolsRise ds → AreSorted symbols.definition_precedes ds
sorted_definitions [] rise = tt
sorted_definitions (d ∷ ds) rise = (less_all d ds rise.0, sorted_definitions ds rise.1)

pub sorted_rows : (rs : List BoundRow) → AreBounds rs → AreSorted symbols.row_precedes rs
sorted_rows [] are = tt
sorted_rows (r ∷ rs) are = (are.1, sorted_rows rs are.2)

pub proper_rows : (rs : List BoundRow) → AreBounds rs → AllByRecursion (λ r. is_pair r.s r.t ≡ true) rs
proper_rows [] are = tt
proper_rows (r ∷ rs) are = (are.0, proper_rows rs are.2)

pair_spelled : (references : ℕ) (p : Pair) → references < 2 ^ 16 → forms.EndsBy references p × (is_proper p ≡ true)
    → (symbols.pair references).IsSpelled p
unfolding symbols.pair
pair_spelled references p few is =
    let both = both_true (nat_lt 0 p.0) (nat_lt p.0 p.1) is.1 in
    let some : 1 ≤ p.0 = grind (arith, nat_tests, both.0) in
    let more : 1 ≤ p.1 = grind (arith, nat_tests, both.1) in
    ((proper_spelled references p.0 some is.0.0 few, (proper_spelled references p.1 more is.0.1 few, refl)), both.1)

pub sorted_pairs : (ps : List Pair) → AreInOrder ps → AreSorted comes_before ps
sorted_pairs [] are = tt
sorted_pairs (p ∷ ps) are = (are.0, sorted_pairs ps are.1)

-- ---- segments

record IsBound (count : ℕ) (exprs : List Expr) : Type 0 where
  few : HasFew exprs
  there : AllByRecursion (λ e. e.sym ≤ count) exprs
  short : AllByRecursion IsShort exprs

bound_spelled : (count : ℕ) (exprs : List Expr) → count < 2 ^ 16 → IsBound count exprs
    → (segments.bound count).IsSpelled exprs
unfolding segments.bound numbers.byte
bound_spelled count exprs small is = (
  (omega (arith, is.few.most), within_is 1 4 (length exprs) is.few.some is.few.most),
  (
    refl,
    good_all (numbers.expr count).IsSpelled (λ e. (e.sym ≤ count) × IsShort e)
        (λ e. expr_spelled count e small) [] exprs (all_both (λ e. e.sym ≤ count) IsShort exprs is.there is.short),
  ),
)

all_bounds : (count : ℕ) (bounds : List (List Expr)) → AllByRecursion HasFew bounds
    → AllByRecursion (AllByRecursion (λ e. e.sym ≤ count)) bounds
    → AllByRecursion (AllByRecursion IsShort) bounds → AllByRecursion (IsBound count) bounds
all_bounds count [] few there short = tt
all_bounds count (b ∷ bounds) few there
    short = (record { few = few.0; there = there.0; short = short.0 }, all_bounds count bounds few.1 there.1 short.1)

has_is : (e : Expr) (exprs : List Expr) → Has e exprs → segments.has e exprs ≡ true
has_is e exprs has = has_any e exprs has.0 has.1 has.2

either_is : (a b : Bool) → b ≡ true → (a || b) ≡ true
either_is true b is = refl
either_is false b is = is

-- The last of some bounds has the length.
abbrev EndsAt : Expr → List Expr → List Interval → List (List Expr) → Type 0
EndsAt length_is first contents ends = 1 ≤ length contents
    → segments.has length_is (get_or (first ∷ ends) (length contents) []) ≡ true

segments_good : (count : ℕ) (length_is : Expr) (all : ℕ) → count < 2 ^ 16
    → (before : List segments.Segment) (first : List Expr) (contents : List Interval) (marks : List Bool)
    (ends : List (List Expr))
    → length marks ≡ length contents → length ends ≡ length contents → length before + length contents ≡ all
    → AllByRecursion IsNarrow contents → AllByRecursion (IsBound count) ends → EndsAt length_is first contents ends
    → AreSegments count length_is all before (segments.joined contents marks ends)
unfolding segments.segment segments.next_bound
segments_good count length_is all small before first [] marks ends marked ended size narrow good last = tt
segments_good count length_is all small before first (c ∷ cs) [] ends marked ended size narrow good last = absurd
    (omega (arith, marked))
segments_good count length_is all small before first (c ∷ cs) (m ∷ ms) [] marked ended size narrow good last = absurd
    (omega (arith, ended))
segments_good count length_is all small before first (c ∷ cs) (m ∷ ms) (e ∷ es) marked ended size narrow good last = (
  (range_spelled c narrow.0, (flag_spelled m, ((bound_spelled count e small good.0, at_last cs es size last), refl))),
  segments_good count length_is all small (before ++ segments.segment_of c m e ∷ []) e cs ms es (omega (arith, marked))
      (omega (arith, ended))
      (omega (arith, size, one_more before (segments.segment_of c m e))) narrow.1 good.1 (later cs es last),
)
  where
    at_last : (cs : List Interval) (es : List (List Expr)) → length before + length (c ∷ cs) ≡ all
        → EndsAt length_is first (c ∷ cs) (e ∷ es)
        → (not (segments.is_last all before) || segments.has length_is e) ≡ true
    at_last [] es size last = either_is (not (segments.is_last all before)) (segments.has length_is e)
        (last (omega arith))
    at_last (d ∷ cs) es size last =
        let other : segments.is_last all before ≡ false = grind (arith, nat_tests, size) in
        rw other refl

    later : (cs : List Interval) (es : List (List Expr)) → EndsAt length_is first (c ∷ cs) (e ∷ es)
        → EndsAt length_is e cs es
    later [] es last some = absurd (omega (arith, some))
    later (d ∷ cs) es last some = last (omega arith)

joined_contents : (contents : List Interval) (marks : List Bool) (ends : List (List Expr))
    → length marks ≡ length contents → length ends ≡ length contents
    → map (λ s. s.content) (segments.joined contents marks ends) ≡ contents
joined_contents [] marks ends marked ended = refl
joined_contents (c ∷ cs) [] ends marked ended = absurd (omega (arith, marked))
joined_contents (c ∷ cs) (m ∷ ms) [] marked ended = absurd (omega (arith, ended))
joined_contents (c ∷ cs) (m ∷ ms) (e ∷ es) marked ended = ap (λ (xs : List Interval). c ∷ xs)
    (joined_contents cs ms es (omega (arith, marked)) (omega (arith, ended)))

joined_marks : (contents : List Interval) (marks : List Bool) (ends : List (List Expr))
    → length marks ≡ length contents → length ends ≡ length contents
    → map (λ s. s.may_be_empty) (segments.joined contents marks ends) ≡ marks
joined_marks [] [] ends marked ended = refl
joined_marks [] (m ∷ ms) ends marked ended = absurd (omega (arith, marked))
joined_marks (c ∷ cs) [] ends marked ended = absurd (omega (arith, marked))
joined_marks (c ∷ cs) (m ∷ ms) [] marked ended = absurd (omega (arith, ended))
joined_marks (c ∷ cs) (m ∷ ms) (e ∷ es) marked ended = ap (λ (xs : List Bool). m ∷ xs)
    (joined_marks cs ms es (omega (arith, marked)) (omega (arith, ended)))

joined_ends : (contents : List Interval) (marks : List Bool) (ends : List (List Expr)) → length marks ≡ length contents
    → length ends ≡ length contents
    → map (λ s. s.end) (segments.joined contents marks ends) ≡ ends
joined_ends [] marks [] marked ended = refl
joined_ends [] marks (e ∷ es) marked ended = absurd (omega (arith, ended))
joined_ends (c ∷ cs) [] ends marked ended = absurd (omega (arith, marked))
joined_ends (c ∷ cs) (m ∷ ms) [] marked ended = absurd (omega (arith, ended))
joined_ends (c ∷ cs) (m ∷ ms) (e ∷ es) marked ended = ap (λ (xs : List (List Expr)). e ∷ xs)
    (joined_ends cs ms es (omega (arith, marked)) (omega (arith, ended)))

-- Segments behind a first bound.
behind_first : (count : ℕ) (length_is : Expr) (first : List Expr) (ends : List (List Expr)) (contents : List Interval)
    (marks : List Bool) → count < 2 ^ 16
    → IsFormed count length_is (record { bounds = first ∷ ends; contents = contents; marks = marks })
    → AllByRecursion (AllByRecursion IsShort) (first ∷ ends)
    → (segments.segments count length_is).IsSpelled
    (record { bounds = first ∷ ends; contents = contents; marks = marks })
unfolding segments.segments segments.first_bound numbers.byte
behind_first count length_is first ends contents marks small formed short =
    let form = formed.form in
    let ended : length ends ≡ length contents = omega (arith, form.bounded) in
    let good = all_bounds count (first ∷ ends) form.few formed.named short in
    let segs = segments.joined contents marks ends in
    let size : length segs ≡ length contents = sym (length-map segs (λ s. s.content))
    ∙ ap (λ (xs : List Interval). length xs) (joined_contents contents marks ends form.marked ended) in (
      (omega (arith, form.most), within_is 1 12 (length contents) form.some form.most),
      (
        (bound_spelled count first small good.0, has_is zero_expr first form.from_zero),
        (
          (
            size,
            segments_good count length_is (length contents) small [] first contents marks ends form.marked ended
                (omega arith) formed.narrow good.1 (λ some. has_is length_is _ formed.ends),
          ),
          λ i. record {
            bounds = first ∷ sym (joined_ends contents marks ends form.marked ended) i;
            contents = sym (joined_contents contents marks ends form.marked ended) i;
            marks = sym (joined_marks contents marks ends form.marked ended) i;
          },
        ),
      ),
    )

segments_spelled : (count : ℕ) (length_is : Expr) (lists : Segments) → count < 2 ^ 16 → IsFormed count length_is lists
    → AllByRecursion (AllByRecursion IsShort) lists.bounds → (segments.segments count length_is).IsSpelled lists
segments_spelled count length_is lists small formed short = by lists.bounds refl formed.form.bounded
  where
    by : (bounds : List (List Expr)) → bounds ≡ lists.bounds → length bounds ≡ length lists.contents + 1
        → (segments.segments count length_is).IsSpelled lists
    by [] is size = absurd (omega (arith, size))
    by (first ∷ ends) is size =
        let same : lists ≡ record { bounds = first ∷ ends; contents = lists.contents; marks = lists.marks } = λ i.
        record { bounds = sym is i; contents = lists.contents; marks = lists.marks } in
        subst (λ l. (segments.segments count length_is).IsSpelled l) (sym same)
        (behind_first count length_is first ends lists.contents lists.marks small
        (subst (λ l. IsFormed count length_is l) same formed)
        (subst (λ bs. AllByRecursion (AllByRecursion IsShort) bs) (sym is) short))

-- ---- references

place_spelled : (p : Place) → forms.IsArrayPlace p → segments.array_place.IsSpelled p
unfolding segments.array_place numbers.byte
place_spelled places.Void is = absurd is
place_spelled places.Bool is = absurd is
place_spelled places.Int is = absurd is
place_spelled places.Bools is = ((omega arith, refl), refl)
place_spelled places.Ints is = ((omega arith, refl), refl)

nullness_spelled : (n : Nullness) → segments.nullness_format.IsSpelled n
unfolding segments.nullness_format numbers.byte
nullness_spelled nullness.May = ((omega arith, refl), refl)
nullness_spelled nullness.NotNull = ((omega arith, refl), refl)
nullness_spelled nullness.Null = ((omega arith, refl), refl)

abbrev AreShortContents : Contents → Type 0
AreShortContents contents = AllByRecursion (λ (l : Segments). AllByRecursion (AllByRecursion IsShort) l.bounds) contents

arrays_spelled : (count : ℕ) → count < 2 ^ 16
    → (before : List segments.KnownArray) (references : List Reference) (contents : Contents)
    → AllByRecursion (forms.IsReference count) references
    → AreFormed count (forms.lengths_of references) contents → AreShortContents contents
    → AreArrays count before (segments.with_contents references contents)
unfolding segments.array
arrays_spelled count small before [] contents are formed short = tt
arrays_spelled count small before (r ∷ references) [] are formed short = absurd formed
arrays_spelled count small before (r ∷ references) (s ∷ contents) are formed short = (
  (
    place_spelled r.place are.0.place,
    (
      nullness_spelled r.nullness,
      (
        near_spelled count r.length small are.0.length_is,
        (segments_spelled count r.length s small formed.0 short.0, refl),
      ),
    ),
  ),
  arrays_spelled count small (before ++ record { reference = r; segments = s } ∷ []) references contents are.1 formed.1
      short.1,
)

references_again : (count : ℕ) (references : List Reference) (contents : Contents)
    → AreFormed count (forms.lengths_of references) contents
    → map (λ a. a.reference) (segments.with_contents references contents) ≡ references
references_again count [] contents formed = refl
references_again count (r ∷ references) [] formed = absurd formed
references_again count (r ∷ references) (s ∷ contents) formed = ap (λ (rs : List Reference). r ∷ rs)
    (references_again count references contents formed.1)

segments_again : (count : ℕ) (references : List Reference) (contents : Contents)
    → AreFormed count (forms.lengths_of references) contents
    → map (λ a. a.segments) (segments.with_contents references contents) ≡ contents
segments_again count [] [] formed = refl
segments_again count [] (s ∷ contents) formed = absurd formed
segments_again count (r ∷ references) [] formed = absurd formed
segments_again count (r ∷ references) (s ∷ contents) formed = ap (λ (ss : Contents). s ∷ ss)
    (segments_again count references contents formed.1)

-- ---- states

known_spelled : (parts : StateParts) → parts.reached ≡ true → IsKnown (known_of parts) → Fits parts
    → states.known.IsSpelled parts
unfolding states.known numbers.ranges segments.arrays symbols.variables symbols.rows symbols.definitions symbols.pairs
    numbers.number
known_spelled parts reached is fits =
    let count = length parts.ranges in
    let all = states.arrays_in parts in
    let formed = is.form.contents in
    let back = references_again count parts.references parts.contents formed in
    let size : length parts.references ≡ length all = sym (ap (λ (rs : List Reference). length rs) back)
    ∙ length-map all (λ a. a.reference) in
    let few : length all < 2 ^ 16 = subst (λ (n : ℕ). n < 2 ^ 16) size fits.references in
    let small = fits.symbols in
    let tests = subst (λ n. AllByRecursion (λ d. forms.TestsOf n d.1) parts.definitions) size is.form.tests in
    let vars_there = subst (λ n. AllByRecursion (forms.IsVar count n) parts.variables) size is.form.variables in
    let pairs_there = subst (λ n. AllByRecursion (forms.EndsBy n) parts.apart) size is.form.pairs in
    let good_rows = all_both (λ r. is_pair r.s r.t ≡ true)
    (λ r. AreBelow (count + 1) r × FitsSigned w64 r.k) parts.bounds (proper_rows parts.bounds is.ordered.bounds)
    (all_both (AreBelow (count + 1)) (λ r. FitsSigned w64 r.k) parts.bounds is.form.named.bounds fits.short.bounds) in
    let good_definitions = all_definitions count
    (length all) parts.definitions is.form.rising.0 is.form.named.definitions tests fits.short.definitions in
    let good_pairs = all_both (forms.EndsBy (length all))
    (λ p. is_proper p ≡ true) parts.apart pairs_there is.ordered.proper in (
      (small, (refl, good_all numbers.range.IsSpelled IsNarrow range_spelled [] parts.ranges is.form.narrow)),
      (
        (
          few,
          (
            refl,
            arrays_spelled count small [] parts.references parts.contents is.form.references formed
                fits.short.contents,
          ),
        ),
        (
          (
            fits.variables,
            (
              refl,
              good_all (symbols.var count (length all)).IsSpelled (forms.IsVar count (length all))
                  (λ v. var_spelled count (length all) v small few) [] parts.variables vars_there,
            ),
          ),
          (
            (
              fits.bounds,
              (
                refl,
                in_order_all (symbols.row count).IsSpelled (IsRow count) symbols.row_precedes
                    (λ r. row_spelled count r small) parts.bounds good_rows (sorted_rows parts.bounds is.ordered.bounds),
              ),
            ),
            (
              (
                fits.definitions,
                (
                  refl,
                  in_order_all (symbols.definition count (length all)).IsSpelled
                      (IsDefinition count (length all)) symbols.definition_precedes
                      (λ d. definition_spelled count (length all) d small few)
                      parts.definitions good_definitions (sorted_definitions parts.definitions is.form.rising.1),
                ),
              ),
              (
                (
                  fits.apart,
                  (
                    refl,
                    in_order_all (symbols.pair (length all)).IsSpelled
                        (λ p. forms.EndsBy (length all) p × (is_proper p ≡ true)) comes_before
                        (λ p. pair_spelled (length all) p few) parts.apart good_pairs
                        (sorted_pairs parts.apart is.ordered.in_order),
                  ),
                ),
                λ i. record {
                  reached = reached i;
                  variables = parts.variables;
                  ranges = parts.ranges;
                  definitions = parts.definitions;
                  bounds = parts.bounds;
                  references = sym back i;
                  apart = parts.apart;
                  contents = sym (segments_again count parts.references parts.contents formed) i;
                },
              ),
            ),
          ),
        ),
      ),
    )

state_spelled : (parts : StateParts) → AreParts parts → Fits parts → states.state.IsSpelled parts
unfolding states.state
state_spelled parts are fits = by parts.reached refl
  where
    by : (reached : Bool) → parts.reached ≡ reached
        → numbers.flag.IsSpelled reached × (states.known_where reached).IsSpelled parts
    by true is = (flag_spelled true, known_spelled parts is (are.reached is) fits)
    by false is = (flag_spelled false, are.not_reached is)

each_spelled : (before : List StateParts) (all : List State) → AllByRecursion IsSpellable all
    → AllGood (λ before. states.state.IsSpelled) before (map parts_of all)
each_spelled before [] are = tt
each_spelled before (s ∷ all) are = (
  state_spelled (parts_of s) are.0.form are.0.fits,
  each_spelled
      (before ++ parts_of s ∷ []) all are.1,
)

-- States of which all fits are spelled as states.
pub states_spelled : (all : List State) → AreSpellable all → states.states.IsSpelled (map parts_of all)
unfolding states.states numbers.number
states_spelled all are =
    let size = length-map all parts_of in
    (subst (λ (n : ℕ). n < 2 ^ 16) (sym size) are.count, (refl, each_spelled [] all are.each))
