-- Parts that are spelled are those of a state.
use Rattle.std.proofs.Common.{◌≡◌, ℕ, suc, ◌+◌, ◌-◌, ◌≤◌, ◌<◌, ℤ, ◌≤ℤ◌, ◌<ℤ◌, Bool, true, false, ◌||◌}
use Rattle.std.proofs.Common.{List, [], ◌∷◌, ◌++◌, length, map, get_or, slice_get, Option, None, Some, refl, sym, subst}
use Rattle.std.proofs.Common.{ap, ◌∙◌, arith, FitsSigned, w32}
use Rattle.std.specs.Prelude.{◌==◌, not, nat_lt, int_le, int_lt}
use Rattle.std.specs.Int.{cast_unsigned}
use Rattle.std.specs.List.{AllByRecursion}
use Rattle.std.proofs.Math.Facts.{sfits_to_z}
use Rattle.std.proofs.lemmas.Bool.{leb-true, true≢false}
use Rattle.std.proofs.lemmas.Bool.Decides.{nat_tests}
use Rattle.std.proofs.lemmas.Int.{ints}
use Rattle.std.proofs.lemmas.List.{length-map}
use Rattle.alias_facts.specs.PairsOf.{Pair, AreInOrder, comes_before, is_proper}
use Rattle.alias_facts.proofs.Orders as pairs
use Rattle.array_contents.specs.Contents.{AreFormed, IsFormed, Segments}
use Rattle.array_segments.proofs.CommonLaw.{any_has}
use Rattle.array_segments.specs.SegmentLists.{Has, HasFew, zero_expr}
use Rattle.cil_model.specs.Arithmetic.{LEAST, GREATEST}
use Rattle.cil_model.specs.declared.place.Place.{Place}
use Rattle.cil_model.specs.declared.place.Place.TheVariants as places
use Rattle.domain_api.specs.declared.expr.Expr.{Expr}
use Rattle.frame_names.specs.declared.var.Var.{Var}
use Rattle.frame_names.specs.declared.var.Var.TheVariants as vars
use Rattle.interval_domain.specs.Interval.{Interval}
use Rattle.number_facts.specs.Holds.{Names, NamesOwn}
use Rattle.number_spans.specs.Stored.{IsInner, IsNarrow}
use Rattle.pentagon_domain.specs.Gaps.{AreBelow}
use Rattle.pentagon_domain.specs.Rows.{AreBounds, is_pair}
use Rattle.pentagon_domain.proofs.Searches as rows
use Rattle.pentagon_domain.specs.declared.bound_row.BoundRow.{BoundRow}
use Rattle.state_facts.specs.Forms as forms
use Rattle.symbolic_values.specs.declared.def.Def.{Def}
use Rattle.symbolic_values.specs.declared.def.Def.TheVariants.{Eq, Lt, LtUn, NullTest, Sub}
use Rattle.abs_state.specs.StateParts.{AreParts, IsKnown, StateParts, known_of, nothing_listed}
use Rattle.invariant_codec.specs.Formats.{AllGood, comes_after, comes_next, last_of}
use Rattle.invariant_codec.specs.Numbers as numbers
use Rattle.invariant_codec.specs.Segments as segments
use Rattle.invariant_codec.specs.Symbols as symbols
use Rattle.invariant_codec.specs.States as states
use Rattle.invariant_codec.proofs.NumberLaws.{both_true, within}
use Rattle.invariant_codec.proofs.SegmentLaws.{joined_again}

-- ---- lists

pub all_of : {X : Type 0} (P Q : X → Type 0) → ((x : X) → P x → Q x) → (before xs : List X)
    → AllGood (λ before. P) before xs → AllByRecursion Q xs
all_of P Q so before [] good = tt
all_of P Q so before (x ∷ xs) good = (so x good.0, all_of P Q so (before ++ x ∷ []) xs good.1)

-- Of items in order, what is so of each by itself.
pub each_of : {X : Type 0} (P Q : X → Type 0) (precedes : X → X → Bool) → ((x : X) → P x → Q x) → (before xs : List X)
    → AllGood (λ before x. P x × (comes_next precedes before x ≡ true)) before xs → AllByRecursion Q xs
each_of P Q precedes so before [] good = tt
each_of P Q precedes so before (x ∷ xs) good = (so x good.0.0, each_of P Q precedes so (before ++ x ∷ []) xs good.1)

pub one_more : {X : Type 0} (xs : List X) (x : X) → length (xs ++ x ∷ []) ≡ length xs + 1
one_more [] x = refl
one_more (y ∷ xs) x = omega (arith, one_more xs x)

-- The last of a list with one more.
pub last_is : {X : Type 0} (before : List X) (x : X) → last_of (before ++ x ∷ []) ≡ Some x
last_is before x =
    let size : length (before ++ x ∷ []) - 1 ≡ length before = omega (arith, one_more before x) in
    ap (λ (n : ℕ). slice_get (before ++ x ∷ []) n) size ∙ at_end before x
  where
    at_end : {X : Type 0} (xs : List X) (x : X) → slice_get (xs ++ x ∷ []) (length xs) ≡ Some x
    at_end [] x = refl
    at_end (y ∷ xs) x = at_end xs x

-- An order that goes on.
abbrev Goes : {X : Type 0} → (X → X → Bool) → Type 0
Goes {X} precedes = (a b c : X) → precedes a b ≡ true → precedes b c ≡ true → precedes a c ≡ true

abbrev pub AreAfter : {X : Type 0} → (X → X → Bool) → X → List X → Type 0
AreAfter precedes x xs = AllByRecursion (λ y. precedes x y ≡ true) xs

before_all : {X : Type 0} (precedes : X → X → Bool) → Goes precedes → (x y : X) (ys : List X) → precedes x y ≡ true
    → AreAfter precedes y ys → AreAfter precedes x ys
before_all precedes goes x y [] first all = tt
before_all precedes goes x y (z ∷ ys) first all = (goes x y z first all.0, before_all precedes goes x y ys first all.1)

-- Where each comes after the last one before it, each comes after all of these.
after_all : {X : Type 0} (P : X → Type 0) (precedes : X → X → Bool) → Goes precedes
    → (before : List X) (x : X) (xs : List X)
    → AllGood (λ before x. P x × (comes_next precedes before x ≡ true)) (before ++ x ∷ []) xs → AreAfter precedes x xs
after_all P precedes goes before x [] good = tt
after_all P precedes goes before x (y ∷ ys) good =
    let first : precedes x y ≡ true = subst (λ last. comes_after precedes last y ≡ true) (last_is before x) good.0.1 in
    (first, before_all precedes goes x y ys first (after_all P precedes goes (before ++ x ∷ []) y ys good.1))

-- ---- numbers

at_most : (m n : ℤ) → int_le m n ≡ true → m ≤ℤ n
at_most m n is = grind (arith, ints, is)

below : (m n : ℤ) → int_lt m n ≡ true → m <ℤ n
below m n is = grind (arith, ints, is)

pub int32_fits : (z : ℤ) → numbers.int32.IsSpelled z → (LEAST ≤ℤ z) × (z ≤ℤ GREATEST)
unfolding numbers.int32 numbers.number
int32_fits z spelled =
    let fits : FitsSigned w32 z = subst (λ (z : ℤ). FitsSigned w32 z) (sym spelled.1)
    (sfits_to_z {w = w32} {n = cast_unsigned w32 z} (record { fits = spelled.0 })) in
    (grind (arith, ints, fits), grind (arith, ints, fits))

name_there : (count n : ℕ) → (numbers.name count).IsSpelled n → n ≤ count
unfolding numbers.name
name_there count n spelled = leb-true _ _ spelled.1

proper_there : (count n : ℕ) → (numbers.proper_name count).IsSpelled n → (1 ≤ n) × (n ≤ count)
unfolding numbers.proper_name
proper_there count n spelled = within 1 count n spelled.1

expr_there : (count : ℕ) (e : Expr) → (numbers.expr count).IsSpelled e → e.sym ≤ count
unfolding numbers.expr
expr_there count e spelled = name_there count e.sym spelled.0

near_there : (count : ℕ) (e : Expr) → (numbers.near_expr count).IsSpelled e → forms.IsNumber count e
unfolding numbers.near_expr
near_there count e spelled =
    let near = both_true _ _ spelled.1.0.1 in
    record {
      there = name_there count e.sym spelled.0;
      near = record { least = at_most _ _ near.0; greatest = at_most _ _ near.1 };
    }

inner : (lo hi : ℤ) (hole : Option ℤ) → (numbers.hole lo hi).IsSpelled hole → IsInner lo hi hole
unfolding numbers.hole
inner lo hi None spelled = tt
inner lo hi (Some n) spelled = let both = both_true _ _ spelled.1.0.1 in (below lo n both.0, below n hi both.1)

narrow : (r : Interval) → numbers.range.IsSpelled r → IsNarrow r
unfolding numbers.range
narrow r spelled = record {
  least = (int32_fits r.lo spelled.0).0;
  ordered = at_most r.lo r.hi spelled.1.0.1;
  greatest = (int32_fits r.hi spelled.1.0.0).1;
  inner = inner r.lo r.hi r.hole spelled.1.1.0;
}

-- ---- variables, bounds, definitions and pairs

var_there : (count references : ℕ) (v : Var) → (symbols.var count references).IsSpelled v
    → forms.IsVar count references v
unfolding symbols.var symbols.address
var_there count references (vars.Number e) spelled = near_there count e spelled.1.0
var_there count references (vars.Reference r) spelled = name_there references r spelled.1.0
var_there count references vars.Text spelled = tt
var_there count references (vars.Address r e) spelled =
    (name_there references r spelled.1.0, near_there count e spelled.1.1.0)

record IsGoodRow (count : ℕ) (r : BoundRow) : Type 0 where
  s : (1 ≤ r.s) × (r.s ≤ count)
  t : (1 ≤ r.t) × (r.t ≤ count)
  other : not (r.s == r.t) ≡ true

row_good : (count : ℕ) (r : BoundRow) → (symbols.row count).IsSpelled r → IsGoodRow count r
unfolding symbols.row symbols.other_symbol
row_good count r spelled =
    let t = both_true _ _ spelled.1.0.1 in
    record { s = proper_there count r.s spelled.0; t = within 1 count r.t t.0; other = t.1 }

row_below : (count : ℕ) (r : BoundRow) → (symbols.row count).IsSpelled r → AreBelow (count + 1) r
row_below count r spelled = let good = row_good count r spelled in record
    { from = omega (arith, good.s.1); to = omega (arith, good.t.1) }

proper_pair : (count : ℕ) (r : BoundRow) → (symbols.row count).IsSpelled r → is_pair r.s r.t ≡ true
proper_pair count r spelled =
    let good = row_good count r spelled in
    rw (not_zero r.s good.s.0, not_zero r.t good.t.0, good.other) refl
  where
    not_zero : (n : ℕ) → 1 ≤ n → not (n == 0) ≡ true
    not_zero n some = grind (arith, nat_tests, some)

all_bounds : (count : ℕ) (before rs : List BoundRow)
    → AllGood (λ before r. (symbols.row count).IsSpelled r × (comes_next symbols.row_precedes before r ≡ true)) before
    rs → AreBounds rs
all_bounds count before [] good = tt
all_bounds count before (r ∷ rs) good = (
  proper_pair count r good.0.0,
  after_all (symbols.row count).IsSpelled symbols.row_precedes
      (λ a b c. rows.before_trans a b c.s c.t) before r rs good.1,
  all_bounds count (before ++ r ∷ []) rs good.1,
)

def_there : (count references : ℕ) (d : Def) → (symbols.def count references).IsSpelled d
    → Names count d × forms.TestsOf references d
unfolding symbols.def symbols.def_with_two symbols.null_test
def_there count references (Eq a b) spelled = ((expr_there count a spelled.1.0, expr_there count b spelled.1.1.0), tt)
def_there count references (Lt a b) spelled = ((expr_there count a spelled.1.0, expr_there count b spelled.1.1.0), tt)
def_there count references (LtUn a b) spelled = ((expr_there count a spelled.1.0, expr_there count b spelled.1.1.0), tt)
def_there count references (NullTest r is) spelled = (tt, name_there references r spelled.1.0)
def_there count references (Sub a b) spelled = ((expr_there count a spelled.1.0, expr_there count b spelled.1.1.0), tt)

named : (count references : ℕ) (d : ℕ × Def) → (symbols.definition count references).IsSpelled d → NamesOwn count d
unfolding symbols.definition
named count references d spelled = (
  (proper_there count d.0 spelled.0).1,
  (def_there count references d.1 spelled.1.0).0,
)

names_test : (count references : ℕ) (d : ℕ × Def) → (symbols.definition count references).IsSpelled d
    → forms.TestsOf references d.1
unfolding symbols.definition
names_test count references d spelled = (def_there count references d.1 spelled.1.0).1

from_one : (count references : ℕ) (d : ℕ × Def) → (symbols.definition count references).IsSpelled d → 1 ≤ d.0
unfolding symbols.definition
from_one count references d spelled = (proper_there count d.0 spelled.0).0

definition_goes : Goes symbols.definition_precedes
definition_goes a b c first second = grind (arith, first, second)

all_less : (d : ℕ × Def) (ds : List (ℕ × Def)) → AreAfter symbols.definition_precedes d ds
    → AllByRecursion (λ later. d.0 < later.0) ds
all_less d [] all = tt
all_less d (e ∷ ds) all = (grind (arith, all.0), all_less d ds all.1)

all_rise : (count references : ℕ) (before ds : List (ℕ × Def))
    → AllGood (λ before d. (symbols.definition count references).IsSpelled d
    × (comes_next symbols.definition_precedes before d ≡ true)) before ds → forms.SymbolsRise ds
all_rise count references before [] good = tt
all_rise count references before (d ∷ ds) good = (
  all_less d ds (after_all (symbols.definition count references).IsSpelled symbols.definition_precedes definition_goes
      before d ds good.1),
  all_rise count references (before ++ d ∷ []) ds good.1,
)

record IsGoodPair (references : ℕ) (p : Pair) : Type 0 where
  first : (1 ≤ p.0) × (p.0 ≤ references)
  second : (1 ≤ p.1) × (p.1 ≤ references)
  less : nat_lt p.0 p.1 ≡ true

pair_good : (references : ℕ) (p : Pair) → (symbols.pair references).IsSpelled p → IsGoodPair references p
unfolding symbols.pair
pair_good references p spelled = record {
  first = proper_there references p.0 spelled.0.0;
  second = proper_there references p.1 spelled.0.1.0;
  less = spelled.1;
}

ends_by : (references : ℕ) (p : Pair) → (symbols.pair references).IsSpelled p → forms.EndsBy references p
ends_by references p spelled = let good = pair_good references p spelled in (good.first.1, good.second.1)

proper : (references : ℕ) (p : Pair) → (symbols.pair references).IsSpelled p → is_proper p ≡ true
proper references p spelled =
    let good = pair_good references p spelled in
    let some : nat_lt 0 p.0 ≡ true = grind (arith, nat_tests, good.first.0) in
    rw (some, good.less) refl

pairs_in_order : (references : ℕ) (before ps : List Pair)
    → AllGood (λ before p. (symbols.pair references).IsSpelled p × (comes_next comes_before before p ≡ true)) before ps
    → AreInOrder ps
pairs_in_order references before [] good = tt
pairs_in_order references before (p ∷ ps)
    good = (
      after_all (symbols.pair references).IsSpelled comes_before pairs.before_trans before p ps good.1,
      pairs_in_order references (before ++ p ∷ []) ps good.1,
    )

-- ---- references and segments

pub bound_few : (count : ℕ) (exprs : List Expr) → (segments.bound count).IsSpelled exprs → HasFew exprs
unfolding segments.bound
bound_few count exprs spelled = let is = within 1 4 (length exprs) spelled.0.1 in record { some = is.0; most = is.1 }

bound_there : (count : ℕ) (exprs : List Expr) → (segments.bound count).IsSpelled exprs
    → AllByRecursion (λ e. e.sym ≤ count) exprs
unfolding segments.bound
bound_there count exprs spelled = all_of (numbers.expr count).IsSpelled (λ e. e.sym ≤ count)
    (expr_there count) [] exprs spelled.1.1

-- What is so of a segment, wherever it stands.
pub record IsGoodSegment (count : ℕ) (length_is : Expr) (is_last : Bool) (s : segments.Segment) : Type 0 where
  pub content : IsNarrow s.content
  pub bound : (segments.bound count).IsSpelled s.end
  pub ends : is_last ≡ true → segments.has length_is s.end ≡ true

pub segment_good : (count : ℕ) (length_is : Expr) (is_last : Bool) (s : segments.Segment)
    → (segments.segment count length_is is_last).IsSpelled s → IsGoodSegment count length_is is_last s
unfolding segments.segment segments.next_bound
segment_good count length_is is_last s spelled = record {
  content = narrow s.content spelled.0;
  bound = spelled.1.1.0.0;
  ends = λ is. where_last is_last is spelled.1.1.0.1;
}
  where
    where_last : (is_last : Bool) → is_last ≡ true → (not is_last || segments.has length_is s.end) ≡ true
        → segments.has length_is s.end ≡ true
    where_last true is test = test
    where_last false is test = absurd (true≢false (sym is))

abbrev pub AreSegments : ℕ → Expr → ℕ → List segments.Segment → List segments.Segment → Type 0
AreSegments count length_is all before segs = AllGood
    (λ before. (segments.next_segment count length_is all before).IsSpelled) before segs

all_few : (count : ℕ) (length_is : Expr) (all : ℕ) (before segs : List segments.Segment)
    → AreSegments count length_is all before segs → AllByRecursion HasFew (map (λ s. s.end) segs)
all_few count length_is all before [] good = tt
all_few count length_is all before (s ∷ segs) good = (
  bound_few count s.end (segment_good count length_is (segments.is_last all before) s good.0).bound,
  all_few count
      length_is all (before ++ s ∷ []) segs good.1,
)

all_there : (count : ℕ) (length_is : Expr) (all : ℕ) (before segs : List segments.Segment)
    → AreSegments count length_is all before segs
    → AllByRecursion (AllByRecursion (λ e. e.sym ≤ count)) (map (λ s. s.end) segs)
all_there count length_is all before [] good = tt
all_there count length_is all before (s ∷ segs) good = (
  bound_there count s.end (segment_good count length_is (segments.is_last all before) s good.0).bound,
  all_there
      count length_is all (before ++ s ∷ []) segs good.1,
)

all_narrow : (count : ℕ) (length_is : Expr) (all : ℕ) (before segs : List segments.Segment)
    → AreSegments count length_is all before segs → AllByRecursion IsNarrow (map (λ s. s.content) segs)
all_narrow count length_is all before [] good = tt
all_narrow count length_is all before (s ∷ segs) good = (
  (segment_good count length_is (segments.is_last all before) s good.0).content,
  all_narrow count length_is all
      (before ++ s ∷ []) segs good.1,
)

-- The last bound has the length.
ends_there : (count : ℕ) (length_is : Expr) (all : ℕ) (before segs : List segments.Segment) (first : List Expr)
    → AreSegments count length_is all before segs
    → length before + length segs ≡ all → 1 ≤ length segs
    → Has length_is (get_or (first ∷ map (λ s. s.end) segs) (length segs) [])
ends_there count length_is all before [] first good size some = absurd (omega (arith, some))
ends_there count length_is all before (s ∷ []) first good size some =
    let last : segments.is_last all before ≡ true = eqb-refl-at (suc (length before)) all (omega (arith, size)) in
    any_has length_is s.end ((segment_good count length_is (segments.is_last all before) s good.0).ends last)
  where
    eqb-refl-at : (m n : ℕ) → m ≡ n → (m == n) ≡ true
    eqb-refl-at m n is = grind (arith, is)
ends_there count length_is all before (s ∷ t ∷ segs) first good size some =
    ends_there count length_is all (before ++ s ∷ []) (t ∷ segs) s.end good.1 (omega (arith, size, one_more before s))
    (omega arith)

formed_of : (count : ℕ) (length_is : Expr) (first : List Expr) (segs : List segments.Segment)
    → (segments.segments count length_is).IsSpelled (segments.segments_of first segs)
    → segments.segments_in (segments.segments_of first segs) ≡ segs
    → IsFormed count length_is (segments.segments_of first segs)
unfolding segments.segments segments.first_bound
formed_of count length_is first segs spelled again =
    let size = length-map segs (λ s. s.content) in
    let is = within 1 12 (length (map (λ (s : segments.Segment). s.content) segs)) spelled.0.1 in
    let good : AreSegments count length_is (length (map (λ (s : segments.Segment). s.content) segs)) [] segs =
    subst (λ xs. AreSegments count length_is (length (map (λ (s : segments.Segment). s.content) segs)) [] xs) again
    spelled.1.1.0.1 in
    let bounds = length-map segs (λ s. s.end) in
    let marks = length-map segs (λ s. s.may_be_empty) in
    record {
      form = record {
        some = is.0;
        most = is.1;
        bounded = omega (arith, size, bounds);
        marked = marks ∙ sym size;
        few = (bound_few count first spelled.1.0.0, all_few count length_is _ [] segs good);
        from_zero = any_has zero_expr first spelled.1.0.1;
      };
      ends = subst (λ n. Has length_is (get_or (first ∷ map (λ (s : segments.Segment). s.end) segs) n [])) (sym size)
          (ends_there count length_is (length (map (λ (s : segments.Segment). s.content) segs)) [] segs first good
          (omega (arith, size)) (omega (arith, size, is.0)));
      named = (bound_there count first spelled.1.0.0, all_there count length_is _ [] segs good);
      narrow = all_narrow count length_is _ [] segs good;
    }

formed : (count : ℕ) (length_is : Expr) (lists : Segments) → (segments.segments count length_is).IsSpelled lists
    → IsFormed count length_is lists
unfolding segments.segments
formed count length_is lists spelled =
    let first = segments.first_of lists.bounds in
    let segs = segments.segments_in lists in
    let is : lists ≡ segments.segments_of first segs = spelled.1.1.1 in
    subst (λ l. IsFormed count length_is l) (sym is)
    (formed_of count length_is first segs (subst (λ l. (segments.segments count length_is).IsSpelled l) is spelled)
    (joined_again segs))

place_good : (p : Place) → segments.array_place.IsSpelled p → forms.IsArrayPlace p
unfolding segments.array_place
place_good places.Void spelled = absurd (omega (arith, within 3 4 0 spelled.0.1))
place_good places.Bool spelled = absurd (omega (arith, within 3 4 1 spelled.0.1))
place_good places.Int spelled = absurd (omega (arith, within 3 4 2 spelled.0.1))
place_good places.Bools spelled = tt
place_good places.Ints spelled = tt

abbrev pub AreArrays : ℕ → List segments.KnownArray → List segments.KnownArray → Type 0
AreArrays count before all = AllGood (λ before. (segments.array count).IsSpelled) before all

references_good : (count : ℕ) (before all : List segments.KnownArray) → AreArrays count before all
    → AllByRecursion (forms.IsReference count) (map (λ a. a.reference) all)
unfolding segments.array
references_good count before [] good = tt
references_good count before (a ∷ all) good = (
  record {
    place = place_good a.reference.place good.0.0;
    length_is = near_there count a.reference.length good.0.1.1.0;
  },
  references_good count
      (before ++ a ∷ []) all good.1,
)

contents_formed : (count : ℕ) (before all : List segments.KnownArray) → AreArrays count before all
    → AreFormed count (forms.lengths_of (map (λ a. a.reference) all)) (map (λ a. a.segments) all)
unfolding segments.array
contents_formed count before [] good = tt
contents_formed count before (a ∷ all)
    good = (
      formed count a.reference.length a.segments good.0.1.1.1.0,
      contents_formed count
          (before ++ a ∷ []) all good.1,
    )

-- ---- the whole

-- What is spelled of a state where something is reached.
record AreGood (rs : List Interval) (all : List segments.KnownArray) (vs : List Var) (bounds : List BoundRow)
    (defs : List (ℕ × Def)) (apart : List Pair) : Type 0 where
  ranges : AllGood (λ before. numbers.range.IsSpelled) [] rs
  arrays : AreArrays (length rs) [] all
  variables : AllGood (λ before. (symbols.var (length rs) (length all)).IsSpelled) [] vs
  rows : AllGood (λ before r. (symbols.row (length rs)).IsSpelled r
      × (comes_next symbols.row_precedes before r ≡ true)) [] bounds
  definitions : AllGood (λ before d. (symbols.definition (length rs) (length all)).IsSpelled d
      × (comes_next symbols.definition_precedes before d ≡ true)) [] defs
  pairs : AllGood (λ before p. (symbols.pair (length all)).IsSpelled p × (comes_next comes_before before p ≡ true)) []
      apart

are_known : (rs : List Interval) (all : List segments.KnownArray) (vs : List Var) (bounds : List BoundRow)
    (defs : List (ℕ × Def)) (apart : List Pair)
    → AreGood rs all vs bounds defs apart → IsKnown (known_of (states.reached_parts rs all vs bounds defs apart))
are_known rs all vs bounds defs apart good =
    let symbols_there = length rs in
    let references = length all in
    let size : length (map (λ (a : segments.KnownArray). a.reference) all) ≡ length all = length-map all
    (λ a. a.reference) in
    record {
      form = record {
        narrow = all_of numbers.range.IsSpelled IsNarrow narrow [] rs good.ranges;
        named = record {
          bounds = each_of (symbols.row symbols_there).IsSpelled (AreBelow (symbols_there + 1)) symbols.row_precedes
              (row_below symbols_there) [] bounds good.rows;
          definitions = each_of (symbols.definition symbols_there references).IsSpelled
              (NamesOwn symbols_there) symbols.definition_precedes
              (named symbols_there references) [] defs good.definitions;
        };
        rising = (
          each_of (symbols.definition symbols_there references).IsSpelled (λ d. 1 ≤ d.0) symbols.definition_precedes
              (from_one symbols_there references) [] defs good.definitions,
          all_rise symbols_there references [] defs good.definitions,
        );
        tests = subst (λ n. AllByRecursion (λ d. forms.TestsOf n d.1) defs) (sym size)
            (each_of (symbols.definition symbols_there references).IsSpelled
            (λ d. forms.TestsOf references d.1) symbols.definition_precedes
            (names_test symbols_there references) [] defs good.definitions);
        variables = subst (λ n. AllByRecursion (forms.IsVar symbols_there n) vs) (sym size)
            (all_of (symbols.var symbols_there references).IsSpelled (forms.IsVar symbols_there references)
            (var_there symbols_there references) [] vs good.variables);
        references = references_good symbols_there [] all good.arrays;
        pairs = subst (λ n. AllByRecursion (forms.EndsBy n) apart) (sym size)
            (each_of (symbols.pair references).IsSpelled (forms.EndsBy references) comes_before
            (ends_by references) [] apart good.pairs);
        contents = contents_formed symbols_there [] all good.arrays;
      };
      ordered = record {
        bounds = all_bounds symbols_there [] bounds good.rows;
        in_order = pairs_in_order references [] apart good.pairs;
        proper = each_of (symbols.pair references).IsSpelled (λ p. is_proper p ≡ true) comes_before
            (proper references) [] apart good.pairs;
      };
    }

pub known_parts : (parts : StateParts) → states.known.IsSpelled parts → AreParts parts
unfolding states.known numbers.ranges segments.arrays symbols.variables symbols.rows symbols.definitions symbols.pairs
known_parts parts spelled =
    let all = states.arrays_in parts in
    let is : parts ≡ states.reached_parts parts.ranges all parts.variables parts.bounds parts.definitions
    parts.apart = spelled.1.1.1.1.1.1 in
    let good : AreGood parts.ranges all parts.variables parts.bounds parts.definitions parts.apart = record {
      ranges = spelled.0.1.1;
      arrays = spelled.1.0.1.1;
      variables = spelled.1.1.0.1.1;
      rows = spelled.1.1.1.0.1.1;
      definitions = spelled.1.1.1.1.0.1.1;
      pairs = spelled.1.1.1.1.1.0.1.1;
    } in
    subst AreParts (sym is) (record {
      reached = λ here. are_known parts.ranges all parts.variables parts.bounds parts.definitions parts.apart good;
      not_reached = λ not. absurd (true≢false not);
    })

pub nothing_parts : AreParts nothing_listed
nothing_parts = record { reached = λ here. absurd (true≢false (sym here)); not_reached = λ not. refl }

pub state_parts : (parts : StateParts) → states.state.IsSpelled parts → AreParts parts
unfolding states.state
state_parts parts spelled = by parts.reached spelled.1
  where
    by : (reached : Bool) → (states.known_where reached).IsSpelled parts → AreParts parts
    by true good = known_parts parts good
    by false good = subst AreParts (sym good) nothing_parts
