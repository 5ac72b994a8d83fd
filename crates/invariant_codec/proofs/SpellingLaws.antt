-- The formats spell states as the definition of their bytes does.
use Rattle.std.proofs.Common.{◌≡◌, ℕ, ℤ, Bool, List, [], ◌∷◌, ◌++◌, length, drop, get_or, Option}
use Rattle.std.proofs.Common.{None, Some, refl, sym, ap, ap₂, ◌∙◌, append_assoc, append-nil}
use Rattle.std.specs.List.{flat_map}
use Rattle.std.proofs.lemmas.List.{length-map}
use Rattle.abs_state.specs.StateParts.{StateParts}
use Rattle.array_contents.specs.Contents.{Contents, Segments}
use Rattle.cc_base.specs.LittleEndian.{little_bytes}
use Rattle.cil_model.specs.Places.{place_number}
use Rattle.domain_api.specs.declared.expr.Expr.{Expr}
use Rattle.frame_names.specs.declared.reference.Reference.{Reference}
use Rattle.frame_names.specs.declared.var.Var.{Var}
use Rattle.frame_names.specs.declared.var.Var.TheVariants as vars
use Rattle.interval_domain.specs.Interval.{Interval}
use Rattle.pentagon_domain.specs.declared.bound_row.BoundRow.{BoundRow}
use Rattle.alias_facts.specs.PairsOf.{Pair}
use Rattle.symbolic_values.specs.declared.def.Def.{Def}
use Rattle.symbolic_values.specs.declared.def.Def.TheVariants.{Eq, Lt, LtUn, NullTest, Sub}
use Rattle.invariant_codec.specs.Numbers as numbers
use Rattle.invariant_codec.specs.Segments as segments
use Rattle.invariant_codec.specs.Spelling as spelled
use Rattle.invariant_codec.specs.States as states
use Rattle.invariant_codec.specs.Symbols as symbols

all_same : {X : Type 0} (f g : X → List ℕ) → ((x : X) → f x ≡ g x) → (xs : List X) → flat_map f xs ≡ flat_map g xs
all_same f g same [] = refl
all_same f g same (x ∷ xs) = ap₂ (λ (a b : List ℕ). a ++ b) (same x) (all_same f g same xs)

-- ---- numbers

expr_same : (count : ℕ) (e : Expr) → (numbers.expr count).spell e ≡ spelled.expr_bytes e
unfolding numbers.expr numbers.name numbers.number numbers.int64 spelled.expr_bytes
expr_same count e = refl

near_same : (count : ℕ) (e : Expr) → (numbers.near_expr count).spell e ≡ spelled.expr_bytes e
unfolding numbers.near_expr numbers.name numbers.number numbers.int64 spelled.expr_bytes
near_same count e = refl

hole_same : (lo hi : ℤ) (hole : Option ℤ) → (numbers.hole lo hi).spell hole ≡ spelled.hole_bytes hole
unfolding numbers.hole numbers.flag numbers.byte numbers.int32 numbers.number
hole_same lo hi None = refl
hole_same lo hi (Some n) = refl

range_same : (r : Interval) → numbers.range.spell r ≡ spelled.range_bytes r
unfolding numbers.range spelled.range_bytes numbers.int32 numbers.number
range_same r = ap (λ (t : List ℕ). spelled.int32_bytes r.lo ++ (spelled.int32_bytes r.hi ++ t))
    (hole_same r.lo r.hi r.hole)

ranges_same : (rs : List Interval) → numbers.ranges.spell rs ≡ spelled.counted_bytes 2 spelled.range_bytes rs
unfolding numbers.ranges numbers.number
ranges_same rs = ap (λ (t : List ℕ). little_bytes 2 (length rs) ++ t)
    (all_same numbers.range.spell spelled.range_bytes range_same rs)

-- ---- segments

bound_same : (count : ℕ) (exprs : List Expr) → (segments.bound count).spell exprs ≡ spelled.bound_bytes exprs
unfolding segments.bound spelled.bound_bytes numbers.byte
bound_same count exprs = ap (λ (t : List ℕ). little_bytes 1 (length exprs) ++ t)
    (all_same (numbers.expr count).spell spelled.expr_bytes (expr_same count) exprs)

segment_same : (count : ℕ) (length_is : Expr) (s : segments.Segment)
    → segments.segment_bytes count length_is s ≡ spelled.segment_bytes s.content s.may_be_empty s.end
unfolding segments.segment segments.next_bound spelled.segment_bytes numbers.flag numbers.byte
segment_same count length_is s = ap₂ (λ (a b : List ℕ). a ++ (spelled.flag_bytes s.may_be_empty ++ b))
    (range_same s.content) (bound_same count s.end)

each_same : (count : ℕ) (length_is : Expr) (contents : List Interval) (marks : List Bool) (ends : List (List Expr))
    → flat_map (segments.segment_bytes count length_is)
    (segments.joined contents marks ends) ≡ spelled.each_segment_bytes contents marks ends
each_same count length_is [] marks ends = refl
each_same count length_is (c ∷ contents) [] ends = refl
each_same count length_is (c ∷ contents) (m ∷ marks) [] = refl
each_same count length_is (c ∷ contents) (m ∷ marks) (e ∷ ends) =
    ap₂ (λ (a b : List ℕ). a ++ b) (segment_same count length_is (segments.segment_of c m e))
    (each_same count length_is contents marks ends)

first_same : (bounds : List (List Expr)) → segments.first_of bounds ≡ get_or bounds 0 []
first_same [] = refl
first_same (first ∷ ends) = refl

after_same : (bounds : List (List Expr)) → segments.after_first bounds ≡ drop 1 bounds
after_same [] = refl
after_same (first ∷ ends) = refl

segments_same : (count : ℕ) (length_is : Expr) (lists : Segments)
    → (segments.segments count length_is).spell lists ≡ spelled.segments_bytes lists
unfolding segments.segments segments.first_bound spelled.segments_bytes numbers.byte
segments_same count length_is lists =
    ap₂ (λ (a b : List ℕ). little_bytes 1 (length lists.contents) ++ (a ++ b))
    (bound_same count (segments.first_of lists.bounds) ∙ ap spelled.bound_bytes (first_same lists.bounds))
    (each_same count length_is lists.contents lists.marks (segments.after_first lists.bounds)
    ∙ ap (λ ends. spelled.each_segment_bytes lists.contents lists.marks ends) (after_same lists.bounds))

array_same : (count : ℕ) (a : segments.KnownArray)
    → (segments.array count).spell a ≡ spelled.reference_bytes a.reference ++ spelled.segments_bytes a.segments
unfolding segments.array segments.array_place segments.nullness_format spelled.reference_bytes numbers.byte
array_same count a =
    let place = little_bytes 1 (place_number a.reference.place) in
    let nullness = little_bytes 1 (segments.nullness_number a.reference.nullness) in
    ap₂ (λ (x y : List ℕ). place ++ (nullness ++ (x ++ y))) (near_same count a.reference.length)
    (segments_same count a.reference.length a.segments)
    ∙ sym (append_assoc place (nullness ++ spelled.expr_bytes a.reference.length) (spelled.segments_bytes a.segments)
    ∙ ap (λ (t : List ℕ). place ++ t) (append_assoc nullness (spelled.expr_bytes a.reference.length)
    (spelled.segments_bytes a.segments)))

arrays_same : (count : ℕ) (references : List Reference) (contents : Contents)
    → flat_map (segments.array count).spell
    (segments.with_contents references contents) ≡ spelled.each_reference_bytes references contents
arrays_same count [] contents = refl
arrays_same count (r ∷ references) [] = refl
arrays_same count (r ∷ references) (s ∷ contents) = ap₂ (λ (a b : List ℕ). a ++ b)
    (array_same count (record { reference = r; segments = s })) (arrays_same count references contents)

-- ---- symbols

var_same : (count references : ℕ) (v : Var) → (symbols.var count references).spell v ≡ spelled.var_bytes v
unfolding symbols.var symbols.address spelled.var_bytes numbers.byte numbers.name numbers.number
var_same count references (vars.Number e) = ap (λ (t : List ℕ). little_bytes 1 1 ++ t) (near_same count e)
var_same count references (vars.Reference r) = refl
var_same count references vars.Text = append-nil (little_bytes 1 3)
var_same count references (vars.Address r e) =
    ap (λ (t : List ℕ). little_bytes 1 4 ++ (little_bytes 2 r ++ t)) (near_same count e)

row_same : (count : ℕ) (r : BoundRow) → (symbols.row count).spell r ≡ spelled.row_bytes r
unfolding symbols.row symbols.other_symbol spelled.row_bytes numbers.proper_name numbers.number numbers.int64
row_same count r = sym (append_assoc (little_bytes 2 r.s) (little_bytes 2 r.t) (spelled.int64_bytes r.k))

two_same : (count tag : ℕ) (d : Def)
    → (symbols.def_with_two count tag).spell d ≡ spelled.two_bytes (symbols.first_in d) (symbols.second_in d)
unfolding symbols.def_with_two
two_same count tag d = ap₂ (λ (a b : List ℕ). a ++ b) (expr_same count (symbols.first_in d))
    (expr_same count (symbols.second_in d))

def_same : (count references : ℕ) (d : Def) → (symbols.def count references).spell d ≡ spelled.def_bytes d
unfolding symbols.def symbols.null_test spelled.def_bytes numbers.byte numbers.name numbers.number numbers.flag
def_same count references (Eq a b) = ap (λ (t : List ℕ). little_bytes 1 1 ++ t) (two_same count 1 (Eq a b))
def_same count references (Lt a b) = ap (λ (t : List ℕ). little_bytes 1 2 ++ t) (two_same count 2 (Lt a b))
def_same count references (LtUn a b) = ap (λ (t : List ℕ). little_bytes 1 3 ++ t) (two_same count 3 (LtUn a b))
def_same count references (NullTest r is) = refl
def_same count references (Sub a b) = ap (λ (t : List ℕ). little_bytes 1 5 ++ t) (two_same count 5 (Sub a b))

definition_same : (count references : ℕ) (d : symbols.Definition)
    → (symbols.definition count references).spell d ≡ spelled.definition_bytes d
unfolding symbols.definition spelled.definition_bytes numbers.proper_name numbers.number
definition_same count references d = ap (λ (t : List ℕ). little_bytes 2 d.0 ++ t) (def_same count references d.1)

pair_same : (references : ℕ) (p : Pair) → (symbols.pair references).spell p ≡ spelled.pair_bytes p
unfolding symbols.pair spelled.pair_bytes numbers.proper_name numbers.number
pair_same references p = refl

-- ---- states

pub known_same : (parts : StateParts) → length (states.arrays_in parts) ≡ length parts.references
    → states.known.spell parts ≡ spelled.known_bytes parts
unfolding states.known segments.arrays symbols.variables symbols.rows symbols.definitions symbols.pairs
    spelled.known_bytes numbers.number
known_same parts size =
    let count = length parts.ranges in
    let references = length (states.arrays_in parts) in
    let variables = spelled.counted_bytes 2 spelled.var_bytes parts.variables in
    let bounds = spelled.counted_bytes 4 spelled.row_bytes parts.bounds in
    let defs = spelled.counted_bytes 2 spelled.definition_bytes parts.definitions in
    let apart = spelled.counted_bytes 4 spelled.pair_bytes parts.apart in
    let e6 = ap (λ (t : List ℕ). little_bytes 4 (length parts.apart) ++ t)
    (all_same (symbols.pair references).spell spelled.pair_bytes (pair_same references) parts.apart) in
    let e5 = ap (λ (t : List ℕ). little_bytes 2 (length parts.definitions) ++ t)
    (all_same (symbols.definition count references).spell spelled.definition_bytes
    (definition_same count references) parts.definitions) in
    let e4 = ap (λ (t : List ℕ). little_bytes 4 (length parts.bounds) ++ t)
    (all_same (symbols.row count).spell spelled.row_bytes (row_same count) parts.bounds) in
    let e3 = ap (λ (t : List ℕ). little_bytes 2 (length parts.variables) ++ t)
    (all_same (symbols.var count references).spell spelled.var_bytes (var_same count references) parts.variables) in
    let later = ap₂ (λ (a b : List ℕ). a ++ b) e3
    (ap₂ (λ (a b : List ℕ). a ++ b) e4 (ap₂ (λ (a b : List ℕ). a ++ b) e5 e6)) in
    let each = ap₂ (λ (a b : List ℕ). a ++ b) (arrays_same count parts.references parts.contents) later in
    ap₂ (λ (a b : List ℕ). a ++ b) (ranges_same parts.ranges)
    (append_assoc (little_bytes 2 references) (flat_map (segments.array count).spell (states.arrays_in parts)) _
    ∙ ap₂ (λ (n : ℕ) (t : List ℕ). little_bytes 2 n ++ t) size each)

-- There are as many references with their segments as references.
pub arrays_size : (parts : StateParts) → states.known.IsSpelled parts
    → length (states.arrays_in parts) ≡ length parts.references
unfolding states.known
arrays_size parts spelled =
    let is : parts ≡ states.reached_parts parts.ranges
    (states.arrays_in parts) parts.variables parts.bounds parts.definitions parts.apart = spelled.1.1.1.1.1.1 in
    sym (ap (λ (p : StateParts). length p.references) is ∙ length-map (states.arrays_in parts) (λ a. a.reference))
