-- What is spelled fits its fields.
use Rattle.std.proofs.Common.{◌≡◌, ℕ, ◌<◌, ◌^◌, ℤ, Bool, true, false, List, [], ◌∷◌, ◌++◌, length, map}
use Rattle.std.proofs.Common.{sym, subst, FitsSigned, w64}
use Rattle.std.specs.Int.{cast_unsigned}
use Rattle.std.specs.List.{AllByRecursion}
use Rattle.std.proofs.Math.Facts.{sfits_to_z}
use Rattle.std.proofs.lemmas.List.{length-map}
use Rattle.abs_state.specs.StateParts.{StateParts, parts_of}
use Rattle.array_contents.specs.Contents.{Segments}
use Rattle.domain_api.specs.declared.expr.Expr.{Expr}
use Rattle.pentagon_domain.specs.declared.bound_row.BoundRow.{BoundRow}
use Rattle.state_facts.specs.StateFacts.{State}
use Rattle.symbolic_values.specs.declared.def.Def.{Def}
use Rattle.symbolic_values.specs.declared.def.Def.TheVariants.{Eq, Lt, LtUn, NullTest, Sub}
use Rattle.invariant_codec.specs.Formats.{AllGood}
use Rattle.invariant_codec.specs.Numbers as numbers
use Rattle.invariant_codec.specs.Segments as segments
use Rattle.invariant_codec.specs.Spellable.{AreSpellable, Fits, IsShort, IsShortDef, IsSpellable}
use Rattle.invariant_codec.specs.States as states
use Rattle.invariant_codec.specs.Symbols as symbols
use Rattle.invariant_codec.proofs.GoodStates.{AreArrays, AreSegments, all_of, each_of, segment_good, state_parts}
use Rattle.invariant_codec.proofs.SmallStates.{nothing_fits}
use Rattle.invariant_codec.proofs.SpellingLaws.{arrays_size}

int64_fits : (z : ℤ) → numbers.int64.IsSpelled z → FitsSigned w64 z
unfolding numbers.int64 numbers.number
int64_fits z spelled = subst (λ (z : ℤ). FitsSigned w64 z) (sym spelled.1)
    (sfits_to_z {w = w64} {n = cast_unsigned w64 z} (record { fits = spelled.0 }))

expr_short : (count : ℕ) (e : Expr) → (numbers.expr count).IsSpelled e → IsShort e
unfolding numbers.expr
expr_short count e spelled = int64_fits e.k spelled.1.0

row_short : (count : ℕ) (r : BoundRow) → (symbols.row count).IsSpelled r → FitsSigned w64 r.k
unfolding symbols.row
row_short count r spelled = int64_fits r.k spelled.1.1.0

def_short : (count references : ℕ) (d : Def) → (symbols.def count references).IsSpelled d → IsShortDef d
unfolding symbols.def symbols.def_with_two
def_short count references (Eq a b) spelled = (expr_short count a spelled.1.0, expr_short count b spelled.1.1.0)
def_short count references (Lt a b) spelled = (expr_short count a spelled.1.0, expr_short count b spelled.1.1.0)
def_short count references (LtUn a b) spelled = (expr_short count a spelled.1.0, expr_short count b spelled.1.1.0)
def_short count references (NullTest r is) spelled = tt
def_short count references (Sub a b) spelled = (expr_short count a spelled.1.0, expr_short count b spelled.1.1.0)

definition_short : (count references : ℕ) (d : symbols.Definition) → (symbols.definition count references).IsSpelled d
    → IsShortDef d.1
unfolding symbols.definition
definition_short count references d spelled = def_short count references d.1 spelled.1.0

-- ---- segments

bound_short : (count : ℕ) (exprs : List Expr) → (segments.bound count).IsSpelled exprs → AllByRecursion IsShort exprs
unfolding segments.bound
bound_short count exprs spelled = all_of (numbers.expr count).IsSpelled IsShort (expr_short count) [] exprs spelled.1.1

ends_short : (count : ℕ) (length_is : Expr) (all : ℕ) (before segs : List segments.Segment)
    → AreSegments count length_is all before segs
    → AllByRecursion (AllByRecursion IsShort) (map (λ s. s.end) segs)
ends_short count length_is all before [] good = tt
ends_short count length_is all before (s ∷ segs) good = (
  bound_short count s.end (segment_good count length_is (segments.is_last all before) s good.0).bound,
  ends_short
      count length_is all (before ++ s ∷ []) segs good.1,
)

bounds_short : (count : ℕ) (length_is : Expr) (lists : Segments) → (segments.segments count length_is).IsSpelled lists
    → AllByRecursion (AllByRecursion IsShort) lists.bounds
unfolding segments.segments segments.first_bound
bounds_short count length_is lists spelled =
    let first = segments.first_of lists.bounds in
    let segs = segments.segments_in lists in
    let is : lists ≡ segments.segments_of first segs = spelled.1.1.1 in
    subst (λ (l : Segments). AllByRecursion (AllByRecursion IsShort) l.bounds) (sym is)
    (bound_short count first spelled.1.0.0, ends_short count length_is (length lists.contents) [] segs spelled.1.1.0.1)

contents_short : (count : ℕ) (before all : List segments.KnownArray) → AreArrays count before all
    → AllByRecursion (λ (l : Segments). AllByRecursion (AllByRecursion IsShort) l.bounds) (map (λ a. a.segments) all)
unfolding segments.array
contents_short count before [] good = tt
contents_short count before (a ∷ all)
    good = (
      bounds_short count a.reference.length a.segments good.0.1.1.1.0,
      contents_short count
          (before ++ a ∷ []) all good.1,
    )

-- ---- states

known_fits : (parts : StateParts) → states.known.IsSpelled parts → Fits parts
unfolding states.known numbers.ranges segments.arrays symbols.variables symbols.rows symbols.definitions symbols.pairs
    numbers.number
known_fits parts spelled =
    let count = length parts.ranges in
    let all = states.arrays_in parts in
    let is : parts ≡ states.reached_parts parts.ranges all parts.variables parts.bounds parts.definitions
    parts.apart = spelled.1.1.1.1.1.1 in
    record {
      symbols = spelled.0.0;
      references = subst (λ (n : ℕ). n < 2 ^ 16) (arrays_size parts spelled) spelled.1.0.0;
      variables = spelled.1.1.0.0;
      bounds = spelled.1.1.1.0.0;
      definitions = spelled.1.1.1.1.0.0;
      apart = spelled.1.1.1.1.1.0.0;
      short = record {
        bounds = each_of (symbols.row count).IsSpelled (λ r. FitsSigned w64 r.k) symbols.row_precedes
            (row_short count) [] parts.bounds spelled.1.1.1.0.1.1;
        definitions = each_of (symbols.definition count (length all)).IsSpelled
            (λ d. IsShortDef d.1) symbols.definition_precedes
            (definition_short count (length all)) [] parts.definitions spelled.1.1.1.1.0.1.1;
        contents = subst (λ (p : StateParts). AllByRecursion
            (λ (l : Segments). AllByRecursion (AllByRecursion IsShort) l.bounds) p.contents) (sym is)
            (contents_short count [] all spelled.1.0.1.1);
      };
    }

state_fits : (parts : StateParts) → states.state.IsSpelled parts → Fits parts
unfolding states.state
state_fits parts spelled = by parts.reached spelled.1
  where
    by : (reached : Bool) → (states.known_where reached).IsSpelled parts → Fits parts
    by true good = known_fits parts good
    by false good = subst Fits (sym good) nothing_fits

each_spellable : (before : List StateParts) (all : List State)
    → AllGood (λ before. states.state.IsSpelled) before (map parts_of all) → AllByRecursion IsSpellable all
each_spellable before [] good = tt
each_spellable before (s ∷ all) good = (
  record { form = state_parts (parts_of s) good.0; fits = state_fits (parts_of s) good.0 },
  each_spellable
      (before ++ parts_of s ∷ []) all good.1,
)

-- What is spelled as states are states of which all fits.
pub spellable : (all : List State) → states.states.IsSpelled (map parts_of all) → AreSpellable all
unfolding states.states numbers.number
spellable all spelled = record {
  count = subst (λ (n : ℕ). n < 2 ^ 16) (length-map all parts_of) spelled.0;
  each = each_spellable [] all spelled.1.1;
}
