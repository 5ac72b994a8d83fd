-- The tests of lists decide whether they are those of a state.
use Rattle.std.proofs.Common.{◌≡◌, ℕ, ◌+◌, ◌≤◌, ◌<◌, ℤ, pos, negsuc, ◌≤ℤ◌, Bool, true, false, ◌&&◌, int_le, nat_le, Decides, List, [], ◌∷◌, length, refl, sym, subst, ◌∙◌, arith}
use Rattle.std.specs.Prelude.{IsTrue, ◌↔◌, Result, Ok, Err, IfOk, Some}
use Rattle.std.specs.List.{AllByRecursion, list_all}
use Rattle.std.proofs.lemmas.Bool.{true≢false, true_from_ne_false}
use Rattle.std.proofs.lemmas.Bool.Decides.{Decides-and, Decides-like}
use Rattle.std.proofs.lemmas.Int.{ints}
use Rattle.cil_model.specs.declared.place.Place.{Place}
use Rattle.cil_model.specs.declared.place.Place.TheVariants as places
use Rattle.domain_api.specs.declared.expr.Expr.{Expr}
use Rattle.number_facts.specs.Holds.{Names, NamesOwn}
use Rattle.pentagon_domain.specs.Gaps.{AreBelow}
use Rattle.pentagon_domain.specs.declared.bound_row.BoundRow.{BoundRow}
use Rattle.symbolic_values.specs.declared.def.Def.{Def}
use Rattle.symbolic_values.specs.declared.def.Def.TheVariants.{Eq, Lt, LtUn, NullTest, Sub}
use Rattle.alias_facts.specs.PairsOf.{Pair}
use Rattle.abs_state.specs.FormTests.{has, is_number, is_var, is_array_place, is_reference, is_def, is_definition, is_bound, is_pair, rise_from, are_rising, has_numbers, has_references, names_known, has_contents, has_form}
use Rattle.array_contents.proofs.FormSteps.{formed_then, formed_where}
use Rattle.array_contents.proofs.NarrowTest.{all_narrow}
use Rattle.array_contents.specs.Contents.{AreFormed}
use Rattle.array_contents.specs.FormTest.{is_narrow}
use Rattle.state_facts.specs.Forms.{AreRising, EndsBy, HasForm, IsArrayPlace, IsNumber, IsReference, IsVar, SymbolsRise, TestsOf, lengths_of}
use Rattle.state_facts.specs.StateFacts.{StateFacts}
use Rattle.abs_state.specs.StateParts.{StateParts, AreOrdered, AreParts, known_of, parts_of}
use Rattle.frame_names.specs.declared.reference.Reference.{Reference}
use Rattle.frame_names.specs.declared.var.Var.{Var}
use Rattle.frame_names.specs.declared.var.Var.TheVariants as vars

-- ---- tests

le_decides : (m n : ℤ) → Decides (int_le m n) (m ≤ℤ n)
le_decides m n = (λ is. grind (arith, ints, is), λ below. true_from_ne_false (int_le m n) (λ e. grind (arith, ints, below, e)))

at_most_decides : (m n : ℕ) → Decides (nat_le m n) (m ≤ n)
at_most_decides m n = (λ is. grind (arith, is), λ below. true_from_ne_false (nat_le m n) (λ e. grind (arith, below, e)))

number_decides : (symbols : ℕ) (e : Expr) → Decides (is_number symbols e) (IsNumber symbols e)
number_decides symbols e = Decides-like _
    (λ is. record { there = is.0; near = record { least = is.1.0; greatest = is.1.1 } })
    (λ number. (number.there, (number.near.least, number.near.greatest)))
    (Decides-and (nat_le e.sym symbols) _ (at_most_decides e.sym symbols)
    (Decides-and (int_le (negsuc 4294967295) e.k) _ (le_decides (negsuc 4294967295) e.k) (le_decides e.k (pos 4294967296))))

var_decides : (symbols references : ℕ) (v : Var) → Decides (is_var symbols references v) (IsVar symbols references v)
var_decides symbols references (vars.Number e) = number_decides symbols e
var_decides symbols references (vars.Reference r) = at_most_decides r references
var_decides symbols references vars.Text = (λ is. tt, λ is. refl)
var_decides symbols references (vars.Address r e) =
    Decides-and (nat_le r references) (is_number symbols e) (at_most_decides r references) (number_decides symbols e)

place_decides : (p : Place) → Decides (is_array_place p) (IsArrayPlace p)
place_decides places.Void = (λ is. absurd (true≢false (sym is)), λ is. elim is [ ])
place_decides places.Bool = (λ is. absurd (true≢false (sym is)), λ is. elim is [ ])
place_decides places.Int = (λ is. absurd (true≢false (sym is)), λ is. elim is [ ])
place_decides places.Bools = (λ is. tt, λ is. refl)
place_decides places.Ints = (λ is. tt, λ is. refl)

reference_decides : (symbols : ℕ) (r : Reference) → Decides (is_reference symbols r) (IsReference symbols r)
reference_decides symbols r = Decides-like _ (λ is. record { place = is.0; length_is = is.1 }) (λ is. (is.place, is.length_is))
    (Decides-and (is_array_place r.place) _ (place_decides r.place) (number_decides symbols r.length))

-- a definition names what is there: symbols, and references
both_there : (symbols : ℕ) (a b : Expr) → Decides (has symbols a && has symbols b) ((a.sym ≤ symbols) × (b.sym ≤ symbols))
both_there symbols a b = Decides-and (has symbols a) (has symbols b) (at_most_decides a.sym symbols) (at_most_decides b.sym symbols)

with_none : {P : Type 0} (b : Bool) → Decides b P → Decides b (P × Unit {0})
with_none b d = Decides-like b (λ p. (p, tt)) (λ p. p.0) d

def_decides : (symbols references : ℕ) (def : Def) → Decides (is_def symbols references def) (Names symbols def × TestsOf references def)
def_decides symbols references (Eq a b) = with_none _ (both_there symbols a b)
def_decides symbols references (Lt a b) = with_none _ (both_there symbols a b)
def_decides symbols references (LtUn a b) = with_none _ (both_there symbols a b)
def_decides symbols references (Sub a b) = with_none _ (both_there symbols a b)
def_decides symbols references (NullTest r is) = Decides-like _ (λ p. (tt, p)) (λ p. p.1) (at_most_decides r references)

abbrev IsOwn : ℕ → ℕ → (ℕ × Def) → Type 0
IsOwn symbols references d = (d.0 ≤ symbols) × (Names symbols d.1 × TestsOf references d.1)

definition_decides : (symbols references : ℕ) (d : ℕ × Def) → Decides (is_definition symbols references d) (IsOwn symbols references d)
definition_decides symbols references d =
    Decides-and (nat_le d.0 symbols) _ (at_most_decides d.0 symbols) (def_decides symbols references d.1)

bound_decides : (symbols : ℕ) (row : BoundRow) → Decides (is_bound symbols row) (AreBelow (symbols + 1) row)
bound_decides symbols row = Decides-like _
    (λ is. record { from = omega (arith, is.0); to = omega (arith, is.1) })
    (λ below. (omega (arith, below.from), omega (arith, below.to)))
    (Decides-and (nat_le row.s symbols) _ (at_most_decides row.s symbols) (at_most_decides row.t symbols))

pair_decides : (references : ℕ) (p : Pair) → Decides (is_pair references p) (EndsBy references p)
pair_decides references p = Decides-and (nat_le p.0 references) _ (at_most_decides p.0 references) (at_most_decides p.1 references)

all_decide : {X : Type 0} (test : X → Bool) (P : X → Type 0) → ((x : X) → Decides (test x) (P x)) → (xs : List X) → Decides (list_all test xs) (AllByRecursion P xs)
all_decide test P each [] = (λ is. tt, λ all. refl)
all_decide test P each (x ∷ xs) = Decides-and (test x) (list_all test xs) (each x) (all_decide test P each xs)

-- ---- definitions rise

abbrev RiseFrom : ℕ → List (ℕ × Def) → Type 0
RiseFrom least definitions = AllByRecursion (λ d. least ≤ d.0) definitions × SymbolsRise definitions

later_all : (least more : ℕ) (definitions : List (ℕ × Def)) → least ≤ more → AllByRecursion (λ d. more ≤ d.0) definitions → AllByRecursion (λ d. least ≤ d.0) definitions
later_all least more [] le all = tt
later_all least more (d ∷ definitions) le all = (omega (arith, le, all.0), later_all least more definitions le all.1)

above : (s : ℕ) (definitions : List (ℕ × Def)) → AllByRecursion (λ d. s + 1 ≤ d.0) definitions → AllByRecursion (λ d. s < d.0) definitions
above s [] all = tt
above s (d ∷ definitions) all = (omega (arith, all.0), above s definitions all.1)

from_above : (s : ℕ) (definitions : List (ℕ × Def)) → AllByRecursion (λ d. s < d.0) definitions → AllByRecursion (λ d. s + 1 ≤ d.0) definitions
from_above s [] all = tt
from_above s (d ∷ definitions) all = (omega (arith, all.0), from_above s definitions all.1)

rise_decides : (least : ℕ) (definitions : List (ℕ × Def)) → Decides (rise_from least definitions) (RiseFrom least definitions)
rise_decides least [] = (λ is. (tt, tt), λ all. refl)
rise_decides least (d ∷ definitions) = Decides-like _
    (λ is. ((is.0, later_all least (d.0 + 1) definitions (omega (arith, is.0)) is.1.0), (above d.0 definitions is.1.0, is.1.1)))
    (λ rise. (rise.0.0, (from_above d.0 definitions rise.1.0, rise.1.1)))
    (Decides-and (nat_le least d.0) _ (at_most_decides least d.0) (rise_decides (d.0 + 1) definitions))

rising_decides : (definitions : List (ℕ × Def)) → Decides (are_rising definitions) (AreRising definitions)
rising_decides definitions = rise_decides 1 definitions

-- ---- the whole

named_all : (symbols references : ℕ) (definitions : List (ℕ × Def)) → AllByRecursion (IsOwn symbols references) definitions → AllByRecursion (NamesOwn symbols) definitions
named_all symbols references [] all = tt
named_all symbols references (d ∷ definitions) all = ((all.0.0, all.0.1.0), named_all symbols references definitions all.1)

tests_all : (symbols references : ℕ) (definitions : List (ℕ × Def)) → AllByRecursion (IsOwn symbols references) definitions
    → AllByRecursion (λ d. TestsOf references d.1) definitions
tests_all symbols references [] all = tt
tests_all symbols references (d ∷ definitions) all = (all.0.1.1, tests_all symbols references definitions all.1)

both_all : (symbols references : ℕ) (definitions : List (ℕ × Def)) → AllByRecursion (NamesOwn symbols) definitions
    → AllByRecursion (λ d. TestsOf references d.1) definitions → AllByRecursion (IsOwn symbols references) definitions
both_all symbols references [] named tests = tt
both_all symbols references (d ∷ definitions) named tests = ((named.0.0, (named.0.1, tests.0)), both_all symbols references definitions named.1 tests.1)

contents_decide : (parts : StateParts)
    → Decides (has_contents parts) (AreFormed (length parts.ranges) (lengths_of parts.references) parts.contents)
contents_decide parts =
    let symbols = length parts.ranges in
    (formed_then symbols (lengths_of parts.references) parts.contents, formed_where symbols (lengths_of parts.references) parts.contents)

-- A test that tells whether there are segments for each reference is this one.
pub contents_test : (parts : StateParts) (lengths : List Expr) (is : Bool) → lengths ≡ lengths_of parts.references
    → (IsTrue is ↔ AreFormed (length parts.ranges) lengths parts.contents) → is ≡ has_contents parts
contents_test parts lengths is are told = told_by is (subst (λ l. IsTrue is ↔ AreFormed (length parts.ranges) l parts.contents) are told)
  where
    by : (b : Bool) → has_contents parts ≡ b → (AreFormed (length parts.ranges) (lengths_of parts.references) parts.contents → false ≡ true) → false ≡ b
    by true so told = told ((contents_decide parts).0 so)
    by false so told = refl

    told_by : (is : Bool) → (IsTrue is ↔ AreFormed (length parts.ranges) (lengths_of parts.references) parts.contents) → is ≡ has_contents parts
    told_by true told = sym ((contents_decide parts).1 (told.0 refl))
    told_by false told = by (has_contents parts) refl told.1

pub form_decides : (parts : StateParts) → Decides (has_form parts) (HasForm (known_of parts))
unfolding has_numbers has_references
form_decides parts =
    let symbols = length parts.ranges in
    let references = length parts.references in
    Decides-like _
    (λ is. record {
      narrow = is.0.0.0;
      named = record { bounds = is.0.0.1.1.1; definitions = named_all symbols references parts.definitions is.0.0.1.1.0 };
      rising = is.0.0.1.0;
      tests = tests_all symbols references parts.definitions is.0.0.1.1.0;
      variables = is.0.1.0;
      references = is.0.1.1.0;
      pairs = is.0.1.1.1;
      contents = is.1;
    })
    (λ form. (
      (
        (form.narrow, (form.rising, (both_all symbols references parts.definitions form.named.definitions form.tests, form.named.bounds))),
        (form.variables, (form.references, form.pairs)),
      ),
      form.contents,
    ))
    (Decides-and (names_known parts) _
    (Decides-and (has_numbers parts) _
    (Decides-and (list_all is_narrow parts.ranges) _ (all_narrow parts.ranges)
    (Decides-and (are_rising parts.definitions) _ (rising_decides parts.definitions)
    (Decides-and (list_all (is_definition symbols references) parts.definitions) _
    (all_decide (is_definition symbols references) (IsOwn symbols references) (definition_decides symbols references) parts.definitions)
    (all_decide (is_bound symbols) (AreBelow (symbols + 1)) (bound_decides symbols) parts.bounds))))
    (Decides-and (list_all (is_var symbols references) parts.variables) _
    (all_decide (is_var symbols references) (IsVar symbols references) (var_decides symbols references) parts.variables)
    (Decides-and (list_all (is_reference symbols) parts.references) _
    (all_decide (is_reference symbols) (IsReference symbols) (reference_decides symbols) parts.references)
    (all_decide (is_pair references) (EndsBy references) (pair_decides references) parts.apart))))
    (contents_decide parts))

pub formed : (parts : StateParts) (known : StateFacts) → known ≡ known_of parts → has_form parts ≡ true → HasForm known
formed parts known is has = rw is ((form_decides parts).0 has)

-- lists that have not the form are not those of a state
pub refused : (parts : StateParts) → parts.reached ≡ true → has_form parts ≡ false → (false ≡ true → AreParts parts) × (AreParts parts → false ≡ true)
refused parts reached lacks = (
  λ is. absurd (true≢false (sym is)),
  λ are. sym lacks ∙ (form_decides parts).1 ((are.reached reached).form),
)

pub made_exactly : (parts : StateParts) → parts.reached ≡ true → has_form parts ≡ true → AreOrdered (known_of parts)
    → (true ≡ true → AreParts parts) × (AreParts parts → true ≡ true)
made_exactly parts reached has ordered = (
  λ is. record {
    reached = λ here. record { form = (form_decides parts).0 has; ordered = ordered };
    not_reached = λ not. absurd (true≢false (sym reached ∙ not));
  },
  λ are. refl,
)

-- what is listed of a state in which something is reached are its parts
pub listed_parts : {E : Type 0} (result : Result StateParts E) (known : StateFacts) → HasForm known
    → IfOk result (λ parts. parts ≡ parts_of (Some known)) → IfOk result (λ parts. AreOrdered known) → IfOk result AreParts
listed_parts (Ok parts) known form is ordered = subst AreParts (sym is) (record {
  reached = λ here. record { form = form; ordered = ordered };
  not_reached = λ not. absurd (true≢false not);
})
listed_parts (Err e) known form is ordered = tt
