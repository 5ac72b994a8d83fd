-- What is so by one choice is so by another one that agrees on what is there, also over a heap whose arrays hold other
-- items and where more have come.
use Rattle.std.proofs.Common.{◌≡◌, ℕ, zero, suc, ◌≤◌, ◌<◌, ℤ, pos, ◌+ℤ◌, Bool, true, Option, Some, None, List, [], ◌∷◌, ◌++◌, length, refl, sym, ap, subst, ◌∙◌, arith}
use Rattle.std.specs.Prelude.{set, take, slice_get}
use Rattle.std.specs.List.{AllByRecursion}
use Rattle.std.proofs.lemmas.Bool.{false≢true}
use Rattle.std.proofs.lemmas.List.{length-map}
use Rattle.alias_facts.specs.Arrays.{AllDiffer, is_no_array}
use Rattle.alias_facts.specs.PairsOf.{Pair}
use Rattle.array_contents.proofs.FormLaws.{formed_length}
use Rattle.array_contents.proofs.HeldLaws.{held_agree}
use Rattle.array_contents.specs.Contents.{AreHeld, Contents}
use Rattle.cil_model.proofs.HeapsKept.{has_array-kept, keeps_itself}
use Rattle.cil_model.specs.Values.{Heap, KeepsForms, has_array}
use Rattle.cil_model.specs.declared.machine.Value.{Value}
use Rattle.cil_model.specs.declared.place.Place.{Place}
use Rattle.number_facts.specs.Facts.{Facts}
use Rattle.number_facts.specs.Holds.{Holds, HoldsWith, IsDefined}
use Rattle.number_facts.specs.Fresh.{Made}
use Rattle.symbolic_values.specs.Meaning.{told}
use Rattle.symbolic_values.specs.Worth.{worth}
use Rattle.symbolic_values.specs.declared.def.Def.{Def}
use Rattle.symbolic_values.specs.declared.def.Def.TheVariants.{Eq, Lt, LtUn, NullTest, Sub}
use Rattle.number_facts.specs.Holds.{is_below}
use Rattle.state_facts.specs.Forms.{EndsBy, IsVar, IsReference, TestsOf, HasForm, lengths_of}
use Rattle.state_facts.specs.Holds.{HasValue, HaveValues, length_in, IsSo, AreSo, HoldsBy, items_of_array}
use Rattle.state_facts.specs.Keeps.{HoldsOn}
use Rattle.state_facts.specs.Moves.{with_items}
use Rattle.state_facts.specs.StateFacts.{StateFacts, reference_at}
use Rattle.frame_names.specs.declared.reference.Reference.{Reference}
use Rattle.frame_names.specs.declared.var.Var.{Var}
use Rattle.frame_names.specs.declared.var.Var.TheVariants as vars
use Rattle.state_facts.proofs.Searching.{reference_there}

-- A choice that agrees with another one on so many symbols and references.
pub record Agree (symbols references : ℕ) (number : ℕ → ℤ) (array : ℕ → Option ℕ) (later : ℕ → ℤ) (later_array : ℕ → Option ℕ) : Type 0 where
  pub numbers : (s : ℕ) → s ≤ symbols → later s ≡ number s
  pub arrays : (r : ℕ) → r ≤ references → later_array r ≡ array r

-- ---- values

value_agrees : (symbols references : ℕ) (number later : ℕ → ℤ) (array later_array : ℕ → Option ℕ) (v : Var) (x : Value)
    → Agree symbols references number array later later_array → IsVar symbols references v → HasValue number array v x → HasValue later later_array v x
value_agrees symbols references number later array later_array (vars.Number e) x agree is has =
    has ∙ ap (λ (n : ℤ). Some (n +ℤ e.k)) (sym (agree.numbers e.sym is.there))
value_agrees symbols references number later array later_array (vars.Reference r) x agree is has = has ∙ ap (λ (a : Option ℕ). Some a) (sym (agree.arrays r is))
value_agrees symbols references number later array later_array vars.Text x agree is has = has
value_agrees symbols references number later array later_array (vars.Address r e) x agree is has =
    has ∙ ap (λ (a : Option ℕ). Some (a, number e.sym +ℤ e.k)) (sym (agree.arrays r is.0))
    ∙ ap (λ (n : ℤ). Some (later_array r, n +ℤ e.k)) (sym (agree.numbers e.sym is.1.there))

pub values_agree : (symbols references : ℕ) (number later : ℕ → ℤ) (array later_array : ℕ → Option ℕ) (vs : List Var) (xs : List Value)
    → Agree symbols references number array later later_array → AllByRecursion (IsVar symbols references) vs → HaveValues number array vs xs
    → HaveValues later later_array vs xs
values_agree symbols references number later array later_array [] [] agree are have = tt
values_agree symbols references number later array later_array [] (x ∷ xs) agree are have = elim have [ ]
values_agree symbols references number later array later_array (v ∷ vs) [] agree are have = elim have [ ]
values_agree symbols references number later array later_array (v ∷ vs) (x ∷ xs) agree are have = (
  value_agrees symbols references number later array later_array v x agree are.0 have.0,
  values_agree symbols references number later array later_array vs xs agree are.1 have.1,
)

pub have_pushed : (number : ℕ → ℤ) (array : ℕ → Option ℕ) (vs : List Var) (xs : List Value) (v : Var) (x : Value) → HaveValues number array vs xs
    → HasValue number array v x → HaveValues number array (vs ++ v ∷ []) (xs ++ x ∷ [])
have_pushed number array [] [] v x have has = (has, tt)
have_pushed number array [] (y ∷ xs) v x have has = elim have [ ]
have_pushed number array (w ∷ vs) [] v x have has = elim have [ ]
have_pushed number array (w ∷ vs) (y ∷ xs) v x have has = (have.0, have_pushed number array vs xs v x have.1 has)

pub have_before : (number : ℕ → ℤ) (array : ℕ → Option ℕ) (vs : List Var) (xs : List Value) (v : Var) (x : Value)
    → HaveValues number array (vs ++ v ∷ []) (xs ++ x ∷ []) → HaveValues number array vs xs × HasValue number array v x
have_before number array [] [] v x have = (tt, have.0)
have_before number array [] (y ∷ []) v x have = elim have.1 [ ]
have_before number array [] (y ∷ z ∷ xs) v x have = elim have.1 [ ]
have_before number array (w ∷ []) [] v x have = elim have.1 [ ]
have_before number array (w ∷ u ∷ vs) [] v x have = elim have.1 [ ]
have_before number array (w ∷ vs) (y ∷ xs) v x have =
    let rest = have_before number array vs xs v x have.1 in ((have.0, rest.0), rest.1)

pub have_set : (number : ℕ → ℤ) (array : ℕ → Option ℕ) (vs : List Var) (xs : List Value) (i : ℕ) (v : Var) (x : Value) → HaveValues number array vs xs
    → HasValue number array v x → HaveValues number array (set vs i v) (set xs i x)
have_set number array [] [] i v x have has = tt
have_set number array [] (y ∷ xs) i v x have has = elim have [ ]
have_set number array (w ∷ vs) [] i v x have has = elim have [ ]
have_set number array (w ∷ vs) (y ∷ xs) zero v x have has = (has, have.1)
have_set number array (w ∷ vs) (y ∷ xs) (suc i) v x have has = (have.0, have_set number array vs xs i v x have.1 has)

pub have_taken : (number : ℕ → ℤ) (array : ℕ → Option ℕ) (n : ℕ) (vs : List Var) (xs : List Value) → HaveValues number array vs xs
    → HaveValues number array (take n vs) (take n xs)
have_taken number array zero [] [] have = tt
have_taken number array zero [] (x ∷ xs) have = tt
have_taken number array zero (v ∷ vs) [] have = tt
have_taken number array zero (v ∷ vs) (x ∷ xs) have = tt
have_taken number array (suc n) [] [] have = tt
have_taken number array (suc n) [] (x ∷ xs) have = elim have [ ]
have_taken number array (suc n) (v ∷ vs) [] have = elim have [ ]
have_taken number array (suc n) (v ∷ vs) (x ∷ xs) have = (have.0, have_taken number array n vs xs have.1)

pub as_many : (number : ℕ → ℤ) (array : ℕ → Option ℕ) (vs : List Var) (xs : List Value) → HaveValues number array vs xs → length vs ≡ length xs
as_many number array [] [] have = refl
as_many number array [] (x ∷ xs) have = elim have [ ]
as_many number array (v ∷ vs) [] have = elim have [ ]
as_many number array (v ∷ vs) (x ∷ xs) have = ap suc (as_many number array vs xs have.1)

-- ---- arrays

pub has_there : (heap : Heap) (place : Place) (i : ℕ) → has_array heap place i ≡ true → i < length heap
has_there [] place zero has = absurd (false≢true has)
has_there [] place (suc i) has = absurd (false≢true has)
has_there (cell ∷ heap) place zero has = omega arith
has_there (cell ∷ heap) place (suc i) has = let rest = has_there heap place i has in omega (arith, rest)

pub length_kept : (old new : Heap) (i : ℕ) → KeepsForms old new → i < length old → length_in new i ≡ length_in old i
length_kept [] new i kept there = absurd (omega (arith, there))
length_kept (cell ∷ old) [] i kept there = elim kept [ ]
length_kept (cell ∷ old) (now ∷ new) zero kept there = kept.1
length_kept (cell ∷ old) (now ∷ new) (suc i) kept there = length_kept old new i kept.2 (omega (arith, there))

so_kept : (old new : Heap) (number later : ℕ → ℤ) (symbols : ℕ) (r : Reference) (array : Option ℕ) → KeepsForms old new
    → ((s : ℕ) → s ≤ symbols → later s ≡ number s) → IsReference symbols r → IsSo old number r array → IsSo new later r array
so_kept old new number later symbols r None kept agrees is so = record {
  fits = tt;
  agrees = so.agrees;
  length_is = ap (λ (n : ℤ). n +ℤ r.length.k) (agrees r.length.sym is.length_is.there) ∙ so.length_is;
}
so_kept old new number later symbols r (Some i) kept agrees is so = record {
  fits = has_array-kept old new r.place i kept so.fits;
  agrees = so.agrees;
  length_is = ap (λ (n : ℤ). n +ℤ r.length.k) (agrees r.length.sym is.length_is.there) ∙ so.length_is
      ∙ ap (λ (n : ℕ). pos n) (sym (length_kept old new i kept (has_there old r.place i so.fits)));
}

pub reference_of_form : (references : List Reference) (symbols r : ℕ) (x : Reference) → AllByRecursion (IsReference symbols) references
    → reference_at references r ≡ Some x → IsReference symbols x
unfolding reference_at
reference_of_form references symbols zero x all is = absurd cc
reference_of_form references symbols (suc r) x all is = found references r all is
  where
    same : (y : Reference) → Some y ≡ Some x → y ≡ x
    same y is = cc

    found : (xs : List Reference) (i : ℕ) → AllByRecursion (IsReference symbols) xs → slice_get xs i ≡ Some x → IsReference symbols x
    found [] zero each there = absurd cc
    found [] (suc i) each there = absurd cc
    found (y ∷ xs) zero each there = subst (IsReference symbols) (same y there) each.0
    found (y ∷ xs) (suc i) each there = found xs i each.1 there

pub references_agree : (old new : Heap) (symbols : ℕ) (number later : ℕ → ℤ) (array later_array : ℕ → Option ℕ) (references : List Reference)
    → Agree symbols (length references) number array later later_array → KeepsForms old new → AllByRecursion (IsReference symbols) references
    → AreSo old number array references → AreSo new later later_array references
references_agree old new symbols number later array later_array references agree kept are so = λ r x is.
    let there = reference_there references r x is in
    let same : later_array r ≡ array r = agree.arrays r (omega (arith, there.0, there.1)) in
    subst (λ (a : Option ℕ). IsSo new later x a) (sym same)
    (so_kept old new number later symbols x (array r) kept agree.numbers (reference_of_form references symbols r x are is) (so r x is))

pub pairs_agree : (symbols references : ℕ) (number later : ℕ → ℤ) (array later_array : ℕ → Option ℕ) (pairs : List Pair)
    → Agree symbols references number array later later_array → AllByRecursion (EndsBy references) pairs → AllDiffer array pairs → AllDiffer later_array pairs
pairs_agree symbols references number later array later_array [] agree ends differ = tt
pairs_agree symbols references number later array later_array (p ∷ pairs) agree ends differ = (
  λ n first second. differ.0 n (sym (agree.arrays p.0 ends.0.0) ∙ first) (sym (agree.arrays p.1 ends.0.1) ∙ second),
  pairs_agree symbols references number later array later_array pairs agree ends.1 differ.1,
)

-- ---- definitions, where references are null as before

told_agrees : (number : ℕ → ℤ) (references : ℕ) (is_null later_null : ℕ → Bool) (def : Def) → ((r : ℕ) → r ≤ references → later_null r ≡ is_null r)
    → TestsOf references def → told is_below number later_null def ≡ told is_below number is_null def
told_agrees number references is_null later_null (Eq a b) agrees tests = refl
told_agrees number references is_null later_null (Lt a b) agrees tests = refl
told_agrees number references is_null later_null (LtUn a b) agrees tests = refl
told_agrees number references is_null later_null (NullTest r is) agrees tests = rw (agrees r tests) refl
told_agrees number references is_null later_null (Sub a b) agrees tests = refl

defined_agree : (number : ℕ → ℤ) (references : ℕ) (is_null later_null : ℕ → Bool) (definitions : List (ℕ × Def))
    → ((r : ℕ) → r ≤ references → later_null r ≡ is_null r) → AllByRecursion (λ d. TestsOf references d.1) definitions
    → AllByRecursion (IsDefined number is_null) definitions → AllByRecursion (IsDefined number later_null) definitions
defined_agree number references is_null later_null [] agrees tests defined = tt
defined_agree number references is_null later_null (d ∷ definitions) agrees tests defined = (
  defined.0 ∙ sym (told_agrees number references is_null later_null d.1 agrees tests.0),
  defined_agree number references is_null later_null definitions agrees tests.1 defined.1,
)

pub facts_agree : (facts : Facts) (number : ℕ → ℤ) (references : ℕ) (is_null later_null : ℕ → Bool) → ((r : ℕ) → r ≤ references → later_null r ≡ is_null r)
    → AllByRecursion (λ d. TestsOf references d.1) facts.definitions → Holds facts number is_null → Holds facts number later_null
facts_agree facts number references is_null later_null agrees tests holds = record {
  allowed = holds.allowed;
  definitions = defined_agree number references is_null later_null facts.definitions agrees tests holds.definitions;
}

-- ---- items

-- there are as many references as lengths of them
as_many_lengths : (references : List Reference) → length (lengths_of references) ≡ length references
as_many_lengths references = length-map references (λ (r : Reference). r.length)

pub contents_agree : (known : StateFacts) (number later : ℕ → ℤ) (items after : ℕ → List ℤ) → HasForm known
    → ((s : ℕ) → s ≤ length known.facts.ranges → later s ≡ number s) → ((r : ℕ) → r ≤ length known.references → after r ≡ items r)
    → AreHeld number items known.contents → AreHeld later after known.contents
contents_agree known number later items after form agrees same held =
    held_agree (length known.facts.ranges) (lengths_of known.references) known.contents number later items after form.contents agrees
    (λ r there. same r (subst (λ (n : ℕ). r ≤ n) (as_many_lengths known.references) there)) held

pub as_many_contents : (known : StateFacts) → HasForm known → length known.contents ≡ length known.references
as_many_contents known form =
    sym (formed_length (length known.facts.ranges) (lengths_of known.references) known.contents form.contents) ∙ as_many_lengths known.references

-- ---- a number that was made

numbers_agree : (known : StateFacts) (number later : ℕ → ℤ) (array : ℕ → Option ℕ) → ((s : ℕ) → s ≤ length known.facts.ranges → later s ≡ number s)
    → Agree (length known.facts.ranges) (length known.references) number array later array
numbers_agree known number later array agrees = record { numbers = agrees; arrays = λ r there. refl }

-- over the same heap, with other variables
pub made_by : (known : StateFacts) (made : Made) (variables : List Var) (xs ys : List Value) (heap : Heap) (number : ℕ → ℤ) (array : ℕ → Option ℕ) (n : ℤ)
    → HasForm known → HoldsBy known xs heap number array → (more : HoldsWith known.facts made.facts number (λ r. is_no_array (array r)) made.expr n)
    → ((later : ℕ → ℤ) → HaveValues later array known.variables xs → worth later made.expr ≡ n → HaveValues later array variables ys)
    → HoldsBy (record known { variables = variables; facts = made.facts }) ys heap more.later array
made_by known made variables xs ys heap number array n form holds more have =
    let agree = numbers_agree known number more.later array more.agrees in
    record {
      null = holds.null;
      facts = more.holds;
      variables = have more.later
          (values_agree (length known.facts.ranges) (length known.references) number more.later array array known.variables xs agree form.variables holds.variables)
          more.is;
      references = references_agree heap heap (length known.facts.ranges) number more.later array array known.references agree (keeps_itself heap) form.references
          holds.references;
      apart = holds.apart;
      contents = contents_agree known number more.later (λ r. items_of_array heap (array r)) (λ r. items_of_array heap (array r)) form more.agrees (λ r there. refl)
          holds.contents;
    }

pub made_holds : (known : StateFacts) (made : Made) (variables : List Var) (xs ys : List Value) (heap : Heap) (number : ℕ → ℤ) (array : ℕ → Option ℕ) (n : ℤ)
    → HasForm known → HoldsBy known xs heap number array → HoldsWith known.facts made.facts number (λ r. is_no_array (array r)) made.expr n
    → ((later : ℕ → ℤ) → HaveValues later array known.variables xs → worth later made.expr ≡ n → HaveValues later array variables ys)
    → HoldsOn (Some known) (Some (record known { variables = variables; facts = made.facts })) ys heap number array
made_holds known made variables xs ys heap number array n form holds more have = record {
  later = more.later;
  later_array = array;
  agrees = more.agrees;
  agrees_arrays = λ r there. refl;
  holds = made_by known made variables xs ys heap number array n form holds more have;
}

-- ---- another heap

-- Over a heap whose arrays keep their types and lengths, and of other segments that hold there.
pub over_heap : (known : StateFacts) (items : Contents) (vs : List Value) (old new : Heap) (number : ℕ → ℤ) (array : ℕ → Option ℕ) → HasForm known
    → HoldsBy known vs old number array → KeepsForms old new → AreHeld number (λ r. items_of_array new (array r)) items
    → HoldsBy (with_items known items) vs new number array
over_heap known items vs old new number array form holds kept held = record {
  null = holds.null;
  facts = holds.facts;
  variables = holds.variables;
  references = references_agree old new (length known.facts.ranges) number number array array known.references
      (record { numbers = λ s there. refl; arrays = λ r there. refl }) kept form.references holds.references;
  apart = holds.apart;
  contents = held;
}
