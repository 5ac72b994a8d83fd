-- What is included holds: where a state holds, so does one that it is included in.
use Rattle.std.proofs.Common.{◌≡◌, ℕ, zero, suc, ◌==◌, ◌≤◌, ℤ, pos, ◌+ℤ◌, ◌-ℤ◌, Bool, true, false, ◌&&◌, ◌||◌, List, [], ◌∷◌, drop, length, map, slice_get, get_or, Option, Some, None, FitsSigned, w32, refl, sym, ap, ◌∙◌, subst, arith}
use Rattle.std.specs.Prelude.{if◌then◌else◌, option_map}
use Rattle.std.specs.List.{AllByRecursion, list_all}
use Rattle.std.specs.Ordering.{int_eq}
use Rattle.std.proofs.lemmas.Bool.{and_parts}
use Rattle.std.proofs.lemmas.Bool.Decides.{Decides-eqb, Decides-int_eq}
use Rattle.std.proofs.lemmas.Int.{ints}
use Rattle.std.proofs.lemmas.Option.{get_or_from_slice_get}
use Rattle.domain_api.specs.declared.expr.Expr.{Expr}
use Rattle.alias_facts.specs.Arrays.{AllDiffer, is_no_array}
use Rattle.alias_facts.specs.NullnessOf.{Agrees, entailed, is_null}
use Rattle.alias_facts.specs.declared.nullness.Nullness.{Nullness}
use Rattle.alias_facts.specs.declared.nullness.Nullness.TheVariants.{May, NotNull, Null}
use Rattle.alias_facts.specs.PairsOf.{Pair}
use Rattle.alias_facts.proofs.NullnessLaws.{entailed_agrees}
use Rattle.array_contents.specs.Contents.{AreHeld}
use Rattle.array_contents.proofs.FormLaws.{formed_each}
use Rattle.array_contents.proofs.MergeLaws.{included_held}
use Rattle.cil_model.specs.Places.{place_number}
use Rattle.cil_model.specs.Values.{Heap}
use Rattle.cil_model.specs.declared.machine.Value.{Value}
use Rattle.cil_model.specs.declared.place.Place.{Place}
use Rattle.frame_names.specs.ApartPairs.{cannot_be_same}
use Rattle.frame_names.specs.Binding.{FrameBinding, bound_frames}
use Rattle.frame_names.specs.BoundMeaning.{AreLengthsBound, KeepGaps, NullsAreNull, arrays_bound, bound_worth, numbers_bound, zero_bound}
use Rattle.frame_names.specs.Following.{all_apart, all_entailed}
use Rattle.frame_names.specs.Frames.{are_one_place, nullness_at, place_at, place_in}
use Rattle.frame_names.specs.declared.reference.Reference.{Reference}
use Rattle.frame_names.specs.declared.slots.Bound.{Bound}
use Rattle.frame_names.proofs.BindingLaws.{frames_have_same_lengths, frames_say_same}
use Rattle.merged_numbers.specs.Included.{behind_binding, bound_term, worth_or_zero}
use Rattle.merged_numbers.specs.Meaning as numbers
use Rattle.merged_numbers.proofs.InclusionLaws.{included_so}
use Rattle.number_facts.specs.Gaps.{gap}
use Rattle.number_facts.specs.Laws.Allowing.{AllowsNumbers, gap_allowed}
use Rattle.number_facts.specs.Holds.{IsDefined, is_below}
use Rattle.symbolic_values.specs.Meaning.{told}
use Rattle.symbolic_values.specs.Names.{renamed_def, same_flag}
use Rattle.symbolic_values.specs.Worth.{worth}
use Rattle.symbolic_values.specs.declared.def.Def.{Def}
use Rattle.symbolic_values.specs.declared.def.Def.TheVariants.{Eq, Lt, LtUn, NullTest, Sub}
use Rattle.symbolic_values.proofs.MeaningLaws.{fitting_is, renamed_told}
use Rattle.state_facts.specs.Assuming.{definition_at}
use Rattle.state_facts.specs.Forms.{HasForm, lengths_of}
use Rattle.state_facts.specs.Holds.{FitsArray, HoldsBy, IsSo, items_of_array, length_of_array}
use Rattle.merged_states.specs.Inclusion.{all_follows, bound_expr, bound_references, def_bound, def_follows, definitions_follow, items_follow, numbers_follow, reference_bound, same_def, same_defs, same_expr, symbol_names}
use Rattle.merged_states.specs.Parts.{numbers_known}
use Rattle.state_facts.specs.StateFacts as states
use Rattle.state_facts.specs.StateFacts.{StateFacts}
use Rattle.merged_states.specs.Laws.BoundHolds.{BindingSo, binding_so}
use Rattle.merged_states.specs.Laws.Definitions.{definition_so}
use Rattle.merged_states.specs.Laws.Frames.{IsEntry, have_same, same_entry}
use Rattle.merged_states.specs.Laws.Items.{items_long}
use Rattle.merged_states.specs.Laws.Lengths.{contents_count, references_there}
use Rattle.merged_states.specs.Laws.MergedHolds.{SideSo, new_allowed}
use Rattle.merged_states.specs.Laws.References.{cannot_differ, fits_as, none_fits}

same_some : {X : Type 0} (x y : X) → Some x ≡ Some y → x ≡ y
same_some x y same = cc

-- ---- numbers behind the binding

plain_worth : (n k l : ℤ) → (n +ℤ (k -ℤ l)) ≡ ((n +ℤ k) -ℤ l)
plain_worth n k l = omega (arith, ints)

no_worth : (n : ℤ) → n ≡ pos 0 → pos 0 ≡ ((n +ℤ pos 0) -ℤ pos 0)
no_worth n is = omega (arith, ints, is)

zero_worth : (n : ℤ) → (n +ℤ pos 0) ≡ ((n +ℤ pos 0) -ℤ pos 0)
zero_worth n = omega (arith, ints)

later_same : (number : ℕ → ℤ) (xs : List Bound) (s : ℕ) → number 0 ≡ pos 0
    → worth_or_zero number (option_map bound_term (slice_get xs s)) ≡ bound_worth number (get_or xs s zero_bound)
later_same number [] s start = no_worth (number 0) start
later_same number (x ∷ xs) zero start = plain_worth (number x.value.sym) x.value.k x.offset
later_same number (x ∷ xs) (suc s) start = later_same number xs s start

behind_first : (number : ℕ → ℤ) (xs : List Bound) (s : ℕ) → number 0 ≡ pos 0
    → worth_or_zero number (option_map bound_term (slice_get (drop 1 xs) s))
    ≡ bound_worth number (get_or xs (suc s) zero_bound)
behind_first number [] s start = no_worth (number 0) start
behind_first number (x ∷ xs) s start = later_same number xs s start

-- Both ways to read a binding give the same numbers.
same_numbers : (number : ℕ → ℤ) (a b : List Reference) (binding : FrameBinding) → number 0 ≡ pos 0
    → BindingSo number a b binding
    → behind_binding (drop 1 binding.symbols) number ≡ numbers_bound number binding
same_numbers number a b binding start so = (λ i s. at s i)
  where
    at : (s : ℕ) → behind_binding (drop 1 binding.symbols) number s ≡ numbers_bound number binding s
    at zero = zero_worth (number 0) ∙ ap (bound_worth number) (sym so.origin_is)
    at (suc s) = behind_first number binding.symbols s start

all_from : {X : Type 0} (P : X → Type 0) (xs : List X) → ((s : ℕ) (x : X) → slice_get xs s ≡ Some x → P x)
    → AllByRecursion P xs
all_from P [] each = tt
all_from P (x ∷ xs) each = (each 0 x refl, all_from P xs (λ s y at. each (suc s) y at))

values_fit : (number : ℕ → ℤ) (xs : List Bound)
    → ((s : ℕ) (x : Bound) → slice_get xs s ≡ Some x → FitsSigned w32 (worth number x.value))
    → AllByRecursion (λ (x : Bound). FitsSigned w32 (worth number x.value)) (drop 1 xs)
values_fit number [] each = tt
values_fit number (x ∷ xs) each =
    all_from (λ (y : Bound). FitsSigned w32 (worth number y.value)) xs (λ s y at. each (suc s) y at)

-- ---- definitions

named_worth : (number : ℕ → ℤ) (n k l : ℤ) → ((n +ℤ k) -ℤ l) ≡ (n +ℤ (k -ℤ l))
named_worth number n k l = omega (arith, ints)

one_name : (number : ℕ → ℤ) (x : Bound) (name : Expr) → bound_expr x ≡ Some name
    → bound_worth number x ≡ worth number name
one_name number x name is =
    named_worth number (number x.value.sym) x.value.k x.offset
    ∙ ap (worth number) (fitting_is x.value.sym (x.value.k -ℤ x.offset) name _ is)

names_at : (number : ℕ → ℤ) (xs : List Bound) (s : ℕ) (name : Expr) → get_or (map bound_expr xs) s None ≡ Some name
    → bound_worth number (get_or xs s zero_bound) ≡ worth number name
names_at number [] s name is = absurd cc
names_at number (x ∷ xs) zero name is = one_name number x name is
names_at number (x ∷ xs) (suc s) name is = names_at number xs s name is

references_at : (array : ℕ → Option ℕ) (xs : List ℕ) (r q : ℕ) → get_or (map reference_bound xs) r None ≡ Some q
    → array (get_or xs r 0) ≡ array q
references_at array [] r q is = absurd cc
references_at array (x ∷ xs) zero q is = ap array (same_some x q is)
references_at array (x ∷ xs) (suc r) q is = references_at array xs r q is

same_expr_is : (e f : Expr) → same_expr e f ≡ true → e ≡ f
same_expr_is e f is =
    let parts = and_parts (e.sym == f.sym) (int_eq e.k f.k) is in
    let first : e.sym ≡ f.sym = (Decides-eqb e.sym f.sym).0 parts.0 in
    let second : e.k ≡ f.k = (Decides-int_eq e.k f.k).0 parts.1 in
    λ i. record { sym = first i; k = second i }

both_same : (make : Expr → Expr → Def) (x y z w : Expr) → (same_expr x z && same_expr y w) ≡ true → make x y ≡ make z w
both_same make x y z w is =
    let parts = and_parts (same_expr x z) (same_expr y w) is in
    ap (λ e. make e y) (same_expr_is x z parts.0) ∙ ap (make z) (same_expr_is y w parts.1)

flags_same : (a b : Bool) → same_flag a b ≡ true → a ≡ b
flags_same true true is = refl
flags_same true false is = absurd cc
flags_same false true is = absurd cc
flags_same false false is = refl

same_def_is : (a b : Def) → same_def a b ≡ true → a ≡ b
same_def_is (Eq x y) (Eq z w) is = both_same (λ e f. Eq e f) x y z w is
same_def_is (Lt x y) (Lt z w) is = both_same (λ e f. Lt e f) x y z w is
same_def_is (LtUn x y) (LtUn z w) is = both_same (λ e f. LtUn e f) x y z w is
same_def_is (Sub x y) (Sub z w) is = both_same (λ e f. Sub e f) x y z w is
same_def_is (NullTest r flag) (NullTest q also) is =
    let parts = and_parts (r == q) (same_flag flag also) is in
    ap (λ n. NullTest n flag) ((Decides-eqb r q).0 parts.0) ∙ ap (NullTest q) (flags_same flag also parts.1)
same_def_is _ _ is = absurd cc

plain : (n : ℤ) → (n +ℤ pos 0) ≡ n
plain n = omega (arith, ints)

-- What a symbol is bound to has this definition.
bound_def_so : (number : ℕ → ℤ) (is_null : ℕ → Bool) (definitions : List (ℕ × Def)) (name : Option Expr) (n : ℤ)
    (def : Def)
    → AllByRecursion (IsDefined number is_null) definitions → ((e : Expr) → name ≡ Some e → n ≡ worth number e)
    → def_bound definitions name ≡ Some def → n ≡ told is_below number is_null def
bound_def_so number is_null definitions None n def all named is = absurd cc
bound_def_so number is_null definitions (Some e) n def all named is = by (int_eq e.k (pos 0)) refl is
  where
    by : (alone : Bool) → int_eq e.k (pos 0) ≡ alone
        → (if alone then definition_at definitions e.sym else None) ≡ Some def
        → n ≡ told is_below number is_null def
    by true alone found =
        named e refl ∙ ap (λ k. number e.sym +ℤ k) ((Decides-int_eq e.k (pos 0)).0 alone) ∙ plain (number e.sym)
        ∙ definition_so number is_null definitions e.sym def all found
    by false alone found = absurd cc

same_defs_so : (a b : Option Def) (n : ℤ) (say : Def → ℤ) (m : ℤ) → ((def : Def) → a ≡ Some def → n ≡ say def)
    → ((def : Def) → b ≡ Some def → m ≡ say def)
    → same_defs a b ≡ true → n ≡ m
same_defs_so None b n say m first second is = absurd cc
same_defs_so (Some x) None n say m first second is = absurd cc
same_defs_so (Some x) (Some y) n say m first second is =
    first x refl ∙ ap say (same_def_is x y is) ∙ sym (second y refl)

definitions_kept : (number : ℕ → ℤ) (array : ℕ → Option ℕ) (definitions : List (ℕ × Def)) (binding : FrameBinding)
    (ds : List (ℕ × Def))
    → AllByRecursion (IsDefined number (λ r. is_no_array (array r))) definitions
    → list_all (def_follows definitions (symbol_names binding) (bound_references binding)) ds ≡ true
    → AllByRecursion (IsDefined (numbers_bound number binding) (λ r. is_no_array (arrays_bound array binding r))) ds
definitions_kept number array definitions binding [] all is = tt
definitions_kept number array definitions binding (d ∷ ds) all is =
    let parts = and_parts (def_follows definitions (symbol_names binding) (bound_references binding) d)
    (list_all (def_follows definitions (symbol_names binding) (bound_references binding)) ds) is in (
      same_defs_so (def_bound definitions (get_or (symbol_names binding) d.0 None))
          (renamed_def (symbol_names binding) (bound_references binding) d.1)
          (numbers_bound number binding d.0) (told is_below number (λ r. is_no_array (array r)))
          (told is_below (numbers_bound number binding) (λ r. is_no_array (arrays_bound array binding r)) d.1)
          (λ def found. bound_def_so number (λ r. is_no_array (array r)) definitions
          (get_or (symbol_names binding) d.0 None) (numbers_bound number binding d.0) def all
          (λ e at. names_at number binding.symbols d.0 e at) found)
          (λ def made. renamed_told is_below (numbers_bound number binding) number
          (λ r. is_no_array (arrays_bound array binding r)) (λ r. is_no_array (array r))
          (symbol_names binding) (bound_references binding) d.1 def
          (λ s name at. names_at number binding.symbols s name at)
          (λ r q at. ap is_no_array (references_at array binding.references r q at)) made)
          parts.0,
      definitions_kept number array definitions binding ds all parts.1,
    )

-- ---- references

null_known : (told : Nullness) (array : Option ℕ) → Agrees told (is_no_array array) → is_null told ≡ true → array ≡ None
null_known Null None agrees is = refl
null_known Null (Some i) agrees is = absurd cc
null_known May array agrees is = absurd cc
null_known NotNull array agrees is = absurd cc

-- A reference that fits has the other's type, where it is an array.
fitting_array : (heap : Heap) (number : ℕ → ℤ) (references : List Reference) (r : ℕ) (array : Option ℕ)
    (p : Option Place) (t : Place)
    → place_at references r ≡ p → IsEntry heap number references r array
    → (is_null (nullness_at references r) || are_one_place p (Some t)) ≡ true → FitsArray heap t array
fitting_array heap number references r array p t at entry is = by (is_null (nullness_at references r)) refl p at is
  where
    by : (null : Bool) → is_null (nullness_at references r) ≡ null → (q : Option Place) → place_at references r ≡ q
        → (null || are_one_place q (Some t)) ≡ true
        → FitsArray heap t array
    by true null q place fit = none_fits heap t array (null_known (nullness_at references r) array entry.agrees null)
    by false null None place fit = absurd cc
    by false null (Some q) place fit =
        fits_as heap t q array (sym ((Decides-eqb (place_number q) (place_number t)).0 fit)) (entry.fits q place)

-- What is known of a reference is so of what it is bound to, from one place on.
record IsFollowed (heap : Heap) (later : ℕ → ℤ) (known : Reference) (array : Option ℕ) : Type 0 where
  agrees : Agrees known.nullness (is_no_array array)
  length_is : worth later known.length ≡ length_of_array heap array

bound_at : (bound : List ℕ) (i : ℕ) → get_or (drop 1 bound) i 0 ≡ get_or bound (suc i) 0
bound_at [] i = refl
bound_at (r ∷ bound) i = refl

followed : (heap : Heap) (number : ℕ → ℤ) (array : ℕ → Option ℕ) (a b : List Reference)
    (binding : FrameBinding) (bound : List ℕ) (i : ℕ)
    (known : Reference) → ((r : ℕ) → IsEntry heap number a r (array r)) → all_entailed a b bound ≡ true
    → AreLengthsBound number binding a b bound
    → slice_get b i ≡ Some known → IsFollowed heap (numbers_bound number binding) known (array (get_or bound i 0))
followed heap number array a [] binding bound i known entries entail lengths at = absurd cc
followed heap number array a (first ∷ b) binding bound zero known entries entail lengths at =
    subst (λ k. IsFollowed heap (numbers_bound number binding) k (array (get_or bound 0 0))) (same_some first known at)
    (record {
      agrees =
          entailed_agrees (nullness_at a (get_or bound 0 0)) first.nullness (is_no_array (array (get_or bound 0 0)))
          (and_parts (entailed (nullness_at a (get_or bound 0 0)) first.nullness)
          (all_entailed a b (drop 1 bound)) entail).0
          (entries (get_or bound 0 0)).agrees;
      length_is = lengths.0 ∙ (entries (get_or bound 0 0)).length_is;
    })
followed heap number array a (first ∷ b) binding bound (suc i) known entries entail lengths at =
    subst (λ r. IsFollowed heap (numbers_bound number binding) known (array r)) (bound_at bound i)
    (followed heap number array a b binding (drop 1 bound) i known entries
    (and_parts (entailed (nullness_at a (get_or bound 0 0)) first.nullness)
    (all_entailed a b (drop 1 bound)) entail).1 lengths.1 at)

apart_kept : (heap : Heap) (number : ℕ → ℤ) (array : ℕ → Option ℕ) (a : List Reference) (kept : List Pair)
    (bound : List ℕ) (pairs : List Pair)
    → ((r : ℕ) → IsEntry heap number a r (array r)) → AllDiffer array kept → all_apart a kept bound pairs ≡ true
    → AllDiffer (λ r. array (get_or bound r 0)) pairs
apart_kept heap number array a kept bound [] entries differ is = tt
apart_kept heap number array a kept bound (p ∷ pairs) entries differ is =
    let parts =
    and_parts (cannot_be_same a kept (get_or bound p.0 0) (get_or bound p.1 0)) (all_apart a kept bound pairs) is in (
      cannot_differ heap number a array kept (get_or bound p.0 0) (get_or bound p.1 0) entries differ parts.0,
      apart_kept heap number array a kept bound pairs entries differ parts.1,
    )

-- ---- the whole

zero_less : (n : ℤ) → n ≡ pos 0 → ((n +ℤ pos 0) -ℤ pos 0) ≡ pos 0
zero_less n is = omega (arith, ints, is)

get_or_none : (xs : List ℕ) (i : ℕ) → slice_get xs i ≡ None → get_or xs i 0 ≡ 0
get_or_none [] i is = refl
get_or_none (x ∷ xs) zero is = absurd cc
get_or_none (x ∷ xs) (suc i) is = get_or_none xs i is

bound_fits : (heap : Heap) (number : ℕ → ℤ) (array : ℕ → Option ℕ) (a b : List Reference)
    (binding : FrameBinding) (i : ℕ) (known : Reference)
    → array 0 ≡ None → ((r : ℕ) → IsEntry heap number a r (array r)) → BindingSo number a b binding
    → place_at b (suc i) ≡ Some known.place
    → FitsArray heap known.place (array (get_or binding.references (suc i) 0))
bound_fits heap number array a b binding i known none entries so place = by (slice_get binding.references (suc i)) refl
  where
    by : (slot : Option ℕ) → slice_get binding.references (suc i) ≡ slot
        → FitsArray heap known.place (array (get_or binding.references (suc i) 0))
    by None at =
        none_fits heap known.place (array (get_or binding.references (suc i) 0))
        (ap array (get_or_none binding.references (suc i) at) ∙ none)
    by (Some r) at =
        subst (λ n. FitsArray heap known.place (array n))
        (sym (get_or_from_slice_get binding.references (suc i) r 0 at))
        (fitting_array heap number a r (array r) (place_at a r) known.place refl (entries r)
        (ap (λ q. is_null (nullness_at a r) || are_one_place (place_at a r) q) (sym place)
        ∙ (so.well (suc i) r at).fit))

-- What a reference is bound to is there.
bound_there : (number : ℕ → ℤ) (a b : List Reference) (binding : FrameBinding) (i : ℕ)
    → BindingSo number a b binding → get_or binding.references (suc i) 0 ≤ length a
bound_there number a b binding i so = by (slice_get binding.references (suc i)) refl
  where
    by : (slot : Option ℕ) → slice_get binding.references (suc i) ≡ slot
        → get_or binding.references (suc i) 0 ≤ length a
    by None at = let none = get_or_none binding.references (suc i) at in omega (arith, none)
    by (Some r) at =
        subst (λ n. n ≤ length a) (sym (get_or_from_slice_get binding.references (suc i) r 0 at))
        (so.well (suc i) r at).there

-- ---- items

-- The reference of a length.
record IsLengthOf (references : List Reference) (i : ℕ) (e : Expr) : Type 0 where
  known : Reference
  at : slice_get references i ≡ Some known
  is : known.length ≡ e

length_of_slot : (references : List Reference) (i : ℕ) (e : Expr) → slice_get (lengths_of references) i ≡ Some e
    → IsLengthOf references i e
length_of_slot [] i e is = absurd cc
length_of_slot (known ∷ references) zero e is = record { known = known; at = refl; is = same_some known.length e is }
length_of_slot (known ∷ references) (suc i) e is =
    let rest = length_of_slot references i e is in record { known = rest.known; at = rest.at; is = rest.is }

-- Where a state holds, so does one that is bound to it and of which all follows, by the choice behind the binding.
pub included_holds : (a b : StateFacts) (vs : List Value) (heap : Heap) (number : ℕ → ℤ) (array : ℕ → Option ℕ)
    (binding : FrameBinding) → HasForm a → HasForm b → AllowsNumbers a.facts number
    → SideSo true a a vs heap number array
    → bound_frames (gap a.facts) a.variables a.references b.variables b.references (length b.facts.ranges)
    ≡ Some binding
    → all_follows a b binding ≡ true → HoldsBy b vs heap (numbers_bound number binding) (arrays_bound array binding)
unfolding states.reference_at
included_holds a b vs heap number array binding form other allowed so is follows = record {
  null = ap array bound.null ∙ so.null;
  facts = record {
    allowed =
        new_allowed b.facts (record { ranges = b.facts.ranges; bounds = b.facts.bounds })
        (numbers_bound number binding) refl refl
        zero_is
        (subst (numbers.IsSo (record { ranges = b.facts.ranges; bounds = b.facts.bounds }))
        (same_numbers number a.references b.references binding so.origin_is bound)
        (included_so (numbers_known a.facts) (drop 1 binding.symbols) b.facts.ranges b.facts.bounds _ refl number
        second.0 so.allowed
        (values_fit number binding.symbols bound.fit)));
    definitions = definitions_kept number array a.facts.definitions binding b.facts.definitions so.defined third.0;
  };
  variables =
      have_same number (numbers_bound number binding) array (arrays_bound array binding) b.variables a.variables vs
      (frames_say_same (gap a.facts) a.variables b.variables a.references b.references (length b.facts.ranges)
      (Some binding) (sym is) number array keep nulls) so.have;
  references = λ r known at. by r known at;
  apart = apart_kept heap number array a.references a.apart binding.references b.apart so.entries so.differ fourth.0;
  contents = items_so;
}
  where
    keep : KeepGaps (gap a.facts) number
    keep s t k told = gap_allowed a.facts number s t k told allowed

    nulls : NullsAreNull a.references array
    nulls r null = null_known (nullness_at a.references r) (array r) (so.entries r).agrees null

    bound : BindingSo number a.references b.references binding
    bound =
        binding_so (gap a.facts) number a.variables b.variables a.references b.references (length b.facts.ranges)
        binding keep so.origin_is so.fit
        (references_there (length a.facts.ranges) (length a.references) a.variables form.variables) so.lengths is

    zero_is : numbers_bound number binding 0 ≡ pos 0
    zero_is = ap (bound_worth number) bound.origin_is ∙ zero_less (number 0) so.origin_is

    first : (all_entailed a.references b.references (drop 1 binding.references) ≡ true)
        × ((numbers_follow a b binding && (definitions_follow a b binding
        && (all_apart a.references a.apart binding.references b.apart && items_follow a b binding))) ≡ true)
    first = and_parts (all_entailed a.references b.references (drop 1 binding.references)) _ follows

    second : (numbers_follow a b binding ≡ true)
        × ((definitions_follow a b binding
        && (all_apart a.references a.apart binding.references b.apart && items_follow a b binding)) ≡ true)
    second = and_parts (numbers_follow a b binding) _ first.1

    third : (definitions_follow a b binding ≡ true)
        × ((all_apart a.references a.apart binding.references b.apart && items_follow a b binding) ≡ true)
    third = and_parts (definitions_follow a b binding) _ second.1

    fourth : (all_apart a.references a.apart binding.references b.apart ≡ true) × (items_follow a b binding ≡ true)
    fourth = and_parts (all_apart a.references a.apart binding.references b.apart) _ third.1

    lengths_bound : AreLengthsBound number binding a.references b.references (drop 1 binding.references)
    lengths_bound =
        frames_have_same_lengths (gap a.facts) a.variables b.variables a.references b.references
        (length b.facts.ranges) (Some binding) (sym is) number keep

    by : (r : ℕ) (known : Reference) → states.reference_at b.references r ≡ Some known
        → IsSo heap (numbers_bound number binding) known (arrays_bound array binding r)
    by zero known at = absurd cc
    by (suc i) known at =
        let here =
        followed heap number array a.references b.references binding (drop 1 binding.references) i known so.entries
        first.0 lengths_bound at in
        record {
          fits = bound_fits heap number array a.references b.references binding i known so.null so.entries bound
              (ap place_in (sym (same_entry b.references (suc i)) ∙ at));
          agrees =
              subst (λ r. Agrees known.nullness (is_no_array (array r))) (bound_at binding.references i) here.agrees;
          length_is = here.length_is ∙ ap (λ r. length_of_array heap (array r)) (bound_at binding.references i);
        }

    new_length : (i : ℕ) (e : Expr) → slice_get (lengths_of b.references) i ≡ Some e
        → worth (numbers_bound number binding) e
        ≡ pos (length (items_of_array heap (arrays_bound array binding (suc i))))
    new_length i e is =
        let slot = length_of_slot b.references i e is in
        ap (worth (numbers_bound number binding)) (sym slot.is) ∙ (by (suc i) slot.known slot.at).length_is
        ∙ items_long heap (arrays_bound array binding (suc i))

    items_so : AreHeld (numbers_bound number binding) (λ r. items_of_array heap (arrays_bound array binding r))
        b.contents
    items_so =
        included_held (gap a.facts) (symbol_names binding) a.contents b.contents (drop 1 binding.references)
        (length b.facts.ranges) (lengths_of b.references) number (numbers_bound number binding)
        (λ r. items_of_array heap (array r)) (λ r. items_of_array heap (arrays_bound array binding r))
        (formed_each (length a.facts.ranges) (lengths_of a.references) a.contents form.contents) other.contents keep
        (λ s name at. sym (names_at number binding.symbols s name at)) so.origin_is zero_is
        (ap (items_of_array heap) so.null)
        (λ i inside. subst (λ r. r ≤ length a.contents) (sym (bound_at binding.references i))
        (subst (λ n. get_or binding.references (suc i) 0 ≤ n) (contents_count a form)
        (bound_there number a.references b.references binding i bound)))
        (λ i. ap (λ r. items_of_array heap (array r)) (sym (bound_at binding.references i))) new_length so.held fourth.1
