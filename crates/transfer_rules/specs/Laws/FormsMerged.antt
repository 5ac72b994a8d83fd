-- States that fit the same kinds may be joined, and fit them when they are joined, widened or named anew.
use Rattle.std.proofs.Common.{◌≡◌, ℕ, zero, suc, ◌<◌, ◌≤◌, ◌==◌, ℤ, pos, Bool, true, false, List, [], ◌∷◌, length, get_or, map, slice_get, Option, Some, None, refl, sym, ap, subst, ◌∙◌, arith}
use Rattle.std.specs.Prelude.{if◌then◌else◌}
use Rattle.std.specs.List.{AllByRecursion, list_all}
use Rattle.std.specs.Option.{ForSome, option_and_then, option_map, option_map_or}
use Rattle.std.proofs.lemmas.Bool.Decides.{Decides-eqb}
use Rattle.std.proofs.lemmas.Option.{same_Some}
use Rattle.array_contents.specs.Contents.{Contents}
use Rattle.cil_model.specs.Places.{place_number}
use Rattle.cil_model.specs.Values.{same_place}
use Rattle.cil_model.specs.declared.place.Kind.{Kind}
use Rattle.cil_model.specs.declared.place.Kind.TheVariants.{AddrBools, AddrInts, Bools, Int, Ints, Native, NullRef, Text}
use Rattle.cil_model.specs.declared.place.Place.{Place}
use Rattle.cil_model.specs.declared.place.Place.TheVariants as places
use Rattle.cil_model.specs.declared.unit.Unit.{Unit as MethodUnit}
use Rattle.domain_api.specs.declared.expr.Expr.{Expr}
use Rattle.frame_names.proofs.SaidLaws.{frames_say}
use Rattle.frame_names.specs.Frames as frames
use Rattle.frame_names.specs.Meaning.{Said, SaysBoth, an_address, an_array, numbers_behind, said}
use Rattle.frame_names.specs.MergedReferences.{merged_references, one_place}
use Rattle.frame_names.specs.PairedFrames.{FramePairing, behind, if_near, is_near, named_frame, old_at, paired_frames, pairing_by, pairs_of}
use Rattle.frame_names.specs.declared.reference.Reference.{Reference}
use Rattle.frame_names.specs.declared.var.Var.{Var}
use Rattle.frame_names.specs.declared.var.Var.TheVariants as vars
use Rattle.merged_numbers.specs.Merging as numbers
use Rattle.merged_numbers.specs.Merging.{Outcome}
use Rattle.merged_states.proofs.Formed.{HasArrayPlace, merged_form, normal_form, pairs_have}
use Rattle.merged_states.specs.Alike.{AreLike, AreLikeStates, IsLike}
use Rattle.merged_states.specs.Laws.Frames.{alike_of, same_entry}
use Rattle.merged_states.specs.Merging.{Rule, join, joining, known_as, merged_as, merged_by, merged_known, normal, normal_as, normal_by, normal_known, widen, widening}
use Rattle.merged_states.specs.Parts.{entry_of, numbers_known}
use Rattle.merged_states.specs.declared.merging.Merging.TheVariants.{Join, Widening}
use Rattle.state_facts.specs.Forms.{HasForm, HasVar, IsArrayPlace}
use Rattle.state_facts.specs.StateFacts as states
use Rattle.state_facts.specs.StateFacts.{StateFacts, State, both_of_same_place}
use Rattle.symbolic_values.specs.Pairing.{origin}
use Rattle.symbolic_values.specs.Worth.{worth}
use Rattle.symbolic_values.specs.declared.def.Def.{Def}
use Rattle.symbolic_values.specs.declared.pairs.Key.{Key}
use Rattle.alias_facts.specs.PairsOf.{Pair}
use Rattle.transfer_rules.specs.Forms.{FitKinds, FitsKind, FitsStack, HasKinds, kinds_over}
use Rattle.transfer_rules.specs.Laws.Fitting.{AreKinds, over_stack}
use Rattle.transfer_rules.specs.Laws.FittingResults.{any_number}
use Rattle.transfer_rules.specs.Laws.KindForms.{array_or_null, is_typed, never_null, zero_of_place}

-- ---- states that are like each other

both_number : (m n k : ℕ) → (m == k) ≡ true → (n == k) ≡ true → (m == n) ≡ true
both_number m n k first second = (Decides-eqb m n).1 ((Decides-eqb m k).0 first ∙ sym ((Decides-eqb n k).0 second))

both_place : (place : Place) (x y : Option Reference) → is_typed place true x ≡ true → is_typed place true y ≡ true
    → both_of_same_place x y ≡ true
both_place place None y first second = refl
both_place place (Some x) None first second = refl
both_place place (Some x) (Some y) first second =
    both_number (place_number x.place) (place_number y.place) (place_number place) first second

both_arrays : (place : Place) (x y : Option Reference) → is_typed place false x ≡ true
    → is_typed place false y ≡ true → both_of_same_place x y ≡ true
both_arrays place x y first second = both_place place x y (array_or_null place x first) (array_or_null place y second)

no_place : (references others : List Reference) (r q : ℕ) → r ≡ 0
    → both_of_same_place (states.reference_at references r) (states.reference_at others q) ≡ true
unfolding states.reference_at
no_place references others zero q is = refl
no_place references others (suc r) q is = absurd (omega (arith, is))

like_kind : (a b : StateFacts) (k : Kind) (v w : Var) → FitsKind a k v → FitsKind b k w → IsLike a b v w
like_kind a b Int (vars.Number e) (vars.Number f) first second = tt
like_kind a b Native (vars.Number e) (vars.Number f) first second = tt
like_kind a b Ints (vars.Reference r) (vars.Reference q) first second =
    both_place places.Ints (states.reference_at a.references r) (states.reference_at b.references q) first second
like_kind a b Bools (vars.Reference r) (vars.Reference q) first second =
    both_place places.Bools (states.reference_at a.references r) (states.reference_at b.references q) first second
like_kind a b NullRef (vars.Reference r) (vars.Reference q) first second = no_place a.references b.references r q first
like_kind a b Text vars.Text vars.Text first second = tt
like_kind a b AddrInts (vars.Address r e) (vars.Address q f) first second =
    both_arrays places.Ints (states.reference_at a.references r) (states.reference_at b.references q) first second
like_kind a b AddrBools (vars.Address r e) (vars.Address q f) first second =
    both_arrays places.Bools (states.reference_at a.references r) (states.reference_at b.references q) first second
like_kind a b Int (vars.Number e) _ first second = elim second [ ]
like_kind a b Native (vars.Number e) _ first second = elim second [ ]
like_kind a b Ints (vars.Reference r) _ first second = elim second [ ]
like_kind a b Bools (vars.Reference r) _ first second = elim second [ ]
like_kind a b NullRef (vars.Reference r) _ first second = elim second [ ]
like_kind a b Text vars.Text _ first second = elim second [ ]
like_kind a b AddrInts (vars.Address r e) _ first second = elim second [ ]
like_kind a b AddrBools (vars.Address r e) _ first second = elim second [ ]
like_kind a b _ _ w first second = elim first [ ]

like_kinds : (a b : StateFacts) (ks : List Kind) (vs ws : List Var) → FitKinds a ks vs → FitKinds b ks ws
    → AreLike a b vs ws
like_kinds a b [] [] [] first second = tt
like_kinds a b [] [] (w ∷ ws) first second = elim second [ ]
like_kinds a b [] (v ∷ vs) ws first second = elim first [ ]
like_kinds a b (k ∷ ks) (v ∷ vs) (w ∷ ws) first second =
    (like_kind a b k v w first.0 second.0, like_kinds a b ks vs ws first.1 second.1)
like_kinds a b (k ∷ ks) (v ∷ vs) [] first second = elim second [ ]
like_kinds a b (k ∷ ks) [] ws first second = elim first [ ]

pub fitting_like : (unit : MethodUnit) (at : Option (List Kind)) (a b : State) → FitsStack unit at a
    → FitsStack unit at b
    → AreLikeStates a b
fitting_like unit at None b first second = tt
fitting_like unit at (Some a) None first second = tt
fitting_like unit None (Some a) (Some b) first second = elim first [ ]
fitting_like unit (Some stack) (Some a) (Some b) first second = record {
  first = first.form;
  second = second.form;
  variables = like_kinds a b (kinds_over unit stack) a.variables b.variables first.fit second.fit;
}

-- ---- a merged reference

-- The type of a merged reference is that of one of the two.
record HasOnePlace (a b : List Reference) (u : Key) (o : Option Reference) : Type 0 where
  reference : Reference
  is : o ≡ Some reference
  place_is : reference.place ≡ one_place (frames.place_at a u.s) (frames.place_at b u.t)

merged_at : (a b : List Reference) (us : List Key) (lengths : List Expr) (i : ℕ) → i < length us
    → HasOnePlace a b (get_or us i origin) (slice_get (map entry_of (merged_references a b us lengths)) i)
merged_at a b [] lengths i below = absurd (omega (arith, below))
merged_at a b (u ∷ us) lengths zero below = record { reference = _; is = refl; place_is = refl }
merged_at a b (u ∷ us) lengths (suc i) below =
    let rest = merged_at a b us (behind lengths) i (omega (arith, below)) in
    record { reference = rest.reference; is = rest.is; place_is = rest.place_is }

-- Where a reference is not there, its type is taken to be as given.
abbrev of_place : Place → Bool → Option Place → Bool
of_place place other found = option_map_or (λ p. same_place p place) found other

read_place : (place : Place) (other : Bool) (o : Option Reference)
    → is_typed place other o ≡ of_place place other (frames.place_in o)
read_place place other None = refl
read_place place other (Some r) = refl

read_at : (known : StateFacts) (place : Place) (other : Bool) (r : ℕ)
    → is_typed place other (states.reference_at known.references r) ≡ true
    → of_place place other (frames.place_at known.references r) ≡ true
read_at known place other r is =
    sym (read_place place other (frames.reference_at known.references r))
    ∙ ap (is_typed place other) (sym (same_entry known.references r)) ∙ is

either_place : (place : Place) (other : Bool) (p q : Option Place) → of_place place other p ≡ true
    → of_place place other q ≡ true → IsArrayPlace (one_place p q) → same_place (one_place p q) place ≡ true
either_place place other (Some p) q first second array = first
either_place place other None (Some q) first second array = second
either_place place other None None first second array = elim array [ ]

null_place : (known : StateFacts) (r : ℕ) → r ≡ 0 → frames.place_at known.references r ≡ None
null_place known zero is = refl
null_place known (suc r) is = absurd (omega (arith, is))

two_nulls : (p q : Option Place) → p ≡ None → q ≡ None → IsArrayPlace (one_place p q) → ⊥
two_nulls None None first second array = array
two_nulls (Some p) q first second array = absurd cc
two_nulls None (Some q) first second array = absurd cc

all_at : (P : Key → Type 0) (us : List Key) (i : ℕ) → AllByRecursion P us → i < length us → P (get_or us i origin)
all_at P [] i all below = absurd (omega (arith, below))
all_at P (u ∷ us) zero all below = all.0
all_at P (u ∷ us) (suc i) all below = all_at P us i all.1 (omega (arith, below))

-- The references of a state in new names.
record IsMergedOf (a b to : StateFacts) (us : List Key) : Type 0 where
  lengths : List Expr
  references : to.references ≡ map entry_of (merged_references a.references b.references us lengths)
  arrays : AllByRecursion (HasArrayPlace a.references b.references) us

-- A new reference is one to arrays of a type where both old ones are. Those that are not there are as given.
new_place : (a b to : StateFacts) (us : List Key) (merged : IsMergedOf a b to us) (place : Place) (other : Bool)
    (i r q : ℕ) → i < length us → (get_or us i origin).s ≡ r → (get_or us i origin).t ≡ q
    → is_typed place other (states.reference_at a.references r) ≡ true
    → is_typed place other (states.reference_at b.references q) ≡ true
    → is_typed place other (states.reference_at to.references (suc i)) ≡ true
unfolding states.reference_at
new_place a b to us merged place other i r q below r_is q_is first second =
    let u = get_or us i origin in
    let found = merged_at a.references b.references us merged.lengths i below in
    ap (λ references. is_typed place other (slice_get references i)) merged.references
    ∙ ap (is_typed place other) found.is ∙ ap (λ p. same_place p place) found.place_is
    ∙ either_place place other (frames.place_at a.references u.s) (frames.place_at b.references u.t)
    (read_at a place other u.s
    (subst (λ n. is_typed place other (states.reference_at a.references n) ≡ true) (sym r_is) first))
    (read_at b place other u.t
    (subst (λ n. is_typed place other (states.reference_at b.references n) ≡ true) (sym q_is) second))
    (all_at (HasArrayPlace a.references b.references) us i merged.arrays below)

zero_fits : (a to : StateFacts) (k : Kind) (r : ℕ) → FitsKind a k (vars.Reference r) → FitsKind to k (vars.Reference 0)
zero_fits a to Ints r fits = zero_of_place to places.Ints 0 refl
zero_fits a to Bools r fits = zero_of_place to places.Bools 0 refl
zero_fits a to NullRef r fits = refl
zero_fits a to _ r fits = elim fits [ ]

-- What stands for two references that fit a kind fits it.
one_fits : (a b to : StateFacts) (us : List Key) → IsMergedOf a b to us → (k : Kind) (p r q : ℕ) → p ≤ length us
    → old_at true us p ≡ r
    → old_at false us p ≡ q → FitsKind a k (vars.Reference r) → FitsKind b k (vars.Reference q)
    → FitsKind to k (vars.Reference p)
one_fits a b to us merged k zero r q there r_is q_is first second = zero_fits a to k r first
one_fits a b to us merged Ints (suc i) r q there r_is q_is first second =
    new_place a b to us merged places.Ints true i r q (omega (arith, there)) r_is q_is first second
one_fits a b to us merged Bools (suc i) r q there r_is q_is first second =
    new_place a b to us merged places.Bools true i r q (omega (arith, there)) r_is q_is first second
one_fits a b to us merged NullRef (suc i) r q there r_is q_is first second =
    absurd (two_nulls (frames.place_at a.references (get_or us i origin).s)
    (frames.place_at b.references (get_or us i origin).t)
    (null_place a (get_or us i origin).s (r_is ∙ first)) (null_place b (get_or us i origin).t (q_is ∙ second))
    (all_at (HasArrayPlace a.references b.references) us i merged.arrays (omega (arith, there))))
one_fits a b to us merged _ (suc i) r q there r_is q_is first second = elim first [ ]

-- So for an address. Its reference is not 0, since neither of the two is.
address_fits : (a b to : StateFacts) (us : List Key) → IsMergedOf a b to us → (k : Kind) (p r q : ℕ) (e f g : Expr)
    → p ≤ length us → old_at true us p ≡ r → old_at false us p ≡ q → FitsKind a k (vars.Address r f)
    → FitsKind b k (vars.Address q g) → FitsKind to k (vars.Address p e)
address_fits a b to us merged AddrInts zero r q e f g there r_is q_is first second =
    absurd (never_null a places.Ints r (sym r_is) first)
address_fits a b to us merged AddrBools zero r q e f g there r_is q_is first second =
    absurd (never_null a places.Bools r (sym r_is) first)
address_fits a b to us merged AddrInts (suc i) r q e f g there r_is q_is first second =
    new_place a b to us merged places.Ints false i r q (omega (arith, there)) r_is q_is first second
address_fits a b to us merged AddrBools (suc i) r q e f g there r_is q_is first second =
    new_place a b to us merged places.Bools false i r q (omega (arith, there)) r_is q_is first second
address_fits a b to us merged _ p r q e f g there r_is q_is first second = elim first [ ]

-- ---- merged variables

text_fits : (a to : StateFacts) (k : Kind) → FitsKind a k vars.Text → FitsKind to k vars.Text
text_fits a to Text fits = tt
text_fits a to _ fits = elim fits [ ]

same_array : (x y : ℕ) → an_array (Some x) ≡ an_array (Some y) → x ≡ y
same_array x y is = cc

same_address : (x y : ℕ) (n m : ℤ) → an_address (Some x) n ≡ an_address (Some y) m → x ≡ y
same_address x y n m is = cc

-- What stands for two variables that fit a kind, by what it says of both.
var_fits : (a b to : StateFacts) (us : List Key) (m n l : ℕ → ℤ) → IsMergedOf a b to us
    → length us ≡ length to.references → (k : Kind) (w v u : Var)
    → said m (λ r. Some (old_at true us r)) w ≡ said l Some v → said n (λ r. Some (old_at false us r)) w ≡ said l Some u
    → HasVar to w → FitsKind a k v → FitsKind b k u → FitsKind to k w
var_fits a b to us m n l merged count k (vars.Number e) (vars.Number f) u first second there one other =
    any_number a to k f e one
var_fits a b to us m n l merged count k (vars.Reference p) (vars.Reference r)
    (vars.Reference q) first second there one other =
    one_fits a b to us merged k p r q (omega (arith, there, count)) (same_array (old_at true us p) r first)
    (same_array (old_at false us p) q second) one other
var_fits a b to us m n l merged count k vars.Text vars.Text u first second there one other = text_fits a to k one
var_fits a b to us m n l merged count k (vars.Address p e) (vars.Address r f)
    (vars.Address q g) first second there one other =
    let within = there.0 in
    address_fits a b to us merged k p r q e f g (omega (arith, within, count))
    (same_address (old_at true us p) r (worth m e) (worth l f) first)
    (same_address (old_at false us p) q (worth n e) (worth l g) second) one other
var_fits a b to us m n l merged count k (vars.Reference p) (vars.Reference r) _ first second there one other =
    absurd cc
var_fits a b to us m n l merged count k (vars.Address p e) (vars.Address r f) _ first second there one other =
    absurd cc
var_fits a b to us m n l merged count k _ _ u first second there one other = absurd cc

heads : (x y : Said) (xs ys : List Said) → x ∷ xs ≡ y ∷ ys → (x ≡ y) × (xs ≡ ys)
heads x y xs ys is = (cc, cc)

all_fit : (a b to : StateFacts) (us : List Key) (m n l : ℕ → ℤ) → IsMergedOf a b to us
    → length us ≡ length to.references
    → (ks : List Kind) (ws vs qs : List Var) → map (said m (λ r. Some (old_at true us r))) ws ≡ map (said l Some) vs
    → map (said n (λ r. Some (old_at false us r))) ws ≡ map (said l Some) qs → AllByRecursion (HasVar to) ws
    → FitKinds a ks vs → FitKinds b ks qs → FitKinds to ks ws
all_fit a b to us m n l merged count [] [] [] qs first second there one other = tt
all_fit a b to us m n l merged count [] (w ∷ ws) [] qs first second there one other = absurd cc
all_fit a b to us m n l merged count [] ws (v ∷ vs) qs first second there one other = elim one [ ]
all_fit a b to us m n l merged count (k ∷ ks) ws [] qs first second there one other = elim one [ ]
all_fit a b to us m n l merged count (k ∷ ks) ws (v ∷ vs) [] first second there one other = elim other [ ]
all_fit a b to us m n l merged count (k ∷ ks) [] (v ∷ vs) (q ∷ qs) first second there one other = absurd cc
all_fit a b to us m n l merged count (k ∷ ks) (w ∷ ws) (v ∷ vs) (q ∷ qs) first second there one other =
    let here = heads _ _ _ _ first in
    let beside = heads _ _ _ _ second in (
      var_fits a b to us m n l merged count k w v q here.0 beside.0 there.0 one.0 other.0,
      all_fit a b to us m n l merged count ks ws vs qs here.1 beside.1 there.1 one.1 other.1,
    )

-- ---- states in new names

many : (a b : List Reference) (us : List Key) (lengths : List Expr)
    → length us ≡ length (map entry_of (merged_references a b us lengths))
many a b [] lengths = refl
many a b (u ∷ us) lengths = ap suc (many a b us (behind lengths))

named_is : (new f : FramePairing) → if_near new ≡ Some f → new ≡ f
named_is new f is = by (list_all is_near new.numbers.exprs) is
  where
    by : (near : Bool) → (if near then Some new else None) ≡ Some f → new ≡ f
    by true same = same_Some new f same
    by false same = absurd cc

module _ (ks : List Kind) (a b : StateFacts) (first : HasKinds ks a) (second : HasKinds ks b) where
  known_fits : (f : FramePairing) (outcome : Outcome) (def : Key → Option Def) (pairs : List Pair) (contents : Contents)
      → paired_frames a.variables a.references b.variables b.references ≡ Some f
      → HasForm (known_as a b f outcome def pairs contents)
      → HasKinds ks (known_as a b f outcome def pairs contents)
  known_fits f outcome def pairs contents found form =
      let like = like_kinds a b ks a.variables b.variables first.fit second.fit in
      let says : SaysBoth a.variables b.variables f =
      frames_say a.variables b.variables a.references b.references (Some f) (alike_of a b a.variables b.variables like)
      (sym found) in
      let us = f.references.keys in
      let to = known_as a b f outcome def pairs contents in
      let names : named_frame a.variables (pairs_of a.variables b.variables)
      (pairing_by (pairs_of a.variables b.variables) a.variables a.references b.variables b.references) ≡ f =
      named_is _ f found in
      let merged : IsMergedOf a b to us = record {
        lengths = f.lengths;
        references = refl;
        arrays =
            subst (λ (g : FramePairing). AllByRecursion (HasArrayPlace a.references b.references) g.references.keys)
            names (pairs_have a b first.form second.form);
      } in
      record {
        form = form;
        fit =
            all_fit a b to us (numbers_behind true (λ s. pos 0) f) (numbers_behind false (λ s. pos 0) f)
            (λ s. pos 0) merged
            (many a.references b.references us f.lengths) ks f.vars a.variables b.variables
            (says true (λ s. pos 0) Some) (says false (λ s. pos 0) Some) form.variables first.fit second.fit;
      }

each_fits : (ks : List Kind) (make : Outcome → StateFacts) (o : Option Outcome) → ForSome (option_map make o) HasForm
    → ((outcome : Outcome) → HasForm (make outcome) → HasKinds ks (make outcome)) → AreKinds ks (option_map make o)
each_fits ks make None form fits = tt
each_fits ks make (Some outcome) form fits = fits outcome (form (make outcome) refl)

merged_fit : (ks : List Kind) (rule : Rule) (a b : StateFacts) → HasKinds ks a → HasKinds ks b
    → ForSome (merged_known rule a b) HasForm
    → AreKinds ks (merged_known rule a b)
merged_fit ks rule a b first second = by (paired_frames a.variables a.references b.variables b.references) refl
  where
    by : (found : Option FramePairing) → paired_frames a.variables a.references b.variables b.references ≡ found
        → ForSome (option_and_then (merged_by rule a b) found) HasForm
        → AreKinds ks (option_and_then (merged_by rule a b) found)
    by None is form = tt
    by (Some f) is form =
        each_fits ks (merged_as rule.making a b f)
        (rule.numbers f.numbers.keys (numbers_known a.facts) (numbers_known b.facts)) form
        (λ outcome own. known_fits ks a b first second f outcome _ _ _ is own)

normal_fit : (ks : List Kind) (a : StateFacts) → HasKinds ks a → ForSome (normal_known a) HasForm
    → AreKinds ks (normal_known a)
normal_fit ks a has = by (paired_frames a.variables a.references a.variables a.references) refl
  where
    by : (found : Option FramePairing) → paired_frames a.variables a.references a.variables a.references ≡ found
        → ForSome (option_and_then (normal_by a) found) HasForm → AreKinds ks (option_and_then (normal_by a) found)
    by None is form = tt
    by (Some f) is form = each_fits ks (normal_as a f) (numbers.normed f.numbers.keys (numbers_known a.facts)) form
        (λ outcome own. known_fits ks a a has has f outcome _ _ _ is own)

both_alike : (ks : List Kind) (a b : StateFacts) → HasKinds ks a → HasKinds ks b
    → frames.AreAlike a.variables b.variables
both_alike ks a b first second =
    alike_of a b a.variables b.variables (like_kinds a b ks a.variables b.variables first.fit second.fit)

pub join_fits : (unit : MethodUnit) (at : Option (List Kind)) (a b : State) → FitsStack unit at a → FitsStack unit at b
    → FitsStack unit at (join a b)
join_fits unit at None b first second = second
join_fits unit at (Some a) None first second = first
join_fits unit None (Some a) (Some b) first second = elim first [ ]
join_fits unit (Some stack) (Some a) (Some b) first second =
    over_stack unit stack (join (Some a) (Some b))
    (merged_fit (kinds_over unit stack) joining a b first second (merged_form Join a b first.form second.form
    (both_alike (kinds_over unit stack) a b first second)))

pub widen_fits : (unit : MethodUnit) (at : Option (List Kind)) (a b : State) → FitsStack unit at a → FitsStack unit at b
    → FitsStack unit at (widen a b)
widen_fits unit at None b first second = second
widen_fits unit at (Some a) None first second = first
widen_fits unit None (Some a) (Some b) first second = elim first [ ]
widen_fits unit (Some stack) (Some a) (Some b) first second =
    over_stack unit stack (widen (Some a) (Some b))
    (merged_fit (kinds_over unit stack) widening a b first second
    (merged_form Widening a b first.form second.form (both_alike (kinds_over unit stack) a b first second)))

pub normal_fits : (unit : MethodUnit) (at : Option (List Kind)) (a : State) → FitsStack unit at a
    → FitsStack unit at (normal a)
normal_fits unit at None fits = tt
normal_fits unit None (Some a) fits = elim fits [ ]
normal_fits unit (Some stack) (Some a) has =
    over_stack unit stack (normal (Some a)) (normal_fit (kinds_over unit stack) a has (normal_form a has.form))
