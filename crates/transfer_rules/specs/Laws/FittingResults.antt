-- One more number or array on top, one variable that changes, and what these leave of the kinds that fit.
use Rattle.std.proofs.Common.{◌≡◌, ℕ, zero, suc, ◌+◌, ℤ, pos, Bool, true, false, List, [], ◌∷◌, ◌++◌, length, slice_get, Option, Some, None, refl, sym, ap, subst, ◌∙◌, arith}
use Rattle.std.specs.Prelude.{set}
use Rattle.std.specs.Option.{option_and_then, option_map}
use Rattle.std.proofs.lemmas.Bool.{false≢true}
use Rattle.array_contents.specs.Storing.{stored}
use Rattle.cil_model.specs.Kinds.{address_kind, is_number}
use Rattle.cil_model.specs.Values.{same_place}
use Rattle.cil_model.specs.declared.instruction.BinOp.{BinOp}
use Rattle.cil_model.specs.declared.place.Kind.{Kind}
use Rattle.cil_model.specs.declared.place.Kind.TheVariants.{Int, Native}
use Rattle.cil_model.specs.declared.place.Place.{Place}
use Rattle.domain_api.specs.declared.expr.Expr.{Expr}
use Rattle.frame_names.specs.declared.reference.Reference.{Reference}
use Rattle.frame_names.specs.declared.var.Var.{Var}
use Rattle.frame_names.specs.declared.var.Var.TheVariants as vars
use Rattle.interval_domain.specs.Interval.{Interval}
use Rattle.number_facts.specs.Ends.{range_of}
use Rattle.number_facts.specs.Fresh.{Made}
use Rattle.number_facts.specs.Gaps.{gap}
use Rattle.state_facts.proofs.Growing.{Formed}
use Rattle.state_facts.specs.Arithmetic.{with_result}
use Rattle.state_facts.specs.Comparing.{null_known, null_tested, same_known, with_comparison, with_defined, with_null_known, with_null_test, with_same, with_same_known, with_tested, with_truth}
use Rattle.state_facts.specs.Comparing as comparing
use Rattle.state_facts.specs.Forms.{HasForm, HasVar, IsArrayPlace}
use Rattle.state_facts.specs.Moves.{beside, in_variable, int32_in, item_place, on_top, others, place_at, placed, with_item, with_items, with_number, with_one_of, with_placed, with_put, with_set, with_stored, with_written}
use Rattle.state_facts.specs.StateFacts.{StateFacts, State, nullness_at, reference_at}
use Rattle.transfer_rules.specs.Forms.{FitKinds, FitsKind, HasKinds, kind_in}
use Rattle.transfer_rules.specs.Laws.Fitting.{AreKinds, fit_pushed, fit_set, fit_stays, kind_stays, places_more, places_same}
use Rattle.transfer_rules.specs.Laws.KindForms.{AreAlike, address_of_place, array_reference, is_typed, own_place}

-- ---- numbers on top

-- One more variable, which is a number.
pub record HasNumberMore (before after : StateFacts) : Type 0 where
  pub expr : Expr
  pub variables : after.variables ≡ before.variables ++ vars.Number expr ∷ []
  pub references : after.references ≡ before.references

abbrev pub GivesNumber : StateFacts → State → Type 0
GivesNumber before None = Unit {0}
GivesNumber before (Some after) = HasNumberMore before after

pub made_number : (known : StateFacts) (o : Option Made) → GivesNumber known (option_map (on_top known) o)
made_number known None = tt
made_number known (Some made) = record { expr = made.expr; variables = refl; references = refl }

pub some_number : (lo hi : ℤ) (known : StateFacts) → GivesNumber known (with_number lo hi known)
unfolding with_number
some_number lo hi known = made_number known _

pub item_number : (r : ℕ) (i : Expr) (known : StateFacts) → GivesNumber known (with_item r i known)
unfolding with_item with_one_of
item_number r i known = made_number known _

pub result_number : (op : BinOp) (a b : Expr) (known : StateFacts) → GivesNumber known (with_result op a b known)
unfolding with_result
result_number op a b known = made_number known _

null_number : (r : ℕ) (is : Bool) (known : StateFacts) (o : Option Bool)
    → HasNumberMore known (with_null_known r is known o)
unfolding with_defined
null_number r is known None = record { expr = _; variables = refl; references = refl }
null_number r is known (Some holds) = record { expr = _; variables = refl; references = refl }

same_number : (is : Bool) (known : StateFacts) (o : Option Bool) → GivesNumber known (with_same_known is known o)
same_number is known None = some_number (pos 0) (pos 1) known
same_number is known (Some holds) = record { expr = _; variables = refl; references = refl }

tested_number : (r q : ℕ) (is : Bool) (known : StateFacts) (o : Option ℕ)
    → GivesNumber known (with_tested r q is known o)
unfolding with_null_test with_same
tested_number r q is known (Some tested) = null_number tested is known (null_known (nullness_at known tested))
tested_number r q is known None = same_number is known (same_known known r q)

pub comparison_number : (op : BinOp) (v w : Var) (known : StateFacts) → AreAlike v w
    → GivesNumber known (with_comparison op v w known)
unfolding with_comparison with_truth
comparison_number op (vars.Number a) (vars.Number b) known alike = record {
  expr = _;
  variables = refl;
  references = refl;
}
comparison_number op (vars.Reference r) (vars.Reference q) known alike =
    tested_number r q (comparing.is_equality op) known (null_tested r q)
comparison_number op _ _ known alike = elim alike [ ]

-- One variable is another, of this kind.
pub record HasSet (i : ℕ) (k : Kind) (before after : StateFacts) : Type 0 where
  pub var : Var
  pub variables : after.variables ≡ set before.variables i var
  pub references : after.references ≡ before.references
  pub fits : FitsKind after k var

abbrev pub Sets : ℕ → Kind → StateFacts → State → Type 0
Sets i k before None = Unit {0}
Sets i k before (Some after) = HasSet i k before after

-- Each number fits what one does.
pub any_number : (known after : StateFacts) (k : Kind) (e f : Expr) → FitsKind known k (vars.Number e)
    → FitsKind after k (vars.Number f)
any_number known after Int e f fits = tt
any_number known after Native e f fits = tt
any_number known after _ e f fits = elim fits [ ]

set_sets : (i : ℕ) (k : Kind) (v : Var) (known : StateFacts) → HasVar known v → FitsKind known k v
    → Sets i k known (with_set i v known)
set_sets i k v known there fits =
    let new = record known { variables = set known.variables i v } in
    record {
      var = v;
      variables = refl;
      references = refl;
      fits = kind_stays known new k v (places_same known new refl) there fits;
    }

pub put_sets : (i : ℕ) (k : Kind) (v : Var) (place : Place) (known : StateFacts) → HasVar known v → FitsKind known k v
    → Sets i k known (with_put i v place known)
unfolding with_put with_placed
put_sets i k (vars.Number e) place known there fits = by (placed known.facts e place)
  where
    by : (o : Option Made) → Sets i k known (option_map (in_variable known i) o)
    by None = tt
    by (Some made) = record {
      var = vars.Number made.expr;
      variables = refl;
      references = refl;
      fits = any_number known (in_variable known i made) k e made.expr fits;
    }
put_sets i k (vars.Reference r) place known there fits = set_sets i k (vars.Reference r) known there fits
put_sets i k vars.Text place known there fits = set_sets i k vars.Text known there fits
put_sets i k (vars.Address r e) place known there fits = set_sets i k (vars.Address r e) known there fits

-- What is known of the variables and the references is as before.
abbrev pub KeepsFrame : StateFacts → State → Type 0
KeepsFrame before None = Unit {0}
KeepsFrame before (Some after) = (after.variables ≡ before.variables) × (after.references ≡ before.references)

written_keeps : (r : ℕ) (i : Expr) (known : StateFacts) (made : Made) → KeepsFrame known (with_written r i known made)
unfolding with_written
written_keeps r i known made = by (int32_in (range_of made.facts made.expr))
  where
    by : (o : Option Interval) → KeepsFrame known (option_map (λ range. with_items (beside known made)
        (stored (gap made.facts) r i range (others known r) known.contents)) o)
    by None = tt
    by (Some range) = (refl, refl)

pub stored_keeps : (r : ℕ) (i e : Expr) (known : StateFacts) → KeepsFrame known (with_stored r i e known)
unfolding with_stored
stored_keeps r i e known = by (placed known.facts e (item_place (place_at known r)))
  where
    by : (o : Option Made) → KeepsFrame known (option_and_then (with_written r i known) o)
    by None = tt
    by (Some made) = written_keeps r i known made

new_last : (references : List Reference) (r : Reference)
    → slice_get (references ++ r ∷ []) (length references) ≡ Some r
new_last [] r = refl
new_last (x ∷ references) r = new_last references r

new_there : (references : List Reference) (r : Reference) (n : ℕ) → n ≡ suc (length references)
    → reference_at (references ++ r ∷ []) n ≡ Some r
unfolding reference_at
new_there references r zero is = absurd (omega (arith, is))
new_there references r (suc n) is =
    let same : n ≡ length references =
    omega (arith, is) in ap (slice_get (references ++ r ∷ [])) same ∙ new_last references r

-- One more reference of an array's type, and this on top.
pub record HasArrayMore (place : Place) (v : Var) (before after : StateFacts) : Type 0 where
  pub reference : Reference
  pub variables : after.variables ≡ before.variables ++ v ∷ []
  pub references : after.references ≡ before.references ++ reference ∷ []
  pub place_is : reference.place ≡ place

-- The number of the next reference.
abbrev pub next_of : StateFacts → ℕ
next_of known = length known.references + 1

-- ---- what is known behind them

number_of_kind : (known : StateFacts) (k : Kind) (e : Expr) → is_number k ≡ true → FitsKind known k (vars.Number e)
number_of_kind known Int e is = tt
number_of_kind known Native e is = tt
number_of_kind known _ e is = absurd (false≢true is)

pub number_more : (ks : List Kind) (k : Kind) (known : StateFacts) (state : State) → is_number k ≡ true
    → HasKinds ks known → Formed state
    → GivesNumber known state → AreKinds (ks ++ k ∷ []) state
number_more ks k known None is has form more = tt
number_more ks k known (Some after) is has form more = record {
  form = form;
  fit = subst (FitKinds after (ks ++ k ∷ [])) (sym more.variables)
      (fit_pushed after ks known.variables k (vars.Number more.expr)
      (fit_stays known after ks known.variables (places_same known after more.references) has.form.variables has.fit)
      (number_of_kind after k more.expr is));
}

new_typed : (place : Place) (other : Bool) (v : Var) (known after : StateFacts) → IsArrayPlace place
    → HasArrayMore place v known after → is_typed place other (reference_at after.references (next_of known)) ≡ true
new_typed place other v known after array more =
    let found : reference_at after.references (next_of known) ≡ Some more.reference =
    ap (λ rs. reference_at rs (next_of known)) more.references
    ∙ new_there known.references more.reference (next_of known) (omega arith) in
    ap (is_typed place other) found ∙ ap (λ p. same_place p place) more.place_is ∙ own_place place array

named_more : (ks : List Kind) (k : Kind) (place : Place) (v : Var) (known after : StateFacts) → HasKinds ks known
    → HasForm after → HasArrayMore place v known after → FitsKind after k v → HasKinds (ks ++ k ∷ []) after
named_more ks k place v known after has form more fits = record {
  form = form;
  fit = subst (FitKinds after (ks ++ k ∷ [])) (sym more.variables)
      (fit_pushed after ks known.variables k v
      (fit_stays known after ks known.variables
      (places_more known after (more.reference ∷ []) more.references) has.form.variables has.fit) fits);
}

pub array_more : (ks : List Kind) (place : Place) (known after : StateFacts) → HasKinds ks known → HasForm after
    → IsArrayPlace place → HasArrayMore place (vars.Reference (next_of known)) known after
    → HasKinds (ks ++ kind_in place ∷ []) after
array_more ks place known after has form array more =
    let v = vars.Reference (next_of known) in
    named_more ks (kind_in place) place v known after has form more
    (array_reference after place (next_of known) array (new_typed place true v known after array more))

-- Not the reference is on top, but an address in the array.
pub address_more : (ks : List Kind) (k : Kind) (place : Place) (i : Expr) (known after : StateFacts)
    → HasKinds ks known → HasForm after → IsArrayPlace place → address_kind place ≡ Some k
    → HasArrayMore place (vars.Address (next_of known) i) known after → HasKinds (ks ++ k ∷ []) after
address_more ks k place i known after has form array is more =
    let v = vars.Address (next_of known) i in
    named_more ks k place v known after has form more
    (address_of_place after place k (next_of known) i is (new_typed place false v known after array more))

pub frame_kept : (ks : List Kind) (known : StateFacts) (state : State) → HasKinds ks known → Formed state
    → KeepsFrame known state
    → AreKinds ks state
frame_kept ks known None has form same = tt
frame_kept ks known (Some after) has form same = record {
  form = form;
  fit =
      subst (FitKinds after ks) (sym same.0)
      (fit_stays known after ks known.variables (places_same known after same.1) has.form.variables has.fit);
}

pub one_set : (ks : List Kind) (i : ℕ) (k : Kind) (known : StateFacts) (state : State) → HasKinds ks known
    → slice_get ks i ≡ Some k
    → Formed state → Sets i k known state → AreKinds ks state
one_set ks i k known None has there form sets = tt
one_set ks i k known (Some after) has there form sets = record {
  form = form;
  fit = subst (FitKinds after ks) (sym sets.variables)
      (fit_set after ks known.variables i k sets.var
      (fit_stays known after ks known.variables (places_same known after sets.references) has.form.variables has.fit)
      there sets.fits);
}
