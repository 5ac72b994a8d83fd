-- The place of a Result is one that has values, and so is one that takes a value.
use Rattle.std.proofs.Common.{◌≡◌, ℕ, ◌==◌, nat_le, Bool, true, false, Option, Some, if◌then◌else◌, refl}
use Rattle.std.proofs.lemmas.Bool.{false≢true}
use Rattle.cil_model.specs.Kinds.{kind_of, takes}
use Rattle.cil_model.specs.UnitCalls.{condition_call, place_call, unit_call}
use Rattle.cil_model.specs.declared.place.Kind.{Kind}
use Rattle.cil_model.specs.declared.place.Kind.TheVariants as kinds
use Rattle.cil_model.specs.declared.place.Place.{Place}
use Rattle.cil_model.specs.declared.place.Place.TheVariants as places
use Rattle.cil_model.specs.declared.unit_numbers.UnitCall.{UnitCall}
use Rattle.cil_model.specs.declared.unit_numbers.UnitCall.TheVariants as calls

abbrev NotVoid : Option UnitCall → Type 0
NotVoid call = call ≡ Some (calls.Result places.Void) → ⊥

chosen : (b : Bool) (x y : Option UnitCall) → NotVoid x → NotVoid y → NotVoid (if b then x else y)
chosen true x y not_x not_y = not_x
chosen false x y not_x not_y = not_y

condition_not_void : (n : ℕ) → NotVoid (condition_call n)
condition_not_void n =
    chosen (n == 1) _ _ (λ e. cc) (chosen (n == 2) _ _ (λ e. cc) (chosen (n == 3) _ _ (λ e. cc) (chosen (n == 4) _ _ (λ e. cc)
    (chosen (n == 5) _ _ (λ e. cc) (chosen (n == 6) _ _ (λ e. cc) (chosen (n == 7) _ _ (λ e. cc) (chosen (n == 8) _ _ (λ e. cc) (λ e. cc))))))))

place_not_void : (n : ℕ) → NotVoid (place_call n)
place_not_void n =
    chosen (n == 11) _ _ (λ e. cc) (chosen (n == 12) _ _ (λ e. cc) (chosen (n == 13) _ _ (λ e. cc) (chosen (n == 14) _ _ (λ e. cc)
    (chosen (n == 21) _ _ (λ e. cc) (chosen (n == 22) _ _ (λ e. cc) (chosen (n == 23) _ _ (λ e. cc) (chosen (n == 24) _ _ (λ e. cc) (λ e. cc))))))))

not_void : (n : ℕ) → NotVoid (unit_call n)
unfolding unit_call
not_void n = chosen (nat_le 100 n) _ _ (λ e. cc) (chosen (n == 9) _ _ (λ e. cc) (chosen (nat_le n 8) _ _ (condition_not_void n) (place_not_void n)))

pub result_kind : (n : ℕ) (place : Place) → unit_call n ≡ Some (calls.Result place) → (kind : Kind) × (kind_of place ≡ Some kind)
result_kind n places.Void is = absurd (not_void n is)
result_kind n places.Bool is = (kinds.Int, refl)
result_kind n places.Int is = (kinds.Int, refl)
result_kind n places.Bools is = (kinds.Bools, refl)
result_kind n places.Ints is = (kinds.Ints, refl)

-- A place that takes a value holds one.
pub taken_kind : (place : Place) (kind : Kind) → takes place kind ≡ true → (of_place : Kind) × (kind_of place ≡ Some of_place)
taken_kind places.Void kind fits = absurd (false≢true fits)
taken_kind places.Bool kind fits = (kinds.Int, refl)
taken_kind places.Int kind fits = (kinds.Int, refl)
taken_kind places.Bools kind fits = (kinds.Bools, refl)
taken_kind places.Ints kind fits = (kinds.Ints, refl)
