-- A unit that calls no method but itself can be run in a world of its own.
use Rattle.std.proofs.Common.{◌≡◌, ℕ, zero, suc, List, [], ◌∷◌, length, map, Some, slice_get, refl, sym, ap, subst, ◌∙◌}
use Rattle.std.specs.List.{AllByRecursion}
use Rattle.std.proofs.lemmas.Option.{same_Some, none-some}
use Rattle.cil_model.specs.Worlds.{Names, info_of}
use Rattle.cil_model.specs.declared.machine.World.{World}
use Rattle.cil_model.specs.declared.unit.CalleeInfo.{CalleeInfo}
use Rattle.cil_model.specs.declared.unit.Unit.{Unit as MethodUnit}
use Rattle.cil_eval.specs.RunWorlds.{CanBeRun}
use Rattle.method_unit.specs.Units.{IsUnit}

abbrev pub world_of : MethodUnit → List ℕ → World
world_of unit callees = record { units = unit ∷ []; callee = callees ∷ [] }

same_length : (info : CalleeInfo) (callees : List ℕ) → length (map (λ (n : ℕ). info) callees) ≡ length callees
same_length info [] = refl
same_length info (n ∷ ns) = ap suc (same_length info ns)

found : (info : CalleeInfo) (callees : List ℕ) (number : ℕ) (callee : CalleeInfo) → AllByRecursion (λ (n : ℕ). n ≡ 0) callees
    → slice_get (map (λ (n : ℕ). info) callees) number ≡ Some callee → (slice_get callees number ≡ Some 0) × (callee ≡ info)
found info [] number callee zeros e = absurd (none-some callee e)
found info (n ∷ ns) zero callee zeros e = (ap Some zeros.0, sym (same_Some info callee e))
found info (n ∷ ns) (suc number) callee zeros e = found info ns number callee zeros.1 e

module _ (unit : MethodUnit) (callees : List ℕ) (zeros : AllByRecursion (λ (n : ℕ). n ≡ 0) callees) (are : unit.callees ≡ map (λ (n : ℕ). info_of unit) callees) where
  counts : (m : ℕ) (u : MethodUnit) (its : List ℕ) → slice_get (unit ∷ []) m ≡ Some u → slice_get (callees ∷ []) m ≡ Some its → length its ≡ length u.callees
  counts zero u its e f =
      ap length (sym (same_Some callees its f)) ∙ sym (same_length (info_of unit) callees) ∙ ap length (sym are) ∙ ap (λ (v : MethodUnit). length v.callees) (same_Some unit u e)
  counts (suc m) u its e f = absurd (none-some u e)

  named : (number : ℕ) (callee : CalleeInfo) → slice_get unit.callees number ≡ Some callee → Names (world_of unit callees) 0 number callee
  named number callee e =
      let parts = found (info_of unit) callees number callee zeros (subst (λ (infos : List CalleeInfo). slice_get infos number ≡ Some callee) are e) in
      record { index = 0; named = unit; index_is = parts.0; named_is = refl; same = parts.1 }

  entries : (m : ℕ) (u : MethodUnit) (number : ℕ) (callee : CalleeInfo) → slice_get (unit ∷ []) m ≡ Some u → slice_get u.callees number ≡ Some callee
      → Names (world_of unit callees) m number callee
  entries zero u number callee e f = named number callee (subst (λ (v : MethodUnit). slice_get v.callees number ≡ Some callee) (sym (same_Some unit u e)) f)
  entries (suc m) u number callee e f = absurd (none-some u e)

  pub can_be_run : IsUnit unit → CanBeRun (world_of unit callees)
  can_be_run is_unit = record {
    units = (is_unit.well_formed, tt);
    agree = record { lists = refl; counts = counts; entries = entries };
  }

-- The same, of lists that are told apart.
pub in_world : (unit : MethodUnit) (callees : List ℕ) (units : List MethodUnit) (lists : List (List ℕ)) → units ≡ unit ∷ [] → lists ≡ callees ∷ []
    → AllByRecursion (λ (n : ℕ). n ≡ 0) callees → unit.callees ≡ map (λ (n : ℕ). info_of unit) callees → IsUnit unit
    → CanBeRun (record { units = units; callee = lists })
in_world unit callees units lists one its zeros are is_unit = rw one (rw its (can_be_run unit callees zeros are is_unit))
