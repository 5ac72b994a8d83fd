-- A method that calls itself, and a method that calls it with an argument that it does not take.
use Rattle.std.proofs.Common.{◌≡◌, ℕ, zero, suc, pos, negsuc, List, [], ◌∷◌, length, Some, slice_get, codes, refl, sym, ap, subst, ◌∙◌}
use Rattle.std.proofs.lemmas.Option.{same_Some, none-some}
use Rattle.cil_model.specs.Terms as terms
use Rattle.cil_model.specs.Worlds.{Agree, Names}
use Rattle.cil_model.specs.declared.clause.Clause.{Clause}
use Rattle.cil_model.specs.declared.clause.ClauseKind.TheVariants as kinds
use Rattle.cil_model.specs.declared.instruction.BinOp.TheVariants as operators
use Rattle.cil_model.specs.declared.instruction.Op.TheVariants as ops
use Rattle.cil_model.specs.declared.instruction.Test.TheVariants as tests
use Rattle.cil_model.specs.declared.machine.World.{World}
use Rattle.cil_model.specs.declared.place.Place.TheVariants as places
use Rattle.cil_model.specs.declared.unit.CalleeInfo.{CalleeInfo}
use Rattle.cil_model.specs.declared.unit.Unit.{Unit as MethodUnit}
use Rattle.cil_model.proofs.Laid.{method}

-- n >= 0, as a compiler writes it: (n < 0) == 0
abbrev not_negative : Clause
not_negative = record {
  kind = kinds.Requires;
  tree = terms.Bin operators.Ceq (terms.Bin operators.Clt (terms.Arg 0) (terms.Const (pos 0))) (terms.Const (pos 0));
}

abbrev pub sum_info : CalleeInfo
sum_info = record { name = codes "Demo.Calc::Sum"; result = places.Int; args = places.Int ∷ []; clauses = not_negative ∷ [] }

-- int Sum(int n) { Contract.Requires(n >= 0); if (n == 0) return 0; return n + Sum(n - 1); }
abbrev pub sum : MethodUnit
sum =
    method (codes "Demo.Calc::Sum") places.Int (places.Int ∷ []) (sum_info ∷ []) (not_negative ∷ []) 12
    (0x02 ∷ 0x16 ∷ 0xfe ∷ 0x04 ∷ 0x16 ∷ 0xfe ∷ 0x01 ∷ 0x28 ∷ 0x01 ∷ 0x00 ∷ 0x00 ∷ 0x00
    ∷ 0x02 ∷ 0x2d ∷ 0x02 ∷ 0x16 ∷ 0x2a ∷ 0x02 ∷ 0x02 ∷ 0x17 ∷ 0x59 ∷ 0x28 ∷ 0x64 ∷ 0x00 ∷ 0x00 ∷ 0x00 ∷ 0x58 ∷ 0x2a ∷ [])
    ((1, ops.LoadArg 0) ∷ (1, ops.Const (pos 0)) ∷ (2, ops.Bin operators.Clt) ∷ (1, ops.Const (pos 0)) ∷ (2, ops.Bin operators.Ceq) ∷ (5, ops.Call 1)
    ∷ (1, ops.LoadArg 0) ∷ (2, ops.Branch tests.True 17) ∷ (1, ops.Const (pos 0)) ∷ (1, ops.Return)
    ∷ (1, ops.LoadArg 0) ∷ (1, ops.LoadArg 0) ∷ (1, ops.Const (pos 1)) ∷ (1, ops.Bin operators.Sub) ∷ (5, ops.Call 100)
    ∷ (1, ops.Bin operators.Add) ∷ (1, ops.Return) ∷ [])

-- int Calls() { return Sum(-1); }
abbrev pub calls : MethodUnit
calls =
    method (codes "Demo.Calc::Calls") places.Int [] (sum_info ∷ []) [] 0 (0x15 ∷ 0x28 ∷ 0x64 ∷ 0x00 ∷ 0x00 ∷ 0x00 ∷ 0x2a ∷ [])
    ((1, ops.Const (negsuc 0)) ∷ (5, ops.Call 100) ∷ (1, ops.Return) ∷ [])

-- The world of the two, each of which calls the first.
abbrev pub world : World
world = record { units = sum ∷ calls ∷ []; callee = (0 ∷ []) ∷ (0 ∷ []) ∷ [] }

sum_entry : (m number : ℕ) (callee : CalleeInfo) → slice_get (sum_info ∷ []) number ≡ Some callee → (index : slice_get world.callee m ≡ Some (0 ∷ [])) → Names world m number callee
sum_entry zero zero callee e index = record { index = 0; named = sum; index_is = refl; named_is = refl; same = sym (same_Some sum_info callee e) }
sum_entry (suc zero) zero callee e index = record { index = 0; named = sum; index_is = refl; named_is = refl; same = sym (same_Some sum_info callee e) }
sum_entry (suc (suc m)) zero callee e index = absurd (none-some (0 ∷ []) index)
sum_entry m (suc number) callee e index = absurd (none-some callee e)

counts : (m : ℕ) (unit : MethodUnit) (callees : List ℕ) → slice_get world.units m ≡ Some unit → slice_get world.callee m ≡ Some callees
    → length callees ≡ length unit.callees
counts zero unit callees e f = ap length (sym (same_Some (0 ∷ []) callees f)) ∙ ap (λ (u : MethodUnit). length u.callees) (same_Some sum unit e)
counts (suc zero) unit callees e f = ap length (sym (same_Some (0 ∷ []) callees f)) ∙ ap (λ (u : MethodUnit). length u.callees) (same_Some calls unit e)
counts (suc (suc m)) unit callees e f = absurd (none-some unit e)

entries : (m : ℕ) (unit : MethodUnit) (number : ℕ) (callee : CalleeInfo) → slice_get world.units m ≡ Some unit
    → slice_get unit.callees number ≡ Some callee → Names world m number callee
entries zero unit number callee e f = sum_entry zero number callee (subst (λ (u : MethodUnit). slice_get u.callees number ≡ Some callee) (sym (same_Some sum unit e)) f) refl
entries (suc zero) unit number callee e f = sum_entry (suc zero) number callee (subst (λ (u : MethodUnit). slice_get u.callees number ≡ Some callee) (sym (same_Some calls unit e)) f) refl
entries (suc (suc m)) unit number callee e f = absurd (none-some unit e)

-- They agree on what they say of each other.
pub world_agrees : Agree world
world_agrees = record { lists = refl; counts = counts; entries = entries }
