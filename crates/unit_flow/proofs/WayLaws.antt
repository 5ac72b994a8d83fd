-- The way that the machine takes leads where it goes on.
use Rattle.std.proofs.Common.{◌≡◌, ℕ, ◌+◌, ◌≤◌, Bool, true, false, not, List, [], ◌∷◌, ◌++◌, length, min, Option, Some, None, refl, sym, ap, subst, ◌∙◌, ⊎_elim, arith, inl, inr}
use Rattle.std.specs.Prelude.{slice_get, option_map}
use Rattle.std.proofs.lemmas.Option.{none-some, slice_get_cases, slice_get_within}
use Rattle.cil_model.specs.Arithmetic.{unsigned}
use Rattle.cil_model.specs.Calls.{FreeCall}
use Rattle.cil_model.specs.Comparisons.{is_true, compares_values}
use Rattle.cil_model.specs.Effects.{GoesOn, HasEffect, effects_of, branches, branches_by, switches, switches_to}
use Rattle.cil_model.specs.Passes.{successors}
use Rattle.cil_model.specs.Runs.{EffectRow, Row}
use Rattle.cil_model.specs.Values.{Heap}
use Rattle.cil_model.specs.declared.instruction.Instr.{Instr}
use Rattle.cil_model.specs.declared.instruction.Op.{Op}
use Rattle.cil_model.specs.declared.instruction.Op.TheVariants as ops
use Rattle.cil_model.specs.declared.instruction.Test.{Test}
use Rattle.cil_model.specs.declared.instruction.Test.TheVariants as tests
use Rattle.cil_model.specs.declared.machine.Config.TheVariants as configs
use Rattle.cil_model.specs.declared.machine.Frame.{Frame}
use Rattle.cil_model.specs.declared.machine.Value.{Value}
use Rattle.cil_model.specs.declared.machine.Value.TheVariants.{Int}
use Rattle.cil_model.specs.declared.unit.Unit.{Unit as MethodUnit}
use Rattle.flow_graph.proofs.EffectsGo.{IsOneOf}
use Rattle.flow_graph.proofs.Items.{in_prefix, last_there}
use Rattle.flow_graph.proofs.StepsGo.{goes_on, no_return, row_found, step_goes}
use Rattle.flow_graph.proofs.Successors.{only_next}
use Rattle.machine_points.specs.Points.{lives_at}
use Rattle.machine_points.specs.declared.point.Point.{Point}
use Rattle.unit_flow.specs.Flow.{Steps}
use Rattle.unit_flow.specs.Runs.{TakesWay}
use Rattle.unit_flow.specs.Ways.{side, way_of_test, way_of_switch, way_of}

-- ---- places in lists

only_way : (next at : ℕ) → IsOneOf (next ∷ []) at → slice_get (next ∷ []) 0 ≡ Some at
only_way next at (n, is) = ap Some (sym (only_next next n at is))

none_behind : (xs : List ℕ) (n : ℕ) → slice_get xs n ≡ None → length xs ≤ n
none_behind xs n is =
    elim (slice_get_cases xs n).1 [
      | inl (x, below, some, read) ↦ absurd (none-some x (sym is ∙ some))
      | inr past ↦ past.0
    ]

-- ---- branches

at_of : (new g : Frame) (heap after : Heap) → HasEffect (GoesOn new heap ∷ []) (GoesOn g after)
    → Some new.at ≡ Some g.at
at_of new g heap after has =
    ⊎_elim (λ is. let same : g ≡ new = cc in ap (λ (h : Frame). Some h.at) (sym same)) (λ none. elim none [ ]) has

side_taken : (target : ℕ) (i : Instr) (f g : Frame) (heap after : Heap) (rest : List Value) (o : Option Bool)
    → HasEffect (branches target i f heap rest o) (GoesOn g after)
    → slice_get (target ∷ (i.at + i.size) ∷ []) (side o) ≡ Some g.at
side_taken target i f g heap after rest None has = elim has [ ]
side_taken target i f g heap after rest (Some true) has = at_of _ g heap after has
side_taken target i f g heap after rest (Some false) has = at_of _ g heap after has

test_taken : (test : Test) (target : ℕ) (i : Instr) (f g : Frame) (heap after : Heap) (stack : List Value)
    → HasEffect (branches_by test target i f heap stack) (GoesOn g after)
    → slice_get (successors (ops.Branch test target) (i.at + i.size)) (way_of_test test stack) ≡ Some g.at
test_taken tests.Always target i f g heap after stack has = at_of _ g heap after has
test_taken tests.True target i f g heap after (v ∷ rest) has = side_taken target i f g heap after rest (is_true v) has
test_taken tests.True target i f g heap after [] has = elim has [ ]
test_taken tests.False target i f g heap after (v ∷ rest) has =
    side_taken target i f g heap after rest (option_map not (is_true v)) has
test_taken tests.False target i f g heap after [] has = elim has [ ]
test_taken (tests.Cmp op) target i f g heap after (b ∷ a ∷ rest) has =
    side_taken target i f g heap after rest (compares_values op a b) has
test_taken (tests.Cmp op) target i f g heap after (b ∷ []) has = elim has [ ]
test_taken (tests.Cmp op) target i f g heap after [] has = elim has [ ]

case_taken : (targets : List ℕ) (n : ℕ) (i : Instr) (f g : Frame) (heap after : Heap) (rest : List Value) (o : Option ℕ)
    → slice_get targets n ≡ o
    → HasEffect (switches_to i f heap rest o) (GoesOn g after)
    → slice_get (targets ++ (i.at + i.size) ∷ []) (min n (length targets)) ≡ Some g.at
case_taken targets n i f g heap after rest None is has =
    let most = none_behind targets n is in
    let last : min n (length targets) ≡ length targets = omega (arith, most) in
    rw last (last_there targets (i.at + i.size) ∙ at_of _ g heap after has)
case_taken targets n i f g heap after rest (Some target) is has =
    let below = slice_get_within targets n target is in
    let here : min n (length targets) ≡ n = omega (arith, below) in
    rw here (in_prefix targets ((i.at + i.size) ∷ []) n target is ∙ at_of _ g heap after has)

switch_taken : (targets : List ℕ) (i : Instr) (f g : Frame) (heap after : Heap) (stack : List Value)
    → HasEffect (switches targets i f heap stack) (GoesOn g after)
    → slice_get (targets ++ (i.at + i.size) ∷ []) (way_of_switch (length targets) stack) ≡ Some g.at
switch_taken targets i f g heap after (Int n ∷ rest) has =
    case_taken targets (unsigned n) i f g heap after rest (slice_get targets (unsigned n)) refl has
switch_taken targets i f g heap after _ has = elim has [ ]

-- ---- all instructions

by_effect : (unit : MethodUnit) (i : Instr) (f g : Frame) (heap after : Heap) (op : Op) → i.op ≡ op
    → EffectRow [] unit i f heap (configs.Live (g ∷ []) after)
    → HasEffect (effects_of op unit i f heap) (GoesOn g after)
by_effect unit i f g heap after op is row =
    subst (λ (o : Op). HasEffect (effects_of o unit i f heap) (GoesOn g after)) is (goes_on unit i f heap g after row)

module _ (unit : MethodUnit) (i : Instr) (p q : Point) (step : Steps unit i p q) where
  only : (op : Op) → i.op ≡ op → successors op (i.at + i.size) ≡ (i.at + i.size) ∷ []
      → slice_get ((i.at + i.size) ∷ []) 0 ≡ Some q.frame.at
  only op is one = only_way (i.at + i.size) q.frame.at
      (subst (λ (ats : List ℕ). IsOneOf ats q.frame.at) one
      (subst (λ (o : Op). IsOneOf (successors o (i.at + i.size)) q.frame.at) is
      (step_goes unit i p.frame q.frame p.heap q.heap step.goes step.to)))

  taken : (op : Op) → i.op ≡ op → Row (FreeCall unit) op [] unit i p.frame p.heap (lives_at q)
      → slice_get (successors op (i.at + i.size)) (way_of op p.frame.stack) ≡ Some q.frame.at
  taken (ops.Branch test target) is row =
      test_taken test target i p.frame q.frame p.heap q.heap p.frame.stack
      (by_effect unit i p.frame q.frame p.heap q.heap (ops.Branch test target) is row)
  taken (ops.Switch targets) is row =
      switch_taken targets i p.frame q.frame p.heap q.heap p.frame.stack
      (by_effect unit i p.frame q.frame p.heap q.heap (ops.Switch targets) is row)
  taken ops.Return is row = absurd (no_return unit i p.frame p.heap q.frame q.heap row)
  taken op is row = only op is refl

pub takes_way : (unit : MethodUnit) (i : Instr) → TakesWay unit i
takes_way unit i =
    λ p q step. taken unit i p q step i.op refl (row_found unit i p.frame p.heap (lives_at q) step.to step.goes)
