-- The values of a point's variables: numbers and indexes are int32, and the stack lies on top.
use Rattle.std.proofs.Common.{◌≡◌, ℕ, ℤ, Option, List, [], ◌∷◌, ◌++◌, FitsSigned, w32, ap, ◌∙◌}
use Rattle.std.specs.Prelude.{reverse}
use Rattle.std.specs.List.{AllByRecursion}
use Rattle.std.proofs.lemmas.List.{reverse-append, reverse-reverse}
use Rattle.cil_model.proofs.Lists.{all_reverse}
use Rattle.cil_model.specs.Values.{Heap, IsHeap, IsValue}
use Rattle.cil_model.specs.declared.machine.Frame.{Frame}
use Rattle.cil_model.specs.declared.machine.Value.{Value}
use Rattle.frame_names.specs.declared.var.Var.{Var}
use Rattle.frame_names.specs.declared.var.Var.TheVariants as vars
use Rattle.machine_points.specs.MachineValues.{HasMachineValues}
use Rattle.machine_points.specs.declared.point.Point.{Point}
use Rattle.state_facts.proofs.Agreeing.{have_pushed}
use Rattle.state_facts.proofs.ComparisonsHold.{number_fits}
use Rattle.state_facts.specs.Holds.{HasValue, HaveValues, variables_of}
use Rattle.state_obligations.proofs.AddressLaws.{address_fits}
use Rattle.symbolic_values.specs.Worth.{worth}

-- ---- numbers

-- What a variable has is an int32, if it is a number. If it is an address, its index is.
abbrev pub FitsVar : (ℕ → ℤ) → Var → Type 0
FitsVar number (vars.Number e) = FitsSigned w32 (worth number e)
FitsVar number (vars.Reference r) = Unit {0}
FitsVar number vars.Text = Unit {0}
FitsVar number (vars.Address r e) = FitsSigned w32 (worth number e)

both_all : {X : Type 0} (P : X → Type 0) (xs ys : List X) → AllByRecursion P xs → AllByRecursion P ys → AllByRecursion P (xs ++ ys)
both_all P [] ys first second = second
both_all P (x ∷ xs) ys first second = (first.0, both_all P xs ys first.1 second)

module _ (number : ℕ → ℤ) (array : ℕ → Option ℕ) where
  -- So is each variable that has the value.
  abbrev pub FitsValue : Value → Type 0
  FitsValue value = (v : Var) → HasValue number array v value → FitsVar number v

  value_fits : (heap : Heap) (value : Value) → IsHeap heap → IsValue heap value → FitsValue value
  value_fits heap value arrays is = λ v has. by v has
    where
      by : (v : Var) → HasValue number array v value → FitsVar number v
      by (vars.Number e) has = number_fits heap value (worth number e) is has
      by (vars.Reference r) has = tt
      by vars.Text has = tt
      by (vars.Address r e) has = (address_fits r e heap number array value has is arrays).1.0

  all_fit : (heap : Heap) (vs : List Value) → IsHeap heap → AllByRecursion (IsValue heap) vs → AllByRecursion FitsValue vs
  all_fit heap [] arrays all = tt
  all_fit heap (v ∷ vs) arrays all = (value_fits heap v arrays all.0, all_fit heap vs arrays all.1)

  pub values_fit : (p : Point) → HasMachineValues p → AllByRecursion FitsValue (variables_of p.frame)
  values_fit p machine =
      both_all FitsValue (p.frame.entry_args ++ p.frame.args ++ p.frame.locals) (reverse p.frame.stack)
      (both_all FitsValue (p.frame.entry_args ++ p.frame.args) p.frame.locals
      (both_all FitsValue p.frame.entry_args p.frame.args
      (all_fit p.frame.entry_heap p.frame.entry_args machine.entry_heap machine.entry_args)
      (all_fit p.heap p.frame.args machine.heap machine.args))
      (all_fit p.heap p.frame.locals machine.heap machine.locals))
      (all_reverse FitsValue p.frame.stack (all_fit p.heap p.frame.stack machine.heap machine.stack))

  pub variables_fit : (vs : List Var) (xs : List Value) → HaveValues number array vs xs → AllByRecursion FitsValue xs
      → AllByRecursion (FitsVar number) vs
  variables_fit [] xs have all = tt
  variables_fit (v ∷ vs) [] have all = absurd have
  variables_fit (v ∷ vs) (x ∷ xs) have all = (all.0 v have.0, variables_fit vs xs have.1 all.1)

-- ---- the stack

pub have_reversed : (number : ℕ → ℤ) (array : ℕ → Option ℕ) (vs : List Var) (xs : List Value) → HaveValues number array vs xs
    → HaveValues number array (reverse vs) (reverse xs)
have_reversed number array [] [] have = tt
have_reversed number array [] (x ∷ xs) have = absurd have
have_reversed number array (v ∷ vs) [] have = absurd have
have_reversed number array (v ∷ vs) (x ∷ xs) have =
    rw (reverse-append (v ∷ []) vs, reverse-append (x ∷ []) xs)
    (have_pushed number array (reverse vs) (reverse xs) v x (have_reversed number array vs xs have.1) have.0)

-- What lies below the stack.
abbrev pub below_stack : Frame → List Value
below_stack f = reverse (f.entry_args ++ f.args ++ f.locals)

pub stack_first : (f : Frame) → reverse (variables_of f) ≡ f.stack ++ below_stack f
stack_first f =
    reverse-append (f.entry_args ++ f.args ++ f.locals) (reverse f.stack) ∙ ap (λ (s : List Value). s ++ below_stack f) (reverse-reverse f.stack)
