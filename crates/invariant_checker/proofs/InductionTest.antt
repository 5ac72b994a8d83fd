-- The test of an invariant tells whether states are one.
use Rattle.std.proofs.Common.{◌≡◌, ℕ, zero, suc, ◌+◌, ◌<◌, ◌≤◌, ◌==◌, Bool, true, ◌&&◌, Decides, List, length, reverse, Option, Some, None, refl, sym, subst, arith, inl, inr}
use Rattle.std.specs.List.{list_all, range_with_len}
use Rattle.std.proofs.lemmas.Bool.{and_parts, cases_lt, eq-eqb, eqb-true, false≢true}
use Rattle.std.proofs.lemmas.List.{reverse-reverse}
use Rattle.abs_state.specs.FormTests.{has_form}
use Rattle.abs_state.specs.StateParts.{parts_of}
use Rattle.abs_state.proofs.PartForms.{form_decides}
use Rattle.cil_model.specs.declared.place.Kind.{Kind}
use Rattle.cil_model.specs.declared.unit.Unit.{Unit as MethodUnit}
use Rattle.merged_states.specs.Inclusion.{is_included}
use Rattle.state_facts.specs.Forms.{HasForm}
use Rattle.state_facts.specs.StateFacts.{StateFacts, State}
use Rattle.transfer_rules.specs.Entry.{entry}
use Rattle.transfer_rules.specs.FitTests.{fit_stack}
use Rattle.transfer_rules.specs.Forms.{FitsStack, HasKinds, kinds_over}
use Rattle.transfer_rules.specs.Inductive.{HasShape, IsInductive, state_at}
use Rattle.transfer_rules.proofs.FitTold.{stack_told}
use Rattle.unit_flow.specs.Flow.{kinds_at}
use Rattle.unit_flow.specs.declared.unit_flow.UnitFlow.{UnitFlow}
use Rattle.invariant_checker.specs.Inducts.{fits_block, fits_stack, has_shape, is_carried, is_inductive}

-- ---- a test of numbers below another

each_from : (p : ℕ → Bool) (a n k : ℕ) → list_all p (range_with_len a n) ≡ true → a ≤ k → k < a + n → p k ≡ true
each_from p a zero k all low high = absurd (omega (arith, low, high))
each_from p a (suc n) k all low high =
    let parts = and_parts (p a) (list_all p (range_with_len (a + 1) n)) all in
    elim (cases_lt a k) [
      | inl less ↦ each_from p (a + 1) n k parts.1 (omega (arith, less)) (omega (arith, high))
      | inr not ↦ (let same : a ≡ k = omega (arith, low, not) in subst (λ (m : ℕ). p m ≡ true) same parts.0)
    ]

all_from : (p : ℕ → Bool) (a n : ℕ) → ((k : ℕ) → a ≤ k → k < a + n → p k ≡ true)
    → list_all p (range_with_len a n) ≡ true
all_from p a zero each = refl
all_from p a (suc n) each =
    rw (each a (omega arith) (omega arith))
    (all_from p (a + 1) n (λ k low high. each k (omega (arith, low)) (omega (arith, high))))

-- ---- the form of states

has_decides : (unit : MethodUnit) (stack : List Kind) (known : StateFacts)
    → Decides (has_form (parts_of (Some known)) && fit_stack unit (reverse stack) (Some known))
    (HasKinds (kinds_over unit stack) known)
has_decides unit stack known = (
  λ is.
      let parts = and_parts (has_form (parts_of (Some known))) (fit_stack unit (reverse stack) (Some known)) is in
      subst (λ (ks : List Kind). HasKinds (kinds_over unit ks) known) (reverse-reverse stack)
      ((stack_told unit (reverse stack) known (forms.0 parts.0)).0 parts.1),
  λ has.
      let fits = (stack_told unit (reverse stack) known has.form).1
      (subst (λ (ks : List Kind). HasKinds (kinds_over unit ks) known) (sym (reverse-reverse stack)) has) in
      rw (forms.1 has.form, fits) refl,
)
  where
    forms : Decides (has_form (parts_of (Some known))) (HasForm known)
    forms = form_decides (parts_of (Some known))

stack_decides : (unit : MethodUnit) (stack : Option (List Kind)) (state : State)
    → Decides (fits_stack unit stack state) (FitsStack unit stack state)
stack_decides unit stack None = (λ is. tt, λ fits. refl)
stack_decides unit None (Some known) = (λ is. absurd (false≢true is), λ fits. absurd fits)
stack_decides unit (Some stack) (Some known) = has_decides unit stack known

-- ---- the test

module _ (code : UnitFlow) (states : List State) where
  block_decides : (block : ℕ)
      → Decides (fits_block code states block) (FitsStack code.unit (kinds_at code block) (state_at states block))
  block_decides block = stack_decides code.unit (kinds_at code block) (state_at states block)

  shape_by : has_shape code states ≡ true → HasShape code states
  shape_by is =
      let shape = and_parts (length states == length code.graph.blocks)
      (list_all (fits_block code states) (range_with_len 0 (length states))) is in
      record {
        count = eqb-true (length states) (length code.graph.blocks) shape.0;
        fit = λ block below. (block_decides block).0
            (each_from (fits_block code states) 0 (length states) block shape.1 (omega arith) (omega (arith, below)));
      }

  shape_true : HasShape code states → has_shape code states ≡ true
  shape_true shape =
      let fit = all_from (fits_block code states) 0 (length states)
      (λ block low below. (block_decides block).1 (shape.fit block (omega (arith, below)))) in
      rw (eq-eqb (length states) (length code.graph.blocks) shape.count, fit) refl

  pub shape_decides : Decides (has_shape code states) (HasShape code states)
  shape_decides = (shape_by, shape_true)

  pub inductive_by : is_inductive code states ≡ true → IsInductive code states
  unfolding is_inductive
  inductive_by is =
      let first = and_parts (has_shape code states && is_included (entry code.unit) (state_at states 0)) _ is in
      let second = and_parts (has_shape code states) (is_included (entry code.unit) (state_at states 0)) first.0 in
      record {
        shape = shape_by second.0;
        begun = second.1;
        edges = λ edge below. each_from (is_carried code states) 0 (length code.graph.edges) edge first.1 (omega arith)
            (omega (arith, below));
      }

  pub inductive_true : IsInductive code states → is_inductive code states ≡ true
  unfolding is_inductive
  inductive_true inductive =
      let edges = all_from (is_carried code states) 0 (length code.graph.edges)
      (λ edge low below. inductive.edges edge (omega (arith, below))) in
      rw (shape_true inductive.shape, inductive.begun, edges) refl
