-- The text of states by the test of their shape.
use Rattle.std.proofs.Common.{◌≡◌, Bool, true, false, List, [], if◌then◌else◌, refl, sym, ap}
use Rattle.std.specs.Prelude.{◌↔◌, IsTrue}
use Rattle.std.specs.Bool.{Decides}
use Rattle.std.proofs.lemmas.Bool.{false≢true}
use Rattle.invariant_checker.specs.Inducts.{has_shape}
use Rattle.invariant_checker.proofs.InductionTest.{shape_decides}
use Rattle.invariant_text.specs.InvariantText.{invariant_text}
use Rattle.state_facts.specs.StateFacts.{State}
use Rattle.transfer_rules.specs.Inductive.{HasShape}
use Rattle.unit_flow.specs.declared.unit_flow.UnitFlow.{UnitFlow}
use Rattle.unit_verdicts.specs.Picks.{states_text}

same_test : (P : Type 0) (test other : Bool) → (IsTrue test ↔ P) → Decides other P → test ≡ other
same_test P true other exact decides = sym (decides.1 (exact.0 refl))
same_test P false true exact decides = absurd (false≢true (exact.1 (decides.0 refl)))
same_test P false false exact decides = refl

pub shape_is : (code : UnitFlow) (states : List State) (test : Bool) → (IsTrue test ↔ HasShape code states)
    → test ≡ has_shape code states
shape_is code states test exact = same_test (HasShape code states) test (has_shape code states) exact (shape_decides code states)

-- What the text is where the test fails, and where it does not.
by_shape : (code : UnitFlow) (states : List State) (test : Bool) → (IsTrue test ↔ HasShape code states)
    → (if test then invariant_text code.unit code.graph.blocks states else []) ≡ states_text code states
by_shape code states test exact = ap (λ (shaped : Bool). if shaped then invariant_text code.unit code.graph.blocks states else []) (shape_is code states test exact)

pub unshaped_text : (code : UnitFlow) (states : List State) (test : Bool) → (IsTrue test ↔ HasShape code states)
    → test ≡ false → [] ≡ states_text code states
unshaped_text code states true exact fails = absurd (false≢true (sym fails))
unshaped_text code states false exact fails = by_shape code states false exact

pub shaped_text : (code : UnitFlow) (states : List State) (test : Bool) → (IsTrue test ↔ HasShape code states)
    → test ≡ true
    → invariant_text code.unit code.graph.blocks states ≡ states_text code states
shaped_text code states true exact passes = by_shape code states true exact
shaped_text code states false exact passes = absurd (false≢true passes)
