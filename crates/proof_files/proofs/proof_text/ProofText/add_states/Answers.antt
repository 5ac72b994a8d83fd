use Rattle.std.proofs.Common.{ℕ, List, ap, sym, ◌∙◌}
use Rattle.invariant_text.specs.InvariantText.{invariant_text}
use Rattle.proof_files.specs.Held.{WrittenProof}
use Rattle.proof_files.proofs.KeptLemmas.{made_answer, made_full}
use Rattle.proof_files.proofs.proof_text.ProofText.add_states.Goals as goal

pub returns-then-self : goal.returns-then-self
returns-then-self c entries made =
    made_full entries (record { unit = c.args.unit.now; states = c.args.states.now }) c.args.self.now made
    (ap (λ (w : WrittenProof). w.full) (sym c.self.view_is) ∙ c.if-self.true)

pub returns : goal.returns
returns c entries made =
    made_answer c.put.result entries (record { unit = c.args.unit.now; states = c.args.states.now }) c.args.self.now
    c.put.new.self
    c.deref.result.now c.deref-2.result.now made (ap (λ (w : WrittenProof). w.full) (sym c.self.view_is)
    ∙ c.if-self.false) c.put.ensures
    (c.deref.ensures.value ∙ c.in_ok-key.ensures)
    (c.deref-2.ensures.value ∙ c.in_ok-lines.ensures.value
    ∙ ap (λ (blocks : List ℕ). invariant_text c.args.unit.now blocks c.args.states.now) c.requires.blocks)
