use Rattle.std.proofs.Common.{Bool, List, Vec, Global, Option, option_map, ap, arith, subst, sym}
use Rattle.state_facts.specs.StateFacts.{State}
use Rattle.invariant_reader.specs.BlockReaders.{HasText}
use Rattle.invariant_reader.proofs.Reading.{none_read, other_text}
use Rattle.invariant_reader.proofs.blocks.read_invariant_text.Goals as goal

abbrev told : Option (Vec State Global) → Option (List State)
told read = option_map (λ states. states.items) read

pub returns-in_default : goal.returns-in_default
returns-in_default c = record {
  exact = none_read c.args.unit.now c.args.blocks.now c.args.text.now (told c.in_ok-states.field-0)
      (omega (arith, c.if-text.false)) c.in_ok-states.ensures.reads (sym (ap told c.in_default.is));
}

pub returns-then-not-branch : goal.returns-then-not-branch
returns-then-not-branch c =
    let of_made = subst (λ (made : List State). HasText c.args.unit.now c.args.blocks.now made c.args.text.now
    c.in_ok-have_text.field-0) c.deref.ensures.value c.in_ok-have_text.ensures in
    record {
      exact = other_text c.args.unit.now c.args.blocks.now c.args.text.now (told c.in_ok-states.field-0)
          c.in-Some.states.items (omega (arith, c.if-text.false)) c.in_ok-states.ensures.reads
          (sym (ap told c.in-Some.is))
          (subst (λ (is : Bool). HasText c.args.unit.now c.args.blocks.now c.in-Some.states.items c.args.text.now is)
          c.if-not-branch.true of_made);
    }
