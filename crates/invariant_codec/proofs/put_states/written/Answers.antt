use Rattle.invariant_codec.proofs.put_states.written.Goals as goal

pub returns-clause-spellable : goal.returns-clause-spellable
returns-clause-spellable c = record { count = c.requires.small.count; each = c.in_ok-put_each.ensures.spellable }
