use Rattle.std.proofs.Common.{ap, ◌∙◌}
use Rattle.clause_eval.specs.Lookups.{items_at}
use Rattle.cil_eval.proofs.MachineLemmas.{heap_at_end, heap_so_far}
use Rattle.cil_eval.proofs.machine.Machine.elements.Goals as goal

pub returns-clause-so_far : goal.returns-clause-so_far
returns-clause-so_far c = rw (← c.self.view_is) (λ start run. c.items.ensures ∙ ap (λ heap. items_at heap c.args.array) (heap_so_far _ start run))

pub returns-clause-ended : goal.returns-clause-ended
returns-clause-ended c =
    rw (← c.self.view_is) (λ start n run some more. c.items.ensures ∙ ap (λ heap. items_at heap c.args.array) (heap_at_end _ start run n some more))
