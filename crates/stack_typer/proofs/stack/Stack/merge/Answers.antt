use Rattle.std.proofs.Common.{◌≡◌, arith}
use Rattle.std.specs.Vec.{with_items}
use Rattle.std.proofs.lemmas.List.{with_items_is}
use Rattle.stack_typer.proofs.TurnedLemmas.{arrived_turned, nulls_turned}
use Rattle.stack_typer.proofs.stack.Stack.merge.Goals as goal

pub returns-clause-stack : goal.returns-clause-stack
returns-clause-stack c =
    let now = c.merge_into.new.before in
    let e : (with_items c.self.inside.kinds now).items ≡ now = with_items_is c.self.inside.kinds now (omega arith) in
    let h = rw (c.deref_mut.ensures.value, c.deref.ensures.value) at c.merge_into.ensures.stack in
    rw (← c.self.view_is, ← c.other.view_is, e) (arrived_turned now c.self.inside.kinds.items c.other.inside.kinds.items h)

pub returns-clause-fewer : goal.returns-clause-fewer
returns-clause-fewer c =
    let now = c.merge_into.new.before in
    let e : (with_items c.self.inside.kinds now).items ≡ now = with_items_is c.self.inside.kinds now (omega arith) in
    λ changed. rw (← c.self.view_is, e, nulls_turned now, nulls_turned c.self.inside.kinds.items, ← c.deref_mut.ensures.value) (c.merge_into.ensures.fewer changed)
