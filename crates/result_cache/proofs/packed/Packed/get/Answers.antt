use Rattle.std.proofs.Common.{◌∙◌, sym, ap, List}
use Rattle.result_cache.specs.Entries.{Entry, invariant_of}
use Rattle.result_cache.proofs.PackedLaws.{found_by_row, none_at}
use Rattle.result_cache.proofs.packed.Packed.get.Goals as goal

pub returns-in-Some : goal.returns-in-Some
returns-in-Some c =
    found_by_row c.self.inside.bytes.items c.self.inside.rows.items c.self.inside.heads.items c.in-Some.index c.args.key.now
    c.value.result.now c.index.result.now c.self.invariant (rw c.self.view_is c.in-Some.ensures.found) c.index.ensures
    (rw (← c.deref.ensures.value) c.value.ensures)
    ∙ ap (λ (entries : List Entry). invariant_of entries c.args.key.now) c.self.view_is

pub returns-in-None : goal.returns-in-None
returns-in-None c = sym (none_at c.args.self.now c.args.key.now c.in-None.ensures.absent)
