use Rattle.std.proofs.Common.{ap, ◌∙◌}
use Rattle.asm_writer.specs.Names.{strings_heap}
use Rattle.asm_writer.specs.Packing.{filled}
use Rattle.asm_writer.proofs.PackingLemmas.{packed_first, packed_more}
use Rattle.asm_writer.proofs.name.strings_heap.Goals as goal

pub returns : goal.returns
unfolding strings_heap
returns c =
    let names = packed_first _ _ _ c.new-heap.ensures c.in_ok-push_names.ensures in
    let methods = packed_more _ _ _ _ names c.in_ok-push_method_names.ensures in
    let externs = packed_more _ _ _ _ methods c.in_ok-push_externs.ensures in
    c.in_ok-fill.ensures ∙ ap filled (packed_more _ _ _ _ externs c.in_ok-push_own_name.ensures)
