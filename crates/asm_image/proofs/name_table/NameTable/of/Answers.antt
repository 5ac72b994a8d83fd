use Rattle.std.proofs.Common.{◌≡◌, ◌+◌, length, ap, ◌∙◌, arith}
use Rattle.asm_image.specs.Cells.{signature, method_count}
use Rattle.asm_image.specs.Names.{short_name, printed_name}
use Rattle.asm_image.proofs.FindLemmas.{named_next, name-splits, name_of_row, row_at, rows_count}
use Rattle.asm_image.proofs.name_table.NameTable.of.Goals as goal

pub loop-method-preserved : goal.loop-method-preserved
loop-method-preserved c md is =
    let i = c.loop-method.method-index in
    let count = rows_count md in
    let method = row_at md c.args.methods.now i c.method-item.result is (omega (arith, count, ap length is)) c.method-item.is in
    let named : c.as_slice.result.now ≡ printed_name md (i + 1) = c.as_slice.ensures ∙ ap (λ m. m.name) method ∙ name_of_row md (i + 1) in
    let short : c.short_name-short.result.now ≡ short_name md (i + 1) =
    c.short_name-short.ensures (short_name md (i + 1)) (signature md (i + 1)).types (named ∙ name-splits md (i + 1)) in
    let kept : c.in_ok-to_vec.field-0.items ≡ c.short_name-short.result.now = c.in_ok-to_vec.ensures.items_if_clones_equal (λ x y e. e) in
    let row : c.len.result ≡ i + 1 = omega (arith, c.len.ensures, c.in_ok-push.ensures.len, (c.loop-method.invariant md is).long) in
    rw c.in_ok-push.ensures.items
    (named_next md i c.loop-method.last c.note.new.self c.loop-method.earlier.items c.short_name-short.result.now c.get.result (c.loop-method.invariant md is) short c.get.ensures
    (rw (← kept, ← row) c.in_ok-note.ensures))

pub returns : goal.returns
returns c md is =
    let all : c.loop-method.method-index ≡ method_count md = omega (arith, rows_count md, ap length is) in
    rw (← all) (c.loop-method.invariant md is)
