-- Bodies that are packed method by method.
use Rattle.std.proofs.Common.{◌≡◌, ℕ, ◌+◌, ◌<◌, List, [], length, get_or, take, sym, ap, ◌∙◌, arith}
use Rattle.std.proofs.lemmas.List.Sums.{sum_by_more}
use Rattle.asm_writer.specs.declared.plan.MethodPlan.{MethodPlan}
use Rattle.asm_writer.specs.Bodies.{body, body_item, locals_rows, locals_row}
use Rattle.asm_writer.specs.Each.{each_from}
use Rattle.asm_writer.specs.Packing.{Packing, pushed, packed}
use Rattle.asm_writer.proofs.EachLemmas.{each_more, each_none}
use Rattle.asm_writer.proofs.PackingLemmas.{packed_one}

pub bodies_none : (packing : Packing) (ms : List MethodPlan) → packing ≡ packed [] → packing ≡ packed (each_from 0 (body_item ms) [])
bodies_none packing ms none = none ∙ ap packed (sym (each_none 0 (body_item ms)))

pub bodies_more : (packing : Packing) (ms : List MethodPlan) (i row : ℕ) (m : MethodPlan) → i < length ms → m ≡ get_or ms i m → row ≡ locals_row ms i
    → packing ≡ packed (each_from 0 (body_item ms) (take i ms))
    → pushed packing (body row m) ≡ packed (each_from 0 (body_item ms) (take (i + 1) ms))
bodies_more packing ms i row m lt is at so_far =
    let one = packed_one packing (each_from 0 (body_item ms) (take i ms)) (body row m) so_far in
    let more = each_more (body_item ms) ms i m lt is in
    let here : body row m ≡ body (locals_row ms i) m = ap (λ (k : ℕ). body k m) at in
    cc

pub row_more : (ms : List MethodPlan) (i row rows : ℕ) (m : MethodPlan) → i < length ms → m ≡ get_or ms i m → rows ≡ locals_rows m → row ≡ locals_row ms i
    → row + rows ≡ locals_row ms (i + 1)
row_more ms i row rows m lt is has at =
    let more = sum_by_more locals_rows ms i m lt in
    let here : locals_rows m ≡ locals_rows (get_or ms i m) = ap locals_rows is in
    omega arith
