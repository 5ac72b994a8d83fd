use Rattle.std.proofs.Common.{◌≡◌, ◌++◌, sym, ap, ◌∙◌, arith}
use Rattle.std.proofs.lemmas.List.{append-nil, append_assoc}
use Rattle.asm_image.specs.Cells.{owner}
use Rattle.asm_image.specs.Names.{owner_text, own_name}
use Rattle.asm_image.proofs.WalkLemmas.{rows_end, first_row_name}
use Rattle.asm_image.proofs.method_walk.MethodWalk.append_name.Goals as goal
use Rattle.asm_image.proofs.method_walk.MethodWalk.append_name.Goals.{then-owner-self+in_ok-replace_owner, else-owner-self}

pub returns-then-row-row_count-clause-ok : goal.returns-then-row-row_count-clause-ok
returns-then-row-row_count-clause-ok c =
    let past = rows_end c.self.inside.metadata.now.bytes c.self.inside.row (omega arith) in
    rw (← c.self.view_is, past) (sym (append-nil c.args.line.now.items))

pub returns-clause-ok : goal.returns-clause-ok
returns-clause-ok c =
    let md = c.self.inside.metadata.now.bytes in
    let row = c.self.inside.row in
    let named : c.if-owner-self.self-inside.owner_name.items ≡ owner_text md (owner md row) =
    elim c.if-owner-self.branch [
      | then-owner-self+in_ok-replace_owner w ↦ rw w.self-inside-is (w.in_ok-replace_owner.ensures.ok ∙ ap (owner_text md) c.owner_of-owner.ensures.owner)
      | else-owner-self w ↦ rw w.self-inside-is (c.self.invariant.name_kept ∙ ap (owner_text md) (sym w.if-owner-self.false ∙ c.owner_of-owner.ensures.owner))
    ] in
    let first = first_row_name md row (omega arith) in
    let all : c.extend_from_slice.new.self.items ++ own_name md row ≡ c.args.line.now.items ++ (owner_text md (owner md row) ++ own_name md row) =
    rw (c.in_ok-extend_from_slice.ensures.items, c.deref.ensures.value, named) (append_assoc c.args.line.now.items (owner_text md (owner md row)) (own_name md row)) in
    rw (← c.self.view_is, first, ← all) c.append_own_name.ensures
