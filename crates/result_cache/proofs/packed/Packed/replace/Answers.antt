use Rattle.std.proofs.Common.{◌∙◌, ap, List}
use Rattle.result_cache.specs.Entries.{Entry, with_entry}
use Rattle.result_cache.proofs.PackedLaws.{on_err, replaced, replaced_entries, rows_behind, same_entries}
use Rattle.result_cache.proofs.packed.Packed.replace.Goals as goal

pub invariant_of-self : goal.invariant_of-self
invariant_of-self c =
    rows_behind c.self.inside.bytes.items c.append.new.bytes.items c.self.inside.rows.items c.self.inside.heads.items
    c.in_err-row.ensures.err c.self.invariant

pub returns-in_err-row-clause-err : goal.returns-in_err-row-clause-err
returns-in_err-row-clause-err c =
    on_err c.from_residual.result
    (same_entries c.self.inside.bytes.items c.append.new.bytes.items c.self.inside.rows.items c.self.inside.heads.items
    c.in_err-row.ensures.err c.self.invariant ∙ c.self.view_is)

pub invariant_of-self-2 : goal.invariant_of-self-2
invariant_of-self-2 c =
    replaced c.self.inside.bytes.items c.append.new.bytes.items c.self.inside.rows.items c.self.inside.heads.items c.args.index
    c.args.key.now c.args.value.now c.in_ok-row.row c.index.result.now
    (record { after_is = c.in_ok-row.ensures.bytes; row_is = c.in_ok-row.ensures.row; last_is = c.index.ensures })
    c.self.invariant (rw c.self.view_is c.requires)

pub returns-clause-ok : goal.returns-clause-ok
returns-clause-ok c =
    replaced_entries c.self.inside.bytes.items c.append.new.bytes.items c.self.inside.rows.items c.self.inside.heads.items c.args.index
    c.args.key.now c.args.value.now c.in_ok-row.row c.index.result.now
    (record { after_is = c.in_ok-row.ensures.bytes; row_is = c.in_ok-row.ensures.row; last_is = c.index.ensures })
    c.self.invariant (rw c.self.view_is c.requires)
    ∙ ap (λ (entries : List Entry). with_entry entries c.args.key.now c.args.value.now) c.self.view_is
