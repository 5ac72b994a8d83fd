use Rattle.std.proofs.Common.{List, ◌∙◌, sym, ap, rules}
use Rattle.std.specs.List.{list_all}
use Rattle.pentagon_domain.specs.declared.bound_row.BoundRow.{BoundRow}
use Rattle.merged_numbers.specs.Known.{known}
use Rattle.merged_numbers.specs.Rows.{add_nothing}
use Rattle.merged_numbers.proofs.SumLaws.{alone_tell}
use Rattle.merged_numbers.proofs.side.Side.write_few.Goals as goal

pub returns-then-all_add_nothing : goal.returns-then-all_add_nothing
returns-then-all_add_nothing c =
    alone_tell (known c.args.self.now) c.args.s c.stored_from.new.gaps c.stored_from.ensures
    (ap (λ (rows : List BoundRow). list_all (add_nothing rows c.stored_from.new.gaps c.args.s) rows) (sym c.rows.ensures.value)
    ∙ sym c.all_add_nothing.ensures ∙ search rules)
