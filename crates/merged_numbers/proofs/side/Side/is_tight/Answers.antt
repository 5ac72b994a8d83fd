use Rattle.std.proofs.Common.{◌∙◌, sym, rules}
use Rattle.merged_numbers.specs.Known.{known}
use Rattle.merged_numbers.proofs.TightLaws.{nothing_tight, over_tight}
use Rattle.merged_numbers.proofs.side.Side.is_tight.Goals as goal

pub returns-then-is_empty : goal.returns-then-is_empty
returns-then-is_empty c = λ yes. nothing_tight (known c.args.self.now) c.rows.result.now c.rows.ensures.value (sym c.is_empty.ensures ∙ c.if-is_empty.true)

pub returns-in-Some : goal.returns-in-Some
returns-in-Some c = λ yes. over_tight c.in-Some.ends.now (known c.args.self.now) c.in-Some.ensures (sym c.are_between.ensures ∙ search rules)
