use Rattle.std.proofs.Common.{◌≡◌, None, rules}
use Rattle.number_facts.specs.Facts.{range_at}
use Rattle.number_facts.proofs.SpanLists.{whole_span}
use Rattle.number_facts.proofs.numbers.Numbers.meet_hole.Goals as goal

pub returns-in-None : goal.returns-in-None
returns-in-None c =
    let none : (range_at c.args.self.now c.args.symbol).hole ≡ None = search rules in
    whole_span c.args.self.now c.args.symbol c.args.span.now none c.requires
