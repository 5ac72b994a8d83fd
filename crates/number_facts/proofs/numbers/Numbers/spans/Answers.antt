use Rattle.std.proofs.Common.{◌≡◌, length, drop, rules}
use Rattle.number_facts.proofs.SpanLists.{ends_back, holes_back}
use Rattle.number_facts.proofs.numbers.Numbers.spans.Goals as goal

pub returns-clause-ends : goal.returns-clause-ends
returns-clause-ends c =
    let made = c.settle_all.new.spans in
    let many : length made ≡ c.in_ok-spans.spans.len = search rules in
    ends_back c.args.self.now c.in_ok-spans.spans.len made (drop (length made) c.in_ok-spans.spans.items) many c.settle_all.ensures.value

pub returns-clause-holes : goal.returns-clause-holes
returns-clause-holes c =
    let made = c.settle_all.new.spans in
    let many : length made ≡ c.in_ok-spans.spans.len = search rules in
    holes_back c.args.self.now c.in_ok-spans.spans.len made (drop (length made) c.in_ok-spans.spans.items) many c.settle_all.ensures.value
