use Rattle.std.proofs.Common.{◌≡◌, ◌+◌, ◌-◌, ℕ, refl, sym, subst, arith}
use Rattle.contract_extract.specs.Dropping.{IsBelow, LiesAhead, ahead_at, makes, takes}
use Rattle.contract_extract.specs.declared.trees.dropped.Dropped.{Dropped}
use Rattle.contract_extract.proofs.TreeLemmas.Looking.{dropped_lies, settled, value_lies}
use Rattle.contract_extract.proofs.TreeLemmas.Working.{makes_most}
use Rattle.contract_extract.proofs.trees.ahead.before_value.Goals as goal

pub returns-then-above-made : goal.returns-then-above-made
returns-then-above-made c = λ is ahead short all there of.
    let i = c.args.instr.now in
    let rest : Dropped = record { above = c.args.next.dropped.above - c.makes-made.result; count = c.args.next.dropped.count } in
    let low : IsBelow (takes i.op) rest c.below.result = subst (λ (n : ℕ). IsBelow n rest c.below.result) c.takes.ensures c.below.ensures in
    let high : rest.above + makes i.op ≡ c.args.next.dropped.above = (let x = c.makes-made.ensures in let y = c.if-above-made.true in omega (arith, x, y)) in
    value_lies is (ahead_at is ahead) i rest c.below.result c.args.next c.requires.inside c.requires.straight high refl low
    (settled is ahead (i.at + i.size) c.args.next short all of).own

pub returns-in-Some : goal.returns-in-Some
returns-in-Some c = λ is ahead short all there of.
    let i = c.args.instr.now in
    let next = c.args.next in
    let count = next.dropped.count - 1 in
    let most = makes_most i.op in
    let made = c.makes-made.ensures in
    let more = c.if-above-made.false in
    let some = c.if-count-eq0.false in
    let size = c.requires.short.some in
    let takes_is = c.takes-2.ensures in
    let is_count : c.in-Some.count ≡ count + takes i.op = (let x = c.in-Some.ensures in let y = x.1 in omega (arith, y, takes_is)) in
    subst (λ (n : ℕ). LiesAhead is (ahead_at is ahead) i (record { works_at = next.works_at; dropped = record { above = 0; count = n } })) (sym is_count)
    (dropped_lies is (ahead_at is ahead) i count next short there c.requires.inside c.requires.straight (omega (arith, size)) (omega (arith, most, made, more))
    (omega (arith, most, made, more)) (omega (arith, some)) (settled is ahead (i.at + i.size) next short all of))
