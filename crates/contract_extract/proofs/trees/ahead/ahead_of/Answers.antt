use Rattle.std.proofs.Common.{◌≡◌, sym, subst, ◌∙◌}
use Rattle.std.proofs.lemmas.Option.{get_or_from_slice_get}
use Rattle.cil_model.specs.declared.instruction.Instr.{Instr}
use Rattle.contract_extract.specs.Dropping.{LiesAhead, ahead_at}
use Rattle.contract_extract.specs.declared.trees.ahead.Ahead.{Ahead}
use Rattle.contract_extract.proofs.TreeLemmas.Looking.{idle_lies, own_lies, settled}
use Rattle.contract_extract.proofs.BlockLemmas.SliceFound.{slice_found, slice_own}
use Rattle.contract_extract.proofs.trees.ahead.ahead_of.Goals as goal

pub before_next-requires-clause-there : goal.before_next-requires-clause-there
before_next-requires-clause-there c =
    slice_found c.args.instrs.now c.args.index c.index-instrs-index.result c.requires.lie
    (slice_own c.args.instrs.now c.args.index c.index-instrs-index.result c.requires.within c.index-instrs-index.is)

pub returns-in_default : goal.returns-in_default
returns-in_default c = λ i there.
    let is = c.args.instrs.now in
    let j = c.index-instrs-index.result in
    let same : j ≡ i = c.index-instrs-index.is ∙ get_or_from_slice_get is c.args.index i j there in
    subst (λ (k : Instr). LiesAhead is (ahead_at is c.args.ahead.now) k c.before_next.result) same c.before_next.ensures

pub returns-in-Some-ahead_at : goal.returns-in-Some-ahead_at
returns-in-Some-ahead_at c = λ i there.
    let is = c.args.instrs.now in
    let j = c.index-instrs-index.result in
    let same : j ≡ i = c.index-instrs-index.is ∙ get_or_from_slice_get is c.args.index i j there in
    let here = c.in-Some-ahead_at.there in
    let own = slice_own is c.args.index j c.requires.within c.index-instrs-index.is in
    subst (λ (k : Instr). LiesAhead is (ahead_at is c.args.ahead.now) k here) same
    (idle_lies is (ahead_at is c.args.ahead.now) j c.in-Some.to here c.requires.lie (slice_found is c.args.index j c.requires.lie own)
    (sym c.in-Some.ensures) c.in-Some-ahead_at.ensures.later (settled is c.args.ahead.now c.in-Some.to here c.requires.lie c.requires.ahead c.in-Some-ahead_at.ensures.found))

pub returns-in-None : goal.returns-in-None
returns-in-None c = λ i there.
    let is = c.args.instrs.now in
    let j = c.index-instrs-index.result in
    let same : j ≡ i = c.index-instrs-index.is ∙ get_or_from_slice_get is c.args.index i j there in
    subst (λ (k : Instr). LiesAhead is (ahead_at is c.args.ahead.now) k c.own_ahead-in-None.result) same
    (subst (λ (a : Ahead). LiesAhead is (ahead_at is c.args.ahead.now) j a) (sym c.own_ahead-in-None.ensures) (own_lies is (ahead_at is c.args.ahead.now) j))
