use Rattle.std.proofs.Common.{rules}
use Rattle.std.proofs.lemmas.List.Sorted.{answers_always}
use Rattle.cil_model.proofs.OffsetSearch.{begins_searched, only_searched, stands_searched}
use Rattle.cil_model.proofs.offsets.index_of.Goals as goal

-- The closure gives an instruction's offset.
pub returns-clause-stands : goal.returns-clause-stands
returns-clause-stands c =
    let facts = c.binary_search_by_key.ensures in
    let by_offset = facts.position (λ i. i.at) (answers_always _ _ _ (λ f a r g called. search rules)) in
    rw c.ok.ensures.value (stands_searched c.args.instrs.now c.args.at _ c.requires.rise facts.bound by_offset)

pub returns-clause-begins : goal.returns-clause-begins
returns-clause-begins c =
    let facts = c.binary_search_by_key.ensures in
    let by_offset = facts.position (λ i. i.at) (answers_always _ _ _ (λ f a r g called. search rules)) in
    rw c.ok.ensures.value (begins_searched c.args.instrs.now c.args.at _ c.requires.rise facts.bound by_offset)

pub returns-clause-only : goal.returns-clause-only
returns-clause-only c =
    let facts = c.binary_search_by_key.ensures in
    let by_offset = facts.position (λ i. i.at) (answers_always _ _ _ (λ f a r g called. search rules)) in
    rw c.ok.ensures.value (only_searched c.args.instrs.now c.args.at c.binary_search_by_key.result c.requires.rise facts.bound by_offset)
