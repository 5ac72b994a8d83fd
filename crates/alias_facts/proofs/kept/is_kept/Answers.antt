use Rattle.std.proofs.Common.{refl, sym, ap, ◌∙◌, ◌&&◌, ◌||◌}
use Rattle.alias_facts.specs.KeptPairs.{lower_first}
use Rattle.alias_facts.specs.PairsOf.{contains}
use Rattle.alias_facts.proofs.KeptLaws.{apart_answer, is_among}
use Rattle.alias_facts.proofs.TurnedLaws.{contains-lower_first}
use Rattle.alias_facts.proofs.kept.is_kept.Goals as goal

pub returns-then-is_marked-clause-kept : goal.returns-then-is_marked-clause-kept
returns-then-is_marked-clause-kept c =
    let here = contains (lower_first c.args.rows.now) c.args.pair in
    let answer = apart_answer (lower_first c.args.rows.now) c.args.marks.now c.args.pair c.is_proper.result c.is_marked.result here
    c.requires.proper c.is_proper.ensures c.is_marked.ensures refl in
    c.if-is_marked.true ∙ sym (ap (λ b. b && (c.is_marked.result || here)) c.if-is_proper.true ∙ ap (λ b. b || here) c.if-is_marked.true) ∙ answer

pub returns-else-is_marked-clause-kept : goal.returns-else-is_marked-clause-kept
returns-else-is_marked-clause-kept c =
    let answer = apart_answer (lower_first c.args.rows.now) c.args.marks.now c.args.pair c.is_proper.result c.is_marked.result c.has.result
    c.requires.proper c.is_proper.ensures c.is_marked.ensures
    (c.has.ensures ∙ ap (contains c.args.rows.now) c.turned.ensures ∙ sym (contains-lower_first c.args.rows.now c.args.pair)) in
    sym (ap (λ b. b && (c.is_marked.result || c.has.result)) c.if-is_proper.true ∙ ap (λ b. b || c.has.result) c.if-is_marked.false) ∙ answer

pub returns-else-is_proper-clause-kept : goal.returns-else-is_proper-clause-kept
returns-else-is_proper-clause-kept c =
    let among = is_among c.args.pair.1 c.args.marks.now in
    let here = contains (lower_first c.args.rows.now) c.args.pair in
    let answer = apart_answer (lower_first c.args.rows.now) c.args.marks.now c.args.pair c.is_proper.result among here c.requires.proper c.is_proper.ensures refl refl in
    c.if-is_proper.false ∙ sym (ap (λ b. b && (among || here)) c.if-is_proper.false) ∙ answer
