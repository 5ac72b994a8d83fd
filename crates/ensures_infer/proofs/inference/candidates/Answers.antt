use Rattle.std.proofs.Common.{rules, ◌≡◌, sym, subst}
use Rattle.std.proofs.lemmas.Result.{IfOk-weaker}
use Rattle.ensures_infer.specs.Candidates.{candidates_of}
use Rattle.ensures_infer.specs.Strengthening.{CanBeAdded}
use Rattle.ensures_infer.proofs.Finding.{candidates_can}
use Rattle.ensures_infer.proofs.inference.candidates.Goals as goal

pub returns-clause-value : goal.returns-clause-value
returns-clause-value c = search rules

pub returns-clause-may_be_added : goal.returns-clause-may_be_added
returns-clause-may_be_added c =
    let code = c.args.code.now in
    let states = c.args.invariant.now.states.items in
    let can = CanBeAdded code.unit.args code.unit.result code.unit.clauses in
    IfOk-weaker c.clauses_of.result (λ found. found.items ≡ candidates_of code states) (λ found. can found.items)
    (λ found is. subst can (sym is) (candidates_can code states c.requires.lawful)) (returns-clause-value c)
