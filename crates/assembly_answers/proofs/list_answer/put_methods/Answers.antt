use Rattle.std.proofs.Common.{sym}
use Rattle.std.proofs.lemmas.Result.{err_from_is_err_and}
use Rattle.assembly_answers.proofs.Listing.{rest_stops}
use Rattle.assembly_answers.proofs.list_answer.put_methods.Goals as goal

pub returns-in_err-put_method : goal.returns-in_err-put_method
returns-in_err-put_method g c =
    let p = err_from_is_err_and c.from_residual.result c.from_residual.ensures.1 in
    rw (p.1, p.2)
    (rest_stops c.in_err-put_method.field-0.0 _ _ _ _ _ _ _ _ _ c.loop-token.walk c.args.walk c.in-Some.token
    c.loop-token.invariant.rest (sym c.in-Some.ensures) c.loop-token.invariant.kept c.in_err-put_method.ensures.written)
