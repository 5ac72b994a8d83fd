use Rattle.std.proofs.Common.{◌≡◌, true, refl, sym, ap, subst, ◌∙◌}
use Rattle.std.proofs.lemmas.Result.{err_from_is_err_and}
use Rattle.unit_form.specs.Spelling.{unit_bytes}
use Rattle.result_cache.specs.Entries.{is_among}
use Rattle.unit_flow.specs.Flow.{IsLawful}
use Rattle.unit_verdicts.specs.Picks.{pick_from}
use Rattle.unit_verdicts.proofs.Asking.{asks_none, asks_nothing}
use Rattle.unit_verdicts.proofs.FoundOf.{unit_told}
use Rattle.unit_verdicts.proofs.UnitSafety.{lawful_flow}
use Rattle.unit_verdicts.proofs.Unseen.{asked_none}
use Rattle.unit_verdicts.proofs.verdict_cache.VerdictCache.pick.Goals as goal

pub returns-in_err-key-clause-asked : goal.returns-in_err-key-clause-asked
returns-in_err-key-clause-asked g c =
    let p = err_from_is_err_and c.from_residual.result c.from_residual.ensures.1 in
    asks_nothing _ c.from_residual.result p.0 _ _ p.1 refl

pub returns-in-Some-clause-lawful : goal.returns-in-Some-clause-lawful
returns-in-Some-clause-lawful g c = subst IsLawful (sym c.in_ok-code.ensures.flow) (lawful_flow c.args.unit c.requires.unit)

pub returns-clause-lawful : goal.returns-clause-lawful
returns-clause-lawful g c = subst IsLawful (sym c.in_ok-code.ensures.flow) (lawful_flow c.args.unit c.requires.unit)

pub returns-in_err-code-clause-asked : goal.returns-in_err-code-clause-asked
returns-in_err-code-clause-asked g c =
    let p = err_from_is_err_and c.from_residual-in_err-code.result c.from_residual-in_err-code.ensures.1 in
    asks_nothing _ c.from_residual-in_err-code.result p.0 _ _ p.1 refl

pub returns-in_err-invariant-clause-asked : goal.returns-in_err-invariant-clause-asked
returns-in_err-invariant-clause-asked g c =
    let p = err_from_is_err_and c.from_residual-in_err-invariant.result c.from_residual-in_err-invariant.ensures.1 in
    asks_nothing _ c.from_residual-in_err-invariant.result p.0 _ _ p.1 refl

pub returns-in-Some-clause-value : goal.returns-in-Some-clause-value
returns-in-Some-clause-value g c =
    let value = rw (c.in-Some.is, c.deref.ensures.value) at c.in_ok-invariant.ensures.value in
    value ∙ ap (pick_from c.args.self.now.held) (unit_told c.args.unit c.in_ok-key.key.items c.requires.unit (c.in_ok-key.ensures ∙ ap unit_bytes c.unit-2.ensures))

pub returns-in-Some-clause-asked : goal.returns-in-Some-clause-asked
returns-in-Some-clause-asked g c =
    let known : is_among c.args.self.now.keys (unit_bytes c.args.unit) ≡ true =
    sym (rw (c.in-Some.is, c.deref.ensures.value, c.in_ok-key.ensures, c.unit-2.ensures) at c.in_ok-invariant.ensures.there) in
    rw (known, asked_none c.args.self.now.held) (asks_none _ _ _ refl)

pub returns-clause-value : goal.returns-clause-value
returns-clause-value g c =
    c.in_ok-invariant-2.ensures.value
    ∙ ap (pick_from c.args.self.now.held) (unit_told c.args.unit c.in_ok-key.key.items c.requires.unit (c.in_ok-key.ensures ∙ ap unit_bytes c.unit-2.ensures))
