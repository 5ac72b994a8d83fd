use Rattle.std.proofs.Common.{◌≡◌, true, refl, sym}
use Rattle.std.proofs.lemmas.Result.{err_from_is_err_and}
use Rattle.unit_form.specs.Spelling.{unit_bytes}
use Rattle.result_cache.specs.Entries.{is_among}
use Rattle.unit_verdicts.specs.VerdictCache.{manner_of}
use Rattle.unit_verdicts.proofs.Asking.{asks_none, asks_nothing}
use Rattle.unit_verdicts.proofs.FoundOf.{found_again, found_copied}
use Rattle.unit_verdicts.proofs.Unseen.{asked_none}
use Rattle.unit_verdicts.proofs.verdict_cache.VerdictCache.judge.Goals as goal

pub returns-in_err-key-clause-asked : goal.returns-in_err-key-clause-asked
returns-in_err-key-clause-asked g c =
    let p = err_from_is_err_and c.from_residual.result c.from_residual.ensures.1 in
    asks_nothing _ c.from_residual.result p.0 _ _ p.1 refl

pub returns-in_err-found-clause-asked : goal.returns-in_err-found-clause-asked
returns-in_err-found-clause-asked g c =
    let p = err_from_is_err_and c.from_residual-in_err-found.result c.from_residual-in_err-found.ensures.1 in
    asks_nothing _ c.from_residual-in_err-found.result p.0 _ _ p.1 refl

pub returns-in-Some-clause-value : goal.returns-in-Some-clause-value
returns-in-Some-clause-value g c =
    let are = rw (c.deref.ensures.value, c.in_ok-key.ensures, c.unit-2.ensures) at c.in-Some.ensures.value in
    found_copied (manner_of c.args.self.now) c.args.unit c.in-Some.known.now _ c.in_ok-found.ensures.verdicts c.in_ok-found.ensures.shown
    (found_again (manner_of c.args.self.now) c.args.unit (unit_bytes c.args.unit) c.in-Some.known.now c.requires refl are)

pub returns-in-Some-clause-asked : goal.returns-in-Some-clause-asked
returns-in-Some-clause-asked g c =
    let known : is_among c.args.self.now.keys (unit_bytes c.args.unit) ≡ true = sym (rw (c.deref.ensures.value, c.in_ok-key.ensures, c.unit-2.ensures) at c.in-Some.ensures.there) in
    rw (known, asked_none c.args.self.now.held) (asks_none _ _ _ refl)
