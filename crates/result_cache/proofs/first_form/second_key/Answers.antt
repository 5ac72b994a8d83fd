use Rattle.std.proofs.Common.{sym, ◌∙◌, ◌≡◌, true}
use Rattle.result_cache.specs.FirstForm.{has_first_number}
use Rattle.result_cache.proofs.FirstKeys.{judged_none, kept_key, not_of, number_none}
use Rattle.result_cache.proofs.first_form.second_key.Goals as goal

pub returns-then-not-has_first_number-clause-value : goal.returns-then-not-has_first_number-clause-value
returns-then-not-has_first_number-clause-value c =
    sym (number_none c.args.bytes.now (sym c.has_first_number.ensures ∙ c.if-not-has_first_number.true))

pub returns-then-not-has_first_number-clause-first : goal.returns-then-not-has_first_number-clause-first
returns-then-not-has_first_number-clause-first c =
    not_of c.args.bytes.now (number_none c.args.bytes.now (sym c.has_first_number.ensures ∙ c.if-not-has_first_number.true))

pub returns-in_ok-unit_bytes-in-Ok-clause-value : goal.returns-in_ok-unit_bytes-in-Ok-clause-value
returns-in_ok-unit_bytes-in-Ok-clause-value c =
    let number : has_first_number c.args.bytes.now ≡ true = sym c.has_first_number.ensures ∙ c.if-not-has_first_number.false in
    let kept = kept_key c.args.bytes.now c.in-Ok.unit number c.in-Ok.ensures.judged.0 c.in-Ok.ensures.judged.1 c.in-Ok.ensures.unit c.in-Ok.ensures.spelled in
    rw (c.in_ok-unit_bytes-in-Ok.ensures, c.unit-in-Ok.ensures) (sym kept.is)

pub returns-in_ok-unit_bytes-in-Ok-clause-first : goal.returns-in_ok-unit_bytes-in-Ok-clause-first
returns-in_ok-unit_bytes-in-Ok-clause-first c =
    let number : has_first_number c.args.bytes.now ≡ true = sym c.has_first_number.ensures ∙ c.if-not-has_first_number.false in
    (kept_key c.args.bytes.now c.in-Ok.unit number c.in-Ok.ensures.judged.0 c.in-Ok.ensures.judged.1 c.in-Ok.ensures.unit c.in-Ok.ensures.spelled).first

pub returns-in-Err-Bad-clause-value : goal.returns-in-Err-Bad-clause-value
returns-in-Err-Bad-clause-value c = sym (judged_none c.args.bytes.now c.in-Err-Bad.field-0 c.in-Err-Bad.field-0-0 _ c.in-Err-Bad.field-0-is c.in-Err-Bad.ensures.judged)

pub returns-in-Err-Bad-clause-first : goal.returns-in-Err-Bad-clause-first
returns-in-Err-Bad-clause-first c = not_of c.args.bytes.now (judged_none c.args.bytes.now c.in-Err-Bad.field-0 c.in-Err-Bad.field-0-0 _ c.in-Err-Bad.field-0-is c.in-Err-Bad.ensures.judged)
