use Rattle.std.proofs.Common.{◌≡◌, length, ap, sym, ◌∙◌, arith}
use Rattle.std.specs.List.{position, position_or_len}
use Rattle.symbolic_values.specs.Pairing.{same_key}
use Rattle.symbolic_values.proofs.Noting.{found_at, not_found}
use Rattle.symbolic_values.proofs.uses.place_in_few.Goals as goal

pub returns-in-Some-clause-keys : goal.returns-in-Some-clause-keys
returns-in-Some-clause-keys c =
    sym (found_at same_key c.args.keys.now.items c.args.used.now c.in-Some.place
    (sym (sym c.in-Some.is ∙ c.place_among.ensures ∙ ap (position (same_key c.args.used.now)) c.as_slice.ensures.value))).noted_is

pub returns-in_ok-push-in-None-clause-keys : goal.returns-in_ok-push-in-None-clause-keys
returns-in_ok-push-in-None-clause-keys c =
    c.in_ok-push-in-None.ensures.items
    ∙ sym (not_found same_key c.args.keys.now.items c.args.used.now
    (sym (sym c.in-None.is ∙ c.place_among.ensures ∙ ap (position (same_key c.args.used.now)) c.as_slice.ensures.value))).noted_is

pub returns-in_ok-push-in-None-clause-place : goal.returns-in_ok-push-in-None-clause-place
returns-in_ok-push-in-None-clause-place c =
    let place : length c.args.keys.now.items ≡ position_or_len (same_key c.args.used.now) c.args.keys.now.items =
    (not_found same_key c.args.keys.now.items c.args.used.now
    (sym (sym c.in-None.is ∙ c.place_among.ensures ∙ ap (position (same_key c.args.used.now)) c.as_slice.ensures.value))).place_is in
    omega (arith, place)
