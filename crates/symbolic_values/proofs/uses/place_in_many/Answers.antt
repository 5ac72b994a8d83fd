use Rattle.std.proofs.Common.{refl, sym, ap, ◌∙◌, ◌++◌, ◌∷◌, []}
use Rattle.symbolic_values.specs.Identities.{identity_of, same_identity}
use Rattle.symbolic_values.specs.Pairing.{same_key}
use Rattle.symbolic_values.proofs.Tables.{told}
use Rattle.symbolic_values.proofs.uses.place_in_many.Goals as goal

pub returns-in_ok-push-clause-keys : goal.returns-in_ok-push-clause-keys
returns-in_ok-push-clause-keys c =
    let known = told same_key same_identity identity_of (λ u k. refl) c.args.keys.now.items c.args.used.now c.of.result c.args.table.now.keys c.in_ok-place.is_new
    c.in_ok-place.place c.of.ensures c.requires.table c.in_ok-place.ensures.added c.in_ok-place.ensures.index in
    c.in_ok-push.ensures.items ∙ ap (λ keys. keys ++ c.args.used.now ∷ []) c.reserve.ensures.items ∙ sym (known.is_behind c.if-is_new.true)

pub returns-in_ok-push-clause-place : goal.returns-in_ok-push-clause-place
returns-in_ok-push-clause-place c =
    (told same_key same_identity identity_of (λ u k. refl) c.args.keys.now.items c.args.used.now c.of.result c.args.table.now.keys c.in_ok-place.is_new
    c.in_ok-place.place c.of.ensures c.requires.table c.in_ok-place.ensures.added c.in_ok-place.ensures.index).place_is

pub returns-else-is_new-clause-keys : goal.returns-else-is_new-clause-keys
returns-else-is_new-clause-keys c =
    let known = told same_key same_identity identity_of (λ u k. refl) c.args.keys.now.items c.args.used.now c.of.result c.args.table.now.keys c.in_ok-place.is_new
    c.in_ok-place.place c.of.ensures c.requires.table c.in_ok-place.ensures.added c.in_ok-place.ensures.index in
    c.reserve.ensures.items ∙ sym (known.is_known c.if-is_new.false)

pub returns-else-is_new-clause-place : goal.returns-else-is_new-clause-place
returns-else-is_new-clause-place c =
    (told same_key same_identity identity_of (λ u k. refl) c.args.keys.now.items c.args.used.now c.of.result c.args.table.now.keys c.in_ok-place.is_new
    c.in_ok-place.place c.of.ensures c.requires.table c.in_ok-place.ensures.added c.in_ok-place.ensures.index).place_is
