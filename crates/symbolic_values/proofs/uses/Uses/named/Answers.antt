use Rattle.std.proofs.Common.{◌≡◌, ℕ, ◌+◌, ◌-ℤ◌, ◌∷◌, get_or, sym, ap, ◌∙◌}
use Rattle.symbolic_values.specs.Pairing.{same_key, origin, named}
use Rattle.symbolic_values.specs.FirstUses.{noted}
use Rattle.symbolic_values.proofs.Keys.{same_itself}
use Rattle.symbolic_values.proofs.Noting.{place_there}
use Rattle.symbolic_values.proofs.Origins.{named_other}
use Rattle.symbolic_values.proofs.uses.Uses.named.Goals as goal

pub name_at-requires-clause-there : goal.name_at-requires-clause-there
name_at-requires-clause-there c =
    rw (c.in_ok-place.ensures.keys, c.in_ok-place.ensures.place) (place_there same_key c.args.self.now c.args.used.now (same_itself c.args.used.now))

pub returns-clause-name : goal.returns-clause-name
returns-clause-name c =
    let known = c.args.self.now in
    let used = c.args.used.now in
    let later : origin ∷ c.place_of.new.self ≡ origin ∷ noted same_key known used = ap (λ l. origin ∷ l) c.in_ok-place.ensures.keys in
    let other : named (origin ∷ noted same_key known used) used ≡ record { sym = c.in_ok-place.place + 1; k = used.first -ℤ (get_or c.place_of.new.self c.in_ok-place.place origin).first } =
    named_other known used c.in_ok-place.place _ (sym c.is_origin.ensures ∙ c.if-is_origin.false) c.in_ok-place.ensures.place (ap (λ l. (get_or l c.in_ok-place.place origin).first) c.in_ok-place.ensures.keys) in
    c.name_at.ensures ∙ ap (λ (n : ℕ). record { sym = n; k = used.first -ℤ (get_or c.place_of.new.self c.in_ok-place.place origin).first }) c.in-Some.ensures
    ∙ sym other ∙ ap (λ l. named l used) (sym later)
