use Rattle.std.proofs.Common.{rules, sym, ap, ◌∙◌}
use Rattle.unit_builder.specs.Met.{Order, place_in}
use Rattle.unit_builder.proofs.MetLemmas.{below-none, past-none}
use Rattle.unit_builder.proofs.met.Met.place.Goals as goal

pub returns-in_err-index : goal.returns-in_err-index
returns-in_err-index c =
    let none = below-none _ _ c.args.token.0 c.self.invariant (search rules) in
    c.from_residual.ensures ∙ sym (ap (λ (order : Order). place_in order.tokens c.args.token.0) (sym c.self.view_is) ∙ none)

pub returns-in_err-get : goal.returns-in_err-get
returns-in_err-get c =
    let none = past-none _ _ c.args.token.0 c.self.invariant (search rules) in
    c.from_residual-in_err-get.ensures ∙ sym (ap (λ (order : Order). place_in order.tokens c.args.token.0) (sym c.self.view_is) ∙ none)
