use Rattle.std.proofs.Common.{◌≡◌, ◌∙◌, None, Some, Bool, cond, get_or, set, sym, ap}
use Rattle.std.proofs.lemmas.List.{set-set, get_or_read}
use Rattle.widening_engine.specs.Merging.{joined}
use Rattle.widening_engine.proofs.kept.join_into.Goals as goal

pub returns : goal.returns
returns g c =
    let items = c.args.joins.now.items in
    let before : c.take-before.result ≡ get_or items c.args.block None = get_or_read items c.args.block _ c.requires.block (c.take-before.ensures.value ∙ c.index_mut.ensures.value ∙ ap (λ b. get_or items c.args.block b) (sym c.take-before.ensures.value)) None in
    set-set items c.args.block _ _ ∙ ap (λ s. set items c.args.block (Some s)) (c.in_ok-joined.ensures ∙ ap (λ b. joined g.S.Lattice.join b c.args.state.now) before)
    ∙ sym (ap (λ (t : Bool). cond t (set items c.args.block (Some (joined g.S.Lattice.join (get_or items c.args.block None) c.args.state.now))) items) c.if-not-stale.false)
