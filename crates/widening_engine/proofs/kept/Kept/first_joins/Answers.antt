use Rattle.std.proofs.Common.{◌≡◌, ◌<◌, ◌∙◌, None, Some, cond, refl, ap, map, set, get_or, arith}
use Rattle.std.proofs.lemmas.List.FromFn.{get_or-map-range_with_len}
use Rattle.widening_engine.specs.Flows.{flow_of}
use Rattle.widening_engine.specs.Kept.{states_of}
use Rattle.widening_engine.specs.Merging.{joined}
use Rattle.widening_engine.specs.Rounds.{Flow, places}
use Rattle.widening_engine.proofs.KeptStates.{anew_none, mark_read}
use Rattle.widening_engine.proofs.kept.Kept.first_joins.Goals as goal

pub returns : goal.returns
returns g c =
    let m = g.met.S.FlowState in
    let code = c.args.code.now in
    let flow : Flow _ = flow_of g.S.FlowState g.S.Lattice code in
    let kept = c.requires.kept in
    let below : 0 < flow.blocks = m.first_block code c.requires.lawful in
    let many : c.len.result ≡ flow.blocks = omega (arith, kept.blocks) in
    let none = c.in_ok-joins.ensures ∙ ap (λ n. map (λ block. None) (places n)) many in
    let first = get_or-map-range_with_len (λ block. None) 0 flow.blocks 0 0 None below refl in
    let mark = mark_read c.args.self.now.stale.items 0 0 _ refl (omega (arith, kept.count, below)) c.index.ensures in
    c.in_ok-join_into.ensures
    ∙ (λ i. cond c.index.result.now (set (none i) 0 (Some (joined flow.join (get_or (none i) 0 None) (kept.entry i)))) (none i))
    ∙ ap (λ o. cond c.index.result.now (set (map (λ block. None) (places flow.blocks)) 0 (Some (joined flow.join o flow.entry))) (map (λ block. None) (places flow.blocks))) first
    ∙ anew_none flow (states_of c.args.self.now.blocks.items) c.args.self.now.stale.items c.index.result.now mark below
