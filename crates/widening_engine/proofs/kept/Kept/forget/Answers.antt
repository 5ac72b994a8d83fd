use Rattle.std.proofs.Common.{◌∙◌, Bool, List, length, ap, sym, subst}
use Rattle.std.proofs.lemmas.Result.{on_ok_weaker}
use Rattle.widening_engine.specs.Flows.{flow_of}
use Rattle.widening_engine.specs.Kept.{AreTold, states_of}
use Rattle.widening_engine.specs.Rounds.{Flow, all_unknown}
use Rattle.widening_engine.proofs.EdgeSteps.{keeps}
use Rattle.widening_engine.proofs.KeptStates.{counted, counted_most, forgotten_kept, forgotten_states, forgotten_told, refreshed_kept}
use Rattle.widening_engine.proofs.kept.Kept.forget.Goals as goal

pub refresh-requires : goal.refresh-requires
refresh-requires g c =
    let m = g.met.S.FlowState in
    let code = c.args.code.now in
    let flow : Flow _ = flow_of g.S.FlowState g.S.Lattice code in
    let law = keeps g.S.FlowState g.S.Lattice code c.requires.lawful m.source_below m.target_below m.along_fits m.join_fits m.widen_fits m.entry_fits m.nothing_fits m.unknown_fits in
    let mid = forgotten_kept flow (g.S.FlowState.fits code) law c.args.self.now _ _ c.requires.kept c.in_ok-changed.ensures in
    let told = forgotten_told flow (g.S.FlowState.fits code) law c.args.self.now _ _ c.requires.kept c.in_ok-changed.ensures in
    record { lawful = c.requires.lawful; edges = c.requires.edges; few = c.requires.numbered.edges; fit = mid.fit; behind = mid.edges; carried = mid.marks; stale = mid.count; changed = ap length c.as_slice.ensures.value ∙ told.count }

pub returns-clause-kept : goal.returns-clause-kept
returns-clause-kept g c =
    let m = g.met.S.FlowState in
    let code = c.args.code.now in
    let flow : Flow _ = flow_of g.S.FlowState g.S.Lattice code in
    let law = keeps g.S.FlowState g.S.Lattice code c.requires.lawful m.source_below m.target_below m.along_fits m.join_fits m.widen_fits m.entry_fits m.nothing_fits m.unknown_fits in
    let kept = c.requires.kept in
    let old = c.args.self.now in
    let mid = c.forget_all.new.self in
    let changed = c.in_ok-changed.changed.items in
    let told = forgotten_told flow (g.S.FlowState.fits code) law old mid changed kept c.in_ok-changed.ensures in
    on_ok_weaker c.refresh.result (λ again. refreshed_kept flow (g.S.FlowState.fits code) law c.args.every (states_of old.blocks.items) _ mid _ (m.first_block code c.requires.lawful)
    (forgotten_kept flow (g.S.FlowState.fits code) law old mid changed kept c.in_ok-changed.ensures)
    (subst (λ (marks : List Bool). AreTold flow (states_of old.blocks.items) (states_of mid.blocks.items) marks) (sym c.as_slice.ensures.value) told) again) c.refresh.ensures.refreshed

pub returns-clause-states : goal.returns-clause-states
returns-clause-states g c =
    let m = g.met.S.FlowState in
    let code = c.args.code.now in
    let flow : Flow _ = flow_of g.S.FlowState g.S.Lattice code in
    let law = keeps g.S.FlowState g.S.Lattice code c.requires.lawful m.source_below m.target_below m.along_fits m.join_fits m.widen_fits m.entry_fits m.nothing_fits m.unknown_fits in
    on_ok_weaker c.refresh.result (λ again. ap states_of again.blocks ∙ forgotten_states flow (g.S.FlowState.fits code) law c.args.self.now c.forget_all.new.self c.in_ok-changed.changed.items c.requires.kept c.in_ok-changed.ensures)
    c.refresh.ensures.refreshed

pub returns-clause-ticked : goal.returns-clause-ticked
returns-clause-ticked g c =
    let m = g.met.S.FlowState in
    let code = c.args.code.now in
    let flow : Flow _ = flow_of g.S.FlowState g.S.Lattice code in
    let law = keeps g.S.FlowState g.S.Lattice code c.requires.lawful m.source_below m.target_below m.along_fits m.join_fits m.widen_fits m.entry_fits m.nothing_fits m.unknown_fits in
    let old = c.args.self.now in
    let mid = c.forget_all.new.self in
    let changed = c.in_ok-changed.changed.items in
    on_ok_weaker c.refresh.result (λ ticked. counted flow c.args.every (states_of old.blocks.items) (states_of mid.blocks.items) (all_unknown flow) changed _ _ _ law.source_below
    (forgotten_told flow (g.S.FlowState.fits code) law old mid changed c.requires.kept c.in_ok-changed.ensures)
    (forgotten_states flow (g.S.FlowState.fits code) law old mid changed c.requires.kept c.in_ok-changed.ensures) c.as_slice.ensures.value ticked) c.refresh.ensures.ticked

pub returns-clause-most : goal.returns-clause-most
returns-clause-most g c =
    let m = g.met.S.FlowState in
    let code = c.args.code.now in
    let flow : Flow _ = flow_of g.S.FlowState g.S.Lattice code in
    let law = keeps g.S.FlowState g.S.Lattice code c.requires.lawful m.source_below m.target_below m.along_fits m.join_fits m.widen_fits m.entry_fits m.nothing_fits m.unknown_fits in
    let old = c.args.self.now in
    let mid = c.forget_all.new.self in
    let changed = c.in_ok-changed.changed.items in
    counted_most flow c.args.every (states_of old.blocks.items) (states_of mid.blocks.items) (all_unknown flow) changed _ _ _ law.source_below
    (forgotten_told flow (g.S.FlowState.fits code) law old mid changed c.requires.kept c.in_ok-changed.ensures)
    (forgotten_states flow (g.S.FlowState.fits code) law old mid changed c.requires.kept c.in_ok-changed.ensures) c.as_slice.ensures.value c.refresh.ensures.most
