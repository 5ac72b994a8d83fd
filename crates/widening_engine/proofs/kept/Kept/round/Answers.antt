use Rattle.std.proofs.Common.{◌∙◌, Bool, List, length, ap, sym, subst}
use Rattle.std.proofs.lemmas.List.FromFn.{length-map-range_with_len}
use Rattle.std.proofs.lemmas.Result.{on_ok_weaker}
use Rattle.widening_engine.specs.Flows.{flow_of}
use Rattle.widening_engine.specs.Kept.{AreTold, states_of}
use Rattle.widening_engine.specs.Rounds.{Flow}
use Rattle.widening_engine.specs.Work.{after_round}
use Rattle.widening_engine.proofs.EdgeSteps.{keeps}
use Rattle.widening_engine.proofs.KeptStates.{counted, counted_most, refreshed_kept, stepped_kept, stepped_states, stepped_told}
use Rattle.widening_engine.proofs.kept.Kept.round.Goals as goal

pub step_all-requires-clause-heads : goal.step_all-requires-clause-heads
step_all-requires-clause-heads g c = ap length c.requires.heads ∙ length-map-range_with_len _ 0 (g.S.FlowState.block_count c.args.code.now)

pub refresh-requires : goal.refresh-requires
refresh-requires g c =
    let m = g.met.S.FlowState in
    let code = c.args.code.now in
    let flow : Flow _ = flow_of g.S.FlowState g.S.Lattice code in
    let law = keeps g.S.FlowState g.S.Lattice code c.requires.lawful m.source_below m.target_below m.along_fits m.join_fits m.widen_fits m.entry_fits m.nothing_fits m.unknown_fits in
    let mid = stepped_kept flow (g.S.FlowState.fits code) law c.args.late c.args.heads.now c.in_ok-joins.joins.items c.args.self.now _ _ c.requires.kept c.in_ok-joins.ensures c.requires.heads c.in_ok-changed.ensures in
    let told = stepped_told flow (g.S.FlowState.fits code) law c.args.late c.args.heads.now c.in_ok-joins.joins.items c.args.self.now _ _ c.requires.kept c.in_ok-joins.ensures c.requires.heads c.in_ok-changed.ensures in
    record { lawful = c.requires.lawful; edges = c.requires.edges; few = c.requires.few; fit = mid.fit; behind = mid.edges; carried = mid.marks; stale = mid.count; changed = ap length c.as_slice.ensures.value ∙ told.count }

pub returns-clause-kept : goal.returns-clause-kept
returns-clause-kept g c =
    let m = g.met.S.FlowState in
    let code = c.args.code.now in
    let flow : Flow _ = flow_of g.S.FlowState g.S.Lattice code in
    let law = keeps g.S.FlowState g.S.Lattice code c.requires.lawful m.source_below m.target_below m.along_fits m.join_fits m.widen_fits m.entry_fits m.nothing_fits m.unknown_fits in
    let kept = c.requires.kept in
    let old = c.args.self.now in
    let mid = c.step_all.new.self in
    let changed = c.in_ok-changed.changed.items in
    let told = stepped_told flow (g.S.FlowState.fits code) law c.args.late c.args.heads.now c.in_ok-joins.joins.items old mid changed kept c.in_ok-joins.ensures c.requires.heads c.in_ok-changed.ensures in
    on_ok_weaker c.refresh.result (λ again. refreshed_kept flow (g.S.FlowState.fits code) law c.args.every (states_of old.blocks.items) _ mid _ (m.first_block code c.requires.lawful)
    (stepped_kept flow (g.S.FlowState.fits code) law c.args.late c.args.heads.now c.in_ok-joins.joins.items old mid changed kept c.in_ok-joins.ensures c.requires.heads c.in_ok-changed.ensures)
    (subst (λ (marks : List Bool). AreTold flow (states_of old.blocks.items) (states_of mid.blocks.items) marks) (sym c.as_slice.ensures.value) told) again) c.refresh.ensures.refreshed

pub returns-clause-states : goal.returns-clause-states
returns-clause-states g c =
    let m = g.met.S.FlowState in
    let code = c.args.code.now in
    let flow : Flow _ = flow_of g.S.FlowState g.S.Lattice code in
    let law = keeps g.S.FlowState g.S.Lattice code c.requires.lawful m.source_below m.target_below m.along_fits m.join_fits m.widen_fits m.entry_fits m.nothing_fits m.unknown_fits in
    on_ok_weaker c.refresh.result (λ again. ap states_of again.blocks ∙ stepped_states flow (g.S.FlowState.fits code) law c.args.late c.args.heads.now c.in_ok-joins.joins.items c.args.self.now c.step_all.new.self c.in_ok-changed.changed.items c.requires.kept c.in_ok-joins.ensures c.requires.heads c.in_ok-changed.ensures)
    c.refresh.ensures.refreshed

pub returns-clause-ticked : goal.returns-clause-ticked
returns-clause-ticked g c =
    let m = g.met.S.FlowState in
    let code = c.args.code.now in
    let flow : Flow _ = flow_of g.S.FlowState g.S.Lattice code in
    let law = keeps g.S.FlowState g.S.Lattice code c.requires.lawful m.source_below m.target_below m.along_fits m.join_fits m.widen_fits m.entry_fits m.nothing_fits m.unknown_fits in
    let old = c.args.self.now in
    let mid = c.step_all.new.self in
    let changed = c.in_ok-changed.changed.items in
    on_ok_weaker c.refresh.result (λ ticked. counted flow c.args.every (states_of old.blocks.items) (states_of mid.blocks.items) (after_round flow c.args.late (states_of old.blocks.items)) changed _ _ _ law.source_below
    (stepped_told flow (g.S.FlowState.fits code) law c.args.late c.args.heads.now c.in_ok-joins.joins.items old mid changed c.requires.kept c.in_ok-joins.ensures c.requires.heads c.in_ok-changed.ensures)
    (stepped_states flow (g.S.FlowState.fits code) law c.args.late c.args.heads.now c.in_ok-joins.joins.items old mid changed c.requires.kept c.in_ok-joins.ensures c.requires.heads c.in_ok-changed.ensures) c.as_slice.ensures.value ticked) c.refresh.ensures.ticked

pub returns-clause-most : goal.returns-clause-most
returns-clause-most g c =
    let m = g.met.S.FlowState in
    let code = c.args.code.now in
    let flow : Flow _ = flow_of g.S.FlowState g.S.Lattice code in
    let law = keeps g.S.FlowState g.S.Lattice code c.requires.lawful m.source_below m.target_below m.along_fits m.join_fits m.widen_fits m.entry_fits m.nothing_fits m.unknown_fits in
    let old = c.args.self.now in
    let mid = c.step_all.new.self in
    let changed = c.in_ok-changed.changed.items in
    counted_most flow c.args.every (states_of old.blocks.items) (states_of mid.blocks.items) (after_round flow c.args.late (states_of old.blocks.items)) changed _ _ _ law.source_below
    (stepped_told flow (g.S.FlowState.fits code) law c.args.late c.args.heads.now c.in_ok-joins.joins.items old mid changed c.requires.kept c.in_ok-joins.ensures c.requires.heads c.in_ok-changed.ensures)
    (stepped_states flow (g.S.FlowState.fits code) law c.args.late c.args.heads.now c.in_ok-joins.joins.items old mid changed c.requires.kept c.in_ok-joins.ensures c.requires.heads c.in_ok-changed.ensures) c.as_slice.ensures.value c.refresh.ensures.most
