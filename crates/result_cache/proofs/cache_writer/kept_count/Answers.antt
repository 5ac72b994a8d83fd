use Rattle.std.proofs.Common.{sym}
use Rattle.result_cache.proofs.KeptLemmas.{room_ends, room_next, room_none, room_past}
use Rattle.result_cache.proofs.cache_writer.kept_count.Goals as goal

pub loop-index-init : goal.loop-index-init
loop-index-init g c = room_none (g.E.Entries.entries c.args.entries.now)

pub returns-in_default-clause-prefix : goal.returns-in_default-clause-prefix
returns-in_default-clause-prefix g c =
    room_past (g.E.Entries.entries c.args.entries.now) c.loop-index.index c.loop-index.left (sym c.in_default.ensures) c.loop-index.invariant

pub returns-in_default-left_after-clause-prefix : goal.returns-in_default-left_after-clause-prefix
returns-in_default-left_after-clause-prefix g c =
    room_ends (g.E.Entries.entries c.args.entries.now) c.loop-index.index c.loop-index.left (c.in-Some.key.now, c.in-Some.invariant.now)
    c.loop-index.invariant (sym c.in-Some.ensures) (sym c.in_default-left_after.ensures)

pub loop-index-preserved : goal.loop-index-preserved
loop-index-preserved g c =
    room_next (g.E.Entries.entries c.args.entries.now) c.loop-index.index c.loop-index.left c.in-Some-left_after.rest
    (c.in-Some.key.now, c.in-Some.invariant.now)
    c.loop-index.invariant (sym c.in-Some.ensures) c.in-Some-left_after.ensures
