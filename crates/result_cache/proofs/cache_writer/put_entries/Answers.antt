use Rattle.std.proofs.Common.{◌≡◌, sym, append-nil, arith}
use Rattle.result_cache.proofs.KeptLemmas.{put_more, put_past}
use Rattle.result_cache.proofs.cache_writer.put_entries.Goals as goal

pub loop-index-init : goal.loop-index-init
loop-index-init g c = sym (append-nil _)

pub returns-in_default : goal.returns-in_default
returns-in_default g c =
    put_past (g.E.Entries.entries c.args.entries.now) c.loop-index.index c.args.count (sym c.in_default.ensures) c.loop-index-test.true c.requires

pub loop-index-preserved : goal.loop-index-preserved
loop-index-preserved g c =
    put_more (g.E.Entries.entries c.args.entries.now) c.loop-index.index (c.in-Some.key.now, c.in-Some.invariant.now) _ c.loop-index.out.items _ _
    (sym c.in-Some.ensures) c.loop-index.invariant c.in_ok-put_sized.ensures c.in_ok-put_sized-2.ensures

pub returns : goal.returns
returns g c =
    let all : c.loop-index.index ≡ c.args.count = omega arith in
    rw (← all) c.loop-index.invariant
