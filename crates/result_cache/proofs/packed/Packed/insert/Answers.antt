use Rattle.result_cache.proofs.PackedLaws.{pushed_last}
use Rattle.result_cache.proofs.packed.Packed.insert.Goals as goal

pub returns-in-None-clause-ok : goal.returns-in-None-clause-ok
returns-in-None-clause-ok c =
    pushed_last c.push.result c.args.self.now c.push.new.self c.args.key.now c.args.value.now c.in-None.ensures.absent c.push.ensures.ok
