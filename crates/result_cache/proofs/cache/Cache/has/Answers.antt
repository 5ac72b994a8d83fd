use Rattle.std.proofs.Common.{List, ap, ◌∙◌}
use Rattle.result_cache.specs.Entries.{Entry, is_among, keys_of}
use Rattle.result_cache.proofs.PackedLaws.{found_told}
use Rattle.result_cache.proofs.cache.Cache.has.Goals as goal

pub returns : goal.returns
returns c =
    c.is_some.ensures
    ∙ found_told c.find.result c.self.inside.invariants c.args.key.now c.find.ensures.found c.find.ensures.absent
    ∙ ap (λ (entries : List Entry). is_among (keys_of entries) c.args.key.now) c.self.view_is
