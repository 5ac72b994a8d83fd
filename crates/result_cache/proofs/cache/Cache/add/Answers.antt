use Rattle.result_cache.specs.Entries.{Entry, is_among, keys_of}
use Rattle.std.proofs.Common.{◌≡◌, List, false, subst, sym}
use Rattle.result_cache.proofs.EntryLemmas.{added_kept}
use Rattle.result_cache.proofs.cache.Cache.add.Goals as goal

pub invariant_of-self : goal.invariant_of-self
invariant_of-self c =
    added_kept c.push.result c.self.inside.invariants c.push.new.self c.args.key.now c.args.invariant.now
    (subst (λ (entries : List Entry). is_among (keys_of entries) c.args.key.now ≡ false) (sym c.self.view_is) c.requires.new)
    c.push.ensures.ok c.push.ensures.err c.self.invariant c.requires.invariant
