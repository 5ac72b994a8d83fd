use Rattle.std.proofs.Common.{refl}
use Rattle.cc_base.proofs.HeldLemmas.{Replaces-along, Replaces-set, Replaces-push}
use Rattle.cc_base.proofs.map_files.MapFiles.hold.Goals as goal

-- The first file of the name has the bytes now.
pub returns-in-Some-clause-ok : goal.returns-in-Some-clause-ok
returns-in-Some-clause-ok c =
    Replaces-along _ c.args.name.now _ _ c.args.bytes.now c.in_ok-bytes.bytes.items refl c.in_ok-bytes.ensures.items
    (Replaces-set c.args.name.now c.args.self.now.files.items c.deref.result.now c.in-Some.index
    c.index_mut.result.now (record { name = c.index_mut.result.now.name; bytes = c.in_ok-bytes.bytes })
    c.deref.ensures.value c.in-Some.ensures c.index_mut.ensures.value refl)

-- A new file has them, where there was none of the name.
pub returns-in_ok-push-in-None-clause-ok : goal.returns-in_ok-push-in-None-clause-ok
returns-in_ok-push-in-None-clause-ok c =
    Replaces-along _ c.args.name.now c.push.new.self.items _ c.args.bytes.now c.in_ok-bytes.bytes.items
    c.in_ok-push-in-None.ensures.items c.in_ok-bytes.ensures.items
    (Replaces-push c.args.name.now c.args.self.now.files.items c.deref.result.now
    (record { name = c.in_ok-name-in-None.name; bytes = c.in_ok-bytes.bytes })
    c.deref.ensures.value c.in-None.ensures c.in_ok-name-in-None.ensures.ok)
