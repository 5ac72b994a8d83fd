use Rattle.written_assemblies.proofs.AloneLemmas.{alone_bytes, alone_fits, alone_readable}
use Rattle.written_assemblies.proofs.assembly.read_written.Goals as goal

pub read_linked-requires-clause-written : goal.read_linked-requires-clause-written
read_linked-requires-clause-written c = alone_bytes c.args.plan.now _ c.args.bytes.now c.deref.ensures.value c.requires.written

pub read_linked-requires-clause-fits : goal.read_linked-requires-clause-fits
read_linked-requires-clause-fits c = alone_fits c.args.plan.now _ c.deref.ensures.value c.requires.fits

pub read_linked-requires-clause-readable : goal.read_linked-requires-clause-readable
read_linked-requires-clause-readable c = alone_readable c.args.plan.now _ c.deref.ensures.value c.requires.readable
