use Rattle.asm_writer.specs.Linked.{linked}
use Rattle.written_assemblies.proofs.AloneLemmas.{whole_name, whole_externs}
use Rattle.written_assemblies.proofs.BodyLemmas.{whole_bodies}
use Rattle.written_assemblies.proofs.WholeLemmas.{whole_passes, whole_methods}
use Rattle.written_assemblies.proofs.assembly.read_linked.Goals as goal

pub read_accepted-requires : goal.read_accepted-requires
read_accepted-requires c = record {
  accepted = whole_passes (linked c.args.plan.now c.args.assembly.now c.args.externs.now) c.args.bytes.now c.requires.fits c.requires.readable.plan c.requires.written;
}

pub returns-clause-accepted : goal.returns-clause-accepted
returns-clause-accepted c = whole_passes (linked c.args.plan.now c.args.assembly.now c.args.externs.now) c.args.bytes.now c.requires.fits c.requires.readable.plan c.requires.written

pub returns-clause-methods : goal.returns-clause-methods
returns-clause-methods c = whole_methods (linked c.args.plan.now c.args.assembly.now c.args.externs.now) c.args.bytes.now c.requires.fits c.requires.readable.plan c.requires.written

pub returns-clause-bodies : goal.returns-clause-bodies
returns-clause-bodies c = λ index m at. whole_bodies (linked c.args.plan.now c.args.assembly.now c.args.externs.now) c.args.bytes.now index m c.requires.fits c.requires.readable.plan c.requires.written at

pub returns-clause-name : goal.returns-clause-name
returns-clause-name c = whole_name (linked c.args.plan.now c.args.assembly.now c.args.externs.now) c.args.bytes.now c.requires.fits c.requires.readable c.requires.written

pub returns-clause-externs : goal.returns-clause-externs
returns-clause-externs c = λ index e at. whole_externs (linked c.args.plan.now c.args.assembly.now c.args.externs.now) c.args.bytes.now index e c.requires.fits c.requires.readable c.requires.written at
