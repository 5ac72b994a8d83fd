use Rattle.std.proofs.Common.{ap, ◌∙◌}
use Rattle.cc_base.specs.MapFiles.{held_in}
use Rattle.cc_base.specs.declared.map_files.MapFiles.{MapFiles}
use Rattle.cc_base.proofs.HeldLemmas.{ForSome-read}
use Rattle.cc_base.proofs.map_files.MapFilesFiles.read.Goals as goal

-- Counting the read left the files, so what it found is what they held.
pub returns-clause-found : goal.returns-clause-found
returns-clause-found c =
    let held = c.in-Some.ensures
    ∙ ap (λ (m : MapFiles). held_in m.files.items c.args.name.now) c.begin_read-fails.ensures.counted in
    ForSome-read c.args.name.now c.args.self.now.files.items c.in-Some.bytes.now c.in_ok-first_bytes.field-0.items held c.in_ok-first_bytes.ensures
