use Rattle.std.proofs.Common.{ap, sym, ◌∙◌, Some}
use Rattle.cc_base.specs.declared.map_files.NamedFile.{NamedFile}
use Rattle.cc_base.proofs.HeldLemmas.{held-missing, held-found}
use Rattle.cc_base.proofs.map_files.MapFiles.get.Goals as goal

pub returns-in-Some : goal.returns-in-Some
returns-in-Some c =
    ap Some c.deref-in-Some.ensures.value
    ∙ ap (λ (file : NamedFile). Some file.bytes.items) c.index.ensures
    ∙ sym (held-found c.args.name.now c.args.self.now.files.items c.deref.result.now c.in-Some.index c.index.result.now
    c.deref.ensures.value c.in-Some.ensures)

pub returns-in-None : goal.returns-in-None
returns-in-None c =
    sym (held-missing c.args.name.now c.args.self.now.files.items c.deref.result.now c.deref.ensures.value c.in-None.ensures)
