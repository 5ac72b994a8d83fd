use Rattle.cc_base.proofs.ListedLemmas.{is_listed}
use Rattle.cc_base.proofs.map_files.MapFiles.begin_replace.Goals as goal

pub returns-clause-fails : goal.returns-clause-fails
returns-clause-fails c =
    is_listed _ _ _ _ c.contains.result c.deref.ensures.value c.saturating_add-self.ensures c.contains.ensures.cases
