use Rattle.check_driver.proofs.CacheTexts.{plain_text}
use Rattle.check_driver.proofs.cache_file.cache_fault_text.Goals as goal

pub returns-clause-plain : goal.returns-clause-plain
returns-clause-plain c = plain_text c.args.fault c.fault_text.result c.fault_text.ensures
