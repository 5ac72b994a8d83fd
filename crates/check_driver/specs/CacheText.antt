-- The words for the faults of a cache.
use Rattle.std.specs.Prelude.{ℕ, List, ◌++◌, codes}
use Rattle.cc_base.specs.Digits.{hex}
use Rattle.result_cache.specs.declared.cache_fault.CacheFault.{CacheFault}
use Rattle.result_cache.specs.declared.cache_fault.CacheFault.TheVariants as faults

abbrev pub cache_fault_text : CacheFault → List ℕ
cache_fault_text faults.Version = codes "version"
cache_fault_text (faults.Short at) = codes "short at " ++ hex 8 at
cache_fault_text (faults.Form at) = codes "form at " ++ hex 8 at
cache_fault_text faults.Large = codes "too large"
