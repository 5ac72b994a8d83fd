-- The words for a fault of a cache are no line.
use Rattle.std.proofs.Common.{◌≡◌, ℕ, Vec, Global, Result, Ok, Err, refl, ap, ◌∙◌, codes}
use Rattle.std.specs.Prelude.{IfOk}
use Rattle.cc_base.specs.Digits.{hex}
use Rattle.answer_lines.specs.LineCounts.{line_count}
use Rattle.answer_lines.proofs.LineLemmas.{none_behind, none_in_hex}
use Rattle.check_driver.specs.CacheText.{cache_fault_text}
use Rattle.result_cache.specs.declared.cache_fault.CacheFault.{CacheFault}
use Rattle.result_cache.specs.declared.cache_fault.CacheFault.TheVariants as faults

pub none_in_cache_fault : (fault : CacheFault) → line_count (cache_fault_text fault) ≡ 0
unfolding line_count
none_in_cache_fault faults.Version = refl
none_in_cache_fault (faults.Short at) = none_behind (codes "short at ") (hex 8 at) refl (none_in_hex 8 at)
none_in_cache_fault (faults.Form at) = none_behind (codes "form at ") (hex 8 at) refl (none_in_hex 8 at)
none_in_cache_fault faults.Large = refl

-- Nor is a text that was made of them.
pub plain_text : {E : Type 0} (fault : CacheFault) (made : Result (Vec ℕ Global) E) → IfOk made (λ text. text.items ≡ cache_fault_text fault)
    → IfOk made (λ text. line_count text.items ≡ 0)
plain_text fault (Ok text) is = ap line_count is ∙ none_in_cache_fault fault
plain_text fault (Err e) is = tt
