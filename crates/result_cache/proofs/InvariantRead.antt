-- The bytes of an invariant, as they are read.
use Rattle.std.proofs.Common.{◌≡◌, ℕ, ◌+◌, List, Some, None, ap, ◌∙◌, option_map}
use Rattle.cc_base.specs.Tests.{first_of}
use Rattle.cc_base.proofs.TestLemmas.{first_of-append_none, first_of-append_some, first_of-one}
use Rattle.invariant_codec.specs.Invariants.{first_states_fault, IsInvariant}
use Rattle.invariant_codec.specs.declared.fault.InvFault.{InvFault}
use Rattle.result_cache.specs.CacheFile.{fault_inside, invariant_field}
use Rattle.invariant_codec.specs.Parses.{IsRead}
use Rattle.result_cache.specs.Parses.{sized_field}
use Rattle.result_cache.specs.declared.cache_fault.CacheFault.{CacheFault}

read : (bytes : List ℕ) (at : ℕ) (invariant : List ℕ) → first_of (sized_field bytes at).tests ≡ None
    → invariant ≡ (sized_field bytes at).value → first_states_fault invariant ≡ None
    → first_of (invariant_field bytes at).tests ≡ None
unfolding invariant_field
read bytes at invariant passed is none =
    let its : first_states_fault (sized_field bytes at).value ≡ None = rw (← is) none in
    first_of-append_none _ _ passed ∙ first_of-one _ ∙ ap (option_map (fault_inside (at + 4))) its

pub faulty : (bytes : List ℕ) (at : ℕ) (invariant : List ℕ) (fault : InvFault) → first_of (sized_field bytes at).tests ≡ None
    → invariant ≡ (sized_field bytes at).value → first_states_fault invariant ≡ Some fault
    → first_of (invariant_field bytes at).tests ≡ Some (fault_inside (at + 4) fault)
unfolding invariant_field
faulty bytes at invariant fault passed is some =
    let its : first_states_fault (sized_field bytes at).value ≡ Some fault = rw (← is) some in
    first_of-append_none _ _ passed ∙ first_of-one _ ∙ ap (option_map (fault_inside (at + 4))) its

pub cut : (bytes : List ℕ) (at : ℕ) (fault : CacheFault) → first_of (sized_field bytes at).tests ≡ Some fault
    → first_of (invariant_field bytes at).tests ≡ Some fault
unfolding invariant_field
cut bytes at fault some = first_of-append_some _ _ fault some

-- One that spells states is what is read.
pub read_good : (bytes : List ℕ) (at : ℕ) (invariant : List ℕ) (next : ℕ) → first_of (sized_field bytes at).tests ≡ None
    → IsRead bytes (sized_field bytes at) invariant next → first_states_fault invariant ≡ None
    → (first_of (invariant_field bytes at).tests ≡ None) × (IsRead bytes (invariant_field bytes at) invariant next × IsInvariant invariant)
unfolding invariant_field
read_good bytes at invariant next passed is none = (read bytes at invariant passed is.0 none, (is, none))
