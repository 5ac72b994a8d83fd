-- What an answer says that the tests of a cache file judge.
use Rattle.std.proofs.Common.{◌≡◌, ℕ, ◌≤◌, List, length, None, Result, Ok, Err, sym, ap, ap₂, ◌∙◌}
use Rattle.std.specs.Prelude.{IfOk, nat_le}
use Rattle.std.proofs.lemmas.Bool.{le-leb}
use Rattle.std.proofs.lemmas.Option.{none-some}
use Rattle.cc_base.specs.LittleEndian.{IsBytes}
use Rattle.cc_base.specs.Tests.{first_of, GivesOnly, JudgesOrNoMemory, must}
use Rattle.cc_base.specs.declared.refusal.Refusal.{Refusal}
use Rattle.cc_base.specs.declared.refusal.Refusal.TheVariants.{Bad, NoMemory}
use Rattle.cc_base.proofs.TestLemmas.{first_of-append_none, first_of-none, must_hold}
use Rattle.result_cache.specs.Forms.{form_of}
use Rattle.result_cache.specs.declared.cache_form.CacheForm.{CacheForm}
use Rattle.result_cache.specs.declared.cache_form.CacheForm.TheVariants.{First}
use Rattle.result_cache.specs.CacheFile.{counted_entries, entries_of, entries_standing, first_cache_fault, magic_tests, MAX_CACHE_BYTES}
use Rattle.result_cache.specs.Entries.{Entry}
use Rattle.result_cache.specs.FirstForm.{AreFirst, entries_told}
use Rattle.result_cache.specs.Spelling.{IsCacheFile, IsCacheOf, IsFileOf}
use Rattle.result_cache.specs.declared.cache_fault.CacheFault.{CacheFault}
use Rattle.result_cache.specs.declared.cache_fault.CacheFault.TheVariants.{Large}
use Rattle.result_cache.proofs.Again.{file_again}
use Rattle.result_cache.proofs.Taken.{file_taken}

-- A file whose size and magic are passed has the faults of its entries.
pub fault_behind : (bytes : List ℕ) → length bytes ≤ MAX_CACHE_BYTES → first_of (magic_tests bytes) ≡ None
    → first_cache_fault bytes ≡ first_of (counted_entries bytes).tests
unfolding first_cache_fault
fault_behind bytes size passed =
    first_of-none (must (nat_le (length bytes) MAX_CACHE_BYTES) Large) _ ((must_hold _ _).1 (le-leb _ _ size))
    ∙ first_of-append_none (magic_tests bytes) _ passed

-- What its entries stand for is the cache.
pub told : (bytes : List ℕ) (form : CacheForm) (answer : Result (List Entry) (Refusal CacheFault)) → form ≡ form_of bytes
    → first_cache_fault bytes ≡ first_of (counted_entries bytes).tests
    → JudgesOrNoMemory answer (first_of (counted_entries bytes).tests)
    (λ cache. (cache ≡ entries_told form (entries_standing bytes)) × (form ≡ First → AreFirst (entries_standing bytes)))
    → JudgesOrNoMemory answer (first_cache_fault bytes) (IsCacheOf bytes)
unfolding entries_of
told bytes form (Ok cache) is fault judged = (
  fault ∙ judged.0,
  record {
    same = judged.1.0 ∙ ap (λ (f : CacheForm). entries_told f (entries_standing bytes)) is;
    firsts = λ first. judged.1.1 (is ∙ first);
  },
)
told bytes form (Err (Bad found)) is fault judged = fault ∙ judged
told bytes form (Err NoMemory) is fault judged = tt

-- What is read is what the file has.
pub read_spelled : (bytes : List ℕ) (answer : Result (List Entry) (Refusal CacheFault)) → IsBytes bytes
    → JudgesOrNoMemory answer (first_cache_fault bytes) (IsCacheOf bytes) → IfOk answer (λ cache. IsFileOf cache bytes)
unfolding entries_of
read_spelled bytes (Ok cache) fits judged = record {
  form = form_of bytes;
  entries = entries_standing bytes;
  file = file_taken bytes fits judged.0;
  told = sym judged.1.same;
}
read_spelled bytes (Err refusal) fits judged = tt

-- A file of entries is read.
pub read_only : (bytes : List ℕ) (answer : Result (List Entry) (Refusal CacheFault)) (form : CacheForm) (entries : List Entry)
    → IsCacheFile form entries bytes → JudgesOrNoMemory answer (first_cache_fault bytes) (IsCacheOf bytes)
    → GivesOnly answer (λ cache. cache ≡ entries_told form entries)
unfolding entries_of
read_only bytes (Ok cache) form entries is judged =
    let again = file_again form entries bytes is in
    judged.1.same ∙ ap₂ (λ (f : CacheForm) (es : List Entry). entries_told f es) again.form_is again.value
read_only bytes (Err (Bad fault)) form entries is judged =
    none-some fault (sym (file_again form entries bytes is).passed ∙ judged)
read_only bytes (Err NoMemory) form entries is judged = tt

pub read_judged : (bytes : List ℕ) (answer : Result (List Entry) (Refusal CacheFault))
    → JudgesOrNoMemory answer (first_cache_fault bytes) (IsCacheOf bytes)
    → JudgesOrNoMemory answer (first_cache_fault bytes) (λ cache. cache ≡ entries_of bytes)
read_judged bytes (Ok cache) judged = (judged.0, judged.1.same)
read_judged bytes (Err (Bad fault)) judged = judged
read_judged bytes (Err NoMemory) judged = tt

pub read_firsts : (bytes : List ℕ) (answer : Result (List Entry) (Refusal CacheFault))
    → JudgesOrNoMemory answer (first_cache_fault bytes) (IsCacheOf bytes)
    → IfOk answer (λ _. form_of bytes ≡ First → AreFirst (entries_standing bytes))
read_firsts bytes (Ok cache) judged = judged.1.firsts
read_firsts bytes (Err refusal) judged = tt
