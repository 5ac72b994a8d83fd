-- The invariants of a cache file are no longer than the file.
use Rattle.std.proofs.Common.{ℕ, ◌≤◌, List, [], ◌∷◌, ◌++◌, length, filter_map, Option, Some, None, option_map, Result, Ok, Err, subst, sym, ap, arith, length-append}
use Rattle.std.specs.Prelude.{IfOk}
use Rattle.std.specs.List.{AllByRecursion, cons_option, flat_map}
use Rattle.std.proofs.lemmas.List.Concat.{flat_map-cons}
use Rattle.byteorder.specs.Endian.{little_bytes}
use Rattle.result_cache.specs.declared.cache_form.CacheForm.{CacheForm}
use Rattle.result_cache.specs.declared.cache_form.CacheForm.TheVariants.{First, Second}
use Rattle.result_cache.proofs.KeptLemmas.{entry_length}
use Rattle.result_cache.specs.Entries.{AreShort, Entry}
use Rattle.result_cache.specs.FirstForm.{entries_told, second_entry, second_key}
use Rattle.result_cache.specs.Forms.{magic}
use Rattle.result_cache.specs.Spelling.{IsFileOf, entry_bytes, file_bytes}

each_short : (most : ℕ) (entries : List Entry) → length (flat_map entry_bytes entries) ≤ most
    → AllByRecursion (λ e. length e.1 ≤ most) entries
each_short most [] few = tt
each_short most (e ∷ es) few =
    let whole = ap length (flat_map-cons entry_bytes e es) in
    let parts = length-append (entry_bytes e) (flat_map entry_bytes es) in (
      omega (arith, few, whole, parts, entry_length e),
      each_short most es (omega (arith, few, whole, parts)),
    )

seconds_short : (entries : List Entry) → AreShort entries → AreShort (filter_map second_entry entries)
seconds_short [] short = tt
seconds_short (e ∷ es) short = by (second_key e.0) (seconds_short es short.1)
  where
    by : (key : Option (List ℕ)) → AreShort (filter_map second_entry es)
        → AreShort (cons_option (option_map (λ (k : List ℕ). (k, e.1)) key) (filter_map second_entry es))
    by None later = later
    by (Some key) later = (short.0, later)

told_short : (form : CacheForm) (entries : List Entry) → AreShort entries → AreShort (entries_told form entries)
told_short First entries short = seconds_short entries short
told_short Second entries short = short

file_short : (cache : List Entry) (bytes : List ℕ) → IsFileOf cache bytes → AreShort cache
unfolding file_bytes
file_short cache bytes is =
    let all = flat_map entry_bytes is.entries in
    let count = little_bytes 4 (length is.entries) in
    let long = ap length (sym is.file.same) in
    let short = each_short 67108864 is.entries
    (omega (arith, is.file.size, long, length-append (magic is.form) (count ++ all), length-append count all)) in
    subst AreShort is.told (told_short is.form is.entries short)

pub read_short : {F : Type 0} (bytes : List ℕ) (answer : Result (List Entry) F) → IfOk answer (λ cache. IsFileOf cache bytes)
    → IfOk answer AreShort
read_short bytes (Ok cache) is = file_short cache bytes is
read_short bytes (Err e) is = tt
