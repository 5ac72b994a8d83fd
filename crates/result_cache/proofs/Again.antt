-- The file of entries passes its tests, and they are read from it again.
use Rattle.std.proofs.Common.{◌≡◌, ℕ, ◌+◌, ◌<◌, ◌≤◌, Bool, true, false, List, [], ◌∷◌, ◌++◌, length, take, drop, None, Option, refl, sym, subst, ap, ap₂, ◌∙◌, ◌^◌, arith, length-append, length-drop, append_assoc, append-nil}
use Rattle.std.specs.Prelude.{not, slice_index, ◌==◌, option_map}
use Rattle.std.specs.List.{flat_map}
use Rattle.std.proofs.lemmas.Bool.{le-leb}
use Rattle.std.proofs.lemmas.List.{take_at, map-append}
use Rattle.std.proofs.lemmas.List.Concat.{flat_map-cons}
use Rattle.byteorder.specs.Endian.{little_bytes}
use Rattle.cc_base.specs.LittleEndian.{u32_at}
use Rattle.cc_base.specs.Tests.{first_of, must}
use Rattle.cc_base.proofs.ByteLemmas.{length-little_bytes}
use Rattle.cc_base.proofs.TestLemmas.{first_of-append_none, first_of-none, first_of-nil, must_hold}
use Rattle.invariant_codec.proofs.Stands.{after, lies, number_read}
use Rattle.invariant_codec.specs.Invariants.{first_states_fault, IsInvariant}
use Rattle.result_cache.specs.Forms.{form_of, is_form_number, magic}
use Rattle.result_cache.specs.declared.cache_form.CacheForm.{CacheForm}
use Rattle.result_cache.specs.declared.cache_form.CacheForm.TheVariants.{First, Second}
use Rattle.result_cache.specs.CacheFile.{counted_entries, entries_standing, entry_field, fault_inside, first_cache_fault, invariant_field, key_field, magic_tests}
use Rattle.result_cache.specs.Entries.{AreEntriesBehind, Entry, is_among, keys_of}
use Rattle.invariant_codec.specs.Parses.{many}
use Rattle.result_cache.specs.Parses.{Parse, field, sized_field}
use Rattle.result_cache.specs.Spelling.{entry_bytes, file_bytes, IsCacheFile, sized_bytes}
use Rattle.result_cache.specs.declared.cache_fault.CacheFault.{CacheFault}
use Rattle.result_cache.specs.declared.cache_fault.CacheFault.TheVariants.{Form}

-- A value is read back, and this stands after it.
record ReadsBack {X : Type 0} (bytes : List ℕ) (parse : Parse X) (x : X) (rest : List ℕ) : Type 0 where
  passed : first_of parse.tests ≡ None
  value : parse.value ≡ x
  behind : drop parse.next bytes ≡ rest
  inside : parse.next ≤ length bytes

one_test : (test : Bool) (fault : CacheFault) → test ≡ true → first_of (must test fault ∷ []) ≡ None
one_test test fault e = first_of-none _ [] ((must_hold test fault).1 e) ∙ first_of-nil

test_before : (test : Bool) (fault : CacheFault) (tests : List (Option CacheFault)) → test ≡ true
    → first_of tests ≡ None → first_of (must test fault ∷ tests) ≡ None
test_before test fault tests e passed = first_of-none _ tests ((must_hold test fault).1 e) ∙ passed

field_inside : (bytes : List ℕ) (at size : ℕ) (tests : List (Option CacheFault)) → at + size ≤ length bytes
    → first_of tests ≡ None → first_of (field bytes at size ∷ tests) ≡ None
unfolding field
field_inside bytes at size tests inside passed = test_before _ _ tests (le-leb _ _ inside) passed

-- ---- entries

sized_again : (bytes : List ℕ) (at : ℕ) (text rest : List ℕ) → length bytes < 2 ^ 32
    → drop at bytes ≡ sized_bytes text ++ rest → ReadsBack bytes (sized_field bytes at) text rest
unfolding sized_field u32_at
sized_again bytes at text rest short there =
    let part = little_bytes 4 (length text) in
    let four = length-little_bytes 4 (length text) in
    let begun : drop at bytes ≡ part ++ (text ++ rest) = there ∙ append_assoc part text rest in
    let first : at + 4 ≤ length bytes = omega (arith, lies bytes at part (text ++ rest) begun (omega (arith, four)), four) in
    let start : drop (at + 4) bytes ≡ text ++ rest = after bytes at (at + 4) part (text ++ rest) begun (omega (arith, four)) in
    let long : at + 4 + length text ≤ length bytes =
    omega (arith, ap length start, length-append text rest, length-drop (at + 4) bytes, first) in
    let size : u32_at bytes at ≡ length text = number_read 4 bytes at (length text) (text ++ rest) (omega (arith, short, long)) begun in
    record {
      passed = field_inside bytes at 4 _ first (field_inside bytes (at + 4) (u32_at bytes at) [] (rw size long) first_of-nil);
      value = ap (λ (n : ℕ). take n (drop (at + 4) bytes)) size ∙ ap (take (length text)) start ∙ take_at text rest (length text) refl;
      behind = ap (λ (n : ℕ). drop (at + 4 + n) bytes) size ∙ after bytes (at + 4) (at + 4 + length text) text rest start refl;
      inside = rw size long;
    }

entry_again : (bytes : List ℕ) (before : List Entry) (at : ℕ) (e : Entry) (rest : List ℕ) → length bytes < 2 ^ 32
    → is_among (keys_of before) e.0 ≡ false → IsInvariant e.1 → drop at bytes ≡ entry_bytes e ++ rest
    → ReadsBack bytes (entry_field bytes before at) e rest
unfolding entry_field key_field invariant_field entry_bytes
entry_again bytes before at e rest short new is there =
    let key = sized_field bytes at in
    let invariant = sized_field bytes key.next in
    let one = sized_again bytes at e.0 (sized_bytes e.1 ++ rest) short
    (there ∙ append_assoc (sized_bytes e.0) (sized_bytes e.1) rest) in
    let two = sized_again bytes key.next e.1 rest short one.behind in
    let none : first_states_fault invariant.value ≡ None = ap first_states_fault two.value ∙ is in
    let other : not (is_among (keys_of before) key.value) ≡ true =
    ap (λ (k : List ℕ). not (is_among (keys_of before) k)) one.value ∙ ap not new in
    record {
      passed =
          first_of-append_none (key.tests ++ (must (not (is_among (keys_of before) key.value)) (Form (at + 4)) ∷ [])) _
          (first_of-append_none key.tests _ one.passed ∙ one_test _ _ other)
          ∙ first_of-append_none invariant.tests _ two.passed
          ∙ first_of-none _ [] (ap (option_map (fault_inside (key.next + 4))) none) ∙ first_of-nil;
      value = ap₂ (λ (k i : List ℕ). (k, i)) one.value two.value;
      behind = two.behind;
      inside = two.inside;
    }

many_again : (bytes : List ℕ) (before entries : List Entry) (at : ℕ) (rest : List ℕ) → length bytes < 2 ^ 32
    → AreEntriesBehind (keys_of before) entries → at ≤ length bytes → drop at bytes ≡ flat_map entry_bytes entries ++ rest
    → ReadsBack bytes (many (entry_field bytes) before (length entries) at) entries rest
unfolding many
many_again bytes before [] at rest short are low there =
    record { passed = first_of-nil; value = refl; behind = there; inside = low }
many_again bytes before (e ∷ es) at rest short are low there =
    let split : drop at bytes ≡ entry_bytes e ++ (flat_map entry_bytes es ++ rest) =
    there ∙ ap (λ (t : List ℕ). t ++ rest) (flat_map-cons entry_bytes e es)
    ∙ append_assoc (entry_bytes e) (flat_map entry_bytes es) rest in
    let first = entry_field bytes before at in
    let one = entry_again bytes before at e (flat_map entry_bytes es ++ rest) short are.0 are.1 split in
    let keys : keys_of before ++ e.0 ∷ [] ≡ keys_of (before ++ e ∷ []) = sym (map-append (λ (it : Entry). it.0) before (e ∷ [])) in
    let others : ReadsBack bytes (many (entry_field bytes) (before ++ first.value ∷ []) (length es) first.next) es rest =
    subst (λ (it : Entry). ReadsBack bytes (many (entry_field bytes) (before ++ it ∷ []) (length es) first.next) es rest) (sym one.value)
    (many_again bytes (before ++ e ∷ []) es first.next rest short
    (subst (λ (ks : List (List ℕ)). AreEntriesBehind ks es) keys are.2) one.inside one.behind) in
    record {
      passed = first_of-append_none first.tests _ one.passed ∙ others.passed;
      value = ap₂ (λ (it : Entry) (rest : List Entry). it ∷ rest) one.value others.value;
      behind = others.behind;
      inside = others.inside;
    }

-- ---- the file

magic_again : (form : CacheForm) (bytes rest : List ℕ) → bytes ≡ magic form ++ rest → first_of (magic_tests bytes) ≡ None
unfolding magic_tests
magic_again First bytes rest there =
    let long : 4 ≤ length bytes = omega (arith, lies bytes 0 (magic First) rest there (omega arith)) in
    field_inside bytes 0 4 _ long
    (test_before (slice_index bytes 0 == 67) _ _ (rw there refl) (test_before (slice_index bytes 1 == 67) _ _ (rw there refl)
    (test_before (slice_index bytes 2 == 75) _ _ (rw there refl) (one_test (is_form_number (slice_index bytes 3)) _ (rw there refl)))))
magic_again Second bytes rest there =
    let long : 4 ≤ length bytes = omega (arith, lies bytes 0 (magic Second) rest there (omega arith)) in
    field_inside bytes 0 4 _ long
    (test_before (slice_index bytes 0 == 67) _ _ (rw there refl) (test_before (slice_index bytes 1 == 67) _ _ (rw there refl)
    (test_before (slice_index bytes 2 == 75) _ _ (rw there refl) (one_test (is_form_number (slice_index bytes 3)) _ (rw there refl)))))

form_again : (form : CacheForm) (bytes rest : List ℕ) → bytes ≡ magic form ++ rest → form_of bytes ≡ form
unfolding form_of
form_again First bytes rest there = rw there refl
form_again Second bytes rest there = rw there refl

behind_magic : (form : CacheForm) (rest : List ℕ) → drop 4 (magic form ++ rest) ≡ rest
behind_magic First rest = refl
behind_magic Second rest = refl

-- Each entry has a byte at least.
entry_long : (e : Entry) → 1 ≤ length (entry_bytes e)
unfolding entry_bytes
entry_long e =
    omega (
      arith,
      length-append (sized_bytes e.0) (sized_bytes e.1),
      length-append (little_bytes 4 (length e.0)) e.0,
      length-little_bytes 4 (length e.0),
    )

entries_few : (entries : List Entry) → length entries ≤ length (flat_map entry_bytes entries)
entries_few [] = omega arith
entries_few (e ∷ es) =
    omega (
      arith,
      entries_few es,
      entry_long e,
      ap length (flat_map-cons entry_bytes e es),
      length-append (entry_bytes e) (flat_map entry_bytes es),
    )

record CountedAgain (bytes : List ℕ) (entries : List Entry) : Type 0 where
  passed : first_of (counted_entries bytes).tests ≡ None
  value : entries_standing bytes ≡ entries

counted_again : (bytes : List ℕ) (entries : List Entry) → length bytes < 2 ^ 32 → AreEntriesBehind [] entries
    → drop 4 bytes ≡ little_bytes 4 (length entries) ++ flat_map entry_bytes entries → CountedAgain bytes entries
unfolding counted_entries u32_at
counted_again bytes entries short are there =
    let part = little_bytes 4 (length entries) in
    let all = flat_map entry_bytes entries in
    let four = length-little_bytes 4 (length entries) in
    let first : 8 ≤ length bytes = omega (arith, lies bytes 4 part all there (omega (arith, four)), four) in
    let start : drop 8 bytes ≡ all = after bytes 4 8 part all there (omega (arith, four)) in
    let few : length entries < 2 ^ 32 = omega (arith, entries_few entries, ap length start, length-drop 8 bytes, short) in
    let count : u32_at bytes 4 ≡ length entries = number_read 4 bytes 4 (length entries) all few there in
    let found = many (entry_field bytes) [] (u32_at bytes 4) 8 in
    let its : ReadsBack bytes found entries [] =
    subst (λ (n : ℕ). ReadsBack bytes (many (entry_field bytes) [] n 8) entries []) (sym count)
    (many_again bytes [] entries 8 [] short are first (start ∙ sym (append-nil all))) in
    let ends : length bytes ≤ found.next = omega (arith, ap length its.behind, length-drop found.next bytes) in
    record {
      passed = field_inside bytes 4 4 _ first (first_of-append_none found.tests _ its.passed ∙ one_test _ _ (le-leb _ _ ends));
      value = its.value;
    }

pub record FileAgain (form : CacheForm) (entries : List Entry) (bytes : List ℕ) : Type 0 where
  pub passed : first_cache_fault bytes ≡ None
  pub value : entries_standing bytes ≡ entries
  pub form_is : form_of bytes ≡ form

pub file_again : (form : CacheForm) (entries : List Entry) (bytes : List ℕ) → IsCacheFile form entries bytes
    → FileAgain form entries bytes
unfolding first_cache_fault file_bytes
file_again form entries bytes is =
    let there = sym is.same in
    let rest = little_bytes 4 (length entries) ++ flat_map entry_bytes entries in
    let counted = counted_again bytes entries (omega (arith, is.size)) is.are (ap (drop 4) there ∙ behind_magic form rest) in
    record {
      passed = test_before _ _ _ (le-leb _ _ is.size)
          (first_of-append_none (magic_tests bytes) _ (magic_again form bytes rest there) ∙ counted.passed);
      value = counted.value;
      form_is = form_again form bytes rest there;
    }
