-- A cache file whose tests are passed is the file of the entries that stand in it.
use Rattle.std.proofs.Common.{◌≡◌, ℕ, zero, suc, ◌+◌, ◌≤◌, Bool, true, false, List, [], ◌∷◌, ◌++◌, length, take, drop, None, refl, sym, subst, ap, ◌∙◌, arith, length-drop, drop-drop, append_assoc, append-nil}
use Rattle.std.specs.Prelude.{nat_le, not, slice_index, ◌==◌, ◌||◌, option_map, Option, Some}
use Rattle.std.specs.List.{flat_map}
use Rattle.std.proofs.lemmas.Bool.{leb-true, eqb-true}
use Rattle.std.proofs.lemmas.List.{length-take-le, take-append-drop, drop_all, map-append}
use Rattle.std.proofs.lemmas.List.Concat.{flat_map-cons}
use Rattle.byteorder.specs.Endian.{little_bytes}
use Rattle.cc_base.specs.LittleEndian.{IsBytes, u32_at}
use Rattle.cc_base.specs.Tests.{first_of, must}
use Rattle.cc_base.proofs.TestLemmas.{none_before, none_behind, none_here, must_hold}
use Rattle.invariant_codec.proofs.Stands.{byte_stands, number_stands}
use Rattle.invariant_codec.specs.Invariants.{first_states_fault, IsInvariant}
use Rattle.result_cache.specs.Forms.{form_numbered, form_of, is_form_number, magic}
use Rattle.result_cache.specs.CacheFile.{counted_entries, entries_standing, entry_field, fault_inside, first_cache_fault, invariant_field, key_field, magic_tests, MAX_CACHE_BYTES}
use Rattle.result_cache.specs.Entries.{AreEntriesBehind, Entry, is_among, keys_of}
use Rattle.invariant_codec.specs.Parses.{many}
use Rattle.result_cache.specs.Parses.{field, sized_field}
use Rattle.result_cache.specs.Spelling.{entry_bytes, file_bytes, IsCacheFile, sized_bytes}
use Rattle.result_cache.specs.declared.cache_fault.CacheFault.{CacheFault}
use Rattle.result_cache.specs.declared.cache_fault.CacheFault.TheVariants.{Form, Large, Version}

field_lies : (bytes : List ℕ) (at size : ℕ) → field bytes at size ≡ None → at + size ≤ length bytes
unfolding field
field_lies bytes at size none = leb-true _ _ ((must_hold _ _).0 none)

holds : (test : Bool) (fault : CacheFault) → must test fault ≡ None → test ≡ true
holds test fault none = (must_hold test fault).0 none

is_false : (b : Bool) → not b ≡ true → b ≡ false
is_false true e = absurd cc
is_false false e = refl

none_of : {X Y : Type 0} (f : X → Y) (x : Option X) → option_map f x ≡ None → x ≡ None
none_of f None none = refl
none_of f (Some x) none = absurd cc

-- ---- entries

sized_taken : (bytes : List ℕ) (at : ℕ) → IsBytes bytes → first_of (sized_field bytes at).tests ≡ None
    → drop at bytes ≡ sized_bytes (sized_field bytes at).value ++ drop (sized_field bytes at).next bytes
unfolding sized_field u32_at
sized_taken bytes at fits passed =
    let size = u32_at bytes at in
    let t1 = field bytes at 4 in
    let t2 = field bytes (at + 4) size in
    let one = field_lies bytes at 4 (none_here t1 (t2 ∷ []) passed) in
    let two = field_lies bytes (at + 4) size (none_here t2 [] (none_behind (t1 ∷ []) (t2 ∷ []) passed)) in
    let text = take size (drop (at + 4) bytes) in
    let long : length text ≡ size =
    length-take-le size (drop (at + 4) bytes) (omega (arith, length-drop (at + 4) bytes, two)) in
    number_stands 4 bytes at size fits one refl
    ∙ ap (λ (n : ℕ). little_bytes 4 n ++ drop (at + 4) bytes) (sym long)
    ∙ ap (λ (t : List ℕ). little_bytes 4 (length text) ++ t)
    (sym (take-append-drop size (drop (at + 4) bytes)) ∙ ap (λ (t : List ℕ). text ++ t) (drop-drop size (at + 4) bytes))
    ∙ sym (append_assoc (little_bytes 4 (length text)) text (drop (at + 4 + size) bytes))

-- What the tests of an entry say where they are passed.
pub record EntryPassed (bytes : List ℕ) (before : List Entry) (at : ℕ) : Type 0 where
  pub key : first_of (sized_field bytes at).tests ≡ None
  pub invariant : first_of (sized_field bytes (sized_field bytes at).next).tests ≡ None
  pub new : is_among (keys_of before) (sized_field bytes at).value ≡ false
  pub is : IsInvariant (sized_field bytes (sized_field bytes at).next).value

pub entry_passed : (bytes : List ℕ) (before : List Entry) (at : ℕ) → first_of (entry_field bytes before at).tests ≡ None
    → EntryPassed bytes before at
unfolding entry_field key_field invariant_field
entry_passed bytes before at passed =
    let key = sized_field bytes at in
    let invariant = sized_field bytes key.next in
    let new = must (not (is_among (keys_of before) key.value)) (Form (at + 4)) in
    let good = option_map (fault_inside (key.next + 4)) (first_states_fault invariant.value) in
    let rest = invariant.tests ++ (good ∷ []) in
    let first = none_before (key.tests ++ (new ∷ [])) rest passed in
    let second = none_behind (key.tests ++ (new ∷ [])) rest passed in
    record {
      key = none_before key.tests (new ∷ []) first;
      invariant = none_before invariant.tests (good ∷ []) second;
      new = is_false _ (holds _ _ (none_here new [] (none_behind key.tests (new ∷ []) first)));
      is = none_of _ _ (none_here good [] (none_behind invariant.tests (good ∷ []) second));
    }

record EntryTaken (bytes : List ℕ) (before : List Entry) (at : ℕ) : Type 0 where
  there : drop at bytes ≡ entry_bytes (entry_field bytes before at).value ++ drop (entry_field bytes before at).next bytes
  new : is_among (keys_of before) (entry_field bytes before at).value.0 ≡ false
  is : IsInvariant (entry_field bytes before at).value.1

entry_taken : (bytes : List ℕ) (before : List Entry) (at : ℕ) → IsBytes bytes
    → first_of (entry_field bytes before at).tests ≡ None → EntryTaken bytes before at
unfolding entry_field key_field invariant_field entry_bytes
entry_taken bytes before at fits passed =
    let key = sized_field bytes at in
    let invariant = sized_field bytes key.next in
    let its = entry_passed bytes before at passed in
    record {
      there = sized_taken bytes at fits its.key
          ∙ ap (λ (t : List ℕ). sized_bytes key.value ++ t) (sized_taken bytes key.next fits its.invariant)
          ∙ sym (append_assoc (sized_bytes key.value) (sized_bytes invariant.value) (drop invariant.next bytes));
      new = its.new;
      is = its.is;
    }

record ManyTaken (bytes : List ℕ) (before : List Entry) (count at : ℕ) : Type 0 where
  there : drop at bytes ≡ flat_map entry_bytes (many (entry_field bytes) before count at).value
      ++ drop (many (entry_field bytes) before count at).next bytes
  are : AreEntriesBehind (keys_of before) (many (entry_field bytes) before count at).value
  long : length (many (entry_field bytes) before count at).value ≡ count

many_taken : (bytes : List ℕ) (before : List Entry) (count at : ℕ) → IsBytes bytes
    → first_of (many (entry_field bytes) before count at).tests ≡ None → ManyTaken bytes before count at
unfolding many
many_taken bytes before zero at fits passed = record { there = refl; are = tt; long = refl }
many_taken bytes before (suc count) at fits passed =
    let first = entry_field bytes before at in
    let behind = before ++ first.value ∷ [] in
    let others = many (entry_field bytes) behind count first.next in
    let one = entry_taken bytes before at fits (none_before first.tests others.tests passed) in
    let rest = many_taken bytes behind count first.next fits (none_behind first.tests others.tests passed) in
    let keys : keys_of behind ≡ keys_of before ++ first.value.0 ∷ [] = map-append (λ (e : Entry). e.0) before (first.value ∷ []) in
    record {
      there = one.there ∙ ap (λ (t : List ℕ). entry_bytes first.value ++ t) rest.there
          ∙ sym (append_assoc (entry_bytes first.value) (flat_map entry_bytes others.value) (drop others.next bytes))
          ∙ ap (λ (t : List ℕ). t ++ drop others.next bytes) (sym (flat_map-cons entry_bytes first.value others.value));
      are = (one.new, one.is, subst (λ (ks : List (List ℕ)). AreEntriesBehind ks others.value) keys rest.are);
      long = ap suc rest.long;
    }

-- ---- the file

-- The number of a form is the last byte of its magic.
number_form : (number : ℕ) → is_form_number number ≡ true → magic (form_numbered number) ≡ 67 ∷ 67 ∷ 75 ∷ number ∷ []
number_form number e = by_first (number == 0x31) (number == 0x32) refl refl e
  where
    by_first : (one two : Bool) → (number == 0x31) ≡ one → (number == 0x32) ≡ two → (one || two) ≡ true
        → magic (form_numbered number) ≡ 67 ∷ 67 ∷ 75 ∷ number ∷ []
    by_first true two e1 e2 e = rw e1 (ap (λ (n : ℕ). 67 ∷ 67 ∷ 75 ∷ n ∷ []) (sym (eqb-true number 0x31 e1)))
    by_first false true e1 e2 e = rw e1 (ap (λ (n : ℕ). 67 ∷ 67 ∷ 75 ∷ n ∷ []) (sym (eqb-true number 0x32 e2)))
    by_first false false e1 e2 e = absurd (cc)

magic_taken : (bytes : List ℕ) → first_of (magic_tests bytes) ≡ None → bytes ≡ magic (form_of bytes) ++ drop 4 bytes
unfolding magic_tests form_of
magic_taken bytes passed =
    let t0 = field bytes 0 4 in
    let t1 = must (slice_index bytes 0 == 67) (Form 0) in
    let t2 = must (slice_index bytes 1 == 67) (Form 1) in
    let t3 = must (slice_index bytes 2 == 75) (Form 2) in
    let t4 = must (is_form_number (slice_index bytes 3)) Version in
    let r1 = none_behind (t0 ∷ []) (t1 ∷ t2 ∷ t3 ∷ t4 ∷ []) passed in
    let r2 = none_behind (t1 ∷ []) (t2 ∷ t3 ∷ t4 ∷ []) r1 in
    let r3 = none_behind (t2 ∷ []) (t3 ∷ t4 ∷ []) r2 in
    let r4 = none_behind (t3 ∷ []) (t4 ∷ []) r3 in
    let long = field_lies bytes 0 4 (none_here t0 _ passed) in
    let one = byte_stands bytes 0 67 (omega (arith, long)) (eqb-true _ 67 (holds _ _ (none_here t1 _ r1))) in
    let two = byte_stands bytes 1 67 (omega (arith, long)) (eqb-true _ 67 (holds _ _ (none_here t2 _ r2))) in
    let three = byte_stands bytes 2 75 (omega (arith, long)) (eqb-true _ 75 (holds _ _ (none_here t3 _ r3))) in
    let four = byte_stands bytes 3 (slice_index bytes 3) (omega (arith, long)) refl in
    let letters : bytes ≡ 67 ∷ 67 ∷ 75 ∷ slice_index bytes 3 ∷ drop 4 bytes = cc in
    letters ∙ ap (λ (t : List ℕ). t ++ drop 4 bytes) (sym (number_form (slice_index bytes 3) (holds _ _ (none_here t4 _ r4))))

record CountedTaken (bytes : List ℕ) : Type 0 where
  there : drop 4 bytes ≡ little_bytes 4 (length (entries_standing bytes)) ++ flat_map entry_bytes (entries_standing bytes)
  are : AreEntriesBehind [] (entries_standing bytes)

counted_taken : (bytes : List ℕ) → IsBytes bytes → first_of (counted_entries bytes).tests ≡ None → CountedTaken bytes
unfolding counted_entries u32_at
counted_taken bytes fits passed =
    let count = u32_at bytes 4 in
    let entries = many (entry_field bytes) [] count 8 in
    let head = field bytes 4 4 in
    let end = must (nat_le (length bytes) entries.next) (Form entries.next) in
    let behind = none_behind (head ∷ []) (entries.tests ++ (end ∷ [])) passed in
    let its = many_taken bytes [] count 8 fits (none_before entries.tests (end ∷ []) behind) in
    let ends = leb-true _ _ (holds _ _ (none_here end [] (none_behind entries.tests (end ∷ []) behind))) in
    let inside = field_lies bytes 4 4 (none_here head (entries.tests ++ (end ∷ [])) passed) in
    let nothing : drop entries.next bytes ≡ [] = drop_all entries.next bytes ends in
    let all : drop 8 bytes ≡ flat_map entry_bytes entries.value =
    its.there ∙ ap (λ (t : List ℕ). flat_map entry_bytes entries.value ++ t) nothing ∙ append-nil (flat_map entry_bytes entries.value) in
    record {
      there = number_stands 4 bytes 4 count fits inside refl
          ∙ ap (λ (n : ℕ). little_bytes 4 n ++ drop 8 bytes) (sym its.long)
          ∙ ap (λ (t : List ℕ). little_bytes 4 (length entries.value) ++ t) all;
      are = its.are;
    }

pub file_taken : (bytes : List ℕ) → IsBytes bytes → first_cache_fault bytes ≡ None
    → IsCacheFile (form_of bytes) (entries_standing bytes) bytes
unfolding first_cache_fault file_bytes
file_taken bytes fits passed =
    let size = must (nat_le (length bytes) MAX_CACHE_BYTES) Large in
    let rest = magic_tests bytes ++ (counted_entries bytes).tests in
    let behind = none_behind (size ∷ []) rest passed in
    let counted = counted_taken bytes fits (none_behind (magic_tests bytes) (counted_entries bytes).tests behind) in
    record {
      are = counted.are;
      size = leb-true _ _ (holds _ _ (none_here size rest passed));
      same = sym (magic_taken bytes (none_before (magic_tests bytes) (counted_entries bytes).tests behind)
          ∙ ap (λ (t : List ℕ). magic (form_of bytes) ++ t) counted.there);
    }
