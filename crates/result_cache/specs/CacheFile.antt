-- The tests of a cache file, in order, and the entries of a file that passes them.
use Rattle.std.specs.Prelude.{ℕ, ◌+◌, not, ◌==◌, nat_le, List, [], ◌∷◌, ◌++◌, length, slice_index, Option, option_map}
use Rattle.cc_base.specs.LittleEndian.{u32_at}
use Rattle.cc_base.specs.Tests.{first_of, must}
use Rattle.invariant_codec.specs.Invariants.{fault_at, first_states_fault}
use Rattle.invariant_codec.specs.declared.fault.InvFault.{InvFault}
use Rattle.result_cache.specs.Entries.{Entry, is_among, keys_of}
use Rattle.result_cache.specs.FirstForm.{entries_told}
use Rattle.result_cache.specs.Forms.{form_of, is_form_number}
use Rattle.invariant_codec.specs.Parses.{many}
use Rattle.result_cache.specs.Parses.{Parse, field, sized_field}
use Rattle.result_cache.specs.declared.cache_fault.CacheFault.{CacheFault}
use Rattle.result_cache.specs.declared.cache_fault.CacheFault.TheVariants.{Form, Large, Version}

-- The most bytes of a cache file.
abbrev pub MAX_CACHE_BYTES : ℕ
MAX_CACHE_BYTES = 67_108_864

-- ---- entries

-- A key, which is none of those of the entries before it.
unfoldable pub key_field : List Entry → List ℕ → ℕ → Parse (List ℕ)
key_field before bytes at =
    let key = sized_field bytes at in
    record {
      tests = key.tests ++ (must (not (is_among (keys_of before) key.value)) (Form (at + 4)) ∷ []);
      value = key.value;
      next = key.next;
    }

-- A fault of an invariant whose bytes begin at this offset of the file.
abbrev pub fault_inside : ℕ → InvFault → CacheFault
fault_inside start fault = Form (start + fault_at fault)

-- Bytes that are an invariant.
unfoldable pub invariant_field : List ℕ → ℕ → Parse (List ℕ)
invariant_field bytes at =
    let it = sized_field bytes at in
    record {
      tests = it.tests ++ (option_map (fault_inside (at + 4)) (first_states_fault it.value) ∷ []);
      value = it.value;
      next = it.next;
    }

unfoldable pub entry_field : List ℕ → List Entry → ℕ → Parse Entry
entry_field bytes before at =
    let key = key_field before bytes at in
    let invariant = invariant_field bytes key.next in
    record { tests = key.tests ++ invariant.tests; value = (key.value, invariant.value); next = invariant.next }

abbrev pub entry_fields : ℕ → List ℕ → ℕ → Parse (List Entry)
entry_fields count bytes at = many (entry_field bytes) [] count at

-- ---- the file

-- The four bytes `CCK1` or `CCK2`.
unfoldable pub magic_tests : List ℕ → List (Option CacheFault)
magic_tests bytes =
    field bytes 0 4
    ∷ must (slice_index bytes 0 == 67) (Form 0)
    ∷ must (slice_index bytes 1 == 67) (Form 1)
    ∷ must (slice_index bytes 2 == 75) (Form 2)
    ∷ must (is_form_number (slice_index bytes 3)) Version
    ∷ []

-- The entries, after their count. Nothing stands after the last.
unfoldable pub counted_entries : List ℕ → Parse (List Entry)
counted_entries bytes =
    let entries = entry_fields (u32_at bytes 4) bytes 8 in
    record {
      tests = field bytes 4 4 ∷ (entries.tests ++ (must (nat_le (length bytes) entries.next) (Form entries.next) ∷ []));
      value = entries.value;
      next = entries.next;
    }

-- The first fault of a cache file, or none where it is one.
unfoldable pub first_cache_fault : List ℕ → Option CacheFault
first_cache_fault bytes =
    first_of (must (nat_le (length bytes) MAX_CACHE_BYTES) Large ∷ (magic_tests bytes ++ (counted_entries bytes).tests))

-- The entries as they stand in a file without a fault.
abbrev pub entries_standing : List ℕ → List Entry
entries_standing bytes = (counted_entries bytes).value

-- The entries of such a file, with the keys of a file of the second form.
unfoldable pub entries_of : List ℕ → List Entry
entries_of bytes = entries_told (form_of bytes) (entries_standing bytes)
