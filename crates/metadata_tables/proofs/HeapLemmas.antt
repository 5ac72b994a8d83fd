-- What is kept of a heap, and its items.
use Rattle.std.proofs.Common.{length-drop, subst, ◌≡◌, ℕ, ◌+◌, ◌-◌, ◌≤◌, List, length, take, drop, Option, Some, None, refl, sym, ap, ◌∙◌, arith}
use Rattle.std.specs.Prelude.{option_map, codes, is_some, IfSome}
use Rattle.cc_base.specs.Tests.{first_of}
use Rattle.cc_base.proofs.TestLemmas.{first_of-append_none, first_of-append_some, none_before, none_behind}
use Rattle.metadata_tables.specs.declared.fault.TableFault.{TableFault}
use Rattle.std.proofs.lemmas.List.{length-take, length-take-le, drop-drop, drop-take, take-take}
use Rattle.metadata_tables.specs.declared.root.Stream.{Stream}
use Rattle.cc_base.specs.declared.compressed.Compressed.{Compressed}
use Rattle.metadata_tables.specs.Root.{zero_ended, stream, streams_tests, bytes_of, heap}
use Rattle.metadata_tables.specs.Layout.{start_of}
use Rattle.metadata_tables.specs.Heaps.{whole_length, item_of, string_at, blob_at, blob_offset, user_string_at, StandsAt}
use Rattle.metadata_tables.specs.TableTests.{table_tests, tables_tests, first_table_fault}
use Rattle.metadata_tables.proofs.HeaderLemmas.{stream-within}

pub heap-is : (md name : List ℕ) (s : Option Stream) (bytes : List ℕ) → stream md name ≡ s → bytes ≡ bytes_of md s → bytes ≡ heap md name
unfolding heap
heap-is md name s bytes e f = f ∙ ap (bytes_of md) (sym e)

-- The streams are in order where all is.
pub streams-sound : (md : List ℕ) → first_table_fault md ≡ None → first_of (streams_tests md) ≡ None
unfolding first_table_fault table_tests
streams-sound md e = none_before (streams_tests md) (tables_tests md) e

pub tables-sound : (md : List ℕ) → first_table_fault md ≡ None → first_of (tables_tests md) ≡ None
unfolding first_table_fault table_tests
tables-sound md e = none_behind (streams_tests md) (tables_tests md) e

bytes-end : (md : List ℕ) (o : Option Stream) → ((s : Stream) → o ≡ Some s → s.at + s.size ≤ length md) → start_of o + length (bytes_of md o) ≤ length md
bytes-end md None h = omega arith
bytes-end md (Some s) h = omega (arith, h s refl, length-take s.size (drop s.at md))

-- A heap ends in the metadata.
pub heap-end : (md name : List ℕ) → first_table_fault md ≡ None → start_of (stream md name) + length (heap md name) ≤ length md
unfolding heap
heap-end md name e = bytes-end md (stream md name) (λ s found. stream-within md name s (streams-sound md e) found)

pub string_at-is : (md strings rest : List ℕ) (index : ℕ) (r : Option (List ℕ)) → strings ≡ heap md (codes "#Strings")
    → rest ≡ drop index strings → r ≡ zero_ended rest → r ≡ string_at md index
unfolding string_at
string_at-is md strings rest index r kept from is = is ∙ ap zero_ended (from ∙ ap (drop index) kept)

pub blob_at-is : (md blob rest : List ℕ) (index : ℕ) (r : Option (List ℕ)) → blob ≡ heap md (codes "#Blob")
    → rest ≡ drop index blob → r ≡ item_of rest → r ≡ blob_at md index
unfolding blob_at
blob_at-is md blob rest index r kept from is = is ∙ ap item_of (from ∙ ap (drop index) kept)

pub user_string_at-is : (md strings rest : List ℕ) (index : ℕ) (r : Option (List ℕ)) → strings ≡ heap md (codes "#US")
    → rest ≡ drop index strings → r ≡ item_of rest → r ≡ user_string_at md index
unfolding user_string_at
user_string_at-is md strings rest index r kept from is = is ∙ ap item_of (from ∙ ap (drop index) kept)

pub blob_offset-is : (md blob rest : List ℕ) (index begin : ℕ) (o : Option Compressed) → blob ≡ heap md (codes "#Blob") → begin ≡ start_of (stream md (codes "#Blob"))
    → rest ≡ drop index blob → o ≡ whole_length rest → option_map (λ prefix. begin + index + prefix.width) o ≡ blob_offset md index
unfolding blob_offset
blob_offset-is md blob rest index begin o kept start from is =
    let prefix : o ≡ whole_length (drop index (heap md (codes "#Blob"))) = is ∙ ap whole_length (from ∙ ap (drop index) kept) in
    rw (prefix, start) refl

-- The first fault of all.
pub fault-streams : (md : List ℕ) (fault : TableFault) → first_of (streams_tests md) ≡ Some fault → first_table_fault md ≡ Some fault
unfolding first_table_fault table_tests
fault-streams md fault e = first_of-append_some (streams_tests md) (tables_tests md) fault e

pub fault-tables : (md : List ℕ) (o : Option TableFault) → first_of (streams_tests md) ≡ None → first_of (tables_tests md) ≡ o → first_table_fault md ≡ o
unfolding first_table_fault table_tests
fault-tables md o e f = first_of-append_none (streams_tests md) (tables_tests md) e ∙ f

pub start-is : (md name : List ℕ) (s : Stream) → stream md name ≡ Some s → s.at ≡ start_of (stream md name)
start-is md name s e = rw e refl

-- ---- where an item stands

-- A part of a part of some bytes.
part-of : (md : List ℕ) (at size index n len : ℕ) → index + n + len ≤ size
    → take len (drop n (drop index (take size (drop at md)))) ≡ take len (drop (at + index + n) md)
part-of md at size index n len h =
    let m : ℕ = size - (index + n) in
    let split : size ≡ (index + n) + m = omega arith in
    let fits : len ≤ m = omega arith in
    let place : at + (index + n) ≡ at + index + n = omega arith in
    ap (take len) (drop-drop n index (take size (drop at md)))
    ∙ ap (λ (k : ℕ). take len (drop (index + n) (take k (drop at md)))) split
    ∙ ap (take len) (drop-take (index + n) m (drop at md))
    ∙ take-take len m (drop (index + n) (drop at md)) fits
    ∙ ap (take len) (drop-drop (index + n) at md)
    ∙ ap (λ (k : ℕ). take len (drop k md)) place

-- As many bytes as an item has.
take-own : (xs item : List ℕ) (len : ℕ) → len ≤ length xs → item ≡ take len xs → item ≡ take (length item) xs
take-own xs item len h e =
    let same : length item ≡ len = ap length e ∙ length-take-le len xs h in
    e ∙ ap (λ (k : ℕ). take k xs) (sym same)

stands-in : (md : List ℕ) (o : Option Stream) (index : ℕ) (prefix : Compressed) → 1 ≤ prefix.width
    → prefix.width + prefix.number ≤ length (drop index (bytes_of md o)) → start_of o + length (bytes_of md o) ≤ length md
    → StandsAt md (start_of o + index + prefix.width) (take prefix.number (drop prefix.width (drop index (bytes_of md o))))
stands-in md None index prefix written whole within = absurd (omega (arith, length-drop index (bytes_of md None)))
stands-in md (Some s) index prefix written whole within =
    let long = length-drop index (bytes_of md (Some s)) in
    let size = length-take s.size (drop s.at md) in
    let behind = length-drop (s.at + index + prefix.width) md in
    take-own (drop (s.at + index + prefix.width) md) (take prefix.number (drop prefix.width (drop index (bytes_of md (Some s))))) prefix.number (omega arith)
    (part-of md s.at s.size index prefix.width prefix.number (omega arith))

blob_at-found : (md : List ℕ) (index : ℕ) (prefix : Compressed) → whole_length (drop index (heap md (codes "#Blob"))) ≡ Some prefix
    → blob_at md index ≡ Some (take prefix.number (drop prefix.width (drop index (heap md (codes "#Blob")))))
unfolding blob_at item_of
blob_at-found md index prefix e = rw e refl

-- The item stands at the place that is told.
pub stands-is : (md blob rest : List ℕ) (index begin : ℕ) (prefix : Compressed) → first_table_fault md ≡ None → blob ≡ heap md (codes "#Blob")
    → begin ≡ start_of (stream md (codes "#Blob")) → rest ≡ drop index blob → Some prefix ≡ whole_length rest → 1 ≤ prefix.width
    → prefix.width + prefix.number ≤ length rest → IfSome (blob_at md index) (λ item. StandsAt md (begin + index + prefix.width) item)
unfolding heap
stands-is md blob rest index begin prefix sound kept start from is written whole =
    let same : rest ≡ drop index (heap md (codes "#Blob")) = from ∙ ap (drop index) kept in
    let found = blob_at-found md index prefix (sym (is ∙ ap whole_length same)) in
    rw (found, start) (stands-in md (stream md (codes "#Blob")) index prefix written (subst (λ (xs : List ℕ). prefix.width + prefix.number ≤ length xs) same whole) (heap-end md (codes "#Blob") sound))

is_some-map : (f : Compressed → List ℕ) (o : Option Compressed) → is_some o ≡ is_some (option_map f o)
is_some-map f None = refl
is_some-map f (Some prefix) = refl

pub lent-is : (md blob rest : List ℕ) (index : ℕ) (o : Option Compressed) → blob ≡ heap md (codes "#Blob") → rest ≡ drop index blob → o ≡ whole_length rest
    → is_some o ≡ is_some (blob_at md index)
unfolding blob_at item_of
lent-is md blob rest index o kept from is =
    let same : rest ≡ drop index (heap md (codes "#Blob")) = from ∙ ap (drop index) kept in
    is_some-map (λ prefix. take prefix.number (drop prefix.width (drop index (heap md (codes "#Blob"))))) o
    ∙ ap (λ (p : Option Compressed). is_some (option_map (λ prefix. take prefix.number (drop prefix.width (drop index (heap md (codes "#Blob"))))) p)) (is ∙ ap whole_length same)
