-- The tests of the stream `#~`, where the stream is known.
use Rattle.std.proofs.Common.{◌≡◌, ℕ, ◌+◌, ◌*◌, List, [], ◌∷◌, ◌++◌, replicate, Option, Some, refl, ap, subst, ◌∙◌, arith}
use Rattle.std.specs.Prelude.{slice_index, Result, IfOk, codes}
use Rattle.metadata_tables.specs.declared.layout.Layout.{Layout}
use Rattle.metadata_tables.specs.Placed.{IsPlaced, IsLayoutOf}
use Rattle.std.specs.Option.{option_or}
use Rattle.cc_base.specs.LittleEndian.{u64_at}
use Rattle.cc_base.specs.Tests.{first_of}
use Rattle.cc_base.proofs.TestLemmas.{first_of-append}
use Rattle.metadata_tables.specs.declared.root.Stream.{Stream}
use Rattle.metadata_tables.specs.declared.fault.TableFault.{TableFault}
use Rattle.metadata_tables.specs.declared.fault.TableFault.TheVariants.{Short}
use Rattle.metadata_tables.specs.Tests.{fields}
use Rattle.metadata_tables.specs.Root.{stream}
use Rattle.metadata_tables.specs.Layout.{tables_at, tables_end, heap_sizes, valid, counts_at, present_below, row_counts, rows_at}
use Rattle.metadata_tables.specs.TableTests.{bits_tests, all_rows_tests, tables_tests}

-- The first of five faults.
abbrev pub first_of_five : Option TableFault → Option TableFault → Option TableFault → Option TableFault → Option TableFault → Option TableFault
first_of_five a b c d e = option_or (option_or (option_or (option_or a b) c) d) e

first_of-five : (a b c d e : List (Option TableFault))
    → first_of (a ++ b ++ c ++ d ++ e) ≡ first_of_five (first_of a) (first_of b) (first_of c) (first_of d) (first_of e)
first_of-five a b c d e = simp first_of-append

pub valid-is : (md : List ℕ) (s : Stream) → stream md (codes "#~") ≡ Some s → u64_at md (s.at + 8) ≡ valid md
unfolding valid tables_at
valid-is md s there = rw there refl

pub counts_at-is : (md : List ℕ) (s : Stream) → stream md (codes "#~") ≡ Some s → s.at + 24 ≡ counts_at md
unfolding counts_at tables_at
counts_at-is md s there = rw there refl

pub heap_sizes-is : (md : List ℕ) (s : Stream) → stream md (codes "#~") ≡ Some s → slice_index md (s.at + 6) ≡ heap_sizes md
unfolding heap_sizes tables_at
heap_sizes-is md s there = rw there refl

pub tables_at-is : (md : List ℕ) (s : Stream) → stream md (codes "#~") ≡ Some s → s.at ≡ tables_at md
unfolding tables_at
tables_at-is md s there = rw there refl

pub tables_end-is : (md : List ℕ) (s : Stream) → stream md (codes "#~") ≡ Some s → s.at + s.size ≡ tables_end md
unfolding tables_end
tables_end-is md s there = rw there refl

pub rows_at-is : (md : List ℕ) (s : Stream) (bits counts rows : ℕ) → stream md (codes "#~") ≡ Some s → bits ≡ u64_at md (s.at + 8)
    → counts ≡ s.at + 24 → rows ≡ counts + present_below bits 64 * 4 → rows ≡ rows_at md
unfolding rows_at
rows_at-is md s bits counts rows there same place after =
    let known : bits ≡ valid md = same ∙ valid-is md s there in
    let many : present_below bits 64 ≡ present_below (valid md) 64 = ap (λ (b : ℕ). present_below b 64) known in
    omega (arith, counts_at-is md s there, many)

-- The tests of the stream, over what is read of it.
pub tables_tests-is : (md : List ℕ) (s : Stream) (bits sorted counts rows : ℕ) → stream md (codes "#~") ≡ Some s
    → bits ≡ u64_at md (s.at + 8) → sorted ≡ s.at + 16 → counts ≡ s.at + 24 → rows ≡ counts + present_below bits 64 * 4
    → first_of (tables_tests md) ≡ first_of_five
    (first_of (fields (s.at + s.size) (λ at. Short at) s.at (4 ∷ 1 ∷ 1 ∷ 1 ∷ 1 ∷ 8 ∷ [])))
    (first_of (bits_tests bits (s.at + 8)))
    (first_of (fields (s.at + s.size) (λ at. Short at) sorted (8 ∷ [])))
    (first_of (fields (s.at + s.size) (λ at. Short at) counts (replicate (present_below bits 64) 4)))
    (first_of (all_rows_tests (s.at + s.size) (row_counts md) (slice_index md (s.at + 6)) rows))
unfolding tables_tests
tables_tests-is md s bits sorted counts rows there same sorted_is counts_is rows_is =
    let known : bits ≡ valid md = same ∙ valid-is md s there in
    let after : sorted ≡ tables_at md + 16 = sorted_is ∙ ap (λ (at : ℕ). at + 16) (tables_at-is md s there) in
    let behind : counts ≡ counts_at md = counts_is ∙ counts_at-is md s there in
    let begin : rows ≡ rows_at md = rows_at-is md s bits counts rows there same counts_is rows_is in
    rw (begin, behind, after, known, heap_sizes-is md s there, tables_end-is md s there, tables_at-is md s there)
    (first_of-five
    (fields (tables_end md) (λ at. Short at) (tables_at md) (4 ∷ 1 ∷ 1 ∷ 1 ∷ 1 ∷ 8 ∷ []))
    (bits_tests (valid md) (tables_at md + 8))
    (fields (tables_end md) (λ at. Short at) (tables_at md + 16) (8 ∷ []))
    (fields (tables_end md) (λ at. Short at) (counts_at md) (replicate (present_below (valid md) 64) 4))
    (all_rows_tests (tables_end md) (row_counts md) (heap_sizes md) (rows_at md)))

pub placed-is : (md : List ℕ) (r : Result Layout TableFault) (counts : List ℕ) (sizes rows : ℕ) → counts ≡ row_counts md → sizes ≡ heap_sizes md
    → rows ≡ rows_at md → IfOk r (IsPlaced counts sizes rows) → IfOk r (IsLayoutOf md)
placed-is md r counts sizes rows e f g h =
    subst (λ (x : ℕ). IfOk r (IsPlaced (row_counts md) (heap_sizes md) x)) g
    (subst (λ (x : ℕ). IfOk r (IsPlaced (row_counts md) x rows)) f
    (subst (λ (x : List ℕ). IfOk r (IsPlaced x sizes rows)) e h))
