-- What is kept of metadata that was read.
use Rattle.std.specs.Prelude.{◌≡◌, ℕ, List, None, codes}
use Rattle.cc_base.specs.Slices.{IsShort}
use Rattle.metadata_tables.specs.declared.layout.Layout.{Layout}
use Rattle.metadata_tables.specs.Heaps.{EndsTexts}
use Rattle.metadata_tables.specs.Layout.{start_of, row_counts, heap_sizes, rows_at, offsets, bases}
use Rattle.metadata_tables.specs.Root.{stream, heap}
use Rattle.metadata_tables.specs.TableTests.{first_table_fault}

-- The layout over these row counts and HeapSizes, where the rows begin at a place.
pub record IsPlaced (counts : List ℕ) (heap_sizes rows_at : ℕ) (layout : Layout) : Type 0 where
  pub counts_kept : layout.counts ≡ counts
  pub offsets_kept : layout.offsets ≡ offsets counts heap_sizes
  pub bases_kept : layout.bases ≡ bases counts heap_sizes rows_at

-- The layout of metadata.
abbrev pub IsLayoutOf : List ℕ → Layout → Type 0
IsLayoutOf md layout = IsPlaced (row_counts md) (heap_sizes md) (rows_at md) layout

-- These are the parts of metadata without a fault.
pub record ArePartsOf (md strings : List ℕ) (strings_end : ℕ) (blob : List ℕ) (blob_at : ℕ) (user_strings : List ℕ) (layout : Layout) : Type 0 where
  pub short : IsShort md
  pub sound : first_table_fault md ≡ None
  pub strings_kept : strings ≡ heap md (codes "#Strings")
  pub texts_end : EndsTexts strings strings_end
  pub blob_kept : blob ≡ heap md (codes "#Blob")
  pub blob_begin : blob_at ≡ start_of (stream md (codes "#Blob"))
  pub user_strings_kept : user_strings ≡ heap md (codes "#US")
  pub layout_kept : IsLayoutOf md layout
