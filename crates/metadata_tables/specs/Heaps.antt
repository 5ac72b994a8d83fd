-- The items of the heaps (ECMA-335 II.24.2.3 and II.24.2.4).
use Rattle.std.specs.Prelude.{◌≡◌, ℕ, ◌+◌, List, length, take, drop, Option, Some, None, is_some, Bool, option_map, option_and_then, nat_le, nat_lt, if◌then◌else◌, codes}
use Rattle.std.specs.Result.{result_ok}
use Rattle.cc_base.specs.Compressed.{compressed}
use Rattle.cc_base.specs.declared.compressed.Compressed.{Compressed}
use Rattle.metadata_tables.specs.Layout.{start_of}
use Rattle.metadata_tables.specs.Root.{stream, heap, zero_ended, is_text}

-- The compressed length at the start of an item that is there as a whole (II.23.2).
unfoldable pub whole_length : List ℕ → Option Compressed
whole_length bytes =
    option_and_then (λ prefix. if nat_le (prefix.width + prefix.number) (length bytes) then Some prefix else None) (result_ok (compressed bytes))

-- The item at the start: as many bytes as its length says.
unfoldable pub item_of : List ℕ → Option (List ℕ)
item_of bytes = option_map (λ prefix. take prefix.number (drop prefix.width bytes)) (whole_length bytes)

-- The text at a place of `#Strings`.
unfoldable pub string_at : List ℕ → ℕ → Option (List ℕ)
string_at md index = zero_ended (drop index (heap md (codes "#Strings")))

-- Whether the text at a place of `#Strings` is this one.
unfoldable pub string_is : List ℕ → ℕ → List ℕ → Bool
string_is md index text = is_text (drop index (heap md (codes "#Strings"))) text

-- A text stands at each place before this one, and at none from it on.
abbrev pub EndsTexts : List ℕ → ℕ → Type 0
EndsTexts bytes end = (index : ℕ) → nat_lt index end ≡ is_some (zero_ended (drop index bytes))

-- The item at a place of `#Blob`.
unfoldable pub blob_at : List ℕ → ℕ → Option (List ℕ)
blob_at md index = item_of (drop index (heap md (codes "#Blob")))

-- Where the bytes of that item stand in the metadata.
unfoldable pub blob_offset : List ℕ → ℕ → Option ℕ
blob_offset md index =
    option_map (λ prefix. start_of (stream md (codes "#Blob")) + index + prefix.width) (whole_length (drop index (heap md (codes "#Blob"))))

-- The item at a place of `#US`.
unfoldable pub user_string_at : List ℕ → ℕ → Option (List ℕ)
user_string_at md index = item_of (drop index (heap md (codes "#US")))

-- The bytes of an item stand at a place of the metadata.
abbrev pub StandsAt : List ℕ → ℕ → List ℕ → Type 0
StandsAt md at item = item ≡ take (length item) (drop at md)
