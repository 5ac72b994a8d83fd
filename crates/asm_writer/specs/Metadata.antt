-- The metadata (ECMA-335 II.24.2).
use Rattle.std.specs.Prelude.{ℕ, ◌+◌, List, [], ◌∷◌, ◌++◌, length, flat_map, fold, codes}
use Rattle.asm_writer.specs.declared.layout.Layout.{Layout}
use Rattle.asm_writer.specs.declared.number.Number.TheVariants.{Zeros, Two, Four}
use Rattle.asm_writer.specs.declared.plan.MethodPlan.{MethodPlan}
use Rattle.asm_writer.specs.Names.{zero_ended}
use Rattle.asm_writer.specs.Numbers.{numbers_bytes}
use Rattle.asm_writer.specs.Padding.{padded}
use Rattle.asm_writer.specs.Stream.{tables_stream}

-- The heap `#US`: the empty blob, and the message `contract` in UTF-16 with its closing byte (II.24.2.4).
abbrev pub user_strings : List ℕ
user_strings = 0 ∷ 0x11 ∷ flat_map (λ letter. letter ∷ 0 ∷ []) (codes "contract") ++ 0 ∷ 0 ∷ []

-- The heap `#GUID`: one (II.24.2.5).
abbrev pub guids : List ℕ
guids = 1 ∷ 2 ∷ 3 ∷ 4 ∷ 5 ∷ 6 ∷ 7 ∷ 8 ∷ 9 ∷ 10 ∷ 11 ∷ 12 ∷ 13 ∷ 14 ∷ 15 ∷ 16 ∷ []

-- A text with a zero after it, filled up to a multiple of four.
unfoldable pub padded_text : List ℕ → List ℕ
padded_text text = padded 4 (zero_ended text)

-- A stream: its name, and its bytes.
pub record Stream : Type 0 where
  pub name : List ℕ
  pub bytes : List ℕ

-- The streams, where the first is `#~`.
abbrev pub streams : List ℕ → Layout → List Stream
streams tables l =
    record { name = padded_text (codes "#~"); bytes = tables }
    ∷ record { name = padded_text (codes "#Strings"); bytes = l.strings.bytes }
    ∷ record { name = padded_text (codes "#US"); bytes = user_strings }
    ∷ record { name = padded_text (codes "#GUID"); bytes = guids }
    ∷ record { name = padded_text (codes "#Blob"); bytes = l.blobs.bytes } ∷ []

-- The headers of streams, and their bytes.
pub record Joined : Type 0 where
  pub headers : List ℕ
  pub bytes : List ℕ

-- One more stream (II.24.2.2): its offset in the metadata, where the streams follow a root of this size, its own
-- size, and its name.
abbrev pub added : ℕ → Joined → Stream → Joined
added root_size all stream = record {
  headers = all.headers ++ numbers_bytes (Four (root_size + length all.bytes) ∷ Four (length stream.bytes) ∷ []) ++ stream.name;
  bytes = all.bytes ++ stream.bytes;
}

unfoldable pub joined : ℕ → List Stream → Joined
joined root_size all = fold (added root_size) (record { headers = []; bytes = [] }) all

abbrev pub version : List ℕ
version = padded_text (codes "v4.0.30319")

-- The root as far as its streams (II.24.2.1): its signature, versions and a reserved number, the version's text with its
-- length, Flags and the number of streams.
unfoldable pub root_prefix : ℕ → List ℕ
root_prefix count =
    numbers_bytes (Four 0x424a5342 ∷ Zeros 8 ∷ Four (length version) ∷ [])
    ++ version
    ++ numbers_bytes (Two 0 ∷ Two count ∷ [])

-- The root with the headers of the streams.
unfoldable pub root : ℕ → List Stream → List ℕ
root size all = root_prefix (length all) ++ (joined size all).headers

-- How many bytes the root has, wherever the streams stand.
unfoldable pub root_size : List Stream → ℕ
root_size all = length (root 0 all)

-- The root, and after it the streams.
unfoldable pub metadata : Layout → List MethodPlan → List ℕ
metadata l methods =
    let all = streams (tables_stream l methods) l in
    root (root_size all) all ++ (joined (root_size all) all).bytes
