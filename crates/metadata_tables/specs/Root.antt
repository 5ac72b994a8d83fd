-- The metadata root and the streams (ECMA-335 II.24.2.1 and II.24.2.2).
use Rattle.std.specs.Prelude.{ℕ, zero, suc, ◌+◌, ◌*◌, ◌/◌, List, [], ◌∷◌, ◌++◌, length, take, drop, Option, Some, None, option_map, unwrap_or, is_some, ◌==◌, if◌then◌else◌, position, codes, Bool, false}
use Rattle.std.specs.Str.{bytes_eq}
use Rattle.cc_base.specs.LittleEndian.{u16_at, u32_at}
use Rattle.cc_base.specs.Tests.{must}
use Rattle.metadata_tables.specs.declared.root.Stream.{Stream}
use Rattle.metadata_tables.specs.declared.fault.TableFault.{TableFault}
use Rattle.metadata_tables.specs.declared.fault.TableFault.TheVariants.{BadRoot, MissingStream}
use Rattle.metadata_tables.specs.Tests.{fields}

-- The bytes before the first zero, none where there is no zero.
unfoldable pub zero_ended : List ℕ → Option (List ℕ)
zero_ended bytes = option_map (λ len. take len bytes) (position (λ byte. byte == 0) bytes)

-- Whether those bytes are this text.
unfoldable pub is_text : List ℕ → List ℕ → Bool
is_text bytes text = unwrap_or (option_map (λ found. bytes_eq found text) (zero_ended bytes)) false

-- The bytes `BSJB`.
abbrev pub signature : ℕ
signature = 0x424a_5342

-- The field Length: how many bytes the version has, which stands at 16.
unfoldable pub version_width : List ℕ → ℕ
version_width md = u32_at md 12

-- The field Streams, which stands after the version and the field Flags.
unfoldable pub stream_count : List ℕ → ℕ
stream_count md = u16_at md (18 + version_width md)

-- Where the first stream header stands.
unfoldable pub headers_at : List ℕ → ℕ
headers_at md = 20 + version_width md

-- The fields of the root stand one after another from 0 on.
unfoldable pub root_tests : List ℕ → List (Option TableFault)
root_tests md =
    fields (length md) (λ at. BadRoot) 0 (4 ∷ [])
    ++ must (u32_at md 0 == signature) BadRoot
    ∷ fields (length md) (λ at. BadRoot) 4 (2 ∷ 2 ∷ 4 ∷ 4 ∷ version_width md ∷ 2 ∷ 2 ∷ [])

-- The name of the stream header at a place, after its fields Offset and Size.
unfoldable pub name_of : List ℕ → ℕ → Option (List ℕ)
name_of md at = zero_ended (drop (at + 8) md)

-- The bytes that a name takes with its zero and its padding, which fills them up to a multiple of four.
abbrev pub padded : ℕ → ℕ
padded len = (len + 4) / 4 * 4

unfoldable pub name_width : List ℕ → ℕ → ℕ
name_width md at = unwrap_or (option_map (λ name. padded (length name)) (name_of md at)) 0

-- Where the stream header after the one at a place stands.
abbrev pub next_header : List ℕ → ℕ → ℕ
next_header md at = at + 8 + name_width md at

-- The stream that the header at a place names.
unfoldable pub stream_of : List ℕ → ℕ → Stream
stream_of md at = record { at = u32_at md at; size = u32_at md (at + 4) }

-- A stream header: its two numbers, its name and the place of its stream.
unfoldable pub header_tests : List ℕ → ℕ → List (Option TableFault)
header_tests md at =
    fields (length md) (λ at. BadRoot) at (4 ∷ 4 ∷ [])
    ++ must (is_some (name_of md at)) BadRoot
    ∷ fields (length md) (λ at. BadRoot) (at + 8) (name_width md at ∷ [])
    ++ fields (length md) (λ at. BadRoot) (stream_of md at).at ((stream_of md at).size ∷ [])

-- This many stream headers from a place on.
unfoldable pub headers_tests : List ℕ → ℕ → ℕ → List (Option TableFault)
headers_tests md zero at = []
headers_tests md (suc count) at = header_tests md at ++ headers_tests md count (next_header md at)

-- The first stream of a name among this many stream headers from a place on.
unfoldable pub stream_among : List ℕ → List ℕ → ℕ → ℕ → Option Stream
stream_among md name zero at = None
stream_among md name (suc count) at =
    if bytes_eq (unwrap_or (name_of md at) []) name then Some (stream_of md at)
    else stream_among md name count (next_header md at)

-- The first stream of a name.
unfoldable pub stream : List ℕ → List ℕ → Option Stream
stream md name = stream_among md name (stream_count md) (headers_at md)

-- Three streams are there (II.24.2.2).
unfoldable pub presence_of : Option Stream → Option Stream → Option Stream → List (Option TableFault)
presence_of tables strings blob =
    must (is_some tables) MissingStream ∷ must (is_some strings) MissingStream ∷ must (is_some blob) MissingStream ∷ []

-- The streams that have to be there. The others are empty where they are missing.
unfoldable pub presence_tests : List ℕ → List (Option TableFault)
presence_tests md = presence_of (stream md (codes "#~")) (stream md (codes "#Strings")) (stream md (codes "#Blob"))

-- All tests of the root and its streams.
unfoldable pub streams_tests : List ℕ → List (Option TableFault)
streams_tests md = root_tests md ++ headers_tests md (stream_count md) (headers_at md) ++ presence_tests md

-- The bytes of a stream, none where it is missing.
abbrev pub bytes_of : List ℕ → Option Stream → List ℕ
bytes_of md None = []
bytes_of md (Some s) = take s.size (drop s.at md)

-- The bytes of the first stream of a name.
unfoldable pub heap : List ℕ → List ℕ → List ℕ
heap md name = bytes_of md (stream md name)
