-- Stream headers one after another.
use Rattle.std.proofs.Common.{◌≡◌, ℕ, zero, suc, ◌+◌, ◌-◌, ◌≤◌, ◌<◌, List, [], ◌∷◌, ◌++◌, length, Bool, true, false, cond, Option, Some, None, refl, sym, ap, subst, ◌∙◌, arith, ◌⊎◌, inl, inr}
use Rattle.std.specs.Prelude.{unwrap_or, is_some, codes}
use Rattle.cc_base.specs.LittleEndian.{u16_at}
use Rattle.cc_base.specs.Tests.{first_of, must}
use Rattle.cc_base.proofs.TestLemmas.{first_of-append, first_of-append_none, first_of-append_some, none_before, none_behind}
use Rattle.std.specs.Option.{option_or}
use Rattle.std.specs.Str.{bytes_eq}
use Rattle.metadata_tables.specs.declared.fault.TableFault.{TableFault}
use Rattle.metadata_tables.specs.declared.root.Stream.{Stream}
use Rattle.metadata_tables.specs.declared.fault.TableFault.TheVariants.{BadRoot}
use Rattle.metadata_tables.specs.Tests.{fields}
use Rattle.metadata_tables.specs.Root.{version_width, name_width, stream_count, headers_at, root_tests, name_of, next_header, stream_of, header_tests, headers_tests, stream_among, stream, presence_of, presence_tests, streams_tests}
use Rattle.metadata_tables.proofs.FieldLemmas.{field-fits}

-- Which way a choice went.
chosen : (b : Bool) (here : Stream) (behind : Option Stream) (s : Stream) → cond b (Some here) behind ≡ Some s → (here ≡ s) ⊎ (behind ≡ Some s)
chosen true here behind s e = inl cc
chosen false here behind s e = inr e

pub headers-next : (md : List ℕ) (at n i next : ℕ) (all : Option TableFault) → i < n → first_of (header_tests md at) ≡ None → next ≡ next_header md at
    → first_of (headers_tests md (n - i) at) ≡ all → first_of (headers_tests md (n - (i + 1)) next) ≡ all
unfolding headers_tests
headers-next md at n i next all h passed after so_far =
    let k : n - i ≡ suc (n - (i + 1)) = omega arith in
    let one : first_of (headers_tests md (suc (n - (i + 1))) at) ≡ first_of (headers_tests md (n - (i + 1)) (next_header md at)) =
    first_of-append_none (header_tests md at) (headers_tests md (n - (i + 1)) (next_header md at)) passed in
    ap (λ (place : ℕ). first_of (headers_tests md (n - (i + 1)) place)) after
    ∙ sym one ∙ ap (λ (count : ℕ). first_of (headers_tests md count at)) (sym k) ∙ so_far

pub headers-stop : (md : List ℕ) (at n i : ℕ) (fault : TableFault) (all : Option TableFault) → i < n → first_of (header_tests md at) ≡ Some fault
    → first_of (headers_tests md (n - i) at) ≡ all → all ≡ Some fault
unfolding headers_tests
headers-stop md at n i fault all h failed so_far =
    let k : n - i ≡ suc (n - (i + 1)) = omega arith in
    let one : first_of (headers_tests md (suc (n - (i + 1))) at) ≡ Some fault =
    first_of-append_some (header_tests md at) (headers_tests md (n - (i + 1)) (next_header md at)) fault failed in
    sym so_far ∙ ap (λ (count : ℕ). first_of (headers_tests md count at)) k ∙ one

pub headers-done : (md : List ℕ) (at n i : ℕ) (all : Option TableFault) → n ≤ i → first_of (headers_tests md (n - i) at) ≡ all → all ≡ None
unfolding headers_tests first_of
headers-done md at n i all h so_far =
    let k : n - i ≡ 0 = omega arith in
    sym so_far ∙ ap (λ (count : ℕ). first_of (headers_tests md count at)) k

option_or-none : (o : Option Stream) → option_or o None ≡ o
option_or-none None = refl
option_or-none (Some s) = refl

-- What is found at a header, before what is found after it.
found-next : (found : Option Stream) (same : Bool) (s : Stream) (rest : Option Stream)
    → option_or found (cond same (Some s) rest) ≡ option_or (option_or found (cond same (Some s) None)) rest
found-next None true s rest = refl
found-next None false s rest = refl
found-next (Some first) same s rest = refl

pub among-next : (md name : List ℕ) (at n i next : ℕ) (found found' : Option Stream) (text : List ℕ) (s : Stream) (all : Option Stream) → i < n
    → name_of md at ≡ Some text → s ≡ stream_of md at → next ≡ next_header md at
    → found' ≡ option_or found (cond (bytes_eq text name) (Some s) None)
    → option_or found (stream_among md name (n - i) at) ≡ all
    → option_or found' (stream_among md name (n - (i + 1)) next) ≡ all
unfolding stream_among
among-next md name at n i next found found' text s all h named there after now so_far =
    let k : n - i ≡ suc (n - (i + 1)) = omega arith in
    let one : stream_among md name (n - i) at ≡ cond (bytes_eq text name) (Some s) (stream_among md name (n - (i + 1)) next) =
    rw (k, named, there, after) refl in
    ap (λ (o : Option Stream). option_or o (stream_among md name (n - (i + 1)) next)) now
    ∙ sym (found-next found (bytes_eq text name) s (stream_among md name (n - (i + 1)) next))
    ∙ ap (option_or found) (sym one) ∙ so_far

pub among-done : (md name : List ℕ) (at n i : ℕ) (found all : Option Stream) → n ≤ i
    → option_or found (stream_among md name (n - i) at) ≡ all → found ≡ all
unfolding stream_among
among-done md name at n i found all h so_far =
    let k : n - i ≡ 0 = omega arith in
    let none : stream_among md name (n - i) at ≡ None = rw k refl in
    sym (option_or-none found) ∙ ap (option_or found) (sym none) ∙ so_far

-- ---- all streams

pub stream_count-is : (md : List ℕ) (first : ℕ) → first ≡ headers_at md → u16_at md (first - 2) ≡ stream_count md
unfolding stream_count headers_at
stream_count-is md first e =
    let place : first - 2 ≡ 18 + version_width md = omega arith in
    ap (u16_at md) place

pub stream-is : (md name : List ℕ) (count first : ℕ) → first ≡ headers_at md → count ≡ stream_count md → stream_among md name count first ≡ stream md name
unfolding stream
stream-is md name count first e f = rw (e, f) refl

pub streams-are : (md : List ℕ) (count first : ℕ) → first ≡ headers_at md → count ≡ stream_count md
    → first_of (streams_tests md) ≡ option_or (option_or (first_of (root_tests md)) (first_of (headers_tests md count first))) (first_of (presence_tests md))
unfolding streams_tests
streams-are md count first e f =
    rw (e, f)
    (first_of-append (root_tests md ++ headers_tests md (stream_count md) (headers_at md)) (presence_tests md)
    ∙ ap (λ (o : Option TableFault). option_or o (first_of (presence_tests md))) (first_of-append (root_tests md) (headers_tests md (stream_count md) (headers_at md))))

pub presence-is : (md : List ℕ) (tables strings blob : Option Stream) → tables ≡ stream md (codes "#~") → strings ≡ stream md (codes "#Strings")
    → blob ≡ stream md (codes "#Blob") → presence_of tables strings blob ≡ presence_tests md
unfolding presence_tests
presence-is md tables strings blob e f g = rw (e, f, g) refl

-- A stream whose header is in order lies in the metadata.
header-within : (md : List ℕ) (at : ℕ) → first_of (header_tests md at) ≡ None → (stream_of md at).at + (stream_of md at).size ≤ length md
unfolding header_tests
header-within md at e =
    field-fits (length md) (λ _. BadRoot) (stream_of md at).at (stream_of md at).size
    (none_behind
    (fields (length md) (λ _. BadRoot) at (4 ∷ 4 ∷ []) ++ must (is_some (name_of md at)) BadRoot ∷ fields (length md) (λ _. BadRoot) (at + 8) (name_width md at ∷ []))
    (fields (length md) (λ _. BadRoot) (stream_of md at).at ((stream_of md at).size ∷ [])) e)

pub among-within : (md name : List ℕ) (count at : ℕ) (s : Stream) → first_of (headers_tests md count at) ≡ None
    → stream_among md name count at ≡ Some s → s.at + s.size ≤ length md
unfolding headers_tests stream_among
among-within md name zero at s e found = absurd cc
among-within md name (suc count) at s e found =
    elim (chosen (bytes_eq (unwrap_or (name_of md at) []) name) (stream_of md at) (stream_among md name count (next_header md at)) s found) [
      | inl here ↦ subst (λ (x : Stream). x.at + x.size ≤ length md) here (header-within md at (none_before (header_tests md at) (headers_tests md count (next_header md at)) e))
      | inr behind ↦ among-within md name count (next_header md at) s (none_behind (header_tests md at) (headers_tests md count (next_header md at)) e) behind
    ]

pub stream-within : (md name : List ℕ) (s : Stream) → first_of (streams_tests md) ≡ None → stream md name ≡ Some s → s.at + s.size ≤ length md
unfolding streams_tests stream
stream-within md name s e found =
    among-within md name (stream_count md) (headers_at md) s
    (none_behind (root_tests md) (headers_tests md (stream_count md) (headers_at md)) (none_before (root_tests md ++ headers_tests md (stream_count md) (headers_at md)) (presence_tests md) e))
    found
