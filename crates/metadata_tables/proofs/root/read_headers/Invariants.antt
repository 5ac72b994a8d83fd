use Rattle.std.proofs.Common.{◌≡◌, ◌-◌, ◌≤◌, length}
use Rattle.std.specs.Option.{option_or}
use Rattle.std.specs.Prelude.{codes}
use Rattle.cc_base.specs.Tests.{first_of}
use Rattle.metadata_tables.specs.Root.{headers_tests, stream_among}
use Rattle.metadata_tables.proofs.root.read_headers.Given as goal

abbrev pub invariant-loop : goal.invariant-loop
invariant-loop l =
    record {
      within : l.at ≤ length l.md;
      tests : first_of (headers_tests l.md (l.count - l.counter) l.at) ≡ first_of (headers_tests l.md l.count l.first);
      tables : option_or l.found.tables (stream_among l.md (codes "#~") (l.count - l.counter) l.at) ≡ stream_among l.md (codes "#~") l.count l.first;
      strings : option_or l.found.strings (stream_among l.md (codes "#Strings") (l.count - l.counter) l.at) ≡ stream_among l.md (codes "#Strings") l.count l.first;
      blob : option_or l.found.blob (stream_among l.md (codes "#Blob") (l.count - l.counter) l.at) ≡ stream_among l.md (codes "#Blob") l.count l.first;
      user_strings : option_or l.found.user_strings (stream_among l.md (codes "#US") (l.count - l.counter) l.at) ≡ stream_among l.md (codes "#US") l.count l.first;
    }
