-- The tests of fields, and where a fault is.
use Rattle.std.specs.Prelude.{ℕ, ◌+◌, List, [], ◌∷◌, Option, nat_le}
use Rattle.cc_base.specs.Tests.{must}
use Rattle.metadata_tables.specs.declared.fault.TableFault.{TableFault}
use Rattle.metadata_tables.specs.declared.fault.TableFault.TheVariants.{BadRoot, MissingStream, BadTables, Short, IndexOut, HeapEnd}

-- The tests of fields of these widths, which stand one after another from a place on: none passes the end.
unfoldable pub fields : ℕ → (ℕ → TableFault) → ℕ → List ℕ → List (Option TableFault)
fields end fault at [] = []
fields end fault at (width ∷ widths) = must (nat_le (at + width) end) (fault at) ∷ fields end fault (at + width) widths

-- The offset that a fault names, 0 where it names none.
abbrev pub offset_of : TableFault → ℕ
offset_of BadRoot = 0
offset_of MissingStream = 0
offset_of (BadTables bit at) = at
offset_of (Short at) = at
offset_of (IndexOut table row column) = 0
offset_of (HeapEnd at) = at
