use Rattle.std.proofs.Common.{◌≡◌, ◌-◌}
use Rattle.pe_reader.specs.Addresses.{section_from, section_of}
use Rattle.pe_reader.proofs.sections.Sections.find.Given as goal

abbrev pub invariant-loop-index : goal.invariant-loop-index
invariant-loop-index l = section_from l.bytes l.rva l.index (l.self.count - l.index) ≡ section_of l.bytes l.rva
