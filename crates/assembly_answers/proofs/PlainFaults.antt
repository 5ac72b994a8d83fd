-- The words of a fault of a file have no line feed.
use Rattle.std.proofs.Common.{◌≡◌, refl}
use Rattle.asm_image.specs.declared.fault.Cause.{Cause}
use Rattle.asm_image.specs.declared.fault.Cause.TheVariants as causes
use Rattle.metadata_tables.specs.declared.fault.TableFault.{TableFault}
use Rattle.metadata_tables.specs.declared.fault.TableFault.TheVariants as tables
use Rattle.unit_form.specs.declared.unit_fault.UnitFault.{UnitFault}
use Rattle.unit_form.specs.declared.unit_fault.UnitFault.TheVariants as units
use Rattle.pe_reader.specs.declared.fault.PeFault.{PeFault}
use Rattle.pe_reader.specs.declared.fault.PeFault.TheVariants as pe
use Rattle.signature_blobs.specs.declared.fault.SigFault.{SigFault}
use Rattle.signature_blobs.specs.declared.fault.SigFault.TheVariants as sigs
use Rattle.answer_lines.specs.LineCounts.{line_count}
use Rattle.assembly_answers.specs.FaultText.{assembly_fault_text, pe_fault_text, signature_fault_text, table_fault_text, unit_fault_text}

pub unit_fault_plain : (fault : UnitFault) → line_count (unit_fault_text fault) ≡ 0
unfolding line_count
unit_fault_plain (units.Short at) = refl
unit_fault_plain (units.Form at) = refl
unit_fault_plain (units.Version at) = refl

pe_plain : (fault : PeFault) → line_count (pe_fault_text fault) ≡ 0
unfolding line_count
pe_plain (pe.TooShort at) = refl
pe_plain (pe.NotPe at) = refl
pe_plain (pe.NoCli at) = refl
pe_plain (pe.RvaOutside rva) = refl

table_plain : (fault : TableFault) → line_count (table_fault_text fault) ≡ 0
unfolding line_count
table_plain tables.BadRoot = refl
table_plain tables.MissingStream = refl
table_plain (tables.BadTables bit at) = refl
table_plain (tables.Short at) = refl
table_plain (tables.IndexOut table row column) = refl
table_plain (tables.HeapEnd at) = refl

signature_plain : (fault : SigFault) → line_count (signature_fault_text fault) ≡ 0
unfolding line_count
signature_plain (sigs.Short at) = refl
signature_plain (sigs.Form at) = refl

pub assembly_fault_plain : (cause : Cause) → line_count (assembly_fault_text cause) ≡ 0
unfolding line_count
assembly_fault_plain causes.Large = refl
assembly_fault_plain (causes.Pe fault) = pe_plain fault
assembly_fault_plain (causes.Table fault) = table_plain fault
assembly_fault_plain (causes.Sig fault) = signature_plain fault
