-- The words of each fault of a file.
use Rattle.std.specs.Prelude.{ℕ, List, codes}
use Rattle.asm_image.specs.declared.fault.Cause.{Cause}
use Rattle.asm_image.specs.declared.fault.Cause.TheVariants as causes
use Rattle.metadata_tables.specs.declared.fault.TableFault.{TableFault}
use Rattle.metadata_tables.specs.declared.fault.TableFault.TheVariants as tables
use Rattle.unit_form.specs.declared.unit_fault.UnitFault.{UnitFault}
use Rattle.unit_form.specs.declared.unit_fault.UnitFault.TheVariants as units
use Rattle.pe_reader.specs.declared.fault.PeFault.{PeFault}
use Rattle.pe_reader.specs.declared.fault.PeFault.TheVariants as pe
use Rattle.signature_blobs.specs.declared.fault.SigFault.{SigFault}
use Rattle.signature_blobs.specs.declared.fault.SigFault.TheVariants as sigs

abbrev pub unit_fault_text : UnitFault → List ℕ
unit_fault_text (units.Short at) = codes "unit short"
unit_fault_text (units.Form at) = codes "unit form"
unit_fault_text (units.Version at) = codes "unit version"

abbrev pub pe_fault_text : PeFault → List ℕ
pe_fault_text (pe.TooShort at) = codes "file too short"
pe_fault_text (pe.NotPe at) = codes "not a PE file"
pe_fault_text (pe.NoCli at) = codes "no CLI header"
pe_fault_text (pe.RvaOutside rva) = codes "address outside"

abbrev pub table_fault_text : TableFault → List ℕ
table_fault_text tables.BadRoot = codes "bad metadata root"
table_fault_text tables.MissingStream = codes "missing stream"
table_fault_text (tables.BadTables bit at) = codes "bad tables"
table_fault_text (tables.Short at) = codes "tables too short"
table_fault_text (tables.IndexOut table row column) = codes "index out of range"
table_fault_text (tables.HeapEnd at) = codes "heap end"

abbrev pub signature_fault_text : SigFault → List ℕ
signature_fault_text (sigs.Short at) = codes "signature too short"
signature_fault_text (sigs.Form at) = codes "signature form"

abbrev pub assembly_fault_text : Cause → List ℕ
assembly_fault_text causes.Large = codes "file too large"
assembly_fault_text (causes.Pe fault) = pe_fault_text fault
assembly_fault_text (causes.Table fault) = table_fault_text fault
assembly_fault_text (causes.Sig fault) = signature_fault_text fault
