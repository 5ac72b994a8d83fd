-- What a call that reads assemblies gives.
use Rattle.std.specs.Prelude.{◌≡◌, ◌<◌, ℕ, List, length, Some, None, Result, Ok, Err}
use Rattle.std.specs.declared.alloc.Global.{Global}
use Rattle.std.specs.declared.vec.Vec.{Vec}
use Rattle.asm_image.specs.Faults.{FirstBroken}
use Rattle.check_driver.specs.LinkedReports.{first_refused}
use Rattle.check_driver.specs.declared.linked_answer.Unlinked.{Unlinked}
use Rattle.check_driver.specs.declared.linked_answer.Unlinked.TheVariants as unlinked

-- The assembly of this list index, with these bytes, was read.
abbrev pub ReadsOne : ℕ → List ℕ → Result (List ℕ) Unlinked → Type 0
ReadsOne file bytes (Ok assembly) = (assembly ≡ bytes) × (FirstBroken bytes ≡ None)
ReadsOne file bytes (Err (unlinked.Refused at fault)) = (at ≡ file) × (FirstBroken bytes ≡ Some fault)
ReadsOne file bytes (Err unlinked.NoMemory) = Unit {0}

-- All assemblies with these bytes were read, or the first that is refused ended it.
abbrev pub ReadsAll : List (List ℕ) → Result (Vec (List ℕ) Global) Unlinked → Type 0
ReadsAll files (Ok assemblies) = (assemblies.items ≡ files) × (first_refused files ≡ None)
ReadsAll files (Err (unlinked.Refused file fault)) = (file < length files) × (first_refused files ≡ Some (file, fault))
ReadsAll files (Err unlinked.NoMemory) = Unit {0}
