-- Where a fault stands in its blob.
use Rattle.std.specs.Prelude.{ℕ}
use Rattle.signature_blobs.specs.declared.fault.SigFault.{SigFault}
use Rattle.signature_blobs.specs.declared.fault.SigFault.TheVariants.{Short, Form}

abbrev pub offset_of : SigFault → ℕ
offset_of (Short at) = at
offset_of (Form at) = at
