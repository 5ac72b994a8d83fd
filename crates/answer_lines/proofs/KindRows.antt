-- Texts of kinds of faults that are computed.
use Rattle.std.proofs.Common.{◌≡◌, [], ◌∷◌, None, map, codes, refl}
use Rattle.std.specs.Fmt.{digits}
use Rattle.cil_model.specs.declared.machine.FaultKind.TheVariants as faults
use Rattle.answer_lines.specs.FaultKinds.{kind_text}

kinds_of_faults : map (kind_text None) (faults.Ensures 16 ∷ faults.Assert ∷ faults.Lower ∷ faults.Upper ∷ faults.DivZero ∷ faults.DivOverflow ∷ faults.ArraySize ∷ [])
    ≡ codes "ensures 16" ∷ codes "assert" ∷ codes "lower bound" ∷ codes "upper bound" ∷ codes "divide by zero" ∷ codes "divide overflow" ∷ codes "array size" ∷ []
unfolding digits
kinds_of_faults = refl
