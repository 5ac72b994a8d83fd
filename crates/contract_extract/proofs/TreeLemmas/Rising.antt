-- The IL offsets of short code rise.
use Rattle.std.proofs.Common.{ℕ, ◌+◌, List, [], ◌∷◌}
use Rattle.std.specs.List.{AllByRecursion}
use Rattle.cil_model.specs.Offsets as offsets
use Rattle.cil_model.specs.Offsets.{RiseFrom}
use Rattle.cil_model.specs.ShortCode.{AreOfShortCode, IsOfShortCode, LieFrom}
use Rattle.cil_model.specs.declared.instruction.Instr.{Instr}
use Rattle.cil_model.proofs.OffsetSearch.{laid_rise}

laid_from : (at : ℕ) (is : List Instr) → LieFrom at is → AllByRecursion IsOfShortCode is → offsets.LieFrom at is
laid_from at [] lie each = tt
laid_from at (i ∷ is) lie each = (lie.0, each.0.some, laid_from (at + i.size) is lie.1 each.1)

pub short_rise : (is : List Instr) → AreOfShortCode is → RiseFrom 0 is
short_rise is short = laid_rise is (record { lie = laid_from 0 is short.lie short.each })
