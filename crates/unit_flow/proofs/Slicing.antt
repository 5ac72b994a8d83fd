-- Slices of instructions by their offsets.
use Rattle.std.proofs.Common.{◌≡◌, ℕ, ◌+◌, ◌<◌, ◌≤◌, false, nat_le, nat_lt, List, [], ◌∷◌, length, get_or, filter, Option, None, refl, sym, ap, ◌∙◌}
use Rattle.std.specs.List.Sorted.{IsNonDecreasingBy}
use Rattle.std.specs.Prelude.{slice_get}
use Rattle.std.proofs.lemmas.Option.{slice_get-get_or, slice_get_past}
use Rattle.cil_model.specs.Code.{begins_at}
use Rattle.cil_model.specs.Offsets.{AreLaidOut, BeginsAt}
use Rattle.cil_model.specs.Passes.{stack_at}
use Rattle.cil_model.specs.declared.instruction.Instr.{Instr}
use Rattle.cil_model.specs.declared.place.Kind.{Kind}
use Rattle.cil_model.proofs.ShortCodes.{offsets_rise}
use Rattle.stack_typer.proofs.OffsetLemmas.{no_stack_there, stack_there}
use Rattle.unit_flow.specs.Flow.{IsLawful, is_before, instrs_between, block_instrs, kinds_at}
use Rattle.unit_flow.specs.declared.unit_flow.UnitFlow.{UnitFlow}
use Rattle.unit_flow.proofs.LawfulCode.{short}

pub kept_all : (is : List Instr) → filter (λ i. is_before None i.at) is ≡ is
kept_all [] = refl
kept_all (i ∷ is) = ap (λ js. i ∷ js) (kept_all is)

-- The instructions of lawful code rise.
pub instrs_rise : (code : UnitFlow) (is : List Instr) → is ≡ code.unit.instrs → IsLawful code
    → IsNonDecreasingBy (λ i. i.at) is
instrs_rise code is same lawful = rw same (offsets_rise code.unit.instrs (short code lawful))

module _ (code : UnitFlow) (block : ℕ) (blocks : List ℕ) (is : List Instr) (starts : blocks ≡ code.graph.blocks)
    (instrs : is ≡ code.unit.instrs) where
  abbrev rest : List Instr
  rest = filter (λ i. nat_le (get_or blocks block 0) i.at) is

  -- a block before another
  pub inner_block : block + 1 < length blocks
      → filter (λ i. nat_lt i.at (get_or blocks (block + 1) 0)) rest ≡ block_instrs code block
  inner_block below =
      ap (λ (end : Option ℕ). filter (λ i. is_before end i.at) rest)
      (sym (slice_get-get_or blocks (block + 1) 0 below)) ∙ same
    where
      same : instrs_between (get_or blocks block 0) (slice_get blocks (block + 1)) is ≡ block_instrs code block
      same = cc

  -- the last block
  pub last_block : length blocks ≤ block + 1 → rest ≡ block_instrs code block
  last_block most =
      sym (kept_all rest)
      ∙ ap (λ (end : Option ℕ). filter (λ i. is_before end i.at) rest) (sym (slice_get_past blocks (block + 1) most))
      ∙ same
    where
      same : instrs_between (get_or blocks block 0) (slice_get blocks (block + 1)) is ≡ block_instrs code block
      same = cc

  -- ---- the kinds there

  pub no_kinds : begins_at is (get_or blocks block 0) ≡ false → None ≡ kinds_at code block
  no_kinds begins = sym (no_stack_there is code.kinds (get_or blocks block 0) begins) ∙ same
    where
      same : stack_at is code.kinds (get_or blocks block 0) ≡ kinds_at code block
      same = cc

  pub some_kinds : (index : ℕ) (kinds : Option (List Kind)) → AreLaidOut is → BeginsAt is (get_or blocks block 0) index
      → kinds ≡ get_or code.kinds index None → kinds ≡ kinds_at code block
  some_kinds index kinds laid begins there =
      there ∙ sym (stack_there is code.kinds (get_or blocks block 0) index laid begins) ∙ same
    where
      same : stack_at is code.kinds (get_or blocks block 0) ≡ kinds_at code block
      same = cc
