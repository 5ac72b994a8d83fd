-- The instructions of a block of lawful code are a chain, and no other block starts where it does.
use Rattle.std.proofs.Common.{◌≡◌, ℕ, ◌+◌, ◌<◌, true, length, get_or, slice_get, sym, subst, add-one}
use Rattle.cil_model.specs.Blocks.{is_block_start}
use Rattle.flow_graph.specs.declared.graph.Graph.{Graph}
use Rattle.unit_flow.specs.Chains.{IsChain}
use Rattle.unit_flow.specs.Flow.{IsLawful, block_instrs, instrs_between, start_of}
use Rattle.unit_flow.specs.declared.unit_flow.UnitFlow.{UnitFlow}
use Rattle.unit_flow.proofs.BlockStarts.{start_at, starts_apart}
use Rattle.unit_flow.proofs.LawfulCode as laws
use Rattle.unit_flow.proofs.ShortChains.{chain_there}

pub block_chain : (code : UnitFlow) (lawful : IsLawful code) (b : ℕ) → b < length code.graph.blocks
    → IsChain code.unit code.graph b (start_of code b) (block_instrs code b)
block_chain code lawful b below =
    let unit = code.unit in
    subst (λ (g : Graph). b < length g.blocks → IsChain unit g b (get_or g.blocks b 0)
    (instrs_between (get_or g.blocks b 0) (slice_get g.blocks (b + 1)) unit.instrs)) (sym lawful.graph)
    (λ there. rw (add-one b) (chain_there unit (laws.short code lawful) (laws.lawful_body code lawful).executed
    (laws.short_switches code lawful) b there)) below

-- A block starts where it does, and no other block does.
pub record IsStartOf (code : UnitFlow) (b at : ℕ) : Type 0 where
  pub marked : is_block_start code.unit at ≡ true
  pub alone : (c : ℕ) → c < length code.graph.blocks → start_of code c ≡ at → c ≡ b

pub block_starts_there : (code : UnitFlow) (lawful : IsLawful code) (b : ℕ) → b < length code.graph.blocks
    → IsStartOf code b (start_of code b)
block_starts_there code lawful b below =
    let unit = code.unit in
    let short = laws.short code lawful in
    record {
      marked =
          subst (λ (g : Graph). b < length g.blocks → is_block_start unit (get_or g.blocks b 0) ≡ true)
          (sym lawful.graph)
          (λ there. (start_at unit short b there).marked) below;
      alone = λ c inside same.
          subst
          (λ (g : Graph). c < length g.blocks → b < length g.blocks → get_or g.blocks c 0 ≡ get_or g.blocks b 0 → c ≡ b)
          (sym lawful.graph)
          (λ first second is. starts_apart unit short c b first second is) inside below same;
    }
