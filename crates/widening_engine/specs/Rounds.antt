-- The rounds of an analysis, on plain lists: states flow along the edges between blocks until they settle.
use Rattle.std.specs.Prelude.{ℕ, zero, suc, ◌+◌, ◌*◌, ◌==◌, nat_le, Bool, ◌&&◌, if◌then◌else◌, List, [], ◌∷◌, ◌++◌, map, filter, fold, get_or, unwrap_or}
use Rattle.std.specs.List.{find, list_all, list_any, range_with_len}

-- How states flow through code: its blocks and edges by their places, and what becomes of states.
pub record Flow (S : Type 0) : Type 0 where
  -- How many blocks and edges there are.
  pub blocks : ℕ
  pub edges : ℕ
  -- The blocks where an edge begins and ends.
  pub source : ℕ → ℕ
  pub target : ℕ → ℕ
  -- The state where the code begins, the one of what is never reached, and the one of a block about which nothing is
  -- known.
  pub entry : S
  pub nothing : S
  pub unknown : ℕ → S
  -- The state after an edge, from the one before it.
  pub along : S → ℕ → S
  pub join : S → S → S
  pub widen : S → S → S
  -- Whether the first state is shown to say at least as much as the second.
  pub leq : S → S → Bool

-- ---- a state for each block

abbrev pub places : ℕ → List ℕ
places count = range_with_len 0 count

-- The states that a function gives to the blocks, in order.
abbrev pub for_each_block : {S : Type 0} → Flow S → (ℕ → S) → List S
for_each_block flow state = map state (places flow.blocks)

-- The state of a block.
abbrev pub state_at : {S : Type 0} → Flow S → List S → ℕ → S
state_at flow states block = get_or states block flow.nothing

-- Nothing is reached.
abbrev pub never_reached : {S : Type 0} → Flow S → List S
never_reached flow = for_each_block flow (λ block. flow.nothing)

-- Nothing is known.
abbrev pub all_unknown : {S : Type 0} → Flow S → List S
all_unknown flow = for_each_block flow flow.unknown

-- ---- what flows into a block

-- The state after an edge, from that of its source.
abbrev pub behind : {S : Type 0} → Flow S → List S → ℕ → S
behind flow states edge = flow.along (state_at flow states (flow.source edge)) edge

-- The state where the code begins flows into the first block alone.
abbrev pub entering : {S : Type 0} → Flow S → ℕ → List S
entering flow block = if block == 0 then flow.entry ∷ [] else []

-- What flows into a block by these edges, in their order.
abbrev pub incoming_by : {S : Type 0} → Flow S → List ℕ → List S → ℕ → List S
incoming_by flow edges states block =
    entering flow block ++ map (behind flow states) (filter (λ edge. flow.target edge == block) edges)

-- What flows into a block: the state where the code begins, and then the one after each edge to it, edges in order.
abbrev pub incoming : {S : Type 0} → Flow S → List S → ℕ → List S
incoming flow states block = incoming_by flow (places flow.edges) states block

-- States joined from the left. Of no states: nothing is reached.
abbrev pub merge : {S : Type 0} → Flow S → List S → S
merge flow [] = flow.nothing
merge flow (a ∷ others) = fold flow.join a others

-- ---- rounds

-- The states a plain round later.
unfoldable pub next : {S : Type 0} → Flow S → List S → List S
next flow states = for_each_block flow (λ block. merge flow (incoming flow states block))

-- The edge goes back to the block, from it or from one after.
abbrev pub goes_back : {S : Type 0} → Flow S → ℕ → ℕ → Bool
goes_back flow block edge = flow.target edge == block && nat_le (flow.target edge) (flow.source edge)

-- A block to which an edge goes back.
abbrev pub is_head : {S : Type 0} → Flow S → ℕ → Bool
is_head flow block = list_any (goes_back flow block) (places flow.edges)

-- The new states, those of heads widened from the old ones.
unfoldable pub widened : {S : Type 0} → Flow S → List S → List S → List S
widened flow old new = for_each_block flow (λ block. if is_head flow block then flow.widen (state_at flow old block) (state_at flow new block)
    else state_at flow new block)

-- The round of this number, from the states of the round before. From the third on, heads are widened.
unfoldable pub round_from : {S : Type 0} → Flow S → ℕ → List S → List S
round_from flow number states = if nat_le 3 number then widened flow states (next flow states) else next flow states

-- The states of a round. At first nothing is reached.
unfoldable pub round : {S : Type 0} → Flow S → ℕ → List S
round flow zero = never_reached flow
round flow (suc n) = round_from flow (suc n) (round flow n)

-- ---- where they settle

-- What is after the edge is included in the state of its target.
abbrev pub is_carried : {S : Type 0} → Flow S → List S → ℕ → Bool
is_carried flow states edge = flow.leq (behind flow states edge) (state_at flow states (flow.target edge))

-- The state where the code begins is included in that of the first block.
abbrev pub is_begun : {S : Type 0} → Flow S → List S → Bool
is_begun flow states = flow.leq flow.entry (state_at flow states 0)

-- That is so, and what is after each edge is included in the state of its target.
unfoldable pub is_inductive : {S : Type 0} → Flow S → List S → Bool
is_inductive flow states = is_begun flow states && list_all (is_carried flow states) (places flow.edges)

-- The last round that may be the answer.
abbrev pub last_round : {S : Type 0} → Flow S → ℕ
last_round flow = 40 + 4 * flow.blocks

-- The states of the first round that is inductive, up to the last one that may be; where none is, nothing is known.
unfoldable pub first_inductive : {S : Type 0} → Flow S → List S
first_inductive flow = unwrap_or (find (is_inductive flow) (map (round flow) (places (last_round flow + 1)))) (all_unknown flow)

-- Two plain rounds later, where that is inductive.
unfoldable pub settled : {S : Type 0} → Flow S → List S → List S
settled flow states = let later = next flow (next flow states) in if is_inductive flow later then later else states

-- What the analysis answers: the states of the first inductive round, or that nothing is known, and then two plain
-- rounds later, where those are inductive too.
unfoldable pub limit : {S : Type 0} → Flow S → List S
limit flow = settled flow (first_inductive flow)
