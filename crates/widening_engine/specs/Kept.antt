-- What is kept of blocks and edges from one round to the next.
use Rattle.std.specs.Prelude.{◌≡◌, ◌↔◌, ℕ, ◌<◌, Bool, true, false, ◌&&◌, ◌||◌, if◌then◌else◌, List, length, map, get_or, Option, Some, None, IfSome, unwrap_or, ◌+◌}
use Rattle.flow_graph.specs.declared.graph.Edge.{Edge}
use Rattle.widening_engine.specs.Flows.{FitBlocks, edge_at}
use Rattle.widening_engine.specs.Merging.{merged_by}
use Rattle.widening_engine.specs.Rounds.{Flow, behind, incoming, is_begun, is_carried, merge, places, state_at}
use Rattle.widening_engine.specs.declared.kept.Kept.{Kept}
use Rattle.widening_engine.specs.declared.kept_block.KeptBlock.{KeptBlock}

-- ---- one block

-- What flowed into the block, joined.
abbrev pub join_of : {S : Type 0} → KeptBlock S → S
join_of block = unwrap_or block.join block.state

-- Where the block counts as settled, a widening of its state by what flowed into it gives its state.
abbrev pub IsSettled : {S : Type 0} → (S → S → S) → KeptBlock S → Type 0
IsSettled widen block = block.settled ≡ true → widen block.state (join_of block) ≡ block.state

-- It is told whether the state changed.
abbrev pub TellsChange : {S : Type 0} → S → S → Bool → Type 0
TellsChange old new changed = (changed ≡ false) ↔ (new ≡ old)

-- The block has gone on: its state is what flows into it, or the widening of the old state by that.
pub record IsStepped {S : Type 0} (widen : S → S → S) (widens : Bool) (fresh : Option S) (old new : KeptBlock S) (changed : Bool) : Type 0 where
  pub join : join_of new ≡ unwrap_or fresh (join_of old)
  pub state : new.state ≡ (if widens then widen old.state (unwrap_or fresh (join_of old)) else unwrap_or fresh (join_of old))
  pub settled : IsSettled widen new
  pub told : TellsChange old.state new.state changed

-- ---- all blocks and edges

-- A block that is not reached.
abbrev pub no_block : {S : Type 0} → S → KeptBlock S
no_block nothing = record { state = nothing; join = None; settled = false }

abbrev pub block_at : {S : Type 0} → Flow S → List (KeptBlock S) → ℕ → KeptBlock S
block_at flow blocks block = get_or blocks block (no_block flow.nothing)

abbrev pub states_of : {S : Type 0} → List (KeptBlock S) → List S
states_of blocks = map (λ block. block.state) blocks

-- The state behind each edge.
abbrev pub all_behind : {S : Type 0} → Flow S → List S → List S
all_behind flow states = map (behind flow states) (places flow.edges)

-- What flows into a block, joined.
abbrev pub flowing : {S : Type 0} → Flow S → List S → ℕ → S
flowing flow states block = merge flow (incoming flow states block)

-- What is kept, where the states behind the edges are those from the states `before`: so is each join, but those of the
-- blocks that are to be joined anew, and what is known to be included was so in these states.
pub record IsKeptOf {S : Type 0} (flow : Flow S) (fits : ℕ → S → Type 0) (before : List S) (kept : Kept S) : Type 0 where
  pub entry : kept.entry ≡ flow.entry
  pub blocks : length kept.blocks.items ≡ flow.blocks
  pub edges : length kept.behind.items ≡ flow.edges
  pub fit : FitBlocks flow fits (states_of kept.blocks.items)
  pub behind : kept.behind.items ≡ all_behind flow before
  pub count : length kept.stale.items ≡ flow.blocks
  pub begun : kept.begun ≡ true → is_begun flow before ≡ true
  pub marks : length kept.carried.items ≡ flow.edges
  pub carried : (edge : ℕ) → edge < flow.edges → get_or kept.carried.items edge false ≡ true → is_carried flow before edge ≡ true
  pub join : (block : ℕ) → block < flow.blocks → get_or kept.stale.items block false ≡ false → join_of (block_at flow kept.blocks.items block) ≡ flowing flow before block
  pub join_fits : (block : ℕ) → block < flow.blocks → fits block (join_of (block_at flow kept.blocks.items block))
  pub settled : (block : ℕ) → block < flow.blocks → IsSettled flow.widen (block_at flow kept.blocks.items block)

-- What is kept between two rounds.
abbrev pub IsKept : {S : Type 0} → Flow S → (ℕ → S → Type 0) → Kept S → Type 0
IsKept flow fits kept = IsKeptOf flow fits (states_of kept.blocks.items) kept

-- What flows into a block by these edges, where the block is to be joined anew.
abbrev pub joined_anew : {S : Type 0} → Flow S → List S → List Bool → List ℕ → ℕ → Option S
joined_anew flow states stale edges block = if get_or stale block false then merged_by flow edges states block else None

-- The join that a block takes.
abbrev pub fresh_join : {S : Type 0} → S → Bool → Option S → Option S
fresh_join nothing stale join = if stale then Some (unwrap_or join nothing) else None

-- Each block has gone on, and it is told whether its state changed.
pub record AreStepped {S : Type 0} (flow : Flow S) (late : Bool) (heads : List Bool) (joins : List (Option S)) (old new : Kept S) (changed : List Bool) : Type 0 where
  pub entry : new.entry ≡ old.entry
  pub behind : new.behind.items ≡ old.behind.items
  pub begun : new.begun ≡ old.begun
  pub carried : new.carried.items ≡ old.carried.items
  pub count : length new.stale.items ≡ length old.stale.items
  pub blocks : length new.blocks.items ≡ length old.blocks.items
  pub told : length changed ≡ length old.blocks.items
  pub block : (block : ℕ) → block < length old.blocks.items → IsStepped flow.widen (late && get_or heads block false) (fresh_join flow.nothing (get_or old.stale.items block false) (get_or joins block None))
      (block_at flow old.blocks.items block) (block_at flow new.blocks.items block) (get_or changed block false)

-- Nothing is known of the block any more, and it is told whether its state changed.
pub record IsForgotten {S : Type 0} (flow : Flow S) (block : ℕ) (old new : KeptBlock S) (changed : Bool) : Type 0 where
  pub state : new.state ≡ flow.unknown block
  pub join : join_of new ≡ join_of old
  pub settled : IsSettled flow.widen old → IsSettled flow.widen new
  pub told : TellsChange old.state new.state changed

-- Of no block anything is known.
pub record AreForgotten {S : Type 0} (flow : Flow S) (old new : Kept S) (changed : List Bool) : Type 0 where
  pub entry : new.entry ≡ old.entry
  pub behind : new.behind.items ≡ old.behind.items
  pub begun : new.begun ≡ old.begun
  pub carried : new.carried.items ≡ old.carried.items
  pub stale : new.stale.items ≡ old.stale.items
  pub blocks : length new.blocks.items ≡ length old.blocks.items
  pub count : length changed ≡ length old.blocks.items
  pub block : (block : ℕ) → block < length old.blocks.items → IsForgotten flow block (block_at flow old.blocks.items block) (block_at flow new.blocks.items block) (get_or changed block false)

-- It is told which states are others than before.
pub record AreTold {S : Type 0} (flow : Flow S) (before states : List S) (changed : List Bool) : Type 0 where
  pub count : length changed ≡ flow.blocks
  pub told : (block : ℕ) → block < flow.blocks → TellsChange (state_at flow before block) (state_at flow states block) (get_or changed block false)

-- The edge is computed again: every edge is, or its source has changed.
abbrev pub is_computed : {S : Type 0} → Flow S → Bool → List Bool → ℕ → Bool
is_computed flow every changed edge = every || get_or changed (flow.source edge) false

-- These edges are computed again, and each block to which another state flows is to be joined anew. Nothing else counts
-- as included than before, and nothing where one of the two states has changed.
pub record IsRefreshed {S : Type 0} (flow : Flow S) (every : Bool) (changed : List Bool) (old new : Kept S) : Type 0 where
  pub entry : new.entry ≡ old.entry
  pub blocks : new.blocks.items ≡ old.blocks.items
  pub count : length new.stale.items ≡ length old.stale.items
  pub edges : length new.behind.items ≡ flow.edges
  pub behind : (edge : ℕ) → edge < flow.edges → get_or new.behind.items edge flow.nothing
      ≡ (if is_computed flow every changed edge then behind flow (states_of old.blocks.items) edge else get_or old.behind.items edge flow.nothing)
  pub stale : (block : ℕ) → get_or new.stale.items block false ≡ false → get_or old.stale.items block false ≡ false
  pub begun : new.begun ≡ true → (old.begun ≡ true) × (get_or changed 0 false ≡ false)
  pub marks : length new.carried.items ≡ length old.carried.items
  pub carried : (edge : ℕ) → edge < flow.edges → get_or new.carried.items edge false ≡ true → get_or old.carried.items edge false ≡ true
  pub target_same : (edge : ℕ) → edge < flow.edges → get_or new.carried.items edge false ≡ true → get_or changed (flow.target edge) false ≡ false
  pub behind_same : (edge : ℕ) → edge < flow.edges → get_or new.carried.items edge false ≡ true → get_or new.behind.items edge flow.nothing ≡ get_or old.behind.items edge flow.nothing
  pub same : (edge : ℕ) → edge < flow.edges → get_or new.stale.items (flow.target edge) false ≡ false → get_or new.behind.items edge flow.nothing ≡ get_or old.behind.items edge flow.nothing

-- The state that was kept, if one was, is that before the last instruction of the edge's source.
abbrev pub IsWalked : {S : Type 0} → Flow S → (S → ℕ → S) → List S → ℕ → Option S → Type 0
IsWalked flow through states edge walked = IfSome walked (λ before. before ≡ through (state_at flow states (flow.source edge)) (flow.source edge))

-- The state is the same again, and there is a next edge, which leaves the same block.
pub record IsCopiedForNext {S : Type 0} (edges : List Edge) (place : ℕ) (before again : S) : Type 0 where
  pub same : again ≡ before
  pub there : place + 1 < length edges
  pub from : (edge_at edges (place + 1)).from ≡ (edge_at edges place).from

-- The mark of the edge's target is set, or what is told of the edge is so; no other mark is taken back.
pub record IsMarked (target : ℕ) (old new : List Bool) (same : Type 0) : Type 0 where
  pub count : length new ≡ length old
  pub kept : (block : ℕ) → get_or new block false ≡ false → get_or old block false ≡ false
  pub told : get_or new target false ≡ false → same

-- No other mark is set than before. That of the edge is set only where its target has not changed, and what is told of
-- the edge is so.
pub record IsStillKnown (edge : ℕ) (changed : Bool) (old new : List Bool) (same : Type 0) : Type 0 where
  pub count : length new ≡ length old
  pub kept : (k : ℕ) → get_or new k false ≡ true → get_or old k false ≡ true
  pub still : get_or new edge false ≡ true → changed ≡ false
  pub told : get_or new edge false ≡ true → same
