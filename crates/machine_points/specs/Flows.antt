-- Points that go along edges from the start of one block to that of another.
use Rattle.std.specs.Prelude.{◌≡◌, ℕ, zero, suc, ◌<◌}
use Rattle.machine_points.specs.declared.point.Point.{Point}

-- Edges, which are numbers, with the blocks where each begins and ends; where runs begin, and how they go along an
-- edge.
pub record Edges : Type 1 where
  pub count : ℕ
  pub source : ℕ → ℕ
  pub target : ℕ → ℕ
  pub begins : Point → Type 0
  pub goes : ℕ → Point → Point → Type 0

-- A point comes to the start of a block along so many edges, from the start of the first block.
abbrev pub ComesAlong : Edges → ℕ → ℕ → Point → Type 0
ComesAlong edges zero block p = edges.begins p × (block ≡ 0)
ComesAlong edges (suc n) block p =
    (edge : ℕ) × (edge < edges.count) × (edges.target edge ≡ block)
    × ((before : Point) × ComesAlong edges n (edges.source edge) before × edges.goes edge before p)
