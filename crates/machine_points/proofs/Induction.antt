-- States that are inductive hold wherever points come along edges, for any states that flow: the laws of what flows
-- along an edge and of what is included are all that this rests on.
use Rattle.std.proofs.Common.{◌≡◌, ℕ, zero, suc, ◌<◌, Bool, true, sym, subst}
use Rattle.machine_points.specs.Flows.{ComesAlong, Edges}
use Rattle.machine_points.specs.declared.point.Point.{Point}

-- What states are, and what they hold of.
pub record States : Type 1 where
  pub State : Type 0
  pub holds : State → Point → Type 0
  pub fits : ℕ → State → Type 0
  pub entry : State
  pub along : State → ℕ → State
  pub leq : State → State → Bool

-- The laws.
pub record Flow (edges : Edges) (states : States) (blocks : ℕ) : Type 0 where
  pub first : 0 < blocks
  pub source_below : (edge : ℕ) → edge < edges.count → edges.source edge < blocks
  pub target_below : (edge : ℕ) → edge < edges.count → edges.target edge < blocks
  pub entry_fits : states.fits 0 states.entry
  pub entry_holds : (p : Point) → edges.begins p → states.holds states.entry p
  pub along_fits : (edge : ℕ) (a : states.State) → edge < edges.count → states.fits (edges.source edge) a → states.fits (edges.target edge) (states.along a edge)
  pub along_holds : (edge : ℕ) (a : states.State) (p q : Point) → edge < edges.count → states.fits (edges.source edge) a → states.holds a p → edges.goes edge p q
      → states.holds (states.along a edge) q
  pub leq_holds : (block : ℕ) (a b : states.State) (p : Point) → states.fits block a → states.fits block b → states.leq a b ≡ true → states.holds a p → states.holds b p

module _ (edges : Edges) (states : States) (blocks : ℕ) (flow : Flow edges states blocks) (at : ℕ → states.State)
    (fit : (block : ℕ) → block < blocks → states.fits block (at block)) (begun : states.leq states.entry (at 0) ≡ true)
    (carried : (edge : ℕ) → edge < edges.count → states.leq (states.along (at (edges.source edge)) edge) (at (edges.target edge)) ≡ true) where
  pub holds_along : (n block : ℕ) (p : Point) → ComesAlong edges n block p → states.holds (at block) p
  holds_along zero block p (begins, first) =
      subst (λ (b : ℕ). states.holds (at b) p) (sym first)
      (flow.leq_holds 0 states.entry (at 0) p flow.entry_fits (fit 0 flow.first) begun (flow.entry_holds p begins))
  holds_along (suc n) block p (edge, below, target, (before, comes, goes)) =
      let source = edges.source edge in
      let here = fit source (flow.source_below edge below) in
      subst (λ (b : ℕ). states.holds (at b) p) target
      (flow.leq_holds (edges.target edge) (states.along (at source) edge) (at (edges.target edge)) p
      (flow.along_fits edge (at source) below here) (fit (edges.target edge) (flow.target_below edge below)) (carried edge below)
      (flow.along_holds edge (at source) before p below here (holds_along n source before comes) goes))
