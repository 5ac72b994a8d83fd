-- Edges that are computed again, one after another.
use Rattle.std.proofs.Common.{◌≡◌, ◌≢◌, ℕ, ◌+◌, ◌<◌, ◌≤◌, Bool, true, false, not, ◌&&◌, List, Option, Some, None, IfSome, cond, length, get_or, refl, sym, ap, subst, ◌∙◌, arith, set, inl, inr, get_or-set_same, get_or-set_other}
use Rattle.std.proofs.lemmas.Bool.{cases_eq}
use Rattle.std.proofs.lemmas.List.{length-set}
use Rattle.flow_graph.specs.declared.graph.Edge.{Edge}
use Rattle.widening_engine.specs.Flows.{AreEdges, edge_at}
use Rattle.widening_engine.specs.Kept.{IsCopiedForNext, IsMarked, IsRefreshed, IsStillKnown, IsWalked, is_computed, states_of}
use Rattle.widening_engine.specs.Rounds.{Flow, behind, state_at}
use Rattle.widening_engine.specs.declared.kept.Kept.{Kept}

-- The state behind the edge, computed again or as it was.
abbrev pub computed : {S : Type 0} → Flow S → Bool → List Bool → Kept S → ℕ → S
computed flow every changed old edge = cond (is_computed flow every changed edge) (behind flow (states_of old.blocks.items) edge) (get_or old.behind.items edge flow.nothing)

-- The first edges are computed again.
pub record AreRefreshing {S : Type 0} (flow : Flow S) (every : Bool) (changed : List Bool) (old : Kept S) (edge : ℕ) (new : Kept S) : Type 0 where
  pub entry : new.entry ≡ old.entry
  pub blocks : new.blocks.items ≡ old.blocks.items
  pub count : length new.stale.items ≡ length old.stale.items
  pub edges : length new.behind.items ≡ length old.behind.items
  pub done : (k : ℕ) → k < edge → get_or new.behind.items k flow.nothing ≡ computed flow every changed old k
  pub rest : (k : ℕ) → edge ≤ k → get_or new.behind.items k flow.nothing ≡ get_or old.behind.items k flow.nothing
  pub stale : (block : ℕ) → get_or new.stale.items block false ≡ false → get_or old.stale.items block false ≡ false
  pub begun : new.begun ≡ true → (old.begun ≡ true) × (get_or changed 0 false ≡ false)
  pub marks : length new.carried.items ≡ length old.carried.items
  pub carried : (k : ℕ) → get_or new.carried.items k false ≡ true → get_or old.carried.items k false ≡ true
  pub target_same : (k : ℕ) → k < edge → get_or new.carried.items k false ≡ true → get_or changed (flow.target k) false ≡ false
  pub behind_same : (k : ℕ) → k < edge → get_or new.carried.items k false ≡ true → get_or new.behind.items k flow.nothing ≡ get_or old.behind.items k flow.nothing
  pub same : (k : ℕ) → k < edge → get_or new.stale.items (flow.target k) false ≡ false → get_or new.behind.items k flow.nothing ≡ get_or old.behind.items k flow.nothing

still_true : (known changed : Bool) → (known && not changed) ≡ true → (known ≡ true) × (changed ≡ false)
still_true true false e = (refl, refl)
still_true true true e = (refl, sym e)
still_true false changed e = cc

module _ {S : Type 0} (flow : Flow S) (every : Bool) (changed : List Bool) (old : Kept S) where
  pub refreshing_none : (new : Kept S) (first : Bool) → first ≡ get_or changed 0 false → new.entry ≡ old.entry → new.blocks.items ≡ old.blocks.items → new.behind.items ≡ old.behind.items
      → new.stale.items ≡ old.stale.items → new.carried.items ≡ old.carried.items → new.begun ≡ (old.begun && not first) → AreRefreshing flow every changed old 0 new
  refreshing_none new first first_is entry blocks behind stale carried begun = record {
    entry = entry;
    blocks = blocks;
    count = ap length stale;
    edges = ap length behind;
    done = λ k h. absurd (omega arith);
    rest = λ k h. ap (λ (items : List S). get_or items k flow.nothing) behind;
    begun = λ yes. let both = still_true old.begun first (sym begun ∙ yes) in (both.0, sym first_is ∙ both.1);
    marks = ap length carried;
    carried = λ k yes. sym (ap (λ (items : List Bool). get_or items k false) carried) ∙ yes;
    target_same = λ k h. absurd (omega arith);
    behind_same = λ k h. absurd (omega arith);
    stale = λ block not. sym (ap (λ (items : List Bool). get_or items block false) stale) ∙ not;
    same = λ k h. absurd (omega arith);
  }

  -- One more edge.
  pub refreshing_more : (edge : ℕ) (again other : Bool) (mid new : Kept S) → again ≡ is_computed flow every changed edge → other ≡ get_or changed (flow.target edge) false
      → edge < length old.behind.items
      → AreRefreshing flow every changed old edge mid → new.entry ≡ mid.entry → new.blocks.items ≡ mid.blocks.items
      → new.behind.items ≡ set mid.behind.items edge (cond again (behind flow (states_of mid.blocks.items) edge) (get_or mid.behind.items edge flow.nothing))
      → new.begun ≡ mid.begun → IsStillKnown edge other mid.carried.items new.carried.items (new.behind.items ≡ mid.behind.items)
      → IsMarked (flow.target edge) mid.stale.items new.stale.items (new.behind.items ≡ mid.behind.items) → AreRefreshing flow every changed old (edge + 1) new
  refreshing_more edge again other_target mid new tells tells_target inside so_far entry blocks behind_is begun known marked =
      let value : S = cond again (behind flow (states_of mid.blocks.items) edge) (get_or mid.behind.items edge flow.nothing) in
      let value_is : value ≡ computed flow every changed old edge = λ i. cond (tells i) (behind flow (states_of (so_far.blocks i)) edge) (so_far.rest edge (omega arith) i) in
      let other : (k : ℕ) → k ≢ edge → get_or new.behind.items k flow.nothing ≡ get_or mid.behind.items k flow.nothing =
      λ k ne. ap (λ (items : List S). get_or items k flow.nothing) behind_is ∙ get_or-set_other mid.behind.items edge k value flow.nothing ne in
      let here : get_or new.behind.items edge flow.nothing ≡ value =
      ap (λ (items : List S). get_or items edge flow.nothing) behind_is ∙ get_or-set_same mid.behind.items edge value flow.nothing (omega (arith, so_far.edges)) in
      record {
        entry = entry ∙ so_far.entry;
        blocks = blocks ∙ so_far.blocks;
        count = marked.count ∙ so_far.count;
        edges = ap length behind_is ∙ length-set mid.behind.items edge value ∙ so_far.edges;
        done = λ k h. elim (cases_eq k edge) [
          | inl e ↦ subst (λ (j : ℕ). get_or new.behind.items j flow.nothing ≡ computed flow every changed old j) (sym e) (here ∙ value_is)
          | inr ne ↦ other k ne ∙ so_far.done k (omega arith)
        ];
        rest = λ k h. let ne : k ≢ edge = omega arith in other k ne ∙ so_far.rest k (omega arith);
        begun = λ yes. so_far.begun (sym begun ∙ yes);
        marks = known.count ∙ so_far.marks;
        carried = λ k yes. so_far.carried k (known.kept k yes);
        target_same = λ k h yes. elim (cases_eq k edge) [
          | inl e ↦ ap (λ (j : ℕ). get_or changed (flow.target j) false) e ∙ sym tells_target
              ∙ known.still (subst (λ (j : ℕ). get_or new.carried.items j false ≡ true) e yes)
          | inr ne ↦ so_far.target_same k (omega arith) (known.kept k yes)
        ];
        behind_same = λ k h yes. elim (cases_eq k edge) [
          | inl e ↦ subst (λ (j : ℕ). get_or new.behind.items j flow.nothing ≡ get_or old.behind.items j flow.nothing) (sym e)
              (ap (λ (items : List S). get_or items edge flow.nothing) (known.told (subst (λ (j : ℕ). get_or new.carried.items j false ≡ true) e yes)) ∙ so_far.rest edge (omega arith))
          | inr ne ↦ other k ne ∙ so_far.behind_same k (omega arith) (known.kept k yes)
        ];
        stale = λ block not. so_far.stale block (marked.kept block not);
        same = λ k h not. elim (cases_eq k edge) [
          | inl e ↦ subst (λ (j : ℕ). get_or new.behind.items j flow.nothing ≡ get_or old.behind.items j flow.nothing) (sym e)
              (ap (λ (items : List S). get_or items edge flow.nothing) (marked.told (subst (λ (j : ℕ). get_or new.stale.items (flow.target j) false ≡ false) e not)) ∙ so_far.rest edge (omega arith))
          | inr ne ↦ other k ne ∙ so_far.same k (omega arith) (marked.kept (flow.target k) not)
        ];
      }

  -- All edges.
  pub refreshing_all : (new : Kept S) → length old.behind.items ≡ flow.edges → AreRefreshing flow every changed old flow.edges new → IsRefreshed flow every changed old new
  refreshing_all new many all = record {
    entry = all.entry;
    blocks = all.blocks;
    count = all.count;
    edges = all.edges ∙ many;
    behind = all.done;
    stale = all.stale;
    begun = all.begun;
    marks = all.marks;
    carried = λ edge h. all.carried edge;
    target_same = all.target_same;
    behind_same = all.behind_same;
    same = all.same;
  }

-- ---- the state before the last instruction of an edge's source

module _ {S : Type 0} (flow : Flow S) (through : S → ℕ → S) (states : List S) (edges : List Edge) (are : AreEdges flow edges) (place : ℕ) (below : place < flow.edges) (before : S)
    (walked : before ≡ through (state_at flow states (edge_at edges place).from) (edge_at edges place).from) where
  -- It is that of the source.
  pub walked_there : before ≡ through (state_at flow states (flow.source place)) (flow.source place)
  walked_there = subst (λ (n : ℕ). before ≡ through (state_at flow states n) n) (are.from place below) walked

  -- It serves the next edge too, where that leaves the same block.
  pub walked_next : (next : Option S) → IfSome next (IsCopiedForNext edges place before) → IsWalked flow through states (place + 1) next
  walked_next None copied = tt
  walked_next (Some again) copied =
      let inside : place + 1 < flow.edges = omega (arith, are.count, copied.there) in
      let same : flow.source (place + 1) ≡ flow.source place = sym (are.from (place + 1) inside) ∙ copied.from ∙ are.from place below in
      copied.same ∙ subst (λ (n : ℕ). before ≡ through (state_at flow states n) n) (sym same) walked_there
