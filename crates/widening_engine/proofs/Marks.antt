-- The heads of loops, one edge after another.
use Rattle.std.proofs.Common.{◌≡◌, ℕ, zero, suc, ◌+◌, ◌<◌, ◌==◌, nat_le, Bool, true, false, ◌||◌, ◌&&◌, List, [], ◌∷◌, cond, length, map, take, refl, sym, ap, ◌∙◌, arith, set, inl, inr, eq-eqb}
use Rattle.std.specs.List.{list_any}
use Rattle.std.proofs.lemmas.Bool.{cases_Bool, ne_eqb, or_right}
use Rattle.std.proofs.lemmas.List.Folds.{list_any-append, list_any_more}
use Rattle.std.proofs.lemmas.List.FromFn.{fill_by_all}
use Rattle.flow_graph.specs.HeadsOf.{goes_back as leads_back}
use Rattle.flow_graph.specs.declared.graph.Edge.{Edge}
use Rattle.widening_engine.specs.Flows.{AreEdges, edge_at, no_edge}
use Rattle.widening_engine.specs.Marks.{is_gone_back_to}
use Rattle.widening_engine.specs.Rounds.{Flow, goes_back, is_head, places}
use Rattle.widening_engine.proofs.Lists.{map_same, map_set, range_one_more}

or_false : (a : Bool) → (a || false) ≡ a
or_false true = refl
or_false false = refl

and_false : (a : Bool) → (a && false) ≡ false
and_false true = refl
and_false false = refl

module _ (edges : List Edge) (count i : ℕ) (inside : i < length edges) where
  one_more : (block : ℕ) → is_gone_back_to (take (i + 1) edges) block
      ≡ (is_gone_back_to (take i edges) block || ((edge_at edges i).to == block && leads_back (edge_at edges i)))
  one_more block = list_any_more (λ edge. edge.to == block && leads_back edge) edges i no_edge inside

  -- The marks of the first edges, and then those with one more.
  pub marks_more : (edge_at edges i).to < count
      → cond (nat_le (edge_at edges i).to (edge_at edges i).from) (set (map (is_gone_back_to (take i edges)) (places count)) (edge_at edges i).to true)
      (map (is_gone_back_to (take i edges)) (places count)) ≡ map (is_gone_back_to (take (i + 1) edges)) (places count)
  marks_more below =
      let edge : Edge = edge_at edges i in
      elim (cases_Bool (leads_back edge)) [
        | inl back ↦
            ap (λ (t : Bool). cond t (set (map (is_gone_back_to (take i edges)) (places count)) edge.to true) (map (is_gone_back_to (take i edges)) (places count))) back
            ∙ map_set (is_gone_back_to (take i edges)) (is_gone_back_to (take (i + 1) edges)) count edge.to true below
            (one_more edge.to ∙ or_right (is_gone_back_to (take i edges) edge.to) (edge.to == edge.to && leads_back edge)
            (ap (λ (t : Bool). t && leads_back edge) (eq-eqb edge.to edge.to refl) ∙ back))
            (λ k ne. one_more k ∙ ap (λ (t : Bool). is_gone_back_to (take i edges) k || (t && leads_back edge)) (ne_eqb edge.to k (λ e. ne (sym e)))
            ∙ or_false (is_gone_back_to (take i edges) k))
        | inr not ↦
            ap (λ (t : Bool). cond t (set (map (is_gone_back_to (take i edges)) (places count)) edge.to true) (map (is_gone_back_to (take i edges)) (places count))) not
            ∙ map_same (is_gone_back_to (take i edges)) (is_gone_back_to (take (i + 1) edges)) count
            (λ k. sym (one_more k ∙ ap (λ (t : Bool). is_gone_back_to (take i edges) k || (edge.to == k && t)) not
            ∙ ap (λ (t : Bool). is_gone_back_to (take i edges) k || t) (and_false (edge.to == k)) ∙ or_false (is_gone_back_to (take i edges) k)))
      ]

-- ---- edges by their places

any_of_map : {X : Type 0} (p : X → Bool) (f : ℕ → X) (xs : List ℕ) → list_any p (map f xs) ≡ list_any (λ k. p (f k)) xs
any_of_map p f [] = refl
any_of_map p f (x ∷ xs) = ap (λ (t : Bool). p (f x) || t) (any_of_map p f xs)

any_same : (p q : ℕ → Bool) (n : ℕ) → ((k : ℕ) → k < n → p k ≡ q k) → list_any p (places n) ≡ list_any q (places n)
any_same p q zero same = refl
any_same p q (suc n) same =
    let longer : suc n ≡ n + 1 = omega arith in
    let before : list_any p (places n) ≡ list_any q (places n) = any_same p q n (λ k h. same k (omega arith)) in
    ap (λ (m : ℕ). list_any p (places m)) longer ∙ last p ∙ (λ i. before i || (same n (omega arith) i || false)) ∙ sym (last q) ∙ ap (λ (m : ℕ). list_any q (places m)) (sym longer)
  where
    last : (r : ℕ → Bool) → list_any r (places (n + 1)) ≡ (list_any r (places n) || (r n || false))
    last r = ap (list_any r) (range_one_more n) ∙ list_any-append r (places n) (n ∷ [])

-- A block is a head by the edges of a flow where it is one by the flow.
pub head_by_edges : {S : Type 0} (flow : Flow S) (edges : List Edge) → AreEdges flow edges → (block : ℕ) → is_gone_back_to edges block ≡ is_head flow block
head_by_edges flow edges are block =
    let test : Edge → Bool = λ edge. edge.to == block && leads_back edge in
    ap (list_any test) (fill_by_all (edge_at edges) edges (length edges) no_edge refl (λ k h. refl))
    ∙ any_of_map test (edge_at edges) (places (length edges))
    ∙ ap (λ (n : ℕ). list_any (λ k. test (edge_at edges k)) (places n)) are.count
    ∙ any_same (λ k. test (edge_at edges k)) (goes_back flow block) flow.edges (λ k h i. (are.to k h i == block) && nat_le (are.to k h i) (are.from k h i))

pub heads_in_flow : {S : Type 0} (flow : Flow S) (edges given : List Edge) (count : ℕ) (heads : List Bool) → AreEdges flow edges → given ≡ edges → count ≡ flow.blocks
    → heads ≡ map (is_gone_back_to given) (places count) → heads ≡ map (is_head flow) (places flow.blocks)
heads_in_flow flow edges given count heads are same many is =
    is ∙ (λ i. map (is_gone_back_to (same i)) (places (many i))) ∙ map_same (is_gone_back_to edges) (is_head flow) flow.blocks (head_by_edges flow edges are)
