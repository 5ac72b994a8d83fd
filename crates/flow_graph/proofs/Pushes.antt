-- Edges that are appended one after another.
use Rattle.std.proofs.Common.{◌≡◌, ℕ, ◌+◌, ◌<◌, true, false, List, [], ◌∷◌, ◌++◌, length, get_or, take, append_assoc, append-nil, Some, sym, ap, ◌∙◌, arith}
use Rattle.std.specs.Option.{option_to_list}
use Rattle.std.proofs.lemmas.List.{length-take-le, take_more}
use Rattle.cil_model.specs.Blocks.{branch_targets}
use Rattle.cil_model.specs.Passes.{goes_behind}
use Rattle.cil_model.specs.declared.instruction.Instr.{Instr}
use Rattle.flow_graph.specs.EdgesOf.{edge_to, edges_to, edges_out}
use Rattle.flow_graph.specs.declared.graph.Edge.{Edge}
use Rattle.flow_graph.proofs.Successors.{successors_alone, successors_with_next}

-- The list and its next item, as they are read.
next_item : {X : Type 0} (xs : List X) (k : ℕ) (x : X) → k < length xs → x ≡ get_or xs k x → take (k + 1) xs ≡ take k xs ++ x ∷ []
next_item xs k x inside is = take_more xs k x inside ∙ ap (λ y. take k xs ++ y ∷ []) (sym is)

module _ (blocks : List ℕ) (from : ℕ) where
  pub edges_to-append : (number : ℕ) (xs ys : List ℕ)
      → edges_to blocks from number (xs ++ ys) ≡ edges_to blocks from number xs ++ edges_to blocks from (number + length xs) ys
  edges_to-append number [] ys = let e : number ≡ number + 0 = omega arith in ap (λ (n : ℕ). edges_to blocks from n ys) e
  edges_to-append number (x ∷ xs) ys =
      let first = option_to_list (edge_to blocks from number x) in
      let e : number + 1 + length xs ≡ number + length (x ∷ xs) = omega arith in
      ap (λ (es : List Edge). first ++ es) (edges_to-append (number + 1) xs ys ∙ ap (λ (n : ℕ). edges_to blocks from (number + 1) xs ++ edges_to blocks from n ys) e)
      ∙ sym (append_assoc first (edges_to blocks from (number + 1) xs) (edges_to blocks from (number + length (x ∷ xs)) ys))

  -- The edges to offsets and to one more.
  pub one_more : (xs : List ℕ) (at : ℕ) (before : List Edge)
      → (before ++ edges_to blocks from 0 xs) ++ option_to_list (edge_to blocks from (length xs) at) ≡ before ++ edges_to blocks from 0 (xs ++ at ∷ [])
  one_more xs at before =
      let last = option_to_list (edge_to blocks from (length xs) at) in
      let e : 0 + length xs ≡ length xs = omega arith in
      append_assoc before (edges_to blocks from 0 xs) last
      ∙ ap (λ (es : List Edge). before ++ (edges_to blocks from 0 xs ++ es)) (sym (append-nil last))
      ∙ ap (λ (n : ℕ). before ++ (edges_to blocks from 0 xs ++ edges_to blocks from n (at ∷ []))) (sym e)
      ∙ ap (λ (es : List Edge). before ++ es) (sym (edges_to-append 0 xs (at ∷ [])))

  pub edges_more : (xs : List ℕ) (k x : ℕ) (before : List Edge) → k < length xs → x ≡ get_or xs k x
      → (before ++ edges_to blocks from 0 (take k xs)) ++ option_to_list (edge_to blocks from k x) ≡ before ++ edges_to blocks from 0 (take (k + 1) xs)
  edges_more xs k x before inside is =
      ap (λ (n : ℕ). (before ++ edges_to blocks from 0 (take k xs)) ++ option_to_list (edge_to blocks from n x)) (sym (length-take-le k xs (omega arith)))
      ∙ one_more (take k xs) x before ∙ ap (λ (ys : List ℕ). before ++ edges_to blocks from 0 ys) (sym (next_item xs k x inside is))

module _ (blocks : List ℕ) (from : ℕ) (i : Instr) (before : List Edge) where
  pub edges_with_next : goes_behind i.op ≡ true
      → (before ++ edges_to blocks from 0 (branch_targets i.op)) ++ option_to_list (edge_to blocks from (length (branch_targets i.op)) (i.at + i.size)) ≡ before ++ edges_out blocks (Some from) i
  edges_with_next goes = one_more blocks from (branch_targets i.op) (i.at + i.size) before
      ∙ ap (λ (ats : List ℕ). before ++ edges_to blocks from 0 ats) (sym (successors_with_next i.op (i.at + i.size) goes))

  pub edges_alone : goes_behind i.op ≡ false → before ++ edges_to blocks from 0 (branch_targets i.op) ≡ before ++ edges_out blocks (Some from) i
  edges_alone stays = ap (λ (ats : List ℕ). before ++ edges_to blocks from 0 ats) (sym (successors_alone i.op (i.at + i.size) stays))

pub ruleset edges_out_parts = (edges_with_next, edges_alone)
