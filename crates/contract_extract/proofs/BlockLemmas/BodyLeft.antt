-- Behind the clauses of code that has kinds and no fault its body is left, with an empty stack before it.
use Rattle.std.proofs.Common.{◌≡◌, ℕ, ◌+◌, true, false, List, [], ◌∷◌, ◌++◌, Option, Some, None, refl, sym, ap, subst, ◌∙◌, append_assoc, append-nil, inl, inr}
use Rattle.std.specs.List.{flat_map}
use Rattle.std.proofs.lemmas.Bool.{cases_Bool}
use Rattle.cil_model.specs.Blocks.{behind_last_closing, closes, start_of_body}
use Rattle.cil_model.specs.ClauseTrees.{closing}
use Rattle.cil_model.specs.FitKinds.{AreDecoded}
use Rattle.cil_model.specs.Passes.{KindsOf, Stacks, stack_at}
use Rattle.cil_model.specs.Runs.{instr_at}
use Rattle.cil_model.specs.ShortCode.{AreOfShortCode}
use Rattle.cil_model.specs.Terms.{Term}
use Rattle.cil_model.specs.declared.clause.ClauseKind.{ClauseKind}
use Rattle.cil_model.specs.declared.instruction.Instr.{Instr}
use Rattle.cil_model.specs.declared.shape.Shape.{Shape}
use Rattle.cil_model.proofs.Lists.{all_append, all_split}
use Rattle.clause_faults.specs.Faults.{body_faults, code_faults, faults_in, faults_of, first_clause_fault, limit_faults, with_clause}
use Rattle.clause_faults.specs.Ways.{way_faults}
use Rattle.clause_faults.proofs.FaultLemmas.NoFaults.{no_first, none_in_both, none_of_each}
use Rattle.contract_extract.specs.Extracting.{NoneCloses}
use Rattle.contract_extract.proofs.BlockLemmas.CodeFrom.{AreAllFrom, begins_below, found_behind, of_code, rest_behind, whole}
use Rattle.contract_extract.proofs.BlockLemmas.EmptyStacks.{empty_behind}
use Rattle.contract_extract.proofs.BlockLemmas.EmptyStart.{starts_empty}
use Rattle.contract_extract.proofs.BlockLemmas.Segments.{body_left, body_segment, body_starts, clause_faults_with, segment}

-- The body is all code from its start on. Nothing is wrong with an instruction of it, none closes anything, and the
-- stack before it is empty.
pub record BodyLeft (is : List Instr) (stacks : Stacks) : Type 0 where
  pub body : List Instr
  pub all_of : AreAllFrom is (start_of_body is) body
  pub empty : stack_at is stacks (start_of_body is) ≡ Some []
  pub none : NoneCloses body
  pub right : flat_map (body_faults (start_of_body is)) body ≡ []

module _ (is : List Instr) (shape : Shape) (stacks : Stacks) (short : AreOfShortCode is) (decoded : AreDecoded is) (kinds : KindsOf shape is stacks) where
  -- These instructions are left from an IL offset on, where the code of the next clause begins, or else the body: with
  -- an empty stack.
  record IsLeft (start : ℕ) (rest : List Instr) : Type 0 where
    all_of : AreAllFrom is start rest
    empty : stack_at is stacks start ≡ Some []
    body : start_of_body is ≡ behind_last_closing start rest

  body_of : (start : ℕ) (clauses : List (ClauseKind × Option Term)) (body : List Instr) → NoneCloses body → IsLeft start body
      → faults_in is shape start clauses body ≡ [] → BodyLeft is stacks
  body_of start clauses body none is_left no_fault =
      let starts : start ≡ start_of_body is = sym (is_left.body ∙ body_starts start body none) in
      record {
        body = body;
        all_of = subst (λ (n : ℕ). AreAllFrom is n body) starts is_left.all_of;
        empty = ap (stack_at is stacks) (sym starts) ∙ is_left.empty;
        none = none;
        right = sym (body_left is shape start clauses body none) ∙ no_fault;
      }

  module _ (start : ℕ) (clauses : List (ClauseKind × Option Term)) (code : List Instr) (call : Instr) (rest : List Instr) (none : NoneCloses code)
      (closes_it : closes call.op ≡ true) (is_left : IsLeft start (code ++ call ∷ rest)) (no_fault : faults_in is shape start clauses (code ++ call ∷ rest) ≡ []) where
    apart : (clause_faults_with is shape start clauses code call ≡ []) × (faults_in is shape (call.at + call.size) (with_clause is start clauses (closing call.op)) rest ≡ [])
    apart = none_in_both (clause_faults_with is shape start clauses code call) _ (sym (segment is shape start clauses code call rest none closes_it) ∙ no_fault)

    none_wrong : (flat_map (faults_of is shape start call) (code ++ call ∷ []) ≡ []) × (way_faults is shape start call ≡ [])
    none_wrong =
        none_in_both (flat_map (faults_of is shape start call) (code ++ call ∷ [])) (way_faults is shape start call)
        (none_in_both (code_faults is shape start call (code ++ call ∷ [])) (limit_faults is start clauses call) apart.0).0

    call_found : instr_at is call.at ≡ Some call
    call_found = found_behind is short start code call rest is_left.all_of

    empty_next : stack_at is stacks (call.at + call.size) ≡ Some []
    empty_next =
        empty_behind is shape start call (record {
          short = short;
          closes_it = closes_it;
          there = call_found;
          others_stay = of_code is short (λ i. closes i.op ≡ false) start code call rest is_left.all_of none;
          right = of_code is short (λ i. faults_of is shape start call i ≡ []) start code call rest is_left.all_of
              (all_split (λ i. faults_of is shape start call i ≡ []) code (call ∷ []) (none_of_each (faults_of is shape start call) (code ++ call ∷ []) none_wrong.0)).0;
        })
        stacks decoded kinds is_left.empty (begins_below is short start code call rest is_left.all_of) none_wrong.1

    left_behind : IsLeft (call.at + call.size) rest
    left_behind = record {
      all_of = rest_behind is short start code call rest is_left.all_of;
      empty = empty_next;
      body = is_left.body ∙ body_segment start code call rest none closes_it;
    }

  -- The code of the next clause begins with instructions that close nothing.
  body_from : (rest : List Instr) (start : ℕ) (clauses : List (ClauseKind × Option Term)) (code left : List Instr) → code ++ rest ≡ left → NoneCloses code
      → IsLeft start left → faults_in is shape start clauses left ≡ [] → BodyLeft is stacks
  body_from [] start clauses code left e none is_left no_fault =
      body_of start clauses left (subst NoneCloses (sym (append-nil code) ∙ e) none) is_left no_fault
  body_from (i ∷ rest) start clauses code left e none is_left no_fault = elim (cases_Bool (closes i.op)) [
    | inl closes_it ↦
        let here : IsLeft start (code ++ i ∷ rest) = subst (IsLeft start) (sym e) is_left in
        let no_fault_here : faults_in is shape start clauses (code ++ i ∷ rest) ≡ [] = ap (faults_in is shape start clauses) e ∙ no_fault in
        body_from rest (i.at + i.size) (with_clause is start clauses (closing i.op)) [] rest refl tt
        (left_behind start clauses code i rest none closes_it here no_fault_here) (apart start clauses code i rest none closes_it here no_fault_here).1
    | inr stays ↦
        body_from rest start clauses (code ++ i ∷ []) left (append_assoc code (i ∷ []) rest ∙ e)
        (all_append (λ j. closes j.op ≡ false) code (i ∷ []) none (stays, tt)) is_left no_fault
  ]

-- Code with no fault has such a body, where it has kinds.
pub body_is_left : (is : List Instr) (shape : Shape) (stacks : Stacks) → AreOfShortCode is → AreDecoded is → KindsOf shape is stacks
    → first_clause_fault is shape ≡ None → BodyLeft is stacks
body_is_left is shape stacks short decoded kinds none =
    body_from is shape stacks short decoded kinds is 0 [] [] is refl tt
    (record { all_of = whole is short; empty = starts_empty shape is stacks short.lie kinds; body = refl }) (no_first (faults_in is shape 0 [] is) none)
