-- The contract block clause by clause: what is wrong, the clauses and where the body starts, with what is left of it.
use Rattle.std.proofs.Common.{◌≡◌, ℕ, ◌+◌, true, List, [], ◌∷◌, ◌++◌, Option, Some, None, refl, sym, ap, ◌∙◌, append_assoc, append-nil, if◌then◌else◌}
use Rattle.std.specs.List.{flat_map}
use Rattle.cil_model.specs.Blocks.{behind_last_closing, closes, start_of_body}
use Rattle.cil_model.specs.ClauseTrees.{clause_before, clauses_from, closing}
use Rattle.cil_model.specs.Terms.{Term}
use Rattle.cil_model.specs.declared.clause.ClauseKind.{ClauseKind}
use Rattle.cil_model.specs.declared.instruction.Instr.{Instr}
use Rattle.cil_model.specs.declared.shape.Shape.{Shape}
use Rattle.clause_faults.specs.ClauseCodes.{closing_of}
use Rattle.clause_faults.specs.Faults.{body_faults, code_faults, faults_in, faults_of, limit_faults, with_clause}
use Rattle.clause_faults.specs.Ways.{way_faults}
use Rattle.clause_faults.specs.declared.clause_fault.ClauseFault.{ClauseFault}
use Rattle.contract_extract.specs.Extracting.{NoneCloses}

closing_found : (code : List Instr) (call : Instr) (rest : List Instr) → NoneCloses code → closes call.op ≡ true → closing_of (code ++ call ∷ rest) ≡ Some call
closing_found [] call rest none e = rw e refl
closing_found (i ∷ code) call rest none e = rw none.0 (closing_found code call rest none.1 e)

-- What is wrong with a clause, for its code and its size.
abbrev pub clause_faults_with : List Instr → Shape → ℕ → List (ClauseKind × Option Term) → List Instr → Instr → List ClauseFault
clause_faults_with is shape start clauses code call = code_faults is shape start call (code ++ call ∷ []) ++ limit_faults is start clauses call

pub segment : (is : List Instr) (shape : Shape) (start : ℕ) (clauses : List (ClauseKind × Option Term)) (code : List Instr) (call : Instr) (rest : List Instr) → NoneCloses code → closes call.op ≡ true
    → faults_in is shape start clauses (code ++ call ∷ rest)
    ≡ clause_faults_with is shape start clauses code call ++ faults_in is shape (call.at + call.size) (with_clause is start clauses (closing call.op)) rest
segment is shape start clauses [] call rest none e =
    let ways = way_faults is shape start call in
    let limit = limit_faults is start clauses call in
    let own = faults_of is shape start call call in
    let later = faults_in is shape (call.at + call.size) (with_clause is start clauses (closing call.op)) rest in
    let one : faults_in is shape start clauses (call ∷ rest) ≡ (own ++ (ways ++ limit)) ++ later = rw e refl in
    one ∙ ap (λ faults. faults ++ later) (sym (append_assoc own ways limit) ∙ ap (λ mine. (mine ++ ways) ++ limit) (sym (append-nil own)))
segment is shape start clauses (i ∷ code) call rest none e =
    let ways = way_faults is shape start call in
    let limit = limit_faults is start clauses call in
    let own = faults_of is shape start call i in
    let others = flat_map (faults_of is shape start call) (code ++ call ∷ []) in
    let later = faults_in is shape (call.at + call.size) (with_clause is start clauses (closing call.op)) rest in
    let rest_of = faults_in is shape start clauses (code ++ call ∷ rest) in
    let found = closing_found code call rest none.1 e in
    let one : faults_in is shape start clauses (i ∷ (code ++ call ∷ rest)) ≡ (own ++ []) ++ rest_of = rw (none.0, found) refl in
    one ∙ ap (λ mine. mine ++ rest_of) (append-nil own) ∙ ap (λ faults. own ++ faults) (segment is shape start clauses code call rest none.1 e)
    ∙ sym (append_assoc own ((others ++ ways) ++ limit) later) ∙ ap (λ faults. faults ++ later) (sym (append_assoc own (others ++ ways) limit) ∙ ap (λ mine. mine ++ limit) (sym (append_assoc own others ways)))

pub clauses_segment : (is : List Instr) (start : ℕ) (code : List Instr) (call : Instr) (rest : List Instr) → NoneCloses code → closes call.op ≡ true
    → clauses_from is start (code ++ call ∷ rest) ≡ clause_before is start (closing call.op) ++ clauses_from is (call.at + call.size) rest
clauses_segment is start [] call rest none e = rw e refl
clauses_segment is start (i ∷ code) call rest none e = rw none.0 (clauses_segment is start code call rest none.1 e)

pub body_segment : (start : ℕ) (code : List Instr) (call : Instr) (rest : List Instr) → NoneCloses code → closes call.op ≡ true
    → behind_last_closing start (code ++ call ∷ rest) ≡ behind_last_closing (call.at + call.size) rest
body_segment start [] call rest none e = ap (λ c. behind_last_closing (if c then call.at + call.size else start) rest) e
body_segment start (i ∷ code) call rest none e =
    ap (λ c. behind_last_closing (if c then i.at + i.size else start) (code ++ call ∷ rest)) none.0 ∙ body_segment start code call rest none.1 e

-- ---- the body

pub body_left : (is : List Instr) (shape : Shape) (start : ℕ) (clauses : List (ClauseKind × Option Term)) (body : List Instr) → NoneCloses body
    → faults_in is shape start clauses body ≡ flat_map (body_faults (start_of_body is)) body
body_left is shape start clauses [] none = refl
body_left is shape start clauses (i ∷ body) none =
    let own = body_faults (start_of_body is) i in
    let rest_of = faults_in is shape start clauses body in
    let nothing = no_closing body none.1 in
    let one : faults_in is shape start clauses (i ∷ body) ≡ (own ++ []) ++ rest_of = rw (none.0, nothing) refl in
    one ∙ ap (λ mine. mine ++ rest_of) (append-nil own) ∙ ap (λ faults. own ++ faults) (body_left is shape start clauses body none.1)
  where
    no_closing : (body : List Instr) → NoneCloses body → closing_of body ≡ None
    no_closing [] none = refl
    no_closing (i ∷ body) none = rw none.0 (no_closing body none.1)

pub no_clauses_left : (is : List Instr) (start : ℕ) (body : List Instr) → NoneCloses body → clauses_from is start body ≡ []
no_clauses_left is start [] none = refl
no_clauses_left is start (i ∷ body) none = rw none.0 (no_clauses_left is start body none.1)

pub body_starts : (start : ℕ) (body : List Instr) → NoneCloses body → behind_last_closing start body ≡ start
body_starts start [] none = refl
body_starts start (i ∷ body) none = ap (λ c. behind_last_closing (if c then i.at + i.size else start) body) none.0 ∙ body_starts start body none.1
