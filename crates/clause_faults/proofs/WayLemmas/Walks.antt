-- The ways through a clause's code, by recursion on the code that lies ahead.
use Rattle.std.proofs.Common.{◌≡◌, ℕ, zero, suc, ◌+◌, ◌<◌, ◌≤◌, ◌==◌, Bool, true, false, not, List, [], ◌∷◌, ◌++◌, length, Some, None, refl, ap, cond, ◌∙◌, arith, inl, inr}
use Rattle.std.specs.Prelude.{nat_lt, nat_le}
use Rattle.std.specs.List.{flat_map}
use Rattle.std.proofs.lemmas.Bool.{and_parts, eq-eqb, ltb-true, leb-true, ne_eqb, cases_order}
use Rattle.cil_model.specs.Blocks.{closes}
use Rattle.cil_model.specs.Kinds.{operand_count}
use Rattle.cil_model.specs.Offsets.{RiseFrom}
use Rattle.cil_model.specs.Runs.{instr_at}
use Rattle.cil_model.specs.declared.instruction.Instr.{Instr}
use Rattle.cil_model.specs.declared.shape.Shape.{Shape}
use Rattle.clause_faults.specs.ClauseCodes.{goes_forward}
use Rattle.clause_faults.specs.Faults.{first_fault}
use Rattle.clause_faults.specs.PureCode.{is_pure}
use Rattle.clause_faults.specs.SharedStacks.{either}
use Rattle.clause_faults.specs.Ways.{Told, closing_faults, faults_at, faults_from, faults_here, stack_behind, ways_behind}
use Rattle.clause_faults.specs.declared.clause_fault.ClauseFault.{ClauseFault}
use Rattle.clause_faults.specs.declared.clause_fault.ClauseFault.TheVariants.{StackLeft}
use Rattle.clause_faults.proofs.WayLemmas.Joins.{Joins, at_joins}

module _ (is : List Instr) (shape : Shape) (closing : Instr) where
  -- What is wrong on the ways on from an IL offset, in this code.
  abbrev pub walk : List Instr → ℕ → List Told → List ClauseFault
  walk [] at stack = []
  walk (i ∷ rest) at stack =
      cond (i.at == at) (faults_at (λ later behind. cond (goes_forward at later closing) (walk rest later behind) []) is shape i stack) (walk rest at stack)

  -- The same after an instruction, where a way may go on so.
  abbrev pub ahead : ℕ → List Instr → ℕ → List Told → List ClauseFault
  ahead at rest later stack = cond (goes_forward at later closing) (walk rest later stack) []

pub rise_higher : (low high : ℕ) (rest : List Instr) → low ≤ high → RiseFrom high rest → RiseFrom low rest
rise_higher low high [] le rise = tt
rise_higher low high (i ∷ rest) le rise = let h = rise.0 in (omega arith, rise.1)

-- Below the offsets there is nothing.
pub none_below : (low at : ℕ) (rest : List Instr) → RiseFrom low rest → at < low → instr_at rest at ≡ None
none_below low at [] rise below = refl
none_below low at (i ∷ rest) rise below =
    let test : (i.at == at) ≡ false = (let h = rise.0 in ne_eqb i.at at (λ e. omega arith)) in
    rw test (none_below (suc i.at) at rest rise.1 (let h = rise.0 in omega arith))

pub no_walk_below : (is : List Instr) (shape : Shape) (closing : Instr) (low at : ℕ) (rest : List Instr) (stack : List Told) → RiseFrom low rest → at < low
    → walk is shape closing rest at stack ≡ []
no_walk_below is shape closing low at [] stack rise below = refl
no_walk_below is shape closing low at (i ∷ rest) stack rise below =
    let test : (i.at == at) ≡ false = (let h = rise.0 in ne_eqb i.at at (λ e. omega arith)) in
    rw test (no_walk_below is shape closing (suc i.at) at rest stack rise.1 (let h = rise.0 in omega arith))

-- Two ways to look ahead that give the same find the same.
faults_at-same : (f g : ℕ → List Told → List ClauseFault) (is : List Instr) (shape : Shape) (i : Instr) (stack : List Told)
    → ((later : ℕ) (behind : List Told) → f later behind ≡ g later behind) → faults_at f is shape i stack ≡ faults_at g is shape i stack
faults_at-same f g is shape i stack same =
    ap (λ (faults : List ClauseFault). cond (closes i.op) (closing_faults i.at (operand_count shape i.op) (length stack))
    (cond (not (is_pure is i)) [] (cond (nat_lt (length stack) (operand_count shape i.op)) (StackLeft i.at ∷ []) (faults_here i i.op stack ++ faults))))
    (each (ways_behind i.op (i.at + i.size)))
  where
    each : (ways : List ℕ) → flat_map (λ later. f later (stack_behind shape i i.op stack)) ways ≡ flat_map (λ later. g later (stack_behind shape i i.op stack)) ways
    each [] = refl
    each (later ∷ ways) = rw (same later (stack_behind shape i i.op stack), each ways) refl

module _ (is : List Instr) (shape : Shape) (closing : Instr) where
  -- The code has what the ways come to, from an offset on.
  abbrev pub Has : ℕ → List Instr → Type 0
  Has low rest = (at : ℕ) → low ≤ at → at ≤ closing.at → instr_at is at ≡ instr_at rest at

  forward : (at later : ℕ) → goes_forward at later closing ≡ true → (at < later) × (later ≤ closing.at)
  forward at later e = let parts = and_parts (nat_lt at later) (nat_le later closing.at) e in (ltb-true at later parts.0, leb-true later closing.at parts.1)

  -- What is found after an instruction.
  tail_has : (low : ℕ) (i : Instr) (rest : List Instr) → low ≤ i.at → Has low (i ∷ rest) → Has (suc i.at) rest
  tail_has low i rest le has at above inside =
      has at (omega arith) inside ∙ (let test : (i.at == at) ≡ false = ne_eqb i.at at (λ e. omega arith) in rw test refl)

  pub walk_is : (most : ℕ) (rest : List Instr) (low at : ℕ) (stack : List Told) → RiseFrom low rest → length rest ≤ most → low ≤ at → at ≤ closing.at → Has low rest
      → faults_from most is shape closing at stack ≡ walk is shape closing rest at stack
  walk_is zero [] low at stack rise enough above inside has = refl
  walk_is (suc most) [] low at stack rise enough above inside has = let found = has at above inside in rw found refl
  walk_is zero (i ∷ rest) low at stack rise enough above inside has = absurd (omega arith)
  walk_is (suc most) (i ∷ rest) low at stack rise enough above inside has =
      elim (cases_order i.at at) [
        | inl here ↦
            (let test : (i.at == at) ≡ true = eq-eqb i.at at here in
            let found : instr_at is at ≡ Some i = has at above inside ∙ rw test refl in
            rw (found, test)
            (faults_at-same (λ later behind. cond (goes_forward at later closing) (faults_from most is shape closing later behind) [])
            (λ later behind. cond (goes_forward at later closing) (walk is shape closing rest later behind) []) is shape i stack
            (λ later behind. on here later behind
            (λ above_i inside_too. walk_is most rest (suc i.at) later behind rise.1 (omega arith) above_i inside_too (tail_has low i rest rise.0 has)) (goes_forward at later closing) refl)))
        | inr (inl before) ↦
            (let test : (i.at == at) ≡ false = ne_eqb i.at at (λ e. omega arith) in
            rw test (walk_is (suc most) rest (suc i.at) at stack rise.1 (omega arith) before inside (tail_has low i rest rise.0 has)))
        | inr (inr behind) ↦
            (let test : (i.at == at) ≡ false = ne_eqb i.at at (λ e. omega arith) in
            let none : instr_at is at ≡ None = has at above inside ∙ rw test (none_below (suc i.at) at rest rise.1 (omega arith)) in
            let nothing = no_walk_below is shape closing (suc i.at) at rest stack rise.1 (omega arith) in
            rw (none, test, nothing) refl)
      ]
    where
      on : i.at ≡ at → (later : ℕ) (behind : List Told)
          → (suc i.at ≤ later → later ≤ closing.at → faults_from most is shape closing later behind ≡ walk is shape closing rest later behind) → (test : Bool)
          → goes_forward at later closing ≡ test → cond test (faults_from most is shape closing later behind) [] ≡ cond test (walk is shape closing rest later behind) []
      on here later behind deeper false e = refl
      on here later behind deeper true e = let h = forward at later e in let low_later = h.0 in deeper (omega arith) h.1

-- ---- joined stacks

module _ (is : List Instr) (shape : Shape) (closing : Instr) where
  guarded : (from : ℕ → List Told → List ClauseFault) (test : ℕ → Bool) → Joins from → Joins (λ later stack. cond (test later) (from later stack) [])
  guarded from test joins later a b c j = by (test later)
    where
      by : (t : Bool) → first_fault (cond t (from later c) []) ≡ either (first_fault (cond t (from later a) [])) (first_fault (cond t (from later b) []))
      by true = joins later a b c j
      by false = refl

  first_joins : (i : Instr) (rest : List Instr) → Joins (walk is shape closing rest) → Joins (walk is shape closing (i ∷ rest))
  first_joins i rest joins later a b c j = by (i.at == later)
    where
      by : (t : Bool)
          → first_fault (cond t (faults_at (λ at behind. cond (goes_forward later at closing) (walk is shape closing rest at behind) []) is shape i c) (walk is shape closing rest later c))
          ≡ either (first_fault (cond t (faults_at (λ at behind. cond (goes_forward later at closing) (walk is shape closing rest at behind) []) is shape i a) (walk is shape closing rest later a)))
          (first_fault (cond t (faults_at (λ at behind. cond (goes_forward later at closing) (walk is shape closing rest at behind) []) is shape i b) (walk is shape closing rest later b)))
      by true =
          at_joins (λ at behind. cond (goes_forward later at closing) (walk is shape closing rest at behind) []) is shape i
          (guarded (walk is shape closing rest) (λ at. goes_forward later at closing) joins) a b c j
      by false = joins later a b c j

  pub walk_joins : (rest : List Instr) → Joins (walk is shape closing rest)
  walk_joins [] later a b c j = refl
  walk_joins (i ∷ rest) later a b c j = first_joins i rest (walk_joins rest) later a b c j

  pub ahead_joins : (at : ℕ) (rest : List Instr) → Joins (ahead is shape closing at rest)
  ahead_joins at rest = guarded (walk is shape closing rest) (λ later. goes_forward at later closing) (walk_joins rest)
