-- All clauses of code that has kinds and no fault are numbers: each begins with an empty stack.
use Rattle.std.proofs.Common.{◌≡◌, ◌⊎◌, ℕ, ◌+◌, ◌<◌, ◌≤◌, Bool, true, false, List, [], ◌∷◌, ◌++◌, map, Option, Some, None, IfSome, if◌then◌else◌, refl, sym, ap, subst, ◌∙◌, arith, inl, inr}
use Rattle.std.specs.List.{AllByRecursion}
use Rattle.std.specs.Option.{option_map_or}
use Rattle.std.proofs.lemmas.Bool.{cases_lt, cond_both, cond-false, cond-true, eq-eqb, ne_eqb}
use Rattle.std.proofs.lemmas.Option.{same_Some}
use Rattle.cil_model.specs.Blocks.{closes, start_of_body}
use Rattle.cil_model.specs.ClauseTrees.{clause_before, clauses_from, clauses_in, closing, tree_of}
use Rattle.cil_model.specs.Clauses.{is_kind}
use Rattle.cil_model.specs.FitKinds.{AreDecoded}
use Rattle.cil_model.specs.Passes.{KindsOf, Stacks, stack_at}
use Rattle.cil_model.specs.Runs.{instr_at}
use Rattle.cil_model.specs.ShortCode.{AreOfShortCode, IsOfShortCode, LieFrom}
use Rattle.cil_model.specs.Terms.{Term}
use Rattle.cil_model.specs.TreeKinds.{IsNumberClause, kind_in}
use Rattle.cil_model.specs.WellFormed.{told_by_code}
use Rattle.cil_model.specs.declared.clause.Clause.{Clause}
use Rattle.cil_model.specs.declared.clause.ClauseKind.{ClauseKind}
use Rattle.cil_model.specs.declared.clause.ClauseKind.TheVariants as clause_kinds
use Rattle.cil_model.specs.declared.instruction.Instr.{Instr}
use Rattle.cil_model.specs.declared.place.Kind.TheVariants.{Int}
use Rattle.cil_model.specs.declared.shape.Shape.{Shape}
use Rattle.cil_model.proofs.Lists.{all_append}
use Rattle.clause_faults.specs.ClauseCodes.{closing_of}
use Rattle.clause_faults.specs.Faults.{body_faults, closed_faults, faults_in, faults_of, first_clause_fault, limit_faults, with_clause}
use Rattle.clause_faults.specs.Ways.{way_faults}
use Rattle.clause_faults.specs.declared.clause_fault.ClauseFault.{ClauseFault}
use Rattle.clause_faults.proofs.FaultLemmas.NoFaults.{no_first, none_in_both}
use Rattle.contract_extract.proofs.BlockLemmas.EmptyStacks.{empty_behind}
use Rattle.contract_extract.proofs.BlockLemmas.EmptyStart.{starts_empty}
use Rattle.contract_extract.proofs.TreeLemmas.HasTree.{IsClause}
use Rattle.contract_extract.proofs.BlockLemmas.InstrOffsets.{next_begins}
use Rattle.contract_extract.proofs.TreeLemmas.NumberClauses.{clause_is_number}

-- A clause as code tells it is a number, where it has a tree.
abbrev IsNumberTold : Shape → ClauseKind × Option Term → Type 0
IsNumberTold shape (kind, tree) = IfSome tree (λ t. kind_in shape.args shape.result (is_kind clause_kinds.Ensures kind) t ≡ Some Int)

told_numbers : (shape : Shape) (clauses : List Clause) → AllByRecursion (IsNumberTold shape) (map told_by_code clauses)
    → AllByRecursion (IsNumberClause shape.args shape.result) clauses
told_numbers shape [] all = tt
told_numbers shape (clause ∷ clauses) all = (all.0, told_numbers shape clauses all.1)

-- ---- instructions that lie one after another

all_also : (P Q : Instr → Type 0) → ((i : Instr) → P i → Q i) → (is : List Instr) → AllByRecursion P is → AllByRecursion Q is
all_also P Q to [] all = tt
all_also P Q to (i ∷ is) all = (to i all.0, all_also P Q to is all.1)

-- Each is found at its own IL offset.
record StandsFrom (is : List Instr) (from : ℕ) (i : Instr) : Type 0 where
  above : from ≤ i.at
  there : instr_at is i.at ≡ Some i

each_found : (from : ℕ) (is : List Instr) → LieFrom from is → AllByRecursion IsOfShortCode is → AllByRecursion (StandsFrom is from) is
each_found from [] lie each = tt
each_found from (i ∷ is) lie each =
    let later : (j : Instr) → StandsFrom is (from + i.size) j → StandsFrom (i ∷ is) from j = λ j stands. record {
      above = omega (arith, stands.above);
      there = rw (ne_eqb i.at j.at (λ e. omega (arith, e, lie.0, stands.above, each.0.some))) stands.there;
    } in (
      record { above = omega (arith, lie.0); there = rw (eq-eqb i.at i.at refl) refl },
      all_also (StandsFrom is (from + i.size)) (StandsFrom (i ∷ is) from) later is (each_found (from + i.size) is lie.1 each.1),
    )

-- Below the end of an instruction stand that one and those before it.
found_below : (is : List Instr) (i j : Instr) → AreOfShortCode is → instr_at is i.at ≡ Some i → instr_at is j.at ≡ Some j → j.at < i.at + i.size
    → (j.at < i.at) ⊎ (i ≡ j)
found_below is i j short found_i found_j below = elim (cases_lt j.at i.at) [
  | inl lower ↦ inl lower
  | inr upper ↦ elim (cases_lt i.at j.at) [
    | inl higher ↦ absurd (let end = (next_begins is i.at j.at i j short found_i found_j higher).inside in omega (arith, end, below))
    | inr same ↦
        let at : i.at ≡ j.at = omega (arith, upper, same) in
        inr (same_Some i j (sym found_i ∙ ap (instr_at is) at ∙ found_j))
  ]
]

-- ---- what no fault tells

none_of_call : (f : Instr → List ClauseFault) (others : List ClauseFault) (call : Option Instr) (i : Instr) → call ≡ Some i → option_map_or f call others ≡ [] → f i ≡ []
none_of_call f others call i is none = subst (λ (o : Option Instr). option_map_or f o others ≡ []) is none

module _ (is : List Instr) (shape : Shape) (stacks : Stacks) (short : AreOfShortCode is) (decoded : AreDecoded is) (kinds : KindsOf shape is stacks) where
  abbrev IsNumber : ClauseKind × Option Term → Type 0
  IsNumber told = IsNumberTold shape told

  -- The instructions from an IL offset on are left. The code of a clause begins at another, with an empty stack, and up
  -- to here nothing is wrong with it, whatever call closes it.
  record Reading (start from : ℕ) (rest : List Instr) : Type 0 where
    lie : LieFrom from rest
    there : AllByRecursion (λ j. instr_at is j.at ≡ Some j) rest
    inside : start ≤ from
    empty : stack_at is stacks start ≡ Some []
    others_stay : (j : Instr) → instr_at is j.at ≡ Some j → start ≤ j.at → j.at < from → closes j.op ≡ false
    right : (call : Instr) → closing_of rest ≡ Some call → (j : Instr) → instr_at is j.at ≡ Some j → start ≤ j.at → j.at < from → faults_of is shape start call j ≡ []

  begins : Reading 0 0 is
  begins = record {
    lie = short.lie;
    there = all_also (StandsFrom is 0) (λ j. instr_at is j.at ≡ Some j) (λ j stands. stands.there) is (each_found 0 is short.lie short.each);
    inside = omega arith;
    empty = starts_empty shape is stacks short.lie kinds;
    others_stay = λ j found above below. absurd (omega (arith, below));
    right = λ call closed j found above below. absurd (omega (arith, below));
  }

  module _ (start from : ℕ) (i : Instr) (rest : List Instr) (reading : Reading start from (i ∷ rest)) where
    -- An instruction that closes nothing, with nothing wrong with it.
    passed : closes i.op ≡ false → ((call : Instr) → closing_of rest ≡ Some call → faults_of is shape start call i ≡ []) → Reading start (from + i.size) rest
    passed stays none = record {
      lie = reading.lie.1;
      there = reading.there.1;
      inside = omega (arith, reading.inside);
      empty = reading.empty;
      others_stay = λ j found above below. elim (here_or_before j found below) [
        | inl before ↦ reading.others_stay j found above before
        | inr same ↦ subst (λ (k : Instr). closes k.op ≡ false) same stays
      ];
      right = λ call closed j found above below. elim (here_or_before j found below) [
        | inl before ↦ reading.right call (cond-false (closes i.op) (Some i) (closing_of rest) stays ∙ closed) j found above before
        | inr same ↦ subst (λ (k : Instr). faults_of is shape start call k ≡ []) same (none call closed)
      ];
    }
      where
        here_or_before : (j : Instr) → instr_at is j.at ≡ Some j → j.at < from + i.size → (j.at < from) ⊎ (i ≡ j)
        here_or_before j found below =
            subst (λ (n : ℕ). (j.at < n) ⊎ (i ≡ j)) reading.lie.0 (found_below is i j short reading.there.0 found (omega (arith, below, reading.lie.0)))

    -- The code of the next clause begins after a closing call.
    closed : stack_at is stacks (i.at + i.size) ≡ Some [] → Reading (i.at + i.size) (from + i.size) rest
    closed empty = record {
      lie = reading.lie.1;
      there = reading.there.1;
      inside = omega (arith, reading.lie.0);
      empty = empty;
      others_stay = λ j found above below. absurd (omega (arith, above, below, reading.lie.0));
      right = λ call closes_it j found above below. absurd (omega (arith, above, below, reading.lie.0));
    }

    module _ (closes_it : closes i.op ≡ true) (none : way_faults is shape start i ≡ []) where
      begins_below : start ≤ i.at
      begins_below = omega (arith, reading.inside, reading.lie.0)

      below_stay : (j : Instr) → instr_at is j.at ≡ Some j → start ≤ j.at → j.at < i.at → closes j.op ≡ false
      below_stay j found above below = reading.others_stay j found above (omega (arith, below, reading.lie.0))

      below_right : (j : Instr) → instr_at is j.at ≡ Some j → start ≤ j.at → j.at < i.at → faults_of is shape start i j ≡ []
      below_right j found above below =
          reading.right i (cond-true (closes i.op) (Some i) (closing_of rest) closes_it) j found above (omega (arith, below, reading.lie.0))

      stack_behind_empty : stack_at is stacks (i.at + i.size) ≡ Some []
      stack_behind_empty =
          empty_behind is shape start i
          (record { short = short; closes_it = closes_it; there = reading.there.0; others_stay = below_stay; right = below_right })
          stacks decoded kinds reading.empty begins_below none

      abbrev clause_of : (kind : ClauseKind) (message : Bool) → closing i.op ≡ Some (kind, message) → IsClause is shape start i
      clause_of kind message is_closed = record {
        short = short;
        targets = decoded.targets;
        kind = kind;
        message = message;
        closes_it = is_closed;
        there = reading.there.0;
        others_stay = below_stay;
        right = below_right;
      }

      clause_number : (kind : ClauseKind) (message : Bool) → closing i.op ≡ Some (kind, message) → (tree : Option Term) → tree_of is start ≡ tree → IsNumber (kind, tree)
      clause_number kind message is_closed None is_tree = tt
      clause_number kind message is_closed (Some tree) is_tree =
          clause_is_number is shape start i (clause_of kind message is_closed) stacks decoded kinds tree reading.empty begins_below none is_tree

      closed_number : (by_call : Option (ClauseKind × Bool)) → closing i.op ≡ by_call → AllByRecursion IsNumber (clause_before is start by_call)
      closed_number None is_closed = tt
      closed_number (Some (kind, message)) is_closed = (clause_number kind message is_closed (tree_of is start) refl, tt)

  -- The clauses up to and with an instruction, and what is wrong with it by itself.
  abbrev clauses_with : ℕ → List (ClauseKind × Option Term) → Instr → List (ClauseKind × Option Term)
  clauses_with start clauses i = if closes i.op then with_clause is start clauses (closing i.op) else clauses

  abbrev faults_by : ℕ → Instr → List Instr → List ClauseFault
  faults_by start i rest = option_map_or (λ call. faults_of is shape start call i) (closing_of (i ∷ rest)) (body_faults (start_of_body is) i)

  numbers_from : (rest : List Instr) (start from : ℕ) (clauses : List (ClauseKind × Option Term)) → Reading start from rest → faults_in is shape start clauses rest ≡ []
      → AllByRecursion IsNumber (clauses_from is start rest)
  numbers_from [] start from clauses reading none = tt
  numbers_from (i ∷ rest) start from clauses reading none =
      let last = none_in_both (faults_by start i rest ++ closed_faults is shape start clauses i) (faults_in is shape (if closes i.op then i.at + i.size else start) (clauses_with start clauses i) rest) none in
      let first = none_in_both (faults_by start i rest) (closed_faults is shape start clauses i) last.0 in
      cond_both (closes i.op) (clause_before is start (closing i.op) ++ clauses_from is (i.at + i.size) rest) (clauses_from is start rest) (AllByRecursion IsNumber)
      (λ closes_it.
      let ways = (none_in_both (way_faults is shape start i) (limit_faults is start clauses i) (sym (cond-true (closes i.op) _ _ closes_it) ∙ first.1)).0 in
      all_append IsNumber (clause_before is start (closing i.op)) (clauses_from is (i.at + i.size) rest)
      (closed_number start from i rest reading closes_it ways (closing i.op) refl)
      (numbers_from rest (i.at + i.size) (from + i.size) (clauses_with start clauses i) (closed start from i rest reading (stack_behind_empty start from i rest reading closes_it ways))
      (subst (λ (b : Bool). faults_in is shape (if b then i.at + i.size else start) (clauses_with start clauses i) rest ≡ []) closes_it last.1)))
      (λ stays.
      numbers_from rest start (from + i.size) (clauses_with start clauses i)
      (passed start from i rest reading stays
      (λ call is_call. none_of_call (λ c. faults_of is shape start c i) (body_faults (start_of_body is) i) (closing_of (i ∷ rest)) call
      (cond-false (closes i.op) (Some i) (closing_of rest) stays ∙ is_call) first.0))
      (subst (λ (b : Bool). faults_in is shape (if b then i.at + i.size else start) (clauses_with start clauses i) rest ≡ []) stays last.1))

-- All clauses of code with no fault are numbers, where the code has kinds.
pub all_numbers : (is : List Instr) (shape : Shape) (stacks : Stacks) → AreOfShortCode is → AreDecoded is → KindsOf shape is stacks
    → first_clause_fault is shape ≡ None → (clauses : List Clause) → clauses_in is ≡ map told_by_code clauses
    → AllByRecursion (IsNumberClause shape.args shape.result) clauses
all_numbers is shape stacks short decoded kinds none clauses told =
    told_numbers shape clauses (subst (AllByRecursion (IsNumberTold shape)) told
    (numbers_from is shape stacks short decoded kinds is 0 0 [] (begins is shape stacks short decoded kinds) (no_first (faults_in is shape 0 [] is) none)))
