-- Well formed units can be run.
use Rattle.std.proofs.Common.{◌≡◌, ℕ, ◌+◌, ◌^◌, ◌<◌, ◌≤◌, Bool, true, false, List, [], ◌∷◌, sum_by, Option, Some, None, refl, arith}
use Rattle.std.specs.List.{AllByRecursion}
use Rattle.std.proofs.lemmas.List.Sums.{sum_by-cons}
use Rattle.std.proofs.lemmas.Option.{none-some}
use Rattle.cil_model.specs.Calls.{clauses_in_force}
use Rattle.cil_model.specs.Clauses.{is_kind}
use Rattle.cil_model.specs.Comparisons.{comparison_of}
use Rattle.cil_model.specs.Offsets.{LieFrom}
use Rattle.cil_model.specs.ShortCode as short_code
use Rattle.cil_model.specs.ShortCode.{IsOfShortCode}
use Rattle.cil_model.specs.Terms as terms
use Rattle.cil_model.specs.Terms.{Term, old_count}
use Rattle.cil_model.specs.TreeKinds.{IsNumberClause, branch_kind, element_kind, kind_in, length_kind, operator_kind, unary_kind}
use Rattle.cil_model.specs.declared.clause.Clause.{Clause}
use Rattle.cil_model.specs.declared.clause.ClauseKind.TheVariants as kinds
use Rattle.cil_model.specs.declared.instruction.CmpOp.{CmpOp}
use Rattle.cil_model.specs.declared.instruction.Instr.{Instr}
use Rattle.cil_model.specs.declared.machine.World.{World}
use Rattle.cil_model.specs.declared.place.Kind.{Kind}
use Rattle.cil_model.specs.declared.place.Kind.TheVariants.{Int}
use Rattle.cil_model.specs.declared.place.Place.{Place}
use Rattle.cil_model.specs.declared.unit.Unit.{Unit as MethodUnit}
use Rattle.cil_model.specs.WellFormed.{IsWellFormed}
use Rattle.cil_model.proofs.OffsetSearch.{laid_rise}
use Rattle.cil_model.proofs.ShortCodes.{code_lies}
use Rattle.cil_eval.specs.Flows.{AreRunnable, IsRunnable}
use Rattle.cil_eval.specs.RunWorlds.{CanBeRun}
use Rattle.clause_eval.specs.Told.{LacksResult, OldsLackResult, olds_in, olds_in_clauses}

-- ---- code

lies : (at : ℕ) (is : List Instr) → short_code.LieFrom at is → AllByRecursion IsOfShortCode is → LieFrom at is
lies at [] lie each = tt
lies at (i ∷ is) lie each = (lie.0, each.0.some, lies (at + i.size) is lie.1 each.1)

behind : (is : List Instr) → AllByRecursion IsOfShortCode is → AllByRecursion (λ (i : Instr). i.at + i.size < 2 ^ 32) is
behind [] each = tt
behind (i ∷ is) each = (omega (arith, each.0.end), behind is each.1)

-- ---- how many old values

fewer_olds : (t : Term) → olds_in t ≤ old_count t
fewer_olds (terms.Len a) = fewer_olds a
fewer_olds (terms.Elem place a b) = omega (arith, fewer_olds a, fewer_olds b)
fewer_olds (terms.Bin operator a b) = omega (arith, fewer_olds a, fewer_olds b)
fewer_olds (terms.Un operator a) = fewer_olds a
fewer_olds (terms.Old a) = omega arith
fewer_olds (terms.Cond a b c) = omega (arith, fewer_olds a, fewer_olds b, fewer_olds c)
fewer_olds (terms.Const n) = omega arith
fewer_olds (terms.Arg n) = omega arith
fewer_olds terms.Null = omega arith
fewer_olds terms.Result = omega arith

all_fewer : (clauses : List Clause) → olds_in_clauses clauses ≤ sum_by (λ clause. old_count clause.tree) clauses
all_fewer [] = omega arith
all_fewer (clause ∷ clauses) =
    let rest = all_fewer clauses in
    let one = fewer_olds clause.tree in
    rw sum_by-cons (omega (arith, rest, one))

-- ---- old values do not read the result

some_length : (o : Option Kind) (k : Kind) → length_kind o ≡ Some k → (j : Kind) × (o ≡ Some j)
some_length None k e = absurd (none-some k e)
some_length (Some j) k e = (j, refl)

some_unary : (o : Option Kind) (k : Kind) → unary_kind o ≡ Some k → (j : Kind) × (o ≡ Some j)
some_unary None k e = absurd (none-some k e)
some_unary (Some j) k e = (j, refl)

some_element : (place : Place) (a b : Option Kind) (k : Kind) → element_kind place a b ≡ Some k → ((i : Kind) × (a ≡ Some i)) × ((j : Kind) × (b ≡ Some j))
some_element place (Some i) (Some j) k e = ((i, refl), (j, refl))
some_element place None b k e = absurd (none-some k e)
some_element place (Some i) None k e = absurd (none-some k e)

some_operator : (op : Option CmpOp) (a b : Option Kind) (k : Kind) → operator_kind op a b ≡ Some k → ((i : Kind) × (a ≡ Some i)) × ((j : Kind) × (b ≡ Some j))
some_operator None (Some i) (Some j) k e = ((i, refl), (j, refl))
some_operator (Some op) (Some i) (Some j) k e = ((i, refl), (j, refl))
some_operator None None b k e = absurd (none-some k e)
some_operator None (Some i) None k e = absurd (none-some k e)
some_operator (Some op) None b k e = absurd (none-some k e)
some_operator (Some op) (Some i) None k e = absurd (none-some k e)

some_branch : (a b c : Option Kind) (k : Kind) → branch_kind a b c ≡ Some k → ((i : Kind) × (a ≡ Some i)) × (((j : Kind) × (b ≡ Some j)) × ((l : Kind) × (c ≡ Some l)))
some_branch (Some i) (Some j) (Some l) k e = ((i, refl), ((j, refl), (l, refl)))
some_branch None b c k e = absurd (none-some k e)
some_branch (Some i) None c k e = absurd (none-some k e)
some_branch (Some i) (Some j) None k e = absurd (none-some k e)

module _ (args : List Place) (result : Place) where
  lacks : (t : Term) (k : Kind) → kind_in args result false t ≡ Some k → LacksResult t
  lacks (terms.Const n) k e = tt
  lacks (terms.Arg n) k e = tt
  lacks terms.Null k e = tt
  lacks terms.Result k e = absurd (none-some k e)
  lacks (terms.Len a) k e = let p = some_length (kind_in args result false a) k e in lacks a p.0 p.1
  lacks (terms.Elem place a b) k e =
      let p = some_element place (kind_in args result false a) (kind_in args result false b) k e in (lacks a p.0.0 p.0.1, lacks b p.1.0 p.1.1)
  lacks (terms.Bin operator a b) k e =
      let p = some_operator (comparison_of operator) (kind_in args result false a) (kind_in args result false b) k e in (lacks a p.0.0 p.0.1, lacks b p.1.0 p.1.1)
  lacks (terms.Un operator a) k e = let p = some_unary (kind_in args result false a) k e in lacks a p.0 p.1
  lacks (terms.Old a) k e = absurd (none-some k e)
  lacks (terms.Cond a b c) k e =
      let p = some_branch (kind_in args result false a) (kind_in args result false b) (kind_in args result false c) k e in
      (lacks a p.0.0 p.0.1, (lacks b p.1.0.0 p.1.0.1, lacks c p.1.1.0 p.1.1.1))

  olds_lack : (ensured : Bool) (t : Term) (k : Kind) → kind_in args result ensured t ≡ Some k → OldsLackResult t
  olds_lack ensured (terms.Const n) k e = tt
  olds_lack ensured (terms.Arg n) k e = tt
  olds_lack ensured terms.Null k e = tt
  olds_lack ensured terms.Result k e = tt
  olds_lack ensured (terms.Len a) k e = let p = some_length (kind_in args result ensured a) k e in olds_lack ensured a p.0 p.1
  olds_lack ensured (terms.Elem place a b) k e =
      let p = some_element place (kind_in args result ensured a) (kind_in args result ensured b) k e in (olds_lack ensured a p.0.0 p.0.1, olds_lack ensured b p.1.0 p.1.1)
  olds_lack ensured (terms.Bin operator a b) k e =
      let p = some_operator (comparison_of operator) (kind_in args result ensured a) (kind_in args result ensured b) k e in
      (olds_lack ensured a p.0.0 p.0.1, olds_lack ensured b p.1.0 p.1.1)
  olds_lack ensured (terms.Un operator a) k e = let p = some_unary (kind_in args result ensured a) k e in olds_lack ensured a p.0 p.1
  olds_lack true (terms.Old a) k e = lacks a k e
  olds_lack false (terms.Old a) k e = absurd (none-some k e)
  olds_lack ensured (terms.Cond a b c) k e =
      let p = some_branch (kind_in args result ensured a) (kind_in args result ensured b) (kind_in args result ensured c) k e in
      (olds_lack ensured a p.0.0 p.0.1, (olds_lack ensured b p.1.0.0 p.1.0.1, olds_lack ensured c p.1.1.0 p.1.1.1))

  all_lack : (clauses : List Clause) → AllByRecursion (IsNumberClause args result) clauses → AllByRecursion (λ (clause : Clause). OldsLackResult clause.tree) clauses
  all_lack [] numbers = tt
  all_lack (clause ∷ clauses) numbers = (olds_lack (is_kind kinds.Ensures clause.kind) clause.tree Int numbers.0, all_lack clauses numbers.1)

-- ---- units

pub can_run : (unit : MethodUnit) → IsWellFormed unit → IsRunnable unit
can_run unit formed =
    let limits = formed.limits in
    let parts = code_lies 0 unit.instrs unit.code formed.code.spelled (omega (arith, limits.code)) in
    record {
      rise = laid_rise unit.instrs (record { lie = lies 0 unit.instrs parts.0 parts.1 });
      behind = behind unit.instrs parts.1;
      args = omega (arith, limits.variables);
      locals = omega (arith, limits.variables);
      clauses = omega (arith, limits.clauses.count);
      few_olds = let few = all_fewer (clauses_in_force unit) in omega (arith, few, limits.clauses.old_values);
      olds = all_lack unit.args unit.result (clauses_in_force unit) formed.numbers;
    }

all_can : (units : List MethodUnit) → AllByRecursion IsWellFormed units → AllByRecursion IsRunnable units
all_can [] all = tt
all_can (unit ∷ units) all = (can_run unit all.0, all_can units all.1)

pub world_can : (w : World) → CanBeRun w → AreRunnable w
world_can w can = all_can w.units can.units
