-- A fault that is ruled out does not come, and where none came the conditions are met.
use Rattle.std.proofs.Common.{◌≡◌, ℕ, ℤ, Bool, true, false, Option, Some, None, List, [], ◌∷◌, refl, sym, subst, ⊎_elim}
use Rattle.std.specs.Prelude.{if◌then◌else◌}
use Rattle.std.specs.List.{AllByRecursion}
use Rattle.std.specs.Option.{ForSome, option_map_or}
use Rattle.std.proofs.lemmas.Bool.{cond_both, false≢true}
use Rattle.cil_model.specs.Effects.{Effect, Faults, HasEffect, effects}
use Rattle.cil_model.specs.Values.{Heap}
use Rattle.cil_model.specs.declared.instruction.BinOp.{BinOp}
use Rattle.cil_model.specs.declared.instruction.BinOp.TheVariants as operators
use Rattle.cil_model.specs.declared.instruction.Instr.{Instr}
use Rattle.cil_model.specs.declared.instruction.Op.{Op}
use Rattle.cil_model.specs.declared.machine.FaultKind.{FaultKind}
use Rattle.cil_model.specs.declared.unit.Unit.{Unit as MethodUnit}
use Rattle.domain_api.specs.declared.expr.Expr.{Expr}
use Rattle.machine_points.specs.declared.point.Point.{Point}
use Rattle.state_facts.specs.Forms.{HasForm}
use Rattle.state_facts.specs.Holds.{HoldsAt, HoldsIn, variables_of}
use Rattle.state_facts.specs.StateFacts.{StateFacts, State}
use Rattle.state_obligations.proofs.ConditionLaws.{entailed_is_met, met_is_kept}
use Rattle.state_obligations.proofs.JudgedLaws.{met_are_kept}
use Rattle.state_obligations.specs.Assumed.{assumed_by}
use Rattle.state_obligations.specs.Conditions.{conditions_of, fault_of, is_of, operator_conditions, with_fault}
use Rattle.state_obligations.specs.Entailed.{entailed_by}
use Rattle.state_obligations.specs.Faults.{EffectsFaultWhereUnmet, IsFirstUnmet}
use Rattle.state_obligations.specs.Meaning.{AreMet, AreOfInt32, IsMet, IsOfInt32}
use Rattle.state_obligations.specs.declared.condition.Condition.{Condition}
use Rattle.state_obligations.specs.declared.condition.Condition.TheVariants as conditions
use Rattle.state_obligations.specs.declared.condition.Operation.{Operation}
use Rattle.state_obligations.specs.declared.condition.Operation.TheVariants as operations
use Rattle.obligation_prover.specs.Avoiding.{avoid, avoid_all}
use Rattle.obligation_prover.specs.Entailed.{condition_of, rules_out}
use Rattle.obligation_prover.specs.Meaning.{AssumesNoFault, RulesOut}
use Rattle.obligation_prover.specs.Operations.{conditions_after, conditions_at, operation_of}
use Rattle.obligation_prover.proofs.Faulting.{assumed_where_met, faults_where_unmet}
use Rattle.obligation_prover.proofs.Operands.{assumed_fit, assumed_there, conditions_fit, conditions_there}
use Rattle.obligation_prover.proofs.PointValues.{FitsVar, values_fit, variables_fit}

-- ---- the condition of a fault

-- No two of these are of one fault.
abbrev pub AreDistinct : List Condition → Type 0
AreDistinct [] = Unit {0}
AreDistinct (c ∷ cs) = AllByRecursion (λ d. is_of (fault_of d) c ≡ false) cs × AreDistinct cs

operator_distinct : (op : BinOp) (a b : Expr) → AreDistinct (operator_conditions op a b)
operator_distinct operators.Div a b = ((refl, tt), (tt, tt))
operator_distinct operators.Rem a b = ((refl, tt), (tt, tt))
operator_distinct operators.DivUn a b = (tt, tt)
operator_distinct operators.RemUn a b = (tt, tt)
operator_distinct operators.Shl a b = (tt, tt)
operator_distinct operators.Shr a b = (tt, tt)
operator_distinct operators.ShrUn a b = (tt, tt)
operator_distinct operators.AddOvf a b = (tt, tt)
operator_distinct operators.MulOvf a b = (tt, tt)
operator_distinct operators.SubOvf a b = (tt, tt)
operator_distinct _ a b = tt

operation_distinct : (o : Operation) → AreDistinct (conditions_of o)
operation_distinct (operations.Length r) = (tt, tt)
operation_distinct (operations.Element r i) = ((refl, (refl, tt)), ((refl, tt), (tt, tt)))
operation_distinct (operations.NewArray n) = (tt, tt)
operation_distinct (operations.Binary op a b) = operator_distinct op a b
operation_distinct (operations.Assert e) = (tt, tt)

pub distinct_at : (op : Op) (known : StateFacts) → AreDistinct (conditions_at op known)
distinct_at op known = each (operation_of op known)
  where
    each : (o : Option Operation) → AreDistinct (option_map_or conditions_of o [])
    each None = tt
    each (Some o) = operation_distinct o

pub is_own : (c : Condition) → is_of (fault_of c) c ≡ true
is_own (conditions.NullUse r) = refl
is_own (conditions.Lower i) = refl
is_own (conditions.Upper r i) = refl
is_own (conditions.ArraySize n) = refl
is_own (conditions.Shift n) = refl
is_own (conditions.DivZero b) = refl
is_own (conditions.DivOverflow a b) = refl
is_own (conditions.Overflow op a b) = refl
is_own (conditions.Assert e) = refl

-- What is so of each is so of the one of a fault.
pub found_is : (P : Condition → Type 0) (kind : FaultKind) (cs : List Condition) (c : Condition) → AllByRecursion P cs → with_fault kind cs ≡ Some c → P c
found_is P kind [] c all is = absurd (none is)
  where
    none : None ≡ Some c → ⊥
    none is = cc
found_is P kind (d ∷ cs) c all is =
    cond_both (is_of kind d) _ _ (λ (o : Option Condition). o ≡ Some c → P c) (λ here e. subst P (same d e) all.0) (λ other e. found_is P kind cs c all.1 e) is
  where
    same : (d : Condition) → Some d ≡ Some c → d ≡ c
    same d e = cc

module _ (heap : Heap) (number : ℕ → ℤ) (array : ℕ → Option ℕ) where
  no_earlier : (kind : FaultKind) (c : Condition) (cs : List Condition) → AllByRecursion (λ d. is_of (fault_of d) c ≡ false) cs → IsFirstUnmet kind cs heap number array
      → is_of kind c ≡ false
  no_earlier kind c [] differ unmet = absurd unmet
  no_earlier kind c (d ∷ cs) differ unmet =
      ⊎_elim (λ here. subst (λ (k : FaultKind). is_of k c ≡ false) (sym here.1) differ.0) (λ later. no_earlier kind c cs differ.1 later.1) unmet

  -- The first that is not met is the one of the fault.
  pub unmet_found : (kind : FaultKind) (cs : List Condition) (c : Condition) → AreDistinct cs → IsFirstUnmet kind cs heap number array → with_fault kind cs ≡ Some c
      → IsMet c heap number array → ⊥
  unmet_found kind [] c distinct unmet is met = unmet
  unmet_found kind (d ∷ cs) c distinct unmet is met =
      ⊎_elim
      (λ here. here.0 (subst (λ (x : Condition). IsMet x heap number array) (sym (own here.1 is)) met))
      (λ later. unmet_found kind cs c distinct.1 later.1 (next (no_earlier kind d cs distinct.0 later.1) is) met) unmet
    where
      own : kind ≡ fault_of d → with_fault kind (d ∷ cs) ≡ Some c → d ≡ c
      own same e =
          let true_is : is_of kind d ≡ true = subst (λ (k : FaultKind). is_of k d ≡ true) (sym same) (is_own d) in
          some_same (subst (λ (b : Bool). (if b then Some d else with_fault kind cs) ≡ Some c) true_is e)
        where
          some_same : Some d ≡ Some c → d ≡ c
          some_same e = cc

      next : is_of kind d ≡ false → with_fault kind (d ∷ cs) ≡ Some c → with_fault kind cs ≡ Some c
      next other e = subst (λ (b : Bool). (if b then Some d else with_fault kind cs) ≡ Some c) other e

-- ---- a point of which what is known holds

same_fault : (a b : FaultKind) → Faults a ≡ Faults b → a ≡ b
same_fault a b same = cc

alone_is : (fault : FaultKind) (effect : Effect) → HasEffect (Faults fault ∷ []) effect → effect ≡ Faults fault
alone_is fault effect has = ⊎_elim (λ is. is) (λ none. absurd none) has

module _ (unit : MethodUnit) (i : Instr) (p : Point) (known : StateFacts) (form : HasForm known) (at : HoldsAt (Some known) p) where
  abbrev cs : List Condition
  cs = conditions_at i.op known

  abbrev after : List Condition
  after = conditions_after i.op known

  variables_here : AllByRecursion (FitsVar at.frame.number) known.variables
  variables_here =
      variables_fit at.frame.number at.frame.array known.variables (variables_of p.frame) at.frame.holds.variables
      (values_fit at.frame.number at.frame.array p at.machine)

  pub fit_here : AreOfInt32 cs at.frame.number
  fit_here = conditions_fit i.op known at.frame.number variables_here

  pub faults_here : (effect : Effect) → HasEffect (effects unit i p.frame p.heap) effect
      → EffectsFaultWhereUnmet cs p.heap at.frame.number at.frame.array (effects unit i p.frame p.heap)
  faults_here effect has = faults_where_unmet unit i p.frame p.heap known at.frame.number at.frame.array effect at.frame.holds.variables has

  -- A fault that comes is that of the first condition that is not met.
  unmet_here : (kind : FaultKind) → HasEffect (effects unit i p.frame p.heap) (Faults kind) → IsFirstUnmet kind cs p.heap at.frame.number at.frame.array
  unmet_here kind has = ⊎_elim
      (λ met. absurd (met.1 kind has))
      (λ ends. subst (λ (k : FaultKind). IsFirstUnmet k cs p.heap at.frame.number at.frame.array)
      (sym (same_fault kind ends.fault (alone_is ends.fault (Faults kind) (subst (λ (es : List Effect). HasEffect es (Faults kind)) ends.alone has)))) ends.first)
      (faults_here (Faults kind) has)

  -- Where it does something else, all are met.
  pub met_here : (effect : Effect) → HasEffect (effects unit i p.frame p.heap) effect → ((kind : FaultKind) → effect ≡ Faults kind → ⊥)
      → AreMet cs p.heap at.frame.number at.frame.array
  met_here effect has other = ⊎_elim (λ met. met.0)
      (λ ends. absurd (other ends.fault (alone_is ends.fault effect (subst (λ (es : List Effect). HasEffect es effect) ends.alone has)))) (faults_here effect has)

  -- So is what is assumed after it.
  met_after : (effect : Effect) → HasEffect (effects unit i p.frame p.heap) effect
      → ((kind : FaultKind) → effect ≡ Faults kind → ⊥) → AreMet after p.heap at.frame.number at.frame.array
  met_after effect has other =
      assumed_where_met unit i p.frame p.heap known at.frame.number at.frame.array effect at.frame.holds.variables
      at.machine.stack has (met_here effect has other)

  pub not_here : (kind : FaultKind) → rules_out unit i.op kind (Some known) ≡ true → HasEffect (effects unit i p.frame p.heap) (Faults kind) → ⊥
  not_here kind so has = by (condition_of unit i.op kind known) refl so
    where
      by : (o : Option Condition) → condition_of unit i.op kind known ≡ o → option_map_or (λ c. entailed_by c known) o false ≡ true → ⊥
      by None is so = false≢true so
      by (Some c) is so =
          unmet_found p.heap at.frame.number at.frame.array kind cs c (distinct_at i.op known) (unmet_here kind has) is
          (entailed_is_met c known form (found_is _ kind cs c (conditions_there i.op known form) is) so (variables_of p.frame) p.heap at.frame.number at.frame.array
          at.frame.holds (found_is (λ d. IsOfInt32 d at.frame.number) kind cs c fit_here is))

  at_state : (o : State) → HoldsIn o (variables_of p.frame) p.heap at.frame.number at.frame.array → HoldsAt o p
  at_state o holds = record { machine = at.machine; frame = record { number = at.frame.number; array = at.frame.array; holds = holds } }

  avoided_here : (kind : FaultKind) → AreMet cs p.heap at.frame.number at.frame.array → HoldsAt (avoid unit i.op kind (Some known)) p
  avoided_here kind met = by (condition_of unit i.op kind known) refl
    where
      by : (o : Option Condition) → condition_of unit i.op kind known ≡ o → HoldsAt (option_map_or (λ c. assumed_by c known) o (Some known)) p
      by None is = at
      by (Some c) is =
          at_state (assumed_by c known)
          (met_is_kept c known form (found_is _ kind cs c (conditions_there i.op known form) is) (variables_of p.frame) p.heap at.frame.number at.frame.array
          at.machine.heap at.frame.holds (found_is (λ d. IsOfInt32 d at.frame.number) kind cs c fit_here is)
          (found_is (λ d. IsMet d p.heap at.frame.number at.frame.array) kind cs c met is))

  all_avoided_here : AreMet after p.heap at.frame.number at.frame.array → HoldsAt (avoid_all i.op (Some known)) p
  all_avoided_here met =
      at_state (avoid_all i.op (Some known))
      (met_are_kept after known form (assumed_there i.op known form) (variables_of p.frame) p.heap at.frame.number
      at.frame.array at.machine.heap at.frame.holds (assumed_fit i.op known at.frame.number variables_here) met)

-- ---- states

pub ruled_out : (unit : MethodUnit) (op : Op) (kind : FaultKind) (state : State) → ForSome state HasForm → rules_out unit op kind state ≡ true → RulesOut unit op kind state
ruled_out unit op kind None form so = λ i p same at has. at.frame.holds
ruled_out unit op kind (Some known) form so = λ i p same at has.
    not_here unit i p known (form known refl) at kind (subst (λ (o : Op). rules_out unit o kind (Some known) ≡ true) (sym same) so) has

pub avoided : (unit : MethodUnit) (op : Op) (kind : FaultKind) (state : State) → ForSome state HasForm → AssumesNoFault unit op state (avoid unit op kind state)
avoided unit op kind None form = λ i p effect same at has other. at
avoided unit op kind (Some known) form = λ i p effect same at has other.
    subst (λ (o : Op). HoldsAt (avoid unit o kind (Some known)) p) same
    (avoided_here unit i p known (form known refl) at kind (met_here unit i p known (form known refl) at effect has other))

pub all_avoided : (unit : MethodUnit) (op : Op) (state : State) → ForSome state HasForm → AssumesNoFault unit op state (avoid_all op state)
all_avoided unit op None form = λ i p effect same at has other. at
all_avoided unit op (Some known) form = λ i p effect same at has other.
    subst (λ (o : Op). HoldsAt (avoid_all o (Some known)) p) same
    (all_avoided_here unit i p known (form known refl) at (met_after unit i p known (form known refl) at effect has other))
