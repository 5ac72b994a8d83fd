-- What lies on the stack, and what is made of it.
use Rattle.std.proofs.Common.{◌≡◌, ℕ, Bool, true, false, Option, Some, None, refl, sym, subst, ◌∙◌}
use Rattle.std.specs.Prelude.{◌↔◌, IfSome, IsSome, IsTrue, is_some, not}
use Rattle.std.specs.Option.{ForSome}
use Rattle.std.proofs.lemmas.Bool.{false≢true}
use Rattle.cil_model.specs.Comparisons.{comparison_of}
use Rattle.cil_model.specs.declared.instruction.BinOp.{BinOp}
use Rattle.cil_model.specs.declared.instruction.CmpOp.{CmpOp}
use Rattle.domain_api.specs.declared.expr.Expr.{Expr}
use Rattle.state_facts.specs.Forms.{HasVar}
use Rattle.state_facts.specs.Moves.{popped}
use Rattle.state_facts.specs.StateFacts.{StateFacts, State}
use Rattle.state_facts.specs.States.{pop}
use Rattle.frame_names.specs.declared.var.Var.{Var}
use Rattle.frame_names.specs.declared.var.Var.TheVariants as vars
use Rattle.clause_trees.specs.TreeValues.{Finds, arithmetic, binary_by, binary_value, comparison, in_state, refusing}
use Rattle.clause_trees.proofs.Stays.{var_popped}

-- ---- what is there

same_known : (a b : StateFacts) → Some a ≡ Some b → a ≡ b
same_known a b is = cc

pub still_there : (state after : State) (v : Var) → after ≡ pop state → ForSome state (λ known. HasVar known v) → ForSome after (λ known. HasVar known v)
still_there None after v is there = λ x at. absurd (none x (sym is ∙ at))
  where
    none : (x : StateFacts) → None ≡ Some x → ⊥
    none x at = cc
still_there (Some known) after v is there = λ x at. subst (λ (k : StateFacts). HasVar k v) (same_known (popped known) x (sym is ∙ at)) (var_popped known v (there known refl))

pub top_still_there : (state after : State) (o : Option Var) → after ≡ pop state → IfSome o (λ v. ForSome state (λ known. HasVar known v))
    → IfSome o (λ v. ForSome after (λ known. HasVar known v))
top_still_there state after None is there = tt
top_still_there state after (Some v) is there = still_there state after v is there

pub both_still_there : (state after : State) (o : Option Var) → after ≡ pop (pop state) → IfSome o (λ v. ForSome state (λ known. HasVar known v))
    → IfSome o (λ v. ForSome after (λ known. HasVar known v))
both_still_there state after o is there = top_still_there (pop state) after o is (top_still_there state (pop state) o refl there)

-- ---- what is refused

-- Where something is reached, nothing is entailed; else all is.
pub refused_where : (state : State) (reached : Bool) → (IsTrue reached ↔ IsSome state) → Finds (not reached) None (in_state refusing state)
refused_where None true is = absurd (not_there (is.0 refl))
  where
    not_there : IsSome {T = StateFacts} None → ⊥
    not_there there = cc
refused_where None false is = record { entailed_is = refl; state_is = refl }
refused_where (Some known) true is = record { entailed_is = refl; state_is = refl }
refused_where (Some known) false is = absurd (false≢true (is.1 refl))

-- ---- operators

pub numbers_computed : (op : BinOp) (a b : Expr) (state : State) → is_some (comparison_of op) ≡ false
    → in_state (binary_value op (vars.Number a) (vars.Number b)) state ≡ in_state (arithmetic op a b) state
numbers_computed op a b state is = by (comparison_of op) is
  where
    by : (o : Option CmpOp) → is_some o ≡ false → in_state (binary_by op o (vars.Number a) (vars.Number b)) state ≡ in_state (arithmetic op a b) state
    by None is = refl
    by (Some cmp) is = absurd (false≢true (sym is))

pub numbers_compared : (op : BinOp) (a b : Expr) (state : State) → is_some (comparison_of op) ≡ true
    → in_state (binary_value op (vars.Number a) (vars.Number b)) state ≡ in_state (comparison op (vars.Number a) (vars.Number b)) state
numbers_compared op a b state is = by (comparison_of op) is
  where
    by : (o : Option CmpOp) → is_some o ≡ true
        → in_state (binary_by op o (vars.Number a) (vars.Number b)) state ≡ in_state (comparison op (vars.Number a) (vars.Number b)) state
    by None is = absurd (false≢true is)
    by (Some cmp) is = refl

pub references_compared : (op : BinOp) (r q : ℕ) (state : State) → is_some (comparison_of op) ≡ true
    → in_state (binary_value op (vars.Reference r) (vars.Reference q)) state ≡ in_state (comparison op (vars.Reference r) (vars.Reference q)) state
references_compared op r q state is = by (comparison_of op) is
  where
    by : (o : Option CmpOp) → is_some o ≡ true
        → in_state (binary_by op o (vars.Reference r) (vars.Reference q)) state ≡ in_state (comparison op (vars.Reference r) (vars.Reference q)) state
    by None is = absurd (false≢true is)
    by (Some cmp) is = refl

pub references_refused : (op : BinOp) (r q : ℕ) (state : State) → is_some (comparison_of op) ≡ false
    → in_state (binary_value op (vars.Reference r) (vars.Reference q)) state ≡ in_state refusing state
references_refused op r q state is = by (comparison_of op) is
  where
    by : (o : Option CmpOp) → is_some o ≡ false → in_state (binary_by op o (vars.Reference r) (vars.Reference q)) state ≡ in_state refusing state
    by None is = refl
    by (Some cmp) is = absurd (false≢true (sym is))

-- A number and a reference, or a text or an address.
abbrev pub AreMixed : Var → Var → Type 0
AreMixed (vars.Number a) (vars.Number b) = ⊥
AreMixed (vars.Reference r) (vars.Reference q) = ⊥
AreMixed v w = Unit {0}

pub mixed_refused : (op : BinOp) (v w : Var) (state : State) → AreMixed v w → in_state (binary_value op v w) state ≡ in_state refusing state
mixed_refused op v w state mixed = by (comparison_of op) v w mixed
  where
    by : (o : Option CmpOp) (v w : Var) → AreMixed v w → in_state (binary_by op o v w) state ≡ in_state refusing state
    by None (vars.Number a) (vars.Number b) mixed = elim mixed [ ]
    by (Some cmp) (vars.Number a) (vars.Number b) mixed = elim mixed [ ]
    by (Some cmp) (vars.Reference r) (vars.Reference q) mixed = elim mixed [ ]
    by _ _ _ mixed = refl

pub ruleset two_numbers = (numbers_computed, numbers_compared)

pub ruleset two_references = (references_compared, references_refused)
