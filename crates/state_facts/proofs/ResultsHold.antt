-- What results of operators keep: what is pushed is what the machine's operator gives.
use Rattle.std.proofs.Common.{◌≡◌, ℕ, ℤ, Option, Some, None, List, [], ◌∷◌, ◌++◌, FitsSigned, w32, refl, sym, ap, subst, ◌∙◌}
use Rattle.std.specs.Prelude.{Ok}
use Rattle.std.specs.Option.{ForSome, option_map}
use Rattle.alias_facts.specs.Arrays.{is_no_array}
use Rattle.cil_model.specs.Arithmetic.{operated}
use Rattle.cil_model.specs.Values.{Heap}
use Rattle.cil_model.specs.declared.instruction.BinOp.{BinOp}
use Rattle.cil_model.specs.declared.machine.Value.{Value}
use Rattle.cil_model.specs.declared.machine.Value.TheVariants as values
use Rattle.domain_api.specs.declared.expr.Expr.{Expr}
use Rattle.frame_names.specs.declared.var.Var.TheVariants as vars
use Rattle.number_facts.proofs.ResultLaws.{result_keeps}
use Rattle.number_facts.specs.Arith.{settled, outcome, relations}
use Rattle.number_facts.specs.Results.{AreExactEnds, AreInt32, IsExact}
use Rattle.symbolic_values.specs.Worth.{worth}
use Rattle.state_facts.specs.Arithmetic.{HasExactEnds, HaveInts, KeepsArith, with_result}
use Rattle.state_facts.specs.Forms.{HasForm, HasNumber}
use Rattle.state_facts.specs.Holds.{HoldsBy}
use Rattle.state_facts.specs.Keeps.{HoldsOn}
use Rattle.state_facts.specs.Moves.{on_top}
use Rattle.state_facts.specs.StateFacts.{StateFacts, State}
use Rattle.state_facts.specs.States as calls
use Rattle.state_facts.proofs.Agreeing.{have_pushed, made_holds}
use Rattle.state_facts.proofs.MovesHold.{each_yields}

same_number : (m n : ℤ) → Some m ≡ Some n → m ≡ n
same_number m n is = cc

-- What both expressions are worth.
record AreWorth (number : ℕ → ℤ) (a b : Expr) (first second : ℤ) : Type 0 where
  first_is : first ≡ worth number a
  second_is : second ≡ worth number b
  fit : AreInt32 number a b

worths : (heap : Heap) (number : ℕ → ℤ) (array : ℕ → Option ℕ) (a b : Expr) (first second : ℤ) → HaveInts heap number array a b first second
    → AreWorth number a b first second
worths heap number array a b first second have =
    let one = same_number first (worth number a) have.first_is in
    let two = same_number second (worth number b) have.second_is in
    record {
      first_is = one;
      second_is = two;
      fit = record { first = subst (FitsSigned w32) one have.first_fits; second = subst (FitsSigned w32) two have.second_fits };
    }

result_so : (op : BinOp) (a b : Expr) (known : StateFacts) (vs : List Value) (heap : Heap) (number : ℕ → ℤ) (array : ℕ → Option ℕ) (first second n : ℤ)
    → HasForm known → HasNumber known a → HasNumber known b → HoldsBy known vs heap number array → HaveInts heap number array a b first second
    → operated op first second ≡ Ok n → HoldsOn (Some known) (with_result op a b known) (vs ++ values.Int n ∷ []) heap number array
unfolding with_result
result_so op a b known vs heap number array first second n form one two holds have gives =
    let so = worths heap number array a b first second have in
    each_yields known.facts (settled known.facts (outcome op known.facts a b) (relations op known.facts a b)) number (λ r. is_no_array (array r)) n
    (λ o. HoldsOn (Some known) (option_map (on_top known) o) (vs ++ values.Int n ∷ []) heap number array)
    (result_keeps op known.facts a b one.there two.there form.narrow number (λ r. is_no_array (array r)) n form.named holds.facts so.fit
    (ap (λ (m : ℤ). operated op m (worth number b)) (sym so.first_is) ∙ ap (λ (m : ℤ). operated op first m) (sym so.second_is) ∙ gives))
    (λ made more. made_holds known made (known.variables ++ vars.Number made.expr ∷ []) vs (vs ++ values.Int n ∷ []) heap number array n form holds
    more
    (λ later values_are worth_is. have_pushed later array known.variables vs (vars.Number made.expr) (values.Int n) values_are (ap (λ (m : ℤ). Some m) (sym worth_is))))

pub arith_keeps : (op : BinOp) (a b : Expr) (state : State) → ForSome state HasForm → ForSome state (λ known. HasNumber known a)
    → ForSome state (λ known. HasNumber known b) → KeepsArith op a b state (calls.arith op a b state)
arith_keeps op a b None form one two = λ vs heap number array first second n holds have gives. elim holds [ ]
arith_keeps op a b (Some known) form one two = λ vs heap number array first second n holds have gives.
    result_so op a b known vs heap number array first second n (form known refl) (one known refl) (two known refl) holds have gives

-- ---- ends

pub exact_ends_hold : (op : BinOp) (a b : Expr) (state : State) (known : StateFacts) (lo hi : ℤ) → state ≡ Some known → HasForm known
    → AreExactEnds op a b known.facts lo hi → HasExactEnds op a b state lo hi
exact_ends_hold op a b None known lo hi is form ends = absurd cc
exact_ends_hold op a b (Some x) known lo hi is form ends = λ vs heap number array first second exact holds have exact_is.
    let so = worths heap number array a b first second have in
    let same : x ≡ known = same_known x known is in
    let facts = holds.facts in
    ends number (λ r. is_no_array (array r)) exact form.named (rw same at facts) so.fit
    (subst (λ (m : ℤ). IsExact op m (worth number b) exact) so.first_is (subst (λ (m : ℤ). IsExact op first m exact) so.second_is exact_is))
  where
    same_known : (x y : StateFacts) → Some x ≡ Some y → x ≡ y
    same_known x y is = cc
