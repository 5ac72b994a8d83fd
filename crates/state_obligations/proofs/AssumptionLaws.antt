-- What a call that assumes a condition keeps, where it says whether something is reached.
use Rattle.std.proofs.Common.{◌≡◌, ℕ, Bool, true, false, Some, None, is_some, refl, sym, subst}
use Rattle.std.specs.Prelude.{Result, Ok, Err, IfOk, OnErr, if◌then◌else◌}
use Rattle.std.proofs.lemmas.Bool.{false≢true}
use Rattle.domain_api.specs.declared.expr.Expr.{Expr}
use Rattle.number_facts.specs.Facts.{IsNamed}
use Rattle.state_facts.proofs.AssumptionForms.{length_number}
use Rattle.state_facts.specs.Forms.{HasForm, HasNumber, HasReference}
use Rattle.state_facts.specs.StateFacts.{StateFacts, State, length_at}
use Rattle.state_obligations.proofs.ConditionLaws.{met_is_kept}
use Rattle.state_obligations.specs.Assumed.{assumed_by}
use Rattle.state_obligations.specs.Conditions.{IsThere}
use Rattle.state_obligations.specs.Meaning.{AssumesIt}
use Rattle.state_obligations.specs.declared.condition.Condition.{Condition}
use Rattle.state_obligations.specs.declared.condition.Condition.TheVariants as conditions

by_rule : (c : Condition) (known : StateFacts) → HasForm known → IsThere known c
    → AssumesIt c (Some known) (assumed_by c known)
by_rule c known form there =
    λ vs heap number array is_heap holds fits met. met_is_kept c known form there vs heap number array is_heap holds
    fits met

none_reached : (o : State) → false ≡ is_some o → o ≡ None
none_reached None is = refl
none_reached (Some x) is = absurd (false≢true is)

pub assumes_where_ok : {E : Type 0} (result : Result Bool E) (c : Condition) (known new : StateFacts) → HasForm known
    → IsThere known c
    → IfOk result (λ reached. reached ≡ is_some (assumed_by c known))
    → IfOk result (λ reached. reached ≡ true → assumed_by c known ≡ Some new)
    → IfOk result (λ reached. AssumesIt c (Some known) (if reached then Some new else None))
assumes_where_ok (Ok true) c known new form there reached ok =
    subst (AssumesIt c (Some known)) (ok refl) (by_rule c known form there)
assumes_where_ok (Ok false) c known new form there reached ok =
    subst (AssumesIt c (Some known)) (none_reached (assumed_by c known) reached) (by_rule c known form there)
assumes_where_ok (Err e) c known new form there reached ok = reached

-- Want of memory that leaves what was known keeps the form.
pub formed_where_err : {E : Type 0} (result : Result Bool E) (known new : StateFacts) → HasForm known
    → OnErr result (new ≡ known) → OnErr result (HasForm new)
formed_where_err (Ok reached) known new form same = same
formed_where_err (Err e) known new form same = subst HasForm (sym same) form

-- The length of a reference that a condition names is there.
pub length_named : (known : StateFacts) (c : Condition) (r : ℕ) (i e : Expr) → HasForm known → IsThere known c
    → c ≡ conditions.Upper r i → e ≡ length_at known r
    → IsNamed known.facts e
length_named known c r i e form there is same =
    subst (IsNamed known.facts) (sym same) (length_number known r form (both (subst (IsThere known) is there)).0).there
  where
    both : IsThere known (conditions.Upper r i) → HasReference known r × HasNumber known i
    both is = is
