-- Steps by definitions, one after another.
use Rattle.std.proofs.Common.{◌≡◌, ◌≢◌, ℕ, zero, suc, ◌-◌, Bool, true, Option, Some, None, is_some, refl, sym, ap, ◌∙◌, arith}
use Rattle.std.specs.Prelude.{Result, Ok, Err, IfOk, OnErr}
use Rattle.std.specs.Option.{option_and_then, option_map}
use Rattle.std.proofs.lemmas.Bool.{false≢true}
use Rattle.number_facts.specs.Assume as rule
use Rattle.number_facts.specs.Facts.{Facts}
use Rattle.state_facts.specs.Assuming.{following, with_facts, with_steps, with_test}
use Rattle.state_facts.specs.StateFacts.{StateFacts}
use Rattle.state_facts.specs.declared.test.Test.{Test}
use Rattle.state_facts.specs.declared.test.Test.TheVariants.{Compares, IsNull}

steps_on : (steps : ℕ) (test : Test) (known after : StateFacts) → steps ≢ 0 → with_test test known ≡ Some after
    → with_steps steps (Some test) known ≡ with_steps (steps - 1) (following known test) after
unfolding with_steps
steps_on zero test known after some is = absurd (some refl)
steps_on (suc n) test known after some is =
    let same : suc n - 1 ≡ n = omega arith in
    rw (same, is) refl

pub steps_reached : {E : Type 0} (result : Result Bool E) (steps : ℕ) (o next : Option Test) (test : Test) (known after : StateFacts) → o ≡ Some test → steps ≢ 0
    → next ≡ following known test → with_test test known ≡ Some after → IfOk result (λ reached. reached ≡ is_some (with_steps (steps - 1) next after))
    → IfOk result (λ reached. reached ≡ is_some (with_steps steps o known))
steps_reached (Ok r) steps o next test known after is some follows tested so =
    so ∙ ap (λ (n : Option Test). is_some (with_steps (steps - 1) n after)) follows ∙ ap is_some (sym (steps_on steps test known after some tested))
    ∙ ap (λ (t : Option Test). is_some (with_steps steps t known)) (sym is)
steps_reached (Err e) steps o next test known after is some follows tested so = so

pub steps_ok : {E : Type 0} (result : Result Bool E) (steps : ℕ) (o next : Option Test) (test : Test) (known after new : StateFacts) → o ≡ Some test → steps ≢ 0
    → next ≡ following known test → with_test test known ≡ Some after → IfOk result (λ reached. reached ≡ true → with_steps (steps - 1) next after ≡ Some new)
    → IfOk result (λ reached. reached ≡ true → with_steps steps o known ≡ Some new)
steps_ok (Ok r) steps o next test known after new is some follows tested so = λ reached.
    ap (λ (t : Option Test). with_steps steps t known) is ∙ steps_on steps test known after some tested
    ∙ ap (λ (n : Option Test). with_steps (steps - 1) n after) (sym follows) ∙ so reached
steps_ok (Err e) steps o next test known after new is some follows tested so = so

-- where a comparison was assumed, numbers alone have changed
numbers_alone : (known after : StateFacts) (o : Option Facts) → option_map (with_facts known) o ≡ Some after → record after { facts = known.facts } ≡ known
numbers_alone known after None is = absurd cc
numbers_alone known after (Some f) is = ap (λ (k : StateFacts). record k { facts = known.facts }) (sym (same (with_facts known f) is))
  where
    same : (x : StateFacts) → Some x ≡ Some after → x ≡ after
    same x is = cc

back : (test : Test) (known after new : StateFacts) → with_test test known ≡ Some after → is_some (following known test) ≡ true
    → record new { facts = after.facts } ≡ after → record new { facts = known.facts } ≡ known
unfolding with_test following
back (Compares op a b holds) known after new tested more is =
    ap (λ (k : StateFacts). record k { facts = known.facts }) is ∙ numbers_alone known after (rule.assumed op known.facts a b holds) tested
back (IsNull r flag) known after new tested more is = absurd (false≢true more)

pub steps_err : {E : Type 0} (result : Result Bool E) (next : Option Test) (test : Test) (known after new : StateFacts) → next ≡ following known test
    → with_test test known ≡ Some after → OnErr result (record new { facts = after.facts } ≡ after) → OnErr result (is_some next ≡ true)
    → OnErr result (record new { facts = known.facts } ≡ known)
steps_err (Ok r) next test known after new follows tested is more = is
steps_err (Err e) next test known after new follows tested is more = back test known after new tested (ap is_some (sym follows) ∙ more) is

alone : (o : Option StateFacts) (next : Option Test) → next ≡ None → option_and_then (with_steps 8 next) o ≡ o
unfolding with_steps
alone None next none = refl
alone (Some x) next none = rw none refl

pub steps_alone : (test : Test) (known : StateFacts) → following known test ≡ None → with_steps 9 (Some test) known ≡ with_test test known
unfolding with_steps
steps_alone test known none = alone (with_test test known) (following known test) none
