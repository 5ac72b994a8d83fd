-- What is assumed keeps the form of what is known.
use Rattle.std.proofs.Common.{◌≡◌, ℕ, zero, suc, ◌==◌, ◌-◌, ◌≤◌, ℤ, pos, ◌+ℤ◌, ◌-ℤ◌, Bool, true, false, ◌&&◌, int_eq, Option, Some, None, List, [], ◌∷◌, length, refl, sym, ap, subst, ◌∙◌, arith}
use Rattle.std.specs.Prelude.{if◌then◌else◌, Ok, set, slice_get}
use Rattle.std.specs.List.{AllByRecursion}
use Rattle.std.specs.Option.{option_map, option_and_then}
use Rattle.std.proofs.lemmas.Bool.{cond_both}
use Rattle.std.proofs.lemmas.Int.{ints}
use Rattle.std.proofs.lemmas.List.{length-set}
use Rattle.alias_facts.specs.declared.nullness.Nullness.{Nullness}
use Rattle.array_contents.specs.Contents.{AreFormed}
use Rattle.cil_model.specs.declared.instruction.CmpOp.{CmpOp}
use Rattle.cil_model.specs.declared.instruction.CmpOp.TheVariants as comparisons
use Rattle.domain_api.specs.declared.expr.Expr.{Expr}
use Rattle.interval_domain.specs.Interval.{Interval}
use Rattle.number_facts.proofs.Forms.{form_where_ok}
use Rattle.number_facts.specs.Assume as rule
use Rattle.number_facts.specs.Ends.{range_of}
use Rattle.number_facts.specs.Facts.{Facts, IsNamed}
use Rattle.number_facts.specs.Fresh.{bounded, is_long}
use Rattle.number_facts.specs.Gaps.{at_most, equal}
use Rattle.number_facts.specs.Holds.{KeepsForm, Names, NamesOwn}
use Rattle.number_spans.specs.Constants.{constant}
use Rattle.number_spans.specs.Spans.{is_one, is_not_negative}
use Rattle.symbolic_values.specs.Names.{same_flag}
use Rattle.symbolic_values.specs.declared.def.Def.{Def}
use Rattle.symbolic_values.specs.declared.def.Def.TheVariants.{Eq, Lt, LtUn, NullTest, Sub}
use Rattle.state_facts.specs.Assuming.{IsNamedTest, AreNamedTests, assumed, contradicts, definition_at, following, is_equality, null_if, symbol_told, told_by, told_of, with_facts, with_null, with_null_tested, with_nullness, with_steps, with_test, with_told}
use Rattle.state_facts.specs.Comparing.{null_tested}
use Rattle.state_facts.specs.Forms.{IsNumber, IsVar, IsReference, HasForm, lengths_of}
use Rattle.state_facts.specs.Moves.{IsNamedNumber}
use Rattle.state_facts.specs.StateFacts.{StateFacts, length_at, length_of, nullness_at, reference_at}
use Rattle.frame_names.specs.declared.reference.Reference.{Reference}
use Rattle.state_facts.specs.declared.test.Test.{Test}
use Rattle.state_facts.specs.declared.test.Test.TheVariants.{Compares, IsNull}
use Rattle.frame_names.specs.declared.var.Var.{Var}
use Rattle.frame_names.specs.declared.var.Var.TheVariants as vars
use Rattle.state_facts.proofs.Agreeing.{reference_of_form}
use Rattle.state_facts.proofs.Growing.{Formed, Grows, grown, variables_stay, all_set}

-- ---- an assumption about numbers leaves definitions

abbrev pub Same : Facts → Option Facts → Type 0
Same facts None = Unit {0}
Same facts (Some after) = after.definitions ≡ facts.definitions

then_same : (facts : Facts) (o : Option Facts) (f : Facts → Option Facts) → Same facts o → ((next : Facts) → next.definitions ≡ facts.definitions → Same facts (f next))
    → Same facts (option_and_then f o)
then_same facts None f so next = tt
then_same facts (Some after) f so next = next after so

changed_same : (facts now : Facts) (s : ℕ) (o : Option Interval) → now.definitions ≡ facts.definitions → Same facts (rule.changed now s o)
unfolding rule.changed
changed_same facts now zero o so = so
changed_same facts now (suc s) None so = tt
changed_same facts now (suc s) (Some r) so = so

bounded_same : (now : Facts) (s t : ℕ) (k : ℤ) → (bounded now s t k).definitions ≡ now.definitions
unfolding bounded
bounded_same now s t k = cond_both (is_long k) _ _ (λ (f : Facts). f.definitions ≡ now.definitions) (λ e. refl) (λ e. refl)

cut_same : (facts now : Facts) (a : Expr) (more : ℤ) (b : Expr) → now.definitions ≡ facts.definitions → Same facts (rule.cut_both now a more b)
unfolding rule.cut_both rule.lowered rule.raised
cut_same facts now a more b so = then_same facts _ _ (changed_same facts now a.sym _ so) (λ f is. changed_same facts f b.sym _ is)

at_most_same : (facts now : Facts) (a : Expr) (more : ℤ) (b : Expr) → now.definitions ≡ facts.definitions → Same facts (rule.assumed_at_most now a more b)
unfolding rule.assumed_at_most
at_most_same facts now a more b so = cond_both (at_most now b (pos 1 -ℤ more) a) _ _ (Same facts) (λ e. tt)
    (λ e. cut_same facts (bounded now a.sym b.sym ((a.k +ℤ more) -ℤ b.k)) a more b (bounded_same now a.sym b.sym ((a.k +ℤ more) -ℤ b.k) ∙ so))

equal_same : (facts now : Facts) (a b : Expr) → now.definitions ≡ facts.definitions → Same facts (rule.assumed_equal now a b)
unfolding rule.assumed_equal
equal_same facts now a b so = then_same facts _ _ (at_most_same facts now a (pos 0) b so) (λ f is. at_most_same facts f b (pos 0) a is)

lost_same : (facts now : Facts) (a b : Expr) → now.definitions ≡ facts.definitions → Same facts (rule.lost now a b)
unfolding rule.lost
lost_same facts now a b so = cond_both (is_one (range_of now b)) _ _ (Same facts) (λ e. changed_same facts now a.sym _ so) (λ e. so)

ordered_same : (facts now : Facts) (a b : Expr) → now.definitions ≡ facts.definitions → Same facts (rule.ordered now a b)
unfolding rule.ordered
ordered_same facts now a b so = cond_both (at_most now a (pos 0) b) _ _ (Same facts) (λ e. at_most_same facts now a (pos 1) b so)
    (λ e. cond_both (at_most now b (pos 0) a) _ _ (Same facts) (λ f. at_most_same facts now b (pos 1) a so) (λ f. so))

apart_same : (facts now : Facts) (a b : Expr) → now.definitions ≡ facts.definitions → Same facts (rule.assumed_apart now a b)
unfolding rule.assumed_apart
apart_same facts now a b so = cond_both (equal now a b) _ _ (Same facts) (λ e. tt)
    (λ e. then_same facts _ _ (then_same facts _ _ (lost_same facts now a b so) (λ f is. lost_same facts f b a is)) (λ f is. ordered_same facts f a b is))

less_unsigned_same : (facts now : Facts) (a b : Expr) → now.definitions ≡ facts.definitions → Same facts (rule.assumed_less_unsigned now a b)
unfolding rule.assumed_less_unsigned
less_unsigned_same facts now a b so = cond_both (is_not_negative (range_of now b)) _ _ (Same facts)
    (λ e. then_same facts _ _ (at_most_same facts now (constant (pos 0)) (pos 0) a so) (λ f is. at_most_same facts f a (pos 1) b is))
    (λ e. cond_both ((a.sym == 0) && int_eq a.k (pos 0)) _ _ (Same facts) (λ f. apart_same facts now b (constant (pos 0)) so) (λ f. so))

at_most_unsigned_same : (facts now : Facts) (a b : Expr) → now.definitions ≡ facts.definitions → Same facts (rule.assumed_at_most_unsigned now a b)
unfolding rule.assumed_at_most_unsigned
at_most_unsigned_same facts now a b so = cond_both (is_not_negative (range_of now b)) _ _ (Same facts)
    (λ e. then_same facts _ _ (at_most_same facts now (constant (pos 0)) (pos 0) a so) (λ f is. at_most_same facts f a (pos 0) b is)) (λ e. so)

holding_same : (op : CmpOp) (facts : Facts) (a b : Expr) → Same facts (rule.holding op facts a b)
unfolding rule.holding
holding_same comparisons.Eq f a b = equal_same f f a b refl
holding_same comparisons.Ge f a b = at_most_same f f b (pos 0) a refl
holding_same comparisons.Gt f a b = at_most_same f f b (pos 1) a refl
holding_same comparisons.Le f a b = at_most_same f f a (pos 0) b refl
holding_same comparisons.Lt f a b = at_most_same f f a (pos 1) b refl
holding_same comparisons.NeUn f a b = apart_same f f a b refl
holding_same comparisons.GeUn f a b = at_most_unsigned_same f f b a refl
holding_same comparisons.GtUn f a b = less_unsigned_same f f b a refl
holding_same comparisons.LeUn f a b = at_most_unsigned_same f f a b refl
holding_same comparisons.LtUn f a b = less_unsigned_same f f a b refl

pub assumed_same : (op : CmpOp) (facts : Facts) (a b : Expr) (holds : Bool) → Same facts (rule.assumed op facts a b holds)
unfolding rule.assumed
assumed_same op facts a b true = holding_same op facts a b
assumed_same op facts a b false = holding_same (rule.contrary op) facts a b

-- ---- tests

-- Behind a test there are as many symbols or more, and as many references, and the same definitions.
pub record Follows (before after : StateFacts) : Type 0 where
  pub form : HasForm after
  pub symbols : length before.facts.ranges ≤ length after.facts.ranges

abbrev pub EachFollows : StateFacts → Option StateFacts → Type 0
EachFollows before None = Unit {0}
EachFollows before (Some after) = Follows before after

numbers_follow : (known : StateFacts) (o : Option Facts) → HasForm known → Same known.facts o → ((f : Facts) → o ≡ Some f → KeepsForm known.facts f)
    → EachFollows known (option_map (with_facts known) o)
numbers_follow known None form same kept = tt
numbers_follow known (Some f) form same kept =
    let grows : Grows known f = record { form = kept f refl; rising = rw same form.rising; tests = rw same form.tests } in
    record { form = grown known f known.variables form grows (variables_stay known f form grows); symbols = grows.form.there }

compares_follows : (op : CmpOp) (a b : Expr) (holds : Bool) (known : StateFacts) → HasForm known → IsNamed known.facts a → IsNamed known.facts b
    → EachFollows known (option_map (with_facts known) (rule.assumed op known.facts a b holds))
compares_follows op a b holds known form first second =
    numbers_follow known (rule.assumed op known.facts a b holds) form (assumed_same op known.facts a b holds)
    (λ f is. form_where_ok {E = ℕ} op known.facts a b holds (Ok true) f first second (λ reached. is) refl)

lengths_set : (references : List Reference) (i : ℕ) (x y : Reference) → slice_get references i ≡ Some x → y.length ≡ x.length
    → lengths_of (set references i y) ≡ lengths_of references
lengths_set [] i x y there same = refl
lengths_set (r ∷ references) zero x y there same =
    ap (λ (e : Expr). e ∷ lengths_of references) (same ∙ ap (λ (q : Reference). q.length) (sym (is_it r x there)))
  where
    is_it : (r x : Reference) → Some r ≡ Some x → r ≡ x
    is_it r x is = cc
lengths_set (r ∷ references) (suc i) x y there same = ap (λ (es : List Expr). r.length ∷ es) (lengths_set references i x y there same)

before_it : (references : List Reference) (r : ℕ) (x : Reference) → reference_at references r ≡ Some x → slice_get references (r - 1) ≡ Some x
unfolding reference_at
before_it references zero x there = absurd cc
before_it references (suc r) x there = let same : suc r - 1 ≡ r = omega arith in rw same there

told_follows : (r : ℕ) (told : Nullness) (known : StateFacts) (o : Option Reference) → HasForm known
    → ((x : Reference) → o ≡ Some x → reference_at known.references r ≡ Some x) → Follows known (with_told known r told o)
told_follows r told known None form is = record { form = form; symbols = omega arith }
told_follows r told known (Some x) form is =
    let size = length-set known.references (r - 1) (record x { nullness = told }) in
    let x_is = reference_of_form known.references (length known.facts.ranges) r x form.references (is x refl) in
    record {
      form = record {
        narrow = form.narrow;
        named = form.named;
        rising = form.rising;
        tests = rw size form.tests;
        variables = rw size form.variables;
        references = all_set (IsReference (length known.facts.ranges)) known.references (r - 1) (record x { nullness = told }) form.references
            (record { place = x_is.place; length_is = x_is.length_is });
        pairs = rw size form.pairs;
        contents = subst (λ (lengths : List Expr). AreFormed (length known.facts.ranges) lengths known.contents)
            (sym (lengths_set known.references (r - 1) x (record x { nullness = told }) (before_it known.references r x (is x refl)) refl)) form.contents;
      };
      symbols = omega arith;
    }

null_follows : (r : ℕ) (is : Bool) (known : StateFacts) → HasForm known → EachFollows known (with_null r is known)
unfolding with_null with_nullness
null_follows r is known form =
    cond_both (contradicts (nullness_at known r) is) _ _ (EachFollows known) (λ e. tt)
    (λ e. told_follows r (null_if is) known (reference_at known.references r) form (λ x so. so))

pub test_follows : (test : Test) (known : StateFacts) → HasForm known → IsNamedTest known test → EachFollows known (with_test test known)
unfolding with_test
test_follows (Compares op a b holds) known form named = compares_follows op a b holds known form named.0 named.1
test_follows (IsNull r is) known form named = null_follows r is known form

-- ---- what follows by a definition

told_named : (known : StateFacts) (so : Bool) (def : Def) → Names (length known.facts.ranges) def → AreNamedTests known (told_by so def)
told_named known so (Eq a b) names = names
told_named known so (Lt a b) names = names
told_named known so (LtUn a b) names = names
told_named known so (NullTest r is) names = tt
told_named known so (Sub a b) names = tt

definition_named : (known : StateFacts) (definitions : List (ℕ × Def)) (s : ℕ) (so : Bool) → AllByRecursion (NamesOwn (length known.facts.ranges)) definitions
    → AreNamedTests known (option_and_then (told_by so) (definition_at definitions s))
definition_named known [] s so named = tt
definition_named known (d ∷ definitions) s so named =
    cond_both (d.0 == s) _ _ (λ (o : Option Def). AreNamedTests known (option_and_then (told_by so) o))
    (λ e. told_named known so d.1 named.0.1) (λ e. definition_named known definitions s so named.1)

pair_named : (known : StateFacts) (o : Option (ℕ × Bool)) → HasForm known → AreNamedTests known (option_and_then (told_of known.facts.definitions) o)
pair_named known None form = tt
pair_named known (Some t) form = definition_named known known.facts.definitions t.0 t.1 form.named.definitions

pub following_named : (test : Test) (known : StateFacts) → HasForm known → AreNamedTests known (following known test)
unfolding following
following_named (Compares op a b holds) known form = pair_named known (symbol_told known.facts (if holds then op else rule.contrary op) a b) form
following_named (IsNull r is) known form = tt

still_named : (before after : StateFacts) (o : Option Test) → length before.facts.ranges ≤ length after.facts.ranges → AreNamedTests before o → AreNamedTests after o
still_named before after None more named = tt
still_named before after (Some (Compares op a b holds)) more named = (omega (arith, more, named.0), omega (arith, more, named.1))
still_named before after (Some (IsNull r is)) more named = tt

-- Behind a test what follows from it is named, and the form is kept.
pub record IsReady (after : StateFacts) (next : Option Test) : Type 0 where
  pub form : HasForm after
  pub named : AreNamedTests after next

pub ready_behind : (test : Test) (known after : StateFacts) → HasForm known → IsNamedTest known test → with_test test known ≡ Some after
    → IsReady after (following known test)
ready_behind test known after form named is = ready (with_test test known) (test_follows test known form named) is
  where
    ready : (o : Option StateFacts) → EachFollows known o → o ≡ Some after → IsReady after (following known test)
    ready None follows so = absurd cc
    ready (Some x) follows so = subst (λ (k : StateFacts). IsReady k (following known test)) (same x so)
        (record { form = follows.form; named = still_named known x (following known test) follows.symbols (following_named test known form) })
      where
        same : (x : StateFacts) → Some x ≡ Some after → x ≡ after
        same x is = cc

each_ready : (o : Option StateFacts) (next : Option Test) (f : StateFacts → Option StateFacts) → ((x : StateFacts) → o ≡ Some x → IsReady x next)
    → ((x : StateFacts) → IsReady x next → Formed (f x)) → Formed (option_and_then f o)
each_ready None next f ready formed = tt
each_ready (Some x) next f ready formed = formed x (ready x refl)

steps_formed : (steps : ℕ) (test : Option Test) (known : StateFacts) → HasForm known → AreNamedTests known test → Formed (with_steps steps test known)
unfolding with_steps
steps_formed zero test known form named = form
steps_formed (suc steps) None known form named = form
steps_formed (suc steps) (Some test) known form named =
    each_ready (with_test test known) (following known test) (with_steps steps (following known test)) (λ x is. ready_behind test known x form named is)
    (λ x ready. steps_formed steps (following known test) x ready.form ready.named)

-- ---- comparisons

formed_follows : (known : StateFacts) (o : Option StateFacts) → EachFollows known o → Formed o
formed_follows known None follows = tt
formed_follows known (Some x) follows = follows.form

same_formed : (is : Bool) (known : StateFacts) (o : Option ℕ) → HasForm known → Formed (with_null_tested o is known)
same_formed is known None form = form
same_formed is known (Some r) form = formed_follows known (with_null r is known) (null_follows r is known form)

pub assumed_form : (op : CmpOp) (a b : Var) (holds : Bool) (known : StateFacts) → HasForm known → IsNamedNumber known a → IsNamedNumber known b
    → Formed (assumed op a b holds known)
unfolding assumed
assumed_form op (vars.Number a) (vars.Number b) holds known form first second = steps_formed 9 (Some (Compares op a b holds)) known form (first, second)
assumed_form op (vars.Number a) (vars.Reference q) holds known form first second = form
assumed_form op (vars.Number a) vars.Text holds known form first second = form
assumed_form op (vars.Reference r) (vars.Number b) holds known form first second = form
assumed_form op (vars.Reference r) (vars.Reference q) holds known form first second = same_formed (same_flag (is_equality op) holds) known (null_tested r q) form
assumed_form op (vars.Reference r) vars.Text holds known form first second = form
assumed_form op vars.Text b holds known form first second = form
assumed_form op (vars.Number a) (vars.Address q f) holds known form first second = form
assumed_form op (vars.Reference r) (vars.Address q f) holds known form first second = form
assumed_form op (vars.Address r e) b holds known form first second = form

-- ---- reading

pub length_number : (known : StateFacts) (r : ℕ) → HasForm known → r ≤ length known.references → IsNumber (length known.facts.ranges) (length_at known r)
length_number known r form there = each (reference_at known.references r) (λ x so. reference_of_form known.references (length known.facts.ranges) r x form.references so)
  where
    each : (o : Option Reference) → ((x : Reference) → o ≡ Some x → IsReference (length known.facts.ranges) x) → IsNumber (length known.facts.ranges) (length_of o)
    each None is = record { there = omega arith; near = record { least = omega (arith, ints); greatest = omega (arith, ints) } }
    each (Some x) is = (is x refl).length_is

pub named_var : (known : StateFacts) (v : Var) → IsVar (length known.facts.ranges) (length known.references) v → IsNamedNumber known v
named_var known (vars.Number e) is = is.there
named_var known (vars.Reference r) is = tt
named_var known vars.Text is = tt
named_var known (vars.Address r e) is = tt
