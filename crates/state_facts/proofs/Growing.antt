-- More symbols and references: what was there stays there.
use Rattle.std.proofs.Common.{◌≡◌, ℕ, zero, suc, ◌+◌, ◌≤◌, Option, Some, None, List, [], ◌∷◌, ◌++◌, length, refl, sym, subst, arith}
use Rattle.std.specs.Prelude.{set, take}
use Rattle.std.specs.List.{AllByRecursion}
use Rattle.std.proofs.lemmas.List.{map_push}
use Rattle.array_contents.proofs.FormLaws.{formed_grows, pushed_formed}
use Rattle.array_contents.specs.Contents.{AreFormed, IsFormed, Segments}
use Rattle.domain_api.specs.declared.expr.Expr.{Expr}
use Rattle.alias_facts.specs.PairsOf.{Pair}
use Rattle.number_facts.specs.Facts.{Facts}
use Rattle.number_facts.specs.Holds.{KeepsForm}
use Rattle.symbolic_values.specs.declared.def.Def.{Def}
use Rattle.symbolic_values.specs.declared.def.Def.TheVariants.{Eq, Lt, LtUn, NullTest, Sub}
use Rattle.state_facts.specs.Forms.{EndsBy, IsNumber, IsVar, IsReference, TestsOf, AreRising, HasForm, lengths_of}
use Rattle.state_facts.specs.StateFacts.{StateFacts}
use Rattle.frame_names.specs.declared.reference.Reference.{Reference}
use Rattle.frame_names.specs.declared.var.Var.{Var}
use Rattle.frame_names.specs.declared.var.Var.TheVariants as vars

-- ---- lists

pub all_weaker : {X : Type 0} (P Q : X → Type 0) (xs : List X) → ((x : X) → P x → Q x) → AllByRecursion P xs → AllByRecursion Q xs
all_weaker P Q [] weaker all = tt
all_weaker P Q (x ∷ xs) weaker all = (weaker x all.0, all_weaker P Q xs weaker all.1)

pub all_pushed : {X : Type 0} (P : X → Type 0) (xs : List X) (x : X) → AllByRecursion P xs → P x → AllByRecursion P (xs ++ x ∷ [])
all_pushed P [] x all is = (is, tt)
all_pushed P (y ∷ xs) x all is = (all.0, all_pushed P xs x all.1 is)

pub all_taken : {X : Type 0} (P : X → Type 0) (n : ℕ) (xs : List X) → AllByRecursion P xs → AllByRecursion P (take n xs)
all_taken P zero xs all = tt
all_taken P (suc n) [] all = tt
all_taken P (suc n) (x ∷ xs) all = (all.0, all_taken P n xs all.1)

pub all_set : {X : Type 0} (P : X → Type 0) (xs : List X) (i : ℕ) (x : X) → AllByRecursion P xs → P x → AllByRecursion P (set xs i x)
all_set P [] i x all is = tt
all_set P (y ∷ xs) zero x all is = (is, all.1)
all_set P (y ∷ xs) (suc i) x all is = (all.0, all_set P xs i x all.1 is)

pub one_longer : {X : Type 0} (xs : List X) (x : X) → length (xs ++ x ∷ []) ≡ length xs + 1
one_longer [] x = refl
one_longer (y ∷ xs) x = let rest = one_longer xs x in let more : suc (length (xs ++ x ∷ [])) ≡ suc (length xs) + 1 = omega (arith, rest) in more

-- ---- names

pub number_stays : (m n : ℕ) (e : Expr) → m ≤ n → IsNumber m e → IsNumber n e
number_stays m n e more is = record { there = omega (arith, more, is.there); near = is.near }

pub var_stays : (m n r q : ℕ) (v : Var) → m ≤ n → r ≤ q → IsVar m r v → IsVar n q v
var_stays m n r q (vars.Number e) more others is = number_stays m n e more is
var_stays m n r q (vars.Reference x) more others is = omega (arith, others, is)
var_stays m n r q vars.Text more others is = tt
var_stays m n r q (vars.Address x e) more others is = (omega (arith, others, is.0), number_stays m n e more is.1)

reference_stays : (m n : ℕ) (r : Reference) → m ≤ n → IsReference m r → IsReference n r
reference_stays m n r more is = record { place = is.place; length_is = number_stays m n r.length more is.length_is }

pub test_stays : (r q : ℕ) (def : Def) → r ≤ q → TestsOf r def → TestsOf q def
test_stays r q (Eq a b) more is = tt
test_stays r q (Lt a b) more is = tt
test_stays r q (LtUn a b) more is = tt
test_stays r q (NullTest x flag) more is = omega (arith, more, is)
test_stays r q (Sub a b) more is = tt

-- ---- what is known

abbrev pub Formed : Option StateFacts → Type 0
Formed None = Unit {0}
Formed (Some known) = HasForm known

pub same_form : (known x : StateFacts) → Some known ≡ Some x → HasForm known → HasForm x
same_form known x is form = subst HasForm (same known x is) form
  where
    same : (a b : StateFacts) → Some a ≡ Some b → a ≡ b
    same a b is = cc

pub formed_new : (o : Option StateFacts) (x : StateFacts) → Formed o → o ≡ Some x → HasForm x
formed_new None x formed is = absurd cc
formed_new (Some known) x formed is = same_form known x is formed

-- Facts of as many symbols or more, whose definitions are in order and name references that are there.
pub record Grows (known : StateFacts) (facts : Facts) : Type 0 where
  pub form : KeepsForm known.facts facts
  pub rising : AreRising facts.definitions
  pub tests : AllByRecursion (λ d. TestsOf (length known.references) d.1) facts.definitions

-- What a variable or more has behind a rule, over these facts.
pub grown : (known : StateFacts) (facts : Facts) (variables : List Var) → HasForm known → Grows known facts
    → AllByRecursion (IsVar (length facts.ranges) (length known.references)) variables
    → HasForm (record known { variables = variables; facts = facts })
grown known facts variables form grows are = record {
  narrow = grows.form.narrow form.narrow;
  named = grows.form.named form.named;
  rising = grows.rising;
  tests = grows.tests;
  variables = are;
  references = all_weaker (IsReference (length known.facts.ranges)) (IsReference (length facts.ranges)) known.references
      (λ r is. reference_stays (length known.facts.ranges) (length facts.ranges) r grows.form.there is) form.references;
  pairs = form.pairs;
  contents = formed_grows (length known.facts.ranges) (length facts.ranges) (lengths_of known.references) known.contents grows.form.there form.contents;
}

pub variables_stay : (known : StateFacts) (facts : Facts) → HasForm known → Grows known facts
    → AllByRecursion (IsVar (length facts.ranges) (length known.references)) known.variables
variables_stay known facts form grows =
    all_weaker (IsVar (length known.facts.ranges) (length known.references)) (IsVar (length facts.ranges) (length known.references)) known.variables
    (λ v is. var_stays (length known.facts.ranges) (length facts.ranges) (length known.references) (length known.references) v grows.form.there (omega arith) is)
    form.variables

pub same_facts : (known : StateFacts) → HasForm known → Grows known known.facts
same_facts known form = record {
  form = record { there = omega arith; named = λ is. is; narrow = λ is. is };
  rising = form.rising;
  tests = form.tests;
}

-- A reference more, over facts that grew, with its segments and with other pairs.
pub with_reference : (known : StateFacts) (facts : Facts) (r : Reference) (apart : List Pair) (one : Segments) → HasForm known → Grows known facts
    → IsReference (length facts.ranges) r → AllByRecursion (EndsBy (length known.references + 1)) apart → IsFormed (length facts.ranges) r.length one
    → HasForm (record {
      variables = known.variables ++ vars.Reference (length known.references + 1) ∷ [];
      facts = facts;
      references = known.references ++ r ∷ [];
      apart = apart;
      contents = known.contents ++ one ∷ [];
    })
with_reference known facts r apart one form grows is pairs formed =
    let size = one_longer known.references r in
    let one_more : length known.references ≤ length known.references + 1 = omega arith in
    let before = grown known facts known.variables form grows (variables_stay known facts form grows) in
    record {
      narrow = before.narrow;
      named = before.named;
      rising = before.rising;
      tests = rw size (all_weaker (λ (d : ℕ × Def). TestsOf (length known.references) d.1) (λ (d : ℕ × Def). TestsOf (length known.references + 1) d.1)
          facts.definitions (λ d is. test_stays (length known.references) (length known.references + 1) d.1 one_more is) before.tests);
      variables = rw size (all_pushed (IsVar (length facts.ranges) (length known.references + 1)) known.variables (vars.Reference (length known.references + 1))
          (all_weaker (IsVar (length facts.ranges) (length known.references)) (IsVar (length facts.ranges) (length known.references + 1)) known.variables
          (λ v is. var_stays (length facts.ranges) (length facts.ranges) (length known.references) (length known.references + 1) v (omega arith) one_more is)
          before.variables)
          (omega arith));
      references = all_pushed (IsReference (length facts.ranges)) known.references r before.references is;
      pairs = rw size pairs;
      contents = subst (λ (lengths : List Expr). AreFormed (length facts.ranges) lengths (known.contents ++ one ∷ []))
          (sym (map_push (λ (x : Reference). x.length) known.references r))
          (pushed_formed (length facts.ranges) (lengths_of known.references) known.contents r.length one before.contents formed);
    }
