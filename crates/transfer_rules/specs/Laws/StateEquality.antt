-- A test of equality of two states, part by part.
use Rattle.std.proofs.Common.{◌≡◌, ◌↔◌, ◌∙◌, ℕ, zero, suc, ℤ, pos, int_eq, Bool, true, false, ◌&&◌, ◌==◌, List, [], ◌∷◌, Option, Some, None, refl, sym, ap, drop, unwrap_or}
use Rattle.std.specs.Bool.{beq}
use Rattle.std.proofs.lemmas.Bool.{and_parts, false≢true}
use Rattle.std.proofs.lemmas.Bool.Decides.{Decides-int_eq, Decides-eqb}
use Rattle.alias_facts.specs.declared.nullness.Nullness.{Nullness}
use Rattle.alias_facts.specs.declared.nullness.Nullness.TheVariants as nullness
use Rattle.array_segments.specs.SegmentLists.{Lists}
use Rattle.cil_model.specs.declared.place.Place.{Place}
use Rattle.cil_model.specs.declared.place.Place.TheVariants as places
use Rattle.domain_api.specs.declared.expr.Expr.{Expr}
use Rattle.frame_names.specs.declared.reference.Reference.{Reference}
use Rattle.frame_names.specs.declared.var.Var.{Var}
use Rattle.frame_names.specs.declared.var.Var.TheVariants as vars
use Rattle.interval_domain.specs.Interval.{Interval}
use Rattle.number_facts.specs.Facts.{Facts}
use Rattle.pentagon_domain.specs.declared.bound_row.BoundRow.{BoundRow}
use Rattle.state_facts.specs.StateFacts.{State, StateFacts}
use Rattle.symbolic_values.specs.declared.def.Def.{Def}
use Rattle.symbolic_values.specs.declared.def.Def.TheVariants as defs

-- A test of equality, which is exact.
pub record Equality (A : Type 0) : Type 0 where
  pub equal : A → A → Bool
  pub exact : (a b : A) → (equal a b ≡ true) ↔ (a ≡ b)

-- ---- put together

and_both : (x y : Bool) → x ≡ true → y ≡ true → (x && y) ≡ true
and_both true y first second = second
and_both false y first second = first

abbrev head_or : {A : Type 0} → List A → A → A
head_or [] other = other
head_or (x ∷ xs) other = x

abbrev is_empty : {A : Type 0} → List A → Bool
is_empty [] = true
is_empty (x ∷ xs) = false

abbrev is_none : {A : Type 0} → Option A → Bool
is_none None = true
is_none (Some x) = false

-- Of values that are told by what stands for them.
pub told_by : {A B : Type 0} (part : A → B) (whole : B → A) → ((a : A) → whole (part a) ≡ a) → Equality B → Equality A
told_by part whole back test = record {
  equal = λ a b. test.equal (part a) (part b);
  exact = λ a b. (
    λ e. sym (back a) ∙ ap whole ((test.exact (part a) (part b)).0 e) ∙ back b,
    λ e. (test.exact (part a) (part b)).1 (ap part e),
  );
}

pub both : {A B : Type 0} → Equality A → Equality B → Equality (A × B)
both first second = record {
  equal = λ a b. first.equal a.0 b.0 && second.equal a.1 b.1;
  exact = λ a b. (
    λ e. let parts = and_parts (first.equal a.0 b.0) _ e in
        ap (λ x. (x, a.1)) ((first.exact a.0 b.0).0 parts.0) ∙ ap (λ y. (b.0, y)) ((second.exact a.1 b.1).0 parts.1),
    λ e. and_both _ _ ((first.exact a.0 b.0).1 (ap (λ p. p.0) e)) ((second.exact a.1 b.1).1 (ap (λ p. p.1) e)),
  );
}

module _ {A : Type 0} (test : Equality A) where
  abbrev equal_lists : List A → List A → Bool
  equal_lists [] [] = true
  equal_lists [] (y ∷ ys) = false
  equal_lists (x ∷ xs) [] = false
  equal_lists (x ∷ xs) (y ∷ ys) = test.equal x y && equal_lists xs ys

  exact_lists : (xs ys : List A) → (equal_lists xs ys ≡ true) ↔ (xs ≡ ys)
  exact_lists [] [] = (λ e. refl, λ e. refl)
  exact_lists [] (y ∷ ys) = (λ e. absurd (false≢true e), λ e. ap is_empty (sym e))
  exact_lists (x ∷ xs) [] = (λ e. absurd (false≢true e), λ e. ap is_empty e)
  exact_lists (x ∷ xs) (y ∷ ys) = (
    λ e. let parts = and_parts (test.equal x y) _ e in
        ap (λ item. item ∷ xs) ((test.exact x y).0 parts.0) ∙ ap (λ rest. y ∷ rest) ((exact_lists xs ys).0 parts.1),
    λ e. and_both _ _ ((test.exact x y).1 (ap (λ items. head_or items x) e))
        ((exact_lists xs ys).1 (ap (λ items. drop 1 items) e)),
  )

  pub of_lists : Equality (List A)
  of_lists = record { equal = equal_lists; exact = exact_lists }

  abbrev equal_options : Option A → Option A → Bool
  equal_options None None = true
  equal_options None (Some y) = false
  equal_options (Some x) None = false
  equal_options (Some x) (Some y) = test.equal x y

  exact_options : (x y : Option A) → (equal_options x y ≡ true) ↔ (x ≡ y)
  exact_options None None = (λ e. refl, λ e. refl)
  exact_options None (Some y) = (λ e. absurd (false≢true e), λ e. ap is_none (sym e))
  exact_options (Some x) None = (λ e. absurd (false≢true e), λ e. ap is_none e)
  exact_options (Some x) (Some y) =
      (λ e. ap Some ((test.exact x y).0 e), λ e. (test.exact x y).1 (ap (λ o. unwrap_or o x) e))

  pub of_options : Equality (Option A)
  of_options = record { equal = equal_options; exact = exact_options }

-- ---- numbers and truth values

pub naturals : Equality ℕ
naturals = record { equal = λ a b. a == b; exact = Decides-eqb }

pub integers : Equality ℤ
integers = record { equal = int_eq; exact = Decides-int_eq }

exact_truths : (a b : Bool) → (beq a b ≡ true) ↔ (a ≡ b)
exact_truths true true = (λ e. refl, λ e. refl)
exact_truths true false = (λ e. absurd (false≢true e), λ e. sym e)
exact_truths false true = (λ e. absurd (false≢true e), λ e. e)
exact_truths false false = (λ e. refl, λ e. refl)

pub truths : Equality Bool
truths = record { equal = beq; exact = exact_truths }

-- ---- what a state is made of

pub exprs : Equality Expr
exprs = told_by (λ e. (e.sym, e.k)) (λ p. record { sym = p.0; k = p.1 }) (λ e. refl) (both naturals integers)

abbrev zero_expr : Expr
zero_expr = record { sym = 0; k = pos 0 }

-- A variable by its kind, its reference and its expression.
abbrev var_parts : Var → ℕ × (ℕ × Expr)
var_parts (vars.Number e) = (0, (0, e))
var_parts (vars.Reference r) = (1, (r, zero_expr))
var_parts vars.Text = (2, (0, zero_expr))
var_parts (vars.Address r e) = (3, (r, e))

abbrev var_of : ℕ × (ℕ × Expr) → Var
var_of (zero, (r, e)) = vars.Number e
var_of (suc zero, (r, e)) = vars.Reference r
var_of (suc (suc zero), (r, e)) = vars.Text
var_of (suc (suc (suc n)), (r, e)) = vars.Address r e

var_same : (v : Var) → var_of (var_parts v) ≡ v
var_same (vars.Number e) = refl
var_same (vars.Reference r) = refl
var_same vars.Text = refl
var_same (vars.Address r e) = refl

pub variables : Equality Var
variables = told_by var_parts var_of var_same (both naturals (both naturals exprs))

-- A definition by its kind, its two expressions, and what is told of null.
abbrev def_parts : Def → ℕ × ((Expr × Expr) × (ℕ × Bool))
def_parts (defs.Eq a b) = (0, ((a, b), (0, false)))
def_parts (defs.Lt a b) = (1, ((a, b), (0, false)))
def_parts (defs.LtUn a b) = (2, ((a, b), (0, false)))
def_parts (defs.NullTest r is) = (3, ((zero_expr, zero_expr), (r, is)))
def_parts (defs.Sub a b) = (4, ((a, b), (0, false)))

abbrev def_of : ℕ × ((Expr × Expr) × (ℕ × Bool)) → Def
def_of (zero, ((a, b), (r, is))) = defs.Eq a b
def_of (suc zero, ((a, b), (r, is))) = defs.Lt a b
def_of (suc (suc zero), ((a, b), (r, is))) = defs.LtUn a b
def_of (suc (suc (suc zero)), ((a, b), (r, is))) = defs.NullTest r is
def_of (suc (suc (suc (suc n))), ((a, b), (r, is))) = defs.Sub a b

def_same : (def : Def) → def_of (def_parts def) ≡ def
def_same (defs.Eq a b) = refl
def_same (defs.Lt a b) = refl
def_same (defs.LtUn a b) = refl
def_same (defs.NullTest r is) = refl
def_same (defs.Sub a b) = refl

pub definitions : Equality Def
definitions = told_by def_parts def_of def_same (both naturals (both (both exprs exprs) (both naturals truths)))

abbrev place_number : Place → ℕ
place_number places.Void = 0
place_number places.Bool = 1
place_number places.Int = 2
place_number places.Bools = 3
place_number places.Ints = 4

abbrev place_of : ℕ → Place
place_of zero = places.Void
place_of (suc zero) = places.Bool
place_of (suc (suc zero)) = places.Int
place_of (suc (suc (suc zero))) = places.Bools
place_of (suc (suc (suc (suc n)))) = places.Ints

place_same : (place : Place) → place_of (place_number place) ≡ place
place_same places.Void = refl
place_same places.Bool = refl
place_same places.Int = refl
place_same places.Bools = refl
place_same places.Ints = refl

abbrev null_number : Nullness → ℕ
null_number nullness.May = 0
null_number nullness.NotNull = 1
null_number nullness.Null = 2

abbrev null_of : ℕ → Nullness
null_of zero = nullness.May
null_of (suc zero) = nullness.NotNull
null_of (suc (suc n)) = nullness.Null

null_same : (known : Nullness) → null_of (null_number known) ≡ known
null_same nullness.May = refl
null_same nullness.NotNull = refl
null_same nullness.Null = refl

places_known : Equality (Place × Nullness)
places_known =
    both (told_by place_number place_of place_same naturals) (told_by null_number null_of null_same naturals)

pub references : Equality Reference
references = told_by (λ r. ((r.place, r.nullness), r.length))
    (λ p. record { place = p.0.0; nullness = p.0.1; length = p.1 }) (λ r. refl) (both places_known exprs)

pub ranges : Equality Interval
ranges = told_by (λ r. ((r.lo, r.hi), r.hole)) (λ p. record { lo = p.0.0; hi = p.0.1; hole = p.1 }) (λ r. refl)
    (both (both integers integers) (of_options integers))

pub bound_rows : Equality BoundRow
bound_rows = told_by (λ r. ((r.s, r.t), r.k)) (λ p. record { s = p.0.0; t = p.0.1; k = p.1 }) (λ r. refl)
    (both (both naturals naturals) integers)

pub facts : Equality Facts
facts = told_by (λ f. ((f.ranges, f.definitions), f.bounds))
    (λ p. record { ranges = p.0.0; definitions = p.0.1; bounds = p.1 }) (λ f. refl)
    (both (both (of_lists ranges) (of_lists (both naturals definitions))) (of_lists bound_rows))

pub segments : Equality (Lists Interval)
segments = told_by (λ s. ((s.bounds, s.contents), s.marks))
    (λ p. record { bounds = p.0.0; contents = p.0.1; marks = p.1 }) (λ s. refl)
    (both (both (of_lists (of_lists exprs)) (of_lists ranges)) (of_lists truths))

pub known_states : Equality StateFacts
known_states = told_by (λ s. ((s.variables, s.facts), ((s.references, s.apart), s.contents)))
    (λ p. record { variables = p.0.0; facts = p.0.1; references = p.1.0.0; apart = p.1.0.1; contents = p.1.1 })
    (λ s. refl)
    (both (both (of_lists variables) facts)
    (both (both (of_lists references) (of_lists (both naturals naturals))) (of_lists segments)))

-- ---- states

pub states : Equality State
states = of_options known_states
