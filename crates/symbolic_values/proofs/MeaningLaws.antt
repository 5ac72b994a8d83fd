-- What is named otherwise says the same.
use Rattle.std.proofs.Common.{◌≡◌, ℕ, ℤ, pos, ◌+ℤ◌, ◌-ℤ◌, Bool, true, false, int_lt, if◌then◌else◌, List, get_or, Option, None, Some, IfSome, refl, sym, ap, ◌∙◌, arith}
use Rattle.std.specs.Ordering.{int_eq}
use Rattle.std.proofs.lemmas.Int.{ints}
use Rattle.std.proofs.lemmas.Bool.Decides.{Decides-int_eq}
use Rattle.domain_api.specs.declared.expr.Expr.{Expr}
use Rattle.symbolic_values.specs.declared.def.Def.{Def}
use Rattle.symbolic_values.specs.declared.def.Def.TheVariants.{Eq, Lt, LtUn, NullTest, Sub}
use Rattle.symbolic_values.specs.Names.{moved, renamed, renamed_more, renamed_above, of_both, null_test, renamed_def, same_flag}
use Rattle.symbolic_values.specs.Worth.{NamesAgree, worth}
use Rattle.symbolic_values.specs.Meaning.{ReferencesAgree, truth, told}

-- What is there has the property.
pub each_some : {X : Type 0} (P : X → Type 0) (found : Option X) → ((x : X) → found ≡ Some x → P x) → IfSome found P
each_some P None each = tt
each_some P (Some x) each = each x refl

-- ---- names of symbols

pub fitting_is : (symbol : ℕ) (k : ℤ) (e : Expr) (outside : Bool) → (if outside then None else Some (record { sym = symbol; k = k })) ≡ Some e
    → record { sym = symbol; k = k } ≡ e
fitting_is symbol k e true is = cc
fitting_is symbol k e false is = cc

moved_worth : (later : ℕ → ℤ) (n k l : ℤ) → ((n +ℤ k) +ℤ l) ≡ (n +ℤ (k +ℤ l))
moved_worth later n k l = omega (arith, ints)

renamed_by : (names : List (Option Expr)) (number later : ℕ → ℤ) (e f : Expr) (name : Option Expr) → get_or names e.sym None ≡ name → NamesAgree names number later
    → moved name e.k ≡ Some f → worth number e ≡ worth later f
renamed_by names number later e f None at agree is = cc
renamed_by names number later e f (Some name) at agree is =
    let f_is : record { sym = name.sym; k = name.k +ℤ e.k } ≡ f = fitting_is name.sym (name.k +ℤ e.k) f _ is in
    ap (λ n. n +ℤ e.k) (agree e.sym name at) ∙ moved_worth later (later name.sym) name.k e.k ∙ ap (worth later) f_is

-- An expression is worth what it is in other names.
pub renamed_worth : (names : List (Option Expr)) (number later : ℕ → ℤ) (e f : Expr) → NamesAgree names number later → renamed names e ≡ Some f
    → worth number e ≡ worth later f
renamed_worth names number later e f agree is = renamed_by names number later e f (get_or names e.sym None) refl agree is

-- ---- definitions in other names

pub record Both (make : Expr → Expr → Def) (a b : Option Expr) (def : Def) : Type 0 where
  pub x : Expr
  y : Expr
  first : a ≡ Some x
  second : b ≡ Some y
  is : make x y ≡ def

both_of : (make : Expr → Expr → Def) (a b : Option Expr) (def : Def) → of_both make a b ≡ Some def → Both make a b def
both_of make None b def is = cc
both_of make (Some x) None def is = cc
both_of make (Some x) (Some y) def is = record { x = x; y = y; first = refl; second = refl; is = cc }

-- Definitions of two expressions say the same where the expressions are worth the same.
same_told : (below : ℤ → ℤ → Bool) (number later : ℕ → ℤ) (is_null later_null : ℕ → Bool) (make : Expr → Expr → Def) (say : ℤ → ℤ → ℤ) (x y a b : Expr)
    → ((m : ℕ → ℤ) (n : ℕ → Bool) (v w : Expr) → told below m n (make v w) ≡ say (worth m v) (worth m w)) → worth number x ≡ worth later a
    → worth number y ≡ worth later b → told below number is_null (make x y) ≡ told below later later_null (make a b)
same_told below number later is_null later_null make say x y a b says first second =
    says number is_null x y ∙ ap (λ n. say n (worth number y)) first ∙ ap (say (worth later a)) second ∙ sym (says later later_null a b)

pub both_told : (below : ℤ → ℤ → Bool) (number later : ℕ → ℤ) (is_null later_null : ℕ → Bool) (make : Expr → Expr → Def) (say : ℤ → ℤ → ℤ) (x y : Expr) (a b : Option Expr) (def : Def)
    → ((m : ℕ → ℤ) (n : ℕ → Bool) (v w : Expr) → told below m n (make v w) ≡ say (worth m v) (worth m w))
    → ((f : Expr) → a ≡ Some f → worth number x ≡ worth later f) → ((f : Expr) → b ≡ Some f → worth number y ≡ worth later f)
    → of_both make a b ≡ Some def → told below number is_null (make x y) ≡ told below later later_null def
both_told below number later is_null later_null make say x y a b def says first second is =
    let both = both_of make a b def is in
    same_told below number later is_null later_null make say x y both.x both.y says (first both.x both.first) (second both.y both.second)
    ∙ ap (told below later later_null) both.is

pub null_told : (below : ℤ → ℤ → Bool) (number later : ℕ → ℤ) (is_null later_null : ℕ → Bool) (r : ℕ) (is : Bool) (name : Option ℕ) (def : Def)
    → ((q : ℕ) → name ≡ Some q → is_null r ≡ later_null q) → null_test name is ≡ Some def
    → told below number is_null (NullTest r is) ≡ told below later later_null def
null_told below number later is_null later_null r is None def agree made = cc
null_told below number later is_null later_null r is (Some q) def agree made =
    let def_is : NullTest q is ≡ def = cc in
    ap (λ n. truth (same_flag n is)) (agree q refl) ∙ ap (told below later later_null) def_is

-- A definition says the same in other names.
pub renamed_told : (below : ℤ → ℤ → Bool) (number later : ℕ → ℤ) (is_null later_null : ℕ → Bool) (symbols : List (Option Expr)) (references : List (Option ℕ)) (def new : Def)
    → NamesAgree symbols number later → ReferencesAgree references is_null later_null → renamed_def symbols references def ≡ Some new
    → told below number is_null def ≡ told below later later_null new
renamed_told below number later is_null later_null symbols references (Eq x y) new agree nulls is =
    both_told below number later is_null later_null (λ a b. Eq a b) (λ m n. truth (int_eq m n)) x y _ _ new (λ m n v w. refl)
    (λ f. renamed_worth symbols number later x f agree) (λ f. renamed_worth symbols number later y f agree) is
renamed_told below number later is_null later_null symbols references (Lt x y) new agree nulls is =
    both_told below number later is_null later_null (λ a b. Lt a b) (λ m n. truth (int_lt m n)) x y _ _ new (λ m n v w. refl)
    (λ f. renamed_worth symbols number later x f agree) (λ f. renamed_worth symbols number later y f agree) is
renamed_told below number later is_null later_null symbols references (LtUn x y) new agree nulls is =
    both_told below number later is_null later_null (λ a b. LtUn a b) (λ m n. truth (below m n)) x y _ _ new (λ m n v w. refl)
    (λ f. renamed_worth symbols number later x f agree) (λ f. renamed_worth symbols number later y f agree) is
renamed_told below number later is_null later_null symbols references (Sub x y) new agree nulls is =
    both_told below number later is_null later_null (λ a b. Sub a b) (λ m n. m -ℤ n) x y _ _ new (λ m n v w. refl)
    (λ f. renamed_worth symbols number later x f agree) (λ f. renamed_worth symbols number later y f agree) is
renamed_told below number later is_null later_null symbols references (NullTest r flag) new agree nulls is =
    null_told below number later is_null later_null r flag (get_or references r None) new (λ q. nulls r q) is

-- ---- definitions of what is greater

no_more : (n : ℤ) → n ≡ (n +ℤ pos 0)
no_more n = omega (arith, ints)

unless_told : (below : ℤ → ℤ → Bool) (number later : ℕ → ℤ) (is_null later_null : ℕ → Bool) (more : ℤ) (def new : Def) (named : Option Def) (zero : Bool) → int_eq more (pos 0) ≡ zero
    → ((d : Def) → named ≡ Some d → told below number is_null def ≡ told below later later_null d)
    → (if zero then named else None) ≡ Some new → told below later later_null new ≡ (told below number is_null def +ℤ more)
unless_told below number later is_null later_null more def new named true zero says is =
    let none : more ≡ pos 0 = (Decides-int_eq more (pos 0)).0 zero in
    sym (says new is) ∙ no_more (told below number is_null def) ∙ ap (λ n. told below number is_null def +ℤ n) (sym none)
unless_told below number later is_null later_null more def new named false zero says is = cc

more_moved : (n k l more : ℤ) → (n +ℤ (k +ℤ (l +ℤ more))) ≡ (((n +ℤ k) +ℤ l) +ℤ more)
more_moved n k l more = omega (arith, ints)

more_by : (names : List (Option Expr)) (number later : ℕ → ℤ) (more : ℤ) (e f : Expr) (name : Option Expr) → get_or names e.sym None ≡ name → NamesAgree names number later
    → moved name (e.k +ℤ more) ≡ Some f → worth later f ≡ (worth number e +ℤ more)
more_by names number later more e f None at agree is = cc
more_by names number later more e f (Some name) at agree is =
    let f_is : record { sym = name.sym; k = name.k +ℤ (e.k +ℤ more) } ≡ f = fitting_is name.sym (name.k +ℤ (e.k +ℤ more)) f _ is in
    ap (worth later) (sym f_is) ∙ more_moved (later name.sym) name.k e.k more ∙ ap (λ n. (n +ℤ e.k) +ℤ more) (sym (agree e.sym name at))

more_first : (x y more : ℤ) → ((x +ℤ more) -ℤ y) ≡ ((x -ℤ y) +ℤ more)
more_first x y more = omega (arith, ints)

-- In other names, the definition of what is greater by so much says so much more.
pub renamed_above_told : (below : ℤ → ℤ → Bool) (number later : ℕ → ℤ) (is_null later_null : ℕ → Bool) (more : ℤ) (symbols : List (Option Expr)) (references : List (Option ℕ))
    (def new : Def) → NamesAgree symbols number later → ReferencesAgree references is_null later_null → renamed_above more symbols references def ≡ Some new
    → told below later later_null new ≡ (told below number is_null def +ℤ more)
renamed_above_told below number later is_null later_null more symbols references (Eq x y) new agree nulls is =
    unless_told below number later is_null later_null more (Eq x y) new (renamed_def symbols references (Eq x y)) (int_eq more (pos 0)) refl
    (λ d. renamed_told below number later is_null later_null symbols references (Eq x y) d agree nulls) is
renamed_above_told below number later is_null later_null more symbols references (Lt x y) new agree nulls is =
    unless_told below number later is_null later_null more (Lt x y) new (renamed_def symbols references (Lt x y)) (int_eq more (pos 0)) refl
    (λ d. renamed_told below number later is_null later_null symbols references (Lt x y) d agree nulls) is
renamed_above_told below number later is_null later_null more symbols references (LtUn x y) new agree nulls is =
    unless_told below number later is_null later_null more (LtUn x y) new (renamed_def symbols references (LtUn x y)) (int_eq more (pos 0)) refl
    (λ d. renamed_told below number later is_null later_null symbols references (LtUn x y) d agree nulls) is
renamed_above_told below number later is_null later_null more symbols references (NullTest r flag) new agree nulls is =
    unless_told below number later is_null later_null more (NullTest r flag) new (renamed_def symbols references (NullTest r flag)) (int_eq more (pos 0)) refl
    (λ d. renamed_told below number later is_null later_null symbols references (NullTest r flag) d agree nulls) is
renamed_above_told below number later is_null later_null more symbols references (Sub x y) new agree nulls is =
    let both = both_of (λ a b. Sub a b) (renamed_more symbols more x) (renamed symbols y) new is in
    ap (told below later later_null) (sym both.is)
    ∙ ap (λ n. n -ℤ worth later both.y) (more_by symbols number later more x both.x (get_or symbols x.sym None) refl agree both.first)
    ∙ ap (λ n. (worth number x +ℤ more) -ℤ n) (sym (renamed_worth symbols number later y both.y agree both.second))
    ∙ more_first (worth number x) (worth number y) more
