-- What definitions say.
use Rattle.std.specs.Prelude.{◌≡◌, ℕ, ℤ, pos, ◌+ℤ◌, ◌-ℤ◌, Bool, int_lt, List, ◌∷◌, get_or, Option, Some, None, if◌then◌else◌}
use Rattle.std.specs.Ordering.{int_eq}
use Rattle.domain_api.specs.declared.expr.Expr.{Expr}
use Rattle.symbolic_values.specs.declared.def.Def.{Def}
use Rattle.symbolic_values.specs.declared.def.Def.TheVariants.{Eq, Lt, LtUn, NullTest, Sub}
use Rattle.symbolic_values.specs.Names.{same_flag}
use Rattle.symbolic_values.specs.declared.pairs.Key.{Key}
use Rattle.symbolic_values.specs.Pairing.{Pairing, origin}
use Rattle.symbolic_values.specs.Worth.{NamesAgree, behind_uses, worth}

abbrev pub truth : Bool → ℤ
truth holds = if holds then pos 1 else pos 0

-- What a definition says that its symbol is worth, where each symbol is worth a number, each reference is null or
-- not, and `below` is the order that counts each negative number as above all others.
abbrev pub told : (below : ℤ → ℤ → Bool) (number : ℕ → ℤ) (is_null : ℕ → Bool) → Def → ℤ
told below number is_null (Eq x y) = truth (int_eq (worth number x) (worth number y))
told below number is_null (Lt x y) = truth (int_lt (worth number x) (worth number y))
told below number is_null (LtUn x y) = truth (below (worth number x) (worth number y))
told below number is_null (NullTest r is) = truth (same_flag (is_null r) is)
told below number is_null (Sub x y) = worth number x -ℤ worth number y

-- ---- in other names

-- Each reference is null where its name is.
abbrev pub ReferencesAgree : List (Option ℕ) → (ℕ → Bool) → (ℕ → Bool) → Type 0
ReferencesAgree names is_null later = (r q : ℕ) → get_or names r None ≡ Some q → is_null r ≡ later q

-- Where the names agree, the second definition says so much more than the first.
abbrev pub SaysMore : ℤ → List (Option Expr) → List (Option ℕ) → Def → Def → Type 0
SaysMore more symbols references def new =
    (below : ℤ → ℤ → Bool) (number later : ℕ → ℤ) (is_null later_null : ℕ → Bool) → NamesAgree symbols number later
    → ReferencesAgree references is_null later_null → told below later later_null new ≡ (told below number is_null def +ℤ more)

-- Where the names agree, the second definition says the same as the first.
abbrev pub SaysSame : List (Option Expr) → List (Option ℕ) → Def → Def → Type 0
SaysSame symbols references def new =
    (below : ℤ → ℤ → Bool) (number later : ℕ → ℤ) (is_null later_null : ℕ → Bool) → NamesAgree symbols number later
    → ReferencesAgree references is_null later_null → told below number is_null def ≡ told below later later_null new

-- Which references are null behind the keys of paired references: those whose first use is on that side.
abbrev pub null_behind : Bool → (ℕ → Bool) → List Key → ℕ → Bool
null_behind is_first is_null known n = is_null (if is_first then (get_or known n origin).s else (get_or known n origin).t)

-- Under the choices behind the pairs of numbers and of references, the definition says what each of the two says on
-- its side.
abbrev pub SaysBoth : Pairing → Pairing → Def → Def → Def → Type 0
SaysBoth pairs references a b new =
    (below : ℤ → ℤ → Bool) (number : ℕ → ℤ) (is_null : ℕ → Bool) (is_first : Bool)
    → told below (behind_uses is_first number (origin ∷ pairs.keys)) (null_behind is_first is_null (origin ∷ references.keys)) new
    ≡ told below number is_null (if is_first then a else b)
