-- What is known is so, and what it means that a rule makes a number of which more is known.
use Rattle.std.specs.Prelude.{◌≡◌, ◌≢◌, ℕ, ◌+◌, ◌≤◌, ℤ, pos, ◌+ℤ◌, ◌≤ℤ◌, Bool, true, ◌&&◌, ◌||◌, int_lt, length, FitsSigned, Option, Some, None, if◌then◌else◌}
use Rattle.std.specs.Int.{w32}
use Rattle.std.specs.List.{AllByRecursion}
use Rattle.domain_api.specs.declared.expr.Expr.{Expr}
use Rattle.cil_model.specs.Arithmetic.{compares, truth}
use Rattle.cil_model.specs.Comparisons.{comparison_of}
use Rattle.cil_model.specs.declared.instruction.BinOp.{BinOp}
use Rattle.cil_model.specs.declared.instruction.CmpOp.{CmpOp}
use Rattle.pentagon_domain.specs.Gaps.{AreBelow}
use Rattle.symbolic_values.specs.Meaning.{told}
use Rattle.symbolic_values.specs.Worth.{worth}
use Rattle.symbolic_values.specs.declared.def.Def.{Def}
use Rattle.symbolic_values.specs.declared.def.Def.TheVariants.{Eq, Lt, LtUn, NullTest, Sub}
use Rattle.number_spans.specs.Spans.{Has}
use Rattle.number_facts.specs.Laws.Allowing.{AllowsNumbers}
use Rattle.number_facts.specs.Facts.{Facts, AreNarrow}
use Rattle.number_facts.specs.declared.relation.Relation.{Relation}
use Rattle.number_facts.specs.declared.relation.Relation.TheVariants.{AtLeast, AtMost, Is}

-- The order of whole numbers that counts each negative one as above all others.
abbrev pub is_below : ℤ → ℤ → Bool
is_below m n = if int_lt m (pos 0) then int_lt n (pos 0) && int_lt m n else int_lt n (pos 0) || int_lt m n

-- A symbol is what its definition says.
abbrev pub IsDefined : (ℕ → ℤ) → (ℕ → Bool) → (ℕ × Def) → Type 0
IsDefined number is_null d = number d.0 ≡ told is_below number is_null d.1

-- All that is known is so of a number for each symbol, and of which references are null.
pub record Holds (facts : Facts) (number : ℕ → ℤ) (is_null : ℕ → Bool) : Type 0 where
  pub allowed : AllowsNumbers facts number
  pub definitions : AllByRecursion (IsDefined number is_null) facts.definitions

-- ---- ends

-- Numbers that ranges and bounds allow make the expression one from lo to hi, and not the hole.
abbrev pub AreEndsOf : Facts → Expr → ℤ → ℤ → Option ℤ → Type 0
AreEndsOf facts e lo hi hole = (number : ℕ → ℤ) → AllowsNumbers facts number → Has (record { lo = lo; hi = hi; hole = hole }) (worth number e)

-- ---- the form: what is known speaks of symbols that are there

abbrev pub Names : ℕ → Def → Type 0
Names count (Eq x y) = (x.sym ≤ count) × (y.sym ≤ count)
Names count (Lt x y) = (x.sym ≤ count) × (y.sym ≤ count)
Names count (LtUn x y) = (x.sym ≤ count) × (y.sym ≤ count)
Names count (NullTest r is) = Unit {0}
Names count (Sub x y) = (x.sym ≤ count) × (y.sym ≤ count)

abbrev pub NamesOwn : ℕ → (ℕ × Def) → Type 0
NamesOwn count d = (d.0 ≤ count) × Names count d.1

pub record AreNamed (facts : Facts) : Type 0 where
  pub bounds : AllByRecursion (AreBelow (length facts.ranges + 1)) facts.bounds
  pub definitions : AllByRecursion (NamesOwn (length facts.ranges)) facts.definitions

-- Behind a rule each symbol is still there, what is known speaks of symbols that are there, and ranges are of int32.
pub record KeepsForm (before after : Facts) : Type 0 where
  pub there : length before.ranges ≤ length after.ranges
  pub named : AreNamed before → AreNamed after
  pub narrow : AreNarrow before → AreNarrow after

-- ---- new numbers

-- What else is known of a symbol is so.
abbrev pub IsRelated : (ℕ → ℤ) → (ℕ → Bool) → ℕ → Relation → Type 0
IsRelated number is_null t (AtLeast s k) = (number s +ℤ k) ≤ℤ number t
IsRelated number is_null t (AtMost s k) = number t ≤ℤ (number s +ℤ k)
IsRelated number is_null t (Is def) = number t ≡ told is_below number is_null def

-- What is known after is so of some numbers, which are as before for each symbol that was there, and of these the
-- expression is worth n.
pub record HoldsWith (before after : Facts) (number : ℕ → ℤ) (is_null : ℕ → Bool) (e : Expr) (n : ℤ) : Type 0 where
  pub later : ℕ → ℤ
  pub agrees : (s : ℕ) → s ≤ length before.ranges → later s ≡ number s
  pub holds : Holds after later is_null
  pub is : worth later e ≡ n

-- What a comparison pushes is worth its truth, where both expressions are worth int32.
abbrev pub KeepsTruth : BinOp → Expr → Expr → Facts → Expr → Facts → Type 0
KeepsTruth op a b before e after =
    (number : ℕ → ℤ) (is_null : ℕ → Bool) (cmp : CmpOp) → AreNamed before → comparison_of op ≡ Some cmp → Holds before number is_null
    → FitsSigned w32 (worth number a) → FitsSigned w32 (worth number b)
    → HoldsWith before after number is_null e (truth (compares cmp (worth number a) (worth number b)))

-- An expression is made, and it is worth n.
abbrev pub YieldsSome : Facts → Facts → (ℕ → ℤ) → (ℕ → Bool) → Option Expr → ℤ → Type 0
YieldsSome before after number is_null None n = ⊥
YieldsSome before after number is_null (Some e) n = HoldsWith before after number is_null e n

-- A new number from lo to hi but for the hole may be each int32 that is one.
abbrev pub KeepsFresh : ℤ → ℤ → Option ℤ → Facts → Option Expr → Facts → Type 0
KeepsFresh lo hi hole before made after =
    (number : ℕ → ℤ) (is_null : ℕ → Bool) (n : ℤ) → AreNamed before → Holds before number is_null → FitsSigned w32 n → lo ≤ℤ n → n ≤ℤ hi
    → hole ≢ Some n → YieldsSome before after number is_null made n

-- ---- what is assumed

-- Both expressions are worth int32, and the comparison of these is true, or is not.
pub record Compares (op : CmpOp) (a b : Expr) (holds : Bool) (number : ℕ → ℤ) : Type 0 where
  pub first : FitsSigned w32 (worth number a)
  pub second : FitsSigned w32 (worth number b)
  pub so : compares op (worth number a) (worth number b) ≡ holds

-- Where all that is known is so of numbers of which a comparison is so, something is reached when it is assumed, and
-- all that is known then is so of these numbers too.
abbrev pub KeepsCompared : CmpOp → Expr → Expr → Bool → Facts → Bool → Facts → Type 0
KeepsCompared op a b holds before reached after =
    (number : ℕ → ℤ) (is_null : ℕ → Bool) → Holds before number is_null → Compares op a b holds number
    → (reached ≡ true) × Holds after number is_null
