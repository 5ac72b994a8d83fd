-- Each expression is read back from its text.
use Rattle.std.proofs.Common.{◌≡◌, ℕ, zero, suc, ◌<◌, ◌^◌, ◌==◌, ℤ, pos, negsuc, Bool, true, false, List, [], ◌∷◌, ◌++◌}
use Rattle.std.proofs.Common.{Option, Some, None, refl, arith, codes, if◌then◌else◌}
use Rattle.std.specs.Fmt.{decimal, signed_decimal}
use Rattle.std.specs.Int.Signed.{mag}
use Rattle.domain_api.specs.declared.expr.Expr.{Expr}
use Rattle.invariant_text.specs.NumberTexts.{added_text, expr_text}
use Rattle.invariant_text.proofs.DefReading.{Operator, Equal, Less, LessUnsigned, Minus, last_no_constant, operated}
use Rattle.invariant_text.proofs.DefReading.{operator_first, operator_no_digit}
use Rattle.invariant_text.proofs.ExprReading.{EndsExpr, IsSmall, added_kind, added_no_digit, behind_letter}
use Rattle.invariant_text.proofs.ExprReading.{less_added, letter_no_digit, more_added, nothing_added, number_text}
use Rattle.invariant_text.proofs.NumberReading.{number_begins, number_behind}
use Rattle.invariant_reader.specs.Expressions.{expr, read_added, read_constant, read_expr, read_first_added}
use Rattle.invariant_reader.specs.Expressions.{read_first_expr, read_first_sum, read_sum}
use Rattle.invariant_reader.specs.Prefixes.{behind}
use Rattle.invariant_reader.specs.CodeNumbers.{IsCodeExpr}
use Rattle.invariant_reader.proofs.NumberReads.{negative_reads, positive_reads, short_reads, signed_reads}
use Rattle.invariant_reader.proofs.PrefixLemmas.{not_behind}

pub small_code : (e : Expr) → IsCodeExpr e → IsSmall e
small_code e is = record { symbol = omega (arith, is.symbol); constant = is.constant }

-- ---- what is added

-- Nothing, more or less, as `added_kind` tells it.
abbrev kind_by : (space plus minus : Bool) → ℕ
kind_by space plus minus = if space then (if plus then 1 else if minus then 2 else 0) else 0

no_more : (space plus minus : Bool) (o : Option (List ℕ)) → kind_by space plus minus ≡ 0
    → (if space then (if plus then o else None) else None) ≡ None
no_more true true minus o kind = absurd (omega (arith, kind))
no_more true false minus o kind = refl
no_more false plus minus o kind = refl

no_less : (space plus minus : Bool) (o : Option (List ℕ)) → kind_by space plus minus ≡ 0
    → (if space then (if minus then o else None) else None) ≡ None
no_less true true minus o kind = absurd (omega (arith, kind))
no_less true false true o kind = absurd (omega (arith, kind))
no_less true false false o kind = refl
no_less false plus minus o kind = refl

one_alone : (space : Bool) (o : Option (List ℕ)) → (if space then o else o) ≡ o
one_alone true o = refl
one_alone false o = refl

nothing_more : (text : List ℕ) → added_kind text ≡ 0 → behind (codes " + ") text ≡ None
nothing_more [] kind = refl
nothing_more (a ∷ []) kind = one_alone (a == 32) None
nothing_more (a ∷ b ∷ text) kind = no_more (a == 32) (b == 43) (b == 45) (behind (codes " ") text) kind

nothing_less : (text : List ℕ) → added_kind text ≡ 0 → behind (codes " - ") text ≡ None
nothing_less [] kind = refl
nothing_less (a ∷ []) kind = one_alone (a == 32) None
nothing_less (a ∷ b ∷ text) kind = no_less (a == 32) (b == 43) (b == 45) (behind (codes " ") text) kind

pub added_reads : (k : ℤ) (rest : List ℕ) → mag k < 2 ^ 63 → EndsExpr rest
    → read_added (added_text k ++ rest) ≡ Some (k, rest)
unfolding read_added
added_reads (pos zero) rest fits ends =
    rw (nothing_added, nothing_more rest ends.not_added, nothing_less rest ends.not_added)
added_reads (pos (suc n)) rest fits ends = rw (more_added n) (positive_reads (suc n) rest fits ends.no_digit)
added_reads (negsuc n) rest fits ends = rw (less_added n) (negative_reads n rest fits ends.no_digit)

-- ---- expressions

no_symbol : (k : ℤ) (rest : List ℕ) → mag k < 2 ^ 63 → behind (codes "s") (signed_decimal k ++ rest) ≡ None
no_symbol (pos n) rest fits =
    not_behind 115 [] (decimal n ++ rest)
    (letter_no_digit 115 (decimal n ++ rest) (omega arith) (number_begins n rest (omega (arith, fits))))
no_symbol (negsuc n) rest fits = refl

parts_read : (s : ℕ) (k : ℤ) (rest : List ℕ) → s < 2 ^ 32 → mag k < 2 ^ 63 → EndsExpr rest
    → read_expr (expr_text (record { sym = s; k = k }) ++ rest) ≡ Some (expr s k, rest)
unfolding read_expr read_sum read_constant
parts_read zero k rest s_fits k_fits ends =
    rw (number_text k, no_symbol k rest k_fits, signed_reads k rest k_fits ends.no_digit)
parts_read (suc s) k rest s_fits k_fits ends =
    rw (
      behind_letter s k rest,
      short_reads (suc s) (added_text k ++ rest) s_fits (added_no_digit k rest ends.no_digit),
      added_reads k rest k_fits ends,
    )

pub expr_reads : (e : Expr) (rest : List ℕ) → IsCodeExpr e → EndsExpr rest
    → read_expr (expr_text e ++ rest) ≡ Some (e, rest)
expr_reads e rest is ends = parts_read e.sym e.k rest is.symbol is.constant ends

-- ---- the first of two expressions

none_first : (o : Operator) (b : Expr) (rest : List ℕ) → IsSmall b
    → read_first_added (operated o b rest) ≡ Some (pos 0, operated o b rest)
unfolding read_first_added read_added
none_first Equal b rest small = refl
none_first Less b rest small = refl
none_first LessUnsigned b rest small = refl
none_first Minus b rest small = rw (last_no_constant b.sym b.k rest small.constant)

first_added_reads : (k : ℤ) (o : Operator) (b : Expr) (rest : List ℕ) → mag k < 2 ^ 63 → IsSmall b
    → read_first_added (added_text k ++ operated o b rest) ≡ Some (k, operated o b rest)
unfolding read_first_added read_added
first_added_reads (pos zero) o b rest fits small = rw nothing_added (none_first o b rest small)
first_added_reads (pos (suc n)) o b rest fits small =
    rw (more_added n)
    (positive_reads (suc n) (operated o b rest) fits (operator_no_digit o (expr_text b ++ 10 ∷ rest)))
first_added_reads (negsuc n) o b rest fits small =
    let few : suc n < 2 ^ 64 = omega (arith, fits) in
    let none = operator_no_digit o (expr_text b ++ 10 ∷ rest) in
    rw (
      less_added n,
      number_begins (suc n) (operated o b rest) few,
      number_behind (suc n) (operated o b rest) few none,
      operator_first o (expr_text b ++ 10 ∷ rest),
    )
    (negative_reads n (operated o b rest) fits none)

first_parts_read : (s : ℕ) (k : ℤ) (o : Operator) (b : Expr) (rest : List ℕ) → s < 2 ^ 32 → mag k < 2 ^ 63 → IsSmall b
    → read_first_expr (expr_text (record { sym = s; k = k }) ++ operated o b rest)
    ≡ Some (expr s k, operated o b rest)
unfolding read_first_expr read_first_sum read_constant
first_parts_read zero k o b rest s_fits k_fits small =
    rw (
      number_text k,
      no_symbol k (operated o b rest) k_fits,
      signed_reads k (operated o b rest) k_fits (operator_no_digit o (expr_text b ++ 10 ∷ rest)),
    )
first_parts_read (suc s) k o b rest s_fits k_fits small =
    rw (
      behind_letter s k (operated o b rest),
      short_reads (suc s) (added_text k ++ operated o b rest) s_fits
          (added_no_digit k (operated o b rest) (operator_no_digit o (expr_text b ++ 10 ∷ rest))),
      first_added_reads k o b rest k_fits small,
    )

pub first_expr_reads : (a : Expr) (o : Operator) (b : Expr) (rest : List ℕ) → IsCodeExpr a → IsSmall b
    → read_first_expr (expr_text a ++ operated o b rest) ≡ Some (a, operated o b rest)
first_expr_reads a o b rest is small = first_parts_read a.sym a.k o b rest is.symbol is.constant small
