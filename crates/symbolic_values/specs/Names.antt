-- Expressions and definitions in other names.
use Rattle.std.specs.Prelude.{ℕ, ◌+◌, nat_lt, ◌==◌, ℤ, pos, negsuc, ◌+ℤ◌, ◌-ℤ◌, Bool, true, false, not, ◌&&◌, ◌||◌, int_lt, List, get_or, map, Option, None, Some, if◌then◌else◌}
use Rattle.std.specs.List.{position}
use Rattle.std.specs.Ordering.{int_eq}
use Rattle.domain_api.specs.declared.expr.Expr.{Expr}
use Rattle.symbolic_values.specs.declared.def.Def.{Def}
use Rattle.symbolic_values.specs.declared.def.Def.TheVariants.{Eq, Lt, LtUn, NullTest, Sub}
use Rattle.symbolic_values.specs.Pairing.{Pairing, paired, same_key, origin, use_of}

-- ---- expressions

-- The expression of a symbol and a constant. None where the constant is none of 64 bits.
abbrev pub fitting : ℕ → ℤ → Option Expr
fitting symbol k =
    if int_lt k (negsuc 9223372036854775807) || int_lt (pos 9223372036854775807) k then None
    else Some (record { sym = symbol; k = k })

-- A name, and a constant more.
abbrev pub moved : Option Expr → ℤ → Option Expr
moved None k = None
moved (Some name) k = fitting name.sym (name.k +ℤ k)

-- An expression, where each symbol has the name at its place, or none.
abbrev pub renamed : List (Option Expr) → Expr → Option Expr
renamed names e = moved (get_or names e.sym None) e.k

-- Both are the same constant.
abbrev pub are_same_constant : Expr → Expr → Bool
are_same_constant e f = e.sym == 0 && (f.sym == 0 && int_eq e.k f.k)

-- The symbol of the key at a place, less its first offset, and a constant more. None where its number is none of 32
-- bits.
abbrev pub named_at : Pairing → ℤ → Option ℕ → Option Expr
named_at pairs k None = None
named_at pairs k (Some place) =
    if nat_lt place 4294967295 then fitting (place + 1) (k -ℤ (get_or pairs.keys place origin).first) else None

-- Two expressions by the key that they have in common, if it is known. Two equal constants stay that constant.
abbrev pub paired_expr : Pairing → Expr → Expr → Option Expr
paired_expr pairs e f =
    if are_same_constant e f then Some e else named_at pairs e.k (position (same_key (use_of e f)) pairs.keys)

-- References pair as expressions without a constant do.
abbrev pub as_expr : ℕ → Expr
as_expr r = record { sym = r; k = pos 0 }

-- The references of two lists, named together.
abbrev pub paired_references : List ℕ → List ℕ → Pairing
paired_references a b = paired (map as_expr a) (map as_expr b)

abbrev pub symbol_of : Option Expr → Option ℕ
symbol_of None = None
symbol_of (Some e) = Some e.sym

abbrev pub paired_reference : Pairing → ℕ → ℕ → Option ℕ
paired_reference references r q = symbol_of (paired_expr references (as_expr r) (as_expr q))

-- ---- definitions

-- A definition of two expressions, where both are left.
abbrev pub of_both : (Expr → Expr → Def) → Option Expr → Option Expr → Option Def
of_both make (Some x) (Some y) = Some (make x y)
of_both make _ _ = None

-- A null test, where the reference is left.
abbrev pub null_test : Option ℕ → Bool → Option Def
null_test None is = None
null_test (Some r) is = Some (NullTest r is)

-- A definition in other names. None where a symbol or the reference has none.
abbrev pub renamed_def : List (Option Expr) → List (Option ℕ) → Def → Option Def
renamed_def symbols references (Eq x y) = of_both (λ a b. Eq a b) (renamed symbols x) (renamed symbols y)
renamed_def symbols references (Lt x y) = of_both (λ a b. Lt a b) (renamed symbols x) (renamed symbols y)
renamed_def symbols references (LtUn x y) = of_both (λ a b. LtUn a b) (renamed symbols x) (renamed symbols y)
renamed_def symbols references (NullTest r is) = null_test (get_or references r None) is
renamed_def symbols references (Sub x y) = of_both (λ a b. Sub a b) (renamed symbols x) (renamed symbols y)

-- An expression in other names, and a constant more.
abbrev pub renamed_more : List (Option Expr) → ℤ → Expr → Option Expr
renamed_more names more e = moved (get_or names e.sym None) (e.k +ℤ more)

abbrev pub unless_more : ℤ → Option Def → Option Def
unless_more more def = if int_eq more (pos 0) then def else None

-- In other names, the definition of what is greater by so much than the symbol that this one defines. None where that
-- is no truth any more, or where a symbol or the reference has no name.
abbrev pub renamed_above : ℤ → List (Option Expr) → List (Option ℕ) → Def → Option Def
renamed_above more symbols references (Eq x y) = unless_more more (renamed_def symbols references (Eq x y))
renamed_above more symbols references (Lt x y) = unless_more more (renamed_def symbols references (Lt x y))
renamed_above more symbols references (LtUn x y) = unless_more more (renamed_def symbols references (LtUn x y))
renamed_above more symbols references (NullTest r is) =
    unless_more more (renamed_def symbols references (NullTest r is))
renamed_above more symbols references (Sub x y) =
    of_both (λ a b. Sub a b) (renamed_more symbols more x) (renamed symbols y)

abbrev pub same_flag : Bool → Bool → Bool
same_flag true b = b
same_flag false b = not b

abbrev pub where_same : Bool → Bool → Option Def → Option Def
where_same a b def = if same_flag a b then def else None

-- Two definitions that are the same, where their symbols and references are paired. None where they are not.
abbrev pub paired_def : Pairing → Pairing → Def → Def → Option Def
paired_def pairs references (Eq x y) (Eq z w) = of_both (λ a b. Eq a b) (paired_expr pairs x z) (paired_expr pairs y w)
paired_def pairs references (Lt x y) (Lt z w) = of_both (λ a b. Lt a b) (paired_expr pairs x z) (paired_expr pairs y w)
paired_def pairs references (LtUn x y) (LtUn z w) =
    of_both (λ a b. LtUn a b) (paired_expr pairs x z) (paired_expr pairs y w)
paired_def pairs references (Sub x y) (Sub z w) =
    of_both (λ a b. Sub a b) (paired_expr pairs x z) (paired_expr pairs y w)
paired_def pairs references (NullTest r is) (NullTest q also) =
    where_same is also (null_test (paired_reference references r q) is)
paired_def pairs references _ _ = None
