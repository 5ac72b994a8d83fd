-- The bounds that two sides have in common, where expressions of both are paired.
use Rattle.std.specs.Prelude.{ℕ, zero, suc, ◌==◌, nat_lt, int_lt, Bool, ◌&&◌, ◌||◌, if◌then◌else◌, List, [], ◌∷◌, ◌++◌, length, get_or, take, Option, None, Some, unwrap_or}
use Rattle.std.specs.List.{filter_map, flat_map, fold, insert, list_any, position}
use Rattle.std.specs.Ordering.{int_eq}
use Rattle.domain_api.specs.declared.expr.Expr.{Expr}
use Rattle.symbolic_values.specs.Names.{paired_expr}
use Rattle.symbolic_values.specs.Pairing.{Pairing}
use Rattle.array_segments.specs.SegmentLists.{Lists, zero_expr}

-- ---- expressions in order

-- Tells whether the first expression comes before the second: by symbol, then by constant.
abbrev pub precedes : Expr → Expr → Bool
precedes a b = nat_lt a.sym b.sym || (a.sym == b.sym && int_lt a.k b.k)

abbrev pub same_expr : Expr → Expr → Bool
same_expr a b = a.sym == b.sym && int_eq a.k b.k

-- An expression put before the first that comes behind it, or at the end, unless it is there.
abbrev pub put : Expr → List Expr → List Expr
put expr exprs = if list_any (same_expr expr) exprs then exprs else insert exprs (unwrap_or (position (precedes expr) exprs) (length exprs)) expr

-- Expressions put among those in order, one after another.
abbrev pub put_all : List Expr → List Expr → List Expr
put_all ordered exprs = fold (λ known expr. put expr known) ordered exprs

-- Four expressions at most, of which the last gives way to one that has to be among them and is not.
abbrev pub with_must : Option Expr → List Expr → List Expr
with_must None exprs = exprs
with_must (Some must) exprs = if list_any (same_expr must) exprs then exprs else take 3 exprs ++ must ∷ []

-- The lowest four of expressions in order, with one that has to be among them.
abbrev pub lowest : Option Expr → List Expr → List Expr
lowest must exprs = with_must must (take 4 exprs)

-- ---- places

-- A bound of each side, by its place.
pub record Place : Type 0 where
  pub first : ℕ
  pub second : ℕ

-- The first bound of both sides.
abbrev pub origin_place : Place
origin_place = record { first = 0; second = 0 }

-- A bound of the first side with so many of the second.
abbrev pub row : ℕ → ℕ → ℕ → List Place
row first second zero = []
row first second (suc more) = record { first = first; second = second } ∷ row first (suc second) more

-- So many bounds of the first side, each with so many of the second.
abbrev pub rows : ℕ → ℕ → ℕ → List Place
rows first zero width = []
rows first (suc more) width = row first 0 width ++ rows (suc first) more width

-- Each place of both sides behind the first one, by the place in the first side, then by that in the second.
abbrev pub later_places : {C D : Type 0} → Lists C → Lists D → List Place
later_places a b = row 0 1 (length b.contents) ++ rows 1 (length a.contents) (suc (length b.contents))

-- ---- common bounds

-- The expressions that stand for one of each bound.
abbrev pub paired_exprs : Pairing → List Expr → List Expr → List Expr
paired_exprs pairs first second = flat_map (λ e. filter_map (λ f. paired_expr pairs e f) second) first

-- The expressions at a place, in order, with one that has to be among them. Without any, this is no common bound.
abbrev pub paired_at : {C D : Type 0} → Pairing → Lists C → Lists D → Option Expr → ℕ → ℕ → List Expr
paired_at pairs a b must first second = lowest must (put_all [] (paired_exprs pairs (get_or a.bounds first []) (get_or b.bounds second [])))

-- The array's length stays at the last place.
abbrev pub must_at : {C D : Type 0} → Lists C → Lists D → Expr → ℕ → ℕ → Option Expr
must_at a b end first second = if first == length a.contents && second == length b.contents then Some end else None

abbrev pub common_bound : {C D : Type 0} → Pairing → Expr → Lists C → Lists D → ℕ → ℕ → List Expr
common_bound pairs end a b first second = paired_at pairs a b (must_at a b end first second) first second

-- 0 stays at the first place.
abbrev pub first_bound : {C D : Type 0} → Pairing → Lists C → Lists D → List Expr
first_bound pairs a b = paired_at pairs a b (Some zero_expr) 0 0
