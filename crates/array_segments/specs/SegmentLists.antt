-- Segments of an array, as plain lists.
use Rattle.std.specs.Prelude.{◌≡◌, ◌+◌, ◌≤◌, pos, Bool, List, [], ◌∷◌, length, get_or}
use Rattle.std.specs.List.{AllByRecursion, Contains}
use Rattle.domain_api.specs.declared.expr.Expr.{Expr}

-- The bounds in order, each a list of equal expressions; what the items of each segment are in; and which may be empty.
pub record Lists (C : Type 0) : Type 0 where
  pub bounds : List (List Expr)
  pub contents : List C
  pub marks : List Bool

-- The constant 0.
abbrev pub zero_expr : Expr
zero_expr = record { sym = 0; k = pos 0 }

-- The expression is one of the bound's.
abbrev pub Has : Expr → List Expr → Type 0
Has expr bound = Contains bound expr

-- A bound has 1 to 4 expressions.
pub record HasFew (bound : List Expr) : Type 0 where
  pub some : 1 ≤ length bound
  pub most : length bound ≤ 4

-- The form of segments: 1 to 12 of them, a content and a mark for each, one bound more, and 0 at the first bound.
pub record HasForm {C : Type 0} (lists : Lists C) : Type 0 where
  pub some : 1 ≤ length lists.contents
  pub most : length lists.contents ≤ 12
  pub bounded : length lists.bounds ≡ length lists.contents + 1
  pub marked : length lists.marks ≡ length lists.contents
  pub few : AllByRecursion HasFew lists.bounds
  pub from_zero : Has zero_expr (get_or lists.bounds 0 [])

-- One segment, from 0 to the length.
abbrev pub whole : {C : Type 0} → Expr → C → Bool → Lists C
whole length value may_be_empty = record { bounds = (zero_expr ∷ []) ∷ (length ∷ []) ∷ []; contents = value ∷ []; marks = may_be_empty ∷ [] }

-- The bound where the last segment ends.
abbrev pub last_bound : {C : Type 0} → Lists C → List Expr
last_bound lists = get_or lists.bounds (length lists.contents) []
