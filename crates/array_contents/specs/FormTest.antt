-- The form as a test.
use Rattle.std.specs.Prelude.{ℕ, nat_le, ℤ, int_le, int_lt, Bool, true, false, ◌&&◌, List, [], ◌∷◌, Option, Some, None}
use Rattle.std.specs.List.{list_all, list_any}
use Rattle.array_segments.specs.CommonBounds.{same_expr}
use Rattle.array_segments.specs.FormTest.{is_formed}
use Rattle.array_segments.specs.SegmentLists.{last_bound}
use Rattle.cil_model.specs.Arithmetic.{LEAST, GREATEST}
use Rattle.domain_api.specs.declared.expr.Expr.{Expr}
use Rattle.interval_domain.specs.Interval.{Interval}
use Rattle.array_contents.specs.Contents.{Contents, Segments}

-- A hole lies strictly between the ends.
abbrev pub is_inner : ℤ → ℤ → Option ℤ → Bool
is_inner lo hi None = true
is_inner lo hi (Some hole) = int_lt lo hole && int_lt hole hi

-- The range is one of int32.
unfoldable pub is_narrow : Interval → Bool
is_narrow r = int_le LEAST r.lo && (int_le r.lo r.hi && (int_le r.hi GREATEST && is_inner r.lo r.hi r.hole))

abbrev pub is_formed_at : ℕ → Expr → Segments → Bool
is_formed_at symbols length segments =
    is_formed segments
    && (list_any (same_expr length) (last_bound segments)
    && (list_all (list_all (λ e. nat_le e.sym symbols)) segments.bounds
    && list_all is_narrow segments.contents))

abbrev pub are_formed : ℕ → List Expr → Contents → Bool
are_formed symbols [] [] = true
are_formed symbols (length ∷ lengths) (segments ∷ contents) =
    is_formed_at symbols length segments && are_formed symbols lengths contents
are_formed symbols _ _ = false
