-- The test whether lists have the form of segments.
use Rattle.std.specs.Prelude.{◌+◌, ◌==◌, nat_le, Bool, ◌&&◌, List, [], length, get_or}
use Rattle.std.specs.List.{list_all, list_any}
use Rattle.domain_api.specs.declared.expr.Expr.{Expr}
use Rattle.array_segments.specs.CommonBounds.{same_expr}
use Rattle.array_segments.specs.SegmentLists.{Lists, zero_expr}

-- Tells whether a bound has 1 to 4 expressions.
abbrev pub has_few : List Expr → Bool
has_few bound = nat_le 1 (length bound) && nat_le (length bound) 4

-- Tells whether there are 1 to 12 segments, and as many contents, marks and bounds as there have to be.
abbrev pub are_counted : {C : Type 0} → Lists C → Bool
are_counted lists =
    (nat_le 1 (length lists.contents) && nat_le (length lists.contents) 12)
    && (length lists.bounds == length lists.contents + 1 && length lists.marks == length lists.contents)

-- Tells whether 0 is among the first bound's.
abbrev pub begins_at_zero : {C : Type 0} → Lists C → Bool
begins_at_zero lists = list_any (same_expr zero_expr) (get_or lists.bounds 0 [])

abbrev pub is_formed : {C : Type 0} → Lists C → Bool
is_formed lists = are_counted lists && (list_all has_few lists.bounds && begins_at_zero lists)
