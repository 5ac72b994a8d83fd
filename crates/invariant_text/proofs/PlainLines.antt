-- No text of a line of an invariant has a line feed.
use Rattle.std.proofs.Common.{◌≡◌, ℕ, ◌-◌, ◌==◌, ℤ, pos, negsuc, suc, Bool, List, [], ◌∷◌, ◌++◌, length, Option, Some, None, nat_lt, int_lt, unsigned_abs, if◌then◌else◌, refl, codes}
use Rattle.std.specs.Fmt.{decimal, signed_decimal}
use Rattle.std.specs.List.{flat_map}
use Rattle.std.specs.Ordering.{int_eq}
use Rattle.alias_facts.specs.declared.nullness.Nullness.{Nullness}
use Rattle.alias_facts.specs.declared.nullness.Nullness.TheVariants.{May, NotNull, Null}
use Rattle.array_contents.specs.Contents.{Segments}
use Rattle.cil_model.specs.Places.{place_text}
use Rattle.domain_api.specs.declared.expr.Expr.{Expr}
use Rattle.frame_names.specs.declared.var.Var.{Var}
use Rattle.frame_names.specs.declared.var.Var.TheVariants as vars
use Rattle.interval_domain.specs.Interval.{Interval}
use Rattle.symbolic_values.specs.declared.def.Def.{Def}
use Rattle.symbolic_values.specs.declared.def.Def.TheVariants.{Eq, Lt, LtUn, NullTest, Sub}
use Rattle.invariant_text.specs.NumberTexts.{added_text, expr_text, hole_text, range_text, sign_text, symbol_text}
use Rattle.invariant_text.specs.ReferenceLines.{bound_text, each_segment, exprs_text, mark_text, next_expr, nullness_text, segment_text, segments_text}
use Rattle.invariant_text.specs.SymbolLines.{both, def_text, null_test_text}
use Rattle.invariant_text.specs.VariableLines.{address_text, reference_text, value_text, variable_name}
use Rattle.invariant_text.proofs.PlainTexts.{NoFeed, no_feed_behind, no_feed_either, no_feed_in, number_no_feed, place_no_feed}

-- ---- numbers

pub signed_no_feed : (k : ℤ) → NoFeed (signed_decimal k)
signed_no_feed (pos n) = number_no_feed n
signed_no_feed (negsuc n) = no_feed_behind (codes "-") (decimal (suc n)) refl (number_no_feed (suc n))

pub symbol_no_feed : (s : ℕ) → NoFeed (symbol_text s)
symbol_no_feed s = no_feed_behind (codes "s") (decimal s) refl (number_no_feed s)

added_no_feed : (k : ℤ) → NoFeed (added_text k)
unfolding added_text
added_no_feed k =
    no_feed_either (int_eq k (pos 0)) [] (sign_text k ++ decimal (unsigned_abs k)) refl
    (no_feed_behind (sign_text k) (decimal (unsigned_abs k))
    (no_feed_either (int_lt k (pos 0)) (codes " - ") (codes " + ") refl refl) (number_no_feed (unsigned_abs k)))

pub expr_no_feed : (e : Expr) → NoFeed (expr_text e)
unfolding expr_text
expr_no_feed e =
    no_feed_either (e.sym == 0) (signed_decimal e.k) (symbol_text e.sym ++ added_text e.k) (signed_no_feed e.k)
    (no_feed_behind (symbol_text e.sym) (added_text e.k) (symbol_no_feed e.sym) (added_no_feed e.k))

hole_no_feed : (hole : Option ℤ) → NoFeed (hole_text hole)
hole_no_feed None = refl
hole_no_feed (Some hole) = no_feed_behind (codes " not ") (signed_decimal hole) refl (signed_no_feed hole)

pub range_no_feed : (range : Interval) → NoFeed (range_text range)
unfolding range_text
range_no_feed range =
    let ends = signed_decimal range.lo ++ codes ".." ++ signed_decimal range.hi in
    no_feed_behind ends (hole_text range.hole)
    (no_feed_behind (signed_decimal range.lo ++ codes "..") (signed_decimal range.hi)
    (no_feed_behind (signed_decimal range.lo) (codes "..") (signed_no_feed range.lo) refl) (signed_no_feed range.hi))
    (hole_no_feed range.hole)

-- ---- variables and definitions

pub reference_no_feed : (r : ℕ) → NoFeed (reference_text r)
unfolding reference_text
reference_no_feed r =
    no_feed_either (r == 0) (codes "null") (codes "r" ++ decimal r) refl
    (no_feed_behind (codes "r") (decimal r) refl (number_no_feed r))

address_no_feed : (r : ℕ) (e : Expr) → NoFeed (address_text r e)
unfolding address_text
address_no_feed r e =
    let opened = reference_text r ++ codes "[" in
    no_feed_behind (opened ++ expr_text e) (codes "]")
    (no_feed_behind opened (expr_text e) (no_feed_behind (reference_text r) (codes "[") (reference_no_feed r) refl)
    (expr_no_feed e)) refl

pub value_no_feed : (value : Var) → NoFeed (value_text value)
value_no_feed (vars.Number e) = expr_no_feed e
value_no_feed (vars.Reference r) = reference_no_feed r
value_no_feed vars.Text = refl
value_no_feed (vars.Address r e) = address_no_feed r e

pub name_no_feed : (args locals i : ℕ) → NoFeed (variable_name args locals i)
unfolding variable_name
name_no_feed args locals i =
    no_feed_either (nat_lt i args) _ _ (no_feed_behind (codes "in ") (decimal i) refl (number_no_feed i))
    (no_feed_either (nat_lt (i - args) args) _ _
    (no_feed_behind (codes "arg ") (decimal (i - args)) refl (number_no_feed (i - args)))
    (no_feed_either (nat_lt (i - args - args) locals) _ _
    (no_feed_behind (codes "local ") (decimal (i - args - args)) refl (number_no_feed (i - args - args)))
    (no_feed_behind (codes "stack ") (decimal (i - args - args - locals)) refl
    (number_no_feed (i - args - args - locals)))))

both_no_feed : (a : Expr) (operator : List ℕ) (b : Expr) → NoFeed operator → NoFeed (both a operator b)
both_no_feed a operator b none =
    no_feed_behind (expr_text a ++ operator) (expr_text b)
    (no_feed_behind (expr_text a) operator (expr_no_feed a) none) (expr_no_feed b)

pub def_no_feed : (def : Def) → NoFeed (def_text def)
def_no_feed (Eq a b) = both_no_feed a (codes " == ") b refl
def_no_feed (Lt a b) = both_no_feed a (codes " < ") b refl
def_no_feed (LtUn a b) = both_no_feed a (codes " <u ") b refl
def_no_feed (NullTest r is_null) =
    no_feed_behind (reference_text r) (if is_null then codes " is null" else codes " is not null") (reference_no_feed r)
    (no_feed_either is_null (codes " is null") (codes " is not null") refl refl)
def_no_feed (Sub a b) = both_no_feed a (codes " - ") b refl

-- ---- segments

exprs_no_feed : (exprs : List Expr) → NoFeed (exprs_text exprs)
exprs_no_feed [] = refl
exprs_no_feed (e ∷ others) =
    no_feed_behind (expr_text e) (flat_map next_expr others) (expr_no_feed e)
    (no_feed_in next_expr others (λ other. no_feed_behind (codes ", ") (expr_text other) refl (expr_no_feed other)))

bound_no_feed : (bound : List Expr) → NoFeed (bound_text bound)
unfolding bound_text
bound_no_feed bound =
    no_feed_behind (codes " {" ++ exprs_text bound) (codes "}")
    (no_feed_behind (codes " {") (exprs_text bound) refl (exprs_no_feed bound)) refl

segment_no_feed : (content : Interval) (mark : Bool) (end : List Expr) → NoFeed (segment_text content mark end)
unfolding segment_text
segment_no_feed content mark end =
    let marked = codes " " ++ range_text content ++ mark_text mark in
    no_feed_behind marked (bound_text end)
    (no_feed_behind (codes " " ++ range_text content) (mark_text mark)
    (no_feed_behind (codes " ") (range_text content) refl (range_no_feed content))
    (no_feed_either mark (codes " ?") [] refl refl)) (bound_no_feed end)

each_no_feed : (contents : List Interval) (marks : List Bool) (ends : List (List Expr)) → NoFeed (each_segment contents marks ends)
each_no_feed [] marks ends = refl
each_no_feed (content ∷ contents) [] ends = refl
each_no_feed (content ∷ contents) (mark ∷ marks) [] = refl
each_no_feed (content ∷ contents) (mark ∷ marks) (end ∷ ends) =
    no_feed_behind (segment_text content mark end) (each_segment contents marks ends) (segment_no_feed content mark end)
    (each_no_feed contents marks ends)

pub segments_no_feed : (segments : Segments) → NoFeed (segments_text segments)
segments_no_feed segments = no_feed_behind (bound_text _) _ (bound_no_feed _) (each_no_feed segments.contents segments.marks _)

pub nullness_no_feed : (nullness : Nullness) → NoFeed (nullness_text nullness)
nullness_no_feed May = refl
nullness_no_feed NotNull = refl
nullness_no_feed Null = refl
