-- The segments of one reference among those of all, and the form of each.
use Rattle.std.proofs.Common.{◌≡◌, ℕ, zero, suc, ◌<◌, ◌≤◌, pos, Bool, true, false, if◌then◌else◌, List, [], ◌∷◌, length, map, get_or, set, refl, arith, subst, sym, ap, ◌∙◌}
use Rattle.std.proofs.lemmas.List.{get_or-map, length-map}
use Rattle.std.specs.List.{AllByRecursion}
use Rattle.domain_api.specs.declared.expr.Expr.{Expr}
use Rattle.interval_domain.specs.Interval.{Interval, one}
use Rattle.array_segments.specs.SegmentLists.{HasForm, whole, zero_expr}
use Rattle.array_contents.specs.Contents.{Contents, Segments, of_null, segments_at}
use Rattle.array_contents.specs.Storing.{Gaps, loaded_at}
use Rattle.interval_domain.specs.Joins.{full, hull}
use Rattle.array_segments.specs.Comparing.{starts_by}
use Rattle.array_segments.specs.Loading.{hull_between, loaded, stop_from}

-- ---- all of a list

pub all_at : {X : Type 0} (P : X → Type 0) (xs : List X) (i : ℕ) (d : X) → P d → AllByRecursion P xs → P (get_or xs i d)
all_at P [] i d other all = other
all_at P (x ∷ xs) zero d other all = all.0
all_at P (x ∷ xs) (suc i) d other all = all_at P xs i d other all.1

pub all_set : {X : Type 0} (P : X → Type 0) (xs : List X) (i : ℕ) (x : X) → P x → AllByRecursion P xs → AllByRecursion P (set xs i x)
all_set P [] i x is all = all
all_set P (y ∷ xs) zero x is all = (is, all.1)
all_set P (y ∷ xs) (suc i) x is all = (all.0, all_set P xs i x is all.1)

pub seen_at : {X Y : Type 0} (P : Y → Type 0) (view : X → Y) (xs : List X) (i : ℕ) (x : X) → AllByRecursion P (map view xs)
    → i < length xs → x ≡ get_or xs i x → P (view x)
seen_at P view [] i x all below is = absurd (omega arith)
seen_at P view (y ∷ xs) zero x all below is = subst (λ z. P (view z)) (sym is) all.0
seen_at P view (y ∷ xs) (suc i) x all below is = seen_at P view xs i x all.1 (omega arith) is

pub seen_there : {X Y : Type 0} (P : Y → Type 0) (view : X → Y) (xs : List X) (i : ℕ) (d : X) → AllByRecursion P (map view xs)
    → i < length xs → P (view (get_or xs i d))
seen_there P view [] i d all below = absurd (omega arith)
seen_there P view (x ∷ xs) zero d all below = all.0
seen_there P view (x ∷ xs) (suc i) d all below = seen_there P view xs i d all.1 (omega arith)

-- ---- the form

pub whole_form : (length : Expr) (range : Interval) → HasForm (whole length range true)
whole_form length range = record {
  some = omega arith;
  most = omega arith;
  bounded = refl;
  marked = refl;
  few = (record { some = omega arith; most = omega arith }, (record { some = omega arith; most = omega arith }, tt));
  from_zero = (0, omega arith, refl);
}

pub form_at : (contents : Contents) (r : ℕ) → AllByRecursion HasForm contents → HasForm (segments_at contents r)
form_at contents zero all = whole_form zero_expr (one (pos 0))
form_at contents (suc i) all = all_at HasForm contents i of_null (whole_form zero_expr (one (pos 0))) all

-- ---- one of them in a vector

pub at_there : {X : Type 0} (view : X → Segments) (xs : List X) (r i : ℕ) (x : X) → r ≡ suc i → i < length xs → x ≡ get_or xs i x
    → view x ≡ segments_at (map view xs) r
at_there view xs r i x is below at =
    ap view at ∙ sym (get_or-map view xs i x of_null below) ∙ ap (segments_at (map view xs)) (sym is)

past : {X : Type 0} (xs : List X) (i : ℕ) (d : X) → length xs ≤ i → get_or xs i d ≡ d
past [] i d all = refl
past (x ∷ xs) zero d all = absurd (omega arith)
past (x ∷ xs) (suc i) d all = past xs i d (omega arith)

pub at_past : {X : Type 0} (view : X → Segments) (xs : List X) (r i : ℕ) → r ≡ suc i → length xs ≤ i
    → of_null ≡ segments_at (map view xs) r
at_past view xs r i is all =
    let count : length (map view xs) ≡ length xs = length-map xs view in
    sym (past (map view xs) i of_null (omega arith)) ∙ ap (segments_at (map view xs)) (sym is)

pub at_null : (contents : Contents) (r : ℕ) → r ≡ 0 → of_null ≡ segments_at contents r
at_null contents r is = ap (segments_at contents) (sym is)

pub form_of : (contents : Contents) (r : ℕ) (lists : Segments) → AllByRecursion HasForm contents → lists ≡ segments_at contents r
    → HasForm lists
form_of contents r lists all is = subst HasForm (sym is) (form_at contents r all)

-- ---- loads

-- The items of one segment are in its range.
whole_loaded : (gap : Gaps) (length : Expr) (range : Interval) (at : Expr) → loaded hull full gap (whole length range true) at ≡ range
whole_loaded gap length range at = by (starts_by gap at (zero_expr ∷ []))
  where
    by : (b : Bool) → hull_between hull full (range ∷ []) (if b then 0 else 0)
        (stop_from gap (whole length range true) at (if b then 0 else 0)) ≡ range
    by true = refl
    by false = refl

pub loaded_null : (gap : Gaps) (contents : Contents) (r : ℕ) (at : Expr) → r ≡ 0 → one (pos 0) ≡ loaded_at gap contents r at
loaded_null gap contents r at is =
    sym (whole_loaded gap zero_expr (one (pos 0)) at) ∙ ap (λ lists. loaded hull full gap lists at) (at_null contents r is)

pub loaded_past : {X : Type 0} (gap : Gaps) (view : X → Segments) (xs : List X) (r i : ℕ) (at : Expr) → r ≡ suc i → length xs ≤ i
    → one (pos 0) ≡ loaded_at gap (map view xs) r at
loaded_past gap view xs r i at is all =
    sym (whole_loaded gap zero_expr (one (pos 0)) at) ∙ ap (λ lists. loaded hull full gap lists at) (at_past view xs r i is all)

pub ruleset at_steps = (at_null, at_past, at_there)

pub ruleset load_steps = (loaded_null, loaded_past, at_there)
