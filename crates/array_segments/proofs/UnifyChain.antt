-- The common bounds that are kept, one after another: they do not fall on either side, and the last of all is the last
-- of both.
use Rattle.std.proofs.Common.{◌≡◌, ℕ, zero, suc, ◌+◌, ◌<◌, ◌≤◌, Bool, true, false, nat_lt, List, [], ◌∷◌, ◌++◌, length, arith, refl, sym, subst, ap, if◌then◌else◌}
use Rattle.std.proofs.lemmas.Bool.{ltb-false, ltb-true}
use Rattle.domain_api.specs.declared.expr.Expr.{Expr}
use Rattle.symbolic_values.specs.Pairing.{Pairing}
use Rattle.array_segments.specs.CommonBounds.{Place, common_bound, origin_place, row, rows}
use Rattle.array_segments.specs.Meaning.{Segment}
use Rattle.array_segments.specs.SegmentLists.{Lists}
use Rattle.array_segments.specs.Unifying.{common_segment, common_segments, placed_at}

module _ {C : Type 0} (hull make : C → C → C) (full : C) (pairs : Pairing) (end : Expr) (a b : Lists C) (n m : ℕ)
    (ends : 0 < length (common_bound pairs end a b n m))
    (P : Place → List (Segment C) → Type 0)
    (done : P (record { first = n; second = m }) [])
    (step : (last : Place) (first second : ℕ) (upper : List Expr) (segments : List (Segment C)) → last.first ≤ first → last.second ≤ second → first ≤ n → second ≤ m → 0 < length upper →
    upper ≡ common_bound pairs end a b first second → P (record { first = first; second = second }) segments →
    P last (common_segment hull make full pairs end a b last first second upper ∷ segments)) where
  -- A place is passed over, or a segment ends there.
  by_bound : (last : Place) (first second : ℕ) (upper : List Expr) (without behind : List (Segment C)) → last.first ≤ first → last.second ≤ second → first ≤ n → second ≤ m →
      upper ≡ common_bound pairs end a b first second → P last without → P (record { first = first; second = second }) behind →
      P last (placed_at hull make full pairs end a b last (record { first = first; second = second }) upper without behind)
  by_bound last first second [] without behind x y in_x in_y is skipped kept = skipped
  by_bound last first second (expr ∷ exprs) without behind x y in_x in_y is skipped kept = step last first second (expr ∷ exprs) behind x y in_x in_y (omega arith) is kept

  one : (last : Place) (first second : ℕ) (places : List Place) → last.first ≤ first → first ≤ n → second ≤ m → P last (common_segments hull make full pairs end a b last places) →
      P (record { first = first; second = second }) (common_segments hull make full pairs end a b (record { first = first; second = second }) places) →
      P last (common_segments hull make full pairs end a b last (record { first = first; second = second } ∷ places))
  one last first second places x in_x in_y skipped kept = by (nat_lt second last.second) refl
    where
      by : (falls : Bool) → nat_lt second last.second ≡ falls →
          P last (if falls then common_segments hull make full pairs end a b last places
          else placed_at hull make full pairs end a b last (record { first = first; second = second }) (common_bound pairs end a b first second) (common_segments hull make full pairs end a b last places)
          (common_segments hull make full pairs end a b (record { first = first; second = second }) places))
      by true falls = skipped
      by false rises =
          by_bound last first second (common_bound pairs end a b first second) (common_segments hull make full pairs end a b last places)
          (common_segments hull make full pairs end a b (record { first = first; second = second }) places) x (ltb-false second last.second rises) in_x in_y refl skipped kept

  in_row : (more first second : ℕ) (rest : List Place) → first ≤ n → second + more ≡ suc m →
      ((last : Place) → last.first ≤ first → last.second ≤ m → P last (common_segments hull make full pairs end a b last rest)) →
      (last : Place) → last.first ≤ first → last.second ≤ m → P last (common_segments hull make full pairs end a b last (row first second more ++ rest))
  in_row zero first second rest in_x fits later last x y = later last x y
  in_row (suc more) first second rest in_x fits later last x y =
      one last first second (row first (suc second) more ++ rest) x in_x (omega arith)
      (in_row more first (suc second) rest in_x (omega arith) later last x y)
      (in_row more first (suc second) rest in_x (omega arith) later (record { first = first; second = second }) (omega arith) (omega arith))

  -- The last place of all ends a segment.
  last_one : (last : Place) (second : ℕ) → second ≡ m → last.first ≤ n → last.second ≤ m → P last (common_segments hull make full pairs end a b last (record { first = n; second = second } ∷ []))
  last_one last second is x y = by (nat_lt second last.second) refl
    where
      there : (upper : List Expr) → upper ≡ common_bound pairs end a b n second →
          P last (placed_at hull make full pairs end a b last (record { first = n; second = second }) upper [] [])
      there [] none =
          let some : 0 < length (common_bound pairs end a b n second) = subst (λ k. 0 < length (common_bound pairs end a b n k)) (sym is) ends in
          let empty : 0 ≡ length (common_bound pairs end a b n second) = ap length none in
          absurd (omega arith)
      there (expr ∷ exprs) same =
          step last n second (expr ∷ exprs) [] x (omega arith) (omega arith) (omega arith) (omega arith) same
          (subst (λ k. P (record { first = n; second = k }) []) (sym is) done)

      by : (falls : Bool) → nat_lt second last.second ≡ falls →
          P last (if falls then [] else placed_at hull make full pairs end a b last (record { first = n; second = second }) (common_bound pairs end a b n second) [] [])
      by true falls = let low : second < last.second = ltb-true second last.second falls in absurd (omega arith)
      by false rises = there (common_bound pairs end a b n second) refl

  last_row : (more second : ℕ) → second + more ≡ m → (last : Place) → last.first ≤ n → last.second ≤ m →
      P last (common_segments hull make full pairs end a b last (row n second (suc more) ++ []))
  last_row zero second fits last x y = last_one last second (omega arith) x y
  last_row (suc more) second fits last x y =
      one last n second (row n (suc second) (suc more) ++ []) x (omega arith) (omega arith)
      (last_row more (suc second) (omega arith) last x y)
      (last_row more (suc second) (omega arith) (record { first = n; second = second }) (omega arith) (omega arith))

  in_rows : (more first : ℕ) → first + more ≡ n → (last : Place) → last.first ≤ first → last.second ≤ m →
      P last (common_segments hull make full pairs end a b last (rows first (suc more) (suc m)))
  in_rows zero first fits last x y =
      let e : first ≡ n = omega arith in
      subst (λ k. P last (common_segments hull make full pairs end a b last (row k 0 (suc m) ++ []))) (sym e) (last_row m 0 (omega arith) last (omega arith) y)
  in_rows (suc more) first fits last x y =
      in_row (suc m) first 0 (rows (suc first) (suc more) (suc m)) (omega arith) (omega arith)
      (λ next u v. in_rows more (suc first) (omega arith) next (omega arith) v) last x y

  -- From the first place on.
  pub chained : (more : ℕ) → suc more ≡ n → P origin_place (common_segments hull make full pairs end a b origin_place (row 0 1 m ++ rows 1 (suc more) (suc m)))
  chained more is =
      in_row m 0 1 (rows 1 (suc more) (suc m)) (omega arith) (omega arith) (λ next u v. in_rows more 1 (omega arith) next (omega arith) v)
      origin_place (omega arith) (omega arith)
