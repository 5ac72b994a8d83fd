-- Over ends over which bounds are tight and settled no way through a third symbol tells more of two.
use Rattle.std.proofs.Common.{◌≡◌, ◌≢◌, ◌⊎◌, ℕ, zero, suc, ◌<◌, ◌==◌, ℤ, pos, negsuc, ◌+ℤ◌, ◌-ℤ◌, ◌≤ℤ◌, true, false, int_le, int_lt, List, [], ◌∷◌, length, get_or, Option, Some, None, refl, sym, ap, subst, ◌∙◌, arith, inl, inr}
use Rattle.std.specs.Int.{int_max}
use Rattle.std.specs.Prelude.{option_and_then, if◌then◌else◌}
use Rattle.std.specs.List.{AllByRecursion}
use Rattle.std.proofs.lemmas.Bool.{cases_Bool, cases_eq, eqb-true, eq-eqb, ne_eqb}
use Rattle.std.proofs.lemmas.Int.{ints, clamps}
use Rattle.domain_api.specs.Order.{greater_gap}
use Rattle.pentagon_domain.specs.declared.bound_row.BoundRow.{BoundRow}
use Rattle.pentagon_domain.specs.declared.ends.Ends.{Ends}
use Rattle.pentagon_domain.specs.Rows.{constant_to, rows_from, stored}
use Rattle.pentagon_domain.specs.Gaps.{cut, gap_with}
use Rattle.pentagon_domain.specs.Settled.{AreSettledOver, IsNarrow}
use Rattle.pentagon_domain.specs.Tight.{AddNothing, AreTightFrom, AreTightOver, apart, is_told, no_ends, told_by}
use Rattle.pentagon_domain.proofs.StoredPairs.{settled_stored}
use Rattle.pentagon_domain.proofs.TightGaps.{direct_apart, tight_gap_with, told_at}

-- The greatest number that is told of two symbols by what is stored and by ends; 0 of one and itself.
abbrev pub full : List Ends → List BoundRow → ℕ → ℕ → ℤ
full ends rows s t = if s == t then pos 0 else told_by (stored rows s t) (apart ends s t)

full_itself : (ends : List Ends) (rows : List BoundRow) (s t : ℕ) → s ≡ t → full ends rows s t ≡ pos 0
full_itself ends rows s t same = rw (eq-eqb s t same) refl

full_apart : (ends : List Ends) (rows : List BoundRow) (s t : ℕ) → s ≢ t → full ends rows s t ≡ told_by (stored rows s t) (apart ends s t)
full_apart ends rows s t distinct = rw (ne_eqb s t distinct) refl

pub narrow_at : (ends : List Ends) (s : ℕ) → AllByRecursion IsNarrow ends → s < length ends → IsNarrow (get_or ends s no_ends)
narrow_at [] s all inside = absurd (omega (arith, inside))
narrow_at (e ∷ more) zero all inside = all.0
narrow_at (e ∷ more) (suc s) all inside = narrow_at more s all.1 (omega (arith, inside))

-- ---- the ends of two symbols

-- A number may be added to the ends of the first symbol, and these are no greater than those of the second.
record Moves (from to : Ends) (n : ℤ) : Type 0 where
  low : (from.lo +ℤ n) ≤ℤ to.lo
  high : (from.hi +ℤ n) ≤ℤ to.hi

told_moves : (from to : Ends) (known : Option ℤ) → IsNarrow from → IsNarrow to → ((k : ℤ) → known ≡ Some k → Moves from to k)
    → Moves from to (told_by known (to.lo -ℤ from.hi))
told_moves from to None first second moves =
    let one = first.some in
    let other = second.some in
    record { low = omega (arith, ints, one); high = omega (arith, ints, other) }
told_moves from to (Some k) first second moves =
    let one = first.some in
    let other = second.some in
    let low = (moves k refl).low in
    let high = (moves k refl).high in
    record { low = omega (arith, ints, clamps, one, low); high = omega (arith, ints, clamps, other, high) }

stored_moves : (ends : List Ends) (rows : List BoundRow) (s t : ℕ) (k : ℤ) → AreSettledOver ends rows → stored rows s t ≡ Some k
    → Moves (get_or ends s no_ends) (get_or ends t no_ends) k
stored_moves ends rows s t k settled is =
    let here = settled_stored ends rows s t k settled.each is in
    record { low = here.low; high = here.high }

none_moves : (e : Ends) → Moves e e (pos 0)
none_moves e = record { low = omega (arith, ints); high = omega (arith, ints) }

full_moves : (ends : List Ends) (rows : List BoundRow) (s t : ℕ) → AreSettledOver ends rows → s < length ends → t < length ends
    → Moves (get_or ends s no_ends) (get_or ends t no_ends) (full ends rows s t)
full_moves ends rows s t settled from to =
    elim (cases_eq s t) [
      | inl same ↦ rw (full_itself ends rows s t same, same) (none_moves (get_or ends t no_ends))
      | inr distinct ↦
          rw (full_apart ends rows s t distinct)
          (told_moves (get_or ends s no_ends) (get_or ends t no_ends) (stored rows s t) (narrow_at ends s settled.narrow from) (narrow_at ends t settled.narrow to)
          (λ k is. stored_moves ends rows s t k settled is))
    ]

-- ---- a way through a third symbol

told_either : (known : Option ℤ) (far : ℤ) → (told_by known far ≡ far) ⊎ (known ≡ Some (told_by known far))
told_either None far = inl refl
told_either (Some k) far = elim (cases_Bool (int_le k far)) [
  | inl less ↦ inl (upper k far less)
  | inr more ↦ inr (ap (λ n. Some n) (lower k far more))
]
  where
    upper : (k far : ℤ) → int_le k far ≡ true → int_max k far ≡ far
    upper k far less = grind (arith, ints)

    lower : (k far : ℤ) → int_le k far ≡ false → k ≡ int_max k far
    lower k far more = grind (arith, ints)

told_least : (known : Option ℤ) (far : ℤ) → far ≤ℤ told_by known far
told_least None far = omega (arith, ints)
told_least (Some k) far = omega (arith, ints, clamps)

told_upto : (sum far : ℤ) (known : Option ℤ) → is_told sum known far ≡ true → sum ≤ℤ told_by known far
told_upto sum far None told = grind (arith, ints)
told_upto sum far (Some k) told = grind (arith, ints)

-- Behind the bound that is stored from s to u nothing is added.
nothing_at : (ends : List Ends) (rows firsts : List BoundRow) (s u : ℕ) (k : ℤ) → AreTightFrom ends rows s firsts → constant_to firsts u ≡ Some k
    → AddNothing ends (stored rows s) s k (rows_from rows u)
nothing_at ends rows [] s u k tight is = absurd cc
nothing_at ends rows (first ∷ firsts) s u k tight is =
    elim (cases_Bool (first.t == u)) [
      | inl here ↦
          let same : first.t ≡ u = eqb-true first.t u here in
          let constant : first.k ≡ k = some_same first.k k (rw here at is) in
          rw (same, constant) at tight.0
      | inr other ↦ nothing_at ends rows firsts s u k tight.1 (rw other at is)
    ]
  where
    some_same : (k l : ℤ) → Some k ≡ Some l → k ≡ l
    some_same k l is = cc

both_stored : (ends : List Ends) (rows : List BoundRow) (s u t : ℕ) (k l : ℤ) → AreTightOver ends rows → s ≢ t → stored rows s u ≡ Some k
    → stored rows u t ≡ Some l → (k +ℤ l) ≤ℤ told_by (stored rows s t) (apart ends s t)
both_stored ends rows s u t k l tight distinct first second =
    told_upto (k +ℤ l) (apart ends s t) (stored rows s t)
    (told_at ends (stored rows s) (rows_from rows u) s t k l distinct (nothing_at ends rows (rows_from rows s) s u k (tight.sums s) first) second)

through : (e f g : Ends) (m n most : ℤ) → Moves e f m → Moves f g n → (g.lo -ℤ e.hi) ≤ℤ most → (m ≡ (f.lo -ℤ e.hi)) ⊎ (n ≡ (g.lo -ℤ f.hi))
    → (m +ℤ n) ≤ℤ most
through e f g m n most first second least (inl is) = let low = second.low in omega (arith, ints, low, least, is)
through e f g m n most first second least (inr is) = let high = first.high in omega (arith, ints, high, least, is)

apart_triangle : (ends : List Ends) (rows : List BoundRow) (s u t : ℕ) → AreTightOver ends rows → AreSettledOver ends rows → s < length ends → u < length ends
    → t < length ends → s ≢ t → s ≢ u → u ≢ t
    → (told_by (stored rows s u) (apart ends s u) +ℤ told_by (stored rows u t) (apart ends u t)) ≤ℤ told_by (stored rows s t) (apart ends s t)
apart_triangle ends rows s u t tight settled from middle to distinct one other =
    let first = rw (full_apart ends rows s u one) at (full_moves ends rows s u settled from middle) in
    let second = rw (full_apart ends rows u t other) at (full_moves ends rows u t settled middle to) in
    let least = told_least (stored rows s t) (apart ends s t) in
    let m : ℤ = told_by (stored rows s u) (apart ends s u) in
    let n : ℤ = told_by (stored rows u t) (apart ends u t) in
    let most : ℤ = told_by (stored rows s t) (apart ends s t) in
    elim (told_either (stored rows s u) (apart ends s u)) [
      | inl is ↦ through (get_or ends s no_ends) (get_or ends u no_ends) (get_or ends t no_ends) m n most first second least (inl is)
      | inr there ↦
          elim (told_either (stored rows u t) (apart ends u t)) [
            | inl is ↦ through (get_or ends s no_ends) (get_or ends u no_ends) (get_or ends t no_ends) m n most first second least (inr is)
            | inr here ↦ both_stored ends rows s u t m n tight distinct there here
          ]
    ]

round : (e f : Ends) (m n : ℤ) → Moves e f m → Moves f e n → (m +ℤ n) ≤ℤ pos 0
round e f m n first second =
    let low = first.low in
    let back = second.low in
    omega (arith, ints, low, back)

plus_left : (m n most : ℤ) → m ≡ pos 0 → n ≡ most → (m +ℤ n) ≤ℤ most
plus_left m n most is same = omega (arith, ints, is, same)

plus_right : (m n most : ℤ) → n ≡ pos 0 → m ≡ most → (m +ℤ n) ≤ℤ most
plus_right m n most is same = omega (arith, ints, is, same)

pub triangle : (ends : List Ends) (rows : List BoundRow) (s u t : ℕ) → AreTightOver ends rows → AreSettledOver ends rows → s < length ends → u < length ends
    → t < length ends → (full ends rows s u +ℤ full ends rows u t) ≤ℤ full ends rows s t
triangle ends rows s u t tight settled from middle to =
    elim (cases_eq s u) [
      | inl same ↦
          plus_left (full ends rows s u) (full ends rows u t) (full ends rows s t) (full_itself ends rows s u same)
          (ap (λ v. full ends rows v t) (sym same))
      | inr one ↦
          elim (cases_eq u t) [
            | inl same ↦
                plus_right (full ends rows s u) (full ends rows u t) (full ends rows s t) (full_itself ends rows u t same)
                (ap (full ends rows s) same)
            | inr other ↦
                elim (cases_eq s t) [
                  | inl same ↦
                      let back =
                      subst (λ v. Moves (get_or ends u no_ends) (get_or ends v no_ends) (full ends rows u t)) (sym same)
                      (full_moves ends rows u t settled middle to) in
                      rw (full_itself ends rows s t same)
                      (round (get_or ends s no_ends) (get_or ends u no_ends) (full ends rows s u) (full ends rows u t) (full_moves ends rows s u settled from middle) back)
                  | inr distinct ↦
                      rw (full_apart ends rows s u one, full_apart ends rows u t other, full_apart ends rows s t distinct)
                      (apart_triangle ends rows s u t tight settled from middle to distinct one other)
                ]
          ]
    ]

-- ---- how great it is

pub full_near : (ends : List Ends) (rows : List BoundRow) (s t : ℕ) → AreSettledOver ends rows → s < length ends → t < length ends
    → (negsuc 4294967295 ≤ℤ full ends rows s t) × (full ends rows s t ≤ℤ pos 4294967296)
full_near ends rows s t settled from to = (
  elim (cases_eq s t) [
    | inl same ↦ rw (full_itself ends rows s t same) (omega (arith, ints))
    | inr distinct ↦
        rw (full_apart ends rows s t distinct)
        (least_near (get_or ends s no_ends) (get_or ends t no_ends) (told_by (stored rows s t) (apart ends s t))
        (narrow_at ends s settled.narrow from) (narrow_at ends t settled.narrow to) (told_least (stored rows s t) (apart ends s t)))
  ],
  most_near (get_or ends s no_ends) (get_or ends t no_ends) (full ends rows s t) (narrow_at ends s settled.narrow from)
      (narrow_at ends t settled.narrow to) (full_moves ends rows s t settled from to),
)
  where
    least_near : (e f : Ends) (n : ℤ) → IsNarrow e → IsNarrow f → (f.lo -ℤ e.hi) ≤ℤ n → negsuc 4294967295 ≤ℤ n
    least_near e f n first second least =
        let high = first.greatest in
        let low = second.least in
        omega (arith, ints, high, low, least)

    most_near : (e f : Ends) (n : ℤ) → IsNarrow e → IsNarrow f → Moves e f n → n ≤ℤ pos 4294967296
    most_near e f n first second moves =
        let low = first.least in
        let some = first.some in
        let high = second.greatest in
        let upto = moves.high in
        omega (arith, ints, low, some, high, upto)

-- ---- it is the gap of two symbols beside their ends

cut_near : (n : ℤ) → negsuc 4294967295 ≤ℤ n → n ≤ℤ pos 4294967296 → cut n ≡ Some n
unfolding cut
cut_near n low high = grind (arith, ints)

greater_told : (known : Option ℤ) (far : ℤ) → ((k : ℤ) → known ≡ Some k → cut k ≡ Some k) → greater_gap (option_and_then cut known) (Some far) ≡ Some (told_by known far)
greater_told None far cuts = refl
greater_told (Some k) far cuts = rw (cuts k refl) (greater k far)
  where
    greater : (k far : ℤ) → greater_gap (Some k) (Some far) ≡ Some (int_max k far)
    greater k far = grind (arith, ints)

stored_cut : (ends : List Ends) (rows : List BoundRow) (s t : ℕ) (k : ℤ) → AreSettledOver ends rows → s < length ends → t < length ends
    → stored rows s t ≡ Some k → cut k ≡ Some k
stored_cut ends rows s t k settled from to is =
    let here = settled_stored ends rows s t k settled.each is in
    let first = narrow_at ends s settled.narrow from in
    let second = narrow_at ends t settled.narrow to in
    fits (get_or ends s no_ends) (get_or ends t no_ends) k first second here.high here.more
  where
    fits : (e f : Ends) (k : ℤ) → IsNarrow e → IsNarrow f → (e.hi +ℤ k) ≤ℤ f.hi → int_lt (f.lo -ℤ e.hi) k ≡ true → cut k ≡ Some k
    fits e f k first second high more =
        let a = first.least in
        let b = first.some in
        let c = first.greatest in
        let d = second.greatest in
        let l = second.least in
        cut_near k (omega (arith, ints, c, l, more)) (omega (arith, ints, a, b, d, high))

apart_near : (e f : Ends) → IsNarrow e → IsNarrow f → cut (f.lo -ℤ e.hi) ≡ Some (f.lo -ℤ e.hi)
apart_near e f first second =
    let a = first.least in
    let b = first.some in
    let c = first.greatest in
    let l = second.least in
    let m = second.some in
    let h = second.greatest in
    cut_near (f.lo -ℤ e.hi) (omega (arith, ints, c, l)) (omega (arith, ints, a, b, m, h))

pub full_gap : (ends : List Ends) (rows : List BoundRow) (s t : ℕ) → AreTightOver ends rows → AreSettledOver ends rows → s < length ends → t < length ends
    → gap_with rows (apart ends s t) s t ≡ Some (full ends rows s t)
unfolding gap_with
full_gap ends rows s t tight settled from to =
    elim (cases_eq s t) [
      | inl same ↦ rw (eq-eqb s t same) refl
      | inr distinct ↦
          sym (tight_gap_with ends rows s t (apart ends s t) tight distinct (λ _ _. omega (arith, ints)))
          ∙ ap (λ known. greater_gap known (cut (apart ends s t))) (direct_apart rows s t distinct)
          ∙ ap (greater_gap (option_and_then cut (stored rows s t)))
          (apart_near (get_or ends s no_ends) (get_or ends t no_ends) (narrow_at ends s settled.narrow from) (narrow_at ends t settled.narrow to))
          ∙ greater_told (stored rows s t) (apart ends s t) (λ k is. stored_cut ends rows s t k settled from to is)
          ∙ ap (λ n. Some n) (sym (full_apart ends rows s t distinct))
    ]
