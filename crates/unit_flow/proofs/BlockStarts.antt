-- Where the blocks of short code start, and in which block an offset lies.
use Rattle.std.proofs.Common.{◌≡◌, ℕ, zero, suc, ◌+◌, ◌<◌, ◌≤◌, ◌==◌, true, false, nat_le, nat_lt, List, [], ◌∷◌, length, get_or, filter, slice_get, Option, Some, None, refl, sym, arith, inl, inr}
use Rattle.std.specs.List.{AllByRecursion, AllPairs}
use Rattle.std.proofs.lemmas.Bool.{cases_lt, cond_both, eq-eqb, false≢true}
use Rattle.std.proofs.lemmas.Bool.Decides.{nat_tests}
use Rattle.std.proofs.lemmas.List.Elements.{All-from_recursion}
use Rattle.std.proofs.lemmas.List.Kept.{AllPairs-from_increasing}
use Rattle.std.proofs.lemmas.Option.{get_or_from_slice_get, slice_get-get_or, slice_get_within}
use Rattle.cil_model.specs.Blocks.{body_of, is_block_start}
use Rattle.cil_model.specs.Runs.{instr_at}
use Rattle.cil_model.specs.ShortCode.{AreOfShortCode, IsOfShortCode, LieFrom}
use Rattle.cil_model.specs.declared.instruction.Instr.{Instr}
use Rattle.cil_model.specs.declared.unit.Unit.{Unit as MethodUnit}
use Rattle.flow_graph.specs.BlocksOf.{blocks_of}
use Rattle.flow_graph.proofs.BodyStarts.{blocks_all}
use Rattle.flow_graph.proofs.EdgeOrder.{Starts}
use Rattle.flow_graph.proofs.Items.{all_weaker, both, passing_all}
use Rattle.flow_graph.proofs.Lying.{all_after, all_passing, blocks_increase, length-passing}
use Rattle.unit_flow.specs.Flow.{is_before}

-- ---- numbers that rise

later : (x : ℕ) (xs : List ℕ) → AllPairs (λ a b. a < b) (x ∷ xs) → AllPairs (λ a b. a < b) xs
later x xs pairs = λ i j d less below. pairs (suc i) (suc j) d (omega (arith, less)) (omega (arith, below))

pub starts_least : (xs : List ℕ) (b at : ℕ) → AllPairs (λ a b. a < b) xs → b < length xs → get_or xs b 0 ≤ at
    → b < Starts xs at
starts_least [] b at pairs below le = absurd (omega (arith, below))
starts_least (x ∷ xs) zero at pairs below le =
    let e : nat_le x at ≡ true = grind (arith, nat_tests, le) in rw e (omega arith)
starts_least (x ∷ xs) (suc b) at pairs below le =
    let less : x < get_or xs b 0 = pairs zero (suc b) 0 (omega arith) below in
    let e : nat_le x at ≡ true = grind (arith, nat_tests, less, le) in
    rw e (omega (arith, starts_least xs b at (later x xs pairs) (omega (arith, below)) le))

pub starts_most : (xs : List ℕ) (b at : ℕ) → AllPairs (λ a b. a < b) xs → is_before (slice_get xs b) at ≡ true
    → Starts xs at ≤ b
starts_most [] b at pairs early = omega arith
starts_most (x ∷ []) zero at pairs early =
    let e : nat_le x at ≡ false = grind (arith, nat_tests, early) in rw e (omega arith)
starts_most (x ∷ y ∷ xs) zero at pairs early =
    let less : x < y = pairs 0 1 0 (omega arith) (omega arith) in
    let e : nat_le x at ≡ false = grind (arith, nat_tests, early) in
    let more : nat_lt at y ≡ true = grind (arith, nat_tests, early, less) in
    rw e (starts_most (y ∷ xs) zero at (later x (y ∷ xs) pairs) more)
starts_most (x ∷ xs) (suc b) at pairs early =
    let rest = starts_most xs b at (later x xs pairs) early in
    cond_both (nat_le x at) (x ∷ filter (λ s. nat_le s at) xs) (filter (λ s. nat_le s at) xs)
    (λ (ys : List ℕ). length ys ≤ suc b) (λ e. omega (arith, rest)) (λ e. omega (arith, rest))

-- The offset lies in the block of this place.
pub record LiesIn (xs : List ℕ) (b at : ℕ) : Type 0 where
  pub there : b < length xs
  pub start : get_or xs b 0 ≤ at
  pub end : is_before (slice_get xs (suc b)) at ≡ true

pub lies_in : (xs : List ℕ) (b at : ℕ) → AllPairs (λ a b. a < b) xs → Starts xs at ≡ suc b → LiesIn xs b at
lies_in xs b at pairs is = record { there = there; start = start; end = end (slice_get xs (suc b)) refl }
  where
    there : b < length xs
    there = omega (arith, is, length-passing (λ s. nat_le s at) xs)

    start : get_or xs b 0 ≤ at
    start =
        elim (cases_lt at (get_or xs b 0)) [
          | inl less ↦
              let early : is_before (slice_get xs b) at ≡ true =
              rw (slice_get-get_or xs b 0 there) (grind (arith, nat_tests, less)) in
              absurd (omega (arith, is, starts_most xs b at pairs early))
          | inr not ↦ omega (arith, not)
        ]

    end : (next : Option ℕ) → slice_get xs (suc b) ≡ next → is_before next at ≡ true
    end None e = refl
    end (Some x) e =
        elim (cases_lt at x) [
          | inl less ↦ grind (arith, nat_tests, less)
          | inr not ↦
              let low : get_or xs (suc b) 0 ≤ at = omega (arith, not, get_or_from_slice_get xs (suc b) x 0 e) in
              absurd (omega (arith, is, starts_least xs (suc b) at pairs (slice_get_within xs (suc b) x e) low))
        ]

-- ---- instructions that lie one after another

found_more : (i : Instr) (is js : List Instr) (low : ℕ) → i.at < low → AllByRecursion (λ j. low ≤ j.at) js
    → AllByRecursion (λ j. instr_at is j.at ≡ Some j) js → AllByRecursion (λ j. instr_at (i ∷ is) j.at ≡ Some j) js
found_more i is [] low less high found = tt
found_more i is (j ∷ js) low less high found =
    let above = high.0 in
    let e : (i.at == j.at) ≡ false = grind (arith, nat_tests, less, above) in
    (rw e found.0, found_more i is js low less high.1 found.1)

pub each_found : (at : ℕ) (is : List Instr) → LieFrom at is → AllByRecursion IsOfShortCode is
    → AllByRecursion (λ i. instr_at is i.at ≡ Some i) is
each_found at [] lie each = tt
each_found at (i ∷ is) lie each = (
  rw (eq-eqb i.at i.at refl) refl,
  found_more i is is (at + i.size) (omega (arith, lie.0, each.0.some))
      (all_after (at + i.size) (at + i.size) is (omega arith) lie.1) (each_found (at + i.size) is lie.1 each.1),
)

-- What lies after an offset that is not before the end is not before it either.
pub none_before : (end : Option ℕ) (at : ℕ) (is : List Instr) → is_before end at ≡ false
    → AllByRecursion (λ i. at ≤ i.at) is → filter (λ i. is_before end i.at) is ≡ []
none_before end at [] late all = refl
none_before None at (i ∷ is) late all = absurd (false≢true (sym late))
none_before (Some end) at (i ∷ is) late all =
    let high = all.0 in
    let e : nat_lt i.at end ≡ false = grind (arith, nat_tests, late, high) in
    rw e (none_before (Some end) at is late all.1)

-- ---- the blocks of a unit

-- A block of the unit starts there.
pub record IsStart (unit : MethodUnit) (at : ℕ) : Type 0 where
  pub inside : unit.body_start ≤ at
  pub instr : Instr
  pub found : instr_at unit.instrs at ≡ Some instr
  pub marked : is_block_start unit at ≡ true

module _ (unit : MethodUnit) (short : AreOfShortCode unit.instrs) where
  abbrev Blocks : List ℕ
  Blocks = blocks_of unit

  pub pairs : AllPairs (λ a b. a < b) Blocks
  pairs = AllPairs-from_increasing Blocks (blocks_increase unit short)

  starts : AllByRecursion (IsStart unit) Blocks
  starts =
      blocks_all (IsStart unit) (is_block_start unit) (body_of unit)
      (all_weaker _ (λ i. is_block_start unit i.at ≡ true → IsStart unit i.at)
      (λ i has e. let high = has.0 in
      record { inside = grind (arith, nat_tests, high); instr = i; found = has.1; marked = e }) (body_of unit)
      (both (λ i. nat_le unit.body_start i.at ≡ true) (λ i. instr_at unit.instrs i.at ≡ Some i) (body_of unit)
      (passing_all (λ i. nat_le unit.body_start i.at) unit.instrs)
      (all_passing (λ i. instr_at unit.instrs i.at ≡ Some i) (λ i. nat_le unit.body_start i.at) unit.instrs
      (each_found 0 unit.instrs short.lie short.each))))

  pub start_at : (n : ℕ) → n < length Blocks → IsStart unit (get_or Blocks n 0)
  start_at n there = All-from_recursion (IsStart unit) Blocks starts n 0 there

  pub starts_apart : (n m : ℕ) → n < length Blocks → m < length Blocks → get_or Blocks n 0 ≡ get_or Blocks m 0 → n ≡ m
  starts_apart n m first second same =
      elim (cases_lt n m) [
        | inl less ↦ absurd (omega (arith, pairs n m 0 less second, same))
        | inr not ↦
            elim (cases_lt m n) [
              | inl less ↦ absurd (omega (arith, pairs m n 0 less first, same))
              | inr other ↦ omega (arith, not, other)
            ]
      ]

  -- So many blocks start up to an offset within a block.
  pub count : (b at : ℕ) → LiesIn Blocks b at → Starts Blocks at ≡ suc b
  count b at lies =
      omega (
        arith,
        starts_least Blocks b at pairs lies.there lies.start,
        starts_most Blocks (suc b) at pairs lies.end,
      )
