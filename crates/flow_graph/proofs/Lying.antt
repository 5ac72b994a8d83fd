-- Instructions that lie one after another: their offsets, and those of the blocks.
use Rattle.std.proofs.Common.{◌≡◌, ℕ, zero, suc, ◌+◌, ◌^◌, ◌<◌, ◌≤◌, Bool, true, nat_le, List, [], ◌∷◌, length, map, filter, Some, refl, sym, ap, subst, ◌∙◌, arith, inl, inr}
use Rattle.std.specs.List.{All, AllByRecursion}
use Rattle.std.specs.List.Sorted.{IsStrictlyIncreasing}
use Rattle.std.proofs.lemmas.Bool.{cases_Bool, cond_both}
use Rattle.std.proofs.lemmas.Bool.Decides.{nat_tests}
use Rattle.std.proofs.lemmas.List.{length-map}
use Rattle.std.proofs.lemmas.List.Kept.{IsStrictlyIncreasing-filter}
use Rattle.std.proofs.lemmas.List.Sums.{count_by-le-length, length-filter}
use Rattle.cil_model.specs.Blocks.{body_of, is_block_start}
use Rattle.cil_model.specs.Runs.{instr_at}
use Rattle.cil_model.specs.ShortCode.{AreOfShortCode, IsOfShortCode, LieFrom}
use Rattle.cil_model.specs.declared.instruction.Instr.{Instr}
use Rattle.cil_model.specs.declared.unit.Unit.{Unit as MethodUnit}
use Rattle.cil_model.proofs.KindsSettle.{found_at}
use Rattle.cil_model.proofs.Lists.{of_found}
use Rattle.cil_model.proofs.ShortCodes.{count_short, offsets_increase}
use Rattle.flow_graph.specs.BlocksOf.{blocks_of}
use Rattle.flow_graph.proofs.Found.{found_in_rest}
use Rattle.flow_graph.proofs.Items.{passing_all}

-- ---- what holds of each instruction

module _ {X : Type 0} (P : X → Type 0) where
  pub all_by_index : (xs : List X) → AllByRecursion P xs → All P xs
  all_by_index [] all k d inside = absurd (omega arith)
  all_by_index (x ∷ xs) all zero d inside = all.0
  all_by_index (x ∷ xs) all (suc k) d inside = all_by_index xs all.1 k d (omega arith)

  pub all_passing : (p : X → Bool) (xs : List X) → AllByRecursion P xs → AllByRecursion P (filter p xs)
  all_passing p [] all = tt
  all_passing p (x ∷ xs) all = cond_both (p x) _ _ (AllByRecursion P) (λ e. (all.0, all_passing p xs all.1)) (λ e. all_passing p xs all.1)

pub length-passing : {X : Type 0} (p : X → Bool) (xs : List X) → length (filter p xs) ≤ length xs
length-passing p xs = omega (arith, length-filter p xs, count_by-le-length p xs)

-- ---- the body

pub all_after : (low at : ℕ) (is : List Instr) → low ≤ at → LieFrom at is → AllByRecursion (λ i. low ≤ i.at) is
all_after low at [] le lie = tt
all_after low at (i ∷ is) le lie = (omega (arith, lie.0), all_after low (at + i.size) is (omega arith) lie.1)

pub all_kept : (start at : ℕ) (is : List Instr) → start ≤ at → LieFrom at is → filter (λ i. nat_le start i.at) is ≡ is
all_kept start at [] le lie = refl
all_kept start at (i ∷ is) le lie =
    let test : nat_le start i.at ≡ true = let e = lie.0 in grind (arith, nat_tests) in
    rw test (ap (λ (js : List Instr). i ∷ js) (all_kept start (at + i.size) is (omega arith) lie.1))

-- The instructions from some offset on lie one after another.
rest_lies : (start at : ℕ) (is : List Instr) → LieFrom at is → (from : ℕ) × LieFrom from (filter (λ i. nat_le start i.at) is)
rest_lies start at [] lie = (at, tt)
rest_lies start at (i ∷ is) lie =
    cond_both (nat_le start i.at) _ _ (λ (rest : List Instr). (from : ℕ) × LieFrom from rest)
    (λ e. let le : start ≤ at + i.size = (let f = lie.0 in grind (arith, nat_tests)) in
    (at, (lie.0, subst (LieFrom (at + i.size)) (sym (all_kept start (at + i.size) is le lie.1)) lie.1)))
    (λ e. rest_lies start (at + i.size) is lie.1)

-- From the start of one on they lie from there.
pub lies_there : (start at : ℕ) (is : List Instr) (i : Instr) → LieFrom at is → instr_at is start ≡ Some i
    → LieFrom start (filter (λ j. nat_le start j.at) is)
lies_there start at is i lie found =
    by (filter (λ j. nat_le start j.at) is) (rest_lies start at is lie) (passing_all (λ j. nat_le start j.at) is) (found_in_rest start is start (omega arith) ∙ found)
  where
    by : (rest : List Instr) → (from : ℕ) × LieFrom from rest → AllByRecursion (λ j. nat_le start j.at ≡ true) rest → instr_at rest start ≡ Some i
        → LieFrom start rest
    by [] lies high there = tt
    by (j ∷ rest) (from, lies) high there =
        let first : start ≤ j.at = (let e = high.0 in grind (arith, nat_tests)) in
        let least = of_found (λ k. from ≤ k.at) (j ∷ rest) start i (all_after from from (j ∷ rest) (omega arith) lies) there in
        let same : from ≡ start = omega (arith, first, lies.0, least, found_at (j ∷ rest) start i there) in
        subst (λ (n : ℕ). LieFrom n (j ∷ rest)) same lies

module _ (unit : MethodUnit) (short : AreOfShortCode unit.instrs) where
  pub body_lies : (from : ℕ) × LieFrom from (body_of unit)
  body_lies = rest_lies unit.body_start 0 unit.instrs short.lie

  pub body_each : AllByRecursion IsOfShortCode (body_of unit)
  body_each = all_passing IsOfShortCode (λ i. nat_le unit.body_start i.at) unit.instrs short.each

  pub body_short : All IsOfShortCode (body_of unit)
  body_short = all_by_index IsOfShortCode (body_of unit) body_each

  pub blocks_increase : IsStrictlyIncreasing (blocks_of unit)
  blocks_increase =
      let (from, lie) = body_lies in
      subst IsStrictlyIncreasing (sym (passing_offsets (is_block_start unit) (body_of unit)))
      (IsStrictlyIncreasing-filter (is_block_start unit) (map (λ i. i.at) (body_of unit)) (offsets_increase from (body_of unit) lie body_each))
    where
      passing_offsets : (p : ℕ → Bool) (is : List Instr) → map (λ i. i.at) (filter (λ i. p i.at) is) ≡ filter p (map (λ i. i.at) is)
      passing_offsets p [] = refl
      passing_offsets p (i ∷ is) =
          elim (cases_Bool (p i.at)) [
            | inl e ↦ rw e (ap (λ (ns : List ℕ). i.at ∷ ns) (passing_offsets p is))
            | inr e ↦ rw e (passing_offsets p is)
          ]

  pub few_blocks : length (blocks_of unit) < 2 ^ 32
  few_blocks =
      omega (
        arith,
        length-map (filter (λ i. is_block_start unit i.at) (body_of unit)) (λ (i : Instr). i.at),
        length-passing (λ i. is_block_start unit i.at) (body_of unit),
        length-passing (λ i. nat_le unit.body_start i.at) unit.instrs,
        count_short 0 unit.instrs short.lie short.each (omega arith),
      )
