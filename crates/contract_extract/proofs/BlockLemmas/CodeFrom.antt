-- The instructions of code from an IL offset on.
use Rattle.std.proofs.Common.{◌≡◌, ℕ, ◌+◌, ◌<◌, ◌≤◌, List, [], ◌∷◌, ◌++◌, Some, refl, sym, ap, subst, ◌∙◌, arith, inl, inr}
use Rattle.std.specs.List.{AllByRecursion}
use Rattle.std.proofs.lemmas.Bool.{cases_eq, eq-eqb, ne_eqb}
use Rattle.std.proofs.lemmas.Option.{same_Some}
use Rattle.cil_model.specs.Runs.{instr_at}
use Rattle.cil_model.specs.ShortCode.{AreOfShortCode, IsOfShortCode, LieFrom}
use Rattle.cil_model.specs.declared.instruction.Instr.{Instr}
use Rattle.cil_model.proofs.Lists.{of_found}
use Rattle.contract_extract.proofs.BlockLemmas.InstrOffsets.{next_begins}

-- These are all instructions from an IL offset on.
pub record AreAllFrom (is : List Instr) (from : ℕ) (rest : List Instr) : Type 0 where
  pub lie : LieFrom from rest
  pub has : (at : ℕ) → from ≤ at → instr_at is at ≡ instr_at rest at

-- From the start of the code on they are all that there are.
pub whole : (is : List Instr) → AreOfShortCode is → AreAllFrom is 0 is
whole is short = record { lie = short.lie; has = λ at above. refl }

-- What holds of each of them holds of an instruction that is found there.
pub of_rest : (P : Instr → Type 0) (is : List Instr) (from : ℕ) (rest : List Instr) → AreAllFrom is from rest → AllByRecursion P rest
    → (j : Instr) → instr_at is j.at ≡ Some j → from ≤ j.at → P j
of_rest P is from rest all_of all j found above = of_found P rest j.at j all (sym (all_of.has j.at above) ∙ found)

module _ (is : List Instr) (short : AreOfShortCode is) where
  module _ (from : ℕ) (i : Instr) (rest : List Instr) (all_of : AreAllFrom is from (i ∷ rest)) where
    first_found : instr_at is i.at ≡ Some i
    first_found = all_of.has i.at (omega (arith, all_of.lie.0)) ∙ rw (eq-eqb i.at i.at refl) refl

    behind_first : AreAllFrom is (i.at + i.size) rest
    behind_first =
        let size : IsOfShortCode i = of_found IsOfShortCode is i.at i short.each first_found in record {
          lie = subst (λ (n : ℕ). LieFrom (n + i.size) rest) (sym all_of.lie.0) all_of.lie.1;
          has = λ at above. all_of.has at (omega (arith, above, all_of.lie.0)) ∙ rw (ne_eqb i.at at (λ e. omega (arith, e, above, size.some))) refl;
        }

  -- What holds of each instruction that is found holds of all.
  pub all_found : (P : Instr → Type 0) (from : ℕ) (rest : List Instr) → AreAllFrom is from rest → ((j : Instr) → instr_at is j.at ≡ Some j → P j) → AllByRecursion P rest
  all_found P from [] all_of each = tt
  all_found P from (i ∷ rest) all_of each =
      (each i (first_found from i rest all_of), all_found P (i.at + i.size) rest (behind_first from i rest all_of) each)

  -- An instruction among them, with those before it.
  pub found_behind : (from : ℕ) (code : List Instr) (i : Instr) (rest : List Instr) → AreAllFrom is from (code ++ i ∷ rest) → instr_at is i.at ≡ Some i
  found_behind from [] i rest all_of = first_found from i rest all_of
  found_behind from (j ∷ code) i rest all_of = found_behind (j.at + j.size) code i rest (behind_first from j (code ++ i ∷ rest) all_of)

  pub begins_below : (from : ℕ) (code : List Instr) (i : Instr) (rest : List Instr) → AreAllFrom is from (code ++ i ∷ rest) → from ≤ i.at
  begins_below from [] i rest all_of = omega (arith, all_of.lie.0)
  begins_below from (j ∷ code) i rest all_of =
      let later = begins_below (j.at + j.size) code i rest (behind_first from j (code ++ i ∷ rest) all_of) in omega (arith, all_of.lie.0, later)

  pub rest_behind : (from : ℕ) (code : List Instr) (i : Instr) (rest : List Instr) → AreAllFrom is from (code ++ i ∷ rest) → AreAllFrom is (i.at + i.size) rest
  rest_behind from [] i rest all_of = behind_first from i rest all_of
  rest_behind from (j ∷ code) i rest all_of = rest_behind (j.at + j.size) code i rest (behind_first from j (code ++ i ∷ rest) all_of)

  -- What holds of each of those before it holds of an instruction that is found below it.
  pub of_code : (P : Instr → Type 0) (from : ℕ) (code : List Instr) (i : Instr) (rest : List Instr) → AreAllFrom is from (code ++ i ∷ rest) → AllByRecursion P code
      → (j : Instr) → instr_at is j.at ≡ Some j → from ≤ j.at → j.at < i.at → P j
  of_code P from [] i rest all_of all j found above below = absurd (omega (arith, above, below, all_of.lie.0))
  of_code P from (k ∷ code) i rest all_of all j found above below = elim (cases_eq k.at j.at) [
    | inl same ↦ subst P (same_Some k j (sym here ∙ ap (instr_at is) same ∙ found)) all.0
    | inr other ↦
        let behind = (next_begins is k.at j.at k j short here found (omega (arith, other, above, all_of.lie.0))).inside in
        of_code P (k.at + k.size) code i rest (behind_first from k (code ++ i ∷ rest) all_of) all.1 j found behind below
  ]
    where
      here : instr_at is k.at ≡ Some k
      here = first_found from k (code ++ i ∷ rest) all_of
