-- Counting edges and ticks.
use Rattle.std.proofs.Common.{◌≡◌, ℕ, zero, suc, ◌+◌, ◌<◌, ◌≤◌, Bool, true, false, ◌&&◌, [], ◌∷◌, cond, refl, sym, ap, subst, zero-add, ◌∙◌, arith, inl, inr}
use Rattle.std.specs.List.{count_by, list_all}
use Rattle.std.proofs.lemmas.Bool.{cases_lt}
use Rattle.std.proofs.lemmas.List.Folds.{list_all-append}
use Rattle.std.proofs.lemmas.List.Sums.{sum_by-append}
use Rattle.domain_api.specs.Meter.{after_tick}
use Rattle.widening_engine.specs.Rounds.{places}
use Rattle.widening_engine.specs.Work.{after_ticks}
use Rattle.widening_engine.proofs.Lists.{range_one_more}

-- ---- of the numbers below one more

module _ (p : ℕ → Bool) where
  pub count_more : (n : ℕ) → count_by p (places (n + 1)) ≡ count_by p (places n) + cond (p n) 1 0
  count_more n = ap (count_by p) (range_one_more n) ∙ sum_by-append (λ x. cond (p x) 1 0) (places n) (n ∷ [])
      ∙ ap (λ (k : ℕ). count_by p (places n) + k) (zero-add (cond (p n) 1 0))

  pub count_up_to : (n m : ℕ) → n ≤ m → count_by p (places n) ≤ count_by p (places m)
  count_up_to n zero h =
      let same : n ≡ 0 = omega arith in
      subst (λ (k : ℕ). count_by p (places k) ≤ count_by p (places 0)) (sym same) (omega arith)
  count_up_to n (suc m) h =
      let longer : suc m ≡ m + 1 = omega arith in
      let more = count_more m in
      elim (cases_lt m n) [
        | inl past ↦
            let same : n ≡ suc m = omega arith in
            subst (λ (k : ℕ). count_by p (places k) ≤ count_by p (places (suc m))) (sym same) (omega arith)
        | inr within ↦ subst (λ (k : ℕ). count_by p (places n) ≤ count_by p (places k)) (sym longer) (omega (arith, more, count_up_to n m within))
      ]

  all_more : (n : ℕ) → list_all p (places (n + 1)) ≡ (list_all p (places n) && (p n && true))
  all_more n = ap (list_all p) (range_one_more n) ∙ list_all-append p (places n) (n ∷ [])

  -- Each number passes.
  pub all_pass : (n : ℕ) → ((k : ℕ) → k < n → p k ≡ true) → list_all p (places n) ≡ true
  all_pass zero each = refl
  all_pass (suc n) each =
      let longer : suc n ≡ n + 1 = omega arith in
      let before : list_all p (places n) ≡ true = all_pass n (λ k h. each k (omega arith)) in
      ap (λ (m : ℕ). list_all p (places m)) longer ∙ all_more n ∙ (λ i. before i && (each n (omega arith) i && true))

  -- One does not.
  pub one_fails : (k n : ℕ) → k < n → p k ≡ false → list_all p (places n) ≡ false
  one_fails k zero h fails = absurd (omega arith)
  one_fails k (suc n) h fails =
      let longer : suc n ≡ n + 1 = omega arith in
      ap (λ (m : ℕ). list_all p (places m)) longer ∙ all_more n ∙ elim (cases_lt k n) [
        | inl before ↦ ap (λ (t : Bool). t && (p n && true)) (one_fails k n before fails)
        | inr last ↦
            let same : k ≡ n = omega arith in
            let fails_here : p n ≡ false = subst (λ (j : ℕ). p j ≡ false) same fails in
            ap (λ (t : Bool). list_all p (places n) && (t && true)) fails_here ∙ never (list_all p (places n))
      ]
    where
      never : (b : Bool) → (b && false) ≡ false
      never true = refl
      never false = refl

-- ---- ticks

pub ticks_add : (m n count : ℕ) → after_ticks (m + n) count ≡ after_ticks n (after_ticks m count)
ticks_add m zero count = let e : m + 0 ≡ m = omega arith in rw e refl
ticks_add m (suc n) count = let e : m + suc n ≡ suc (m + n) = omega arith in rw e (ap after_tick (ticks_add m n count))

pub ticks_most : (n count : ℕ) → after_ticks n count ≤ count + n
ticks_most zero count = omega arith
ticks_most (suc n) count = let h = ticks_most n count in omega (arith, h)

-- One tick, if the edge is computed.
pub same_tick : (a b : Bool) → a ≡ b → cond {A = ℕ} a 1 0 ≡ cond b 1 0
same_tick a b same = ap {B = ℕ} (λ (t : Bool). cond t 1 0) same
