-- Numbers that are put one after another into a set that keeps its order: each once, in order of first use.
use Rattle.std.proofs.Common.{◌≡◌, ℕ, Bool, true, false, ◌||◌, List, [], ◌∷◌, ◌++◌, length, ◌≤◌, ◌<◌, ◌+◌, ◌^◌, Option, Some, None, cond, nat_eq, refl, sym, ap, ap₂, ◌∙◌, append_assoc, append-nil, arith}
use Rattle.std.proofs.lemmas.Bool.Decides.{nat_tests}
use Rattle.std.specs.Prelude.{fold, ◌==◌}
use Rattle.std.specs.List.{cons_option, list_any}
use Rattle.std.proofs.lemmas.List.Folds.{list_any-append}
use Rattle.std.proofs.Math.Bool.{or-false}
use Rattle.indexmap.specs.IndexSet.{insert_key}
use Rattle.cc_base.specs.Slices.{IsShort}
use Rattle.cil_model.specs.Code.{CodeOf}
use Rattle.cil_model.specs.declared.instruction.Instr.{Instr}
use Rattle.cil_model.proofs.ShortCodes.{code_is_short, count_short}
use Rattle.method_code.specs.Called.{called_by_op, callees_of, calls_in}
use Rattle.method_code.specs.Meanings.{Meaning}
use Rattle.method_unit.specs.UnitFile.{first_uses}

same_numbers : (a b : ℕ) → nat_eq a b ≡ nat_eq b a
same_numbers a b = grind (arith, nat_tests)

exchanged : (a b : Bool) → (a || b) ≡ (b || a)
exchanged true true = refl
exchanged true false = refl
exchanged false true = refl
exchanged false false = refl

-- The same numbers are among these keys and among those that were met.
abbrev AreMet : List ℕ → List ℕ → Type 0
AreMet met keys = (k : ℕ) → list_any (λ m. m == k) met ≡ list_any (nat_eq k) keys

one_more : (met keys : List ℕ) (n : ℕ) → AreMet met keys → AreMet (n ∷ met) (keys ++ n ∷ [])
one_more met keys n same k =
    ap₂ (λ (a b : Bool). a || b) (same_numbers n k) (same k)
    ∙ exchanged (nat_eq k n) (list_any (nat_eq k) keys)
    ∙ ap (λ (b : Bool). list_any (nat_eq k) keys || b) (sym (or-false (nat_eq k n)))
    ∙ sym (list_any-append (nat_eq k) keys (n ∷ []))

put_next : (keys met ns : List ℕ) (n : ℕ) (known : Bool) → fold (insert_key nat_eq) keys ns ≡ keys ++ first_uses met ns
    → fold (insert_key nat_eq) (keys ++ n ∷ []) ns ≡ (keys ++ n ∷ []) ++ first_uses (n ∷ met) ns
    → fold (insert_key nat_eq) (cond known keys (keys ++ n ∷ [])) ns ≡ keys ++ cond known (first_uses met ns) (n ∷ first_uses (n ∷ met) ns)
put_next keys met ns n true old new = old
put_next keys met ns n false old new = new ∙ append_assoc keys (n ∷ []) (first_uses (n ∷ met) ns)

put : (keys met ns : List ℕ) → AreMet met keys → fold (insert_key nat_eq) keys ns ≡ keys ++ first_uses met ns
put keys met [] same = sym (append-nil keys)
put keys met (n ∷ ns) same =
    ap (λ (b : Bool). fold (insert_key nat_eq) (cond b keys (keys ++ n ∷ [])) ns) (sym (same n))
    ∙ put_next keys met ns n (list_any (λ m. m == n) met) (put keys met ns same) (put (keys ++ n ∷ []) (n ∷ met) ns (one_more met keys n same))

-- A set with no numbers, in which these are put.
pub all_put : (keys ns : List ℕ) → keys ≡ [] → fold (insert_key nat_eq) keys ns ≡ first_uses [] ns
all_put keys ns none = rw none (put [] [] ns (λ k. refl))

-- ---- how many there are

fewer : (met ns : List ℕ) → length (first_uses met ns) ≤ length ns
fewer met [] = omega arith
fewer met (n ∷ ns) = fewer_next met ns n (list_any (λ m. m == n) met) (fewer met ns) (fewer (n ∷ met) ns)
  where
    fewer_next : (met ns : List ℕ) (n : ℕ) (known : Bool) → length (first_uses met ns) ≤ length ns → length (first_uses (n ∷ met) ns) ≤ length ns
        → length (cond known (first_uses met ns) (n ∷ first_uses (n ∷ met) ns)) ≤ length (n ∷ ns)
    fewer_next met ns n true old new = omega (arith, old)
    fewer_next met ns n false old new = omega (arith, new)

fewer_calls : (meaning : Meaning) (is : List Instr) → length (calls_in meaning is) ≤ length is
fewer_calls meaning [] = omega arith
fewer_calls meaning (i ∷ is) = by (called_by_op meaning i.op) (fewer_calls meaning is)
  where
    by : (call : Option ℕ) → length (calls_in meaning is) ≤ length is → length (cons_option call (calls_in meaning is)) ≤ length (i ∷ is)
    by None few = omega (arith, few)
    by (Some token) few = omega (arith, few)

-- Code that is short has so few callees that each has a number of 32 bits.
pub few_callees : (meaning : Meaning) (is : List Instr) (code : List ℕ) → CodeOf is code → IsShort code → length (callees_of meaning is) + 100 < 2 ^ 32
few_callees meaning is code of_code short =
    let lies = code_is_short is code of_code short in
    omega (arith, fewer [] (calls_in meaning is), fewer_calls meaning is, count_short 0 is lies.lie lies.each (omega arith))
