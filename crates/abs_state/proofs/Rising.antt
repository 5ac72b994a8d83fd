-- What the loop over definitions finds: whether their symbols rise.
use Rattle.std.proofs.Common.{◌≡◌, ℕ, suc, ◌+◌, ◌≤◌, ◌<◌, true, false, List, [], ◌∷◌, length, get_or, drop, drop-cons, add-one, arith}
use Rattle.std.specs.Prelude.{nat_le}
use Rattle.std.proofs.lemmas.List.{drop_all}
use Rattle.symbolic_values.specs.declared.def.Def.{Def}
use Rattle.abs_state.specs.FormTests.{rise_from}

pub rises_on : (definitions : List (ℕ × Def)) (i least : ℕ) (d : ℕ × Def) → i < length definitions → least ≤ (get_or definitions i d).0
    → rise_from least (drop i definitions) ≡ rise_from 1 definitions → rise_from ((get_or definitions i d).0 + 1) (drop (i + 1) definitions) ≡ rise_from 1 definitions
rises_on definitions i least d inside above so_far =
    let split : drop i definitions ≡ get_or definitions i d ∷ drop (suc i) definitions = drop-cons definitions i d inside in
    let more : i + 1 ≡ suc i = add-one i in
    let here : nat_le least (get_or definitions i d).0 ≡ true = le_true least _ above in
    rw more (rw here at (rw split at so_far))
  where
    le_true : (m n : ℕ) → m ≤ n → nat_le m n ≡ true
    le_true m n le = grind (arith, le)

pub falls_here : (definitions : List (ℕ × Def)) (i least : ℕ) (d : ℕ × Def) → i < length definitions → (get_or definitions i d).0 < least
    → rise_from least (drop i definitions) ≡ rise_from 1 definitions → false ≡ rise_from 1 definitions
falls_here definitions i least d inside below so_far =
    let split : drop i definitions ≡ get_or definitions i d ∷ drop (suc i) definitions = drop-cons definitions i d inside in
    let below_it : nat_le least (get_or definitions i d).0 ≡ false = le_false least _ below in
    rw below_it at (rw split at so_far)
  where
    le_false : (m n : ℕ) → n < m → nat_le m n ≡ false
    le_false m n lt = grind (arith, lt)

pub rises_all : (definitions : List (ℕ × Def)) (i least : ℕ) → length definitions ≤ i → rise_from least (drop i definitions) ≡ rise_from 1 definitions
    → true ≡ rise_from 1 definitions
rises_all definitions i least past so_far = let none : drop i definitions ≡ [] = drop_all i definitions past in rw none at so_far

pub ruleset rising_symbols = (rises_on, falls_here, rises_all)
