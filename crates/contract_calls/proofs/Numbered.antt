-- The clause of a number among those of a kind.
use Rattle.std.proofs.Common.{◌≡◌, ℕ, zero, suc, ◌+◌, ◌-◌, ◌<◌, ◌≤◌, ◌==◌, Bool, true, false, ◌&&◌, List, [], ◌∷◌, length, get_or, drop, Some, None, if◌then◌else◌, refl, ap, sym, ◌∙◌, arith}
use Rattle.std.proofs.lemmas.Bool.{eqb-true, false≢true}
use Rattle.std.proofs.lemmas.List.{drop_all, drop_more}
use Rattle.cil_model.specs.Clauses.{clauses_of, is_kind}
use Rattle.cil_model.specs.declared.clause.Clause.{Clause}
use Rattle.cil_model.specs.declared.clause.ClauseKind.{ClauseKind}
use Rattle.contract_calls.specs.CallStates.{numbered}

-- The clause that is sought is the one that so many lie before among those that are left.
abbrev pub IsSought : ClauseKind → List Clause → ℕ → ℕ → ℕ → Type 0
IsSought kind clauses number i left =
    numbered (clauses_of kind clauses) number ≡ numbered (clauses_of kind (drop i clauses)) left

none_left : (number : ℕ) → numbered [] number ≡ None
unfolding numbered
none_left zero = refl
none_left (suc number) = refl

is_first : (kind : ClauseKind) (clause : Clause) (rest : List Clause) (left : ℕ) → left ≡ 1
    → is_kind kind clause.kind ≡ true → numbered (clauses_of kind (clause ∷ rest)) left ≡ Some clause
unfolding numbered
is_first kind clause rest left one is = rw (one, is) refl

one_less : (kind : ClauseKind) (clause : Clause) (rest : List Clause) (left : ℕ)
    → (left == 1) && is_kind kind clause.kind ≡ false
    → numbered (clauses_of kind (clause ∷ rest)) left
    ≡ numbered (clauses_of kind rest) (if is_kind kind clause.kind then left - 1 else left)
unfolding numbered
one_less kind clause rest left other = by left (is_kind kind clause.kind) refl other
  where
    by : (n : ℕ) (b : Bool) → is_kind kind clause.kind ≡ b → (n == 1) && is_kind kind clause.kind ≡ false
        → numbered (clauses_of kind (clause ∷ rest)) n
        ≡ numbered (clauses_of kind rest) (if is_kind kind clause.kind then n - 1 else n)
    by n false is other = rw is refl
    by zero true is other = rw is refl
    by (suc zero) true is other = absurd (false≢true (sym other ∙ is))
    by (suc (suc n)) true is other =
        let less : suc n ≡ suc (suc n) - 1 = omega arith in
        rw is (ap (numbered (clauses_of kind rest)) less)

both_so : (m : ℕ) (b : Bool) → true ≡ ((m == 1) && b) → (m ≡ 1) × (b ≡ true)
both_so m b is = by (m == 1) refl is
  where
    by : (c : Bool) → (m == 1) ≡ c → true ≡ (c && b) → (m ≡ 1) × (b ≡ true)
    by true one is = (eqb-true m 1 one, sym is)
    by false one is = absurd (false≢true (sym is))

pub found : (kind : ClauseKind) (clauses : List Clause) (number i left : ℕ) (clause : Clause)
    → IsSought kind clauses number i left → i < length clauses → clause ≡ get_or clauses i clause
    → true ≡ ((left == 1) && is_kind kind clause.kind) → Some clause ≡ numbered (clauses_of kind clauses) number
found kind clauses number i left clause sought below is next =
    let (one, of_kind) = both_so left (is_kind kind clause.kind) next in
    let split : drop i clauses ≡ clause ∷ drop (i + 1) clauses =
    drop_more clauses i clause below ∙ ap (λ c. c ∷ drop (i + 1) clauses) (sym is) in
    sym (sought ∙ (ap (λ cs. numbered (clauses_of kind cs) left) split
    ∙ is_first kind clause (drop (i + 1) clauses) left one of_kind))

pub goes_on : (kind : ClauseKind) (clauses : List Clause) (number i left after : ℕ) (clause : Clause)
    → IsSought kind clauses number i left → i < length clauses → clause ≡ get_or clauses i clause
    → false ≡ ((left == 1) && is_kind kind clause.kind) → after ≡ (if is_kind kind clause.kind then left - 1 else left)
    → IsSought kind clauses number (i + 1) after
goes_on kind clauses number i left after clause sought below is other made =
    let split : drop i clauses ≡ clause ∷ drop (i + 1) clauses =
    drop_more clauses i clause below ∙ ap (λ c. c ∷ drop (i + 1) clauses) (sym is) in
    sought ∙ (ap (λ cs. numbered (clauses_of kind cs) left) split
    ∙ (one_less kind clause (drop (i + 1) clauses) left (sym other)
    ∙ ap (numbered (clauses_of kind (drop (i + 1) clauses))) (sym made)))

pub none_found : (kind : ClauseKind) (clauses : List Clause) (number i left : ℕ) → IsSought kind clauses number i left
    → length clauses ≤ i → None ≡ numbered (clauses_of kind clauses) number
none_found kind clauses number i left sought most =
    sym (sought ∙ (ap (λ cs. numbered (clauses_of kind cs) left) (drop_all i clauses most) ∙ none_left left))

pub ruleset counting = (found, goes_on, none_found)
