-- The places that methods have among those that are used, in order of first use, are in order of use.
use Rattle.std.proofs.Common.{◌≡◌, ℕ, suc, ◌+◌, ◌<◌, ◌==◌, Bool, true, false, not, ◌||◌, nat_lt, List, [], ◌∷◌, ◌++◌, length, map, refl, sym, ap, subst, ◌∙◌, arith, inl, inr, append_assoc, append-nil, length-append, if◌then◌else◌}
use Rattle.std.specs.Prelude.{Some, None}
use Rattle.std.specs.List.{list_any, position, position_or_len}
use Rattle.std.proofs.lemmas.Bool.{cases_lt, eq-eqb, eqb-true, le-ltb, lt-ltb}
use Rattle.std.proofs.lemmas.List.Folds.{list_any-append}
use Rattle.cil_model.specs.WellFormed.{InOrderOfUse}
use Rattle.method_unit.specs.UnitFile.{first_uses}

-- The place of a number among others, or after them.
abbrev pub place_in : List ℕ → ℕ → ℕ
place_in uses n = position_or_len (λ m. m == n) uses

abbrev pub is_in : List ℕ → ℕ → Bool
is_in uses n = list_any (λ m. m == n) uses

head_among : (here later : Bool) (k len : ℕ) → (here || later) ≡ true → (later ≡ true → k < len) → (if not here then 1 + k else 0) < suc len
head_among true later k len there behind = omega arith
head_among false later k len there behind = let less = behind there in omega (arith, less)

-- A number among the first ones has its place among them.
pub place_among : (prefix rest : List ℕ) (n : ℕ) → is_in prefix n ≡ true → place_in (prefix ++ rest) n < length prefix
place_among [] rest n there = absurd cc
place_among (m ∷ prefix) rest n there = head_among (m == n) (is_in prefix n) (place_in (prefix ++ rest) n) (length prefix) there (place_among prefix rest n)

head_behind : (here later : Bool) (k len : ℕ) → (here || later) ≡ false → (later ≡ false → k ≡ len) → (if not here then 1 + k else 0) ≡ suc len
head_behind true later k len none behind = absurd cc
head_behind false later k len none behind = let same = behind none in omega (arith, same)

-- The first one after them is at their end.
place_behind : (prefix rest : List ℕ) (n : ℕ) → is_in prefix n ≡ false → place_in (prefix ++ n ∷ rest) n ≡ length prefix
place_behind [] rest n none = rw (eq-eqb n n refl) refl
place_behind (m ∷ prefix) rest n none = head_behind (m == n) (is_in prefix n) (place_in (prefix ++ n ∷ rest) n) (length prefix) none (place_behind prefix rest n)

-- The same numbers were met.
abbrev SameMet : List ℕ → List ℕ → Type 0
SameMet met prefix = (n : ℕ) → is_in met n ≡ is_in prefix n

or_swapped : (a b : Bool) → (a || b) ≡ (b || (a || false))
or_swapped true true = refl
or_swapped true false = refl
or_swapped false true = refl
or_swapped false false = refl

one_met : (met prefix : List ℕ) (n : ℕ) → SameMet met prefix → SameMet (n ∷ met) (prefix ++ n ∷ [])
one_met met prefix n same k =
    ap (λ b. (n == k) || b) (same k) ∙ (or_swapped (n == k) (is_in prefix k) ∙ sym (list_any-append (λ m. m == k) prefix (n ∷ [])))

-- The places of these calls are in order after the first uses.
abbrev PlacedFrom : List ℕ → List ℕ → Type 0
PlacedFrom uses calls = (prefix met : List ℕ) → SameMet met prefix → uses ≡ prefix ++ first_uses met calls → InOrderOfUse (length prefix) (length uses) (map (place_in uses) calls)

abbrev uses_behind : Bool → List ℕ → List ℕ → ℕ → List ℕ
uses_behind known met calls n = if known then first_uses met calls else n ∷ first_uses (n ∷ met) calls

one_placed : (uses calls prefix met : List ℕ) (n : ℕ) (known : Bool) → is_in met n ≡ known → SameMet met prefix → uses ≡ prefix ++ uses_behind known met calls n → PlacedFrom uses calls
    → InOrderOfUse (length prefix) (length uses) (place_in uses n ∷ map (place_in uses) calls)
one_placed uses calls prefix met n true met_it same rest later =
    let there : place_in (prefix ++ first_uses met calls) n < length prefix = place_among prefix (first_uses met calls) n (sym (same n) ∙ met_it) in
    inl (subst (λ (us : List ℕ). place_in us n < length prefix) (sym rest) there, later prefix met same rest)
one_placed uses calls prefix met n false new same rest later =
    let there : place_in (prefix ++ n ∷ first_uses (n ∷ met) calls) n ≡ length prefix = place_behind prefix (first_uses (n ∷ met) calls) n (sym (same n) ∙ new) in
    let longer : length (prefix ++ n ∷ []) ≡ length prefix + 1 = length-append prefix (n ∷ []) in
    inr (
      subst (λ (us : List ℕ). place_in us n ≡ length prefix) (sym rest) there,
      subst (λ (k : ℕ). InOrderOfUse k (length uses) (map (place_in uses) calls)) longer
          (later (prefix ++ n ∷ []) (n ∷ met) (one_met met prefix n same) (rest ∙ sym (append_assoc prefix (n ∷ []) (first_uses (n ∷ met) calls)))),
    )

in_order : (uses calls : List ℕ) → PlacedFrom uses calls
in_order uses [] prefix met same whole = sym (ap length whole ∙ ap length (append-nil prefix))
in_order uses (n ∷ calls) prefix met same whole = one_placed uses calls prefix met n (is_in met n) refl same whole (in_order uses calls)

pub uses_in_order : (calls : List ℕ) → InOrderOfUse 0 (length (first_uses [] calls)) (map (place_in (first_uses [] calls)) calls)
uses_in_order calls = in_order (first_uses [] calls) calls [] [] (λ n. refl) refl

-- ---- what is used is called

or_true : (a : Bool) → (a || true) ≡ true
or_true true = refl
or_true false = refl

-- What stands among the uses of calls, where the first is met or not, and is this number or not.
one_stands : (met calls : List ℕ) (m n : ℕ) (known here : Bool) → is_in met m ≡ known → (m == n) ≡ here → (here || is_in calls n) ≡ true
    → ((met : List ℕ) → is_in calls n ≡ true → (is_in met n || is_in (first_uses met calls) n) ≡ true) → (is_in met n || is_in (uses_behind known met calls m) n) ≡ true
one_stands met calls m n true true met_it same there later = let old : is_in met n ≡ true = subst (λ k. is_in met k ≡ true) (eqb-true m n same) met_it in rw old refl
one_stands met calls m n true false met_it same there later = later met there
one_stands met calls m n false true new same there later = rw same (or_true (is_in met n))
one_stands met calls m n false false new same there later = let old = later (m ∷ met) there in rw same (rw same at old)

-- Each number that is called was met, or stands among the uses.
pub use_stands : (calls : List ℕ) (n : ℕ) (met : List ℕ) → is_in calls n ≡ true → (is_in met n || is_in (first_uses met calls) n) ≡ true
use_stands [] n met there = absurd cc
use_stands (m ∷ calls) n met there = one_stands met calls m n (is_in met m) (m == n) refl refl there (use_stands calls n)

later_within : (k len : ℕ) → nat_lt (1 + k) (suc len) ≡ nat_lt k len
later_within k len = elim (cases_lt k len) [
  | inl less ↦ lt-ltb (1 + k) (suc len) (omega (arith, less)) ∙ sym (lt-ltb k len less)
  | inr not_less ↦ le-ltb (1 + k) (suc len) (omega (arith, not_less)) ∙ sym (le-ltb k len not_less)
]

head_within : (here later : Bool) (k len : ℕ) → nat_lt k len ≡ later → nat_lt (if not here then 1 + k else 0) (suc len) ≡ (here || later)
head_within true later k len same = lt-ltb 0 (suc len) (omega arith)
head_within false later k len same = later_within k len ∙ same

-- A place is within the list exactly where something passes.
pub place_within : {X : Type 0} (p : X → Bool) (xs : List X) → nat_lt (position_or_len p xs) (length xs) ≡ list_any p xs
place_within p [] = refl
place_within p (x ∷ xs) = head_within (p x) (list_any p xs) (position_or_len p xs) (length xs) (place_within p xs)

-- The place of a number, where it stands there.
pub position_of : (uses : List ℕ) (n : ℕ) → position (λ m. m == n) uses ≡ (if is_in uses n then Some (place_in uses n) else None)
position_of uses n = ap (λ (b : Bool). if b then Some (place_in uses n) else None) (place_within (λ m. m == n) uses)
