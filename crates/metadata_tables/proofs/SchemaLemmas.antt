-- The table of schemas.
use Rattle.std.proofs.Common.{Bor, zero, suc, ◌∷◌, leb, Bool, true, false, ◌&&◌, refl, ◌≡◌, ℕ, ◌≤◌, ◌<◌, List, [], map, length, get_or, sym, ap, arith, inl, inr}
use Rattle.std.proofs.lemmas.List.{get_or_past, get_or-map}
use Rattle.std.specs.List.{list_all}
use Rattle.std.proofs.lemmas.Bool.{leb-true, cases_lt}
use Rattle.metadata_tables.specs.declared.schema.Column.{Column}
use Rattle.metadata_tables.specs.Schema.{schemas, columns_of}

and-prefix : (a b : Bool) → (a && b) ≡ true → a ≡ true
and-prefix true b e = refl
and-prefix false b e = e

and-back : (a b : Bool) → (a && b) ≡ true → b ≡ true
and-back true b e = e
and-back false b e = absurd cc

-- What stands after the reference at a place.
pub now_at : {A : Type 0} (references : List (Bor (List A))) (i : ℕ) (d : Bor (List A)) → i < length references
    → (get_or references i d).now ≡ get_or (map (λ r. r.now) references) i []
now_at {A} references i d h = sym (get_or-map (λ (r : Bor (List A)). r.now) references i d [] h)

-- What each list of some lists does not pass, the one at a place does not pass.
few_at : (lists : List (List Column)) (n i : ℕ) → list_all (λ columns. leb (length columns) n) lists ≡ true → length (get_or lists i []) ≤ n
few_at [] n i e = omega arith
few_at (columns ∷ lists) n zero e = leb-true (length columns) n (and-prefix _ _ e)
few_at (columns ∷ lists) n (suc i) e = few_at lists n i (and-back _ _ e)

-- No table has many columns.
pub columns_few : (table : ℕ) → length (columns_of table) ≤ 9
unfolding columns_of
columns_few table = few_at schemas 9 table refl

-- A table with columns is one of them.
pub table_known : (table : ℕ) → 0 < length (columns_of table) → table < 45
unfolding columns_of
table_known table some =
    elim (cases_lt table 45) [
      | inl lt ↦ lt
      | inr past ↦ let none : length (get_or schemas table []) ≡ 0 = ap length (get_or_past schemas table [] past) in absurd (omega arith)
    ]
