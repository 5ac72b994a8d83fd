-- Tables of names as the maps that hold them.
use Rattle.std.proofs.Common.{◌≡◌, ℕ, List, [], ◌∷◌, map, Bool, true, false, true≢false, cond, Option, Some, refl, sym, ap, ◌∙◌}
use Rattle.std.specs.Map.{lookup}
use Rattle.std.specs.Str.{bytes_eq}
use Rattle.std.proofs.lemmas.Slice.Eq.{bytes_eq-Decides}
use Rattle.std.specs.Prelude.{unwrap_or}
use Rattle.indexmap.specs.IndexMap.{insert_entry}
use Rattle.asm_image.specs.Find.{Notes}

twice : {A : Type 0} (b : Bool) (x y z : A) → cond b x z ≡ cond b x (cond b y z)
twice true x y z = refl
twice false x y z = refl

exchanged : {A : Type 0} (a b : Bool) (x y z : A) → (a ≡ true → b ≡ true → ⊥) → cond a x (cond b y z) ≡ cond b y (cond a x z)
exchanged true true x y z apart = absurd (apart refl refl)
exchanged true false x y z apart = refl
exchanged false true x y z apart = refl
exchanged false false x y z apart = refl

-- A name equals one of two that differ at most.
apart : (name here there : List ℕ) → bytes_eq here there ≡ false → bytes_eq name there ≡ true → bytes_eq name here ≡ true → ⊥
apart name here there differ e f =
    let same : here ≡ there = sym ((bytes_eq-Decides name here).0 f) ∙ (bytes_eq-Decides name there).0 e in
    true≢false (sym ((bytes_eq-Decides here there).1 same) ∙ differ)

module _ {K X : Type 0} (f : K → List ℕ) where
  -- The entries with each key as its bytes.
  abbrev pub seen : List (K × X) → List (List ℕ × X)
  seen entries = map (λ (entry : K × X). (f entry.0, entry.1)) entries

  pub lookup-seen : (test : List ℕ → Bool) (entries : List (K × X)) → lookup test (seen entries) ≡ lookup (λ key. test (f key)) entries
  lookup-seen test [] = refl
  lookup-seen test (entry ∷ entries) = ap (cond (test (f entry.0)) (Some entry.1)) (lookup-seen test entries)

abbrev keys_eq : {K : Type 0} → (K → List ℕ) → K → K → Bool
keys_eq f x y = bytes_eq (f x) (f y)

module _ {K X : Type 0} (f : K → List ℕ) (name : List ℕ) (key : K) (x : X) where
  -- What a name has among entries.
  abbrev at : List (K × X) → Option X
  at entries = lookup (λ k. bytes_eq name (f k)) entries

  insert-here : (entry : K × X) (entries : List (K × X)) → keys_eq f key entry.0 ≡ true
      → at ((entry.0, x) ∷ entries) ≡ cond (bytes_eq name (f key)) (Some x) (at (entry ∷ entries))
  insert-here entry entries e =
      let same : f key ≡ f entry.0 = (bytes_eq-Decides (f key) (f entry.0)).0 e in
      rw same (twice (bytes_eq name (f entry.0)) (Some x) (Some entry.1) (at entries))

  insert-behind : (entry : K × X) (entries later : List (K × X)) → keys_eq f key entry.0 ≡ false
      → at later ≡ cond (bytes_eq name (f key)) (Some x) (at entries) → at (entry ∷ later) ≡ cond (bytes_eq name (f key)) (Some x) (at (entry ∷ entries))
  insert-behind entry entries later e is =
      ap (cond (bytes_eq name (f entry.0)) (Some entry.1)) is
      ∙ exchanged (bytes_eq name (f entry.0)) (bytes_eq name (f key)) (Some entry.1) (Some x) (at entries) (apart name (f key) (f entry.0) e)

  insert-one : (entry : K × X) (entries later : List (K × X)) (b : Bool) → keys_eq f key entry.0 ≡ b
      → at later ≡ cond (bytes_eq name (f key)) (Some x) (at entries)
      → at (cond b ((entry.0, x) ∷ entries) (entry ∷ later)) ≡ cond (bytes_eq name (f key)) (Some x) (at (entry ∷ entries))
  insert-one entry entries later true e is = insert-here entry entries e
  insert-one entry entries later false e is = insert-behind entry entries later e is

  pub lookup-insert : (entries : List (K × X)) → at (insert_entry (keys_eq f) entries key x) ≡ cond (bytes_eq name (f key)) (Some x) (at entries)
  lookup-insert [] = refl
  lookup-insert (entry ∷ entries) =
      insert-one entry entries (insert_entry (keys_eq f) entries key x) (keys_eq f key entry.0) refl (lookup-insert entries)

-- What is noted for a name.
pub noted : {K : Type 0} (f : K → List ℕ) (old new : List (K × ℕ)) (table : List (List ℕ × ℕ)) (key : K) (row : ℕ)
    → seen f old ≡ table → new ≡ insert_entry (keys_eq f) old key row → Notes table (f key) row (seen f new)
noted f old new table key row view is other =
    let before : lookup (λ k. bytes_eq other (f k)) old ≡ lookup (bytes_eq other) table = sym (lookup-seen f (bytes_eq other) old) ∙ ap (lookup (bytes_eq other)) view in
    let after : lookup (λ k. bytes_eq other (f k)) new ≡ cond (bytes_eq other (f key)) (Some row) (lookup (λ k. bytes_eq other (f k)) old) =
    rw is (lookup-insert f other key row old) in
    let found : lookup (bytes_eq other) (seen f new) ≡ cond (bytes_eq other (f key)) (Some row) (lookup (bytes_eq other) table) =
    lookup-seen f (bytes_eq other) new ∙ after ∙ rw before refl in
    ap (λ (o : Option ℕ). unwrap_or o 0) found
    ∙ either_way (bytes_eq other (f key)) row (lookup (bytes_eq other) table)
  where
    either_way : (b : Bool) (row : ℕ) (found : Option ℕ) → unwrap_or (cond b (Some row) found) 0 ≡ cond b row (unwrap_or found 0)
    either_way true row found = refl
    either_way false row found = refl
