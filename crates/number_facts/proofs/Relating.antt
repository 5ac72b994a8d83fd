-- What is known of a new symbol: the bounds and the definitions of it are stored.
use Rattle.std.proofs.Common.{◌≡◌, ℕ, suc, ◌+◌, ◌<◌, ◌≤◌, neg_ℤ, List, [], ◌∷◌, ◌++◌, length, get_or, drop, drop-cons, add-one, sym, ap, ◌∙◌, inl, inr}
use Rattle.std.proofs.lemmas.Bool.{cases_Bool}
use Rattle.std.proofs.lemmas.List.{append_assoc, append-nil, drop_all}
use Rattle.pentagon_domain.specs.Rows.{with_bounds}
use Rattle.pentagon_domain.specs.declared.bound_row.BoundRow.{BoundRow}
use Rattle.symbolic_values.specs.declared.def.Def.{Def}
use Rattle.number_facts.specs.Facts.{Facts}
use Rattle.number_facts.specs.Fresh.{is_long, bounded, defined, related_so, row_of, rows_of, definition_of, definitions_of}
use Rattle.number_facts.specs.declared.relation.Relation.{Relation}
use Rattle.number_facts.specs.declared.relation.Relation.TheVariants.{AtLeast, AtMost, Is}

-- the facts with more bounds and definitions
abbrev pub with_more : Facts → List BoundRow → List (ℕ × Def) → Facts
with_more facts rows definitions = record {
  ranges = facts.ranges;
  definitions = facts.definitions ++ definitions;
  bounds = with_bounds facts.bounds rows;
}

pub stored_so : (facts : Facts) (t : ℕ) (rs : List Relation) → related_so facts t rs ≡ with_more facts (rows_of t rs) (definitions_of t rs)
unfolding bounded defined
stored_so facts t [] = ap (λ (ds : List (ℕ × Def)). record facts { definitions = ds }) (sym (append-nil facts.definitions))
stored_so facts t (AtLeast s k ∷ rs) =
    elim (cases_Bool (is_long k)) [
      | inl long ↦ rw long (stored_so _ t rs)
      | inr short ↦ rw short (stored_so facts t rs)
    ]
stored_so facts t (AtMost s k ∷ rs) =
    elim (cases_Bool (is_long (neg_ℤ k))) [
      | inl long ↦ rw long (stored_so _ t rs)
      | inr short ↦ rw short (stored_so facts t rs)
    ]
stored_so facts t (Is def ∷ rs) =
    stored_so (defined facts t def) t rs
    ∙ ap (λ (ds : List (ℕ × Def)). record { ranges = facts.ranges; definitions = ds; bounds = with_bounds facts.bounds (rows_of t rs) }) (append_assoc facts.definitions ((t, def) ∷ []) (definitions_of t rs))

-- ---- one more of what is known

pub rows_more : (t : ℕ) (rs : List Relation) (i : ℕ) (rows now whole : List BoundRow) (d : Relation) → i < length rs
    → now ≡ rows ++ row_of t (get_or rs i d) → rows ++ rows_of t (drop i rs) ≡ whole → now ++ rows_of t (drop (i + 1) rs) ≡ whole
rows_more t rs i rows now whole d inside is so_far =
    let split : drop i rs ≡ get_or rs i d ∷ drop (suc i) rs = drop-cons rs i d inside in
    rw (add-one, is) (append_assoc rows (row_of t (get_or rs i d)) (rows_of t (drop (suc i) rs)) ∙ (rw split at so_far))

pub definitions_more : (t : ℕ) (rs : List Relation) (i : ℕ) (ds now whole : List (ℕ × Def)) (d : Relation) → i < length rs
    → now ≡ ds ++ definition_of t (get_or rs i d) → ds ++ definitions_of t (drop i rs) ≡ whole → now ++ definitions_of t (drop (i + 1) rs) ≡ whole
definitions_more t rs i ds now whole d inside is so_far =
    let split : drop i rs ≡ get_or rs i d ∷ drop (suc i) rs = drop-cons rs i d inside in
    rw (add-one, is) (append_assoc ds (definition_of t (get_or rs i d)) (definitions_of t (drop (suc i) rs)) ∙ (rw split at so_far))

pub rows_done : (t : ℕ) (rs : List Relation) (i : ℕ) (rows whole : List BoundRow) → length rs ≤ i → rows ++ rows_of t (drop i rs) ≡ whole → rows ≡ whole
rows_done t rs i rows whole past so_far =
    let none : drop i rs ≡ [] = drop_all i rs past in
    sym (append-nil rows) ∙ (rw none at so_far)

pub definitions_done : (t : ℕ) (rs : List Relation) (i : ℕ) (ds whole : List (ℕ × Def)) → length rs ≤ i → ds ++ definitions_of t (drop i rs) ≡ whole → ds ≡ whole
definitions_done t rs i ds whole past so_far =
    let none : drop i rs ≡ [] = drop_all i rs past in
    sym (append-nil ds) ∙ (rw none at so_far)

pub ruleset steps = (rows_more, definitions_more, rows_done, definitions_done)
