-- Each key is among the keys of which each is taken once.
use Rattle.std.proofs.Common.{◌≡◌, ℕ, Bool, true, false, List, [], ◌∷◌, ◌++◌, if◌then◌else◌, refl, subst, append_assoc, inl, inr}
use Rattle.std.specs.Prelude.{Contains}
use Rattle.std.specs.List.{AllByRecursion}
use Rattle.std.specs.Str.{bytes_eq}
use Rattle.std.proofs.lemmas.List.Elements.{Contains-append_left, Contains-append_right}
use Rattle.std.proofs.lemmas.Map.Views.{Contains-from_any}
use Rattle.std.proofs.lemmas.Slice.Eq.{bytes_eq-Decides}
use Rattle.answer_lines.proofs.WholeLines.{is_first}
use Rattle.result_cache.specs.Entries.{is_among}
use Rattle.unit_verdicts.specs.Asked.{distinct, unseen}
use Rattle.assembly_reports.proofs.Members.{all_of_each, contains_first, none_contained}

abbrev Keys : Type 0
Keys = List (List ℕ)

-- What is taken of a key and these after it, where it is among those that were seen or not.
abbrev taken_by : Keys → List ℕ → Bool → Keys → Keys
taken_by seen key among keys = if among then unseen seen keys else key ∷ unseen (seen ++ key ∷ []) keys

among_seen : (seen : Keys) (key : List ℕ) → is_among seen key ≡ true → Contains seen key
among_seen seen key is = Contains-from_any {eq = bytes_eq} (λ x y same. (bytes_eq-Decides x y).0 same) key seen is

has_taken : (seen keys : Keys) (key : List ℕ) → Contains keys key → Contains (seen ++ unseen seen keys) key
has_taken seen [] key has = absurd (none_contained key has)
has_taken seen (first ∷ keys) key has =
    by_test (is_among seen first) (among_seen seen first) (has_taken seen keys key) (has_taken (seen ++ first ∷ []) keys key)
  where
    by_test : (among : Bool) → (among ≡ true → Contains seen first) → (Contains keys key → Contains (seen ++ unseen seen keys) key)
        → (Contains keys key → Contains ((seen ++ first ∷ []) ++ unseen (seen ++ first ∷ []) keys) key) → Contains (seen ++ taken_by seen first among keys) key
    by_test true known old new =
        elim (contains_first first key keys has) [
          | inl same ↦ Contains-append_left seen (unseen seen keys) key (subst (Contains seen) same (known refl))
          | inr later ↦ old later
        ]
    by_test false known old new =
        let rest = unseen (seen ++ first ∷ []) keys in
        elim (contains_first first key keys has) [
          | inl same ↦ Contains-append_right seen (first ∷ rest) key (is_first first key rest same)
          | inr later ↦ subst (λ (l : Keys). Contains l key) (append_assoc seen (first ∷ []) rest) (new later)
        ]

pub distinct_has : (keys : Keys) (key : List ℕ) → Contains keys key → Contains (distinct keys) key
distinct_has keys key has = has_taken [] keys key has

pub all_distinct : (keys : Keys) → AllByRecursion (Contains (distinct keys)) keys
all_distinct keys = all_of_each (Contains (distinct keys)) keys (distinct_has keys)

-- Each key is among them.
pub all_contained : (keys : Keys) → AllByRecursion (Contains keys) keys
all_contained keys = all_of_each (Contains keys) keys (λ key has. has)
