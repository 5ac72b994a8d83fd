-- The units of one method after another.
use Rattle.std.proofs.Common.{◌≡◌, ℕ, ◌+◌, List, [], ◌∷◌, ◌++◌, map, take, drop, sym, ap, subst, ◌∙◌, append-nil}
use Rattle.std.proofs.lemmas.List.{map-append, take-append-drop}
use Rattle.std.proofs.lemmas.List.Concat.{flat_map-append}
use Rattle.asm_image.specs.declared.method_row.MethodRow.{MethodRow}
use Rattle.unit_builder.specs.declared.entry.MethodEntry.{MethodEntry}
use Rattle.unit_builder.specs.declared.entry.Outcome.{Outcome}
use Rattle.unit_verdicts.specs.Asked.{AsksPrefix}
use Rattle.unit_verdicts.specs.VerdictCache.{CachedUnits}
use Rattle.assembly_reports.specs.JudgedUnits.{asked_for, judged_keys, outcome_key, with_judged}
use Rattle.assembly_reports.specs.InferredUnits.{entry_by}
use Rattle.assembly_reports.proofs.Judging.{asked_more, prefix_later, prefix_of_first, judged_more}

abbrev Keys : Type 0
Keys = List (List ℕ)

-- The keys of these methods, where this comes of methods.
abbrev pub keys_of : (MethodRow → Outcome) → List MethodRow → Keys
keys_of of methods = judged_keys (map (entry_by of) methods)

abbrev pub entry_key : MethodEntry → Keys
entry_key entry = outcome_key entry.outcome

keys_behind : (of : MethodRow → Outcome) (a b : List MethodRow) → keys_of of (a ++ b) ≡ keys_of of a ++ keys_of of b
keys_behind of a b = ap judged_keys (map-append (entry_by of) a b) ∙ flat_map-append entry_key (map (entry_by of) a) (map (entry_by of) b)

keys_next : (of : MethodRow → Outcome) (methods : List MethodRow) (n : ℕ) (method : MethodRow) → take (n + 1) methods ≡ take n methods ++ method ∷ []
    → keys_of of (take n methods) ++ outcome_key (of method) ≡ keys_of of (take (n + 1) methods)
keys_next of methods n method next =
    sym (ap (keys_of of) next ∙ keys_behind of (take n methods) (method ∷ [])
    ∙ ap (λ (l : Keys). keys_of of (take n methods) ++ l) (append-nil (outcome_key (of method))))

-- What was asked for some first methods is a prefix of what is asked for all.
pub prefix_of_whole : (of : MethodRow → Outcome) (methods : List MethodRow) (n : ℕ) (cache : CachedUnits) (old new : Keys)
    → AsksPrefix (asked_for cache (keys_of of (take n methods))) old new → AsksPrefix (asked_for cache (keys_of of methods)) old new
prefix_of_whole of methods n cache old new prefix =
    let first = keys_of of (take n methods) in
    let rest = keys_of of (drop n methods) in
    let all : first ++ rest ≡ keys_of of methods = sym (keys_behind of (take n methods) (drop n methods)) ∙ ap (keys_of of) (take-append-drop n methods) in
    subst (λ (keys : Keys). AsksPrefix (asked_for cache keys) old new) all (prefix_of_first cache first rest old new prefix)

-- What some first methods bring, and what the next one adds.
module _ (of : MethodRow → Outcome) (methods : List MethodRow) (n : ℕ) (method : MethodRow) (cache now : CachedUnits) (next : take (n + 1) methods ≡ take n methods ++ method ∷ [])
    (so_far : now ≡ with_judged cache (keys_of of (take n methods))) where
  abbrev first : Keys
  first = keys_of of (take n methods)

  abbrev key : Keys
  key = outcome_key (of method)

  -- What was judged, one method later.
  pub judged_next : (new : CachedUnits) → new ≡ with_judged now key → new ≡ with_judged cache (keys_of of (take (n + 1) methods))
  judged_next new is = judged_more cache now first so_far key new is ∙ ap (with_judged cache) (keys_next of methods n method next)

  -- What was asked, one method later.
  pub asked_next : (old mid new : Keys) → mid ≡ old ++ asked_for cache first → new ≡ mid ++ asked_for now key → new ≡ old ++ asked_for cache (keys_of of (take (n + 1) methods))
  asked_next old mid new asked more =
      asked_more cache now first so_far key old mid new asked more ∙ ap (λ (keys : Keys). old ++ asked_for cache keys) (keys_next of methods n method next)

  -- A prefix of what the next method asks for, after what those before it asked for.
  pub prefix_at_next : (old mid new : Keys) → mid ≡ old ++ asked_for cache first → AsksPrefix (asked_for now key) mid new → AsksPrefix (asked_for cache (keys_of of methods)) old new
  prefix_at_next old mid new asked prefix =
      prefix_of_whole of methods (n + 1) cache old new
      (subst (λ (keys : Keys). AsksPrefix (asked_for cache keys) old new) (keys_next of methods n method next)
      (prefix_later cache now first so_far key old mid new asked prefix))
