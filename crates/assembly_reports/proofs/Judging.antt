-- A cache, as units are judged one after another.
use Rattle.std.proofs.Common.{◌≡◌, ℕ, Bool, false, List, [], ◌∷◌, ◌++◌, Result, refl, sym, ap, subst, ◌∙◌, append-nil}
use Rattle.unit_verdicts.specs.Asked.{Asks, AsksPrefix, asked_from, distinct, unseen, without_entry}
use Rattle.unit_verdicts.specs.VerdictCache.{CachedUnits}
use Rattle.unit_verdicts.specs.declared.source.Source.{Source}
use Rattle.unit_verdicts.specs.declared.source.Source.TheVariants.{Cache as OfCache, Proof as OfProof}
use Rattle.unit_verdicts.proofs.Asking.{asks_none}
use Rattle.unit_verdicts.proofs.Unseen.{asked_then, asks_then, prefix_first, prefix_then, judged_then}
use Rattle.proof_files.specs.Proofs.{Entry as ProofEntry}
use Rattle.assembly_reports.specs.JudgedUnits.{asked_for, with_judged}

abbrev Keys : Type 0
Keys = List (List ℕ)

-- The cache with these keys.
abbrev with_keys : CachedUnits → Keys → CachedUnits
with_keys cache keys = record { show = cache.show; keeps = cache.keeps; held = cache.held; keys = keys }

-- No unit was judged.
pub judged_none : (cache : CachedUnits) → cache ≡ with_judged cache []
judged_none cache = ap (with_keys cache) (sym (append-nil cache.keys))

-- Caches with the same parts are one.
pub same_units : (a b : CachedUnits) → a.show ≡ b.show → a.keeps ≡ b.keeps → a.held ≡ b.held → a.keys ≡ b.keys → a ≡ b
same_units a b show keeps held its =
    ap (λ (s : Bool). record { show = s; keeps = a.keeps; held = a.held; keys = a.keys }) show
    ∙ ap (λ (k : Bool). record { show = b.show; keeps = k; held = a.held; keys = a.keys }) keeps
    ∙ ap (λ (h : Source). record { show = b.show; keeps = b.keeps; held = h; keys = a.keys }) held
    ∙ ap (with_keys b) its

-- Of no unit nothing is asked.
none_asked : (held : Source) → asked_from held [] ≡ []
none_asked (OfCache entries) = refl
none_asked (OfProof entries) = refl

pub asks_for_none : {X E : Type 0} (cache : CachedUnits) (r : Result X E) (old new : Keys) → new ≡ old → Asks (asked_for cache []) r old new
asks_for_none cache r old new same = subst (λ (keys : Keys). Asks keys r old new) (sym (none_asked cache.held)) (asks_none r old new same)

module _ (old mid : CachedUnits) (first : Keys) (is : mid ≡ with_judged old first) where
  keys_are : mid.keys ≡ old.keys ++ unseen old.keys first
  keys_are = ap (λ (cache : CachedUnits). cache.keys) is

  -- Some units were judged, and then others.
  pub judged_more : (later : Keys) (new : CachedUnits) → new ≡ with_judged mid later → new ≡ with_judged old (first ++ later)
  judged_more later new then =
      then ∙ ap (λ (cache : CachedUnits). with_judged cache later) is
      ∙ ap (with_keys old) (judged_then old.keys (old.keys ++ unseen old.keys first) _ first later refl refl)

  -- The entries of its file are those from before.
  abbrev asked_after : Keys → Keys
  asked_after later = asked_for (with_judged old first) later

  same_asked : (later : Keys) → asked_for mid later ≡ asked_after later
  same_asked later = ap (λ (cache : CachedUnits). asked_for cache later) is

  pub asked_more : (later before asked new : Keys) → asked ≡ before ++ asked_for old first → new ≡ asked ++ asked_for mid later → new ≡ before ++ asked_for old (first ++ later)
  asked_more later before asked new so_far then =
      asked_then old.held old.keys (old.keys ++ unseen old.keys first) first later before asked new refl so_far (then ∙ ap (λ (l : Keys). asked ++ l) (same_asked later))

  -- A prefix of what is asked for the others, once all was asked for the first.
  pub prefix_later : (later before asked new : Keys) → asked ≡ before ++ asked_for old first → AsksPrefix (asked_for mid later) asked new
      → AsksPrefix (asked_for old (first ++ later)) before new
  prefix_later later before asked new so_far prefix =
      prefix_then old.held old.keys (old.keys ++ unseen old.keys first) first later before asked new refl so_far
      (subst (λ (l : Keys). AsksPrefix l asked new) (same_asked later) prefix)

  pub asks_later : {X E : Type 0} (later before asked new : Keys) (r : Result X E) → asked ≡ before ++ asked_for old first → Asks (asked_for mid later) r asked new
      → Asks (asked_for old (first ++ later)) r before new
  asks_later later before asked new r so_far asks =
      asks_then old.held old.keys (old.keys ++ unseen old.keys first) first later before asked new r refl so_far
      (subst (λ (l : Keys). Asks l r asked new) (same_asked later) asks)

-- A prefix of what is asked for the first is one of what is asked for all.
pub prefix_of_first : (cache : CachedUnits) (first later before new : Keys) → AsksPrefix (asked_for cache first) before new → AsksPrefix (asked_for cache (first ++ later)) before new
prefix_of_first cache first later before new prefix = prefix_first cache.held cache.keys first later before new prefix

-- ---- no cache file

-- No unit was judged, and there is no cache file.
abbrev pub alone : Bool → CachedUnits
alone show = record { show = show; keeps = false; held = OfCache []; keys = [] }

pub alone_units : (cache : CachedUnits) (show : Bool) → cache.show ≡ show → cache.keeps ≡ false → cache.held ≡ OfCache [] → cache.keys ≡ [] → cache ≡ alone show
alone_units cache show shows keeps held keys = same_units cache (alone show) shows keeps held keys

-- All keys are without an entry.
pub without_none : (keys : Keys) → without_entry [] keys ≡ keys
without_none [] = refl
without_none (key ∷ keys) = ap (λ (l : Keys). key ∷ l) (without_none keys)

-- A finder is asked for each unit.
pub asks_alone : {X E : Type 0} (cache : CachedUnits) (show : Bool) (keys : Keys) (r : Result X E) (old new : Keys) → cache ≡ alone show → Asks (asked_for cache keys) r old new
    → Asks (distinct keys) r old new
asks_alone cache show keys r old new is asks =
    subst (λ (l : Keys). Asks l r old new) (ap (λ (c : CachedUnits). asked_for c keys) is ∙ without_none (distinct keys)) asks

-- ---- a proof file

-- Over the entries of a proof file nothing is asked.
pub asks_by_proof : {X E : Type 0} (cache : CachedUnits) (entries : List ProofEntry) (keys : Keys) (r : Result X E) (old new : Keys) → cache.held ≡ OfProof entries
    → Asks (asked_for cache keys) r old new → new ≡ old
asks_by_proof cache entries keys r old new is asks =
    by (subst (λ (l : Keys). AsksPrefix l old new) (ap (λ (held : Source). asked_from held (unseen cache.keys keys)) is) asks.prefix)
  where
    by : AsksPrefix [] old new → new ≡ old
    by ([], (rest, whole), is) = is ∙ append-nil old
    by (key ∷ prefix, (rest, whole), is) = absurd cc
