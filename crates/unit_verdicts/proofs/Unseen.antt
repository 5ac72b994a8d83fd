-- The keys of one method after another, each once, and those for which a finder is asked.
use Rattle.std.proofs.Common.{◌≡◌, ℕ, Bool, true, false, List, [], ◌∷◌, ◌++◌, Option, Some, None, Result, Ok, Err, if◌then◌else◌, refl, sym, ap, subst, ◌∙◌, append_assoc, append-nil}
use Rattle.std.specs.Prelude.{is_some, not}
use Rattle.std.proofs.lemmas.List.Elements.{filter-append}
use Rattle.result_cache.specs.Entries.{Entry, invariant_of, is_among, keys_of}
use Rattle.result_cache.proofs.EntryLemmas.{found_among}
use Rattle.unit_verdicts.specs.Asked.{Asks, AsksPrefix, asked_from, unseen, without_entry}
use Rattle.unit_verdicts.specs.declared.source.Source.{Source}
use Rattle.unit_verdicts.specs.declared.source.Source.TheVariants.{Cache as OfCache, Proof as OfProof}
use Rattle.unit_verdicts.proofs.Asking.{asks_all, prefix_behind, prefix_more}

abbrev Keys : Type 0
Keys = List (List ℕ)

-- ---- unseen keys

-- What a key and these after it bring, where it is among those that were seen or not.
abbrev brought_by : Keys → List ℕ → Bool → Keys → Keys
brought_by seen key among keys = if among then unseen seen keys else key ∷ unseen (seen ++ key ∷ []) keys

-- Of keys after others those are unseen that are so after what the others bring.
pub unseen_behind : (seen a b : Keys) → unseen seen (a ++ b) ≡ unseen seen a ++ unseen (seen ++ unseen seen a) b
unseen_behind seen [] b = ap (λ (s : Keys). unseen s b) (sym (append-nil seen))
unseen_behind seen (key ∷ a) b = by_test (is_among seen key) (unseen_behind seen a b) (unseen_behind (seen ++ key ∷ []) a b)
  where
    by_test : (among : Bool) → unseen seen (a ++ b) ≡ unseen seen a ++ unseen (seen ++ unseen seen a) b
        → unseen (seen ++ key ∷ []) (a ++ b) ≡ unseen (seen ++ key ∷ []) a ++ unseen ((seen ++ key ∷ []) ++ unseen (seen ++ key ∷ []) a) b
        → brought_by seen key among (a ++ b) ≡ brought_by seen key among a ++ unseen (seen ++ brought_by seen key among a) b
    by_test true old new = old
    by_test false old new =
        let later = unseen (seen ++ key ∷ []) a in
        ap (λ (l : Keys). key ∷ l) (new ∙ ap (λ (s : Keys). later ++ unseen s b) (append_assoc seen (key ∷ []) later))

-- ---- those without an entry

pub without_behind : (entries : List Entry) (a b : Keys)
    → without_entry entries (a ++ b) ≡ without_entry entries a ++ without_entry entries b
without_behind entries a b = filter-append (λ key. not (is_among (keys_of entries) key)) a b

among_if_held : (entries : List Entry) (key : List ℕ) (found : Option (List ℕ)) → found ≡ invariant_of entries key
    → is_some found ≡ is_among (keys_of entries) key
among_if_held entries key found is = ap is_some is ∙ found_among entries key

-- A key that has one is not asked for, and one that has none is.
pub without_held : (entries : List Entry) (key bytes : List ℕ) → Some bytes ≡ invariant_of entries key
    → without_entry entries (key ∷ []) ≡ []
without_held entries key bytes is = ap (λ (among : Bool). if not among then key ∷ [] else []) (sym (among_if_held entries key (Some bytes) is))

pub without_new : (entries : List Entry) (key : List ℕ) → None ≡ invariant_of entries key
    → without_entry entries (key ∷ []) ≡ key ∷ []
without_new entries key is = ap (λ (among : Bool). if not among then key ∷ [] else []) (sym (among_if_held entries key None is))

-- ---- those for which a finder is asked

pub asked_behind : (held : Source) (a b : Keys) → asked_from held (a ++ b) ≡ asked_from held a ++ asked_from held b
asked_behind (OfCache entries) a b = without_behind entries a b
asked_behind (OfProof entries) a b = refl

-- Nothing is asked for no keys.
pub asked_none : (held : Source) → asked_from held [] ≡ []
asked_none (OfCache entries) = refl
asked_none (OfProof entries) = refl

-- What is to be asked for some keys, where others were seen.
abbrev pub new_keys : Source → Keys → Keys → Keys
new_keys held seen keys = asked_from held (unseen seen keys)

-- What is to be asked for keys after others is so after what the others bring.
pub new_behind : (held : Source) (seen judged a b : Keys) → judged ≡ seen ++ unseen seen a
    → new_keys held seen (a ++ b) ≡ new_keys held seen a ++ new_keys held judged b
new_behind held seen judged a b brought =
    ap (asked_from held) (unseen_behind seen a b)
    ∙ asked_behind held (unseen seen a) (unseen (seen ++ unseen seen a) b)
    ∙ ap (λ (s : Keys). new_keys held seen a ++ new_keys held s b) (sym brought)

-- What was judged, some keys later.
pub judged_then : (seen judged new a b : Keys) → judged ≡ seen ++ unseen seen a → new ≡ judged ++ unseen judged b
    → new ≡ seen ++ unseen seen (a ++ b)
judged_then seen judged new a b brought is =
    is ∙ ap (λ (s : Keys). s ++ unseen s b) brought
    ∙ append_assoc seen (unseen seen a) (unseen (seen ++ unseen seen a) b)
    ∙ ap (λ (l : Keys). seen ++ l) (sym (unseen_behind seen a b))

-- ---- what was asked for keys, and then for others

pub prefix_first : (held : Source) (seen a b old new : Keys) → AsksPrefix (new_keys held seen a) old new
    → AsksPrefix (new_keys held seen (a ++ b)) old new
prefix_first held seen a b old new prefix =
    let judged = seen ++ unseen seen a in
    subst (λ (keys : Keys). AsksPrefix keys old new) (sym (new_behind held seen judged a b refl))
    (prefix_more (new_keys held seen a) (new_keys held judged b) old new prefix)

pub prefix_then : (held : Source) (seen judged a b old mid new : Keys) → judged ≡ seen ++ unseen seen a
    → mid ≡ old ++ new_keys held seen a
    → AsksPrefix (new_keys held judged b) mid new → AsksPrefix (new_keys held seen (a ++ b)) old new
prefix_then held seen judged a b old mid new brought asked prefix =
    subst (λ (keys : Keys). AsksPrefix keys old new) (sym (new_behind held seen judged a b brought))
    (prefix_behind (new_keys held seen a) (new_keys held judged b) old mid new asked prefix)

pub asked_then : (held : Source) (seen judged a b old mid new : Keys) → judged ≡ seen ++ unseen seen a
    → mid ≡ old ++ new_keys held seen a
    → new ≡ mid ++ new_keys held judged b → new ≡ old ++ new_keys held seen (a ++ b)
asked_then held seen judged a b old mid new brought asked more =
    more ∙ ap (λ (l : Keys). l ++ new_keys held judged b) asked
    ∙ append_assoc old (new_keys held seen a) (new_keys held judged b)
    ∙ ap (λ (l : Keys). old ++ l) (sym (new_behind held seen judged a b brought))

pub asks_then : {X E : Type 0} (held : Source) (seen judged a b old mid new : Keys) (r : Result X E)
    → judged ≡ seen ++ unseen seen a
    → mid ≡ old ++ new_keys held seen a → Asks (new_keys held judged b) r mid new
    → Asks (new_keys held seen (a ++ b)) r old new
asks_then held seen judged a b old mid new (Ok x) brought asked asks =
    asks_all (new_keys held seen (a ++ b)) (Ok x) old new (asked_then held seen judged a b old mid new brought asked asks.whole)
asks_then held seen judged a b old mid new (Err e) brought asked asks =
    record { prefix = prefix_then held seen judged a b old mid new brought asked asks.prefix; whole = tt }
