-- The entries that a proof file has of units and their invariants as bytes.
use Rattle.std.proofs.Common.{◌≡◌, ℕ, Bool, true, false, ◌||◌, List, [], ◌∷◌, ◌++◌, cond, Option, Some, None, Result, Ok, Err, refl, sym, ap, ap₂, subst, ◌∙◌}
use Rattle.std.specs.Prelude.{◌↔◌, IsTrue, OnOk, option_to_list}
use Rattle.std.specs.List.{AllByRecursion, cons_option}
use Rattle.std.specs.Str.{bytes_eq}
use Rattle.std.proofs.lemmas.Bool.{false≢true}
use Rattle.std.proofs.lemmas.List.Elements.{filter_map-append}
use Rattle.std.proofs.lemmas.List.Folds.{list_any-append}
use Rattle.invariant_checker.specs.Inducts.{has_shape}
use Rattle.invariant_codec.specs.Spellable.{AreSpellable}
use Rattle.method_unit.specs.UnitFile.{unit_of}
use Rattle.method_unit.specs.Units.{IsUnit}
use Rattle.proof_files.specs.Proofs.{AreEntries, AreEntriesBehind, Entry, IsEntry, is_among}
use Rattle.result_cache.specs.Entries.{Entry as CacheEntry}
use Rattle.state_facts.specs.StateFacts.{State}
use Rattle.transfer_rules.specs.Inductive.{HasShape}
use Rattle.unit_flow.specs.FlowOf.{flow_of}
use Rattle.unit_flow.specs.declared.unit_flow.UnitFlow.{UnitFlow}
use Rattle.unit_verdicts.specs.CacheFile.{entries_used, invariant_used}
use Rattle.unit_verdicts.specs.Keys.{IsKey}
use Rattle.unit_verdicts.specs.Picks.{Pick, entries_in, pick_from, pick_of, states_in}
use Rattle.unit_verdicts.specs.ProofLeft.{proof_entries, proof_entry, spelled_entries, spelled_entry}
use Rattle.unit_verdicts.specs.VerdictCache.{AreNew, IsCached, IsHeldFor, JudgedEntry, keys_in}
use Rattle.unit_verdicts.specs.declared.source.Source.{Source}
use Rattle.unit_verdicts.specs.declared.source.Source.TheVariants.{Cache as OfCache, Proof as OfProof}
use Rattle.unit_verdicts.proofs.Printable.{all_ordered, of_blocks}
use Rattle.unit_verdicts.proofs.UnitShapes.{shape_is}
use Rattle.unit_verdicts.proofs.UsedBytes.{used_states}

-- ---- one of them

-- The entry of a unit with these states.
abbrev entry_of : UnitFlow → List State → Entry
entry_of code states = record { unit = code.unit; states = states }

module _ (key bytes : List ℕ) (code : UnitFlow) (states : List State) (test : Bool) (flow : code ≡ flow_of (unit_of key))
    (are : states ≡ states_in bytes) (exact : IsTrue test ↔ HasShape code states) where
  by_test : spelled_entry (key, bytes) ≡ cond test (Some (entry_of code states)) None
  by_test =
      let shape : has_shape (flow_of (unit_of key)) (states_in bytes) ≡ test =
      ap₂ has_shape (sym flow) (sym are) ∙ sym (shape_is code states test exact) in
      ap (λ (b : Bool). cond b (Some (record { unit = unit_of key; states = states_in bytes })) None) shape
      ∙ ap₂ (λ (c : UnitFlow) (s : List State). cond test (Some (entry_of c s)) None) (sym flow) (sym are)

  pub spelled_none : test ≡ false → spelled_entry (key, bytes) ≡ None
  spelled_none fails = by_test ∙ ap (λ (b : Bool). cond b (Some (entry_of code states)) None) fails

  pub spelled_some : test ≡ true → spelled_entry (key, bytes) ≡ Some (entry_of code states)
  spelled_some passes = by_test ∙ ap (λ (b : Bool). cond b (Some (entry_of code states)) None) passes

  pub spelled_is : IsUnit code.unit → AreSpellable states → test ≡ true
      → AllByRecursion IsEntry (option_to_list (spelled_entry (key, bytes)))
  spelled_is is short passes =
      let own : code ≡ flow_of code.unit = flow ∙ ap flow_of (sym (ap (λ (c : UnitFlow). c.unit) flow)) in
      let shape : HasShape code states = exact.0 (subst IsTrue (sym passes) refl) in
      let its : IsEntry (entry_of code states) = record {
        is_unit = is;
        shape = subst (λ (c : UnitFlow). HasShape c states) own shape;
        printable = of_blocks (flow_of code.unit) states (subst (λ (c : UnitFlow). HasShape c states) own shape) short;
        ordered = all_ordered states short.each;
      } in
      subst (λ (o : Option Entry). AllByRecursion IsEntry (option_to_list o)) (sym (spelled_some passes)) (its, tt)

-- What is so whatever a call answers.
pub on_any : {X E : Type 0} (P : Type 0) (r : Result X E) → P → OnOk r P
on_any P (Ok x) is = is
on_any P (Err e) is = tt

-- ---- one after another

all_append : (prefix back : List Entry) → AllByRecursion IsEntry prefix → AllByRecursion IsEntry back
    → AllByRecursion IsEntry (prefix ++ back)
all_append [] back all more = more
all_append (e ∷ prefix) back all more = (all.0, all_append prefix back all.1 more)

as_list : (o : Option Entry) → cons_option o [] ≡ option_to_list o
as_list None = refl
as_list (Some e) = refl

module _ (before : List CacheEntry) (next : List CacheEntry) (e : CacheEntry) (is : next ≡ before ++ e ∷ []) where
  pub spelled_next : spelled_entries next ≡ spelled_entries before ++ option_to_list (spelled_entry e)
  spelled_next =
      ap spelled_entries is ∙ filter_map-append spelled_entry before (e ∷ [])
      ∙ ap (λ (es : List Entry). spelled_entries before ++ es) (as_list (spelled_entry e))

  pub entries_next : AllByRecursion IsEntry (spelled_entries before) → AllByRecursion IsEntry (option_to_list (spelled_entry e))
      → AllByRecursion IsEntry (spelled_entries next)
  entries_next all its = subst (AllByRecursion IsEntry) (sym spelled_next) (all_append (spelled_entries before) (option_to_list (spelled_entry e)) all its)

-- ---- those of the units that were judged

used_entry : (pick : Pick) (key bytes : List ℕ) → states_in bytes ≡ pick (unit_of key)
    → spelled_entry (key, bytes) ≡ proof_entry pick (unit_of key)
used_entry pick key bytes same =
    ap (λ (states : List State). cond (has_shape (flow_of (unit_of key)) states) (Some (record { unit = unit_of key; states = states })) None) same

used_entries : (show : Bool) (held : List CacheEntry) (entries : List JudgedEntry)
    → AllByRecursion (λ entry. IsCached show true (OfCache held) entry.0.items entry.1) entries
    → spelled_entries (entries_used held (keys_in entries)) ≡ proof_entries (OfCache held) (keys_in entries)
used_entries show held [] all = refl
used_entries show held (entry ∷ entries) all =
    let key = entry.0.items in
    ap₂ cons_option (used_entry (pick_of held) key (invariant_used held key) (used_states show true held key entry.1 all.0 refl))
    (used_entries show held entries all.1)

pub left_entries : (show : Bool) (held : Source) (entries : List JudgedEntry) → IsHeldFor true held
    → AllByRecursion (λ entry. IsCached show true held entry.0.items entry.1) entries
    → spelled_entries (entries_used (entries_in held) (keys_in entries)) ≡ proof_entries held (keys_in entries)
left_entries show (OfCache held) entries held_for all = used_entries show held entries all
left_entries show (OfProof proved) entries held_for all = absurd (false≢true (sym held_for))

-- ---- each of another unit

neither : (a b : Bool) → (a || b) ≡ false → (a ≡ false) × (b ≡ false)
neither true b is = absurd cc
neither false b is = (refl, is)

-- What is none of these keys is none of those.
abbrev Within : List (List ℕ) → List (List ℕ) → Type 0
Within before seen = (key : List ℕ) → is_among seen key ≡ false → is_among before key ≡ false

within_more : (before seen : List (List ℕ)) (key : List ℕ) → Within before seen → Within before (seen ++ key ∷ [])
within_more before seen key within other none =
    within other (neither (is_among seen other) (is_among (key ∷ []) other) (sym (list_any-append (bytes_eq other) seen (key ∷ [])) ∙ none)).0

within_both : (before seen : List (List ℕ)) (key : List ℕ) → Within before seen → Within (before ++ key ∷ []) (seen ++ key ∷ [])
within_both before seen key within other none =
    let parts = neither (is_among seen other) (is_among (key ∷ []) other) (sym (list_any-append (bytes_eq other) seen (key ∷ [])) ∙ none) in
    list_any-append (bytes_eq other) before (key ∷ []) ∙ rw (within other parts.0, parts.1) refl

apart_entries : (held : Source) (before seen keys : List (List ℕ)) → Within before seen → AreNew seen keys
    → AllByRecursion IsKey keys → AllByRecursion IsEntry (proof_entries held keys)
    → AreEntriesBehind before (proof_entries held keys)
apart_entries held before seen [] within new all entries = tt
apart_entries held before seen (key ∷ keys) within new all entries =
    by (has_shape (flow_of (unit_of key)) (pick_from held (unit_of key)))
    entries
    (λ others. apart_entries held (before ++ key ∷ []) (seen ++ key ∷ []) keys (within_both before seen key within) new.1 all.1 others)
    (λ others. apart_entries held before (seen ++ key ∷ []) keys (within_more before seen key within) new.1 all.1 others)
  where
    its : Entry
    its = record { unit = unit_of key; states = pick_from held (unit_of key) }

    by : (shaped : Bool)
        → AllByRecursion IsEntry (cons_option (cond shaped (Some its) None) (proof_entries held keys))
        → (AllByRecursion IsEntry (proof_entries held keys) → AreEntriesBehind (before ++ key ∷ []) (proof_entries held keys))
        → (AllByRecursion IsEntry (proof_entries held keys) → AreEntriesBehind before (proof_entries held keys))
        → AreEntriesBehind before (cons_option (cond shaped (Some its) None) (proof_entries held keys))
    by true entries behind others = (
      record { entry = entries.0; new = ap (is_among before) all.0.spelled ∙ within key new.0 },
      subst (λ (k : List ℕ). AreEntriesBehind (before ++ k ∷ []) (proof_entries held keys)) (sym all.0.spelled) (behind entries.1),
    )
    by false entries behind others = others entries

pub left_apart : (held : Source) (keys : List (List ℕ)) → AreNew [] keys → AllByRecursion IsKey keys
    → AllByRecursion IsEntry (proof_entries held keys) → AreEntries (proof_entries held keys)
left_apart held keys new all entries = apart_entries held [] [] keys (λ key none. refl) new all entries
