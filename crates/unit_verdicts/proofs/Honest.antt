-- Over an honest cache file units are judged as without one.
use Rattle.std.proofs.Common.{◌≡◌, ℕ, Bool, true, false, List, [], ◌∷◌, cond, Option, None, Some, refl, sym, ap, subst, ◌∙◌}
use Rattle.std.specs.Prelude.{unwrap_or}
use Rattle.std.specs.Str.{bytes_eq}
use Rattle.std.proofs.lemmas.Slice.Eq.{bytes_eq-Decides}
use Rattle.cil_model.specs.declared.unit.Unit.{Unit as MethodUnit}
use Rattle.invariant_checker.specs.Verdicts.{verdicts}
use Rattle.method_unit.specs.UnitFile.{unit_of}
use Rattle.method_unit.specs.Units.{IsUnit}
use Rattle.method_unit.proofs.UnitAgain.{unit_again}
use Rattle.result_cache.proofs.Again.{file_again}
use Rattle.result_cache.specs.CacheFile.{entries_of, entries_standing, first_cache_fault}
use Rattle.result_cache.specs.Entries.{Entry, invariant_of}
use Rattle.result_cache.specs.FirstForm.{entries_told}
use Rattle.state_facts.specs.StateFacts.{State}
use Rattle.unit_flow.specs.FlowOf.{flow_of}
use Rattle.unit_form.specs.Spelling.{unit_bytes}
use Rattle.result_cache.specs.declared.cache_form.CacheForm.{CacheForm}
use Rattle.result_cache.specs.declared.cache_form.CacheForm.TheVariants.{Second}
use Rattle.unit_verdicts.specs.CacheFile.{AreHonest, IsHonest, IsHonestFile, invariant_used, limit_bytes}
use Rattle.unit_verdicts.specs.Keys.{IsKey}
use Rattle.unit_verdicts.specs.Picks.{Pick, held_or_limit, limit_manner, limit_pick, pick_of, shown_text, states_in, states_text, verdicts_under}
use Rattle.unit_verdicts.specs.VerdictCache.{manner_under}
use Rattle.unit_verdicts.specs.declared.source.Source.TheVariants.{Cache as OfCache}

-- ---- what is held

-- What an honest file holds for the bytes of a unit is what a finder answers of it.
found_honest : (entries : List Entry) (unit : MethodUnit) (bytes : List ℕ) → AreHonest entries → IsUnit unit
    → invariant_of entries (unit_bytes unit) ≡ Some bytes → states_in bytes ≡ limit_pick unit
found_honest [] unit bytes honest is there = absurd cc
found_honest (e ∷ es) unit bytes honest is there = by (bytes_eq (unit_bytes unit) e.0) refl there (found_honest es unit bytes honest.1 is)
  where
    by : (same : Bool) → bytes_eq (unit_bytes unit) e.0 ≡ same
        → cond same (Some e.1) (invariant_of es (unit_bytes unit)) ≡ Some bytes
        → (invariant_of es (unit_bytes unit) ≡ Some bytes → states_in bytes ≡ limit_pick unit)
        → states_in bytes ≡ limit_pick unit
    by true same there later =
        let its : e.1 ≡ bytes = cc in
        let one = honest.0 in
        let keys : unit_bytes unit ≡ unit_bytes one.unit = (bytes_eq-Decides (unit_bytes unit) e.0).0 same ∙ one.key in
        let units : one.unit ≡ unit = sym (unit_again one.unit one.is_unit).1 ∙ ap unit_of (sym keys)
        ∙ (unit_again unit is).1 in
        ap states_in (sym its) ∙ one.states ∙ ap limit_pick units
    by false same there later = later there

-- ---- picks

pub honest_pick : (entries : List Entry) (unit : MethodUnit) → AreHonest entries → IsUnit unit
    → pick_of entries unit ≡ limit_pick unit
honest_pick entries unit honest is = by (invariant_of entries (unit_bytes unit)) refl
  where
    by : (found : Option (List ℕ)) → invariant_of entries (unit_bytes unit) ≡ found
        → held_or_limit found unit ≡ limit_pick unit
    by None there = refl
    by (Some bytes) there = found_honest entries unit bytes honest is there

-- Two picks that are one at a unit give the same verdicts on it, and show the same.
pub picked_verdicts : (a b : Pick) (unit : MethodUnit) → a unit ≡ b unit → verdicts_under a unit ≡ verdicts_under b unit
unfolding verdicts_under
picked_verdicts a b unit same = ap (verdicts (flow_of unit)) same

pub picked_text : (show : Bool) (a b : Pick) (unit : MethodUnit) → a unit ≡ b unit
    → shown_text (record { show = show; pick = a }) unit ≡ shown_text (record { show = show; pick = b }) unit
unfolding shown_text
picked_text show a b unit same = ap (λ (states : List State). cond show (states_text (flow_of unit) states) []) same

pub honest_verdicts : (entries : List Entry) (unit : MethodUnit) → AreHonest entries → IsUnit unit
    → verdicts_under (pick_of entries) unit ≡ verdicts_under limit_pick unit
honest_verdicts entries unit honest is = picked_verdicts (pick_of entries) limit_pick unit (honest_pick entries unit honest is)

pub honest_text : (show : Bool) (entries : List Entry) (unit : MethodUnit) → AreHonest entries → IsUnit unit
    → shown_text (manner_under show (OfCache entries)) unit ≡ shown_text (limit_manner show) unit
honest_text show entries unit honest is = picked_text show (pick_of entries) limit_pick unit (honest_pick entries unit honest is)

-- ---- entries and files

-- What is used of an honest file for a key is honest.
pub used_honest : (held : List Entry) (key : List ℕ) → AreHonest held → IsKey key
    → (invariant_of held key ≡ None → states_in (limit_bytes (unit_of key)) ≡ limit_pick (unit_of key))
    → IsHonest (key, invariant_used held key)
used_honest held key honest is limit = record {
  unit = unit_of key;
  is_unit = is.is_unit;
  key = sym is.spelled;
  states = by (invariant_of held key) refl;
}
  where
    by : (found : Option (List ℕ)) → invariant_of held key ≡ found
        → states_in (unwrap_or found (limit_bytes (unit_of key))) ≡ limit_pick (unit_of key)
    by None there = limit there
    by (Some bytes) there = found_honest held (unit_of key) bytes honest is.is_unit (ap (invariant_of held) is.spelled ∙ there)

-- An honest file is read, and its entries are honest.
pub record IsReadHonest (bytes : List ℕ) : Type 0 where
  pub passed : first_cache_fault bytes ≡ None
  pub honest : AreHonest (entries_of bytes)

pub honest_file : (bytes : List ℕ) → IsHonestFile bytes → IsReadHonest bytes
unfolding entries_of
honest_file bytes is =
    let again = file_again Second is.entries bytes is.file in
    let standing : AreHonest (entries_standing bytes) = subst AreHonest (sym again.value) is.honest in
    record {
      passed = again.passed;
      honest = subst (λ (form : CacheForm). AreHonest (entries_told form (entries_standing bytes))) (sym again.form_is) standing;
    }
