-- The map that holds what a proof file states of units.
use Rattle.std.proofs.Common.{◌≡◌, ℕ, Bool, true, false, List, [], ◌∷◌, ◌++◌, map, cond, Option, None, Some, Bor, Vec, Global, length, refl, sym, ap, ap₂, subst, ◌∙◌, append_assoc, arith}
use Rattle.std.specs.Prelude.{option_copied}
use Rattle.std.specs.Option.{option_map_or}
use Rattle.std.specs.Map.{lookup}
use Rattle.std.specs.Str.{bytes_eq}
use Rattle.std.proofs.lemmas.List.{map-append}
use Rattle.cil_model.specs.declared.unit.Unit.{Unit as MethodUnit}
use Rattle.method_unit.specs.Units.{IsUnit}
use Rattle.proof_files.specs.Held.{entries_told, told}
use Rattle.proof_files.specs.Proofs.{AreEntriesBehind, Entry, IsNewEntry, is_among, key_of, keys_of}
use Rattle.proof_files.specs.declared.proof_entry.ProofEntry.{ProofEntry}
use Rattle.state_facts.specs.StateFacts.{State}
use Rattle.abs_state.specs.declared.invariant.Invariant.{Invariant}
use Rattle.unit_form.specs.Spelling.{unit_bytes}
use Rattle.unit_verdicts.specs.Keys.{IsKey}
use Rattle.unit_verdicts.specs.ProvedUnits.{AreKeyed, StatedUnit, unit_stated, units_stated, states_for}
use Rattle.unit_verdicts.proofs.CacheLemmas.{inserted, inserted_last}
use Rattle.unit_verdicts.proofs.FoundOf.{is_key, unit_told}

-- ---- what is found

abbrev states_or : Option Invariant → List State
states_or None = []
states_or (Some invariant) = invariant.states.items

stated_for : (key : List ℕ) (entries : List StatedUnit) → AreKeyed entries
    → states_or (lookup (λ other. bytes_eq key other.items) entries) ≡ states_for (units_stated entries) key
stated_for key [] all = refl
stated_for key (entry ∷ entries) all =
    by (bytes_eq key entry.0.items) (stated_for key entries all.1)
    ∙ ap (λ (its : List ℕ). cond (bytes_eq key its) entry.1.states.items (states_for (units_stated entries) key)) (sym all.0.spelled)
  where
    by : (same : Bool) → states_or (lookup (λ other. bytes_eq key other.items) entries) ≡ states_for (units_stated entries) key
        → states_or (cond same (Some entry.1) (lookup (λ other. bytes_eq key other.items) entries))
        ≡ cond same entry.1.states.items (states_for (units_stated entries) key)
    by true later = refl
    by false later = later

pub got_for : (key : List ℕ) (entries : List StatedUnit) (got : Option (Bor Invariant)) → AreKeyed entries
    → option_copied got ≡ lookup (λ other. bytes_eq key other.items) entries
    → option_map_or (λ found. found.now.states.items) got [] ≡ states_for (units_stated entries) key
got_for key entries got all is = borrowed got ∙ ap states_or is ∙ stated_for key entries all
  where
    borrowed : (got : Option (Bor Invariant)) → option_map_or (λ found. found.now.states.items) got [] ≡ states_or (option_copied got)
    borrowed None = refl
    borrowed (Some found) = refl

-- ---- what is added

keys_stated : (entries : List StatedUnit) → AreKeyed entries
    → map (λ (entry : StatedUnit). entry.0.items) entries ≡ keys_of (units_stated entries)
keys_stated [] all = refl
keys_stated (entry ∷ entries) all = ap₂ (λ (key : List ℕ) (keys : List (List ℕ)). key ∷ keys) (sym all.0.spelled) (keys_stated entries all.1)

keyed_push : (entries : List StatedUnit) (one : StatedUnit) → AreKeyed entries → IsKey one.0.items → AreKeyed (entries ++ one ∷ [])
keyed_push [] one all its = (its, tt)
keyed_push (entry ∷ entries) one all its = (all.0, keyed_push entries one all.1 its)

module _ (old new : List StatedUnit) (key : Vec ℕ Global) (invariant : Invariant) (unit : MethodUnit) (all : AreKeyed old)
    (is : IsUnit unit) (spelled : key.items ≡ unit_bytes unit)
    (absent : is_among (keys_of (units_stated old)) (unit_bytes unit) ≡ false)
    (put : new ≡ inserted old key invariant) where
  last : new ≡ old ++ (key, invariant) ∷ []
  last =
      let none : is_among (map (λ (entry : StatedUnit). entry.0.items) old) key.items ≡ false =
      ap₂ is_among (keys_stated old all) spelled ∙ absent in
      put ∙ inserted_last old key invariant none

  pub keyed_more : AreKeyed new
  keyed_more = subst AreKeyed (sym last) (keyed_push old (key, invariant) all (is_key unit key.items is spelled))

  pub stated_more : units_stated new ≡ units_stated old ++ (record { unit = unit; states = invariant.states.items }) ∷ []
  stated_more =
      ap units_stated last ∙ map-append unit_stated old ((key, invariant) ∷ [])
      ∙ ap (λ (u : MethodUnit). units_stated old ++ (record { unit = u; states = invariant.states.items }) ∷ []) (unit_told unit key.items is spelled)

-- ---- all of them, one after another

pub none_left : {X : Type 0} (left : List X) → length left ≡ 0 → left ≡ []
none_left [] none = refl
none_left (x ∷ left) none = absurd (omega arith)

pub taken_next : (units new : List Entry) (items rest : List ProofEntry) (e : ProofEntry) → items ≡ e ∷ rest → (all : List Entry)
    → units ++ entries_told items ≡ all → new ≡ units ++ told e ∷ [] → new ++ entries_told rest ≡ all
taken_next units new items rest e next all so_far is =
    ap (λ (es : List Entry). es ++ entries_told rest) is ∙ append_assoc units (told e ∷ []) (entries_told rest)
    ∙ ap (λ (es : List ProofEntry). units ++ entries_told es) (sym next) ∙ so_far

module _ (units : List Entry) where
  behind : (items rest : List ProofEntry) (e : ProofEntry) → items ≡ e ∷ rest → AreEntriesBehind (keys_of units) (entries_told items)
      → AreEntriesBehind (keys_of units) (told e ∷ entries_told rest)
  behind items rest e next are = subst (λ (es : List ProofEntry). AreEntriesBehind (keys_of units) (entries_told es)) next are

  pub entry_next : (items rest : List ProofEntry) (e : ProofEntry) → items ≡ e ∷ rest → AreEntriesBehind (keys_of units) (entries_told items)
      → IsNewEntry (keys_of units) (told e)
  entry_next items rest e next are = (behind items rest e next are).0

  pub behind_next : (new : List Entry) (items rest : List ProofEntry) (e : ProofEntry) → items ≡ e ∷ rest
      → AreEntriesBehind (keys_of units) (entries_told items) → new ≡ units ++ told e ∷ []
      → AreEntriesBehind (keys_of new) (entries_told rest)
  behind_next new items rest e next are is =
      subst (λ (keys : List (List ℕ)). AreEntriesBehind keys (entries_told rest)) (sym (ap keys_of is ∙ map-append key_of units (told e ∷ [])))
      (behind items rest e next are).1
