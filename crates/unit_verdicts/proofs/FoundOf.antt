-- What is found of a unit under what the finder answers, or a cache file holds, is told by the unit and its manner
-- alone.
use Rattle.std.proofs.Common.{◌≡◌, ℕ, Bool, true, false, List, [], ◌∷◌, map, Option, Some, None, Result, Ok, Err, Vec, Global, if◌then◌else◌, refl, ap, ap₂, ◌∙◌, subst, sym}
use Rattle.std.specs.Prelude.{IfOk, unwrap_or}
use Rattle.std.proofs.lemmas.Bool.{false≢true}
use Rattle.std.proofs.lemmas.Option.{none-some}
use Rattle.abs_state.specs.StateParts.{parts_of}
use Rattle.cil_model.specs.declared.unit.Unit.{Unit as MethodUnit}
use Rattle.invariant_checker.specs.Verdicts.{verdicts}
use Rattle.invariant_codec.specs.Invariants.{IsInvariant}
use Rattle.invariant_codec.specs.Spelling.{states_bytes}
use Rattle.invariant_codec.specs.States.{states_file}
use Rattle.method_unit.specs.UnitFile.{unit_of}
use Rattle.method_unit.specs.Units.{IsUnit}
use Rattle.method_unit.proofs.UnitAgain.{unit_again}
use Rattle.result_cache.specs.Entries.{Entry, invariant_of}
use Rattle.state_facts.specs.StateFacts.{State}
use Rattle.unit_flow.specs.FlowOf.{flow_of}
use Rattle.unit_flow.specs.declared.unit_flow.UnitFlow.{UnitFlow}
use Rattle.unit_form.specs.Spelling.{unit_bytes}
use Rattle.widening_engine.specs.Limits.{limit_of}
use Rattle.unit_verdicts.specs.CacheFile.{invariant_used, limit_bytes}
use Rattle.proof_files.specs.Proofs.{Entry as ProofEntry}
use Rattle.unit_verdicts.specs.Keys.{IsKey}
use Rattle.unit_verdicts.specs.Picks.{Manner, held_or_limit, limit_manner, limit_pick, pick_of, shown_text, state_of, states_in, states_text, verdicts_under}
use Rattle.unit_verdicts.specs.ProvedUnits.{states_for}
use Rattle.unit_verdicts.specs.VerdictCache.{AreBytesOf, IsCached, manner_under}
use Rattle.unit_verdicts.specs.Verdicts.{AreVerdictsOf, AreVerdictsUnder, AreWithin}
use Rattle.unit_verdicts.specs.declared.analysis.CachedUnit.{CachedUnit}
use Rattle.unit_verdicts.specs.declared.source.Source.TheVariants.{Cache as OfCache, Proof as OfProof}
use Rattle.unit_verdicts.specs.declared.unit_verdicts.UnitVerdicts.{UnitVerdicts}
use Rattle.unit_verdicts.proofs.UnitSafety.{within_limits}

-- ---- verdicts

-- Those under the states that a manner picks.
found_under : (manner : Manner) (code : UnitFlow) (states : List State) (found : UnitVerdicts) → IsUnit code.unit
    → code ≡ flow_of code.unit
    → states ≡ manner.pick code.unit → AreVerdictsUnder manner.show code states found
    → AreVerdictsOf manner code.unit found
unfolding verdicts_under shown_text
found_under manner code states found is flow picked are = record {
  verdicts = are.verdicts ∙ ap (verdicts code) picked ∙ ap (λ (c : UnitFlow). verdicts c (manner.pick code.unit)) flow;
  shown =
      are.shown ∙ ap (λ (s : List State). if manner.show then states_text code s else []) picked
      ∙ ap (λ (c : UnitFlow). if manner.show then states_text c (manner.pick code.unit) else []) flow;
  within = within_limits found.verdicts.items code.unit is are.few are.near;
}

limit_picked : (code : UnitFlow) → code ≡ flow_of code.unit → limit_of code ≡ limit_pick code.unit
limit_picked code flow = ap limit_of flow

-- Those under what the finder answers.
pub found_of : {E : Type 0} (r : Result UnitVerdicts E) (show : Bool) (code : UnitFlow) (states : List State)
    → IsUnit code.unit → code ≡ flow_of code.unit → states ≡ limit_of code
    → IfOk r (AreVerdictsUnder show code states) → IfOk r (AreVerdictsOf (limit_manner show) code.unit)
found_of (Ok found) show code states is flow limit are = found_under (limit_manner show) code states found is flow (limit ∙ limit_picked code flow) are
found_of (Err e) show code states is flow limit are = tt

-- A copy is found of the same.
pub found_copied : (manner : Manner) (unit : MethodUnit) (found copy : UnitVerdicts)
    → copy.verdicts.items ≡ found.verdicts.items → copy.shown.items ≡ found.shown.items
    → AreVerdictsOf manner unit found → AreVerdictsOf manner unit copy
found_copied manner unit found copy verdicts shown are = record {
  verdicts = verdicts ∙ are.verdicts;
  shown = shown ∙ are.shown;
  within = subst AreWithin (sym verdicts) are.within;
}

-- ---- keys

pub unit_told : (unit : MethodUnit) (key : List ℕ) → IsUnit unit → key ≡ unit_bytes unit → unit_of key ≡ unit
unit_told unit key is spelled = ap unit_of spelled ∙ (unit_again unit is).1

pub is_key : (unit : MethodUnit) (key : List ℕ) → IsUnit unit → key ≡ unit_bytes unit → IsKey key
is_key unit key is spelled =
    let same = unit_told unit key is spelled in
    record { is_unit = subst IsUnit (sym same) is; spelled = ap unit_bytes same ∙ sym spelled }

-- The bytes of a unit spell it and no other.
pub found_again : (manner : Manner) (unit : MethodUnit) (key : List ℕ) (found : UnitVerdicts) → IsUnit unit
    → key ≡ unit_bytes unit
    → AreVerdictsOf manner (unit_of key) found → AreVerdictsOf manner unit found
found_again manner unit key found is spelled are = subst (λ (u : MethodUnit). AreVerdictsOf manner u found) (unit_told unit key is spelled) are

-- ---- what is kept

-- The states of what is kept of a unit are those that a cache file holds.
pub cached_held : {E : Type 0} (r : Result CachedUnit E) (show keeps : Bool) (held : List Entry) (code : UnitFlow) (key bytes : List ℕ)
    → IsUnit code.unit → code ≡ flow_of code.unit
    → key ≡ unit_bytes code.unit → Some bytes ≡ invariant_of held key → IsInvariant bytes
    → IfOk r (λ unit. AreVerdictsUnder show code (states_in bytes) unit.found) → IfOk r (IsCached show keeps (OfCache held) key)
cached_held (Ok unit) show keeps held code key bytes is flow spelled there invariant are =
    let manner = manner_under show (OfCache held) in
    let picked : states_in bytes ≡ pick_of held code.unit =
    ap (λ (found : Option (List ℕ)). held_or_limit found code.unit) (there ∙ ap (invariant_of held) spelled) in
    let found = found_under manner code (states_in bytes) unit.found is flow picked are in
    record {
      is_key = is_key code.unit key is spelled;
      found = subst (λ (u : MethodUnit). AreVerdictsOf manner u unit.found) (sym (unit_told code.unit key is spelled)) found;
      used = λ _. subst IsInvariant (ap (λ (found : Option (List ℕ)). unwrap_or found (limit_bytes (unit_of key))) there) invariant;
      own = λ _ none. absurd (none-some bytes (sym none ∙ sym there));
    }
cached_held (Err e) show keeps held code key bytes is flow spelled there invariant are = tt

-- Those are what the finder answers.
pub cached_found : {E : Type 0} (r : Result CachedUnit E) (show keeps : Bool) (held : List Entry) (code : UnitFlow) (key : List ℕ)
    → IsUnit code.unit → code ≡ flow_of code.unit
    → key ≡ unit_bytes code.unit → None ≡ invariant_of held key
    → IfOk r (λ unit. AreVerdictsUnder show code (limit_of code) unit.found)
    → IfOk r (λ unit. keeps ≡ true → AreBytesOf (limit_of code) unit.invariant.items)
    → IfOk r (IsCached show keeps (OfCache held) key)
unfolding limit_bytes
cached_found (Ok unit) show keeps held code key is flow spelled none are own =
    let manner = manner_under show (OfCache held) in
    let picked : limit_of code ≡ pick_of held code.unit =
    limit_picked code flow
    ∙ ap (λ (found : Option (List ℕ)). held_or_limit found code.unit) (none ∙ ap (invariant_of held) spelled) in
    let found = found_under manner code (limit_of code) unit.found is flow picked are in
    let same = unit_told code.unit key is spelled in
    let limit : limit_of code ≡ limit_pick (unit_of key) = limit_picked code flow ∙ ap limit_pick (sym same) in
    record {
      is_key = is_key code.unit key is spelled;
      found = subst (λ (u : MethodUnit). AreVerdictsOf manner u unit.found) (sym same) found;
      used = λ keeping.
          let its = own keeping in
          let bytes : unit.invariant.items ≡ invariant_used held key =
          its.spelled ∙ ap states_bytes limit
          ∙ ap (λ (found : Option (List ℕ)). unwrap_or found (limit_bytes (unit_of key))) none in
          subst IsInvariant bytes its.invariant;
      own = λ keeping _. subst (λ (states : List State). AreBytesOf states unit.invariant.items) limit (own keeping);
    }
cached_found (Err e) show keeps held code key is flow spelled none are own = tt

-- The states are those that a proof file states, and nothing is kept.
pub cached_proved : {E : Type 0} (r : Result CachedUnit E) (show : Bool) (proved : List ProofEntry) (code : UnitFlow) (key : List ℕ) (states : List State)
    → IsUnit code.unit → code ≡ flow_of code.unit
    → key ≡ unit_bytes code.unit → states ≡ states_for proved key
    → IfOk r (λ unit. AreVerdictsUnder show code states unit.found) → IfOk r (IsCached show false (OfProof proved) key)
cached_proved (Ok unit) show proved code key states is flow spelled stated are =
    let manner = manner_under show (OfProof proved) in
    let found = found_under manner code states unit.found is flow (stated ∙ ap (states_for proved) spelled) are in
    record {
      is_key = is_key code.unit key is spelled;
      found = subst (λ (u : MethodUnit). AreVerdictsOf manner u unit.found) (sym (unit_told code.unit key is spelled)) found;
      used = λ keeps. absurd (false≢true keeps);
      own = λ keeps none. absurd (false≢true keeps);
    }
cached_proved (Err e) show proved code key states is flow spelled stated are = tt

-- ---- bytes of states

state_again : (state : State) → state_of (parts_of state) ≡ state
state_again None = refl
state_again (Some known) = refl

states_again : (states : List State) → map state_of (map parts_of states) ≡ states
states_again [] = refl
states_again (state ∷ states) = ap₂ (λ (s : State) (ss : List State). s ∷ ss) (state_again state) (states_again states)

-- States whose parts the bytes spell.
pub states_read : (bytes : List ℕ) (states : List State) → map parts_of states ≡ (states_file bytes).value
    → states ≡ states_in bytes
unfolding states_in
states_read bytes states parts = sym (states_again states) ∙ ap (map state_of) parts

-- The bytes that are written of states, where they are to be kept.
pub bytes_of_states : {F : Type 0} (r : Result (Vec ℕ Global) F) (keeps : Bool) (states : List State)
    → IfOk r (λ bytes. bytes.items ≡ states_bytes states)
    → IfOk r (λ bytes. IsInvariant bytes.items)
    → IfOk r (λ bytes. (states_file bytes.items).value ≡ map parts_of states)
    → IfOk r (λ bytes. keeps ≡ true → AreBytesOf states bytes.items)
bytes_of_states (Ok bytes) keeps states spelled invariant parts =
    λ _. record { spelled = spelled; invariant = invariant; again = sym (states_read bytes.items states (sym parts)) }
bytes_of_states (Err e) keeps states spelled invariant parts = tt
