-- What an answer of states promises beyond its value.
use Rattle.std.proofs.Common.{◌≡◌, ℕ, Bool, true, false, List, [], ◌∷◌, ◌++◌, map, None, Some, Result, Ok, Err}
use Rattle.std.proofs.Common.{refl, sym, subst, ap, ap₂, ◌∙◌, append-nil, if◌then◌else◌}
use Rattle.std.specs.Prelude.{IfOk}
use Rattle.std.specs.List.{flat_map}
use Rattle.std.proofs.lemmas.List.{length-map}
use Rattle.abs_state.specs.StateParts.{AreParts, StateParts, known_of, parts_of}
use Rattle.cc_base.specs.LittleEndian.{IsBytes, little_bytes}
use Rattle.cc_base.specs.Tests.{first_of, GivesOnly, JudgesOrNoMemory}
use Rattle.cc_base.specs.declared.refusal.Refusal.{Refusal}
use Rattle.cc_base.specs.declared.refusal.Refusal.TheVariants.{Bad, NoMemory}
use Rattle.state_facts.specs.StateFacts.{State}
use Rattle.invariant_codec.specs.Formats.{AllGood}
use Rattle.invariant_codec.specs.Invariants.{IsInvariant, first_states_fault}
use Rattle.invariant_codec.specs.Numbers as numbers
use Rattle.invariant_codec.specs.Spelling.{known_bytes, parts_bytes, state_bytes, states_bytes}
use Rattle.invariant_codec.specs.Spellable.{AreSpellable}
use Rattle.invariant_codec.specs.States.{known, known_where, state, states, states_file}
use Rattle.invariant_codec.specs.declared.fault.InvFault.{InvFault}
use Rattle.invariant_codec.proofs.FitsFields.{spellable}
use Rattle.invariant_codec.proofs.GoodStates.{known_parts}
use Rattle.invariant_codec.proofs.SpellingLaws.{arrays_size, known_same}
use Rattle.invariant_codec.proofs.SpelledFields.{states_spelled}
use Rattle.invariant_codec.proofs.StateLaws.{file_again, file_taken, known_exact}

-- ---- what is known

pub known_read : (bytes : List ℕ) (at : ℕ) (parts : StateParts) → IsBytes bytes
    → first_of (known.read bytes at).tests ≡ None → parts ≡ (known.read bytes at).value → AreParts parts
known_read bytes at parts fits passed is = subst AreParts (sym is)
    (known_parts (known.read bytes at).value ((known_exact bytes fits).taken at passed).spelled)

-- ---- the spelling

parts_same : (parts : StateParts) → state.IsSpelled parts → state.spell parts ≡ parts_bytes parts
unfolding state parts_bytes numbers.flag numbers.byte
parts_same parts spelled = by parts.reached spelled.1
  where
    by : (reached : Bool) → (known_where reached).IsSpelled parts
        → little_bytes 1 (numbers.flag_number reached)
        ++ (known_where reached).spell parts ≡
        (if reached then little_bytes 1 1 ++ known_bytes parts else little_bytes 1 0)
    by true good = ap (λ (t : List ℕ). little_bytes 1 1 ++ t) (known_same parts (arrays_size parts good))
    by false good = append-nil (little_bytes 1 0)

each_same : (before : List StateParts) (all : List State)
    → AllGood (λ before. state.IsSpelled) before (map parts_of all)
    → flat_map state.spell (map parts_of all) ≡ flat_map state_bytes all
each_same before [] good = refl
each_same before (s ∷ all) good = ap₂ (λ (a b : List ℕ). a ++ b) (parts_same (parts_of s) good.0)
    (each_same (before ++ parts_of s ∷ []) all good.1)

states_same : (all : List State) → states.IsSpelled (map parts_of all)
    → states.spell (map parts_of all) ≡ states_bytes all
unfolding states states_bytes numbers.number
states_same all good = ap₂ (λ (n : ℕ) (t : List ℕ). little_bytes 2 n ++ t) (length-map all parts_of)
    (each_same [] all good.1.1)

-- ---- states by their parts

abbrev state_in : StateParts → State
state_in parts = if parts.reached then Some (known_of parts) else None

one_back : (s : State) → state_in (parts_of s) ≡ s
one_back None = refl
one_back (Some facts) = refl

all_back : (all : List State) → map state_in (map parts_of all) ≡ all
all_back [] = refl
all_back (s ∷ all) = ap₂ (λ (x : State) (xs : List State). x ∷ xs) (one_back s) (all_back all)

same_states : (a b : List State) → map parts_of a ≡ map parts_of b → a ≡ b
same_states a b same = sym (all_back a) ∙ ap (map state_in) same ∙ all_back b

-- ---- answers

-- What is read is spelled by the bytes.
pub read_spelled : {F : Type 0} (bytes : List ℕ) (told : F → List State) (answer : Result F (Refusal InvFault))
    → IsBytes bytes
    → JudgesOrNoMemory answer (first_of (states_file bytes).tests)
    (λ f. map parts_of (told f) ≡ (states_file bytes).value)
    → IfOk answer (λ f. (states_bytes (told f) ≡ bytes) × AreSpellable (told f))
read_spelled bytes told (Ok f) fits judged =
    let taken = file_taken bytes fits judged.0 in
    let good : states.IsSpelled (map parts_of (told f)) = subst (λ parts. states.IsSpelled parts)
    (sym judged.1) taken.good in (
      sym (states_same (told f) good) ∙ ap (λ parts. states.spell parts) judged.1
          ∙ taken.spelled,
      spellable (told f) good,
    )
read_spelled bytes told (Err refusal) fits judged = tt

-- What the bytes spell is read.
pub read_only : {F : Type 0} (bytes : List ℕ) (told : F
    → List State) (answer : Result F (Refusal InvFault)) (all : List State) → IsBytes bytes → AreSpellable all
    → states_bytes all ≡ bytes
    → JudgesOrNoMemory answer (first_of (states_file bytes).tests)
    (λ f. map parts_of (told f) ≡ (states_file bytes).value) → GivesOnly answer (λ f. told f ≡ all)
read_only bytes told (Ok f) all fits are spelled judged =
    let good = states_spelled all are in
    same_states (told f) all (judged.1 ∙
    (file_again bytes (map parts_of all) fits good (states_same all good ∙ spelled)).value)
read_only bytes told (Err (Bad fault)) all fits are spelled judged =
    let good = states_spelled all are in
    let none : Some fault ≡ None = sym judged
    ∙ (file_again bytes (map parts_of all) fits good (states_same all good ∙ spelled)).passed in absurd cc
read_only bytes told (Err NoMemory) all fits are spelled judged = tt

-- ---- what is written

-- What is written of states that are spelled is an invariant, of which they are read again.
pub record IsReadAgain (bytes : List ℕ) (all : List State) : Type 0 where
  pub invariant : IsInvariant bytes
  pub parts : (states_file bytes).value ≡ map parts_of all

pub written_again : (bytes : List ℕ) (all : List State) → IsBytes bytes → AreSpellable all → bytes ≡ states_bytes all
    → IsReadAgain bytes all
unfolding first_states_fault
written_again bytes all fits are is =
    let good = states_spelled all are in
    let again = file_again bytes (map parts_of all) fits good (states_same all good ∙ sym is) in
    record { invariant = again.passed; parts = again.value }
