-- Keys of the first form, and what stands for them.
use Rattle.std.proofs.Common.{◌≡◌, ℕ, Bool, true, false, List, [], ◌∷◌, ◌++◌, cond, Some, None, Err, refl, sym, subst, ap, ◌∙◌}
use Rattle.std.specs.Prelude.{◌&&◌}
use Rattle.std.proofs.lemmas.Option.{none-some}
use Rattle.cc_base.specs.Tests.{JudgesOrNoMemory}
use Rattle.cc_base.specs.declared.refusal.Refusal.{Refusal}
use Rattle.cc_base.specs.declared.refusal.Refusal.TheVariants.{Bad, NoMemory}
use Rattle.cil_model.specs.declared.unit.Unit.{Unit as MethodUnit}
use Rattle.method_unit.specs.UnitFile.{first_unit_fault, unit_of}
use Rattle.method_unit.specs.Units.{IsUnit}
use Rattle.unit_form.specs.declared.unit_fault.UnitFault.{UnitFault}
use Rattle.method_unit.proofs.UnitAgain.{one_unit, spelled_again}
use Rattle.unit_form.specs.Spelling.{HasCounts, IsSpelledBy, unit_bytes, unit_spelling}
use Rattle.unit_form.specs.declared.form.UnitForm.{UnitForm}
use Rattle.unit_form.specs.declared.form.UnitForm.TheVariants.{First, Second, Third}
use Rattle.result_cache.specs.Entries.{Entry}
use Rattle.result_cache.specs.FirstForm.{AreFirst, has_first_number, IsFirstOf, second_key}

-- ---- one key

pub number_none : (bytes : List ℕ) → has_first_number bytes ≡ false → second_key bytes ≡ None
unfolding second_key
number_none bytes other = rw other refl

faulty_none : (bytes : List ℕ) (fault : UnitFault) → first_unit_fault bytes ≡ Some fault → second_key bytes ≡ None
unfolding second_key
faulty_none bytes fault some = rw some (either (has_first_number bytes))
  where
    either : (b : Bool) → cond (b && false) (Some (unit_bytes (unit_of bytes))) None ≡ None
    either true = refl
    either false = refl

pub judged_none : {X : Type 0} (bytes : List ℕ) (refusal : Refusal UnitFault) (fault : UnitFault) (P : X → Type 0)
    → refusal ≡ Bad fault → JudgesOrNoMemory {X = X} (Err refusal) (first_unit_fault bytes) P → second_key bytes ≡ None
judged_none bytes (Bad other) fault P is judged = faulty_none bytes other judged
judged_none bytes NoMemory fault P is judged = absurd cc

keyed : (bytes : List ℕ) → has_first_number bytes ≡ true → first_unit_fault bytes ≡ None
    → second_key bytes ≡ Some (unit_bytes (unit_of bytes))
unfolding second_key
keyed bytes number none = rw (number, none) refl

pub not_of : (bytes : List ℕ) → second_key bytes ≡ None → (key : List ℕ) → second_key bytes ≡ Some key → IsFirstOf bytes key
not_of bytes none key some = absurd (none-some key (sym none ∙ some))

second_number : (unit : MethodUnit) → has_first_number (unit_spelling Second unit) ≡ false
unfolding unit_spelling
second_number unit = refl

third_number : (unit : MethodUnit) → has_first_number (unit_spelling Third unit) ≡ false
unfolding unit_spelling
third_number unit = refl

first_number : (unit : MethodUnit) → has_first_number (unit_spelling First unit) ≡ true
unfolding unit_spelling
first_number unit = refl

first_in : (form : UnitForm) (bytes : List ℕ) (unit : MethodUnit) → has_first_number bytes ≡ true → IsUnit unit
    → HasCounts form unit → unit_spelling form unit ≡ bytes → IsFirstOf bytes (unit_bytes unit)
first_in First bytes unit number is counts same =
    record { unit = unit; is_unit = is; counts = counts; spelled = same; kept = refl }
first_in Second bytes unit number is counts same =
    absurd (let wrong : false ≡ true = sym (second_number unit) ∙ ap has_first_number same ∙ number in cc)
first_in Third bytes unit number is counts same =
    absurd (let wrong : false ≡ true = sym (third_number unit) ∙ ap has_first_number same ∙ number in cc)

-- A unit in the first form stands for its key.
pub record Kept (bytes key : List ℕ) : Type 0 where
  pub is : second_key bytes ≡ Some key
  pub first : (other : List ℕ) → second_key bytes ≡ Some other → IsFirstOf bytes other

same_some : (a b : List ℕ) → Some a ≡ Some b → a ≡ b
same_some a b same = cc

pub kept_key : (bytes : List ℕ) (unit : MethodUnit) → has_first_number bytes ≡ true → first_unit_fault bytes ≡ None
    → unit ≡ unit_of bytes → IsUnit unit → IsSpelledBy unit bytes → Kept bytes (unit_bytes unit)
kept_key bytes unit number none same is spelled =
    let key : second_key bytes ≡ Some (unit_bytes unit) = keyed bytes number none ∙ ap (λ (u : MethodUnit). Some (unit_bytes u)) (sym same) in
    record {
      is = key;
      first = λ other some.
          subst (IsFirstOf bytes) (same_some _ _ (sym key ∙ some)) (first_in spelled.form bytes unit number is spelled.counts spelled.same);
    }

pub first_key : (unit : MethodUnit) → IsUnit unit → HasCounts First unit
    → second_key (unit_spelling First unit) ≡ Some (unit_bytes unit)
first_key unit is counts =
    let again = spelled_again (unit_spelling First unit) unit is (record { form = First; counts = counts; same = refl }) in
    keyed (unit_spelling First unit) (first_number unit) again.0 ∙ ap (λ (u : MethodUnit). Some (unit_bytes u)) again.1

-- ---- all entries

-- What stands for two keys is one key where they are one.
pub one_first : (a b key : List ℕ) → IsFirstOf a key → IsFirstOf b key → a ≡ b
one_first a b key first other =
    let same : first.unit ≡ other.unit = one_unit first.unit other.unit first.is_unit other.is_unit (first.kept ∙ sym other.kept) in
    sym first.spelled ∙ ap (unit_spelling First) same ∙ other.spelled

pub firsts_push : (before : List Entry) (e : Entry) → AreFirst before
    → ((key : List ℕ) → second_key e.0 ≡ Some key → IsFirstOf e.0 key) → AreFirst (before ++ e ∷ [])
firsts_push [] e firsts is = (is, tt)
firsts_push (first ∷ es) e firsts is = (firsts.0, firsts_push es e firsts.1 is)
