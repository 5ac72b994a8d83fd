-- Entries of a file of the first form, of which what they stand for is held.
use Rattle.std.proofs.Common.{◌≡◌, ℕ, ◌+◌, ◌-◌, ◌<◌, ◌≤◌, ◌||◌, Bool, true, false, List, [], ◌∷◌, ◌++◌, filter_map, Option, Some, None, Result, Ok, Err, refl, sym, subst, ap, ap₂, ◌∙◌, append_assoc, append-nil}
use Rattle.std.specs.Prelude.{not}
use Rattle.std.specs.Str.{bytes_eq}
use Rattle.std.proofs.lemmas.List.{map-append}
use Rattle.std.proofs.lemmas.List.Elements.{filter_map-append}
use Rattle.std.proofs.lemmas.List.Folds.{list_any-append}
use Rattle.std.proofs.lemmas.Option.{none-some}
use Rattle.std.proofs.lemmas.Slice.Eq.{bytes_eq-Decides}
use Rattle.cc_base.specs.Tests.{first_of, JudgesOrNoMemory, must}
use Rattle.cc_base.specs.declared.refusal.Refusal.{Refusal}
use Rattle.cc_base.specs.declared.refusal.Refusal.TheVariants.{Bad, NoMemory}
use Rattle.cc_base.proofs.TestLemmas.{first_of-append_none, first_of-append_some}
use Rattle.invariant_codec.specs.Parses.{IsPassed}
use Rattle.invariant_codec.proofs.Counted.{AreRead, all_read, read_fault, read_next}
use Rattle.result_cache.specs.CacheFile.{entry_field, entry_fields, invariant_field, key_field}
use Rattle.result_cache.specs.Entries.{Entry, is_among, keys_of}
use Rattle.result_cache.specs.FirstForm.{AreFirst, AreHeld, IsFirstOf, second_entry, second_key}
use Rattle.result_cache.specs.Parses.{sized_field}
use Rattle.result_cache.specs.declared.cache_fault.CacheFault.{CacheFault}
use Rattle.result_cache.specs.declared.cache_fault.CacheFault.TheVariants.{Form}
use Rattle.result_cache.proofs.FirstKeys.{firsts_push, not_of, one_first}

-- ---- which keys are known

-- One entry more.
among_push : (entries : List Entry) (e : Entry) (key : List ℕ)
    → is_among (keys_of (entries ++ e ∷ [])) key ≡ (is_among (keys_of entries) key || (bytes_eq key e.0 || false))
among_push entries e key =
    ap (λ (keys : List (List ℕ)). is_among keys key) (map-append (λ (it : Entry). it.0) entries (e ∷ []))
    ∙ list_any-append (bytes_eq key) (keys_of entries) (e.0 ∷ [])

or_false : (b : Bool) → (b || false) ≡ b
or_false true = refl
or_false false = refl

same_some : (a b : List ℕ) → Some a ≡ Some b → a ≡ b
same_some a b same = cc

-- A key that stands for nothing is not one that stands for something.
differs : (a b second : List ℕ) → second_key a ≡ None → second_key b ≡ Some second → bytes_eq a b ≡ false
differs a b second none some = by (bytes_eq a b) refl
  where
    by : (same : Bool) → bytes_eq a b ≡ same → same ≡ false
    by false is = refl
    by true is = absurd (none-some second (sym none ∙ ap second_key ((bytes_eq-Decides a b).0 is) ∙ some))

differs_back : (a b second : List ℕ) → second_key a ≡ Some second → second_key b ≡ None → bytes_eq a b ≡ false
differs_back a b second some none = by (bytes_eq a b) refl
  where
    by : (same : Bool) → bytes_eq a b ≡ same → same ≡ false
    by false is = refl
    by true is = absurd (none-some second (sym none ∙ ap second_key (sym ((bytes_eq-Decides a b).0 is)) ∙ some))

-- A key of the first form is that of an entry where what it stands for is what that entry stands for.
unit_known : (entries : List Entry) (key second : List ℕ) → second_key key ≡ Some second → IsFirstOf key second → AreFirst entries
    → is_among (keys_of (filter_map second_entry entries)) second ≡ is_among (keys_of entries) key
unit_known [] key second own is firsts = refl
unit_known (e ∷ es) key second own is firsts = by (second_key e.0) refl (unit_known es key second own is firsts.1)
  where
    alike : (k : List ℕ) (b c : Bool) → second_key e.0 ≡ Some k → bytes_eq second k ≡ b → bytes_eq key e.0 ≡ c → b ≡ c
    alike k true true some equal same = refl
    alike k false false some equal same = refl
    alike k true false some equal same =
        let seconds : second ≡ k = (bytes_eq-Decides second k).0 equal in
        let keys : key ≡ e.0 = one_first key e.0 k (subst (IsFirstOf key) seconds is) (firsts.0 k some) in
        absurd (let wrong : true ≡ false = sym ((bytes_eq-Decides key e.0).1 keys) ∙ same in cc)
    alike k false true some equal same =
        let keys : key ≡ e.0 = (bytes_eq-Decides key e.0).0 same in
        let seconds : second ≡ k = same_some second k (sym own ∙ ap second_key keys ∙ some) in
        absurd (let wrong : true ≡ false = sym ((bytes_eq-Decides second k).1 seconds) ∙ equal in cc)

    by : (found : Option (List ℕ)) → second_key e.0 ≡ found
        → is_among (keys_of (filter_map second_entry es)) second ≡ is_among (keys_of es) key
        → is_among (keys_of (filter_map second_entry (e ∷ es))) second ≡ is_among (keys_of (e ∷ es)) key
    by None none later = rw none (rw (differs_back key e.0 second own none) later)
    by (Some k) some later = rw some (ap₂ (λ (b c : Bool). b || c) (alike k (bytes_eq second k) (bytes_eq key e.0) some refl refl) later)

-- ---- one entry more

push_unit : (before seconds others : List Entry) (e : Entry) (second : List ℕ) → AreHeld before seconds others
    → second_key e.0 ≡ Some second → ((key : List ℕ) → second_key e.0 ≡ Some key → IsFirstOf e.0 key)
    → AreHeld (before ++ e ∷ []) (seconds ++ (second, e.1) ∷ []) others
push_unit before seconds others e second held some first =
    let one : (second, e.1) ∷ [] ≡ filter_map second_entry (e ∷ []) = rw some refl in
    record {
      told = ap₂ (λ (a b : List Entry). a ++ b) held.told one ∙ sym (filter_map-append second_entry before (e ∷ []));
      firsts = firsts_push before e held.firsts first;
      known = λ key none.
          held.known key none
          ∙ sym (among_push before e key ∙ ap (λ (b : Bool). is_among (keys_of before) key || (b || false)) (differs key e.0 second none some)
          ∙ or_false (is_among (keys_of before) key));
    }

push_other : (before seconds others : List Entry) (e : Entry) → AreHeld before seconds others → second_key e.0 ≡ None
    → AreHeld (before ++ e ∷ []) seconds (others ++ (e.0, []) ∷ [])
push_other before seconds others e held none =
    let one : [] ≡ filter_map second_entry (e ∷ []) = rw none refl in
    record {
      told = held.told ∙ sym (append-nil (filter_map second_entry before))
          ∙ ap (λ (b : List Entry). filter_map second_entry before ++ b) one ∙ sym (filter_map-append second_entry before (e ∷ []));
      firsts = firsts_push before e held.firsts (not_of e.0 none);
      known = λ key other.
          among_push others (e.0, []) key ∙ ap (λ (b : Bool). b || (bytes_eq key e.0 || false)) (held.known key other)
          ∙ sym (among_push before e key);
    }

-- ---- its tests

-- What is left to test of an entry whose key was read.
entry_tests : (bytes : List ℕ) (before : List Entry) (at : ℕ) (known : Bool) → first_of (sized_field bytes at).tests ≡ None
    → is_among (keys_of before) (sized_field bytes at).value ≡ known
    → first_of (entry_field bytes before at).tests
    ≡ first_of (must (not known) (Form (at + 4)) ∷ (invariant_field bytes (sized_field bytes at).next).tests)
unfolding entry_field key_field
entry_tests bytes before at known passed is =
    let key = sized_field bytes at in
    let rest = (invariant_field bytes key.next).tests in
    let new = must (not (is_among (keys_of before) key.value)) (Form (at + 4)) in
    ap first_of (append_assoc key.tests (new ∷ []) rest) ∙ first_of-append_none key.tests (new ∷ rest) passed
    ∙ ap (λ (k : Bool). first_of (must (not k) (Form (at + 4)) ∷ rest)) is

entry_value : (bytes : List ℕ) (before : List Entry) (at : ℕ)
    → (entry_field bytes before at).value ≡ ((sized_field bytes at).value, (invariant_field bytes (sized_field bytes at).next).value)
unfolding entry_field key_field
entry_value bytes before at = refl

entry_next : (bytes : List ℕ) (before : List Entry) (at : ℕ)
    → (entry_field bytes before at).next ≡ (invariant_field bytes (sized_field bytes at).next).next
unfolding entry_field key_field
entry_next bytes before at = refl

-- A fault of the key's field is one of the entry.
pub key_fault : (bytes : List ℕ) (before : List Entry) (at : ℕ) (fault : CacheFault)
    → first_of (sized_field bytes at).tests ≡ Some fault → first_of (entry_field bytes before at).tests ≡ Some fault
unfolding entry_field key_field
key_fault bytes before at fault failed =
    first_of-append_some _ _ fault (first_of-append_some (sized_field bytes at).tests _ fault failed)

judged_on : (answer : Result ℕ (Refusal CacheFault)) (part whole : Option CacheFault) (P Q : ℕ → Type 0)
    → JudgesOrNoMemory answer part P → whole ≡ part → ((next : ℕ) → P next → Q next) → JudgesOrNoMemory answer whole Q
judged_on (Ok next) part whole P Q judged same weaker = (same ∙ judged.0, weaker next judged.1)
judged_on (Err (Bad fault)) part whole P Q judged same weaker = same ∙ judged
judged_on (Err NoMemory) part whole P Q judged same weaker = tt

-- The entry of a key that was read, where the rest of it is judged.
pub unit_held : (answer : Result ℕ (Refusal CacheFault)) (bytes : List ℕ) (at middle : ℕ) (key second : List ℕ)
    (before seconds new others : List Entry) → AreHeld before seconds others → first_of (sized_field bytes at).tests ≡ None
    → key ≡ (sized_field bytes at).value → middle ≡ (sized_field bytes at).next → second_key key ≡ Some second
    → ((k : List ℕ) → second_key key ≡ Some k → IsFirstOf key k)
    → JudgesOrNoMemory answer
    (first_of (must (not (is_among (keys_of seconds) second)) (Form (at + 4)) ∷ (invariant_field bytes middle).tests))
    (λ next. (new ≡ seconds ++ (second, (invariant_field bytes middle).value) ∷ [])
    × IsPassed bytes (invariant_field bytes middle) next)
    → JudgesOrNoMemory answer (first_of (entry_field bytes before at).tests)
    (λ next. AreHeld (before ++ (entry_field bytes before at).value ∷ []) new others × (next ≡ (entry_field bytes before at).next))
unit_held answer bytes at middle key second before seconds new others held passed key_is middle_is some first judged =
    let field = invariant_field bytes middle in
    let tests : first_of (entry_field bytes before at).tests
    ≡ first_of (must (not (is_among (keys_of seconds) second)) (Form (at + 4)) ∷ field.tests) =
    entry_tests bytes before at (is_among (keys_of seconds) second) passed
    (ap (is_among (keys_of before)) (sym key_is)
    ∙ sym (ap (λ (es : List Entry). is_among (keys_of es) second) held.told
    ∙ unit_known before key second some (first second some) held.firsts))
    ∙ ap (λ (m : ℕ). first_of (must (not (is_among (keys_of seconds) second)) (Form (at + 4)) ∷ (invariant_field bytes m).tests)) (sym middle_is) in
    let value : (key, field.value) ≡ (entry_field bytes before at).value =
    ap₂ (λ (k : List ℕ) (m : ℕ). (k, (invariant_field bytes m).value)) key_is middle_is ∙ sym (entry_value bytes before at) in
    judged_on answer _ _ _ _ judged tests (λ next is. (
      subst (λ (e : Entry). AreHeld (before ++ e ∷ []) new others) value
          (subst (λ (es : List Entry). AreHeld (before ++ (key, field.value) ∷ []) es others) (sym is.0)
          (push_unit before seconds others (key, field.value) second held some first)),
      is.1.0 ∙ ap (λ (m : ℕ). (invariant_field bytes m).next) middle_is ∙ sym (entry_next bytes before at),
    ))

pub other_held : (answer : Result ℕ (Refusal CacheFault)) (bytes : List ℕ) (at middle : ℕ) (key : List ℕ)
    (before seconds others new : List Entry) → AreHeld before seconds others → first_of (sized_field bytes at).tests ≡ None
    → key ≡ (sized_field bytes at).value → middle ≡ (sized_field bytes at).next → second_key key ≡ None
    → JudgesOrNoMemory answer
    (first_of (must (not (is_among (keys_of others) key)) (Form (at + 4)) ∷ (invariant_field bytes middle).tests))
    (λ next. (new ≡ others ++ (key, []) ∷ []) × IsPassed bytes (invariant_field bytes middle) next)
    → JudgesOrNoMemory answer (first_of (entry_field bytes before at).tests)
    (λ next. AreHeld (before ++ (entry_field bytes before at).value ∷ []) seconds new × (next ≡ (entry_field bytes before at).next))
other_held answer bytes at middle key before seconds others new held passed key_is middle_is none judged =
    let field = invariant_field bytes middle in
    let tests : first_of (entry_field bytes before at).tests
    ≡ first_of (must (not (is_among (keys_of others) key)) (Form (at + 4)) ∷ field.tests) =
    entry_tests bytes before at (is_among (keys_of others) key) passed
    (ap (is_among (keys_of before)) (sym key_is) ∙ sym (held.known key none))
    ∙ ap (λ (m : ℕ). first_of (must (not (is_among (keys_of others) key)) (Form (at + 4)) ∷ (invariant_field bytes m).tests)) (sym middle_is) in
    let value : (key, field.value) ≡ (entry_field bytes before at).value =
    ap₂ (λ (k : List ℕ) (m : ℕ). (k, (invariant_field bytes m).value)) key_is middle_is ∙ sym (entry_value bytes before at) in
    judged_on answer _ _ _ _ judged tests (λ next is. (
      subst (λ (e : Entry). AreHeld (before ++ e ∷ []) seconds new) value
          (subst (λ (es : List Entry). AreHeld (before ++ (key, field.value) ∷ []) seconds es) (sym is.0)
          (push_other before seconds others (key, field.value) held none)),
      is.1.0 ∙ ap (λ (m : ℕ). (invariant_field bytes m).next) middle_is ∙ sym (entry_next bytes before at),
    ))

-- ---- all entries

-- So many entries were read up to this offset, and are held.
pub record AreWalked (bytes : List ℕ) (count k at : ℕ) (seconds others : List Entry) : Type 0 where
  pub before : List Entry
  pub read : AreRead (entry_field bytes) count 8 before (count - k) at
  pub held : AreHeld before seconds others

pub walked_next : (bytes : List ℕ) (count k at next : ℕ) (seconds others more rest : List Entry) → k < count
    → (walked : AreWalked bytes count k at seconds others) → first_of (entry_field bytes walked.before at).tests ≡ None
    → AreHeld (walked.before ++ (entry_field bytes walked.before at).value ∷ []) more rest
    → next ≡ (entry_field bytes walked.before at).next → AreWalked bytes count (k + 1) next more rest
walked_next bytes count k at next seconds others more rest below walked passed held next_is = record {
  before = walked.before ++ (entry_field bytes walked.before at).value ∷ [];
  read = read_next (entry_field bytes) count 8 k at next walked.before _ below walked.read passed refl next_is;
  held = held;
}

pub walked_fault : (bytes : List ℕ) (count k at : ℕ) (seconds others : List Entry) (fault : CacheFault) → k < count
    → (walked : AreWalked bytes count k at seconds others) → first_of (entry_field bytes walked.before at).tests ≡ Some fault
    → first_of (entry_fields count bytes 8).tests ≡ Some fault
walked_fault bytes count k at seconds others fault below walked failed =
    read_fault (entry_field bytes) count 8 k at walked.before fault below walked.read failed

-- All entries, and what they stand for.
pub record AllWalked (bytes : List ℕ) (count at : ℕ) (seconds : List Entry) : Type 0 where
  pub tests : first_of (entry_fields count bytes 8).tests ≡ None
  pub same : seconds ≡ filter_map second_entry (entry_fields count bytes 8).value
  pub next : at ≡ (entry_fields count bytes 8).next
  pub firsts : AreFirst (entry_fields count bytes 8).value

pub all_walked : (bytes : List ℕ) (count k at : ℕ) (seconds others : List Entry) → count ≤ k
    → AreWalked bytes count k at seconds others → AllWalked bytes count at seconds
all_walked bytes count k at seconds others end walked =
    let whole = all_read (entry_field bytes) count 8 k at walked.before end walked.read in
    record {
      tests = whole.tests;
      same = walked.held.told ∙ ap (filter_map second_entry) whole.value;
      next = whole.next;
      firsts = subst AreFirst whole.value walked.held.firsts;
    }
