-- A cache and a proof file have names of their own: no other word of a check is one of them.
use Rattle.std.proofs.Common.{◌≡◌, ◌≢◌, ℕ, zero, suc, ◌+◌, ◌-◌, ◌<◌, ◌≤◌, Bool, true, false, cond, not, ◌==◌, ◌&&◌, ◌||◌, List, [], ◌∷◌, length, Option, Some, None, option_map, codes, refl, sym, ap, subst, ◌∙◌, arith, inl, inr}
use Rattle.std.specs.Prelude.{Contains, count_by, filter, option_and_then, position}
use Rattle.std.specs.List.{list_all, range_with_len}
use Rattle.std.specs.Str.{bytes_eq}
use Rattle.std.proofs.lemmas.Bool.{and_parts, cases_lt, eq-eqb, eqb-true}
use Rattle.std.proofs.lemmas.List.{get_or_past}
use Rattle.std.proofs.lemmas.List.Quantifiers.{position-Some}
use Rattle.std.proofs.lemmas.List.Sums.{sum_by-cons}
use Rattle.std.proofs.lemmas.Slice.Eq.{bytes_eq-Decides}
use Rattle.command_words.specs.Words.{are_check_words, are_few, are_refs_named, cache_index, cache_name, check_files, check_words, command_of, infers_alone, is_cache, is_check_word, is_name_word, is_own_name, is_proof, name_place, names_file, proof_index, proof_name, tells_name, tells_option, word_at, word_index}
use Rattle.command_words.specs.declared.check_words.CheckWords.{CheckWords}
use Rattle.command_words.specs.declared.command.Command.{Command}
use Rattle.command_words.specs.declared.command.Command.TheVariants as commands
use Rattle.command_words.specs.declared.linked_words.LinkedWords.{LinkedWords}
use Rattle.command_words.proofs.CheckCommands.{AreLinked, check_told, linked_told}
use Rattle.assembly_reports.proofs.Members.{contains_first, none_contained}

-- ---- a word that stands at one place alone

abbrev Words : Type 0
Words = List (List ℕ)

module _ (test : List ℕ → Bool) where
  counted : (word : List ℕ) (words : Words) → count_by test (word ∷ words) ≡ cond (test word) 1 0 + count_by test words
  counted word words = sum_by-cons (λ (w : List ℕ). cond (test w) 1 0) word words

  one_counted : (word : List ℕ) (words : Words) → test word ≡ true → count_by test (word ∷ words) ≡ 1 + count_by test words
  one_counted word words is = counted word words ∙ ap (λ (b : Bool). cond b 1 0 + count_by test words) is

  some_counted : (words : Words) (i : ℕ) → i < length words → test (word_at words i) ≡ true → 1 ≤ count_by test words
  some_counted [] i lt is = absurd (omega (arith, lt))
  some_counted (word ∷ words) zero lt is = omega (arith, one_counted word words is)
  some_counted (word ∷ words) (suc i) lt is = omega (arith, counted word words, some_counted words i (omega (arith, lt)) is)

  twice_counted : (words : Words) (i j : ℕ) → i < j → j < length words → test (word_at words i) ≡ true → test (word_at words j) ≡ true → 2 ≤ count_by test words
  twice_counted [] i j less lt is also = absurd (omega (arith, lt))
  twice_counted (word ∷ words) i zero less lt is also = absurd (omega (arith, less))
  twice_counted (word ∷ words) zero (suc j) less lt is also = omega (arith, one_counted word words is, some_counted words j (omega (arith, lt)) also)
  twice_counted (word ∷ words) (suc i) (suc j) less lt is also =
      omega (arith, counted word words, twice_counted words i j (omega (arith, less)) (omega (arith, lt)) is also)

  one_place : (words : Words) (i j : ℕ) → count_by test words ≡ 1 → i < length words → j < length words → test (word_at words i) ≡ true → test (word_at words j) ≡ true → i ≡ j
  one_place words i j once lt below is also =
      elim (cases_lt i j) [
        | inl less ↦ absurd (omega (arith, once, twice_counted words i j less below is also))
        | inr not_less ↦
            elim (cases_lt j i) [
              | inl more ↦ absurd (omega (arith, once, twice_counted words j i more lt also is))
              | inr not_more ↦ omega (arith, not_less, not_more)
            ]
      ]

same_test : (word other : List ℕ) → word ≡ other → bytes_eq word other ≡ true
same_test word other same = (bytes_eq-Decides word other).1 same

-- A name of its own stands at one place.
there_by : (words : Words) (place : ℕ) → is_name_word (word_at words place) ≡ true → place < length words
there_by words place named =
    elim (cases_lt place (length words)) [
      | inl lt ↦ lt
      | inr past ↦ absurd (let none : is_name_word [] ≡ true = ap is_name_word (sym (get_or_past words place [] (omega (arith, past)))) ∙ named in cc)
    ]

record IsOwn (words : Words) (place : ℕ) : Type 0 where
  there : place < length words
  alone : (other : ℕ) → other < length words → word_at words other ≡ word_at words place → other ≡ place

own_alone : (words : Words) (place : ℕ) → is_own_name words (Some place) ≡ true → IsOwn words place
own_alone words place own =
    let word = word_at words place in
    let parts = and_parts (is_name_word word) (count_by (bytes_eq word) words == 1) own in
    let there = there_by words place parts.0 in record {
      there = there;
      alone = λ other lt same.
          one_place (bytes_eq word) words other place (eqb-true (count_by (bytes_eq word) words) 1 parts.1) lt there (same_test word (word_at words other) (sym same)) (same_test word word refl);
    }

-- ---- which words of a check these are

-- The words after `check` are those of one.
abbrev IsCheckOf : Words → CheckWords → Type 0
IsCheckOf rest check = check_words rest ≡ Some check

checked_if : (test : Bool) (made check : CheckWords) → cond test (Some made) None ≡ Some check → (test ≡ true) × (made ≡ check)
checked_if true made check is = (refl, cc)
checked_if false made check is = absurd cc

-- What is known of the words after `check`.
record IsKnown (rest : Words) (check : CheckWords) : Type 0 where
  cache_own : is_own_name rest (name_place is_cache rest) ≡ true
  proof_own : is_own_name rest (name_place is_proof rest) ≡ true
  count : check.count ≡ length rest + 1
  cache : check.cache ≡ word_index (name_place is_cache rest)
  proof : check.proof ≡ word_index (name_place is_proof rest)

known : (rest : Words) (check : CheckWords) → IsCheckOf rest check → IsKnown rest check
unfolding check_words
known rest check is =
    let both = checked_if (are_check_words rest) _ check is in
    let named = list_all is_check_word rest && are_few rest && infers_alone rest && are_refs_named rest in
    let last = and_parts (named && is_own_name rest (name_place is_cache rest)) (is_own_name rest (name_place is_proof rest)) both.0 in
    let before = and_parts named (is_own_name rest (name_place is_cache rest)) last.0 in record {
      cache_own = before.1;
      proof_own = last.1;
      count = sym (ap (λ (c : CheckWords). c.count) both.1);
      cache = sym (ap (λ (c : CheckWords). c.cache) both.1);
      proof = sym (ap (λ (c : CheckWords). c.proof) both.1);
    }

-- The word at an index after `check`.
after_first : (first : List ℕ) (rest : Words) (place : ℕ) → word_at (first ∷ rest) (place + 1) ≡ word_at rest place
after_first first rest place = ap (word_at (first ∷ rest)) (let next : place + 1 ≡ suc place = omega arith in next)

-- ---- where names are told

-- An option that names a file stands before the name.
record IsNamed (is_option : List ℕ → Bool) (rest : Words) (index : ℕ) : Type 0 where
  place : ℕ
  at : index ≡ place + 1
  own : IsOwn rest place
  before : ℕ
  behind : place ≡ before + 1
  option : is_option (word_at rest before) ≡ true

named_by : (is_option : List ℕ → Bool) (rest : Words) (index : ℕ) (found : Option ℕ) → position is_option rest ≡ found
    → is_own_name rest (option_map (λ place. place + 1) found) ≡ true → Some index ≡ word_index (option_map (λ place. place + 1) found) → IsNamed is_option rest index
named_by is_option rest index None there own at = absurd cc
named_by is_option rest index (Some before) there own at =
    let stands = position-Some is_option rest before [] there in record {
      place = before + 1;
      at = some_is index ((before + 1) + 1) at;
      own = own_alone rest (before + 1) own;
      before = before;
      behind = refl;
      option = stands.1;
    }
  where
    some_is : {X : Type 0} (x y : X) → Some x ≡ Some y → x ≡ y
    some_is x y e = cc

named : (is_option : List ℕ → Bool) (rest : Words) (index : ℕ) → is_own_name rest (name_place is_option rest) ≡ true → Some index ≡ word_index (name_place is_option rest)
    → IsNamed is_option rest index
named is_option rest index own at = named_by is_option rest index (position is_option rest) refl own at

-- One word is not both options.
two_options : (word : List ℕ) → is_cache word ≡ true → is_proof word ≡ true → ⊥
two_options word cache proof =
    let one = (bytes_eq-Decides word (codes "--cache")).0 cache in
    let other = (bytes_eq-Decides word (codes "--proof")).0 proof in
    let letters : 99 ≡ 112 = ap (λ (w : List ℕ). word_byte w) (sym one ∙ other) in omega (arith, letters)
  where
    word_byte : List ℕ → ℕ
    word_byte (a ∷ b ∷ c ∷ w) = c
    word_byte w = 0

different_names : (first : List ℕ) (rest : Words) (cache proof : ℕ) → IsNamed is_cache rest cache → IsNamed is_proof rest proof
    → word_at (first ∷ rest) proof ≢ word_at (first ∷ rest) cache
different_names first rest cache proof own other = λ same.
    let at_proof : word_at (first ∷ rest) proof ≡ word_at rest other.place = ap (word_at (first ∷ rest)) other.at ∙ after_first first rest other.place in
    let at_cache : word_at (first ∷ rest) cache ≡ word_at rest own.place = ap (word_at (first ∷ rest)) own.at ∙ after_first first rest own.place in
    let one : other.place ≡ own.place = IsOwn.alone own.own other.place (IsOwn.there other.own) (sym at_proof ∙ same ∙ at_cache) in
    let before : other.before ≡ own.before = omega (arith, one, other.behind, own.behind) in
    two_options (word_at rest own.before) own.option (subst (λ (n : ℕ). is_proof (word_at rest n) ≡ true) before other.option)

-- ---- files

-- The file of a check at an index after `check`, which is none that is named.
record IsFile (check : CheckWords) (index : ℕ) : Type 0 where
  some : 1 ≤ index
  below : index < 1 + (check.count - 1)
  names : names_file check index ≡ true

filtered : (test : ℕ → Bool) (first n index : ℕ) → Contains (filter test (range_with_len first n)) index → (first ≤ index) × (index < first + n) × (test index ≡ true)
filtered test first zero index has = absurd (none_contained index has)
filtered test first (suc n) index has = by_test (test first) refl has (filtered test (first + 1) n index)
  where
    others : List ℕ
    others = filter test (range_with_len (first + 1) n)

    later : (first + 1 ≤ index) × (index < (first + 1) + n) × (test index ≡ true) → (first ≤ index) × (index < first + suc n) × (test index ≡ true)
    later (some, below, is) = (omega (arith, some), omega (arith, below), is)

    by_test : (kept : Bool) → test first ≡ kept → Contains (cond kept (first ∷ others) others) index
        → (Contains others index → (first + 1 ≤ index) × (index < (first + 1) + n) × (test index ≡ true)) → (first ≤ index) × (index < first + suc n) × (test index ≡ true)
    by_test false is among step = later (step among)
    by_test true is among step =
        elim (contains_first first index others among) [
          | inl same ↦ (omega (arith, same), omega (arith, same), subst (λ (i : ℕ). test i ≡ true) same is)
          | inr other ↦ later (step other)
        ]

file_is : (check : CheckWords) (index : ℕ) → Contains (check_files check) index → IsFile check index
file_is check index has =
    let its = filtered (names_file check) 1 (check.count - 1) index has in record { some = its.0; below = its.1; names = its.2 }

not_true : (b : Bool) → not b ≡ true → b ≡ false
not_true false is = refl
not_true true is = absurd cc

or_false : (a b : Bool) → (a || b) ≡ false → a ≡ false
or_false false b is = refl
or_false true b is = absurd cc

-- It is not the word that is told as a name.
not_told : (name : Option ℕ) (index own : ℕ) → name ≡ Some own → tells_name name index ≡ false → index ≢ own
not_told None index own is told = absurd cc
not_told (Some n) index own is told = λ same.
    let here : index ≡ n = same ∙ sym (some_is n own is) in
    let false_is : (index == n) ≡ false = or_false (index == n) (index == n - 1) told in
    absurd (let both : true ≡ false = sym (eq-eqb index n here) ∙ false_is in cc)
  where
    some_is : {X : Type 0} (x y : X) → Some x ≡ Some y → x ≡ y
    some_is x y e = cc

-- A file has another name than a word that is named after an option.
file_apart : (is_option : List ℕ → Bool) (first : List ℕ) (rest : Words) (check : CheckWords) (index own : ℕ) → check.count ≡ length rest + 1 → IsFile check index → IsNamed is_option rest own
    → index ≢ own → word_at (first ∷ rest) index ≢ word_at (first ∷ rest) own
file_apart is_option first rest check index own count file its apart = λ same.
    let place = index - 1 in
    let at : index ≡ place + 1 = omega (arith, IsFile.some file) in
    let lt : place < length rest = omega (arith, IsFile.some file, IsFile.below file, count) in
    let at_file : word_at (first ∷ rest) index ≡ word_at rest place = ap (word_at (first ∷ rest)) at ∙ after_first first rest place in
    let at_own : word_at (first ∷ rest) own ≡ word_at rest its.place = ap (word_at (first ∷ rest)) its.at ∙ after_first first rest its.place in
    let one : place ≡ its.place = IsOwn.alone its.own place lt (sym at_file ∙ same ∙ at_own) in
    apart (omega (arith, at, one, its.at))

names_parts : (check : CheckWords) (index : ℕ) → names_file check index ≡ true → (tells_name check.cache index ≡ false) × (tells_name check.proof index ≡ false)
names_parts check index is =
    let last = and_parts (no_option && not (tells_name check.cache index)) (not (tells_name check.proof index)) is in
    let before = and_parts no_option (not (tells_name check.cache index)) last.0 in
    (not_true (tells_name check.cache index) before.1, not_true (tells_name check.proof index) last.1)
  where
    no_option : Bool
    no_option = not (tells_option check.show index) && not (tells_option check.infer index)

-- ---- commands

-- The words of a check: `check`, and those after it.
record IsCheckWords (words : Words) (check : CheckWords) : Type 0 where
  first : List ℕ
  rest : Words
  same : words ≡ first ∷ rest
  is : IsKnown rest check

check_is : (words : Words) (check : CheckWords) → command_of words ≡ Some (commands.Check check) → IsCheckWords words check
check_is [] check is = absurd cc
check_is (word ∷ rest) check is =
    record { first = word; rest = rest; same = refl; is = known rest check (check_told word rest check is) }

-- So are those with references.
linked_is : (words : Words) (linked : LinkedWords) → command_of words ≡ Some (commands.Linked linked) → IsCheckWords words linked.check
linked_is [] linked is = absurd cc
linked_is (word ∷ rest) linked is =
    record { first = word; rest = rest; same = refl; is = known rest linked.check (AreLinked.is (linked_told word rest linked is)) }

-- The proof file of a check has another name than its cache.
names_apart : (words : Words) (check : CheckWords) (cache proof : ℕ) → IsCheckWords words check → check.cache ≡ Some cache → check.proof ≡ Some proof
    → word_at words proof ≢ word_at words cache
names_apart words check cache proof its named_cache named_proof = λ same.
    let is = IsCheckWords.is its in
    different_names (IsCheckWords.first its) (IsCheckWords.rest its) cache proof
    (named is_cache (IsCheckWords.rest its) cache (IsKnown.cache_own is) (sym named_cache ∙ IsKnown.cache is))
    (named is_proof (IsCheckWords.rest its) proof (IsKnown.proof_own is) (sym named_proof ∙ IsKnown.proof is))
    (subst (λ (w : Words). word_at w proof ≡ word_at w cache) (IsCheckWords.same its) same)

pub proof_apart : (words : Words) (check : CheckWords) (cache proof : ℕ) → command_of words ≡ Some (commands.Check check) → check.cache ≡ Some cache → check.proof ≡ Some proof
    → word_at words proof ≢ word_at words cache
proof_apart words check cache proof command named_cache named_proof = names_apart words check cache proof (check_is words check command) named_cache named_proof

-- So has each of its files.
pub file_not_proof : (words : Words) (check : CheckWords) (file proof : ℕ) → command_of words ≡ Some (commands.Check check) → Contains (check_files check) file → check.proof ≡ Some proof
    → word_at words file ≢ word_at words proof
file_not_proof words check file proof command has named_proof = λ same.
    let its = check_is words check command in
    let is = IsCheckWords.is its in
    let its_file = file_is check file has in
    file_apart is_proof (IsCheckWords.first its) (IsCheckWords.rest its) check file proof (IsKnown.count is) its_file
    (named is_proof (IsCheckWords.rest its) proof (IsKnown.proof_own is) (sym named_proof ∙ IsKnown.proof is))
    (not_told check.proof file proof named_proof (names_parts check file (IsFile.names its_file)).1)
    (subst (λ (w : Words). word_at w file ≡ word_at w proof) (IsCheckWords.same its) same)

pub file_not_cache : (words : Words) (check : CheckWords) (file cache : ℕ) → command_of words ≡ Some (commands.Check check) → Contains (check_files check) file → check.cache ≡ Some cache
    → word_at words file ≢ word_at words cache
file_not_cache words check file cache command has named_cache = λ same.
    let its = check_is words check command in
    let is = IsCheckWords.is its in
    let its_file = file_is check file has in
    file_apart is_cache (IsCheckWords.first its) (IsCheckWords.rest its) check file cache (IsKnown.count is) its_file
    (named is_cache (IsCheckWords.rest its) cache (IsKnown.cache_own is) (sym named_cache ∙ IsKnown.cache is))
    (not_told check.cache file cache named_cache (names_parts check file (IsFile.names its_file)).0)
    (subst (λ (w : Words). word_at w file ≡ word_at w cache) (IsCheckWords.same its) same)

-- ---- of any words

option_named : (words : Words) (index : Option ℕ) (name : List ℕ) → option_map (word_at words) index ≡ Some name → (i : ℕ) × (index ≡ Some i) × (word_at words i ≡ name)
option_named words None name is = absurd cc
option_named words (Some i) name is = (i, refl, cc)

apart_by : (words : Words) (command : Option Command) (name : List ℕ) → command_of words ≡ command → option_map (word_at words) (option_and_then cache_index command) ≡ Some name
    → option_map (word_at words) (option_and_then proof_index command) ≢ Some name
apart_by words None name asked cache = λ proof. absurd cc
apart_by words (Some (commands.Check check)) name asked cache = λ proof.
    let (c, c_is, c_name) = option_named words check.cache name cache in
    let (p, p_is, p_name) = option_named words check.proof name proof in
    proof_apart words check c p asked c_is p_is (p_name ∙ sym c_name)
apart_by words (Some (commands.Linked linked)) name asked cache = λ proof.
    let (c, c_is, c_name) = option_named words linked.check.cache name cache in
    let (p, p_is, p_name) = option_named words linked.check.proof name proof in
    names_apart words linked.check c p (linked_is words linked asked) c_is p_is (p_name ∙ sym c_name)
apart_by words (Some (commands.Verify file proof)) name asked cache = λ is. absurd cc
apart_by words (Some (commands.Unit file)) name asked cache = λ is. absurd cc
apart_by words (Some (commands.List file)) name asked cache = λ is. absurd cc
apart_by words (Some (commands.Il file method)) name asked cache = λ is. absurd cc
apart_by words (Some (commands.Run run)) name asked cache = λ is. absurd cc
apart_by words (Some (commands.Refute file method runs)) name asked cache = λ is. absurd cc
apart_by words (Some (commands.Gen seed count)) name asked cache = λ is. absurd cc

-- The name of a cache is not that of the proof file.
pub own_names : (words : Words) (name : List ℕ) → cache_name words ≡ Some name → proof_name words ≢ Some name
own_names words name cache = apart_by words (command_of words) name refl cache
