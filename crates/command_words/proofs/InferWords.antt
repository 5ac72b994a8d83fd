-- Where `--infer` is among the words of a check, neither a proof file nor a reference is named.
use Rattle.std.proofs.Common.{◌≡◌, ℕ, zero, suc, ◌+◌, ◌*◌, ◌<◌, ◌≤◌, Bool, true, false, cond, ◌==◌, ◌&&◌, ◌||◌, List, [], ◌∷◌, length, Option, Some, None, option_map, arith, refl, sym, ap, ◌∙◌}
use Rattle.std.specs.Prelude.{count_by, is_some, position}
use Rattle.std.specs.List.{list_all}
use Rattle.std.proofs.lemmas.Bool.{and_parts, eqb-true}
use Rattle.std.proofs.lemmas.List.Quantifiers.{position-Some}
use Rattle.std.proofs.lemmas.List.Sums.{sum_by-cons}
use Rattle.command_words.specs.Words.{are_check_words, are_few, are_refs_named, cache_place, check_words, command_of, infers_alone, is_check_word, is_infer, is_own_name, is_proof, is_ref, proof_place, word_at, word_index}
use Rattle.command_words.specs.declared.check_words.CheckWords.{CheckWords}
use Rattle.command_words.specs.declared.command.Command.TheVariants as commands
use Rattle.command_words.specs.declared.linked_words.LinkedWords.{LinkedWords}
use Rattle.command_words.proofs.CheckCommands.{check_told}

abbrev Words : Type 0
Words = List (List ℕ)

-- ---- words that pass a test

module _ (test : List ℕ → Bool) where
  counted : (word : List ℕ) (words : Words) → count_by test (word ∷ words) ≡ cond (test word) 1 0 + count_by test words
  counted word words = sum_by-cons (λ (w : List ℕ). cond (test w) 1 0) word words

  some_counted : (words : Words) (place : ℕ) → place < length words → test (word_at words place) ≡ true → 1 ≤ count_by test words
  some_counted [] place inside is = absurd (omega (arith, inside))
  some_counted (word ∷ words) zero inside is =
      let one = counted word words ∙ ap (λ (b : Bool). cond b 1 0 + count_by test words) is in omega (arith, one)
  some_counted (word ∷ words) (suc place) inside is = omega (arith, counted word words, some_counted words place (omega (arith, inside)) is)

  -- Where one is found, there is one.
  found_counted : (words : Words) (place : ℕ) → position test words ≡ Some place → 1 ≤ count_by test words
  found_counted words place found = let stands = position-Some test words place [] found in some_counted words place stands.0 stands.1

  -- Where there is none, none is found.
  none_found : (words : Words) → count_by test words ≡ 0 → position test words ≡ None
  none_found words none = by (position test words) refl
    where
      by : (found : Option ℕ) → position test words ≡ found → found ≡ None
      by None is = refl
      by (Some place) is = absurd (omega (arith, none, found_counted words place is))

-- ---- words beside `--infer`

-- Of three counts the first is none where the others are not.
none_infers : (infers proofs refs : ℕ) → (infers == 0 || (proofs == 0 && refs == 0)) ≡ true → 1 ≤ proofs + refs → infers ≡ 0
none_infers infers proofs refs alone some = by (infers == 0) refl alone
  where
    by : (none : Bool) → (infers == 0) ≡ none → (none || (proofs == 0 && refs == 0)) ≡ true → infers ≡ 0
    by true is alone = eqb-true infers 0 is
    by false is alone =
        let parts = and_parts (proofs == 0) (refs == 0) alone in
        absurd (omega (arith, some, eqb-true proofs 0 parts.0, eqb-true refs 0 parts.1))

-- So there are at most 101 words after `check`.
few_by : (n infers proofs refs : ℕ) → n ≤ 67 + (infers + 2 * (proofs + refs)) → infers ≤ 1 → proofs ≤ 1 → refs ≤ 16 → (infers == 0 || (proofs == 0 && refs == 0)) ≡ true → n ≤ 101
few_by n infers zero zero few one proof many alone = omega (arith, few, one)
few_by n infers (suc proofs) refs few one proof many alone = omega (arith, few, proof, many, none_infers infers (suc proofs) refs alone (omega arith))
few_by n infers zero (suc refs) few one proof many alone = omega (arith, few, many, none_infers infers 0 (suc refs) alone (omega arith))

pub few_words : (n : ℕ) (words : Words) → n ≤ 67 + (count_by is_infer words + 2 * (count_by is_proof words + count_by is_ref words)) → count_by is_infer words ≤ 1
    → count_by is_proof words ≤ 1 → count_by is_ref words ≤ 16 → infers_alone words ≡ true → n ≤ 101
few_words n words few one proof many alone = few_by n (count_by is_infer words) (count_by is_proof words) (count_by is_ref words) few one proof many alone

-- ---- checks

-- What is known of the words after `check`.
record IsTold (words : Words) (check : CheckWords) : Type 0 where
  alone : infers_alone words ≡ true
  infer : check.infer ≡ word_index (position is_infer words)
  proof : check.proof ≡ word_index (proof_place words)

told_if : (test : Bool) (made check : CheckWords) → cond test (Some made) None ≡ Some check → (test ≡ true) × (made ≡ check)
told_if true made check is = (refl, cc)
told_if false made check is = absurd cc

told : (words : Words) (check : CheckWords) → check_words words ≡ Some check → IsTold words check
unfolding check_words
told words check is =
    let both = told_if (are_check_words words) _ check is in
    let few = list_all is_check_word words && are_few words in
    let named = few && infers_alone words && are_refs_named words in
    let last = and_parts (named && is_own_name words (cache_place words)) (is_own_name words (proof_place words)) both.0 in
    let before = and_parts named (is_own_name words (cache_place words)) last.0 in
    let prefix = and_parts (few && infers_alone words) (are_refs_named words) before.0 in record {
      alone = (and_parts few (infers_alone words) prefix.0).1;
      infer = sym (ap (λ (c : CheckWords). c.infer) both.1);
      proof = sym (ap (λ (c : CheckWords). c.proof) both.1);
    }

no_infer : (words : Words) (check : CheckWords) → IsTold words check → 1 ≤ count_by is_proof words + count_by is_ref words → check.infer ≡ None
no_infer words check its some =
    let none = none_infers (count_by is_infer words) (count_by is_proof words) (count_by is_ref words) its.alone some in
    its.infer ∙ ap word_index (none_found is_infer words none)

proof_counted : (words : Words) (found : Option ℕ) → position is_proof words ≡ found → is_some (word_index (option_map (λ place. place + 1) found)) ≡ true → 1 ≤ count_by is_proof words
proof_counted words None at is = absurd cc
proof_counted words (Some place) at is = found_counted is_proof words place at

-- A check that writes a proof file infers nothing.
pub no_infer_by_proof : (words : Words) (check : CheckWords) → check_words words ≡ Some check → is_some check.proof ≡ true → check.infer ≡ None
no_infer_by_proof words check is writes =
    let its = told words check is in
    let some = proof_counted words (position is_proof words) refl (ap is_some (sym its.proof) ∙ writes) in
    no_infer words check its (omega (arith, some))

pub check_infers_nothing : (words : Words) (check : CheckWords) → command_of words ≡ Some (commands.Check check) → is_some check.proof ≡ true → check.infer ≡ None
check_infers_nothing [] check is writes = absurd cc
check_infers_nothing (word ∷ words) check is writes = no_infer_by_proof words check (check_told word words check is) writes
