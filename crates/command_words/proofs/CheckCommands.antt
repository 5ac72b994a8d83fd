-- A command that is a check is one of the words after `check`.
use Rattle.std.proofs.Common.{◌≡◌, ℕ, ◌≤◌, Bool, true, false, cond, ◌==◌, ◌&&◌, List, [], ◌∷◌, length, Option, Some, None, option_map, codes, refl, ap, subst, ◌∙◌, arith}
use Rattle.std.specs.Prelude.{count_by}
use Rattle.std.specs.Str.{bytes_eq}
use Rattle.run_arguments.specs.Numbers.{number_of_word}
use Rattle.command_words.specs.Words.{MAX_METHODS, MAX_REFS, MAX_SEED, args_end, check_command, check_words, command_of, command_of_three, command_of_two, file_command, gen_command, gen_told, il_command, is_name_word, is_ref, linked_words, names_run, other_command, padded, refs_from, refute_command, run_command, run_steps, runs_told, verify_command}
use Rattle.command_words.specs.declared.check_words.CheckWords.{CheckWords}
use Rattle.command_words.specs.declared.command.Command.{Command}
use Rattle.command_words.specs.declared.command.Command.TheVariants as commands
use Rattle.command_words.specs.declared.linked_words.LinkedWords.{LinkedWords}

abbrev Words : Type 0
Words = List (List ℕ)

-- No check.
abbrev IsOther : Option Command → Type 0
IsOther (Some (commands.Check check)) = ⊥
IsOther (Some (commands.Linked linked)) = ⊥
IsOther _ = Unit {0}

other_if : (test : Bool) (a b : Option Command) → IsOther a → IsOther b → IsOther (cond test a b)
other_if true a b one other = one
other_if false a b one other = other

other_map : (make : ℕ → Command) (number : Option ℕ) → ((n : ℕ) → IsOther (Some (make n))) → IsOther (option_map make number)
other_map make None is = tt
other_map make (Some n) is = is n

other_gen : (seed count : Option ℕ) → IsOther (gen_told seed count)
other_gen (Some seed) (Some count) = other_if (count == 0) None (Some (commands.Gen seed count)) tt tt
other_gen (Some seed) None = tt
other_gen None count = tt

other_file : (word : List ℕ) → IsOther (file_command word 1)
other_file word =
    other_if (bytes_eq word (codes "unit")) (Some (commands.Unit 1)) (cond (bytes_eq word (codes "list")) (Some (commands.List 1)) None) tt
    (other_if (bytes_eq word (codes "list")) (Some (commands.List 1)) None tt tt)

other_two : (word file : List ℕ) → IsOther (command_of_two word file)
other_two word file = other_if (is_name_word file) (file_command word 1) None (other_file word) tt

other_names : (command : Command) (first second : List ℕ) → IsOther (Some command) → IsOther (cond (is_name_word first && is_name_word second) (Some command) None)
other_names command first second other = other_if (is_name_word first && is_name_word second) (Some command) None other tt

other_three : (word first second : List ℕ) → IsOther (command_of_three word first second)
unfolding command_of_three
other_three word first second =
    let verify = cond (bytes_eq word (codes "verify")) (verify_command first second) None in
    other_if (bytes_eq word (codes "il")) (il_command first second) (cond (bytes_eq word (codes "gen")) (gen_command first second) verify)
    (other_names (commands.Il 1 2) first second tt)
    (other_if (bytes_eq word (codes "gen")) (gen_command first second) verify (other_gen (number_of_word MAX_SEED first) (number_of_word MAX_METHODS second))
    (other_if (bytes_eq word (codes "verify")) (verify_command first second) None (other_names (commands.Verify 1 2) first second tt) tt))

-- A run with so many steps.
abbrev run_of : Words → ℕ → Command
run_of words steps = commands.Run (record { file = 1; method = 2; args_end = args_end words; steps = steps })

other_run : (words : Words) → IsOther (run_command words)
unfolding run_command
other_run words = other_if (names_run words) (option_map (run_of words) (run_steps words)) None (other_map (run_of words) (run_steps words) (λ n. tt)) tt

other_refute : (first second : List ℕ) (args : Words) → IsOther (refute_command first second args)
other_refute first second args =
    other_if (is_name_word first && is_name_word second) (option_map (commands.Refute 1 2) (runs_told args)) None (other_map (commands.Refute 1 2) (runs_told args) (λ n. tt)) tt

other_is : (words : Words) → IsOther (other_command words)
other_is [] = tt
other_is (word ∷ []) = tt
other_is (word ∷ file ∷ []) = other_two word file
other_is (word ∷ first ∷ second ∷ args) =
    let last = cond (length args == 0) (command_of_three word first second) None in
    other_if (bytes_eq word (codes "run")) (run_command (word ∷ first ∷ second ∷ args)) (cond (bytes_eq word (codes "refute")) (refute_command first second args) last)
    (other_run (word ∷ first ∷ second ∷ args))
    (other_if (bytes_eq word (codes "refute")) (refute_command first second args) last (other_refute first second args)
    (other_if (length args == 0) (command_of_three word first second) None (other_three word first second) tt))

-- ---- checks

check_made : (test : Bool) (found : Option CheckWords) (other : Option LinkedWords) (check : CheckWords)
    → cond test (option_map commands.Check found) (option_map commands.Linked other) ≡ Some (commands.Check check) → found ≡ Some check
check_made true None other check e = absurd cc
check_made true (Some its) other check e = cc
check_made false found None check e = absurd cc
check_made false found (Some linked) check e = absurd cc

check_by : (word : List ℕ) (rest : Words) (check : CheckWords) (test : Bool) → cond test (check_command rest) (other_command (word ∷ rest)) ≡ Some (commands.Check check)
    → check_words rest ≡ Some check
check_by word rest check true is = check_made (count_by is_ref rest == 0) (check_words rest) (linked_words rest) check is
check_by word rest check false is = absurd (subst IsOther is (other_is (word ∷ rest)))

-- The words after the first are those of the check.
pub check_told : (word : List ℕ) (rest : Words) (check : CheckWords) → command_of (word ∷ rest) ≡ Some (commands.Check check) → check_words rest ≡ Some check
check_told word rest check is = check_by word rest check (bytes_eq word (codes "check")) is

-- ---- checks with references

-- The words after the first are those of a check, and some tell references.
pub record AreLinked (rest : Words) (check : CheckWords) : Type 0 where
  pub is : check_words rest ≡ Some check
  pub refs : 1 ≤ count_by is_ref rest

linked_made : (rest : Words) (none : Bool) (found : Option CheckWords) (refs : List (Option ℕ)) (linked : LinkedWords) → (count_by is_ref rest == 0) ≡ none → check_words rest ≡ found
    → cond none (option_map commands.Check found) (option_map commands.Linked (option_map (λ check. record { check = check; refs = refs }) found)) ≡ Some (commands.Linked linked)
    → AreLinked rest linked.check
linked_made rest true None refs linked count is e = absurd cc
linked_made rest true (Some its) refs linked count is e = absurd cc
linked_made rest false None refs linked count is e = absurd cc
linked_made rest false (Some its) refs linked count is e = record { is = is ∙ ap its_check e; refs = some_of (count_by is_ref rest) count }
  where
    its_check : Option Command → Option CheckWords
    its_check (Some (commands.Linked words)) = Some words.check
    its_check _ = None

    some_of : (n : ℕ) → (n == 0) ≡ false → 1 ≤ n
    some_of n is = grind arith

linked_by : (word : List ℕ) (rest : Words) (linked : LinkedWords) (test : Bool) → cond test (check_command rest) (other_command (word ∷ rest)) ≡ Some (commands.Linked linked)
    → AreLinked rest linked.check
unfolding linked_words
linked_by word rest linked true is = linked_made rest (count_by is_ref rest == 0) (check_words rest) (padded MAX_REFS (refs_from 1 rest)) linked refl refl is
linked_by word rest linked false is = absurd (subst IsOther is (other_is (word ∷ rest)))

pub linked_told : (word : List ℕ) (rest : Words) (linked : LinkedWords) → command_of (word ∷ rest) ≡ Some (commands.Linked linked) → AreLinked rest linked.check
linked_told word rest linked is = linked_by word rest linked (bytes_eq word (codes "check")) is
