-- The indexes that a command uses are those of its files, of its cache and of its proof file.
use Rattle.std.proofs.Common.{ℕ, ◌<◌, List, [], ◌∷◌, ◌++◌, Option, Some, None, option_to_list}
use Rattle.std.specs.Prelude.{All, IfSome}
use Rattle.std.specs.List.{AllByRecursion}
use Rattle.std.proofs.lemmas.List.Elements.{All-from_recursion, recursion_from_All}
use Rattle.command_words.specs.Words.{cache_index, check_files, file_indexes, linked_files, proof_index, used_indexes}
use Rattle.command_words.specs.declared.command.Command.{Command}
use Rattle.command_words.specs.declared.command.Command.TheVariants as commands

module _ (limit : ℕ) where
  abbrev IsBelow : ℕ → Type 0
  IsBelow index = index < limit

  first_part : (xs ys : List ℕ) → AllByRecursion IsBelow (xs ++ ys) → AllByRecursion IsBelow xs
  first_part [] ys all = tt
  first_part (x ∷ xs) ys all = (all.0, first_part xs ys all.1)

  last_part : (xs ys : List ℕ) → AllByRecursion IsBelow (xs ++ ys) → AllByRecursion IsBelow ys
  last_part [] ys all = all
  last_part (x ∷ xs) ys all = last_part xs ys all.1

  first_alone : (x : ℕ) (xs : List ℕ) → AllByRecursion IsBelow (x ∷ xs) → AllByRecursion IsBelow (x ∷ [])
  first_alone x xs all = (all.0, tt)

  one_below : (index : Option ℕ) → AllByRecursion IsBelow (option_to_list index) → IfSome index IsBelow
  one_below None all = tt
  one_below (Some index) all = all.0

  files_below : (command : Command) → AllByRecursion IsBelow (used_indexes command) → AllByRecursion IsBelow (file_indexes command)
  files_below (commands.Unit file) all = all
  files_below (commands.List file) all = all
  files_below (commands.Il file method) all = first_alone file (method ∷ []) all
  files_below (commands.Check check) all =
      first_part (check_files check) (option_to_list check.cache) (first_part (check_files check ++ option_to_list check.cache) (option_to_list check.proof) all)
  files_below (commands.Linked linked) all =
      first_part (linked_files linked) (option_to_list linked.check.cache)
      (first_part (linked_files linked ++ option_to_list linked.check.cache) (option_to_list linked.check.proof) all)
  files_below (commands.Verify file proof) all = all
  files_below (commands.Run run) all = first_alone run.file (run.method ∷ []) all
  files_below (commands.Refute file method runs) all = first_alone file (method ∷ []) all
  files_below (commands.Gen seed count) all = tt

  cache_below : (command : Command) → AllByRecursion IsBelow (used_indexes command) → IfSome (cache_index command) IsBelow
  cache_below (commands.Unit file) all = tt
  cache_below (commands.List file) all = tt
  cache_below (commands.Il file method) all = tt
  cache_below (commands.Check check) all =
      one_below check.cache
      (last_part (check_files check) (option_to_list check.cache) (first_part (check_files check ++ option_to_list check.cache) (option_to_list check.proof) all))
  cache_below (commands.Linked linked) all =
      one_below linked.check.cache
      (last_part (linked_files linked) (option_to_list linked.check.cache)
      (first_part (linked_files linked ++ option_to_list linked.check.cache) (option_to_list linked.check.proof) all))
  cache_below (commands.Verify file proof) all = tt
  cache_below (commands.Run run) all = tt
  cache_below (commands.Refute file method runs) all = tt
  cache_below (commands.Gen seed count) all = tt

  proof_below : (command : Command) → AllByRecursion IsBelow (used_indexes command) → IfSome (proof_index command) IsBelow
  proof_below (commands.Unit file) all = tt
  proof_below (commands.List file) all = tt
  proof_below (commands.Il file method) all = tt
  proof_below (commands.Check check) all =
      one_below check.proof (last_part (check_files check ++ option_to_list check.cache) (option_to_list check.proof) all)
  proof_below (commands.Linked linked) all =
      one_below linked.check.proof (last_part (linked_files linked ++ option_to_list linked.check.cache) (option_to_list linked.check.proof) all)
  proof_below (commands.Verify file proof) all = tt
  proof_below (commands.Run run) all = tt
  proof_below (commands.Refute file method runs) all = tt
  proof_below (commands.Gen seed count) all = tt

  -- Those of its files are below what all are below.
  pub files_used : (command : Command) → All IsBelow (used_indexes command) → All IsBelow (file_indexes command)
  files_used command used = All-from_recursion IsBelow (file_indexes command) (files_below command (recursion_from_All IsBelow (used_indexes command) used))

  -- So is that of its cache.
  pub cache_used : (command : Command) → All IsBelow (used_indexes command) → IfSome (cache_index command) IsBelow
  cache_used command used = cache_below command (recursion_from_All IsBelow (used_indexes command) used)

  -- So is that of the proof file that it writes.
  pub proof_used : (command : Command) → All IsBelow (used_indexes command) → IfSome (proof_index command) IsBelow
  proof_used command used = proof_below command (recursion_from_All IsBelow (used_indexes command) used)
