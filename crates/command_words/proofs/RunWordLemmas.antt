-- Words and their bytes.
use Rattle.std.proofs.Common.{◌≡◌, ℕ, ◌-◌, ◌≤◌, All, Bool, true, List, [], ◌∷◌, ◌==◌, length, take, drop, get_or, String, Global, if◌then◌else◌, Option, Some, None, codes, ap, sym, ◌∙◌, arith}
use Rattle.std.specs.Bool.{IsTrue}
use Rattle.std.specs.Option.{IfSome}
use Rattle.std.specs.List.{list_all}
use Rattle.std.specs.Str.{bytes_eq}
use Rattle.std.specs.String.{string_bytes}
use Rattle.std.proofs.lemmas.List.{drop-map, length-map, take-map}
use Rattle.std.proofs.lemmas.List.Sums.{AllPass-from_list_all}
use Rattle.run_arguments.specs.Arguments.{is_argument}
use Rattle.command_words.specs.declared.command.Command.{Command}
use Rattle.command_words.specs.declared.command.Command.TheVariants as commands
use Rattle.command_words.proofs.WordBytes.{all_words}
use Rattle.command_words.specs.Words.{HasArguments, IfRun, command_of_three, other_command, refute_command, run_args, run_command, tells_steps, words_bytes}

-- The bytes of some words on the way.
pub words_between : (n first : ℕ) (words : List (String Global)) → words_bytes (take n (drop first words)) ≡ take n (drop first (words_bytes words))
words_between n first words =
    sym (take-map (λ (word : String Global). string_bytes word) n (drop first words)) ∙ ap (take n) (sym (drop-map (λ (word : String Global). string_bytes word) first words))

-- The words of a run's arguments, where two more follow.
pub args_between : (words : List (String Global)) → tells_steps (words_bytes words) ≡ true → words_bytes (take (length words - 2 - 3) (drop 3 words)) ≡ run_args (words_bytes words)
args_between words tells =
    words_between (length words - 2 - 3) 3 words
    ∙ ap (λ n. take (n - 2 - 3) (drop 3 (words_bytes words))) (sym (length-map words (λ (word : String Global). string_bytes word)))
    ∙ ap (λ b. take ((if b then length (words_bytes words) - 2 else length (words_bytes words)) - 3) (drop 3 (words_bytes words))) (sym tells)

-- Words on the way whose bytes are arguments are arguments.
pub are_arguments : (n first : ℕ) (words : List (String Global)) → list_all is_argument (take n (drop first (words_bytes words))) ≡ true
    → All (λ word. IsTrue (is_argument (string_bytes word))) (take n (drop first words))
are_arguments n first words all =
    AllPass-from_list_all (λ (word : String Global). is_argument (string_bytes word)) (take n (drop first words))
    (all_words is_argument (take n (drop first words)) ∙ ap (list_all is_argument) (words_between n first words) ∙ all)

-- A command that is no run has no arguments to tell.
no_run : (command : Command) (words : List (List ℕ)) → IfRun command (λ run. ⊥) → IfRun command (λ run. HasArguments run words)
no_run (commands.Unit file) words none = tt
no_run (commands.List file) words none = tt
no_run (commands.Il file method) words none = tt
no_run (commands.Check check) words none = tt
no_run (commands.Linked linked) words none = tt
no_run (commands.Verify file proof) words none = tt
no_run (commands.Run run) words none = absurd none
no_run (commands.Refute file method runs) words none = tt
no_run (commands.Gen seed count) words none = tt

pub none_runs : (command : Option Command) (words : List (List ℕ)) → IfSome command (λ some. IfRun some (λ run. ⊥)) → IfSome command (λ some. IfRun some (λ run. HasArguments run words))
none_runs None words none = tt
none_runs (Some command) words none = no_run command words none

-- Three words or more of which the first is `run` are those of a run, if they are a command.
pub run_words : (words : List (String Global)) (word : String Global) → 3 ≤ length words → word ≡ get_or words 0 word → bytes_eq (string_bytes word) (codes "run") ≡ true
    → run_command (words_bytes words) ≡ other_command (words_bytes words)
run_words [] word long first is = absurd (omega (arith, long))
run_words (a ∷ []) word long first is = absurd (omega (arith, long))
run_words (a ∷ b ∷ []) word long first is = absurd (omega (arith, long))
run_words (a ∷ b ∷ c ∷ others) word long first is = told (ap (λ (w : String Global). bytes_eq (string_bytes w) (codes "run")) (sym first) ∙ is)
  where
    others_told : Option Command
    others_told =
        if bytes_eq (string_bytes a) (codes "refute") then refute_command (string_bytes b) (string_bytes c) (words_bytes others)
        else if length (words_bytes others) == 0 then command_of_three (string_bytes a) (string_bytes b) (string_bytes c)
        else None

    told : {t : Bool} → t ≡ true → run_command (words_bytes (a ∷ b ∷ c ∷ others)) ≡ (if t then run_command (words_bytes (a ∷ b ∷ c ∷ others)) else others_told)
    told is = ap (λ t. if t then run_command (words_bytes (a ∷ b ∷ c ∷ others)) else others_told) (sym is)
