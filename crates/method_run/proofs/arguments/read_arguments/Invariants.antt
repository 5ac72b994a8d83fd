use Rattle.std.proofs.Common.{◌≡◌, ◌++◌, drop, map, string_bytes}
use Rattle.method_run.specs.ArgumentWords.{arguments_of}
use Rattle.method_run.proofs.arguments.read_arguments.Given as goal

abbrev pub invariant-loop-word : goal.invariant-loop-word
invariant-loop-word l =
    arguments_of l.fn.types (map (λ word. string_bytes word) l.words)
    ≡ l.args.items ++ arguments_of l.rest (map (λ word. string_bytes word) (drop l.word-index l.words))
