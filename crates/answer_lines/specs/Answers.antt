-- What the program answers: what is written to the two sinks, and the status.
use Rattle.std.specs.Prelude.{ℕ, List, [], ◌++◌, codes}
use Rattle.cc_base.specs.Digits.{hex}
use Rattle.cc_base.specs.Escapes.{escaped}

-- What is written to the two sinks, and the status.
pub record Answer : Type 0 where
  pub out : List ℕ
  pub err : List ℕ
  pub status : ℕ

abbrev pub error_line : List ℕ → List ℕ
error_line text = codes "cccheck: " ++ text ++ codes "\n"

abbrev pub USAGE : List ℕ
USAGE = error_line (codes "usage: check FILE.. [--cache F] [--show] [--proof F] [--ref FILE].. [--infer] | verify FILE F | run FILE METHOD ARG.. [--steps N] | list FILE | il FILE METHOD | unit FILE | gen SEED COUNT | refute FILE METHOD [--runs N]")

abbrev pub missing_line : List ℕ → List ℕ
missing_line name = error_line (codes "missing file " ++ escaped name)

abbrev pub unread_line : List ℕ → List ℕ
unread_line name = error_line (codes "cannot read " ++ escaped name)

abbrev pub refused_line : List ℕ → List ℕ → ℕ → List ℕ
refused_line name fault at = error_line (codes "refused " ++ escaped name ++ codes ": " ++ fault ++ codes " at " ++ hex 8 at)

-- A cache that is refused, with the words of its fault.
abbrev pub cache_line : List ℕ → List ℕ → List ℕ
cache_line name fault = error_line (codes "cache " ++ escaped name ++ codes ": " ++ fault)

abbrev pub misfit_line : List ℕ → List ℕ
misfit_line reason = error_line (codes "does not fit: " ++ reason)

abbrev pub UNWRITTEN_LINE : List ℕ
UNWRITTEN_LINE = error_line (codes "cannot write")

abbrev pub NO_MEMORY_LINE : List ℕ
NO_MEMORY_LINE = error_line (codes "no memory")

-- An answer on the sink of errors alone.
abbrev pub error_answer : ℕ → List ℕ → Answer
error_answer status line = record { out = []; err = line; status = status }

-- A text on the sink of output alone.
abbrev pub output_answer : ℕ → List ℕ → Answer
output_answer status text = record { out = text; err = []; status = status }

-- A file of this name is refused, with the words of its fault and the offset.
abbrev pub refused_answer : List ℕ → List ℕ → ℕ → Answer
refused_answer name fault at = error_answer 5 (refused_line name fault at)

-- The answer where the words name no method that can be shown.
abbrev pub misfit_answer : List ℕ → Answer
misfit_answer reason = error_answer 11 (misfit_line reason)
