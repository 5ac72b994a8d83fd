-- How many verdicts are proved.
use Rattle.std.specs.Prelude.{ℕ, Bool, List, count_by}
use Rattle.std.specs.List.{list_all}
use Rattle.invariant_checker.specs.declared.verdict.Verdict.{Verdict}

abbrev pub all_proved : List Verdict → Bool
all_proved found = list_all (λ v. v.proved) found

abbrev pub proved_count : List Verdict → ℕ
proved_count found = count_by (λ v. v.proved) found
