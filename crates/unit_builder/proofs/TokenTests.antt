-- Where the tests of tokens are passed, each number of the code names something.
use Rattle.std.proofs.Common.{◌≡◌, ℕ, List, [], ◌∷◌, ◌∙◌}
use Rattle.std.specs.Prelude.{None}
use Rattle.std.specs.List.{AllByRecursion}
use Rattle.cc_base.specs.Tests.{first_of}
use Rattle.cc_base.proofs.TestLemmas.{first_of-nil, must-passed, must_hold, none_behind, none_here}
use Rattle.cil_model.specs.WellFormed.{NamesSomething}
use Rattle.cil_model.specs.declared.instruction.Instr.{Instr}
use Rattle.method_unit.specs.UnitFile.{form_at, names_something, number_tests}
use Rattle.method_unit.proofs.OrderOfUse.{numbers_are_named}
use Rattle.unit_builder.specs.Reasons.{token_test, token_tests}
use Rattle.unit_builder.specs.declared.reason.Reason.TheVariants.{Token}

-- They are the tests of a unit file, with another fault.
same_tests : (callees : ℕ) (is : List Instr) → first_of (token_tests callees is) ≡ None → first_of (number_tests 0 callees is) ≡ None
unfolding token_tests number_tests first_of
same_tests callees [] none = first_of-nil
same_tests callees (i ∷ is) none =
    let named = (must_hold (names_something callees i.op) (Token i.at)).0 (none_here (token_test callees i) (token_tests callees is) none) in
    must-passed (names_something callees i.op) (form_at 0 i.at) (number_tests 0 callees is) named ∙ same_tests callees is (none_behind (token_test callees i ∷ []) (token_tests callees is) none)

pub tokens_named : (callees : ℕ) (is : List Instr) → first_of (token_tests callees is) ≡ None → AllByRecursion (λ i. NamesSomething i.op) is
tokens_named callees is none = numbers_are_named 0 callees is (same_tests callees is none)
