-- What tests tell that are passed, to the steps after them.
use Rattle.std.proofs.Common.{◌≡◌, ℕ, true, not, nat_le, List, [], ◌∷◌, ◌∙◌}
use Rattle.std.specs.Prelude.{None, Some, option_map, length}
use Rattle.std.specs.List.{list_all}
use Rattle.asm_image.specs.Bodies.{has_il_body}
use Rattle.asm_image.specs.declared.method_row.MethodRow.{MethodRow}
use Rattle.cc_base.specs.Tests.{first_of, must}
use Rattle.cc_base.proofs.TestLemmas.{first_of-append_none, first_of-append_some, must_hold, none_behind, none_here}
use Rattle.il_decoder.specs.Body.{header_at}
use Rattle.unit_builder.specs.Scopes.{Scope}
use Rattle.unit_builder.specs.declared.reason.Reason.{Reason}
use Rattle.cil_model.specs.Limits.{MAX_INSTRUCTIONS}
use Rattle.unit_builder.specs.Callable.{are_known, is_static}
use Rattle.unit_builder.specs.Bodies.{callee_keys, il_fault, unit_instrs}
use Rattle.unit_builder.specs.Reasons.{code_tests, has_short_name, header_tests, kind_tests, own_tests, reason_tests, row_tests}
use Rattle.unit_builder.specs.declared.reason.Reason.TheVariants.{Instance, Generic, NoBody, SignatureType, TooLarge, Code}

-- A method that passes the tests of its row has a body of IL.
pub row_body : (method : MethodRow) → first_of (row_tests method) ≡ None → has_il_body method ≡ true
unfolding row_tests
row_body method none =
    let prefix = must (is_static method) Instance ∷ must (not method.sig.generic) Generic ∷ [] in
    let body = must (has_il_body method) NoBody in
    (must_hold (has_il_body method) NoBody).0 (none_here body (must (are_known method.sig.types) SignatureType ∷ []) (none_behind prefix (body ∷ must (are_known method.sig.types) SignatureType ∷ []) none))

-- The callees of code that passes its tests have names that fit.
pub own_short : (s : Scope) (method : MethodRow) → first_of (own_tests s method) ≡ None → list_all (has_short_name s.info) (callee_keys s method) ≡ true
unfolding own_tests code_tests
own_short s method none =
    let il = option_map Code (il_fault s.asm method) in
    let count = must (nat_le (length (unit_instrs s method)) MAX_INSTRUCTIONS) TooLarge in
    let names = must (list_all (has_short_name s.info) (callee_keys s method)) TooLarge in
    (must_hold (list_all (has_short_name s.info) (callee_keys s method)) TooLarge).0 (none_here names _ (none_behind (il ∷ count ∷ []) (names ∷ _) none))

-- The fault of the method's own code is the first, where the row and the header have none.
pub own_first : (s : Scope) (method : MethodRow) (reason : Reason) → first_of (row_tests method) ≡ None → first_of (header_tests s.asm method (header_at s.asm method.rva)) ≡ None
    → first_of (own_tests s method) ≡ Some reason → first_of (reason_tests s method) ≡ Some reason
unfolding reason_tests
own_first s method reason row header some =
    first_of-append_none (row_tests method) _ row
    ∙ (first_of-append_none (header_tests s.asm method (header_at s.asm method.rva)) _ header ∙ first_of-append_some (own_tests s method) (kind_tests s method) reason some)
