-- The unit of a method whose tests are passed is well formed, and can be run.
use Rattle.std.proofs.Common.{◌≡◌, ℕ, ◌+◌, ◌≤◌, not, ◌||◌, nat_le, List, [], ◌∷◌, ◌++◌, length, map, filter_map, refl, sym, ap, subst, ◌∙◌, arith}
use Rattle.std.specs.Prelude.{Option, Some, None, is_some, option_map}
use Rattle.std.specs.List.{AllByRecursion, list_all}
use Rattle.std.proofs.lemmas.Bool.{leb-true}
use Rattle.std.proofs.lemmas.List.{length-map}
use Rattle.asm_image.specs.declared.method_row.MethodRow.{MethodRow}
use Rattle.cc_base.specs.Tests.{first_of, must}
use Rattle.cc_base.proofs.TestLemmas.{must_hold, none_before, none_behind, none_here}
use Rattle.cil_model.specs.ClauseTrees.{clauses_in}
use Rattle.cil_model.specs.Limits.{MAX_BLOCKS, MAX_CODE_BYTES, MAX_INSTRUCTIONS, MAX_NAME_BYTES, MAX_VARIABLES}
use Rattle.cil_model.specs.Shapes.{shape_of}
use Rattle.cil_model.specs.Bodies.{HasBody}
use Rattle.cil_model.specs.WellFormed.{ClausesWithinLimits, InOrderOfUse, IsWellFormed, called_by, told_by_code}
use Rattle.cil_model.specs.TreeKinds.{IsNumberClause}
use Rattle.cil_model.specs.declared.unit.Unit.{Unit as MethodUnit}
use Rattle.clause_faults.specs.Faults.{first_clause_fault}
use Rattle.flow_graph.proofs.GraphFacts.{blocks_counted}
use Rattle.il_decoder.specs.Body.{body_fault, header_at}
use Rattle.il_decoder.specs.declared.body.Header.{Header}
use Rattle.method_code.specs.OfMethods.{args_of, result_of, told_clauses}
use Rattle.unit_builder.specs.Scopes.{Scope}
use Rattle.method_code.specs.Meanings.{HasSmallNumbers}
use Rattle.method_unit.specs.UnitFile.{clause_told}
use Rattle.method_unit.specs.Units.{IsUnit}
use Rattle.method_code.proofs.CalledNumbers.{callees_in_order}
use Rattle.unit_builder.proofs.ClauseFacts.{told_again}
use Rattle.unit_builder.proofs.HeaderFacts.{header_is, header_there, told_short}
use Rattle.unit_builder.proofs.NameFacts.{name_fits}
use Rattle.unit_builder.proofs.SignatureFacts.{arguments_few, locals_few}
use Rattle.unit_builder.proofs.TokenTests.{tokens_named}
use Rattle.unit_builder.specs.Bodies.{callee_keys, decoded_instrs, header_of, il_fault, locals_named, locals_told, unit_instrs}
use Rattle.unit_builder.specs.Callees.{unit_name}
use Rattle.unit_builder.specs.Making.{HasParts, IsMade}
use Rattle.unit_builder.specs.Outcomes.{unit_of}
use Rattle.unit_builder.specs.Reasons.{blocks_in, code_tests, has_none, has_short_name, header_tests, kind_tests, name_test, own_tests, reason_tests, row_tests, token_tests, unit_shape, variable_count}
use Rattle.unit_builder.specs.Rows.{IsRowOf}
use Rattle.unit_builder.specs.declared.reason.Reason.{Reason}
use Rattle.unit_builder.specs.declared.reason.Reason.TheVariants.{LocalType, LocalsNotZero, Section, TooLarge, Code, Clauses}
use Rattle.cil_model.proofs.WrittenClauses.{as_written}

none_of : {X Y : Type 0} (f : X → Y) (x : Option X) → option_map f x ≡ None → x ≡ None
none_of f None none = refl
none_of f (Some x) none = absurd cc

-- ---- what tests tell that are passed

-- The limits that the header keeps.
record HeaderPassed (s : Scope) (method : MethodRow) (header : Header) : Type 0 where
  code : header.code_len ≤ MAX_CODE_BYTES
  variables : variable_count s.asm method header ≤ MAX_VARIABLES
  name : length (unit_name method) ≤ MAX_NAME_BYTES

within : (n most : ℕ) (reason : Reason) → must (nat_le n most) reason ≡ None → n ≤ most
within n most reason none = leb-true n most ((must_hold (nat_le n most) reason).0 none)

header_passed : (s : Scope) (method : MethodRow) (header : Header) → first_of (header_tests s.asm method (Some header)) ≡ None → HeaderPassed s method header
unfolding header_tests
header_passed s method header none =
    let code = must (nat_le header.code_len MAX_CODE_BYTES) TooLarge in
    let variables = must (nat_le (variable_count s.asm method header) MAX_VARIABLES) TooLarge in
    let prefix =
    must (is_some (locals_named s.asm header)) LocalType ∷ must (has_none (locals_told s.asm header) || header.init_locals) LocalsNotZero ∷ must (not header.more_sections) Section ∷ [] in
    let behind = none_behind prefix (code ∷ variables ∷ name_test method ∷ []) none in
    let behind_code = none_behind (code ∷ []) (variables ∷ name_test method ∷ []) behind in
    let behind_variables = none_behind (variables ∷ []) (name_test method ∷ []) behind_code in
    record {
      code = within header.code_len MAX_CODE_BYTES TooLarge (none_here code _ behind);
      variables = within (variable_count s.asm method header) MAX_VARIABLES TooLarge (none_here variables _ behind_code);
      name = within (length (unit_name method)) MAX_NAME_BYTES TooLarge (none_here (name_test method) [] behind_variables);
    }

-- What the code keeps.
record CodePassed (s : Scope) (method : MethodRow) : Type 0 where
  few : length (unit_instrs s method) ≤ MAX_INSTRUCTIONS
  clauses : first_clause_fault (unit_instrs s method) (unit_shape s method) ≡ None
  blocks : blocks_in (unit_instrs s method) ≤ MAX_BLOCKS
  tokens : first_of (token_tests (length (callee_keys s method)) (unit_instrs s method)) ≡ None

code_passed : (s : Scope) (method : MethodRow) → first_of (code_tests s (unit_shape s method) (callee_keys s method) (unit_instrs s method)) ≡ None → CodePassed s method
unfolding code_tests
code_passed s method none =
    let is = unit_instrs s method in
    let callees = callee_keys s method in
    let count = must (nat_le (length is) MAX_INSTRUCTIONS) TooLarge in
    let names = must (list_all (has_short_name s.info) callees) TooLarge in
    let clauses = option_map Clauses (first_clause_fault is (unit_shape s method)) in
    let blocks = must (nat_le (blocks_in is) MAX_BLOCKS) TooLarge in
    let tokens = token_tests (length callees) is in
    let behind_names = none_behind (count ∷ names ∷ []) (clauses ∷ blocks ∷ tokens) none in
    let behind_clauses = none_behind (clauses ∷ []) (blocks ∷ tokens) behind_names in
    let behind_blocks = none_behind (blocks ∷ []) tokens behind_clauses in
    record {
      few = within (length is) MAX_INSTRUCTIONS TooLarge (none_here count _ none);
      clauses = none_of _ _ (none_here clauses _ behind_names);
      blocks = within (blocks_in is) MAX_BLOCKS TooLarge (none_here blocks _ behind_clauses);
      tokens = behind_blocks;
    }

-- All of it.
record Passed (s : Scope) (method : MethodRow) : Type 0 where
  header : Header
  there : header_at s.asm method.rva ≡ Some header
  told : HeaderPassed s method header
  code : CodePassed s method

passed : (s : Scope) (method : MethodRow) → first_of (reason_tests s method) ≡ None → Passed s method
unfolding reason_tests own_tests il_fault
passed s method none =
    let header_part = header_tests s.asm method (header_at s.asm method.rva) in
    let own = own_tests s method in
    let last = kind_tests s method in
    let il = option_map Code (il_fault s.asm method) in
    let codes = code_tests s (unit_shape s method) (callee_keys s method) (unit_instrs s method) in
    let behind_row = none_behind (row_tests method) (header_part ++ (own ++ last)) none in
    let headers = none_before header_part (own ++ last) behind_row in
    let owned : first_of (own_tests s method) ≡ None = none_before own last (none_behind header_part (own ++ last) behind_row) in
    let faultless : il_fault s.asm method ≡ None = none_of _ _ (none_here il codes owned) in
    let whole : body_fault s.asm method.rva ≡ None = none_here (body_fault s.asm method.rva) _ faultless in
    let found = header_there s.asm method.rva whole in
    record {
      header = found.0;
      there = found.1;
      told = header_passed s method found.0 (subst (λ (h : Option Header). first_of (header_tests s.asm method h) ≡ None) found.1 headers);
      code = code_passed s method (none_behind (il ∷ []) codes owned);
    }

-- ---- the unit

in_order : (s : Scope) (method : MethodRow) → HasSmallNumbers s.meaning
    → InOrderOfUse 0 (length (callee_keys s method)) (filter_map (λ i. called_by i.op) (unit_instrs s method))
unfolding callee_keys unit_instrs
in_order s method small = callees_in_order s.meaning (decoded_instrs s.asm method) small

module _ (s : Scope) (method : MethodRow) (unit : MethodUnit) (small : HasSmallNumbers s.meaning) (row : IsRowOf s.asm method) (parts : HasParts s method unit) where
  clauses_are : told_clauses (unit_instrs s method) ≡ unit.clauses
  clauses_are = ap (filter_map clause_told) parts.contracts.told.told ∙ told_again unit.clauses

  unit_is : unit ≡ unit_of s method
  unfolding unit_of
  unit_is = λ i. record {
    name = parts.name i;
    result = parts.result i;
    args = parts.args i;
    locals = parts.locals i;
    max_stack = parts.max_stack i;
    callees = parts.callees.infos_are i;
    code = parts.code i;
    clauses = sym clauses_are i;
    body_start = parts.contracts.told.body i;
    instrs = parts.instrs i;
  }

  told_are : clauses_in (unit_of s method).instrs ≡ map told_by_code (unit_of s method).clauses
  unfolding unit_of
  told_are = parts.contracts.told.told ∙ ap (map told_by_code) (sym clauses_are)

  well_formed : first_of (reason_tests s method) ≡ None → IsWellFormed (unit_of s method)
  unfolding unit_of unit_shape
  well_formed none =
      let tests = passed s method none in
      let args = arguments_few s.asm method row in
      let header : header_of s.asm method ≡ tests.header = header_is s.asm method tests.header tests.there in
      let locals = locals_few s.asm (header_of s.asm method) in
      let short = told_short s.asm method tests.header tests.there in
      let stacks = parts.kinds.0 in
      let callees : length (map _ (callee_keys s method)) ≡ length (callee_keys s method) = length-map (callee_keys s method) _ in
      record {
        name = name_fits s.asm method row tests.told.name;
        code = parts.decoded.spelled;
        body = refl;
        args = args.0;
        locals = locals.0;
        named = tokens_named (length (callee_keys s method)) (unit_instrs s method) tests.code.tokens;
        clauses = as_written (unit_of s method).instrs (unit_of s method).clauses told_are;
        order = subst (λ (n : ℕ). InOrderOfUse 0 n (filter_map (λ i. called_by i.op) (unit_instrs s method))) (sym callees) (in_order s method small);
        callees = subst (AllByRecursion _) parts.callees.infos_are parts.callees.each;
        numbers = subst (AllByRecursion (IsNumberClause (args_of method.sig.types) (result_of method.sig.types))) (sym clauses_are) (parts.contracts.numbers (unit_shape s method) stacks (record { result = refl; args = refl }) parts.kinds.1);
        runs = record {
          stacks = stacks;
          kinds = parts.kinds.1;
          body = subst (HasBody (unit_instrs s method) stacks) parts.contracts.told.body
              (parts.contracts.body (unit_shape s method) stacks (record { result = refl; args = refl }) parts.kinds.1);
        };
        limits = record {
          code = let long = parts.decoded.long in let code = tests.told.code in omega (arith, long, short, code);
          instructions = tests.code.few;
          blocks = omega (arith, blocks_counted (unit_of s method), tests.code.blocks);
          variables = subst (λ (h : Header). length (args_of method.sig.types) + length (locals_told s.asm h) + h.max_stack ≤ MAX_VARIABLES) (sym header) tests.told.variables;
          clauses = subst ClausesWithinLimits (sym clauses_are) parts.contracts.limits;
        };
      }

  no_clause_fault : first_of (reason_tests s method) ≡ None → first_clause_fault (unit_of s method).instrs (shape_of (unit_of s method)) ≡ None
  unfolding unit_of unit_shape
  no_clause_fault none = (passed s method none).code.clauses

  pub unit_made : first_of (reason_tests s method) ≡ None → IsMade s method unit
  unit_made none =
      let is_unit : IsUnit (unit_of s method) = record { well_formed = well_formed none; clauses = no_clause_fault none } in
      record {
        same = unit_is;
        is_unit = subst IsUnit (sym unit_is) is_unit;
      }
