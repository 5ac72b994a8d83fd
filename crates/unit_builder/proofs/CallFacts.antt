-- What a method that is analysed tells of those that it calls, and of itself to its callers.
use Rattle.std.proofs.Common.{◌≡◌, ℕ, zero, suc, ◌<◌, ◌%◌, ◌^◌, Bool, true, false, nat_le, ◌==◌, List, [], ◌∷◌, ◌++◌, map, get_or, length, Contains, Option, Some, None, is_some, IsSome, slice_get, Result, Ok, Err, IfOk, Vec, Global, ◌-◌, option_map, unwrap_or, cond, refl, sym, ap, ◌∙◌, subst, arith}
use Rattle.std.specs.List.{AllByRecursion, cons_option, list_all, list_any}
use Rattle.std.specs.Option.{option_and_then, option_map_or}
use Rattle.std.proofs.lemmas.Bool.{and_from}
use Rattle.std.proofs.lemmas.Option.{get_or_from_slice_get, same_Some, slice_get-get_or}
use Rattle.asm_image.specs.Bodies.{has_il_body, method_of}
use Rattle.asm_image.specs.Calls.{callee_of}
use Rattle.asm_image.specs.declared.callee.Callee.{Callee}
use Rattle.asm_image.specs.declared.callee.Callee.TheVariants.{Method, ContractCall, Outside}
use Rattle.asm_image.specs.Rows.{methods_of}
use Rattle.asm_image.specs.declared.method_row.MethodRow.{MethodRow}
use Rattle.cc_base.proofs.TestLemmas.{none_before, none_behind, none_here}
use Rattle.cc_base.specs.Tests.{first_of, must}
use Rattle.cc_base.specs.declared.token.Token.{Token as MethodToken}
use Rattle.cil_model.specs.Limits.{MAX_BLOCKS, MAX_INSTRUCTIONS}
use Rattle.cil_model.specs.TreeKinds.{IsNumberClause}
use Rattle.cil_model.specs.Worlds.{info_of}
use Rattle.cil_model.specs.declared.clause.Clause.{Clause}
use Rattle.cil_model.specs.declared.instruction.Instr.{Instr}
use Rattle.cil_model.specs.declared.instruction.Op.{Op}
use Rattle.cil_model.specs.declared.instruction.Op.TheVariants as ops
use Rattle.cil_model.specs.declared.shape.Shape.{Shape}
use Rattle.cil_model.specs.declared.unit.CalleeInfo.{CalleeInfo}
use Rattle.cil_model.specs.declared.unit.Unit.{Unit as MethodUnit}
use Rattle.clause_faults.specs.Faults.{first_clause_fault}
use Rattle.il_decoder.specs.Body.{body_code, body_fault, code_at, code_fault, header_at}
use Rattle.il_decoder.specs.Decoding.{code_tests as decoding_tests}
use Rattle.il_decoder.specs.declared.body.Header.{Header}
use Rattle.il_decoder.specs.declared.fault.IlFault.TheVariants.{Short}
use Rattle.method_code.proofs.BareShapes.{bare_faults}
use Rattle.method_code.specs.Called.{called_by_op, callee_key, callees_of, calls_in as calls_in_code}
use Rattle.method_code.specs.OfMethods.{args_of, bare_shape, clauses_of as clauses_with, code_of, instrs_of, is_number, is_number_clause, known_clauses, result_of, told_clauses}
use Rattle.method_code.specs.Reading.{with_instrs}
use Rattle.method_code.specs.declared.call.Call.TheVariants as calls
use Rattle.method_code.specs.declared.code_reader.MethodCode.{MethodCode}
use Rattle.method_unit.specs.UnitFile.{first_uses}
use Rattle.pe_reader.specs.Addresses.{metadata}
use Rattle.asm_links.specs.Targets.{target}
use Rattle.unit_builder.specs.Bodies.{callee_keys, callee_tokens, clauses_of, code_told, decoded_instrs, il_fault, unit_instrs}
use Rattle.unit_builder.specs.Callees.{info_with, no_info}
use Rattle.unit_builder.specs.Graphs.{calls_in, calls_of_method, unit_in}
use Rattle.unit_builder.specs.Linked.{call_of_key, call_to, linked, linked_call, linked_meaning, linked_meaning_by, linked_method}
use Rattle.unit_builder.specs.Scopes.{Files, Scope, alone, file_of, info_at, info_in, key_at, scope_in, scope_of, token_in}
use Rattle.method_unit.specs.Units.{IsUnit}
use Rattle.unit_builder.specs.Outcomes.{outcome_by, outcome_in, outcome_of, unit_of}
use Rattle.unit_builder.specs.Reasons.{blocks_in, has_short_name, token_tests, code_tests, header_tests, kind_tests, own_tests, reason_tests, row_tests, unit_shape}
use Rattle.unit_builder.proofs.CodeFacts.{whole_told}
use Rattle.unit_builder.proofs.KeyFacts.{small_key}
use Rattle.unit_builder.proofs.VisitLemmas.{token_numbers}
use Rattle.unit_builder.proofs.TestParts.{row_body}
use Rattle.unit_builder.proofs.TokenLemmas.{token_at}
use Rattle.unit_builder.specs.Callable.{is_callable}
use Rattle.unit_builder.specs.Meanings.{as_token, call_by, called}
use Rattle.unit_builder.specs.Met.{first_method}
use Rattle.unit_builder.specs.Slots.{IsSpent, IsWhole}
use Rattle.unit_builder.specs.Walks.{body_calls, calls_by, calls_of, numbers, unit_at, unit_by}
use Rattle.unit_builder.specs.declared.entry.Outcome.{Outcome}
use Rattle.unit_builder.specs.declared.entry.Outcome.TheVariants.{Analysed, Skipped}
use Rattle.unit_builder.specs.declared.reason.Reason.{Reason}
use Rattle.unit_builder.specs.declared.reason.Reason.TheVariants as reasons

-- ---- what is called is there

each_at : (P : ℕ → Type 0) (ns : List ℕ) (n place : ℕ) → AllByRecursion P ns → place < length ns → get_or ns place n ≡ n → P n
each_at P [] n place all lt is = absurd (omega arith)
each_at P (first ∷ ns) n zero all lt is = subst P is all.0
each_at P (first ∷ ns) n (suc place) all lt is = each_at P ns n place all.1 (omega arith) is

used_by : (P : ℕ → Type 0) (known : Bool) (n : ℕ) (others behind : List ℕ) → P n → AllByRecursion P others → AllByRecursion P behind → AllByRecursion P (cond known others (n ∷ behind))
used_by P true n others behind here all rest = all
used_by P false n others behind here all rest = (here, rest)

each_used : (P : ℕ → Type 0) (met ns : List ℕ) → AllByRecursion P ns → AllByRecursion P (first_uses met ns)
each_used P met [] all = tt
each_used P met (n ∷ ns) all =
    used_by P (list_any (λ m. m == n) met) n (first_uses met ns) (first_uses (n ∷ met) ns) all.0 (each_used P met ns all.1) (each_used P (n ∷ met) ns all.1)

-- Each key that a call calls is that of a method.
pub record CallsMethods (files : Files) : Type 0 where
  pub there : (file token key : ℕ) → callee_key ((files.meaning file).call token) ≡ Some key → IsSome (files.method key)

method_there : (asm : List ℕ) (callee : Callee) (n : ℕ) → callee_key (call_by asm callee) ≡ Some n → IsSome (method_of asm (as_token n))
method_there asm (ContractCall operation) n is = absurd cc
method_there asm Outside n is = absurd cc
method_there asm (Method token) n is = there (method_of asm token) refl is where
  there : (found : Option MethodRow) → method_of asm token ≡ found → callee_key (cond (option_map_or is_callable found false) (calls.Callee token.0) calls.Unknown) ≡ Some n → IsSome (method_of asm (as_token n))
  there None none is = absurd cc
  there (Some method) found is = same (is_callable method) is where
    same : (b : Bool) → callee_key (cond b (calls.Callee token.0) calls.Unknown) ≡ Some n → IsSome (method_of asm (as_token n))
    same true is = let number : token.0 ≡ n = cc in subst (λ k. IsSome (method_of asm (as_token k))) number (ap is_some found)
    same false is = absurd cc

pub alone_calls : (asm : List ℕ) → CallsMethods (alone asm)
unfolding called
alone_calls asm = record { there = λ file token key is. method_there asm (callee_of (metadata asm) token) key is }

-- Of linked files.
key_there : (files : List (List ℕ)) (key n : ℕ) → callee_key (call_of_key files key) ≡ Some n → IsSome (linked_method files n)
key_there files key n is = there (linked_method files key) refl is where
  there : (found : Option MethodRow) → linked_method files key ≡ found → callee_key (cond (option_map_or is_callable found false) (calls.Callee key) calls.Unknown) ≡ Some n → IsSome (linked_method files n)
  there None none is = absurd cc
  there (Some method) found is = same (is_callable method) is where
    same : (b : Bool) → callee_key (cond b (calls.Callee key) calls.Unknown) ≡ Some n → IsSome (linked_method files n)
    same true is = let number : key ≡ n = cc in subst (λ k. IsSome (linked_method files k)) number (ap is_some found)
    same false is = absurd cc

home_there : (files : List (List ℕ)) (home : Option (ℕ × MethodToken)) (n : ℕ) → callee_key (call_to files home) ≡ Some n → IsSome (linked_method files n)
home_there files None n is = absurd cc
home_there files (Some home) n is = key_there files (key_at home.0 home.1.0) n is

linked_there : (files : List (List ℕ)) (callee : Callee) (home : Option (ℕ × MethodToken)) (n : ℕ) → callee_key (linked_call files callee home) ≡ Some n → IsSome (linked_method files n)
linked_there files (ContractCall operation) home n is = absurd cc
linked_there files (Method token) home n is = home_there files home n is
linked_there files Outside home n is = home_there files home n is

pub linked_calls_there : (files : List (List ℕ)) → CallsMethods (linked files)
unfolding linked_meaning
linked_calls_there files = record { there = λ file token key is. by file token key (slice_get files file) is } where
  by : (file token key : ℕ) (asm : Option (List ℕ)) → callee_key ((linked_meaning_by files file asm).call token) ≡ Some key → IsSome (linked_method files key)
  by file token key None is = absurd cc
  by file token key (Some asm) is = linked_there files (callee_of (metadata asm) token) (target files file token) key is

module _ (files : Files) (calls_methods : CallsMethods files) (file : ℕ) where
  called_there : (op : Op) (n : ℕ) → called_by_op (files.meaning file) op ≡ Some n → IsSome (files.method n)
  called_there (ops.Call token) n is = calls_methods.there file token n is
  called_there op n is = absurd cc

  each_called : (is : List Instr) → AllByRecursion (λ n. IsSome (files.method n)) (calls_in_code (files.meaning file) is)
  each_called [] = tt
  each_called (i ∷ is) = one (called_by_op (files.meaning file) i.op) (called_there i.op) (each_called is) where
    one : (found : Option ℕ) → ((n : ℕ) → found ≡ Some n → IsSome (files.method n)) → AllByRecursion (λ n. IsSome (files.method n)) (calls_in_code (files.meaning file) is)
        → AllByRecursion (λ n. IsSome (files.method n)) (cons_option found (calls_in_code (files.meaning file) is))
    one None there rest = rest
    one (Some n) there rest = (there n refl, rest)

  pub all_there : (method : MethodRow) → AllByRecursion (λ n. IsSome (files.method n)) (callee_keys (scope_in files file) method)
  unfolding callee_keys
  all_there method =
      each_used (λ n. IsSome (files.method n)) [] (calls_in_code (files.meaning file) (decoded_instrs (files.bytes file) method)) (each_called (decoded_instrs (files.bytes file) method))

  pub key_called : (method : MethodRow) (called : ℕ) → Contains (callee_keys (scope_in files file) method) called → IsSome (files.method called)
  key_called method called there = each_at (λ n. IsSome (files.method n)) (callee_keys (scope_in files file) method) called there.0 (all_there method) there.1 there.2

pub callees-there : (asm : List ℕ) (method : MethodRow) (called : ℕ) → Contains (callee_keys (scope_of asm) method) called → IsSome (method_of asm (as_token called))
callees-there asm method called there = key_called (alone asm) (alone_calls asm) 0 method called there

-- ---- a method that is analysed

analysed_by : (first : Option Reason) (made unit : MethodUnit) → outcome_by first made ≡ Analysed unit → (first ≡ None) × (unit ≡ made)
analysed_by None made unit is = (refl, cc)
analysed_by (Some reason) made unit is = absurd cc

pub analysed_is : (s : Scope) (method : MethodRow) (unit : MethodUnit) → outcome_in s method ≡ Analysed unit → (first_of (reason_tests s method) ≡ None) × (unit ≡ unit_of s method)
unfolding outcome_in
analysed_is s method unit is = analysed_by (first_of (reason_tests s method)) (unit_of s method) unit is

none_of : {X Y : Type 0} (f : X → Y) (x : Option X) → option_map f x ≡ None → x ≡ None
none_of f None none = refl
none_of f (Some x) none = absurd cc

-- Its code is there and reads, and so do its clauses.
pub record HasReadCode (s : Scope) (method : MethodRow) : Type 0 where
  pub body : has_il_body method ≡ true
  pub faultless : il_fault s.asm method ≡ None
  pub clauses : first_clause_fault (unit_instrs s method) (unit_shape s method) ≡ None

pub read_code : (s : Scope) (method : MethodRow) → first_of (reason_tests s method) ≡ None → HasReadCode s method
unfolding reason_tests own_tests code_tests
read_code s method none =
    let is = unit_instrs s method in
    let callees = callee_keys s method in
    let header_part = header_tests s.asm method (header_at s.asm method.rva) in
    let own = own_tests s method in
    let last = kind_tests s method in
    let il = option_map reasons.Code (il_fault s.asm method) in
    let count = must (nat_le (length is) MAX_INSTRUCTIONS) reasons.TooLarge in
    let names = must (list_all (has_short_name s.info) callees) reasons.TooLarge in
    let clauses = option_map reasons.Clauses (first_clause_fault is (unit_shape s method)) in
    let blocks = must (nat_le (blocks_in is) MAX_BLOCKS) reasons.TooLarge in
    let behind_row = none_behind (row_tests method) (header_part ++ (own ++ last)) none in
    let owned : first_of (own_tests s method) ≡ None = none_before own last (none_behind header_part (own ++ last) behind_row) in
    record {
      body = row_body method (none_before (row_tests method) (header_part ++ (own ++ last)) none);
      faultless = none_of reasons.Code (il_fault s.asm method) (none_here il _ owned);
      clauses = none_of reasons.Clauses (first_clause_fault is (unit_shape s method))
          (none_here clauses _ (none_behind (il ∷ count ∷ names ∷ []) (clauses ∷ blocks ∷ token_tests (length callees) is) owned));
    }

-- ---- its clauses

code_by : (s : Scope) (rva : ℕ) (header : Option Header) → code_fault s.asm rva header ≡ None → (code : List ℕ) × (option_and_then (code_at s.asm rva) header ≡ Some code)
code_by s rva None none = absurd cc
code_by s rva (Some header) none = there (code_at s.asm rva header) none where
  there : (found : Option (List ℕ)) → must (is_some found) (Short 0) ≡ None → (code : List ℕ) × (found ≡ Some code)
  there None none = absurd cc
  there (Some code) none = (code, refl)

whole_code : (s : Scope) (method : MethodRow) → has_il_body method ≡ true → body_fault s.asm method.rva ≡ None → (code : List ℕ) × (code_of s.asm method ≡ Some code)
unfolding body_fault body_code
whole_code s method body none = let found = code_by s method.rva (header_at s.asm method.rva) none in (found.0, rw body found.1)

instrs_told : (s : Scope) (method : MethodRow) → has_il_body method ≡ true → il_fault s.asm method ≡ None → instrs_of s.meaning s.asm method ≡ Some (unit_instrs s method)
unfolding instrs_of unit_instrs decoded_instrs code_told il_fault
instrs_told s method body faultless =
    let whole : body_fault s.asm method.rva ≡ None = none_here (body_fault s.asm method.rva) _ faultless in
    let code = whole_code s method body whole in
    let told : first_of (decoding_tests (unwrap_or (code_of s.asm method) [])) ≡ None =
    none_here (first_of (decoding_tests (unwrap_or (code_of s.asm method) []))) [] (none_behind (body_fault s.asm method.rva ∷ []) _ faultless) in
    let none : first_of (decoding_tests code.0) ≡ None = subst (λ (found : Option (List ℕ)). first_of (decoding_tests (unwrap_or found [])) ≡ None) code.1 told in
    rw (code.1, none) refl

each_number : (shape : Shape) (clauses : List Clause) → AllByRecursion (IsNumberClause shape.args shape.result) clauses → list_all (is_number_clause shape) clauses ≡ true
each_number shape [] all = refl
each_number shape (clause ∷ clauses) all = and_from _ _ (ap is_number all.0) (each_number shape clauses all.1)

known_all : (shape : Shape) (is : List Instr) → first_clause_fault is shape ≡ None → list_all (is_number_clause shape) (told_clauses is) ≡ true → known_clauses shape is ≡ told_clauses is
known_all shape is none all = rw (none, all) refl

clauses_told : (s : Scope) (method : MethodRow) → HasReadCode s method
    → AllByRecursion (IsNumberClause (args_of method.sig.types) (result_of method.sig.types)) (told_clauses (unit_instrs s method)) → clauses_of s method ≡ told_clauses (unit_instrs s method)
unfolding clauses_with unit_shape
clauses_told s method read numbers_are =
    let is = unit_instrs s method in
    let none : first_clause_fault is (bare_shape method) ≡ None = bare_faults is (bare_shape method) (unit_shape s method) refl refl ∙ read.clauses in
    ap (λ found. option_map_or (known_clauses (bare_shape method)) found []) (instrs_told s method read.body read.faultless)
    ∙ known_all (bare_shape method) is none (each_number (bare_shape method) (told_clauses is) numbers_are)

-- ---- units and their callers

-- The method of a key that has a unit.
pub analysed_in : (files : Files) (key : ℕ) (unit : MethodUnit) → unit_in files key ≡ Some unit
    → (method : MethodRow) × (files.method key ≡ Some method) × (outcome_in (scope_in files (file_of key)) method ≡ Analysed unit)
unfolding unit_in
analysed_in files key unit is = at (files.method key) is where
  by : (outcome : Outcome) → unit_by outcome ≡ Some unit → outcome ≡ Analysed unit
  by (Analysed made) is = ap Analysed (same_Some made unit is)
  by (Skipped reason) is = absurd cc

  at : (found : Option MethodRow) → option_and_then (λ method. unit_by (outcome_in (scope_in files (file_of key)) method)) found ≡ Some unit
      → (method : MethodRow) × (found ≡ Some method) × (outcome_in (scope_in files (file_of key)) method ≡ Analysed unit)
  at None is = absurd cc
  at (Some method) is = (method, refl, by (outcome_in (scope_in files (file_of key)) method) is)

pub callees_in_unit : (files : Files) (key : ℕ) (unit : MethodUnit) → unit_in files key ≡ Some unit → unit.callees ≡ map (info_in files) (calls_in files key)
unfolding calls_in unit_of
callees_in_unit files key unit is =
    let s = scope_in files (file_of key) in
    let at = analysed_in files key unit is in
    let made = (analysed_is s at.0 unit at.2).1 in
    ap (λ (u : MethodUnit). u.callees) made
    ∙ ap (map (info_in files))
    (ap (calls_by (callee_keys s at.0)) (sym at.2) ∙ ap (λ found. option_map_or (calls_of_method s) found []) (sym at.1))

pub info_in_agrees : (files : Files) (key : ℕ) (unit : MethodUnit) → unit_in files key ≡ Some unit → IsUnit unit → info_in files key ≡ info_of unit
unfolding unit_of
info_in_agrees files key unit is runs =
    let s = scope_in files (file_of key) in
    let at = analysed_in files key unit is in
    let made = analysed_is s at.0 unit at.2 in
    let same_unit : IsUnit (unit_of s at.0) = subst IsUnit made.1 runs in
    let told = clauses_told s at.0 (read_code s at.0 made.0) same_unit.well_formed.numbers in
    ap (λ found. option_map_or (info_at files key) found no_info) at.1
    ∙ ap (info_with at.0) told ∙ ap info_of (sym made.1)

-- Of a file alone.
pub unit_alone : (asm : List ℕ) (token : ℕ) → unit_at asm token ≡ unit_in (alone asm) token
unfolding unit_at unit_in outcome_of
unit_alone asm token = refl

pub calls_alone : (asm : List ℕ) (token : ℕ) → calls_of asm token ≡ calls_in (alone asm) token
unfolding calls_of calls_in outcome_of
calls_alone asm token = refl

pub unit-callees : (asm : List ℕ) (token : ℕ) (unit : MethodUnit) → unit_at asm token ≡ Some unit → unit.callees ≡ map (info_in (alone asm)) (calls_of asm token)
unit-callees asm token unit is =
    callees_in_unit (alone asm) token unit (sym (unit_alone asm token) ∙ is) ∙ ap (map (info_in (alone asm))) (sym (calls_alone asm token))

pub info-agrees : (asm : List ℕ) (token : ℕ) (unit : MethodUnit) → unit_at asm token ≡ Some unit → IsUnit unit → info_in (alone asm) token ≡ info_of unit
info-agrees asm token unit is runs = info_in_agrees (alone asm) token unit (sym (unit_alone asm token) ∙ is) runs

-- ---- what a slot keeps

pub whole_callees : (s : Scope) (method : MethodRow) (code : MethodCode) → IsWhole s method code → code.callees ≡ callee_keys s method
whole_callees s method code whole = (whole_told s method code whole).callees

pub spent_callees : (s : Scope) (method : MethodRow) (code : MethodCode) → IsSpent s method code → code.callees ≡ callee_keys s method
spent_callees s method code spent = (whole_told s method (with_instrs spent.taken code) spent.whole).callees

-- Code of a method that is analysed is there, and reads.
pub analysed_code : (s : Scope) (method : MethodRow) (unit : MethodUnit) → outcome_in s method ≡ Analysed unit → HasReadCode s method
analysed_code s method unit is = read_code s method (analysed_is s method unit is).0

-- What callers are told of its callees.
tokens_called : (asm : List ℕ) (method : MethodRow) (keys : List ℕ) → keys ≡ callee_keys (scope_of asm) method
    → map (λ key. as_token (token_in key)) keys ≡ callee_tokens asm method
unfolding callee_tokens
tokens_called asm method keys are =
    ap (map (λ key. as_token (token_in key))) are ∙ same (callee_keys (scope_of asm) method) (all_there (alone asm) (alone_calls asm) 0 method) where
      same : (ks : List ℕ) → AllByRecursion (λ n. IsSome (method_of asm (as_token n))) ks → map (λ key. as_token (token_in key)) ks ≡ map as_token ks
      same [] all = refl
      same (key ∷ ks) all =
          let small = small_key asm key all.0 in
          let here : token_in key ≡ key = omega (arith, small) in λ i. as_token (here i) ∷ same ks all.1 i

-- ---- entries

-- The index of a method of the assembly, by its token.
pub index_there : (asm : List ℕ) (method : MethodRow) → Contains (methods_of asm) method
    → (method.token.0 - first_method < length (methods_of asm)) × (slice_get (methods_of asm) (method.token.0 - first_method) ≡ Some method)
index_there asm method (index, lt, is) =
    let there : slice_get (methods_of asm) index ≡ Some method = slice_get-get_or (methods_of asm) index method lt ∙ ap Some is in
    let number = token_at asm index method there in
    let same : index ≡ method.token.0 - first_method = omega arith in
    subst (λ i. (i < length (methods_of asm)) × (slice_get (methods_of asm) i ≡ Some method)) same (lt, there)

pub row_read : (asm : List ℕ) (methods : List MethodRow) (index : ℕ) (method : MethodRow) → methods ≡ methods_of asm → index < length (methods_of asm)
    → method ≡ get_or methods index method → slice_get (methods_of asm) index ≡ Some method
row_read asm methods index method are lt is =
    slice_get-get_or (methods_of asm) index method lt ∙ ap Some (sym (is ∙ ap (λ rows. get_or rows index method) are))

-- What was told of a row is told of the method.
pub keys_told : {E : Type 0} (r : Result (Vec ℕ Global) E) (s other : Scope) (index : ℕ) (row method : MethodRow) (unit : MethodUnit) → s ≡ other
    → slice_get (methods_of s.asm) index ≡ Some row → slice_get (methods_of other.asm) index ≡ Some method → outcome_in other method ≡ Analysed unit
    → ((made : MethodUnit) → outcome_in s row ≡ Analysed made → IfOk r (λ keys. keys.items ≡ callee_keys s row))
    → IfOk r (λ keys. keys.items ≡ callee_keys other method)
keys_told r s other index row method unit same row_is method_is analysed told =
    let rows : row ≡ method = same_Some row method (sym row_is ∙ ap (λ (scope : Scope). slice_get (methods_of scope.asm) index) same ∙ method_is) in
    let outcome : outcome_in s row ≡ Analysed unit = ap (outcome_in s) rows ∙ ap (λ (scope : Scope). outcome_in scope method) same ∙ analysed in
    let keys_are : callee_keys s row ≡ callee_keys other method = ap (callee_keys s) rows ∙ ap (λ (scope : Scope). callee_keys scope method) same in
    subst (λ keys_of. IfOk r (λ keys. keys.items ≡ keys_of)) keys_are (told unit outcome)

-- The same of a file alone, as tokens.
row_told : (asm : List ℕ) (row method : MethodRow) (unit : MethodUnit) (keys : List ℕ) → row ≡ method → outcome_of asm method ≡ Analysed unit
    → ((made : MethodUnit) → outcome_in (scope_of asm) row ≡ Analysed made → keys ≡ callee_keys (scope_of asm) row)
    → map (λ key. as_token (token_in key)) keys ≡ callee_tokens asm method
unfolding outcome_of
row_told asm row method unit keys same analysed told =
    tokens_called asm row keys (told unit (ap (outcome_in (scope_of asm)) same ∙ analysed)) ∙ ap (callee_tokens asm) same

pub tokens_told : {E : Type 0} (r : Result (Vec MethodToken Global) E) (asm other : List ℕ) (index : ℕ) (row method : MethodRow) (unit : MethodUnit) (keys : List ℕ) → asm ≡ other
    → slice_get (methods_of asm) index ≡ Some row → slice_get (methods_of other) index ≡ Some method → outcome_of other method ≡ Analysed unit
    → ((made : MethodUnit) → outcome_in (scope_of asm) row ≡ Analysed made → keys ≡ callee_keys (scope_of asm) row)
    → IfOk r (λ tokens. tokens.items ≡ map (λ key. as_token (token_in key)) keys)
    → IfOk r (λ tokens. tokens.items ≡ callee_tokens other method)
tokens_told r asm other index row method unit keys same row_is method_is analysed told are =
    let rows : row ≡ method = same_Some row method (sym row_is ∙ ap (λ bytes. slice_get (methods_of bytes) index) same ∙ method_is) in
    let outcome : outcome_of asm method ≡ Analysed unit = ap (λ bytes. outcome_of bytes method) same ∙ analysed in
    let tokens_are : map (λ key. as_token (token_in key)) keys ≡ callee_tokens other method =
    row_told asm row method unit keys rows outcome told ∙ ap (λ bytes. callee_tokens bytes method) same in
    subst (λ tokens_of. IfOk r (λ tokens. tokens.items ≡ tokens_of)) tokens_are are

pub body_told : {E : Type 0} (r : Result (Vec MethodToken Global) E) (asm : List ℕ) (row method : MethodRow) (unit : MethodUnit) (keys : List ℕ) → row ≡ method
    → outcome_of asm method ≡ Analysed unit
    → ((made : MethodUnit) → outcome_in (scope_of asm) row ≡ Analysed made → keys ≡ callee_keys (scope_of asm) row)
    → IfOk r (λ tokens. tokens.items ≡ map (λ key. as_token (token_in key)) keys)
    → IfOk r (λ tokens. numbers tokens.items ≡ body_calls asm method)
body_told (Ok tokens) asm row method unit keys same analysed told are =
    ap numbers (are ∙ row_told asm row method unit keys same analysed told) ∙ token_numbers asm method
    ∙ ap (calls_by (callee_keys (scope_of asm) method)) (sym analysed)
body_told (Err error) asm row method unit keys same analysed told are = tt

-- The row of an index is the method.
pub row_is : (asm : List ℕ) (methods : List MethodRow) (index : ℕ) (row method : MethodRow) → methods ≡ methods_of asm → index ≡ method.token.0 - first_method
    → slice_get (methods_of asm) (method.token.0 - first_method) ≡ Some method → row ≡ get_or methods index row → row ≡ method
row_is asm methods index row method are index_is there is =
    is ∙ ap (λ rows. get_or rows index row) are ∙ ap (λ i. get_or (methods_of asm) i row) index_is ∙ get_or_from_slice_get (methods_of asm) (method.token.0 - first_method) method row there
