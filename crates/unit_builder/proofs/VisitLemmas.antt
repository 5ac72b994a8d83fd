-- What a visit of a method tells.
use Rattle.std.proofs.Common.{◌≡◌, ℕ, ◌-◌, Bool, true, false, List, [], ◌∷◌, map, Option, Some, None, IsSome, slice_get, cond, refl, sym, ap}
use Rattle.std.specs.declared.vec.Vec.{Vec}
use Rattle.std.specs.declared.alloc.Global.{Global}
use Rattle.asm_image.specs.Bodies.{is_method_token, method_of}
use Rattle.asm_image.specs.Rows.{methods_of}
use Rattle.asm_image.specs.declared.method_row.MethodRow.{MethodRow}
use Rattle.cc_base.specs.Tokens.{row_of}
use Rattle.cc_base.specs.declared.token.Token.{Token}
use Rattle.cil_model.specs.declared.unit.Unit.{Unit as MethodUnit}
use Rattle.unit_builder.specs.Bodies.{callee_keys, callee_tokens}
use Rattle.unit_builder.specs.Meanings.{as_token}
use Rattle.unit_builder.specs.Scopes.{scope_of}
use Rattle.method_unit.specs.Units.{IsUnit}
use Rattle.unit_builder.specs.Outcomes.{outcome_of}
use Rattle.unit_builder.specs.Walks.{IsVisited, calls_of, numbers, unit_at}
use Rattle.unit_builder.specs.declared.entry.Outcome.TheVariants.{Analysed, Skipped}
use Rattle.unit_builder.specs.declared.reason.Reason.{Reason}

pub some_is : {A : Type 0} (found : Option A) → IsSome found → (x : A) × (found ≡ Some x)
some_is None there = absurd cc
some_is (Some x) there = (x, refl)

-- A method that a token names has the row of the token.
pub row_there : (asm : List ℕ) (token : Token) (method : MethodRow) → method_of asm token ≡ Some method
    → (is_method_token token ≡ true) × (slice_get (methods_of asm) (row_of token.0 - 1) ≡ Some method)
row_there asm token method is = there (is_method_token token) is where
  there : (b : Bool) → cond b (slice_get (methods_of asm) (row_of token.0 - 1)) None ≡ Some method → (b ≡ true) × (slice_get (methods_of asm) (row_of token.0 - 1) ≡ Some method)
  there true is = (refl, is)
  there false is = absurd cc

numbers_back : (ns : List ℕ) → numbers (map as_token ns) ≡ ns
numbers_back [] = refl
numbers_back (n ∷ ns) = ap (λ others. n ∷ others) (numbers_back ns)

-- The tokens of callees are their keys.
pub token_numbers : (asm : List ℕ) (method : MethodRow) → numbers (callee_tokens asm method) ≡ callee_keys (scope_of asm) method
unfolding callee_tokens
token_numbers asm method = numbers_back (callee_keys (scope_of asm) method)

module _ (asm : List ℕ) (token : Token) (there : IsSome (method_of asm token)) where
  pub visited : (unit : MethodUnit) (callees : Vec Token Global)
      → ((method : MethodRow) → slice_get (methods_of asm) (row_of token.0 - 1) ≡ Some method → Analysed unit ≡ outcome_of asm method)
      → ((method : MethodRow) (unit : MethodUnit) → slice_get (methods_of asm) (row_of token.0 - 1) ≡ Some method → outcome_of asm method ≡ Analysed unit → callees.items ≡ callee_tokens asm method)
      → IsUnit unit → IsVisited asm token.0 (record { unit = unit; callees = callees })
  unfolding unit_at calls_of
  visited unit callees outcome callees_are is_unit =
      let found = some_is (method_of asm token) there in
      let row = row_there asm token found.0 found.1 in
      let analysed = sym (outcome found.0 row.1) in
      record {
        unit = rw (found.1, analysed) refl;
        is_unit = is_unit;
        callees = rw (found.1, analysed, callees_are found.0 unit row.1 analysed) (token_numbers asm found.0);
      }

  pub skipped : (reason : Reason)
      → ((method : MethodRow) → slice_get (methods_of asm) (row_of token.0 - 1) ≡ Some method → Skipped reason ≡ outcome_of asm method)
      → unit_at asm token.0 ≡ None
  unfolding unit_at
  skipped reason outcome =
      let found = some_is (method_of asm token) there in
      let row = row_there asm token found.0 found.1 in
      rw (found.1, sym (outcome found.0 row.1)) refl
