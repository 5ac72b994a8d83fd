-- The methods of an assembly that tokens name.
use Rattle.std.proofs.Common.{◌≡◌, ℕ, suc, ◌+◌, ◌-◌, ◌<◌, ◌^◌, ◌==◌, ◌&&◌, nat_le, true, cond, List, length, Option, Some, None, IsSome, slice_get, refl, sym, ap, subst, ◌∙◌, arith}
use Rattle.std.specs.Prelude.{Contains}
use Rattle.std.specs.List.{range_with_len}
use Rattle.std.specs.Option.{option_and_then}
use Rattle.std.proofs.lemmas.Bool.{le-leb}
use Rattle.std.proofs.lemmas.List.{length-map}
use Rattle.std.proofs.lemmas.List.FromFn.{length-range_with_len}
use Rattle.std.proofs.lemmas.Option.{none-some, same_Some, slice_get-get_or}
use Rattle.asm_image.specs.Bodies.{method_of}
use Rattle.asm_image.specs.Cells.{method_count}
use Rattle.asm_image.specs.Faults.{FirstBroken}
use Rattle.asm_image.specs.Rows.{method_row, methods_of, rows_of}
use Rattle.asm_image.specs.declared.method_row.MethodRow.{MethodRow}
use Rattle.cc_base.specs.Tokens.{row_of, table_of}
use Rattle.cil_model.specs.declared.unit.Unit.{Unit as MethodUnit}
use Rattle.metadata_tables.specs.Numbers.{method_def}
use Rattle.method_unit.specs.Units.{IsUnit}
use Rattle.pe_reader.specs.Addresses.{metadata}
use Rattle.unit_builder.specs.Meanings.{as_token}
use Rattle.unit_builder.specs.Met.{IsAmong, first_method}
use Rattle.unit_builder.specs.Outcomes.{IfAnalysed, entries_of, entry_of, outcome_of}
use Rattle.unit_builder.specs.Walks.{unit_at, unit_by}
use Rattle.unit_builder.specs.declared.entry.MethodEntry.{MethodEntry}
use Rattle.unit_builder.specs.declared.entry.Outcome.{Outcome}
use Rattle.unit_builder.specs.declared.entry.Outcome.TheVariants.{Analysed, Skipped}
use Rattle.unit_builder.proofs.TokenLemmas.{named-among, token_at}
use Rattle.unit_builder.proofs.VisitLemmas.{row_there}
use Rattle.assembly_reports.specs.Reportable.{AreRunnable}
use Rattle.assembly_reports.proofs.FewMethods.{methods_are_few}
use Rattle.assembly_reports.proofs.Members.{all_at, contained_at}

-- ---- the token of a method

named_by : (methods : List MethodRow) (token index : ℕ) → table_of token ≡ method_def → row_of token ≡ suc index
    → cond (table_of token == method_def && nat_le 1 (row_of token)) (slice_get methods (row_of token - 1)) None ≡ slice_get methods index
named_by methods token index table row =
    let some : nat_le 1 (suc index) ≡ true = le-leb 1 (suc index) (omega arith) in
    let before : suc index - 1 ≡ index = omega arith in
    rw (table, row, some) (ap (slice_get methods) before)

pub methods_long : (md : List ℕ) → length (rows_of md) ≡ method_count md
unfolding rows_of
methods_long md = length-map (range_with_len 1 (method_count md)) (method_row md) ∙ length-range_with_len 1 (method_count md)

-- The token of a method names it.
pub named_itself : (bytes : List ℕ) (method : MethodRow) → FirstBroken bytes ≡ None → Contains (methods_of bytes) method → method_of bytes (as_token method.token.0) ≡ Some method
named_itself bytes method whole (index, below, same) =
    let at : slice_get (methods_of bytes) index ≡ Some method = slice_get-get_or (methods_of bytes) index method below ∙ ap Some same in
    let token = token_at bytes index method at in
    let short : index < 2 ^ 23 = omega (arith, below, methods_long (metadata bytes), methods_are_few bytes whole) in
    let table : table_of method.token.0 ≡ method_def = omega (arith, token, short) in
    let row : row_of method.token.0 ≡ suc index = omega (arith, token, short) in
    named_by (methods_of bytes) method.token.0 index table row ∙ at

-- ---- the methods that tokens name

-- A token names a method of this row, which has that token.
pub record IsNamed (bytes : List ℕ) (token : ℕ) (method : MethodRow) : Type 0 where
  pub among : Contains (methods_of bytes) method
  pub token_is : method.token.0 ≡ token

pub named : (bytes : List ℕ) (token : ℕ) (method : MethodRow) → FirstBroken bytes ≡ None → method_of bytes (as_token token) ≡ Some method → IsNamed bytes token method
named bytes token method whole is =
    let row = (row_there bytes (as_token token) method is).1 in
    let number = token_at bytes (row_of token - 1) method row in
    let short : length (methods_of bytes) < 2 ^ 23 = omega (arith, methods_long (metadata bytes), methods_are_few bytes whole) in
    let here = named-among bytes (as_token token) (subst IsSome (sym is) refl) in record {
      among = contained_at (methods_of bytes) (row_of token - 1) method row;
      token_is = number_is token (length (methods_of bytes)) method.token.0 here number short;
    }
  where
    number_is : (token count number : ℕ) → IsAmong count token → number ≡ first_method + (row_of token - 1) → count < 2 ^ 23 → number ≡ token
    number_is token count number among is few = omega (arith, among.from, among.below, is, few)

pub unit_named : (bytes : List ℕ) (token : ℕ) (method : MethodRow) (unit : MethodUnit) → method_of bytes (as_token token) ≡ Some method
    → outcome_of bytes method ≡ Analysed unit → unit_at bytes token ≡ Some unit
unfolding unit_at
unit_named bytes token method unit names analysed =
    ap (option_and_then (λ (m : MethodRow). unit_by (outcome_of bytes m))) names ∙ ap unit_by analysed

-- Each unit is one that can be run.
pub unit_is : (bytes : List ℕ) (token : ℕ) (unit : MethodUnit) → FirstBroken bytes ≡ None → AreRunnable bytes → unit_at bytes token ≡ Some unit → IsUnit unit
unfolding unit_at entries_of
unit_is bytes token unit whole runnable is = by (method_of bytes (as_token token)) refl is
  where
    of : (outcome : Outcome) → IfAnalysed outcome IsUnit → unit_by outcome ≡ Some unit → IsUnit unit
    of (Analysed other) runs is = subst IsUnit (same_Some other unit is) runs
    of (Skipped reason) runs is = absurd (none-some unit is)

    by : (method : Option MethodRow) → method_of bytes (as_token token) ≡ method
        → option_and_then (λ (m : MethodRow). unit_by (outcome_of bytes m)) method ≡ Some unit → IsUnit unit
    by None names is = absurd (none-some unit is)
    by (Some method) names is =
        of (outcome_of bytes method)
        (all_at (λ (entry : MethodEntry). IfAnalysed entry.outcome IsUnit) (entry_of bytes) (methods_of bytes) method runnable
        (named bytes token method whole names).among) is

-- A token that has a unit names a method.
pub token_there : (bytes : List ℕ) (token : ℕ) (unit : MethodUnit) → unit_at bytes token ≡ Some unit → IsSome (method_of bytes (as_token token))
unfolding unit_at
token_there bytes token unit is = by (method_of bytes (as_token token)) is
  where
    by : (found : Option MethodRow) → option_and_then (λ (m : MethodRow). unit_by (outcome_of bytes m)) found ≡ Some unit → IsSome found
    by None is = absurd (none-some unit is)
    by (Some m) is = refl
