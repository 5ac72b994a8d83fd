-- Keys of methods.
use Rattle.std.proofs.Common.{◌≡◌, ℕ, suc, ◌+◌, ◌-◌, ◌*◌, ◌/◌, ◌%◌, ◌<◌, ◌≤◌, ◌^◌, ◌==◌, ◌&&◌, Bool, true, false, nat_le, List, [], length, get_or, slice_get, Option, Some, None, IsSome, refl, sym, ap, subst, ◌∙◌, cond, arith}
use Rattle.std.specs.Option.{option_and_then}
use Rattle.std.proofs.lemmas.Bool.{and_parts, eqb-true}
use Rattle.std.proofs.lemmas.Option.{none-some, same_Some, slice_get-get_or, slice_get_within, get_or_from_slice_get}
use Rattle.asm_image.specs.Bodies.{is_method_token, method_of}
use Rattle.asm_image.specs.Rows.{methods_of}
use Rattle.asm_image.specs.declared.method_row.MethodRow.{MethodRow}
use Rattle.cc_base.specs.Tokens.{row_of, table_of}
use Rattle.cc_base.specs.declared.token.Token.{Token}
use Rattle.metadata_tables.specs.Numbers.{method_def}
use Rattle.unit_builder.specs.Linked.{linked, linked_method}
use Rattle.unit_builder.specs.Meanings.{as_token}
use Rattle.unit_builder.specs.Rows.{IsRowOf}
use Rattle.unit_builder.specs.Scopes.{Files, alone, file_of, key_at, token_in}
use Rattle.unit_builder.specs.Sources.{files_of}
use Rattle.unit_builder.specs.declared.sources.Sources.{Sources}
use Rattle.unit_builder.specs.declared.sources.Sources.TheVariants.{One, Linked}
use Rattle.unit_builder.proofs.RowFacts.{indexed_row, token_indexed}
use Rattle.unit_builder.proofs.VisitLemmas.{row_there, some_is}

-- ---- tokens

-- The number of a method's token is one of 32 bits.
number_small : (token : ℕ) → is_method_token (as_token token) ≡ true → token < 2 ^ 32
number_small token is =
    let both = and_parts (table_of token == method_def) (nat_le 1 (row_of token)) is in
    small_by token (eqb-true (table_of token) method_def both.0)
  where
    small_by : (token : ℕ) → table_of token ≡ method_def → token < 2 ^ 32
    small_by token table = omega (arith, table)

pub small_key : (asm : List ℕ) (token : ℕ) → IsSome (method_of asm (as_token token)) → token < 2 ^ 32
small_key asm token there =
    let found = some_is (method_of asm (as_token token)) there in
    number_small token (row_there asm (as_token token) found.0 found.1).0

-- A greater number names no method.
pub large_none : (asm : List ℕ) (token : ℕ) → 2 ^ 32 ≤ token → method_of asm (as_token token) ≡ None
large_none asm token large = by (is_method_token (as_token token)) refl
  where
    by : (b : Bool) → is_method_token (as_token token) ≡ b → cond b (slice_get (methods_of asm) (row_of token - 1)) None ≡ None
    by true is = absurd (omega (arith, large, number_small token is))
    by false is = refl

-- ---- keys of linked files

pub file_at : (file token : ℕ) → token < 2 ^ 32 → file_of (key_at file token) ≡ file
file_at file token small = omega (arith, small)

pub token_back : (file token : ℕ) → token < 2 ^ 32 → token_in (key_at file token) ≡ token
token_back file token small = omega (arith, small)

pub key_back : (key : ℕ) → key_at (file_of key) (token_in key) ≡ key
key_back key = omega arith

-- A method of linked files, by its key.
pub record IsAt (files : List (List ℕ)) (key : ℕ) (method : MethodRow) : Type 0 where
  pub asm : List ℕ
  pub file : slice_get files (file_of key) ≡ Some asm
  pub named : method_of asm (as_token (token_in key)) ≡ Some method

pub is_at : (files : List (List ℕ)) (key : ℕ) (method : MethodRow) → linked_method files key ≡ Some method → IsAt files key method
unfolding linked_method
is_at files key method is = by (slice_get files (file_of key)) refl is
  where
    by : (found : Option (List ℕ)) → slice_get files (file_of key) ≡ found → option_and_then (λ asm. method_of asm (as_token (token_in key))) found ≡ Some method → IsAt files key method
    by None none is = absurd (none-some method is)
    by (Some asm) found is = record { asm = asm; file = found; named = is }

bytes_are : (files : List (List ℕ)) (file : ℕ) (asm : List ℕ) → slice_get files file ≡ Some asm → get_or files file [] ≡ asm
bytes_are files file asm is = get_or_from_slice_get files file asm [] is

-- ---- keys of any files

-- Where the method of a key stands.
pub record Stands (files : Files) (key : ℕ) (method : MethodRow) : Type 0 where
  pub file : file_of key < files.count
  pub named : method_of (files.bytes (file_of key)) (as_token (token_in key)) ≡ Some method

alone_stands : (asm : List ℕ) (key : ℕ) (method : MethodRow) → method_of asm (as_token key) ≡ Some method → Stands (alone asm) key method
alone_stands asm key method is =
    let small = small_key asm key (subst IsSome (sym is) refl) in
    let same : key ≡ token_in key = omega (arith, small) in record {
      file = omega (arith, small);
      named = ap (λ (k : ℕ). method_of asm (as_token k)) (sym same) ∙ is;
    }

linked_stands : (files : List (List ℕ)) (key : ℕ) (method : MethodRow) → linked_method files key ≡ Some method → Stands (linked files) key method
linked_stands files key method is =
    let at = is_at files key method is in record {
      file = slice_get_within files (file_of key) at.asm at.file;
      named = ap (λ (asm : List ℕ). method_of asm (as_token (token_in key))) (bytes_are files (file_of key) at.asm at.file) ∙ at.named;
    }

stands : (sources : Sources) (key : ℕ) (method : MethodRow) → (files_of sources).method key ≡ Some method → Stands (files_of sources) key method
stands (One assembly) key method is = alone_stands assembly.now key method is
stands (Linked links) key method is = linked_stands links.now key method is

pub file_there : (sources : Sources) (key file : ℕ) (method : MethodRow) → (files_of sources).method key ≡ Some method → file ≡ file_of key → file < (files_of sources).count
file_there sources key file method is same = subst (λ (n : ℕ). n < (files_of sources).count) (sym same) (Stands.file (stands sources key method is))

pub key_some : (sources : Sources) (key : ℕ) (token : Token) (method : MethodRow) → (files_of sources).method key ≡ Some method → token ≡ as_token (token_in key)
    → 1 ≤ row_of token.0
key_some sources key token method is same =
    let at = stands sources key method is in
    (token_indexed ((files_of sources).bytes (file_of key)) token method
    (ap (method_of ((files_of sources).bytes (file_of key))) same ∙ Stands.named at)).some

pub key_there : (sources : Sources) (key file row : ℕ) (token : Token) (method : MethodRow) → (files_of sources).method key ≡ Some method → file ≡ file_of key
    → token ≡ as_token (token_in key) → row ≡ row_of token.0 → slice_get (methods_of ((files_of sources).bytes file)) (row - 1) ≡ Some method
key_there sources key file row token method is there same row_is =
    let at = stands sources key method is in
    ap (λ (f : ℕ). slice_get (methods_of ((files_of sources).bytes f)) (row - 1)) there
    ∙ ap (λ (r : ℕ). slice_get (methods_of ((files_of sources).bytes (file_of key))) (r - 1)) row_is
    ∙ (token_indexed ((files_of sources).bytes (file_of key)) token method (ap (method_of ((files_of sources).bytes (file_of key))) same ∙ Stands.named at)).there

pub key_row : (sources : Sources) (key : ℕ) (method : MethodRow) → (files_of sources).method key ≡ Some method → IsRowOf ((files_of sources).bytes (file_of key)) method
key_row sources key method is =
    let at = stands sources key method is in
    indexed_row ((files_of sources).bytes (file_of key)) (row_of (token_in key) - 1) method
    (token_indexed ((files_of sources).bytes (file_of key)) (as_token (token_in key)) method (Stands.named at)).there
