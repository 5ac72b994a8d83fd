-- What tokens mean in linked files, and the methods of keys, as the code looks them up.
use Rattle.std.proofs.Common.{◌≡◌, ℕ, ◌<◌, ◌≤◌, List, length, get_or, slice_get, Option, Some, None, refl, sym, ap, ◌∙◌, arith}
use Rattle.std.specs.Option.{option_and_then}
use Rattle.std.proofs.lemmas.Option.{slice_get-get_or, slice_get_within}
use Rattle.asm_image.specs.Bodies.{method_of}
use Rattle.asm_image.specs.Calls.{callee_of}
use Rattle.asm_image.specs.Tokens.{element_of}
use Rattle.asm_image.specs.declared.method_row.MethodRow.{MethodRow}
use Rattle.asm_links.specs.Targets.{target}
use Rattle.cc_base.specs.declared.token.Token.{Token}
use Rattle.cil_model.specs.declared.place.Place.{Place}
use Rattle.method_code.specs.declared.call.Call.{Call}
use Rattle.method_code.specs.declared.call.Call.TheVariants as calls
use Rattle.pe_reader.specs.Addresses.{metadata}
use Rattle.unit_builder.specs.Linked.{linked_call, linked_meaning, linked_meaning_by, linked_method}
use Rattle.unit_builder.specs.Meanings.{as_token}
use Rattle.unit_builder.specs.Scopes.{file_of, token_in}

file_is : (files : List (List ℕ)) (file : ℕ) (asm : List ℕ) → file < length files → asm ≡ get_or files file asm → slice_get files file ≡ Some asm
file_is files file asm lt is = slice_get-get_or files file asm lt ∙ ap Some (sym is)

no_file : (files : List (List ℕ)) (file : ℕ) → length files ≤ file → slice_get files file ≡ None
no_file files file past = by (slice_get files file) (λ asm is. slice_get_within files file asm is)
  where
    by : (found : Option (List ℕ)) → ((asm : List ℕ) → found ≡ Some asm → file < length files) → found ≡ None
    by None within = refl
    by (Some asm) within = absurd (let lt = within asm refl in omega (arith, lt, past))

-- ---- tokens

pub called_in : (files : List (List ℕ)) (file token : ℕ) (asm : List ℕ) (call : Call) → file < length files → asm ≡ get_or files file asm
    → call ≡ linked_call files (callee_of (metadata asm) token) (target files file token) → call ≡ (linked_meaning files file).call token
unfolding linked_meaning
called_in files file token asm call lt is same =
    same ∙ sym (ap (λ (found : Option (List ℕ)). (linked_meaning_by files file found).call token) (file_is files file asm lt is))

pub called_nowhere : (files : List (List ℕ)) (file token : ℕ) → length files ≤ file → calls.Unknown ≡ (linked_meaning files file).call token
unfolding linked_meaning
called_nowhere files file token past = sym (ap (λ (found : Option (List ℕ)). (linked_meaning_by files file found).call token) (no_file files file past))

pub element_in : (files : List (List ℕ)) (file token : ℕ) (asm : List ℕ) (place : Option Place) → file < length files → asm ≡ get_or files file asm
    → place ≡ element_of (metadata asm) token → place ≡ (linked_meaning files file).element token
unfolding linked_meaning
element_in files file token asm place lt is same =
    same ∙ sym (ap (λ (found : Option (List ℕ)). (linked_meaning_by files file found).element token) (file_is files file asm lt is))

pub element_nowhere : (files : List (List ℕ)) (file token : ℕ) → length files ≤ file → None ≡ (linked_meaning files file).element token
unfolding linked_meaning
element_nowhere files file token past = sym (ap (λ (found : Option (List ℕ)). (linked_meaning_by files file found).element token) (no_file files file past))

-- ---- keys

pub method_in : (files : List (List ℕ)) (key file : ℕ) (asm : List ℕ) (token : Token) (method : Option MethodRow) → file ≡ file_of key → file < length files
    → asm ≡ get_or files file asm → token ≡ as_token (token_in key) → method ≡ method_of asm token → method ≡ linked_method files key
unfolding linked_method
method_in files key file asm token method there lt is token_is same =
    same ∙ ap (method_of asm) token_is
    ∙ sym (ap (option_and_then (λ (a : List ℕ). method_of a (as_token (token_in key)))) (ap (slice_get files) (sym there) ∙ file_is files file asm lt is))

pub method_nowhere : (files : List (List ℕ)) (key file : ℕ) → file ≡ file_of key → length files ≤ file → None ≡ linked_method files key
unfolding linked_method
method_nowhere files key file there past =
    sym (ap (option_and_then (λ (a : List ℕ). method_of a (as_token (token_in key)))) (ap (slice_get files) (sym there) ∙ no_file files file past))
