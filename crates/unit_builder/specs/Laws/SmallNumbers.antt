-- The numbers of calls of the class `Contract` lie below those of callees.
use Rattle.std.proofs.Common.{ℕ, ◌+◌, ◌<◌, Bool, true, false, List, [], ◌∷◌, Option, Some, None, option_map, slice_get, arith, if◌then◌else◌}
use Rattle.std.specs.List.{AllByRecursion}
use Rattle.std.specs.Option.{option_and_then, option_map_or}
use Rattle.asm_image.specs.Bodies.{method_of}
use Rattle.asm_image.specs.Calls.{Listed, argument_number, callee_by, callee_of, generic_methods, instance_number, is_contract_method, member_number, member_row, number_among, numbered, plain_methods}
use Rattle.asm_image.specs.Cells.{blob, text}
use Rattle.asm_image.specs.Tokens.{row_in}
use Rattle.cil_model.specs.Places.{place_number}
use Rattle.cil_model.specs.declared.place.Place.{Place}
use Rattle.cil_model.specs.declared.place.Place.TheVariants as places
use Rattle.metadata_tables.specs.Numbers.{member_ref, member_ref_name, member_ref_signature, method_def, method_spec}
use Rattle.method_code.specs.Meanings.{HasSmallNumbers, IsSmall}
use Rattle.method_code.specs.declared.call.Call.TheVariants as calls
use Rattle.pe_reader.specs.Addresses.{metadata}
use Rattle.unit_builder.specs.Callable.{is_callable}
use Rattle.asm_image.specs.declared.callee.Callee.{Callee}
use Rattle.asm_image.specs.declared.callee.Callee.TheVariants.{Method, ContractCall, Outside}
use Rattle.asm_links.specs.Targets.{target}
use Rattle.cc_base.specs.declared.token.Token.{Token}
use Rattle.unit_builder.specs.Linked.{call_to, linked_call, linked_meaning, linked_meaning_by, linked_method}
use Rattle.unit_builder.specs.Meanings.{call_by, called, meaning_of}
use Rattle.unit_builder.specs.Scopes.{key_at}
use Rattle.unit_builder.specs.Sources.{files_of}
use Rattle.unit_builder.specs.declared.sources.Sources.{Sources}
use Rattle.unit_builder.specs.declared.sources.Sources.TheVariants.{One, Linked}

abbrev Below : ℕ → Option ℕ → Type 0
Below most None = Unit {0}
Below most (Some n) = n < most

below_if : (most : ℕ) (b : Bool) (x y : Option ℕ) → Below most x → Below most y → Below most (if b then x else y)
below_if most true x y first second = first
below_if most false x y first second = second

among_below : (most : ℕ) (methods : List Listed) (name sig : List ℕ) → AllByRecursion (λ method. method.2 < most) methods → Below most (number_among methods name sig)
among_below most [] name sig all = tt
among_below most (method ∷ methods) name sig all = below_if most _ (Some method.2) _ all.0 (among_below most methods name sig all.1)

member_below : (most : ℕ) (md : List ℕ) (methods : List Listed) (row : ℕ) → AllByRecursion (λ method. method.2 < most) methods → Below most (member_number md methods row)
unfolding member_number
member_below most md methods row all =
    below_if most (is_contract_method md row) _ None (among_below most methods (text md member_ref row member_ref_name) (blob md member_ref row member_ref_signature) all) tt

place_below : (place : Option Place) → Below 5 (option_map place_number place)
place_below None = tt
place_below (Some places.Void) = omega arith
place_below (Some places.Bool) = omega arith
place_below (Some places.Int) = omega arith
place_below (Some places.Bools) = omega arith
place_below (Some places.Ints) = omega arith

sum_below : (method argument : Option ℕ) → Below 21 method → Below 5 argument → Below 100 (option_and_then (λ m. option_map (λ a. m + a) argument) method)
sum_below None argument small less = tt
sum_below (Some m) None small less = tt
sum_below (Some m) (Some a) small less = omega (arith, small, less)

of_row : (md : List ℕ) (row : Option ℕ) → Below 21 (option_and_then (member_number md generic_methods) row)
of_row md None = tt
of_row md (Some row) = member_below 21 md generic_methods row (omega arith, (omega arith, tt))

instance_below : (md : List ℕ) (row : ℕ) → Below 100 (instance_number md row)
unfolding instance_number
instance_below md row = sum_below (option_and_then (member_number md generic_methods) (member_row md row)) (argument_number md row) (of_row md (member_row md row)) (place_below _)

plain_below : (md : List ℕ) (row : ℕ) → Below 100 (member_number md plain_methods row)
plain_below md row =
    member_below 100 md plain_methods row (omega arith, (omega arith, (omega arith, (omega arith, (omega arith, (omega arith, (omega arith, (omega arith, (omega arith, tt)))))))))

-- ---- what a token calls

abbrev IsSmallCallee : Callee → Type 0
IsSmallCallee (ContractCall operation) = operation.0 < 100
IsSmallCallee (Method token) = Unit {0}
IsSmallCallee Outside = Unit {0}

number_small : (number : Option ℕ) → Below 100 number → IsSmallCallee (numbered number)
number_small None less = tt
number_small (Some n) less = less

small_by : (md : List ℕ) (token : ℕ) (method member instance : Option ℕ) → IsSmallCallee (callee_by md token method member instance)
small_by md token (Some method) member instance = tt
small_by md token None (Some member) instance = number_small (member_number md plain_methods member) (plain_below md member)
small_by md token None None (Some instance) = number_small (instance_number md instance) (instance_below md instance)
small_by md token None None None = tt

callee_small : (md : List ℕ) (token : ℕ) → IsSmallCallee (callee_of md token)
unfolding callee_of
callee_small md token = small_by md token (row_in md method_def token) (row_in md member_ref token) (row_in md method_spec token)

method_small : (key : ℕ) (b : Bool) → IsSmall (if b then calls.Callee key else calls.Unknown)
method_small key true = tt
method_small key false = tt

-- ---- a file alone

call_small : (asm : List ℕ) (callee : Callee) → IsSmallCallee callee → IsSmall (call_by asm callee)
call_small asm (Method token) small = method_small token.0 (option_map_or is_callable (method_of asm token) false)
call_small asm (ContractCall operation) small = small
call_small asm Outside small = tt

numbers_small : (asm : List ℕ) → HasSmallNumbers (meaning_of asm)
unfolding called
numbers_small asm token = call_small asm (callee_of (metadata asm) token) (callee_small (metadata asm) token)

-- ---- linked files

home_small : (files : List (List ℕ)) (home : Option (ℕ × Token)) → IsSmall (call_to files home)
home_small files None = tt
home_small files (Some home) = method_small (key_at home.0 home.1.0) (option_map_or is_callable (linked_method files (key_at home.0 home.1.0)) false)

linked_call_small : (files : List (List ℕ)) (callee : Callee) (home : Option (ℕ × Token)) → IsSmallCallee callee → IsSmall (linked_call files callee home)
linked_call_small files (ContractCall operation) home small = small
linked_call_small files (Method token) home small = home_small files home
linked_call_small files Outside home small = home_small files home

linked_small_by : (files : List (List ℕ)) (file : ℕ) (asm : Option (List ℕ)) → HasSmallNumbers (linked_meaning_by files file asm)
linked_small_by files file None token = tt
linked_small_by files file (Some asm) token =
    linked_call_small files (callee_of (metadata asm) token) (target files file token) (callee_small (metadata asm) token)

linked_small : (files : List (List ℕ)) (file : ℕ) → HasSmallNumbers (linked_meaning files file)
unfolding linked_meaning
linked_small files file = linked_small_by files file (slice_get files file)

-- ---- any files

pub small_in : (sources : Sources) (file : ℕ) → HasSmallNumbers ((files_of sources).meaning file)
small_in (One assembly) file = numbers_small assembly.now
small_in (Linked links) file = linked_small links.now file
