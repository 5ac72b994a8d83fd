-- The spelling of a unit is a list of bytes.
use Rattle.std.proofs.Common.{ℕ, ◌<◌, ◌≤◌, List, [], ◌∷◌, ◌++◌, length, map, sym, subst, arith}
use Rattle.std.specs.List.{AllByRecursion, flat_map}
use Rattle.std.proofs.lemmas.List.Concat.{flat_map-cons}
use Rattle.byteorder.specs.Endian.{little_bytes}
use Rattle.cc_base.proofs.ByteLemmas.{IsBytes-append, IsBytes-cons, IsBytes-little_bytes, IsBytes-nil}
use Rattle.cc_base.specs.LittleEndian.{IsBytes}
use Rattle.cil_model.specs.Arithmetic.{unsigned}
use Rattle.cil_model.specs.Limits.{MAX_CLAUSES}
use Rattle.cil_model.specs.Places.{place_number}
use Rattle.cil_model.specs.TermCodes.{Root, ConstRoot, ArgRoot, NullRoot, ResultRoot, LenRoot, ElemRoot, BinRoot, UnRoot, OldRoot, CondRoot, preorder}
use Rattle.cil_model.specs.WellFormed.{IsCallee, IsUnitName}
use Rattle.cil_model.specs.declared.clause.Clause.{Clause}
use Rattle.cil_model.specs.declared.clause.ClauseKind.{ClauseKind}
use Rattle.cil_model.specs.declared.clause.ClauseKind.TheVariants as kinds
use Rattle.cil_model.specs.declared.instruction.BinOp.{BinOp}
use Rattle.cil_model.specs.declared.instruction.BinOp.TheVariants as operators
use Rattle.cil_model.specs.declared.instruction.UnOp.{UnOp}
use Rattle.cil_model.specs.declared.instruction.UnOp.TheVariants as unary
use Rattle.cil_model.specs.declared.place.Place.{Place}
use Rattle.cil_model.specs.declared.place.Place.TheVariants as places
use Rattle.cil_model.specs.declared.unit.CalleeInfo.{CalleeInfo}
use Rattle.cil_model.specs.declared.unit.Unit.{Unit as MethodUnit}
use Rattle.unit_form.specs.AddedClauses.{added_clauses}
use Rattle.unit_form.specs.Callees.{kind_number}
use Rattle.unit_form.specs.Forms.{count_bytes, count_size, magic}
use Rattle.unit_form.specs.Spelling.{HasFields, added_bytes, callee_bytes, clause_bytes, clauses_bytes, fields_bytes, form_with, name_bytes, places_bytes, shape_bytes, unit_bytes, unit_spelling}
use Rattle.unit_form.specs.TreeSpelling.{operator_byte, root_bytes, unary_byte}
use Rattle.unit_form.specs.declared.form.UnitForm.{UnitForm}
use Rattle.unit_form.specs.declared.form.UnitForm.TheVariants.{First, Second, Third}

-- ---- lists of parts

each_fits : {X : Type 0} (spell : X → List ℕ) (P : X → Type 0) → ((x : X) → P x → IsBytes (spell x)) → (xs : List X) → AllByRecursion P xs → IsBytes (flat_map spell xs)
each_fits spell P fits [] all = IsBytes-nil
each_fits spell P fits (x ∷ xs) all = subst IsBytes (sym (flat_map-cons spell x xs)) (IsBytes-append (spell x) (flat_map spell xs) (fits x all.0) (each_fits spell P fits xs all.1))

all_fit : {X : Type 0} (spell : X → List ℕ) → ((x : X) → IsBytes (spell x)) → (xs : List X) → IsBytes (flat_map spell xs)
all_fit spell fits [] = IsBytes-nil
all_fit spell fits (x ∷ xs) = subst IsBytes (sym (flat_map-cons spell x xs)) (IsBytes-append (spell x) (flat_map spell xs) (fits x) (all_fit spell fits xs))

number_fits : (width n : ℕ) (rest : List ℕ) → IsBytes rest → IsBytes (little_bytes width n ++ rest)
number_fits width n rest fits = IsBytes-append (little_bytes width n) rest (IsBytes-little_bytes width n) fits

-- ---- names and places

graphic_fits : (name : List ℕ) → AllByRecursion (λ b. (0x21 ≤ b) × (b ≤ 0x7e)) name → IsBytes name
graphic_fits [] all = IsBytes-nil
graphic_fits (b ∷ name) all = IsBytes-cons b name (omega (arith, all.0.1)) (graphic_fits name all.1)

name_fits : (name : List ℕ) → IsUnitName name → IsBytes (name_bytes name)
name_fits name is = number_fits 2 (length name) name (graphic_fits name is.graphic)

place_fits : (place : Place) → place_number place < 256
place_fits places.Void = omega arith
place_fits places.Bool = omega arith
place_fits places.Int = omega arith
place_fits places.Bools = omega arith
place_fits places.Ints = omega arith

types_fit : (types : List Place) → IsBytes (map place_number types)
types_fit [] = IsBytes-nil
types_fit (place ∷ types) = IsBytes-cons (place_number place) (map place_number types) (place_fits place) (types_fit types)

places_fit : (form : UnitForm) (types : List Place) → IsBytes (places_bytes form types)
places_fit form types = number_fits (count_size form) (length types) (map place_number types) (types_fit types)

-- ---- clauses

operator_fits : (operator : BinOp) → operator_byte operator < 256
operator_fits operators.Add = omega arith
operator_fits _ = omega arith

unary_fits : (operator : UnOp) → unary_byte operator < 256
unary_fits unary.Neg = omega arith
unary_fits unary.Not = omega arith

one_fits : (a : ℕ) → a < 256 → IsBytes (a ∷ [])
one_fits a less = IsBytes-cons a [] less IsBytes-nil

two_fit : (a b : ℕ) → a < 256 → b < 256 → IsBytes (a ∷ b ∷ [])
two_fit a b less small = IsBytes-cons a (b ∷ []) less (one_fits b small)

root_fits : (form : UnitForm) (root : Root) → IsBytes (root_bytes form root)
root_fits form (ConstRoot n) = IsBytes-cons 1 (little_bytes 4 (unsigned n)) (omega arith) (IsBytes-little_bytes 4 (unsigned n))
root_fits form (ArgRoot n) = IsBytes-cons 2 (count_bytes form n) (omega arith) (IsBytes-little_bytes (count_size form) n)
root_fits form NullRoot = one_fits 3 (omega arith)
root_fits form ResultRoot = one_fits 4 (omega arith)
root_fits form LenRoot = one_fits 5 (omega arith)
root_fits form (ElemRoot place) = two_fit 6 (place_number place) (omega arith) (place_fits place)
root_fits form (BinRoot operator) = two_fit 7 (operator_byte operator) (omega arith) (operator_fits operator)
root_fits form (UnRoot operator) = two_fit 8 (unary_byte operator) (omega arith) (unary_fits operator)
root_fits form OldRoot = one_fits 9 (omega arith)
root_fits form CondRoot = one_fits 10 (omega arith)

kind_fits : (kind : ClauseKind) → kind_number kind < 256
kind_fits kinds.Requires = omega arith
kind_fits kinds.Ensures = omega arith

clause_fits : (form : UnitForm) (clause : Clause) → IsBytes (clause_bytes form clause)
clause_fits form clause =
    IsBytes-cons (kind_number clause.kind) (flat_map (root_bytes form) (preorder clause.tree)) (kind_fits clause.kind) (all_fit (root_bytes form) (root_fits form) (preorder clause.tree))

clauses_fit : (form : UnitForm) (clauses : List Clause) → length clauses ≤ MAX_CLAUSES → IsBytes (clauses_bytes form clauses)
clauses_fit form clauses few = IsBytes-cons (length clauses) (flat_map (clause_bytes form) clauses) (omega (arith, few)) (all_fit (clause_bytes form) (clause_fits form) clauses)

-- ---- callees and units

callee_fits : (form : UnitForm) (callee : CalleeInfo) → IsCallee callee → IsBytes (callee_bytes form callee)
callee_fits form callee is =
    let part2 = places_bytes form callee.args ++ clauses_bytes form callee.clauses in
    let fits2 = IsBytes-append (places_bytes form callee.args) (clauses_bytes form callee.clauses) (places_fit form callee.args) (clauses_fit form callee.clauses is.clauses.count) in
    IsBytes-append (name_bytes callee.name) (place_number callee.result ∷ part2) (name_fits callee.name is.name) (IsBytes-cons (place_number callee.result) part2 (place_fits callee.result) fits2)

letters_fit : (form : UnitForm) → IsBytes (magic form)
letters_fit First = search (arith, IsBytes-cons, IsBytes-nil)
letters_fit Second = search (arith, IsBytes-cons, IsBytes-nil)
letters_fit Third = search (arith, IsBytes-cons, IsBytes-nil)

added_fit : (form : UnitForm) (clauses : List Clause) → length clauses ≤ MAX_CLAUSES → IsBytes (added_bytes form clauses)
added_fit First clauses few = IsBytes-nil
added_fit Second clauses few = IsBytes-nil
added_fit Third clauses few = clauses_fit Third clauses few

fields_fit : (form : UnitForm) (unit : MethodUnit) → HasFields unit → IsBytes unit.code → IsBytes (fields_bytes form unit)
unfolding fields_bytes shape_bytes
fields_fit form unit has code =
    let part8 = little_bytes 4 (length unit.code) ++ unit.code in
    let part7 = flat_map (callee_bytes form) unit.callees ++ part8 in
    let part6 = little_bytes 2 (length unit.callees) ++ part7 in
    let part5 = count_bytes form unit.max_stack in
    let part4 = places_bytes form unit.locals ++ part5 in
    let part3 = places_bytes form unit.args ++ part4 in
    let part2 = place_number unit.result ∷ part3 in
    let fits7 = IsBytes-append (flat_map (callee_bytes form) unit.callees) part8 (each_fits (callee_bytes form) IsCallee (callee_fits form) unit.callees has.callees) (number_fits 4 (length unit.code) unit.code code) in
    let fits5 = IsBytes-little_bytes (count_size form) unit.max_stack in
    let fits4 = IsBytes-append (places_bytes form unit.locals) part5 (places_fit form unit.locals) fits5 in
    let fits3 = IsBytes-append (places_bytes form unit.args) part4 (places_fit form unit.args) fits4 in
    let fits2 = IsBytes-cons (place_number unit.result) part3 (place_fits unit.result) fits3 in
    IsBytes-append (name_bytes unit.name ++ part2) part6 (IsBytes-append (name_bytes unit.name) part2 (name_fits unit.name has.name) fits2) (number_fits 2 (length unit.callees) part7 fits7)

-- A unit whose code is a list of bytes is spelled in bytes, in each form.
pub spelling_fits : (form : UnitForm) (unit : MethodUnit) → HasFields unit → IsBytes unit.code → IsBytes (unit_spelling form unit)
unfolding unit_spelling
spelling_fits form unit has code =
    let fields = fields_bytes form unit in
    let added = added_bytes form (added_clauses unit) in
    IsBytes-append (magic form) (fields ++ added) (letters_fit form)
    (IsBytes-append fields added (fields_fit form unit has code) (added_fit form (added_clauses unit) has.added.limits.count))

pub unit_fits : (unit : MethodUnit) → HasFields unit → IsBytes unit.code → IsBytes (unit_bytes unit)
unfolding unit_bytes
unit_fits unit has code = spelling_fits (form_with (added_clauses unit)) unit has code
