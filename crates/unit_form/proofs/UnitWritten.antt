-- What is written of a unit is its file: the second and the third form have the same counts.
use Rattle.std.proofs.Common.{◌≡◌, ℕ, ◌<◌, ◌≤◌, List, [], ◌∷◌, ◌++◌, length, refl, sym, ap, ◌∙◌, arith, append-nil}
use Rattle.std.specs.List.{flat_map}
use Rattle.byteorder.specs.Endian.{little_bytes}
use mathlib.Core.Path.{fun_ext}
use Rattle.cil_model.specs.Places.{place_number}
use Rattle.cil_model.specs.TermCodes.{Root, ConstRoot, preorder}
use Rattle.cil_model.specs.declared.clause.Clause.{Clause}
use Rattle.cil_model.specs.declared.unit.CalleeInfo.{CalleeInfo}
use Rattle.cil_model.specs.declared.unit.Unit.{Unit as MethodUnit}
use Rattle.unit_form.specs.AddedClauses.{added_clauses}
use Rattle.unit_form.specs.Callees.{kind_number}
use Rattle.unit_form.specs.Forms.{count_bytes, magic}
use Rattle.unit_form.specs.Spelling.{added_bytes, callee_bytes, clause_bytes, clauses_bytes, fields_bytes, form_with, name_bytes, places_bytes, shape_bytes, unit_bytes, unit_spelling}
use Rattle.unit_form.specs.TreeSpelling.{root_bytes}
use Rattle.unit_form.specs.declared.form.UnitForm.TheVariants.{Second, Third}

-- ---- the same in both forms

same_root : (root : Root) → root_bytes Second root ≡ root_bytes Third root
same_root (ConstRoot n) = refl
same_root _ = refl

same_roots : root_bytes Second ≡ root_bytes Third
same_roots = fun_ext same_root

same_clause : clause_bytes Second ≡ clause_bytes Third
same_clause = fun_ext (λ (clause : Clause). ap (λ (bytes : Root → List ℕ). kind_number clause.kind ∷ flat_map bytes (preorder clause.tree)) same_roots)

same_clauses : (clauses : List Clause) → clauses_bytes Second clauses ≡ clauses_bytes Third clauses
same_clauses clauses = ap (λ (bytes : Clause → List ℕ). length clauses ∷ flat_map bytes clauses) same_clause

same_callee : callee_bytes Second ≡ callee_bytes Third
same_callee = fun_ext (λ (callee : CalleeInfo).
    ap (λ (t : List ℕ). name_bytes callee.name ++ (place_number callee.result ∷ (places_bytes Second callee.args ++ t))) (same_clauses callee.clauses))

same_fields : (unit : MethodUnit) → fields_bytes Second unit ≡ fields_bytes Third unit
unfolding fields_bytes shape_bytes
same_fields unit =
    ap (λ (bytes : CalleeInfo → List ℕ). (name_bytes unit.name ++ (place_number unit.result ∷ (places_bytes Second unit.args
    ++ (places_bytes Second unit.locals ++ count_bytes Second unit.max_stack))))
    ++ (little_bytes 2 (length unit.callees) ++ (flat_map bytes unit.callees ++ (little_bytes 4 (length unit.code) ++ unit.code)))) same_callee

-- ---- what is written

form_of_none : (unit : MethodUnit) (added : List Clause) → length added ≤ 0
    → magic Second ++ fields_bytes Second unit ≡ magic (form_with added) ++ (fields_bytes (form_with added) unit ++ added_bytes (form_with added) added)
form_of_none unit [] none = ap (λ (t : List ℕ). magic Second ++ t) (sym (append-nil (fields_bytes Second unit)))
form_of_none unit (clause ∷ added) none = absurd (omega (arith, none))

pub in_second : (unit : MethodUnit) (added : List Clause) → added ≡ added_clauses unit → length added ≤ 0
    → magic Second ++ fields_bytes Second unit ≡ unit_bytes unit
unfolding unit_bytes unit_spelling
in_second unit added same none =
    form_of_none unit added none
    ∙ ap (λ (clauses : List Clause). magic (form_with clauses) ++ (fields_bytes (form_with clauses) unit ++ added_bytes (form_with clauses) clauses)) same

form_of_some : (unit : MethodUnit) (added : List Clause) → 0 < length added
    → magic Third ++ (fields_bytes Second unit ++ clauses_bytes Second added)
    ≡ magic (form_with added) ++ (fields_bytes (form_with added) unit ++ added_bytes (form_with added) added)
form_of_some unit [] some = absurd (omega (arith, some))
form_of_some unit (clause ∷ added) some =
    ap (λ (t : List ℕ). magic Third ++ (t ++ clauses_bytes Second (clause ∷ added))) (same_fields unit)
    ∙ ap (λ (t : List ℕ). magic Third ++ (fields_bytes Third unit ++ t)) (same_clauses (clause ∷ added))

pub in_third : (unit : MethodUnit) (added : List Clause) → added ≡ added_clauses unit → 0 < length added
    → magic Third ++ (fields_bytes Second unit ++ clauses_bytes Second added) ≡ unit_bytes unit
unfolding unit_bytes unit_spelling
in_third unit added same some =
    form_of_some unit added some
    ∙ ap (λ (clauses : List Clause). magic (form_with clauses) ++ (fields_bytes (form_with clauses) unit ++ added_bytes (form_with clauses) clauses)) same
