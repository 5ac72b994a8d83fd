-- What a unit knows of its callees.
use Rattle.std.proofs.Common.{◌≡◌, ℕ, zero, suc, ◌<◌, ◌≤◌, true, List, [], ◌∷◌, ◌++◌, length, map, take, get_or, sym, ap, subst, ◌∙◌, arith}
use Rattle.std.specs.Prelude.{Some, None}
use Rattle.std.specs.Option.{option_map_or}
use Rattle.std.specs.List.{AllByRecursion, list_all}
use Rattle.std.proofs.lemmas.Bool.{and_parts, leb-true}
use Rattle.std.proofs.lemmas.List.{take_all}
use Rattle.asm_image.specs.declared.method_row.MethodRow.{MethodRow}
use Rattle.cil_model.specs.Limits.{MAX_NAME_BYTES}
use Rattle.cil_model.specs.WellFormed.{IsCallee}
use Rattle.cil_model.specs.declared.clause.Clause.{Clause}
use Rattle.cil_model.specs.declared.unit.CalleeInfo.{CalleeInfo}
use Rattle.unit_builder.specs.Callees.{info_with, no_info, unit_name}
use Rattle.unit_builder.specs.Scopes.{Files, file_of, info_at, info_in, scope_in}
use Rattle.unit_builder.proofs.NameFacts.{name_fits}
use Rattle.unit_builder.proofs.SignatureFacts.{arguments_few}
use Rattle.unit_builder.specs.Bodies.{clauses_of}
use Rattle.unit_builder.specs.Making.{AreCallees, AreKnownOf}
use Rattle.unit_builder.specs.Reasons.{has_short_name, is_short_name}
use Rattle.unit_builder.specs.Rows.{IsRowOf}

pub no_callee : (files : Files) (key : ℕ) → files.method key ≡ None → no_info ≡ info_in files key
no_callee files key none = ap (λ found. option_map_or (info_at files key) found no_info) (sym none)

no_info_fits : IsCallee no_info
no_info_fits = record {
  args = tt;
  few_args = omega arith;
  name = record { graphic = tt; short = omega arith };
  clauses = record { count = omega arith; nodes = tt; conditions = tt; old_values = omega arith };
  ints = tt;
  numbers = tt;
}

pub no_callee_fits : (info : CalleeInfo) → info ≡ no_info → IsCallee info
no_callee_fits info is = subst IsCallee (sym is) no_info_fits

info_is : (files : Files) (key : ℕ) (method : MethodRow) → files.method key ≡ Some method → info_in files key ≡ info_at files key method
info_is files key method named = ap (λ found. option_map_or (info_at files key) found no_info) named

pub callee_told : (files : Files) (key file : ℕ) (method : MethodRow) (clauses : List Clause) (info : CalleeInfo) → files.method key ≡ Some method → file ≡ file_of key
    → clauses ≡ clauses_of (scope_in files file) method → info ≡ info_with method clauses → info ≡ info_in files key
callee_told files key file method clauses info named there same is =
    is ∙ (ap (info_with method) (same ∙ ap (λ (f : ℕ). clauses_of (scope_in files f) method) there) ∙ sym (info_is files key method named))

pub callee_fits : (files : Files) (key : ℕ) (method : MethodRow) (asm : List ℕ) (clauses : List Clause) (info : CalleeInfo) → files.method key ≡ Some method → IsRowOf asm method
    → AreKnownOf method clauses → info ≡ info_with method clauses → has_short_name (info_in files) key ≡ true → IsCallee info
callee_fits files key method asm clauses info named row known is short =
    let args = arguments_few asm method row in
    let here : is_short_name (unit_name method) ≡ true = sym (ap (λ (i : CalleeInfo). is_short_name i.name) (info_is files key method named)) ∙ short in
    subst IsCallee (sym is) (record {
      args = args.0;
      few_args = args.1;
      name = name_fits asm method row (leb-true (length (unit_name method)) MAX_NAME_BYTES here);
      clauses = known.limits;
      ints = known.ints;
      numbers = known.numbers;
    })

-- The name of the method of a key.
pub short_some : (files : Files) (key : ℕ) (method : MethodRow) (name : List ℕ) → files.method key ≡ Some method → name ≡ unit_name method
    → is_short_name name ≡ has_short_name (info_in files) key
short_some files key method name named is = ap is_short_name is ∙ ap (λ (i : CalleeInfo). is_short_name i.name) (sym (info_is files key method named))

pub short_none : (files : Files) (key : ℕ) → files.method key ≡ None → true ≡ has_short_name (info_in files) key
short_none files key none = ap (λ (i : CalleeInfo). is_short_name i.name) (no_callee files key none)

pub short_at : (info : ℕ → CalleeInfo) (keys : List ℕ) (index key : ℕ) → list_all (has_short_name info) keys ≡ true → index < length keys → key ≡ get_or keys index key
    → has_short_name info key ≡ true
short_at info [] index key all inside is = absurd (omega (arith, inside))
short_at info (first ∷ keys) zero key all inside is = ap (has_short_name info) is ∙ (and_parts (has_short_name info first) (list_all (has_short_name info) keys) all).0
short_at info (first ∷ keys) (suc index) key all inside is =
    short_at info keys index key (and_parts (has_short_name info first) (list_all (has_short_name info) keys) all).1 (omega (arith, inside)) is

-- One callee more.
pub one_more : (infos : List CalleeInfo) (info : CalleeInfo) → AllByRecursion IsCallee infos → IsCallee info → AllByRecursion IsCallee (infos ++ info ∷ [])
one_more [] info all last = (last, tt)
one_more (first ∷ infos) info all last = (all.0, one_more infos info all.1 last)

pub all_callees : (info : ℕ → CalleeInfo) (keys : List ℕ) (index : ℕ) (infos : List CalleeInfo) → infos ≡ map info (take index keys) → length keys ≤ index → AllByRecursion IsCallee infos
    → AreCallees info keys infos
all_callees info keys index infos are end each = record { infos_are = are ∙ ap (map info) (take_all index keys end); each = each }
