-- What callers know of a method keeps the limits and has kinds.
use Rattle.std.proofs.Common.{◌≡◌, ℕ, true, ◌&&◌, List, [], ◌∷◌, map, filter_map, refl, sym, ap, subst, ◌∙◌, arith}
use Rattle.std.specs.Prelude.{Option, Some, None, Result, Ok, Err, IfOk, is_none}
use Rattle.std.specs.declared.alloc.Global.{Global}
use Rattle.std.specs.declared.vec.Vec.{Vec}
use Rattle.std.specs.List.{AllByRecursion, list_all}
use Rattle.std.proofs.lemmas.Bool.{and_parts, cond_both}
use Rattle.std.proofs.lemmas.Option.{none-some}
use Rattle.asm_image.specs.declared.method_row.MethodRow.{MethodRow}
use Rattle.cc_base.specs.Tests.{Judges}
use Rattle.cil_model.specs.TreeKinds.{IsNumberClause}
use Rattle.cil_model.specs.WellFormed.{ClausesWithinLimits, HasInts, told_by_code}
use Rattle.cil_model.specs.declared.clause.Clause.{Clause}
use Rattle.cil_model.specs.declared.instruction.Instr.{Instr}
use Rattle.cil_model.specs.declared.place.Kind.{Kind}
use Rattle.cil_model.specs.declared.place.Kind.TheVariants as kinds
use Rattle.cil_model.specs.declared.shape.Shape.{Shape}
use Rattle.clause_faults.specs.Faults.{first_clause_fault}
use Rattle.clause_faults.specs.declared.clause_fault.ClauseFault.{ClauseFault}
use Rattle.contract_extract.specs.declared.contracts.Contracts.{Contracts}
use Rattle.method_code.specs.OfMethods.{args_of, bare_shape, clauses_of as clauses_with, instrs_of, is_number, is_number_clause, known_clauses, result_of, told_clauses}
use Rattle.method_code.specs.Reading.{AreContractsOf, IsCodeOf}
use Rattle.method_code.specs.declared.code_reader.MethodCode.{MethodCode}
use Rattle.method_unit.specs.UnitFile.{clause_told}
use Rattle.unit_builder.specs.Scopes.{Scope}
use Rattle.unit_builder.proofs.SlotFacts.{faulty_clauses}
use Rattle.unit_builder.specs.Bodies.{clauses_of}
use Rattle.unit_builder.specs.Making.{AreKnownOf}
use Rattle.unit_builder.specs.Slots.{IsWhole, TellsClauses}
use Rattle.unit_builder.specs.declared.slots.Slot.{Slot}
use Rattle.unit_builder.specs.declared.slots.Slot.TheVariants.{Unread, Faulty, Whole, Spent}

no_limits : ClausesWithinLimits []
no_limits = record { count = omega arith; nodes = tt; conditions = tt; old_values = omega arith }

-- Clauses that code tells are those that were read of it.
pub told_again : (clauses : List Clause) → filter_map clause_told (map told_by_code clauses) ≡ clauses
told_again [] = refl
told_again (clause ∷ clauses) = ap (λ others. clause ∷ others) (told_again clauses)

-- Clauses that were read keep the limits.
told_within : (method : MethodRow) (is : List Instr) (fault : Option ClauseFault) (read : Result Contracts ClauseFault) → Judges read fault (AreContractsOf method is) → fault ≡ None
    → ClausesWithinLimits (told_clauses is)
told_within method is fault (Ok contracts) judged none =
    subst ClausesWithinLimits (sym (ap (filter_map clause_told) judged.1.told.told ∙ told_again contracts.clauses)) judged.1.limits
told_within method is fault (Err other) judged none = absurd (none-some other (sym none ∙ judged))

number_told : (kind : Option Kind) → is_number kind ≡ true → kind ≡ Some kinds.Int
number_told (Some kinds.Int) so = refl
number_told (Some kinds.Native) so = absurd cc
number_told (Some kinds.Ints) so = absurd cc
number_told (Some kinds.Bools) so = absurd cc
number_told (Some kinds.NullRef) so = absurd cc
number_told (Some kinds.Text) so = absurd cc
number_told (Some kinds.AddrInts) so = absurd cc
number_told (Some kinds.AddrBools) so = absurd cc
number_told None so = absurd cc

numbers_told : (shape : Shape) (clauses : List Clause) → list_all (is_number_clause shape) clauses ≡ true → AllByRecursion (IsNumberClause shape.args shape.result) clauses
numbers_told shape [] so = tt
numbers_told shape (clause ∷ clauses) so =
    let both = and_parts (is_number_clause shape clause) (list_all (is_number_clause shape) clauses) so in (number_told _ both.0, numbers_told shape clauses both.1)

-- Clauses as callers may have them, but for their constants.
abbrev MayBeKnown : MethodRow → List Clause → Type 0
MayBeKnown method clauses = ClausesWithinLimits clauses × AllByRecursion (IsNumberClause (args_of method.sig.types) (result_of method.sig.types)) clauses

none_of : {X : Type 0} (x : Option X) → is_none x ≡ true → x ≡ None
none_of None so = refl
none_of (Some x) so = absurd cc

known_within : (method : MethodRow) (is : List Instr) (read : Result Contracts ClauseFault) → Judges read (first_clause_fault is (bare_shape method)) (AreContractsOf method is)
    → MayBeKnown method (known_clauses (bare_shape method) is)
known_within method is read judged =
    let fault = first_clause_fault is (bare_shape method) in
    let numbers = list_all (is_number_clause (bare_shape method)) (told_clauses is) in
    cond_both (is_none fault && numbers) (told_clauses is) [] (MayBeKnown method)
    (λ e.
    let both = and_parts (is_none fault) numbers e in
    (told_within method is fault read judged (none_of fault both.0), numbers_told (bare_shape method) (told_clauses is) both.1))
    (λ e. (no_limits, tt))

instrs_there : (s : Scope) (method : MethodRow) (code : MethodCode) → IsCodeOf s.meaning s.asm method code → instrs_of s.meaning s.asm method ≡ Some code.instrs
unfolding instrs_of
instrs_there s method code of = rw (of.own, of.faultless) (ap Some (sym of.read_of.instrs))

code_known : (s : Scope) (method : MethodRow) (code : MethodCode) → IsWhole s method code → MayBeKnown method (clauses_of s method)
unfolding clauses_with
code_known s method code whole =
    rw (instrs_there s method code whole.code_is) (known_within method code.instrs code.contracts whole.code_is.read_of.contracts)

slot_known : (s : Scope) (method : MethodRow) (slot : Slot) → TellsClauses s method slot → MayBeKnown method (clauses_of s method)
slot_known s method Unread told = absurd told
slot_known s method (Faulty fault) told = rw (faulty_clauses s method fault told) (no_limits, tt)
slot_known s method (Whole code) told = code_known s method code told
slot_known s method (Spent code) told = code_known s method _ told.whole

-- Copies of what callers know by a slot.
pub known_of : (s : Scope) (method : MethodRow) (slot : Slot) (clauses : List Clause) → TellsClauses s method slot → clauses ≡ clauses_of s method → AllByRecursion HasInts clauses
    → AreKnownOf method clauses
known_of s method slot clauses told same ints =
    let known = subst (MayBeKnown method) (sym same) (slot_known s method slot told) in
    record { limits = known.0; ints = ints; numbers = known.1 }

pub known_result : {E : Type 0} (r : Result (Vec Clause Global) E) (s : Scope) (method : MethodRow) (slot : Slot) → TellsClauses s method slot
    → IfOk r (λ clauses. clauses.items ≡ clauses_of s method) → IfOk r (λ clauses. AllByRecursion HasInts clauses.items) → IfOk r (λ clauses. AreKnownOf method clauses.items)
known_result (Ok clauses) s method slot told same ints = known_of s method slot clauses.items told same ints
known_result (Err error) s method slot told same ints = tt

pub none_known : (method : MethodRow) → AreKnownOf method []
none_known method = record { limits = no_limits; ints = tt; numbers = tt }
