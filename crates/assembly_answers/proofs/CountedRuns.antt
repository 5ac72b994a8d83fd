-- What a run prints is one line, and a reason why there is none has no line feed. The lines of a search are lines, too.
use Rattle.std.proofs.Common.{◌≡◌, ℕ, zero, suc, ℤ, Bool, true, false, ◌&&◌, List, [], ◌∷◌, ◌++◌, map, Option, Some, None, if◌then◌else◌, slice_get, append_assoc, refl, subst, codes}
use Rattle.std.specs.Prelude.{pos, decimal}
use Rattle.std.specs.Fmt.{signed_decimal}
use Rattle.std.specs.List.{AllByRecursion, flat_map, join_with_byte}
use Rattle.std.specs.Option.{option_and_then, option_map_or}
use Rattle.std.specs.Ordering.{int_eq}
use Rattle.cil_model.specs.Runs.{instr_at}
use Rattle.cil_model.specs.Values.{Heap}
use Rattle.cil_model.specs.WellFormed.{IsWellFormed, called_by}
use Rattle.cil_model.specs.declared.arg.Arg.{Arg}
use Rattle.cil_model.specs.declared.arg.Arg.TheVariants as args
use Rattle.cil_model.specs.declared.instruction.Instr.{Instr}
use Rattle.cil_model.specs.declared.machine.FaultKind.{FaultKind}
use Rattle.cil_model.specs.declared.machine.Value.{Value}
use Rattle.cil_model.specs.declared.machine.Value.TheVariants as values
use Rattle.cil_model.specs.declared.machine.World.{World}
use Rattle.cil_model.specs.declared.place.Place.{Place}
use Rattle.cil_model.specs.declared.unit.Unit.{Unit as MethodUnit}
use Rattle.clause_eval.specs.Lookups.{items_at}
use Rattle.cil_eval.specs.Outcome.{last_state, outcome}
use Rattle.cil_eval.specs.RunWorlds.{CanBeRun}
use Rattle.cil_eval.specs.Starts.{start_refusal, start_state}
use Rattle.cil_eval.specs.declared.limits.Limits.{Limits}
use Rattle.cil_eval.specs.declared.start_refusal.StartRefusal.{StartRefusal}
use Rattle.cil_eval.specs.declared.start_refusal.StartRefusal.TheVariants as refusals
use Rattle.cil_eval.specs.declared.stop.Stop.{Stop}
use Rattle.cil_eval.specs.declared.stop.Stop.TheVariants as stops
use Rattle.il_decoder.specs.Labels.{label}
use Rattle.answer_lines.specs.FaultKinds.{callee_text, kind_text}
use Rattle.answer_lines.specs.LineCounts.{line_count}
use Rattle.answer_lines.specs.Signatures.{unit_signature}
use Rattle.answer_lines.proofs.LineLemmas.{line_of_text, none_behind}
use Rattle.answer_lines.proofs.PlainTexts.{none_in_callee, none_in_each, none_in_either, none_in_graphic, none_in_kind, none_in_number, none_in_signature, none_in_signed}
use Rattle.method_run.specs.ArgumentWords.{arguments_of}
use Rattle.method_run.specs.EndTexts.{end_text}
use Rattle.method_run.specs.FaultTexts.{called_at, callee_at, fault_line, fault_text, method_text, position_text}
use Rattle.method_run.specs.RunAnswers.{end_answer, entry_answer, outcome_answer, refusal_answer, run_answer, run_limits, start_answer}
use Rattle.method_run.specs.ValueTexts.{returned_text, value_text}
use Rattle.run_arguments.specs.Texts.{bool_text, is_of_bools, items_text, list_text, number_text, text_of}
use Rattle.assembly_answers.specs.Answers.{TellsLine}
use Rattle.assembly_answers.specs.RefuteText.{next_argument, not_refuted_line, refuted_line}
use Rattle.assembly_answers.proofs.PlainTexts.{none_in_label}

-- ---- values

-- The text has no line feed.
abbrev HasNoFeed : List ℕ → Type 0
HasNoFeed text = line_count text ≡ 0

number_plain : (place : Place) (n : ℤ) → line_count (number_text place n) ≡ 0
unfolding line_count
number_plain place n =
    let nought = is_of_bools place && int_eq n (pos 0) in
    let one = is_of_bools place && int_eq n (pos 1) in
    none_in_either nought (codes "false") (if one then codes "true" else signed_decimal n) refl
    (none_in_either one (codes "true") (signed_decimal n) refl (none_in_signed n))

numbers_plain : (place : Place) (items : List ℤ) → AllByRecursion HasNoFeed (map (number_text place) items)
numbers_plain place [] = tt
numbers_plain place (n ∷ items) = (number_plain place n, numbers_plain place items)

joined_plain : (items : List (List ℕ)) → AllByRecursion HasNoFeed items → line_count (join_with_byte 44 items) ≡ 0
unfolding line_count
joined_plain [] all = refl
joined_plain (x ∷ []) all = all.0
joined_plain (x ∷ y ∷ items) all =
    none_behind x (44 ∷ join_with_byte 44 (y ∷ items)) all.0
    (none_behind (44 ∷ []) (join_with_byte 44 (y ∷ items)) refl (joined_plain (y ∷ items) all.1))

list_plain : (items : List (List ℕ)) → AllByRecursion HasNoFeed items → line_count (list_text items) ≡ 0
unfolding line_count
list_plain items all =
    let joined = join_with_byte 44 items in
    none_behind (91 ∷ []) (joined ++ 93 ∷ []) refl (none_behind joined (93 ∷ []) (joined_plain items all) refl)

items_plain : (place : Place) (found : Option (List ℤ)) → line_count (option_map_or (items_text place) found []) ≡ 0
unfolding line_count
items_plain place None = refl
items_plain place (Some items) =
    list_plain (map (number_text place) items) (numbers_plain place items)

value_plain : (place : Place) (heap : Heap) (value : Value) → line_count (value_text place heap value) ≡ 0
unfolding line_count
value_plain place heap (values.Int n) = number_plain place n
value_plain place heap (values.Native n) = refl
value_plain place heap values.Null = refl
value_plain place heap (values.Array index) = items_plain place (items_at heap index)
value_plain place heap (values.Addr index item) = refl
value_plain place heap values.Text = refl

returned_plain : (place : Place) (heap : Heap) (result : Option Value) → line_count (returned_text place heap result) ≡ 0
unfolding line_count
returned_plain place heap None = refl
returned_plain place heap (Some value) = none_behind (codes "returned ") (value_text place heap value) refl (value_plain place heap value)

-- ---- methods

units_plain : (units : List MethodUnit) (index : ℕ) → AllByRecursion IsWellFormed units → line_count (option_map_or unit_signature (slice_get units index) []) ≡ 0
unfolding line_count
units_plain [] index formed = refl
units_plain (unit ∷ units) zero formed = none_in_signature unit.name unit.args (none_in_graphic unit.name formed.0.name.graphic)
units_plain (unit ∷ units) (suc index) formed = units_plain units index formed.1

position_plain : (w : World) (index at : ℕ) → CanBeRun w → line_count (position_text w index at) ≡ 0
unfolding line_count
position_plain w index at can =
    none_behind (codes " at " ++ label at ++ codes " in ") (method_text w index)
    (none_behind (codes " at " ++ label at) (codes " in ") (none_behind (codes " at ") (label at) refl (none_in_label at)) refl)
    (units_plain w.units index can.units)

callee_plain : (unit : MethodUnit) (at : ℕ) → IsWellFormed unit → line_count (callee_text (callee_at unit at)) ≡ 0
unfolding line_count
callee_plain unit at formed = by_instr (instr_at unit.instrs at)
  where
    by_instr : (found : Option Instr) → line_count (callee_text (option_and_then (λ (i : Instr). option_and_then (slice_get unit.callees) (called_by i.op)) found)) ≡ 0
    by_instr None = refl
    by_instr (Some i) = none_in_callee unit.callees (called_by i.op) formed.callees

called_plain : (units : List MethodUnit) (index at : ℕ) → AllByRecursion IsWellFormed units
    → line_count (callee_text (option_and_then (λ (unit : MethodUnit). callee_at unit at) (slice_get units index))) ≡ 0
unfolding line_count
called_plain [] index at formed = refl
called_plain (unit ∷ units) zero at formed = callee_plain unit at formed.0
called_plain (unit ∷ units) (suc index) at formed = called_plain units index at formed.1

-- ---- ends

fault_plain : (w : World) (kind : FaultKind) (index at : ℕ) → CanBeRun w → line_count (fault_text w kind index at) ≡ 0
unfolding line_count
fault_plain w kind index at can =
    let callee = called_at w index at in
    none_behind (codes "fault " ++ kind_text callee kind) (position_text w index at)
    (none_behind (codes "fault ") (kind_text callee kind) refl (none_in_kind callee kind (called_plain w.units index at can.units)))
    (position_plain w index at can)

end_plain : (w : World) (limits : Limits) (place : Place) (heap : Heap) (stop : Stop) → CanBeRun w → line_count (end_text w limits place heap stop) ≡ 0
unfolding line_count
end_plain w limits place heap (stops.Returned result) can = returned_plain place heap result
end_plain w limits place heap (stops.Fault kind index at) can = fault_plain w kind index at can
end_plain w limits place heap (stops.Assumed index at) can = none_behind (codes "assume false") (position_text w index at) refl (position_plain w index at can)
end_plain w limits place heap stops.Steps can = none_behind (codes "stopped: steps ") (decimal limits.steps) refl (none_in_number limits.steps)
end_plain w limits place heap stops.Depth can = none_behind (codes "stopped: depth ") (decimal limits.depth) refl (none_in_number limits.depth)
end_plain w limits place heap stops.Cells can = none_behind (codes "stopped: cells ") (decimal limits.cells) refl (none_in_number limits.cells)

end_tells : (w : World) (limits : Limits) (place : Place) (heap : Heap) (stop : Stop) → CanBeRun w → TellsLine (end_answer w limits place heap stop)
end_tells w limits place heap stop can =
    let text = end_text w limits place heap stop in
    line_of_text text (end_plain w limits place heap stop can)

-- ---- arguments that end in a fault

ints_plain : (ns : List ℤ) → AllByRecursion HasNoFeed (map signed_decimal ns)
ints_plain [] = tt
ints_plain (n ∷ ns) = (none_in_signed n, ints_plain ns)

bool_plain : (b : Bool) → line_count (bool_text b) ≡ 0
unfolding line_count
bool_plain true = refl
bool_plain false = refl

bools_plain : (bs : List Bool) → AllByRecursion HasNoFeed (map bool_text bs)
bools_plain [] = tt
bools_plain (b ∷ bs) = (bool_plain b, bools_plain bs)

argument_plain : (arg : Arg) → line_count (text_of arg) ≡ 0
unfolding line_count
argument_plain (args.Int n) = none_in_signed n
argument_plain (args.Bool b) = bool_plain b
argument_plain args.Null = refl
argument_plain (args.Ints ns) = list_plain (map signed_decimal ns) (ints_plain ns)
argument_plain (args.Bools bs) = list_plain (map bool_text bs) (bools_plain bs)
argument_plain (args.Same k) = none_behind (64 ∷ []) (decimal k) refl (none_in_number k)

next_plain : (arg : Arg) → line_count (next_argument arg) ≡ 0
unfolding line_count
next_plain arg = none_behind (codes " ") (text_of arg) refl (argument_plain arg)

pub refuted_is_line : (given : List Arg) → line_count (refuted_line given) ≡ 1
unfolding line_count
refuted_is_line given =
    line_of_text (codes "refuted:" ++ flat_map next_argument given)
    (none_behind (codes "refuted:") (flat_map next_argument given) refl (none_in_each next_argument given next_plain))

pub fault_is_line : (w : World) (kind : FaultKind) (index at : ℕ) → CanBeRun w → line_count (fault_line w kind index at) ≡ 1
fault_is_line w kind index at can = line_of_text (fault_text w kind index at) (fault_plain w kind index at can)

pub not_refuted_is_line : (tried started : ℕ) → line_count (not_refuted_line tried started) ≡ 1
unfolding line_count
not_refuted_is_line tried started =
    let counts = codes "not refuted: " ++ decimal tried ++ codes " tried, " ++ decimal started in
    let none : line_count counts ≡ 0 =
    none_behind (codes "not refuted: " ++ decimal tried ++ codes " tried, ") (decimal started)
    (none_behind (codes "not refuted: " ++ decimal tried) (codes " tried, ")
    (none_behind (codes "not refuted: ") (decimal tried) refl (none_in_number tried)) refl) (none_in_number started) in
    subst (λ (text : List ℕ). line_count text ≡ 1) (append_assoc counts (codes " started") (codes "\n"))
    (line_of_text (counts ++ codes " started") (none_behind counts (codes " started") none refl))

-- ---- answers

outcome_tells : (w : World) (limits : Limits) (place : Place) (heap : Heap) (found : Option Stop) → CanBeRun w → TellsLine (outcome_answer w limits place heap found)
unfolding line_count
outcome_tells w limits place heap None can = refl
outcome_tells w limits place heap (Some stop) can = end_tells w limits place heap stop can

refusal_tells : (limits : Limits) (refusal : StartRefusal) → TellsLine (refusal_answer limits refusal)
unfolding line_count
refusal_tells limits refusals.Unit = refl
refusal_tells limits refusals.Arguments = refl
refusal_tells limits (refusals.Requires k) = none_behind (codes "requires ") (decimal k) refl (none_in_number k)
refusal_tells limits refusals.Cells =
    let text = codes "stopped: cells " ++ decimal limits.cells in
    line_of_text text (none_behind (codes "stopped: cells ") (decimal limits.cells) refl (none_in_number limits.cells))

start_tells : (w : World) (limits : Limits) (unit : MethodUnit) (args : List Arg) (refusal : Option StartRefusal) → CanBeRun w → TellsLine (start_answer w limits unit args refusal)
start_tells w limits unit args (Some refusal) can = refusal_tells limits refusal
start_tells w limits unit args None can =
    let start = start_state unit 0 args in
    outcome_tells w limits unit.result (last_state w limits limits.steps start).heap (outcome w limits limits.steps start) can

entry_tells : (w : World) (limits : Limits) (words : List (List ℕ)) (found : Option MethodUnit) → CanBeRun w → TellsLine (entry_answer w limits words found)
unfolding line_count
entry_tells w limits words None can = refl
entry_tells w limits words (Some unit) can =
    let args = arguments_of unit.args words in
    start_tells w limits unit args (start_refusal w limits 0 args) can

pub run_tells : (w : World) (words : List (List ℕ)) (steps : ℕ) → CanBeRun w → TellsLine (run_answer w words steps)
unfolding run_answer
run_tells w words steps can = entry_tells w (run_limits steps) words (slice_get w.units 0) can
