-- Slots of all methods, and one that changes.
use Rattle.std.proofs.Common.{◌≡◌, ℕ, ◌<◌, List, length, get_or, sym, ap, subst, ◌∙◌, arith, inl, inr}
use Rattle.std.specs.Prelude.{Some, slice_get, slice_set}
use Rattle.std.specs.declared.alloc.Global.{Global}
use Rattle.std.specs.declared.vec.Vec.{Vec}
use Rattle.std.proofs.lemmas.Bool.{cases_eq}
use Rattle.std.proofs.lemmas.List.{get_or-set_other, get_or-set_same, length-set}
use Rattle.std.proofs.lemmas.Option.{same_Some, slice_get_within}
use Rattle.asm_image.specs.Rows.{methods_of}
use Rattle.asm_image.specs.declared.method_row.MethodRow.{MethodRow}
use Rattle.unit_builder.specs.Scopes.{Files, Scope, scope_in}
use Rattle.unit_builder.specs.Slots.{AreAllSlots, AreSlots, IsSlotOf}
use Rattle.unit_builder.specs.declared.slots.Slot.{Slot}

pub slot_within : (s : Scope) (slots : List Slot) (index : ℕ) (method : MethodRow) → AreSlots s slots → slice_get (methods_of s.asm) index ≡ Some method → index < length slots
slot_within s slots index method all there = let inside = slice_get_within (methods_of s.asm) index method there in omega (arith, inside, all.count)

pub slot_there : (s : Scope) (slots : List Slot) (index : ℕ) (method : MethodRow) (slot : Slot) → AreSlots s slots → slice_get (methods_of s.asm) index ≡ Some method
    → slot ≡ get_or slots index slot → IsSlotOf s method slot
slot_there s slots index method slot all there is = subst (IsSlotOf s method) (sym is) (all.each index method slot there)

pub slot_set : (s : Scope) (slots : List Slot) (index : ℕ) (method : MethodRow) (slot : Slot) → AreSlots s slots → slice_get (methods_of s.asm) index ≡ Some method
    → IsSlotOf s method slot → AreSlots s (slice_set slots index slot)
slot_set s slots index method slot all there so = record {
  count = length-set slots index slot ∙ all.count;
  each = λ at other_method other found. elim (cases_eq at index) [
    | inl e ↦
        let same : method ≡ other_method = same_Some method other_method (sym there ∙ (ap (slice_get (methods_of s.asm)) (sym e) ∙ found)) in
        let inside = slot_within s slots index method all there in
        let here : get_or (slice_set slots index slot) at other ≡ slot = ap (λ (k : ℕ). get_or (slice_set slots index slot) k other) e ∙ get_or-set_same slots index slot other inside in
        subst (λ (m : MethodRow). IsSlotOf s m (get_or (slice_set slots index slot) at other)) same (subst (IsSlotOf s method) (sym here) so)
    | inr e ↦ subst (IsSlotOf s other_method) (sym (get_or-set_other slots index at slot other e)) (all.each at other_method other found)
  ];
}

-- ---- the slots of all files

pub file_within : (files : Files) (slots : List (Vec Slot Global)) (file : ℕ) → AreAllSlots files slots → file < files.count → file < length slots
file_within files slots file all there = omega (arith, there, all.count)

pub file_there : (files : Files) (slots : List (Vec Slot Global)) (file : ℕ) (own : Vec Slot Global) → AreAllSlots files slots → file < files.count → own ≡ get_or slots file own
    → AreSlots (scope_in files file) own.items
file_there files slots file own all there is = subst (λ (v : Vec Slot Global). AreSlots (scope_in files file) v.items) (sym is) (all.each file own there)

pub file_set : (files : Files) (slots : List (Vec Slot Global)) (file : ℕ) (own : Vec Slot Global) → AreAllSlots files slots → file < files.count
    → AreSlots (scope_in files file) own.items → AreAllSlots files (slice_set slots file own)
file_set files slots file own all there so = record {
  count = length-set slots file own ∙ all.count;
  each = λ at other found. elim (cases_eq at file) [
    | inl e ↦
        let here : get_or (slice_set slots file own) at other ≡ own =
        ap (λ (k : ℕ). get_or (slice_set slots file own) k other) e ∙ get_or-set_same slots file own other (file_within files slots file all there) in
        subst (λ (k : ℕ). AreSlots (scope_in files k) (get_or (slice_set slots file own) at other).items) (sym e)
        (subst (λ (v : Vec Slot Global). AreSlots (scope_in files file) v.items) (sym here) so)
    | inr e ↦ subst (λ (v : Vec Slot Global). AreSlots (scope_in files at) v.items) (sym (get_or-set_other slots file at own other e)) (all.each at other found)
  ];
}
