-- What loads and stores of items keep of values, apart from the step that they are in, and what the address of an item
-- is.
use Rattle.std.proofs.Common.{◌≡◌, ℕ, ◌<◌, ℤ, pos, Option, Some, List, [], ◌∷◌, ◌++◌, length, refl, sym, ap, subst, ◌∙◌, FitsSigned, w32}
use Rattle.std.specs.Prelude.{slice_get, unsigned_abs}
use Rattle.std.proofs.lemmas.Option.{get_or_from_slice_get}
use Rattle.cil_model.specs.Effects as rows
use Rattle.cil_model.specs.Values.{Heap, IsHeap}
use Rattle.cil_model.specs.declared.machine.ArrayCell.{ArrayCell}
use Rattle.cil_model.specs.declared.machine.Frame.{Frame}
use Rattle.cil_model.specs.declared.machine.Value.{Value}
use Rattle.cil_model.specs.declared.machine.Value.TheVariants.{Int, Array, Addr}
use Rattle.domain_api.specs.declared.expr.Expr.{Expr}
use Rattle.frame_names.specs.declared.var.Var.TheVariants as vars
use Rattle.state_facts.specs.Forms.{HasForm, HasNumber, HasReference}
use Rattle.state_facts.specs.Holds.{HasValue, HoldsBy}
use Rattle.state_facts.specs.Keeps.{HasItem, HoldsOn}
use Rattle.state_facts.specs.Moves.{popped, pushed, with_item, with_stored}
use Rattle.state_facts.specs.StateFacts.{StateFacts, State}
use Rattle.state_facts.proofs.MovesHold.{push_keeps}
use Rattle.state_facts.proofs.StoresHold.{load_keeps, store_keeps}
use Rattle.symbolic_values.specs.Worth.{worth}
use Rattle.transfer_rules.specs.Acts.{with_address, with_item_at, with_item_of, with_item_put, with_put_at}
use Rattle.transfer_rules.specs.Operands.{on_one, on_three, on_two}
use Rattle.transfer_rules.specs.Laws.Moves.{for_some, from_popped, same_on}
use Rattle.transfer_rules.specs.Laws.Tops.{as_address, as_number, as_reference, on_one_over, on_three_over, on_two_over, over, place_below, var_below}

module _ (f : Frame) (heap : Heap) (is_heap : IsHeap heap) (number : ℕ → ℤ) (array : ℕ → Option ℕ) where
  -- An item that is read comes on top.
  read_on : (known : StateFacts) (r : ℕ) (i : Expr) (a n : ℕ) (rest : List Value) (cell : ArrayCell) (item : ℤ)
      → HasForm known → HasReference known r → HoldsBy known (over f rest) heap number array
      → HasItem heap number (array r) i a cell n → slice_get cell.items n ≡ Some item
      → HoldsOn (Some known) (with_item r i known) (over f rest ++ Int item ∷ []) heap number array
  read_on known r i a n rest cell item form there holds has is =
      subst (λ (m : ℤ). HoldsOn (Some known) (with_item r i known) (over f rest ++ Int m ∷ []) heap number array)
      (get_or_from_slice_get cell.items n item (pos 0) is)
      (load_keeps r i (Some known) (for_some HasForm known form)
      (for_some (λ (x : StateFacts). HasReference x r) known there) (over f rest) heap number array a cell n holds
      is_heap has)

  -- A number is written as it is put into an item's place.
  written_on : (known : StateFacts) (r : ℕ) (i value : Expr) (a n : ℕ) (rest : List Value) (cell : ArrayCell) (v : ℤ)
      (new : Heap) → HasForm known → HasReference known r → HasNumber known i → HasNumber known value
      → HoldsBy known (over f rest) heap number array → HasItem heap number (array r) i a cell n
      → worth number value ≡ v → FitsSigned w32 v → rows.with_item heap a cell n (rows.item_of cell.place v) ≡ new
      → HoldsOn (Some known) (with_stored r i value known) (over f rest) new number array
  written_on known r i value a n rest cell v new form there index own holds has worth_is fits new_is =
      subst (λ (h : Heap). HoldsOn (Some known) (with_stored r i value known) (over f rest) h number array)
      (ap (λ (m : ℤ). rows.with_item heap a cell n (rows.item_of cell.place m)) worth_is ∙ new_is)
      (store_keeps r i value (Some known) (for_some HasForm known form)
      (for_some (λ (x : StateFacts). HasReference x r) known there)
      (for_some (λ (x : StateFacts). HasNumber x i) known index)
      (for_some (λ (x : StateFacts). HasNumber x value) known own) (over f rest) heap number array a cell n holds
      is_heap has (subst (FitsSigned w32) (sym worth_is) fits))

  has_address : (r : ℕ) (i : Expr) (a n : ℕ) → array r ≡ Some a → worth number i ≡ pos n
      → HasValue number array (vars.Address r i) (Addr a n)
  has_address r i a n first second =
      ap (λ (o : Option ℕ). Some (o, pos n)) (sym first) ∙ ap (λ (m : ℤ). Some (array r, m)) (sym second)

  module _ (known : StateFacts) (form : HasForm known) where
    abbrev Over : List Value → Type 0
    Over stack = HoldsBy known (over f stack) heap number array

    -- By a reference and an index.
    pub item_loaded : (n : ℤ) (a : ℕ) (rest : List Value) (cell : ArrayCell) (item : ℤ)
        → Over (Int n ∷ Array a ∷ rest) → n ≡ pos (unsigned_abs n) → slice_get heap a ≡ Some cell
        → slice_get cell.items (unsigned_abs n) ≡ Some item
        → HoldsOn (Some known) (on_two with_item_of known) (over f rest ++ Int item ∷ []) heap number array
    item_loaded n a rest cell item holds above at item_is =
        let vs = over f rest ++ Int item ∷ [] in
        on_two_over (λ (s : State). HoldsOn (Some known) s vs heap number array) with_item_of known f (Int n) (Array a)
        rest heap number array form holds
        (λ upper lower.
        let below = popped (popped known) in
        let one = as_reference below lower.var (Array a) (Some a) number array lower.there lower.has refl in
        let index = as_number below upper.var (Int n) n number array (var_below (popped known) upper.var upper.there)
        upper.has refl in
        let state = with_item_of lower.var upper.var below in
        from_popped known state vs heap number array
        (from_popped (popped known) state vs heap number array
        (rw (one.is, index.is)
        (read_on below one.reference index.expr a (unsigned_abs n) rest cell item lower.form one.there lower.rest
        (record {
          array_is = one.array_is;
          cell_is = at;
          index_is = index.worth_is ∙ above;
          below = place_below cell.items (unsigned_abs n) item item_is;
        }) item_is))))

    pub item_stored : (v n : ℤ) (a : ℕ) (rest : List Value) (cell : ArrayCell) (new : Heap)
        → Over (Int v ∷ Int n ∷ Array a ∷ rest) → FitsSigned w32 v → slice_get heap a ≡ Some cell
        → n ≡ pos (unsigned_abs n) → unsigned_abs n < length cell.items
        → rows.with_item heap a cell (unsigned_abs n) (rows.item_of cell.place v) ≡ new
        → HoldsOn (Some known) (on_three with_item_put known) (over f rest) new number array
    item_stored v n a rest cell new holds fits at above below_length new_is =
        on_three_over (λ (s : State). HoldsOn (Some known) s (over f rest) new number array) with_item_put known f
        (Int v) (Int n) (Array a) rest heap number array form holds
        (λ upper middle lower.
        let below = popped (popped (popped known)) in
        let one = as_reference below lower.var (Array a) (Some a) number array lower.there lower.has refl in
        let index = as_number below middle.var (Int n) n number array
        (var_below (popped (popped known)) middle.var middle.there) middle.has refl in
        let value = as_number below upper.var (Int v) v number array
        (var_below (popped (popped known)) upper.var (var_below (popped known) upper.var upper.there)) upper.has
        refl in
        let state = with_item_put lower.var middle.var upper.var below in
        from_popped known state (over f rest) new number array
        (from_popped (popped known) state (over f rest) new number array
        (from_popped (popped (popped known)) state (over f rest) new number array
        (rw (one.is, index.is, value.is)
        (written_on below one.reference index.expr value.expr a (unsigned_abs n) rest cell v new lower.form one.there
        index.there value.there lower.rest (record {
          array_is = one.array_is;
          cell_is = at;
          index_is = index.worth_is ∙ above;
          below = below_length;
        }) value.worth_is fits new_is)))))

    pub address_taken : (n : ℤ) (a : ℕ) (rest : List Value) → Over (Int n ∷ Array a ∷ rest)
        → n ≡ pos (unsigned_abs n)
        → HoldsOn (Some known) (on_two with_address known) (over f rest ++ Addr a (unsigned_abs n) ∷ []) heap number
        array
    address_taken n a rest holds above =
        let value = Addr a (unsigned_abs n) in
        let vs = over f rest ++ value ∷ [] in
        on_two_over (λ (s : State). HoldsOn (Some known) s vs heap number array) with_address known f (Int n) (Array a)
        rest heap number array form holds
        (λ upper lower.
        let below = popped (popped known) in
        let one = as_reference below lower.var (Array a) (Some a) number array lower.there lower.has refl in
        let index = as_number below upper.var (Int n) n number array (var_below (popped known) upper.var upper.there)
        upper.has refl in
        let state = with_address lower.var upper.var below in
        from_popped known state vs heap number array
        (from_popped (popped known) state vs heap number array
        (rw (one.is, index.is)
        (same_on below (Some (pushed below (vars.Address one.reference index.expr))) vs heap number array
        (push_keeps (vars.Address one.reference index.expr) (Some below) (over f rest) heap number array value
        lower.rest
        (has_address one.reference index.expr a (unsigned_abs n) one.array_is (index.worth_is ∙ above)))))))

    -- By an address.
    pub item_loaded_at : (a n : ℕ) (rest : List Value) (cell : ArrayCell) (item : ℤ) → Over (Addr a n ∷ rest)
        → slice_get heap a ≡ Some cell → slice_get cell.items n ≡ Some item
        → HoldsOn (Some known) (on_one with_item_at known) (over f rest ++ Int item ∷ []) heap number array
    item_loaded_at a n rest cell item holds at item_is =
        let vs = over f rest ++ Int item ∷ [] in
        on_one_over (λ (s : State). HoldsOn (Some known) s vs heap number array) with_item_at known f (Addr a n) rest
        heap number array form holds
        (λ top.
        let below = popped known in
        let one = as_address below top.var (Addr a n) (Some a) (pos n) number array top.there top.has refl in
        from_popped known (with_item_at top.var below) vs heap number array
        (rw one.is
        (read_on below one.reference one.index a n rest cell item top.form one.there top.rest (record {
          array_is = one.array_is;
          cell_is = at;
          index_is = one.worth_is;
          below = place_below cell.items n item item_is;
        }) item_is)))

    pub item_stored_at : (v : ℤ) (a n : ℕ) (rest : List Value) (cell : ArrayCell) (new : Heap)
        → Over (Int v ∷ Addr a n ∷ rest) → FitsSigned w32 v → slice_get heap a ≡ Some cell → n < length cell.items
        → rows.with_item heap a cell n (rows.item_of cell.place v) ≡ new
        → HoldsOn (Some known) (on_two with_put_at known) (over f rest) new number array
    item_stored_at v a n rest cell new holds fits at below_length new_is =
        on_two_over (λ (s : State). HoldsOn (Some known) s (over f rest) new number array) with_put_at known f (Int v)
        (Addr a n) rest heap number array form holds
        (λ upper lower.
        let below = popped (popped known) in
        let one = as_address below lower.var (Addr a n) (Some a) (pos n) number array lower.there lower.has refl in
        let value = as_number below upper.var (Int v) v number array (var_below (popped known) upper.var upper.there)
        upper.has refl in
        let state = with_put_at lower.var upper.var below in
        from_popped known state (over f rest) new number array
        (from_popped (popped known) state (over f rest) new number array
        (rw (one.is, value.is)
        (written_on below one.reference one.index value.expr a n rest cell v new lower.form one.there one.index_there
        value.there lower.rest (record {
          array_is = one.array_is;
          cell_is = at;
          index_is = one.worth_is;
          below = below_length;
        }) value.worth_is fits new_is))))
