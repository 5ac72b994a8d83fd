use Rattle.std.proofs.Common.{◌≡◌, ◌++◌, ◌∷◌, [], drop}
use Rattle.std.specs.List.{flat_map}
use Rattle.cil_model.specs.Places.{place_number}
use Rattle.unit_form.proofs.unit_writer.append_places.Given as goal

abbrev pub invariant-loop-place : goal.invariant-loop-place
invariant-loop-place l =
    l.out.items ++ flat_map (λ place. place_number place ∷ []) (drop l.place-index l.places) ≡ l.initial.out.items ++ flat_map (λ place. place_number place ∷ []) l.places
