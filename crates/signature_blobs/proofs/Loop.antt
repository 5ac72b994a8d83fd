-- Reading types one after another, as a loop does.
use Rattle.std.proofs.Common.{◌≡◌, ℕ, suc, ◌-◌, ◌+◌, ◌≤◌, ◌<◌, List, [], ◌∷◌, ◌++◌, Some, None, Ok, Err, refl, sym, ap, ◌∙◌, append_assoc, arith}
use Rattle.std.proofs.lemmas.List.{append-nil}
use Rattle.cil_model.specs.declared.place.Place.{Place}
use Rattle.signature_blobs.specs.declared.fault.SigFault.{SigFault}
use Rattle.signature_blobs.specs.Reading.{Reading, ◌>>=◌}
use Rattle.signature_blobs.specs.Types.{type_at, types_at}

-- what was read before, and what is still read
abbrev pub with_prefix : List Place → Reading (List Place) → Reading (List Place)
with_prefix prefix read = read >>= λ others. Ok (Some (prefix ++ others))

regroup : (prefix : List Place) (place : Place) (read : Reading (List Place)) → with_prefix prefix (read >>= λ others. Ok (Some (place ∷ others))) ≡ with_prefix (prefix ++ place ∷ []) read
regroup prefix place (Ok (Some others)) = ap (λ (places : List Place). Ok (Some places)) (simp append_assoc)
regroup prefix place (Ok None) = refl
regroup prefix place (Err fault) = refl

pub goes_on : (blob : List ℕ) (prefix : List Place) (count i at : ℕ) (place : Place) (after : ℕ) (total : Reading (List Place)) → i < count → type_at blob at ≡ Ok (Some (place, after))
    → with_prefix prefix (types_at blob at (count - i)) ≡ total → with_prefix (prefix ++ place ∷ []) (types_at blob after (count - (i + 1))) ≡ total
unfolding types_at
goes_on blob prefix count i at place after total lt h so_far =
    let k : count - i ≡ suc (count - (i + 1)) = omega arith in
    let one : with_prefix prefix (types_at blob at (count - i)) ≡ with_prefix (prefix ++ place ∷ []) (types_at blob after (count - (i + 1))) = rw (k, h) (regroup prefix place (types_at blob after (count - (i + 1)))) in
    sym one ∙ so_far

pub fails : (blob : List ℕ) (prefix : List Place) (count i at : ℕ) (fault : SigFault) (total : Reading (List Place)) → i < count → type_at blob at ≡ Err fault
    → with_prefix prefix (types_at blob at (count - i)) ≡ total → Err fault ≡ total
unfolding types_at
fails blob prefix count i at fault total lt h so_far =
    let k : count - i ≡ suc (count - (i + 1)) = omega arith in
    let one : with_prefix prefix (types_at blob at (count - i)) ≡ Err fault = rw (k, h) refl in
    sym one ∙ so_far

pub leaves : (blob : List ℕ) (prefix : List Place) (count i at : ℕ) (total : Reading (List Place)) → i < count → type_at blob at ≡ Ok None
    → with_prefix prefix (types_at blob at (count - i)) ≡ total → Ok None ≡ total
unfolding types_at
leaves blob prefix count i at total lt h so_far =
    let k : count - i ≡ suc (count - (i + 1)) = omega arith in
    let one : with_prefix prefix (types_at blob at (count - i)) ≡ Ok None = rw (k, h) refl in
    sym one ∙ so_far

pub is_done : (blob : List ℕ) (prefix : List Place) (count i at : ℕ) (total : Reading (List Place)) → count ≤ i → with_prefix prefix (types_at blob at (count - i)) ≡ total → Ok (Some prefix) ≡ total
unfolding types_at
is_done blob prefix count i at total le so_far =
    let k : count - i ≡ 0 = omega arith in
    let one : with_prefix prefix (types_at blob at (count - i)) ≡ Ok (Some prefix) = rw k (ap (λ (places : List Place). Ok (Some places)) (append-nil prefix)) in
    sym one ∙ so_far
