-- Frames that are named together have no more references than variables, and no more symbols than variables and
-- references.
use Rattle.std.proofs.Common.{◌≡◌, ◌+◌, ◌≤◌, Bool, true, false, List, [], ◌∷◌, length, map, Some, None, refl}
use Rattle.std.proofs.Common.{arith, subst, length-append}
use Rattle.std.specs.Prelude.{if◌then◌else◌}
use Rattle.std.specs.List.{list_all}
use Rattle.std.proofs.lemmas.List.{length-map}
use Rattle.std.proofs.lemmas.Option.{none-some, same_Some}
use Rattle.domain_api.specs.declared.expr.Expr.{Expr}
use Rattle.symbolic_values.specs.declared.pairs.Key.{Key}
use Rattle.symbolic_values.proofs.UseCounts.{keys_count, reference_keys_count}
use Rattle.frame_names.specs.Frames.{length_at, numbers_of, references_of}
use Rattle.frame_names.specs.MergedReferences.{merged_references}
use Rattle.frame_names.specs.PairedFrames.{FramePairing, behind, exprs_of, if_near, is_near, named_frame, new_vars, old_of, paired_frames, pairing_by, pairs_of}
use Rattle.frame_names.specs.declared.reference.Reference.{Reference}
use Rattle.frame_names.specs.declared.var.Var.{Var}
use Rattle.frame_names.specs.declared.var.Var.TheVariants as vars

references_few : (vs : List Var) → length (references_of vs) ≤ length vs
references_few [] = omega arith
references_few (vars.Number e ∷ vs) = omega (arith, references_few vs)
references_few (vars.Reference r ∷ vs) = omega (arith, references_few vs)
references_few (vars.Text ∷ vs) = omega (arith, references_few vs)
references_few (vars.Address r e ∷ vs) = omega (arith, references_few vs)

numbers_few : (vs : List Var) → length (numbers_of vs) ≤ length vs
numbers_few [] = omega arith
numbers_few (vars.Number e ∷ vs) = omega (arith, numbers_few vs)
numbers_few (vars.Reference r ∷ vs) = omega (arith, numbers_few vs)
numbers_few (vars.Text ∷ vs) = omega (arith, numbers_few vs)
numbers_few (vars.Address r e ∷ vs) = omega (arith, numbers_few vs)

vars_count : (numbers references : List Expr) (vs : List Var) → length (new_vars numbers references vs) ≡ length vs
vars_count numbers references [] = refl
vars_count numbers references (vars.Number e ∷ vs) = omega (arith, vars_count (behind numbers) references vs)
vars_count numbers references (vars.Reference r ∷ vs) = omega (arith, vars_count numbers (behind references) vs)
vars_count numbers references (vars.Text ∷ vs) = omega (arith, vars_count numbers references vs)
vars_count numbers references (vars.Address r e ∷ vs) =
    omega (arith, vars_count (behind numbers) (behind references) vs)

-- ---- the pairing

pub record HasFewKeys (new : FramePairing) : Type 0 where
  pub references : length new.references.keys ≤ length new.vars
  pub numbers : length new.numbers.keys ≤ length new.vars + length new.references.keys

exprs_few : (vs : List Var) (known : List Reference) (is_first : Bool) (keys : List Key)
    → length (exprs_of vs known is_first keys) ≤ length vs + length keys
exprs_few vs known is_first keys =
    omega (
      arith,
      length-append (numbers_of vs) (map (λ key. length_at known (old_of is_first key)) keys),
      numbers_few vs,
      length-map keys (λ key. length_at known (old_of is_first key)),
    )

few_keys : (a b : List Var) (known other : List Reference)
    → HasFewKeys (named_frame a (pairs_of a b) (pairing_by (pairs_of a b) a known b other))
few_keys a b known other =
    let references = pairs_of a b in
    let numbers = pairing_by references a known b other in
    let same = vars_count numbers.exprs references.exprs a in record {
      references = omega (
        arith,
        same,
        reference_keys_count (references_of a) (references_of b),
        references_few a,
      );
      numbers = omega (
        arith,
        same,
        keys_count (exprs_of a known true references.keys) (exprs_of b other false references.keys),
        exprs_few a known true references.keys,
      );
    }

near_is : (new found : FramePairing) → if_near new ≡ Some found → new ≡ found
near_is new found is = by (list_all is_near new.numbers.exprs) is
  where
    by : (near : Bool) → (if near then Some new else None) ≡ Some found → new ≡ found
    by true same = same_Some new found same
    by false same = absurd (none-some found same)

pub few_paired : (a b : List Var) (known other : List Reference) (found : FramePairing)
    → paired_frames a known b other ≡ Some found → HasFewKeys found
few_paired a b known other found is =
    subst HasFewKeys
    (near_is (named_frame a (pairs_of a b) (pairing_by (pairs_of a b) a known b other)) found is)
    (few_keys a b known other)

pub merged_count : (a b : List Reference) (keys : List Key) (lengths : List Expr)
    → length (merged_references a b keys lengths) ≡ length keys
merged_count a b [] lengths = refl
merged_count a b (key ∷ keys) lengths = omega (arith, merged_count a b keys (behind lengths))
