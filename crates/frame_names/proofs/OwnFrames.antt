-- A frame that is paired with itself.
use Rattle.std.proofs.Common.{◌≡◌, true, false, List, [], ◌∷◌, ◌++◌, map, refl, sym, ap, subst}
use Rattle.std.specs.List.{AllByRecursion}
use Rattle.domain_api.specs.declared.expr.Expr.{Expr}
use Rattle.symbolic_values.specs.Names.{as_expr}
use Rattle.symbolic_values.specs.Pairing.{Pairing, known_in, origin, paired, uses_of}
use Rattle.symbolic_values.specs.declared.pairs.Key.{Key}
use Rattle.frame_names.specs.Frames.{length_at, numbers_of, references_of}
use Rattle.frame_names.specs.PairedFrames.{exprs_of, old_of, pairing_by, pairs_of}
use Rattle.frame_names.specs.declared.reference.Reference.{Reference}
use Rattle.frame_names.specs.declared.var.Var.{Var}
use Rattle.frame_names.proofs.UseLemmas.{all_behind, all_first}

abbrev IsOwn : Key → Type 0
IsOwn key = key.s ≡ key.t

own_uses : (exprs : List Expr) → AllByRecursion IsOwn (uses_of exprs exprs)
own_uses [] = tt
own_uses (e ∷ exprs) = (refl, own_uses exprs)

own_keys : (exprs : List Expr) → AllByRecursion IsOwn (paired exprs exprs).keys
own_keys exprs =
    all_behind IsOwn (known_in exprs exprs)
    (all_first IsOwn (origin ∷ []) (uses_of exprs exprs) (refl, tt) (own_uses exprs))

own_lengths : (known : List Reference) (keys : List Key) → AllByRecursion IsOwn keys
    → map (λ key. length_at known (old_of true key)) keys ≡ map (λ key. length_at known (old_of false key)) keys
own_lengths known [] all = refl
own_lengths known (key ∷ keys) all = λ i. length_at known (all.0 i) ∷ own_lengths known keys all.1 i

-- Both sides have the same numbers and lengths.
pub own_pairing : (vs : List Var) (known : List Reference) (references : Pairing) → references ≡ pairs_of vs vs
    → paired (exprs_of vs known true references.keys) (exprs_of vs known true references.keys)
    ≡ pairing_by references vs known vs known
own_pairing vs known references is =
    ap (λ lengths. paired (exprs_of vs known true references.keys) (numbers_of vs ++ lengths))
    (own_lengths known references.keys
    (subst (λ pairs. AllByRecursion IsOwn pairs.keys) (sym is) (own_keys (map as_expr (references_of vs)))))
