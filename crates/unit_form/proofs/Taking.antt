-- Trees that are taken from the end of a list, which is the top of a stack.
use Rattle.std.proofs.Common.{◌≡◌, ℕ, ◌+◌, ◌≤◌, ◌<◌, List, [], ◌∷◌, ◌++◌, ◌-◌, length, map, take, reverse, refl, sym, ap, ◌∙◌, length-append, arith, rules}
use Rattle.std.specs.Prelude.{slice_index_or}
use Rattle.std.proofs.lemmas.List.{reverse-append, length-reverse, map-append, take_all, take_more}
use Rattle.cil_model.specs.TermCodes.{Root, ConstRoot, ArgRoot, NullRoot, ResultRoot, LenRoot, ElemRoot, BinRoot, UnRoot, OldRoot, CondRoot, rooted, terms_of, first_term}
use Rattle.cil_model.specs.Terms.{Term, Null}
use Rattle.unit_form.specs.Roots.{told}
use Rattle.unit_form.specs.TreeFields.{arity, tree_of_roots}
use Rattle.unit_form.specs.declared.root.Root.{Root as RootInMemory}

pub last_first : {X : Type 0} (before after : List X) (x : X) → before ≡ after ++ x ∷ [] → reverse before ≡ x ∷ reverse after
last_first before after x e = ap reverse e ∙ reverse-append after (x ∷ [])

pub one_fewer : {X : Type 0} (before after : List X) (x : X) → before ≡ after ++ x ∷ [] → length before ≡ length after + 1
one_fewer before after x e = ap length e ∙ length-append after (x ∷ [])

-- The last of a list is the first of the list reversed.
pub put_last : {X : Type 0} (before after : List X) (x : X) → after ≡ before ++ x ∷ [] → reverse after ≡ x ∷ reverse before
put_last before after x e = ap reverse e ∙ reverse-append before (x ∷ [])

-- A root over too few terms changes none.
few_terms : (root : Root) (terms : List Term) → length terms < arity root → rooted root terms ≡ terms
few_terms LenRoot [] l = refl
few_terms (ElemRoot place) [] l = refl
few_terms (ElemRoot place) (a ∷ []) l = refl
few_terms (BinRoot operator) [] l = refl
few_terms (BinRoot operator) (a ∷ []) l = refl
few_terms (UnRoot operator) [] l = refl
few_terms OldRoot [] l = refl
few_terms CondRoot [] l = refl
few_terms CondRoot (a ∷ []) l = refl
few_terms CondRoot (a ∷ b ∷ []) l = refl
few_terms (ConstRoot n) terms l = absurd (omega (arith, l))
few_terms (ArgRoot n) terms l = absurd (omega (arith, l))
few_terms NullRoot terms l = absurd (omega (arith, l))
few_terms ResultRoot terms l = absurd (omega (arith, l))
few_terms LenRoot (a ∷ terms) l = absurd (omega (arith, l))
few_terms (ElemRoot place) (a ∷ b ∷ terms) l = absurd (omega (arith, l))
few_terms (BinRoot operator) (a ∷ b ∷ terms) l = absurd (omega (arith, l))
few_terms (UnRoot operator) (a ∷ terms) l = absurd (omega (arith, l))
few_terms OldRoot (a ∷ terms) l = absurd (omega (arith, l))
few_terms CondRoot (a ∷ b ∷ c ∷ terms) l = absurd (omega (arith, l))

pub too_few : (root : Root) (trees : List Term) → length trees < arity root → rooted root (reverse trees) ≡ reverse trees
too_few root trees l = few_terms root (reverse trees) (rw (length-reverse trees) l)

-- The terms of these roots, with others after them.
abbrev pub terms_onto : List Root → List Term → List Term
terms_onto [] terms = terms
terms_onto (root ∷ roots) terms = rooted root (terms_onto roots terms)

pub onto_last : (roots : List Root) (root : Root) (terms : List Term) → terms_onto (roots ++ root ∷ []) terms ≡ terms_onto roots (rooted root terms)
onto_last [] root terms = refl
onto_last (first ∷ roots) root terms = ap (rooted first) (onto_last roots root terms)

pub onto_none : (roots : List Root) → terms_onto roots [] ≡ terms_of roots
onto_none [] = refl
onto_none (root ∷ roots) = ap (rooted root) (onto_none roots)

-- The steps of a loop that takes the roots from their end.
pub onto_start : (roots : List RootInMemory) (trees : List Term) → trees ≡ [] → terms_onto (map told (take (length roots) roots)) (reverse trees) ≡ terms_of (map told roots)
onto_start roots trees e = rw (e, take_all (length roots) roots (search rules)) (onto_none (map told roots))

pub onto_step : (roots : List RootInMemory) (left : ℕ) (d : RootInMemory) (trees after : List Term) → 0 < left → left ≤ length roots
    → reverse after ≡ rooted (told (slice_index_or roots (left - 1) d)) (reverse trees)
    → terms_onto (map told (take left roots)) (reverse trees) ≡ terms_of (map told roots) → terms_onto (map told (take (left - 1) roots)) (reverse after) ≡ terms_of (map told roots)
onto_step roots left d trees after some inside put so_far =
    let before = take (left - 1) roots in
    let root = slice_index_or roots (left - 1) d in
    let one : left ≡ (left - 1) + 1 = omega (arith, some) in
    let next : take left roots ≡ before ++ root ∷ [] = ap (λ n. take n roots) one ∙ take_more roots (left - 1) d (omega (arith, some, inside)) in
    ap (terms_onto (map told before)) put ∙ sym (onto_last (map told before) (told root) (reverse trees))
    ∙ ap (λ some. terms_onto some (reverse trees)) (sym (map-append told before (root ∷ [])) ∙ ap (map told) (sym next)) ∙ so_far

pub onto_end : (roots : List RootInMemory) (trees rest : List Term) (tree : Term) → trees ≡ rest ++ tree ∷ [] → terms_onto (map told (take 0 roots)) (reverse trees) ≡ terms_of (map told roots)
    → tree ≡ tree_of_roots (map told roots)
onto_end [] trees rest tree last so_far = sym (ap first_term (sym so_far ∙ last_first trees rest tree last))
onto_end (root ∷ roots) trees rest tree last so_far = sym (ap first_term (sym so_far ∙ last_first trees rest tree last))

pub onto_nothing : (roots : List RootInMemory) (trees : List Term) → trees ≡ [] → terms_onto (map told (take 0 roots)) (reverse trees) ≡ terms_of (map told roots)
    → Null ≡ tree_of_roots (map told roots)
onto_nothing [] trees none so_far = sym (ap first_term (sym so_far ∙ ap reverse none))
onto_nothing (root ∷ roots) trees none so_far = sym (ap first_term (sym so_far ∙ ap reverse none))
