-- The offsets of callees that are read one after another.
use Rattle.std.proofs.Common.{◌≡◌, ℕ, suc, ◌+◌, ◌-◌, ◌<◌, ◌≤◌, List, [], ◌∷◌, ◌++◌, arith, ap, ◌∙◌, sym, append_assoc, append-nil}
use Rattle.unit_form.specs.Callees.{callee_field, callee_offsets}
use Rattle.unit_form.specs.declared.form.UnitForm.{UnitForm}

pub offsets_next : (form : UnitForm) (bytes : List ℕ) (count start k at next : ℕ) (offsets : List ℕ) → k < count → callee_offsets form count bytes start ≡ offsets ++ callee_offsets form (count - k) bytes at
    → next ≡ (callee_field form bytes at).next → callee_offsets form count bytes start ≡ (offsets ++ at ∷ []) ++ callee_offsets form (count - (k + 1)) bytes next
unfolding callee_offsets
offsets_next form bytes count start k at next offsets l before e =
    let e1 : count - k ≡ suc (count - (k + 1)) = omega (arith, l) in
    rw e (before ∙ ap (λ n. offsets ++ callee_offsets form n bytes at) e1 ∙ sym (append_assoc offsets (at ∷ []) _))

pub offsets_left : (form : UnitForm) (bytes : List ℕ) (count start k at : ℕ) (offsets : List ℕ) → count ≤ k → callee_offsets form count bytes start ≡ offsets ++ callee_offsets form (count - k) bytes at
    → offsets ≡ callee_offsets form count bytes start
unfolding callee_offsets
offsets_left form bytes count start k at offsets l before =
    let e0 : count - k ≡ 0 = omega (arith, l) in
    sym (before ∙ ap (λ n. offsets ++ callee_offsets form n bytes at) e0 ∙ append-nil offsets)
