-- Steps that tell whether they changed the stacks.
use Rattle.std.proofs.Common.{◌≡◌, ℕ, ◌<◌, Bool, true, false, ◌||◌, List, length, get_or, set, Option, refl, ap, ◌∙◌, arith}
use Rattle.std.proofs.lemmas.List.{set-get_or}
use Rattle.std.proofs.lemmas.List.Sums.{sum_by-set}
use Rattle.cil_model.specs.Passes.{Stacks}
use Rattle.cil_model.specs.declared.place.Kind.{Kind}
use Rattle.stack_typer.specs.Room.{changes_left, Tells}

pub tells_nothing : (most : ℕ) (stacks : Stacks) → Tells most stacks stacks false
tells_nothing most stacks = record { same = λ e. refl; fewer = λ e. absurd (cc) }

-- A step at one instruction.
pub tells_set : (most : ℕ) (stacks : Stacks) (k : ℕ) (now before : Option (List Kind)) (changed : Bool) → k < length stacks → before ≡ get_or stacks k before
    → (changed ≡ false → now ≡ before) → (changed ≡ true → changes_left most now < changes_left most before) → Tells most stacks (set stacks k now) changed
tells_set most stacks k now before changed within read same fewer = record {
  same = λ e. ap (set stacks k) (same e ∙ read) ∙ set-get_or stacks k before;
  fewer = λ e.
      let h = sum_by-set (changes_left most) stacks k now before within in
      let g = rw (← read) at h in
      omega (arith, g, fewer e);
}

-- A step after another one.
pub tells_both : (most : ℕ) (a b c : Stacks) (x y : Bool) → Tells most a b x → Tells most b c y → Tells most a c (x || y)
tells_both most a b c false y first second = record {
  same = λ e. second.same e ∙ first.same refl;
  fewer = λ e. let h = rw (first.same refl) at (second.fewer e) in h;
}
tells_both most a b c true false first second = record {
  same = λ e. absurd (cc);
  fewer = λ e. let h = second.same refl in rw h (first.fewer refl);
}
tells_both most a b c true true first second = record {
  same = λ e. absurd (cc);
  fewer = λ e. omega (arith, first.fewer refl, second.fewer refl);
}

pub ruleset one_step = (tells_nothing, tells_set)
