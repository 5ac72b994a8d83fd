-- Numbers that are made, and their form.
use Rattle.std.proofs.Common.{◌≡◌, ℕ, ℤ, ◌≤ℤ◌, int_eq, Option, Some, None, [], ◌∷◌, ◌++◌, length, refl, arith}
use Rattle.std.specs.Int.{int_min, int_max}
use Rattle.std.specs.Option.{option_map}
use Rattle.std.proofs.lemmas.Bool.{cond_both}
use Rattle.std.proofs.lemmas.Int.{ints, clamps}
use Rattle.cil_model.specs.Arithmetic.{LEAST, GREATEST}
use Rattle.interval_domain.specs.Interval.{Interval}
use Rattle.number_spans.proofs.NarrowRanges.{SomeNarrow, range_without_narrow}
use Rattle.number_spans.specs.Constants.{constant}
use Rattle.number_spans.specs.Stored.{IsNarrow}
use Rattle.number_facts.proofs.Forms.{fresh_form}
use Rattle.number_facts.specs.Facts.{Facts}
use Rattle.number_facts.specs.Fresh.{Made, fresh, facts_made, noted}
use Rattle.number_facts.specs.Holds.{KeepsForm}
use Rattle.state_facts.specs.Forms.{IsNumber, HasForm, IsVar}
use Rattle.state_facts.specs.Moves.{on_top}
use Rattle.state_facts.specs.StateFacts.{StateFacts}
use Rattle.frame_names.specs.declared.var.Var.TheVariants as vars
use Rattle.state_facts.proofs.Growing.{Formed, Grows, grown, variables_stay, all_pushed, one_longer}

-- A number that is made is there, and no definition comes with it.
pub record IsMade (facts : Facts) (made : Made) : Type 0 where
  pub form : KeepsForm facts made.facts
  pub definitions : made.facts.definitions ≡ facts.definitions
  pub number : IsNumber (length made.facts.ranges) made.expr

abbrev pub EachMade : Facts → Option Made → Type 0
EachMade facts None = Unit {0}
EachMade facts (Some made) = IsMade facts made

constant_number : (n : ℕ) (k : ℤ) → LEAST ≤ℤ k → k ≤ℤ GREATEST → IsNumber n (constant k)
constant_number n k above below = record { there = omega arith; near = record { least = omega (arith, ints, above); greatest = omega (arith, ints, below) } }

-- what is made of a range, but for the form of facts
pub record IsNoted (facts : Facts) (made : Made) : Type 0 where
  pub definitions : made.facts.definitions ≡ facts.definitions
  pub number : IsNumber (length made.facts.ranges) made.expr

noted_so : (facts : Facts) (r : Interval) → IsNarrow r → IsNoted facts (noted facts r [])
unfolding noted
noted_so facts r narrow = cond_both (int_eq r.lo r.hi) _ _ (λ (m : Made). IsNoted facts m)
    (λ e. record { definitions = refl; number = constant_number _ r.lo narrow.least (omega (arith, ints, narrow.ordered, narrow.greatest)) })
    (λ e. let size = one_longer facts.ranges r in record {
      definitions = refl;
      number = record { there = omega (arith, size); near = record { least = omega (arith, ints); greatest = omega (arith, ints) } };
    })

each_noted : (facts : Facts) (o : Option Interval) → SomeNarrow o → KeepsForm facts (facts_made facts (option_map (λ r. noted facts r []) o))
    → EachMade facts (option_map (λ r. noted facts r []) o)
each_noted facts None narrow kept = tt
each_noted facts (Some r) narrow kept =
    let so = noted_so facts r narrow in record { form = kept; definitions = so.definitions; number = so.number }

pub within_made : (facts : Facts) (lo hi : ℤ) (hole : Option ℤ) → EachMade facts (fresh facts lo hi hole [])
unfolding fresh
within_made facts lo hi hole =
    each_noted facts _ (range_without_narrow (int_max lo LEAST) (int_min hi GREATEST) hole (omega (arith, ints, clamps)) (omega (arith, ints, clamps)))
    (fresh_form facts lo hi hole)

pub fresh_made : (facts : Facts) (lo hi : ℤ) → EachMade facts (fresh facts lo hi None [])
fresh_made facts lo hi = within_made facts lo hi None

pub made_grows : (known : StateFacts) (made : Made) → HasForm known → IsMade known.facts made → Grows known made.facts
made_grows known made form is = record { form = is.form; rising = rw is.definitions form.rising; tests = rw is.definitions form.tests }

pub on_top_form : (known : StateFacts) (made : Made) → HasForm known → Grows known made.facts → IsNumber (length made.facts.ranges) made.expr
    → HasForm (on_top known made)
on_top_form known made form grows number =
    grown known made.facts (known.variables ++ vars.Number made.expr ∷ []) form grows
    (all_pushed (IsVar (length made.facts.ranges) (length known.references)) known.variables (vars.Number made.expr) (variables_stay known made.facts form grows) number)

pub each_formed : (facts : Facts) (o : Option Made) (f : Made → StateFacts) → EachMade facts o → ((made : Made) → IsMade facts made → HasForm (f made))
    → Formed (option_map f o)
each_formed facts None f each form = tt
each_formed facts (Some made) f each form = form made each
