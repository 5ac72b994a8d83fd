-- What a link keeps.
use Rattle.std.proofs.Common.{◌≡◌, ◌==◌, ℕ, ◌+◌, ◌*◌, ◌/◌, ◌%◌, ◌<◌, ◌^◌, Bool, true, false, cond, refl, arith}
use Rattle.std.proofs.lemmas.Bool.{eqb-true}
use Rattle.result_cache.specs.declared.link.Link.{Link}
use Rattle.result_cache.specs.Links.{is_first_in, link_to, mark_in, mark_of, no_link, number_in}

pub number_linked : (number : ℕ) (before : Link) (hash : ℕ) → number < 2 ^ 23 → number_in (link_to number before hash) ≡ number
unfolding number_in
number_linked number before hash few = by (number_in before == 0)
  where
    by : (b : Bool) → ((mark_of hash * 2 + cond b 1 0) * 8_388_608 + number) % 8_388_608 ≡ number
    by true = omega (arith, few)
    by false = omega (arith, few)

pub mark_linked : (number : ℕ) (before : Link) (hash : ℕ) → number < 2 ^ 23 → mark_in (link_to number before hash) ≡ mark_of hash
unfolding mark_in
mark_linked number before hash few = by (number_in before == 0)
  where
    by : (b : Bool) → ((mark_of hash * 2 + cond b 1 0) * 8_388_608 + number) / 8_388_608 / 2 ≡ mark_of hash
    by true = omega (arith, few)
    by false = omega (arith, few)

-- The first of a bucket is the one before which there was none.
pub first_linked : (number : ℕ) (before : Link) (hash : ℕ) → number < 2 ^ 23 → is_first_in (link_to number before hash) ≡ true
    → number_in before ≡ 0
unfolding is_first_in
first_linked number before hash few first = by (number_in before == 0) refl first
  where
    by : (b : Bool) → (number_in before == 0) ≡ b → ((((mark_of hash * 2 + cond b 1 0) * 8_388_608 + number) / 8_388_608 % 2) == 1) ≡ true
        → number_in before ≡ 0
    by true none first = eqb-true (number_in before) 0 none
    by false none first =
        let odd : ((mark_of hash * 2 + 0) * 8_388_608 + number) / 8_388_608 % 2 ≡ 1 = eqb-true _ 1 first in
        absurd (omega (arith, few, odd))

pub number_none : number_in no_link ≡ 0
unfolding number_in
number_none = refl
