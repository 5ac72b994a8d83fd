-- When two uses have one key.
use Rattle.std.proofs.Common.{◌≡◌, Bool, true, false, ◌&&◌, refl}
use Rattle.std.specs.Cmp.{nat_eq_equiv, int_eq_equiv}
use Rattle.std.proofs.lemmas.Bool.Decides.{Decides-eqb, Decides-int_eq}
use Rattle.symbolic_values.specs.declared.pairs.Key.{Key}
use Rattle.symbolic_values.specs.Pairing.{same_key}

pub same_itself : (u : Key) → same_key u u ≡ true
same_itself u = rw (nat_eq_equiv.refl u.s, nat_eq_equiv.refl u.t) (int_eq_equiv.refl u.shift)

-- Uses of one key have the same symbols and the same shift.
pub record HaveOneKey (u v : Key) : Type 0 where
  pub first_symbol : u.s ≡ v.s
  pub second_symbol : u.t ≡ v.t
  pub shifts : u.shift ≡ v.shift

both_true : (a b c : Bool) → (a && (b && c)) ≡ true → (a ≡ true) × (b ≡ true) × (c ≡ true)
both_true true true true is = (refl, refl, refl)
both_true true true false is = cc
both_true true false c is = cc
both_true false b c is = cc

pub same_key_is : (u v : Key) → same_key u v ≡ true → HaveOneKey u v
same_key_is u v is =
    let all = both_true _ _ _ is in
    record {
      first_symbol = (Decides-eqb u.s v.s).0 all.0;
      second_symbol = (Decides-eqb u.t v.t).0 all.1;
      shifts = (Decides-int_eq u.shift v.shift).0 all.2;
    }
