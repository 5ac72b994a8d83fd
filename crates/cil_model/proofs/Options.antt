-- Values that come of optional values.
use Rattle.std.proofs.Common.{◌≡◌, Option, Some, None, option_map, refl, sym}
use Rattle.std.specs.Option.{option_and_then}
use Rattle.std.proofs.lemmas.Option.{same_Some, none-some}

-- What a chain gave came from a first value.
pub record ComesFrom {X Y : Type 0} (first : Option X) (f : X → Option Y) (y : Y) : Type 0 where
  pub value : X
  pub is : first ≡ Some value
  pub gave : f value ≡ Some y

pub and_then_from : {X Y : Type 0} (f : X → Option Y) (first : Option X) (y : Y) → option_and_then f first ≡ Some y → ComesFrom first f y
and_then_from f None y e = absurd (none-some y e)
and_then_from f (Some x) y e = record { value = x; is = refl; gave = e }

pub map_from : {X Y : Type 0} (f : X → Y) (first : Option X) (y : Y) → option_map f first ≡ Some y → (x : X) × (first ≡ Some x) × (y ≡ f x)
map_from f None y e = absurd (none-some y e)
map_from f (Some x) y e = (x, refl, sym (same_Some (f x) y e))
