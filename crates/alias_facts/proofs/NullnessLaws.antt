-- What is known of a reference holds of it when it is joined, and when it is entailed.
use Rattle.std.proofs.Common.{◌≡◌, Bool, true, false}
use Rattle.alias_facts.specs.declared.nullness.Nullness.{Nullness}
use Rattle.alias_facts.specs.declared.nullness.Nullness.TheVariants.{May, NotNull, Null}
use Rattle.alias_facts.specs.NullnessOf.{Agrees, entailed, joined}

-- Both joined tell only what each of the two tells.
pub joined_left : (a b : Nullness) (is_null : Bool) → Agrees a is_null → Agrees (joined a b) is_null
joined_left May b is_null agrees = tt
joined_left NotNull May is_null agrees = tt
joined_left NotNull NotNull is_null agrees = agrees
joined_left NotNull Null is_null agrees = tt
joined_left Null May is_null agrees = tt
joined_left Null NotNull is_null agrees = tt
joined_left Null Null is_null agrees = agrees

pub joined_right : (a b : Nullness) (is_null : Bool) → Agrees b is_null → Agrees (joined a b) is_null
joined_right May b is_null agrees = tt
joined_right NotNull May is_null agrees = tt
joined_right NotNull NotNull is_null agrees = agrees
joined_right NotNull Null is_null agrees = tt
joined_right Null May is_null agrees = tt
joined_right Null NotNull is_null agrees = tt
joined_right Null Null is_null agrees = agrees

-- The knowledge that is entailed holds where that which entails it does.
pub entailed_agrees : (a b : Nullness) (is_null : Bool) → entailed a b ≡ true → Agrees a is_null → Agrees b is_null
entailed_agrees a May is_null less agrees = tt
entailed_agrees May NotNull is_null less agrees = cc
entailed_agrees May Null is_null less agrees = cc
entailed_agrees NotNull NotNull is_null less agrees = agrees
entailed_agrees NotNull Null is_null less agrees = cc
entailed_agrees Null NotNull is_null less agrees = cc
entailed_agrees Null Null is_null less agrees = agrees
