-- The world of a method that calls a later one and then an earlier one, and the calls of one that is not analysed.
use Rattle.std.proofs.Common.{◌≡◌, ℕ, List, [], ◌∷◌, length, refl}
use Rattle.asm_image.specs.Rows.{methods_of}
use Rattle.unit_builder.specs.Walks.{body_calls, calls_of, is_reached, tokens_in}
use Rattle.asm_image.specs.declared.method_row.MethodRow.{MethodRow}
use Rattle.unit_builder.specs.Outcomes.{outcome_of}
use Rattle.unit_builder.specs.WorldOf.{places_in, world_tokens}
use Rattle.unit_builder.specs.declared.entry.Outcome.TheVariants.{Skipped}
use Rattle.unit_builder.specs.declared.reason.Reason.{Reason}

-- Of three methods 1, 2 and 3, the second calls 3 and then 1, and the third calls none.
module _ (asm : List ℕ) (tokens : tokens_in (methods_of asm) ≡ 1 ∷ 2 ∷ 3 ∷ []) (three : length (methods_of asm) ≡ 3)
    (second : calls_of asm 2 ≡ 3 ∷ 1 ∷ []) (third : calls_of asm 3 ≡ []) where
  -- Its world has it first, and then the others by rising token.
  pub order : world_tokens asm 2 ≡ 2 ∷ 1 ∷ 3 ∷ []
  unfolding world_tokens is_reached
  order = rw (tokens, three, second, third) refl

  -- Its callees are the last of them and then the one before.
  pub callees : places_in (world_tokens asm 2) (calls_of asm 2) ≡ 2 ∷ 1 ∷ []
  callees = rw (order, second) refl

-- Code that is not analysed calls none, whatever tokens it has.
pub skipped_calls : (asm : List ℕ) (method : MethodRow) (reason : Reason) → outcome_of asm method ≡ Skipped reason → body_calls asm method ≡ []
skipped_calls asm method reason skipped = rw skipped refl
