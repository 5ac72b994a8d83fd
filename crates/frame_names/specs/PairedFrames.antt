-- Two frames, named together.
use Rattle.std.specs.Prelude.{ℕ, pos, negsuc, int_le, Bool, true, false, ◌&&◌, List, [], ◌∷◌, ◌++◌, length, drop, get_or, map, Option, Some, None, if◌then◌else◌}
use Rattle.std.specs.List.{list_all}
use Rattle.domain_api.specs.declared.expr.Expr.{Expr}
use Rattle.symbolic_values.specs.Names.{paired_references}
use Rattle.symbolic_values.specs.Pairing.{Pairing, origin, paired}
use Rattle.symbolic_values.specs.declared.pairs.Key.{Key}
use Rattle.frame_names.specs.Frames.{length_at, numbers_of, references_of}
use Rattle.frame_names.specs.declared.reference.Reference.{Reference}
use Rattle.frame_names.specs.declared.var.Var.{Var}
use Rattle.frame_names.specs.declared.var.Var.TheVariants as vars

-- The pairs of references and of numbers, the new variables, and the length of each new reference.
pub record FramePairing : Type 0 where
  pub references : Pairing
  pub numbers : Pairing
  pub vars : List Var
  pub lengths : List Expr

-- What a paired reference was on a side.
abbrev pub old_of : Bool → Key → ℕ
old_of is_first key = if is_first then key.s else key.t

-- What a new reference was on a side. Reference 0 was null.
abbrev pub old_at : Bool → List Key → ℕ → ℕ
old_at is_first keys new = old_of is_first (get_or (origin ∷ keys) new origin)

-- ---- the new variables, from the new numbers and references that are left

abbrev pub first_expr : List Expr → Expr
first_expr [] = record { sym = 0; k = pos 0 }
first_expr (e ∷ es) = e

abbrev pub behind : List Expr → List Expr
behind [] = []
behind (e ∷ es) = es

abbrev pub new_vars : List Expr → List Expr → List Var → List Var
new_vars numbers references [] = []
new_vars numbers references (vars.Number e ∷ vs) =
    vars.Number (first_expr numbers) ∷ new_vars (behind numbers) references vs
new_vars numbers references (vars.Reference r ∷ vs) =
    vars.Reference (first_expr references).sym ∷ new_vars numbers (behind references) vs
new_vars numbers references (vars.Text ∷ vs) = vars.Text ∷ new_vars numbers references vs
new_vars numbers references (vars.Address r e ∷ vs) =
    vars.Address (first_expr references).sym (first_expr numbers) ∷ new_vars (behind numbers) (behind references) vs

-- ---- the pairing

abbrev pub pairs_of : List Var → List Var → Pairing
pairs_of a b = paired_references (references_of a) (references_of b)

abbrev pub named_frame : List Var → Pairing → Pairing → FramePairing
named_frame vs references numbers = record {
  references = references;
  numbers = numbers;
  vars = new_vars numbers.exprs references.exprs vs;
  lengths = drop (length (numbers_of vs)) numbers.exprs;
}

-- The numbers of a side's variables, and then the lengths of its references that are paired.
abbrev pub exprs_of : List Var → List Reference → Bool → List Key → List Expr
exprs_of vs references is_first keys = numbers_of vs ++ map (λ key. length_at references (old_of is_first key)) keys

abbrev pub pairing_by : Pairing → List Var → List Reference → List Var → List Reference → Pairing
pairing_by references a known b other =
    paired (exprs_of a known true references.keys) (exprs_of b other false references.keys)

-- The constant is one of -2^32 to 2^32.
abbrev pub is_near : Expr → Bool
is_near e = int_le (negsuc 4294967295) e.k && int_le e.k (pos 4294967296)

-- The pairing, unless a constant of it leaves -2^32 to 2^32.
abbrev pub if_near : FramePairing → Option FramePairing
if_near new = if list_all is_near new.numbers.exprs then Some new else None

-- The references of the variables are paired first. Then the numbers are: those of the variables, and behind them
-- the lengths of the paired references.
abbrev pub paired_frames : List Var → List Reference → List Var → List Reference → Option FramePairing
paired_frames a known b other = if_near (named_frame a (pairs_of a b) (pairing_by (pairs_of a b) a known b other))
