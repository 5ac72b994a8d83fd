-- The lines of variables, read.
use Rattle.std.specs.Prelude.{ℕ, List, Option, Some, None, if◌then◌else◌, codes}
use Rattle.frame_names.specs.declared.var.Var.{Var}
use Rattle.frame_names.specs.declared.var.Var.TheVariants as vars
use Rattle.invariant_text.proofs.DefReading.{begins_reference}
use Rattle.invariant_text.proofs.NumberReading.{behind_digits}
use Rattle.invariant_reader.specs.Expressions.{read_expr}
use Rattle.invariant_reader.specs.Prefixes.{and_then, behind, or_else}
use Rattle.invariant_reader.specs.References.{read_reference}

-- The text behind a variable's name, whichever it is.
unfoldable pub behind_name : List ℕ → Option (List ℕ)
behind_name text =
    or_else (behind (codes "in ") text) (λ i. Some (behind_digits i))
    (or_else (behind (codes "arg ") text) (λ i. Some (behind_digits i))
    (or_else (behind (codes "local ") text) (λ i. Some (behind_digits i))
    (or_else (behind (codes "stack ") text) (λ i. Some (behind_digits i)) None)))

-- A number.
unfoldable pub read_number : List ℕ → Option (Var × List ℕ)
read_number text = and_then (read_expr text) (λ e. Some (vars.Number e.0, e.1))

-- The address of the item of an index in an array, from behind the bracket on.
unfoldable pub read_index : ℕ → List ℕ → Option (Var × List ℕ)
read_index r text =
    and_then (read_expr text) (λ e. and_then (behind (codes "]") e.1) (λ rest. Some (vars.Address r e.0, rest)))

-- A reference, or the address of one of its items.
unfoldable pub read_place : List ℕ → Option (Var × List ℕ)
read_place text =
    and_then (read_reference text) (λ r.
    or_else (behind (codes "[") r.1) (λ index. read_index r.0 index) (Some (vars.Reference r.0, r.1)))

-- What a variable has.
unfoldable pub read_value : List ℕ → Option (Var × List ℕ)
read_value text =
    or_else (behind (codes "text") text) (λ rest. Some (vars.Text, rest))
    (if begins_reference text then read_place text else read_number text)

-- The line at the start. Its variable's name is not kept.
unfoldable pub read_variable_line : List ℕ → Option (Var × List ℕ)
read_variable_line text =
    and_then (behind (codes "    ") text) (λ name. and_then (behind_name name) (λ equals.
    and_then (behind (codes " = ") equals) (λ value. and_then (read_value value) (λ v.
    and_then (behind (codes "\n") v.1) (λ rest. Some (v.0, rest))))))
