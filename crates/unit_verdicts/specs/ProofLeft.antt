-- The proof file that a call leaves, and what it confirms.
use Rattle.std.specs.Prelude.{◌≡◌, ℕ, List, filter_map, Option, Some, None, Contains, if◌then◌else◌}
use Rattle.cil_model.specs.declared.unit.Unit.{Unit as MethodUnit}
use Rattle.invariant_checker.specs.Inducts.{has_shape}
use Rattle.method_unit.specs.UnitFile.{unit_of}
use Rattle.method_unit.specs.Units.{IsUnit}
use Rattle.proof_files.specs.Proofs.{Entry, IsProofOf, kept, proof_bytes}
use Rattle.result_cache.specs.Entries.{Entry as CacheEntry}
use Rattle.unit_flow.specs.FlowOf.{flow_of}
use Rattle.unit_form.specs.Spelling.{unit_bytes}
use Rattle.unit_verdicts.specs.Picks.{Pick, pick_from, states_in, verdicts_under}
use Rattle.unit_verdicts.specs.declared.source.Source.{Source}
use Rattle.unit_verdicts.specs.declared.source.Source.TheVariants.{Proof as OfProof}

-- A unit with the states that are picked for it, where these have its shape.
abbrev pub proof_entry : Pick → MethodUnit → Option Entry
proof_entry pick unit =
    if has_shape (flow_of unit) (pick unit) then Some (record { unit = unit; states = pick unit }) else None

-- The entries of the units that were judged, in the order in which they came, where this was held.
abbrev pub proof_entries : Source → List (List ℕ) → List Entry
proof_entries held keys = filter_map (λ key. proof_entry (pick_from held) (unit_of key)) keys

-- The file of these, up to the first with which it would have too many bytes.
unfoldable pub proof_left : Source → List (List ℕ) → List ℕ
proof_left held keys = proof_bytes (proof_entries held keys)

-- Each of the units has the same verdicts under these entries as under what was held.
abbrev pub Confirms : List Entry → Source → List (List ℕ) → Type 0
Confirms entries held keys =
    (unit : MethodUnit) → IsUnit unit → Contains keys (unit_bytes unit)
    → verdicts_under (pick_from (OfProof entries)) unit ≡ verdicts_under (pick_from held) unit

-- It is a proof file, which can be read, and where none of the entries is cut off it confirms the verdicts.
pub record IsProofLeft (held : Source) (keys : List (List ℕ)) : Type 0 where
  pub file : IsProofOf (kept (proof_entries held keys)) (proof_left held keys)
  pub confirms : kept (proof_entries held keys) ≡ proof_entries held keys → Confirms (proof_entries held keys) held keys

-- ---- entries as they are kept

-- The entry of the bytes of a unit and those of its invariant.
abbrev pub spelled_entry : CacheEntry → Option Entry
spelled_entry (key, invariant) = proof_entry (λ unit. states_in invariant) (unit_of key)

abbrev pub spelled_entries : List CacheEntry → List Entry
spelled_entries entries = filter_map spelled_entry entries
