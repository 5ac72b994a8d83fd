-- Where there is no definition and no reference, nothing is named.
use Rattle.std.proofs.Common.{◌≡◌, ℕ, suc, Bool, true, false, List, [], ◌∷◌, length, map, Option, Some, None, refl, ap, ◌∙◌}
use Rattle.std.specs.Prelude.{if◌then◌else◌}
use Rattle.std.proofs.lemmas.List.{nil_from_length}
use Rattle.array_contents.specs.Merging.{renamed_each}
use Rattle.frame_names.specs.PairedFrames.{FramePairing, paired_frames}
use Rattle.frame_names.proofs.FrameLemmas.{alike_itself}
use Rattle.symbolic_values.specs.OwnNames.{own_names}
use Rattle.symbolic_values.specs.declared.def.Def.{Def}
use Rattle.symbolic_values.specs.declared.pairs.Key.{Key}
use Rattle.state_facts.specs.StateFacts.{StateFacts}
use Rattle.merged_states.specs.Laws.Lengths.{lengths_count}
use Rattle.merged_states.specs.Parts.{are_numbered, contents_of_one, def_of_one, definitions_from, if_numbered, unknown_array}

none_from : (def : Key → Option Def) → ((u : Key) → def u ≡ None) → (symbol : ℕ) (keys : List Key) → definitions_from def symbol keys ≡ []
none_from def none symbol [] = refl
none_from def none symbol (u ∷ keys) = rw (none u) (none_from def none (suc symbol) keys)

pub none_defined : (frames : FramePairing) (symbols references : ℕ) (definitions : List (ℕ × Def)) (keys : List Key) → length definitions ≡ 0
    → definitions_from (def_of_one frames symbols references definitions) 1 keys ≡ []
none_defined frames symbols references definitions keys none =
    rw (nil_from_length definitions none) (none_from (def_of_one frames symbols references []) (λ u. refl) 1 keys)

pub none_named : (a : StateFacts) (f : FramePairing) (symbols : ℕ) → paired_frames a.variables a.references a.variables a.references ≡ Some f
    → length f.references.keys ≡ 0 → if_numbered f (contents_of_one f symbols a.contents) ≡ []
none_named a f symbols is none = by (are_numbered f)
  where
    by : (numbered : Bool) → (if numbered then contents_of_one f symbols a.contents else map unknown_array f.lengths) ≡ []
    by true = ap (renamed_each (own_names f.numbers symbols) a.contents) (nil_from_length f.references.keys none)
    by false = ap (map unknown_array) (nil_from_length f.lengths (lengths_count a a f (alike_itself a.variables) is ∙ none))
