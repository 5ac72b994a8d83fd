-- The segments of formed contents: as many as there are references, each of its form.
use Rattle.std.proofs.Common.{◌≡◌, ℕ, zero, suc, true, List, [], ◌∷◌, length, map, refl, ◌∙◌, All, arith}
use Rattle.std.specs.List.{AllByRecursion}
use Rattle.std.proofs.lemmas.List.{length-map}
use Rattle.abs_state.specs.StateParts.{AreParts, StateParts}
use Rattle.array_contents.specs.Contents.{AreFormed, Contents, Segments}
use Rattle.array_segments.specs.SegmentLists.{HasForm}
use Rattle.domain_api.specs.declared.expr.Expr.{Expr}
use Rattle.frame_names.specs.declared.reference.Reference.{Reference}
use Rattle.state_facts.specs.Forms.{lengths_of}
use Rattle.invariant_text.specs.Shape.{AreSegmentsOf}

formed_count : (symbols : ℕ) (lengths : List Expr) (contents : Contents) → AreFormed symbols lengths contents
    → length contents ≡ length lengths
formed_count symbols [] [] formed = refl
formed_count symbols [] (s ∷ contents) formed = absurd formed
formed_count symbols (l ∷ lengths) [] formed = absurd formed
formed_count symbols (l ∷ lengths) (s ∷ contents) formed = omega (arith, formed_count symbols lengths contents formed.1)

all_formed : (symbols : ℕ) (lengths : List Expr) (contents : Contents) → AreFormed symbols lengths contents
    → AllByRecursion HasForm contents
all_formed symbols [] [] formed = tt
all_formed symbols [] (s ∷ contents) formed = absurd formed
all_formed symbols (l ∷ lengths) [] formed = absurd formed
all_formed symbols (l ∷ lengths) (s ∷ contents) formed = (formed.0.form, all_formed symbols lengths contents formed.1)

pub segments_formed : (symbols : ℕ) (references : List Reference) (contents : Contents)
    → AreFormed symbols (lengths_of references) contents → AreSegmentsOf references contents
segments_formed symbols references contents formed = record {
  each = formed_count symbols (lengths_of references) contents formed ∙ length-map references (λ r. r.length);
  formed = all_formed symbols (lengths_of references) contents formed;
}

-- Those of a state in which something is reached.
pub segments_in : (parts : StateParts) → AreParts parts → parts.reached ≡ true
    → AreSegmentsOf parts.references parts.contents
segments_in parts are reached =
    segments_formed (length parts.ranges) parts.references parts.contents (are.reached reached).form.contents

pub each_of_form : {X : Type 0} (f : X → Segments) (xs : List X) → AllByRecursion HasForm (map f xs)
    → All (λ x. HasForm (f x)) xs
each_of_form f [] all k d there = absurd (omega (arith, there))
each_of_form f (x ∷ xs) all zero d there = all.0
each_of_form f (x ∷ xs) all (suc k) d there = each_of_form f xs all.1 k d (omega (arith, there))
