-- What is handed to the crates below: spans that are measured, constants that are near, variables that are alike.
use Rattle.std.proofs.Common.{◌≡◌, ℕ, ◌+◌, true, List, [], ◌∷◌, length, get_or, Option, Some, None, sym, ap, ◌∙◌, subst, arith}
use Rattle.std.specs.List.{AllByRecursion}
use Rattle.array_contents.specs.Contents.{Contents}
use Rattle.array_contents.specs.Ends.{EachIsNamed, EachStands}
use Rattle.array_contents.proofs.MergedForms.{each_is_named}
use Rattle.array_contents.proofs.PairedLengths.{own_zero}
use Rattle.array_segments.specs.SegmentLists.{zero_expr}
use Rattle.domain_api.specs.declared.expr.Expr.{Expr}
use Rattle.frame_names.specs.Frames.{AreAlike, IsNearFrame, numbers_of}
use Rattle.frame_names.specs.PairedFrames.{FramePairing, paired_frames}
use Rattle.frame_names.specs.declared.reference.Reference.{Reference}
use Rattle.frame_names.specs.declared.var.Var.{Var}
use Rattle.merged_numbers.specs.Meaning.{AreMeasured}
use Rattle.number_spans.specs.Sizes.{IsLong, IsLongHole}
use Rattle.number_spans.specs.declared.span.Span.{Span}
use Rattle.symbolic_values.specs.OwnNames.{own_names}
use Rattle.symbolic_values.specs.Pairing.{AreNear, IsNear, Pairing}
use Rattle.symbolic_values.specs.declared.pairs.Key.{Key}
use Rattle.state_facts.specs.Forms.{HasForm, IsReference}
use Rattle.state_facts.specs.StateFacts.{StateFacts}
use Rattle.merged_states.specs.Alike.{AreComparable}
use Rattle.merged_states.specs.Laws.Frames.{alike_of}
use Rattle.merged_states.specs.Laws.Lengths.{lengths_named, lengths_stand, near_numbers}
use Rattle.merged_states.specs.Parts.{are_numbered}

pub all_measured : (spans : List Span) → AllByRecursion IsLong spans → AllByRecursion (λ (r : Span). IsLongHole r.hole) spans → AreMeasured spans
all_measured [] ends holes = tt
all_measured (r ∷ spans) ends holes = (record { ends = ends.0; hole = holes.0 }, all_measured spans ends.1 holes.1)

pub ruleset measured = (all_measured)

near_lengths : (symbols : ℕ) (rs : List Reference) → AllByRecursion (IsReference symbols) rs
    → AllByRecursion (λ (r : Reference). IsNear r.length) rs
near_lengths symbols [] all = tt
near_lengths symbols (r ∷ rs) all = (all.0.length_is.near, near_lengths symbols rs all.1)

-- The frame of a state has near constants.
pub near_frame : (known : StateFacts) (vs : List Var) (references : List Reference) → HasForm known → vs ≡ known.variables → references ≡ known.references
    → IsNearFrame vs references
near_frame known vs references form vars_are references_are = record {
  numbers = subst (λ l. AreNear (numbers_of l)) (sym vars_are) (near_numbers _ _ known.variables form.variables);
  lengths = subst (AllByRecursion (λ (r : Reference). IsNear r.length)) (sym references_are) (near_lengths _ known.references form.references);
}

pub comparable_alike : (a b : StateFacts) → AreComparable a b → AreAlike a.variables b.variables
comparable_alike a b like = alike_of a b a.variables b.variables like.variables

pub ruleset alike = (comparable_alike)

-- ---- items

-- New lengths stand for those of both states, as they are handed on.
pub stand_given : (a b : StateFacts) (f : FramePairing) (pairs : Pairing) (first second : Contents) (keys : List Key) (lengths : List Expr)
    → HasForm a → HasForm b → AreAlike a.variables b.variables
    → paired_frames a.variables a.references b.variables b.references ≡ Some f → are_numbered f ≡ true
    → first ≡ a.contents → second ≡ b.contents → pairs ≡ f.numbers → keys ≡ f.references.keys → lengths ≡ f.lengths
    → EachStands pairs first second keys lengths
stand_given a b f pairs first second keys lengths form other alike is numbered one two pairs_are keys_are lengths_are =
    subst (λ p. EachStands p first second keys lengths) (sym pairs_are)
    (subst (λ x. EachStands f.numbers x second keys lengths) (sym one)
    (subst (λ x. EachStands f.numbers a.contents x keys lengths) (sym two)
    (subst (λ us. EachStands f.numbers a.contents b.contents us lengths) (sym keys_are)
    (subst (λ es. EachStands f.numbers a.contents b.contents f.references.keys es) (sym lengths_are)
    (lengths_stand a b f form other alike is numbered)))))

-- Each new length has a name, as they are handed on.
pub named_given : (a : StateFacts) (f : FramePairing) (names : List (Option Expr)) (contents : Contents) (keys : List Key)
    → HasForm a → paired_frames a.variables a.references a.variables a.references ≡ Some f → are_numbered f ≡ true
    → names ≡ own_names f.numbers (length a.facts.ranges + 1) → contents ≡ a.contents → keys ≡ f.references.keys
    → EachIsNamed names contents keys
named_given a f names contents keys form is numbered names_are contents_are keys_are =
    subst (λ ns. EachIsNamed ns contents keys) (sym names_are)
    (subst (λ x. EachIsNamed (own_names f.numbers (length a.facts.ranges + 1)) x keys) (sym contents_are)
    (subst (λ us. EachIsNamed (own_names f.numbers (length a.facts.ranges + 1)) a.contents us) (sym keys_are)
    (each_is_named (own_names f.numbers (length a.facts.ranges + 1)) a.contents f.references.keys f.lengths
    (lengths_named a f form is numbered))))

pub zero_given : (pairs : Pairing) (count : ℕ) (names : List (Option Expr)) → names ≡ own_names pairs (count + 1)
    → get_or names 0 None ≡ Some zero_expr
zero_given pairs count names are = ap (λ ns. get_or ns 0 None) are ∙ own_zero pairs (count + 1) (omega arith)
