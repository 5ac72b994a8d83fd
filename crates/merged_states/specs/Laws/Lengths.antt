-- The lengths of new references, at the last bounds of what is known of items: each stands for those of both states,
-- and in the normal form it is the name of the old one.
use Rattle.std.proofs.Common.{◌≡◌, ℕ, zero, suc, ◌+◌, ◌<◌, ◌≤◌, ℤ, pos, negsuc, ◌≤ℤ◌, nat_le, int_le, Bool, true, false, List, [], ◌∷◌, ◌++◌, length, map, drop, get_or, slice_get, Option, Some, None, refl, sym, ap, ◌∙◌, subst, arith}
use Rattle.std.specs.Prelude.{if◌then◌else◌}
use Rattle.std.specs.List as lists
use Rattle.std.specs.List.{AllByRecursion, list_all}
use Rattle.std.proofs.lemmas.Bool.{and_parts}
use Rattle.std.proofs.lemmas.Bool.Decides.{nat_tests}
use Rattle.std.proofs.lemmas.Int.{ints}
use Rattle.std.proofs.lemmas.List.{length-map}
use Rattle.array_contents.specs.Contents.{segments_at}
use Rattle.array_contents.specs.Ends.{EachStands}
use Rattle.array_contents.proofs.FormLaws.{formed_length}
use Rattle.array_contents.proofs.MergeLaws.{each_has}
use Rattle.array_contents.proofs.MergedForms.{EachEndsAs}
use Rattle.array_contents.proofs.PairedLengths.{EndAt, IsSmall, end_at, frame_ends, frames_stand, length_of, own_keys, reference_keys}
use Rattle.array_segments.specs.SegmentLists.{Has, last_bound, zero_expr}
use Rattle.domain_api.specs.declared.expr.Expr.{Expr}
use Rattle.frame_names.specs.Frames.{AreAlike, length_at, length_in, numbers_of, references_of}
use Rattle.frame_names.specs.Meaning.{numbers_behind}
use Rattle.frame_names.specs.PairedFrames.{FramePairing, is_near, named_frame, old_of, paired_frames, pairing_by, pairs_of}
use Rattle.frame_names.specs.declared.reference.Reference.{Reference}
use Rattle.frame_names.specs.declared.var.Var.{Var}
use Rattle.frame_names.specs.declared.var.Var.TheVariants as vars
use Rattle.frame_names.proofs.FrameLemmas.{alike_itself, same_numbers}
use Rattle.frame_names.proofs.SaidLaws.{frames_have_lengths}
use Rattle.symbolic_values.specs.Names.{as_expr}
use Rattle.symbolic_values.specs.OwnNames.{own_names}
use Rattle.symbolic_values.specs.Pairing.{AreNear, IsNear}
use Rattle.symbolic_values.specs.Worth.{worth}
use Rattle.symbolic_values.specs.declared.pairs.Key.{Key}
use Rattle.symbolic_values.proofs.WorthLaws.{paired_there}
use Rattle.state_facts.specs.Forms.{HasForm, IsNumber, IsReference, IsVar, lengths_of}
use Rattle.state_facts.specs.StateFacts as states
use Rattle.state_facts.specs.StateFacts.{StateFacts}
use Rattle.merged_states.specs.Parts.{are_numbered}
use Rattle.merged_states.specs.Laws.Frames.{same_entry}

-- ---- the lengths of a state's references

slot_length : (references : List Reference) (i : ℕ)
    → get_or (lengths_of references) i zero_expr ≡ length_in (slice_get references i)
slot_length [] i = refl
slot_length (known ∷ references) zero = refl
slot_length (known ∷ references) (suc i) = slot_length references i

length_is : (references : List Reference) (r : ℕ) → length_of (lengths_of references) r ≡ length_at references r
unfolding states.reference_at
length_is references zero = refl
length_is references (suc i) = slot_length references i ∙ ap length_in (same_entry references (suc i))

-- The length of each reference is at the last bound of what is known of its items.
pub ends_at : (known : StateFacts) → HasForm known → EndAt (length_at known.references) known.contents
ends_at known form r =
    subst (λ e. Has e (last_bound (segments_at known.contents r))) (length_is known.references r)
    (end_at (length known.facts.ranges) (lengths_of known.references) known.contents form.contents r)

zero_number : (symbols : ℕ) → IsNumber symbols zero_expr
zero_number symbols = record {
  there = omega arith;
  near = record { least = omega (arith, ints); greatest = omega (arith, ints) };
}

slot_number : (symbols : ℕ) (references : List Reference) (i : ℕ) → AllByRecursion (IsReference symbols) references
    → IsNumber symbols (get_or (lengths_of references) i zero_expr)
slot_number symbols [] i all = zero_number symbols
slot_number symbols (known ∷ references) zero all = all.0.length_is
slot_number symbols (known ∷ references) (suc i) all = slot_number symbols references i all.1

of_number : (symbols : ℕ) (references : List Reference) (r : ℕ) → AllByRecursion (IsReference symbols) references
    → IsNumber symbols (length_of (lengths_of references) r)
of_number symbols references zero all = zero_number symbols
of_number symbols references (suc i) all = slot_number symbols references i all

number_at : (symbols : ℕ) (references : List Reference) (r : ℕ) → AllByRecursion (IsReference symbols) references
    → IsNumber symbols (length_at references r)
number_at symbols references r all =
    subst (IsNumber symbols) (length_is references r) (of_number symbols references r all)

-- ---- near constants

pub near_numbers : (symbols references : ℕ) (vs : List Var) → AllByRecursion (IsVar symbols references) vs
    → AreNear (numbers_of vs)
near_numbers symbols references [] all = tt
near_numbers symbols references (vars.Number e ∷ vs) all = (all.0.near, near_numbers symbols references vs all.1)
near_numbers symbols references (vars.Reference r ∷ vs) all = near_numbers symbols references vs all.1
near_numbers symbols references (vars.Text ∷ vs) all = near_numbers symbols references vs all.1
near_numbers symbols references (vars.Address r e ∷ vs) all = (all.0.1.near, near_numbers symbols references vs all.1)

with_lengths : (symbols : ℕ) (references : List Reference) (es : List Expr) (keys : List Key) → AreNear es
    → AllByRecursion (IsReference symbols) references
    → AreNear (es ++ map (λ key. length_at references key.s) keys)
with_lengths symbols references [] [] near all = tt
with_lengths symbols references [] (key ∷ keys) near all =
    ((number_at symbols references key.s all).near, with_lengths symbols references [] keys near all)
with_lengths symbols references (e ∷ es) keys near all = (near.0, with_lengths symbols references es keys near.1 all)

lengths_below : (symbols : ℕ) (references : List Reference) (keys : List Key)
    → AllByRecursion (IsReference symbols) references
    → AllByRecursion (λ (e : Expr). e.sym < symbols + 1) (map (λ key. length_at references key.s) keys)
lengths_below symbols references [] all = tt
lengths_below symbols references (key ∷ keys) all =
    let there = (number_at symbols references key.s all).there in
    (omega (arith, there), lengths_below symbols references keys all)

le_of : (m n : ℤ) → int_le m n ≡ true → m ≤ℤ n
le_of m n is = omega (arith, ints, is)

small_each : (symbols : ℕ) (exprs : List Expr) → symbols ≤ 4294967295
    → AllByRecursion (λ (e : Expr). e.sym ≤ symbols) exprs → list_all is_near exprs ≡ true
    → AllByRecursion IsSmall exprs
small_each symbols [] few there near = tt
small_each symbols (e ∷ exprs) few there near =
    let parts = and_parts (is_near e) (list_all is_near exprs) near in
    let ends = and_parts (int_le (negsuc 4294967295) e.k) (int_le e.k (pos 4294967296)) parts.0 in (
      record {
        symbol = omega (arith, there.0, few);
        near = record {
          least = le_of (negsuc 4294967295) e.k ends.0;
          greatest = le_of e.k (pos 4294967296) ends.1;
        };
      },
      small_each symbols exprs few there.1 parts.1,
    )

few_of : (n : ℕ) → nat_le n 4294967295 ≡ true → n ≤ 4294967295
few_of n is = grind (arith, nat_tests, is)

-- ---- frames that are named together

new_frame : StateFacts → StateFacts → FramePairing
new_frame a b =
    named_frame a.variables (pairs_of a.variables b.variables)
    (pairing_by (pairs_of a.variables b.variables) a.variables a.references b.variables b.references)

-- What is so of the new frame, where its constants are near, is so of what is found.
by_frame : (P : FramePairing → Type 0) (a b : StateFacts) (f : FramePairing)
    → paired_frames a.variables a.references b.variables b.references ≡ Some f
    → (list_all is_near (new_frame a b).numbers.exprs ≡ true → P (new_frame a b)) → P f
unfolding new_frame
by_frame P a b f is own = by (list_all is_near (new_frame a b).numbers.exprs) refl is
  where
    same_some : (x y : FramePairing) → Some x ≡ Some y → x ≡ y
    same_some x y same = cc

    by : (near : Bool) → list_all is_near (new_frame a b).numbers.exprs ≡ near
        → (if near then Some (new_frame a b) else None) ≡ Some f → P f
    by true near made = subst P (same_some (new_frame a b) f made) (own near)
    by false near made = absurd cc

small_frame : (a b : StateFacts) → are_numbered (new_frame a b) ≡ true
    → list_all is_near (new_frame a b).numbers.exprs ≡ true → AllByRecursion IsSmall (new_frame a b).numbers.exprs
unfolding new_frame
small_frame a b numbered near =
    small_each (length (new_frame a b).numbers.keys) (new_frame a b).numbers.exprs
    (few_of (length (new_frame a b).numbers.keys) numbered) (paired_there _ _) near

-- New lengths stand for those of both states.
pub lengths_stand : (a b : StateFacts) (f : FramePairing) → HasForm a → HasForm b → AreAlike a.variables b.variables
    → paired_frames a.variables a.references b.variables b.references ≡ Some f → are_numbered f ≡ true
    → EachStands f.numbers a.contents b.contents f.references.keys f.lengths
unfolding new_frame
lengths_stand a b f first second alike is =
    by_frame
    (λ g. are_numbered g ≡ true → EachStands g.numbers a.contents b.contents g.references.keys g.lengths) a b f is
    (λ near numbered.
    frames_stand (numbers_of a.variables) (numbers_of b.variables) (length_at a.references) (length_at b.references)
    a.contents b.contents (pairs_of a.variables b.variables).keys (new_frame a b).numbers refl
    (same_numbers a.variables b.variables alike) (small_frame a b numbered near) (ends_at a first) (ends_at b second))

-- There is one for each new reference.
pub lengths_count : (a b : StateFacts) (f : FramePairing) → AreAlike a.variables b.variables
    → paired_frames a.variables a.references b.variables b.references ≡ Some f
    → length f.lengths ≡ length f.references.keys
lengths_count a b f alike is =
    sym (length-map f.lengths (worth (numbers_behind true (λ s. pos 0) f)))
    ∙ ap length
    (frames_have_lengths a.variables b.variables a.references b.references (Some f) alike (sym is) true (λ s. pos 0))
    ∙ length-map f.references.keys (λ u. worth (λ s. pos 0) (length_at a.references (old_of true u)))

-- The new lengths of a state that is named by itself are the names of the old ones.
pub lengths_named : (a : StateFacts) (f : FramePairing) → HasForm a
    → paired_frames a.variables a.references a.variables a.references ≡ Some f → are_numbered f ≡ true
    → EachEndsAs (own_names f.numbers (length a.facts.ranges + 1)) a.contents f.references.keys f.lengths
unfolding new_frame
lengths_named a f form is =
    by_frame
    (λ g. are_numbered g ≡ true
    → EachEndsAs (own_names g.numbers (length a.facts.ranges + 1)) a.contents g.references.keys g.lengths) a a f is
    (λ near numbered.
    frame_ends (numbers_of a.variables) (length_at a.references) a.contents (pairs_of a.variables a.variables).keys
    (length a.facts.ranges + 1) (new_frame a a).numbers refl (own_keys (map as_expr (references_of a.variables)))
    (small_frame a a numbered near)
    (with_lengths (length a.facts.ranges) a.references (numbers_of a.variables)
    (pairs_of a.variables a.variables).keys
    (near_numbers (length a.facts.ranges) (length a.references) a.variables form.variables) form.references)
    (lengths_below (length a.facts.ranges) a.references (pairs_of a.variables a.variables).keys form.references)
    (ends_at a form))

-- ---- references that are there

pub references_there : (symbols references : ℕ) (vs : List Var) → AllByRecursion (IsVar symbols references) vs
    → AllByRecursion (λ r. r ≤ references) (references_of vs)
references_there symbols references [] all = tt
references_there symbols references (vars.Number e ∷ vs) all = references_there symbols references vs all.1
references_there symbols references (vars.Reference r ∷ vs) all = (all.0, references_there symbols references vs all.1)
references_there symbols references (vars.Text ∷ vs) all = references_there symbols references vs all.1
references_there symbols references (vars.Address r e ∷ vs) all =
    (all.0.0, references_there symbols references vs all.1)

-- As much is known of items as there are references.
pub contents_count : (known : StateFacts) → HasForm known → length known.references ≡ length known.contents
contents_count known form =
    sym (length-map known.references (λ r. r.length))
    ∙ formed_length (length known.facts.ranges) (lengths_of known.references) known.contents form.contents

-- Of each key, what it was in either state is there.
pub keys_there : (a b : StateFacts) → HasForm a → HasForm b → (u : Key)
    → lists.Contains (pairs_of a.variables b.variables).keys u
    → (u.s ≤ length a.contents) × (u.t ≤ length b.contents)
keys_there a b first second u has =
    let there = each_has (λ u. (u.s ≤ length a.references) × (u.t ≤ length b.references))
    (pairs_of a.variables b.variables).keys
    (reference_keys (length a.references) (length b.references) (references_of a.variables) (references_of b.variables)
    (references_there (length a.facts.ranges) (length a.references) a.variables first.variables)
    (references_there (length b.facts.ranges) (length b.references) b.variables second.variables)) u has in
    (omega (arith, there.0, contents_count a first), omega (arith, there.1, contents_count b second))
