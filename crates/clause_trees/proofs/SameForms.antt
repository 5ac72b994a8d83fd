-- Variables of the same forms, and that two states of such are joined to one.
use Rattle.std.proofs.Common.{◌≡◌, ℕ, zero, suc, ◌+◌, ◌≤◌, ℤ, pos, Bool, true, false, List, [], ◌∷◌, length, slice_get, get_or, Option, Some, None, refl, ap, subst, sym, ◌∙◌, arith}
use Rattle.std.specs.Prelude.{IfSome, map}
use Rattle.std.specs.List.{AllByRecursion}
use Rattle.std.specs.Option.{ForSome, option_and_then, option_map}
use Rattle.std.proofs.lemmas.Bool.{eq-eqb}
use Rattle.std.proofs.lemmas.Option.{get_or_from_slice_get, none-some, same_Some}
use Rattle.cil_model.specs.Places.{place_number}
use Rattle.cil_model.specs.declared.place.Kind.{Kind}
use Rattle.cil_model.specs.declared.place.Kind.TheVariants as kinds
use Rattle.cil_model.specs.declared.place.Place.{Place}
use Rattle.cil_model.specs.declared.place.Place.TheVariants as places
use Rattle.domain_api.specs.declared.expr.Expr.{Expr}
use Rattle.frame_names.specs.Frames as frames
use Rattle.frame_names.specs.Frames.{AreAlike}
use Rattle.frame_names.specs.Meaning.{SaysBoth, Said, an_address, an_array, said}
use Rattle.frame_names.specs.MergedReferences.{merged_references, one_place}
use Rattle.frame_names.specs.PairedFrames.{FramePairing, behind, old_at, paired_frames}
use Rattle.frame_names.specs.declared.reference.Reference.{Reference}
use Rattle.frame_names.specs.declared.var.Var.{Var}
use Rattle.frame_names.specs.declared.var.Var.TheVariants as vars
use Rattle.frame_names.proofs.SaidLaws.{frames_say}
use Rattle.symbolic_values.specs.Pairing.{origin}
use Rattle.symbolic_values.specs.declared.pairs.Key.{Key}
use Rattle.interval_domain.specs.Joins.{hull}
use Rattle.merged_numbers.specs.Merging as numbers
use Rattle.merged_numbers.specs.Merging.{Outcome}
use Rattle.merged_states.specs.Alike.{AreComparable, AreLike}
use Rattle.merged_states.specs.Merging.{join, joining, merged_as, merged_by, merged_known}
use Rattle.merged_states.specs.Parts.{entry_of, numbers_known}
use Rattle.merged_states.specs.declared.merging.Merging.TheVariants as rules
use Rattle.merged_states.specs.Laws.Frames.{alike_of, same_entry}
use Rattle.merged_states.proofs.Formed.{merged_form}
use Rattle.state_facts.specs.Forms.{HasForm, HasVar, IsArrayPlace, IsReference}
use Rattle.state_facts.specs.StateFacts.{StateFacts, State, both_of_same_place, reference_at}
use Rattle.clause_trees.specs.VariableKinds.{AreSameForms, HasSameForms, HasSameFormsIn, IsGrown, IsOfKind, IsOfPlace, IsOneOfKind, IsReadable, IsSameForm, place_in}
use Rattle.clause_trees.specs.declared.reader.TreeEnv.{TreeEnv}
use Rattle.clause_trees.proofs.PushedTrees.{reference_found}
use Rattle.clause_trees.proofs.Stays.{forms_there, found_var}

-- ---- the same forms

same_swaps : (a b : StateFacts) (v w : Var) → IsSameForm a b v w → IsSameForm b a w v
same_swaps a b (vars.Number e) (vars.Number f) same = tt
same_swaps a b (vars.Reference r) (vars.Reference q) same = sym same
same_swaps a b vars.Text vars.Text same = tt
same_swaps a b (vars.Address r e) (vars.Address q f) same = sym same
same_swaps a b _ _ same = elim same [ ]

same_on : (a b c : StateFacts) (v w u : Var) → IsSameForm a b v w → IsSameForm b c w u → IsSameForm a c v u
same_on a b c (vars.Number e) (vars.Number f) (vars.Number g) one two = tt
same_on a b c (vars.Number e) (vars.Number f) _ one two = elim two [ ]
same_on a b c (vars.Reference r) (vars.Reference q) (vars.Reference p) one two = two ∙ one
same_on a b c (vars.Reference r) (vars.Reference q) _ one two = elim two [ ]
same_on a b c vars.Text vars.Text vars.Text one two = tt
same_on a b c vars.Text vars.Text _ one two = elim two [ ]
same_on a b c (vars.Address r e) (vars.Address q f) (vars.Address p g) one two = two ∙ one
same_on a b c (vars.Address r e) (vars.Address q f) _ one two = elim two [ ]
same_on a b c _ _ _ one two = elim one [ ]

pub all_swap : (a b : StateFacts) (vs ws : List Var) → AreSameForms a b vs ws → AreSameForms b a ws vs
all_swap a b [] [] same = tt
all_swap a b (v ∷ vs) (w ∷ ws) same = (same_swaps a b v w same.0, all_swap a b vs ws same.1)
all_swap a b [] (w ∷ ws) same = elim same [ ]
all_swap a b (v ∷ vs) [] same = elim same [ ]

pub all_on : (a b c : StateFacts) (vs ws us : List Var) → AreSameForms a b vs ws → AreSameForms b c ws us
    → AreSameForms a c vs us
all_on a b c [] [] [] one two = tt
all_on a b c (v ∷ vs) (w ∷ ws) (u ∷ us) one two = (same_on a b c v w u one.0 two.0, all_on a b c vs ws us one.1 two.1)
all_on a b c [] [] (u ∷ us) one two = elim two [ ]
all_on a b c [] (w ∷ ws) us one two = elim one [ ]
all_on a b c (v ∷ vs) [] us one two = elim one [ ]
all_on a b c (v ∷ vs) (w ∷ ws) [] one two = elim two [ ]

pub same_forms_on : (known x : StateFacts) (o : State) → HasSameForms known x → HasSameFormsIn x o
    → HasSameFormsIn known o
same_forms_on known x None same rest = tt
same_forms_on known x (Some after) same rest = record {
  form = rest.form;
  variables = all_on known x after known.variables x.variables after.variables same.variables rest.variables;
}

-- What stays has the same forms.
pub grown_same : (known after : StateFacts) → HasForm known → IsGrown known after → after.variables ≡ known.variables
    → HasSameForms known after
grown_same known after form grown same = record {
  form = grown.form;
  variables = subst (AreSameForms known after known.variables) (sym same)
      (forms_there known after known.variables grown form.variables);
}

-- ---- reading them

found_same : (a b : StateFacts) (vs ws : List Var) (i : ℕ) (v : Var) → AreSameForms a b vs ws → slice_get vs i ≡ Some v
    → (w : Var) × (slice_get ws i ≡ Some w) × IsSameForm a b v w
found_same a b [] [] i v same is = absurd (none-some v is)
found_same a b [] (w ∷ ws) i v same is = elim same [ ]
found_same a b (x ∷ vs) [] i v same is = elim same [ ]
found_same a b (x ∷ vs) (w ∷ ws) zero v same is = (w, refl, subst (λ u. IsSameForm a b u w) (same_Some x v is) same.0)
found_same a b (x ∷ vs) (w ∷ ws) (suc i) v same is = found_same a b vs ws i v same.1 is

no_place : (known : StateFacts) (q : ℕ) → q ≤ length known.references → place_in known q ≡ None → q ≡ 0
no_place known zero there none = refl
no_place known (suc q) there none =
    let (x, found) = reference_found known q there in
    absurd (none-some x.place (sym none ∙ ap (option_map (λ reference. reference.place)) found))

first_place : (known : StateFacts) (r : ℕ) → r ≡ 0 → place_in known r ≡ None
unfolding reference_at
first_place known zero is = refl
first_place known (suc r) is = absurd (omega (arith, is))

kind_same : (a b : StateFacts) (kind : Kind) (v w : Var) → IsSameForm a b v w → HasVar b w → IsOfKind a kind v
    → IsOfKind b kind w
kind_same a b kinds.Int (vars.Number e) (vars.Number f) same there is = tt
kind_same a b kinds.Ints (vars.Reference r) (vars.Reference q) same there is =
    subst (IsOfPlace places.Ints) (sym same) is
kind_same a b kinds.Bools (vars.Reference r) (vars.Reference q) same there is =
    subst (IsOfPlace places.Bools) (sym same) is
kind_same a b kinds.NullRef (vars.Reference r) (vars.Reference q) same there is =
    no_place b q there (same ∙ first_place a r is)
kind_same a b kinds.AddrInts (vars.Address r e) (vars.Address q f) same there is = same ∙ is
kind_same a b kinds.AddrBools (vars.Address r e) (vars.Address q f) same there is = same ∙ is
kind_same a b kinds.Int (vars.Number e) _ same there is = elim same [ ]
kind_same a b kinds.Ints (vars.Reference r) _ same there is = elim same [ ]
kind_same a b kinds.Bools (vars.Reference r) _ same there is = elim same [ ]
kind_same a b kinds.NullRef (vars.Reference r) _ same there is = elim same [ ]
kind_same a b kinds.AddrInts (vars.Address r e) _ same there is = elim same [ ]
kind_same a b kinds.AddrBools (vars.Address r e) _ same there is = elim same [ ]
kind_same a b _ _ _ same there is = elim is [ ]

one_same : (a b : StateFacts) (kind : Kind) (i : ℕ) → HasSameForms a b → IsOneOfKind a kind (slice_get a.variables i)
    → IsOneOfKind b kind (slice_get b.variables i)
one_same a b kind i same is = by (slice_get a.variables i) refl is
  where
    by : (o : Option Var) → slice_get a.variables i ≡ o → IsOneOfKind a kind o
        → IsOneOfKind b kind (slice_get b.variables i)
    by None found of_kind = elim of_kind [ ]
    by (Some v) found of_kind =
        let (w, at, form) = found_same a b a.variables b.variables i v same.variables found in
        subst (IsOneOfKind b kind) (sym at)
        (kind_same a b kind v w form
        (found_var (length b.facts.ranges) (length b.references) b.variables i w same.form.variables at) of_kind)

pub readable_same : (env : TreeEnv) (args : List Place) (result : Place) (a b : StateFacts) → HasSameForms a b
    → IsReadable env args result a
    → IsReadable env args result b
readable_same env args result a b same readable = record {
  form = same.form;
  args_fit = λ n kind is. one_same a b kind (env.args + n) same (readable.args_fit n kind is);
  result_fits = λ i kind at is. one_same a b kind i same (readable.result_fits i kind at is);
}

-- ---- states that may be joined

alike_places : (o p : Option Reference)
    → option_map (λ reference. reference.place) p ≡ option_map (λ reference. reference.place) o
    → both_of_same_place o p ≡ true
alike_places None p same = refl
alike_places (Some x) None same = refl
alike_places (Some x) (Some y) same =
    eq-eqb (place_number x.place) (place_number y.place) (ap place_number (sym (same_Some y.place x.place same)))

pub same_like : (a b : StateFacts) (vs ws : List Var) → AreSameForms a b vs ws → AreLike a b vs ws
same_like a b [] [] same = tt
same_like a b (vars.Number e ∷ vs) (vars.Number f ∷ ws) same = (tt, same_like a b vs ws same.1)
same_like a b (vars.Reference r ∷ vs) (vars.Reference q ∷ ws) same =
    (alike_places (reference_at a.references r) (reference_at b.references q) same.0, same_like a b vs ws same.1)
same_like a b (vars.Text ∷ vs) (vars.Text ∷ ws) same = (tt, same_like a b vs ws same.1)
same_like a b (vars.Address r e ∷ vs) (vars.Address q f ∷ ws) same =
    (alike_places (reference_at a.references r) (reference_at b.references q) same.0, same_like a b vs ws same.1)
same_like a b [] (w ∷ ws) same = elim same [ ]
same_like a b (v ∷ vs) [] same = elim same [ ]
same_like a b (_ ∷ vs) (_ ∷ ws) same = elim same.0 [ ]

-- ---- the place of a new reference

new_place : (a b : List Reference) (keys : List Key) (lengths : List Expr) (j : ℕ)
    → option_map (λ (x : Reference). x.place)
    (slice_get (map entry_of (merged_references a b keys lengths)) j)
    ≡ option_map (λ (key : Key). one_place (frames.place_at a key.s) (frames.place_at b key.t)) (slice_get keys j)
new_place a b [] lengths j = refl
new_place a b (key ∷ keys) lengths zero = refl
new_place a b (key ∷ keys) lengths (suc j) = new_place a b keys (behind lengths) j

place_of_frames : (known : StateFacts) (r : ℕ) → place_in known r ≡ frames.place_at known.references r
place_of_frames known r = ap (option_map (λ reference. reference.place)) (same_entry known.references r) ∙ by
    (frames.reference_at known.references r)
  where
    by : (o : Option Reference) → option_map (λ reference. reference.place) o ≡ frames.place_in o
    by None = refl
    by (Some x) = refl

void_absent : (symbols : ℕ) (xs : List Reference) (j : ℕ) → AllByRecursion (IsReference symbols) xs
    → option_map (λ (x : Reference). x.place) (slice_get xs j) ≡ Some places.Void → ⊥
void_absent symbols [] j all is = none-some places.Void is
void_absent symbols (x ∷ xs) zero all is = not_void x.place all.0.place (same_Some x.place places.Void is)
  where
    not_void : (place : Place) → IsArrayPlace place → place ≡ places.Void → ⊥
    not_void places.Bools array same = absurd cc
    not_void places.Ints array same = absurd cc
    not_void _ array same = array
void_absent symbols (x ∷ xs) (suc j) all is = void_absent symbols xs j all.1 is

-- ---- joins

places_agree : (p q : Option Place) → q ≡ p → (one_place p q ≡ places.Void → ⊥) → Some (one_place p q) ≡ p
places_agree None q same valid = absurd (valid (ap (one_place None) same))
places_agree (Some place) q same valid = refl

-- A new reference has the type that its references have on both sides.
paired_place : (a b c : StateFacts) (keys : List Key) (lengths : List Expr) (r s q : ℕ) → HasForm c
    → c.references ≡ map entry_of (merged_references a.references b.references keys lengths)
    → old_at true keys q ≡ r → old_at false keys q ≡ s → place_in b s ≡ place_in a r → place_in c q ≡ place_in a r
unfolding reference_at
paired_place a b c keys lengths r s zero form are one two same = sym (first_place a r (sym one))
paired_place a b c keys lengths r s (suc j) form are one two same = by (slice_get keys j) refl
  where
    new : place_in c (suc j)
        ≡ option_map (λ (key : Key). one_place (frames.place_at a.references key.s)
        (frames.place_at b.references key.t)) (slice_get keys j)
    new = ap (λ l. option_map (λ (x : Reference). x.place) (slice_get l j)) are ∙ new_place a.references
        b.references keys lengths j

    by : (o : Option Key) → slice_get keys j ≡ o → place_in c (suc j) ≡ place_in a r
    by None found =
        new ∙ ap (option_map _) found
        ∙ sym (first_place a r (sym one ∙ ap (λ (key : Key). key.s) (past keys j found)))
      where
        past : (ks : List Key) (i : ℕ) → slice_get ks i ≡ None → get_or ks i origin ≡ origin
        past [] i none = refl
        past (k ∷ ks) zero none = absurd (none-some k (sym none))
        past (k ∷ ks) (suc i) none = past ks i none
    by (Some key) found =
        let at = get_or_from_slice_get keys j key origin found in
        let first : key.s ≡ r = sym (ap (λ (k : Key). k.s) at) ∙ one in
        let second : key.t ≡ s = sym (ap (λ (k : Key). k.t) at) ∙ two in
        let left : frames.place_at a.references key.s ≡ place_in a r =
        ap (λ n. frames.place_at a.references n) first ∙ sym (place_of_frames a r) in
        let right : frames.place_at b.references key.t ≡ place_in a r =
        ap (λ n. frames.place_at b.references n) second ∙ sym (place_of_frames b s) ∙ same in
        let here : place_in c (suc j) ≡ Some
        (one_place (frames.place_at a.references key.s) (frames.place_at b.references key.t)) =
        new ∙ ap (option_map _) found in
        here
        ∙ places_agree (frames.place_at a.references key.s) (frames.place_at b.references key.t) (right ∙ sym left)
        (λ void. void_absent (length c.facts.ranges) c.references j form.references (here ∙ ap Some void))
        ∙ left

-- Variables that say what those of both sides do, by the references that they were.
module _ (a b c : StateFacts) (keys : List Key) (lengths : List Expr) (form : HasForm c)
    (are : c.references ≡ map entry_of (merged_references a.references b.references keys lengths))
    (number later : ℕ → ℤ) (other more : ℕ → ℤ) where
  abbrev Says : Bool → (ℕ → ℤ) → (ℕ → ℤ) → Var → Var → Type 0
  Says is_first number later new old =
      said later (λ q. Some (old_at is_first keys q)) new ≡ said number (λ r. Some r) old

  one_says : (v w u : Var) → IsSameForm a b v w → Says true number later u v → Says false other more u w
      → IsSameForm a c v u
  one_says (vars.Number e) (vars.Number f) (vars.Number g) same first second = tt
  one_says (vars.Number e) (vars.Number f) _ same first second = absurd cc
  one_says (vars.Reference r) (vars.Reference s) (vars.Reference q) same first second =
      paired_place a b c keys lengths r s q form are (arrays (old_at true keys q) r first)
      (arrays (old_at false keys q) s second) same
    where
      arrays : (m n : ℕ) → an_array (Some m) ≡ an_array (Some n) → m ≡ n
      arrays m n is = cc
  one_says (vars.Reference r) (vars.Reference s) _ same first second = absurd cc
  one_says vars.Text vars.Text vars.Text same first second = tt
  one_says vars.Text vars.Text _ same first second = absurd cc
  one_says (vars.Address r e) (vars.Address s f) (vars.Address q g) same first second =
      paired_place a b c keys lengths r s q form are (arrays (old_at true keys q) r _ _ first)
      (arrays (old_at false keys q) s _ _ second) same
    where
      arrays : (m n : ℕ) (x y : ℤ) → an_address (Some m) x ≡ an_address (Some n) y → m ≡ n
      arrays m n x y is = cc
  one_says (vars.Address r e) (vars.Address s f) _ same first second = absurd cc
  one_says _ _ _ same first second = elim same [ ]

  all_say : (vs ws us : List Var) → AreSameForms a b vs ws
      → map (said later (λ q. Some (old_at true keys q))) us ≡ map (said number (λ r. Some r)) vs
      → map (said more (λ q. Some (old_at false keys q))) us ≡ map (said other (λ r. Some r)) ws
      → AreSameForms a c vs us
  all_say [] [] [] same first second = tt
  all_say [] [] (u ∷ us) same first second = absurd cc
  all_say (v ∷ vs) (w ∷ ws) [] same first second = absurd cc
  all_say (v ∷ vs) (w ∷ ws) (u ∷ us) same first second = (
    one_says v w u same.0 (head _ _ _ _ first) (head _ _ _ _ second),
    all_say vs ws us same.1 (tail _ _ _ _ first)
        (tail _ _ _ _ second),
  )
    where
      head : (x y : Said) (xs ys : List Said) → x ∷ xs ≡ y ∷ ys → x ≡ y
      head x y xs ys is = cc

      tail : (x y : Said) (xs ys : List Said) → x ∷ xs ≡ y ∷ ys → xs ≡ ys
      tail x y xs ys is = cc
  all_say [] (w ∷ ws) us same first second = elim same [ ]
  all_say (v ∷ vs) [] us same first second = elim same [ ]

merged_same : (a b : StateFacts) (f : FramePairing) (o : Option Outcome) → AreSameForms a b a.variables b.variables
    → SaysBoth a.variables b.variables f → ForSome (option_map (merged_as hull a b f) o) HasForm
    → HasSameFormsIn a (option_map (merged_as hull a b f) o)
merged_same a b f None same says form = tt
merged_same a b f (Some outcome) same says form =
    let made = form (merged_as hull a b f outcome) refl in
    record {
      form = made;
      variables = all_say a b (merged_as hull a b f outcome) f.references.keys f.lengths made refl (λ s. pos 0) _
          (λ s. pos 0) _
          a.variables b.variables f.vars same (says true (λ s. pos 0) (λ r. Some r))
          (says false (λ s. pos 0) (λ r. Some r));
    }

joined_same : (a b : StateFacts) → HasForm a → HasForm b → AreSameForms a b a.variables b.variables
    → HasSameFormsIn a (merged_known joining a b)
joined_same a b first second same =
    by (paired_frames a.variables a.references b.variables b.references)
    (frames_say a.variables b.variables a.references b.references
    (paired_frames a.variables a.references b.variables b.references)
    alike refl)
    (merged_form rules.Join a b first second alike)
  where
    alike : AreAlike a.variables b.variables
    alike = alike_of a b a.variables b.variables (same_like a b a.variables b.variables same)

    by : (found : Option FramePairing) → IfSome found (SaysBoth a.variables b.variables)
        → ForSome (option_and_then (merged_by joining a b) found) HasForm
        → HasSameFormsIn a (option_and_then (merged_by joining a b) found)
    by None says form = tt
    by (Some f) says form =
        merged_same a b f (numbers.joined f.numbers.keys (numbers_known a.facts) (numbers_known b.facts)) same says form

-- Both of the forms of a third one.
pub comparable : (known a b : StateFacts) → HasSameForms known a → HasSameForms known b → AreComparable a b
comparable known a b first second = record {
  first = first.form;
  second = second.form;
  variables = same_like a b a.variables b.variables
      (all_on a known b a.variables known.variables b.variables
      (all_swap known a known.variables a.variables first.variables) second.variables);
}

pub join_same : (known : StateFacts) (o p : State) → HasSameFormsIn known o → HasSameFormsIn known p
    → HasSameFormsIn known (join o p)
join_same known None p first second = second
join_same known (Some a) None first second = first
join_same known (Some a) (Some b) first second =
    same_forms_on known a (merged_known joining a b) first
    (joined_same a b first.form second.form
    (all_on a known b a.variables known.variables b.variables
    (all_swap known a known.variables a.variables first.variables) second.variables))
