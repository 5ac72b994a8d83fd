-- States that are made of others in new names have the form of states.
use Rattle.std.proofs.Common.{◌≡◌, ℕ, zero, suc, ◌+◌, ◌-◌, ◌<◌, ◌≤◌, ◌==◌, Bool, true, false, List, [], ◌∷◌, length, map, drop, slice_get, Option, Some, None, refl, sym, ap, ◌∙◌, subst, inl, inr, arith}
use Rattle.std.specs.Prelude.{if◌then◌else◌}
use Rattle.std.specs.Option.{ForSome, option_and_then, option_map}
use Rattle.std.specs.List.{AllByRecursion, list_all}
use Rattle.std.proofs.lemmas.Bool.{cases_Bool, false≢true}
use Rattle.std.proofs.lemmas.Bool.Decides.{Decides-eqb}
use Rattle.std.proofs.lemmas.Int.{ints}
use Rattle.array_contents.specs.Contents as items
use Rattle.array_contents.specs.Contents.{Contents}
use Rattle.array_contents.specs.Merging.{Making}
use Rattle.array_contents.proofs.FormLaws.{formed_each, whole_formed}
use Rattle.array_contents.proofs.MergedForms.{merged_formed, renamed_formed}
use Rattle.array_contents.proofs.NarrowContents.{KeepsNarrow, formed_narrow, full_narrow, hull_narrow, widened_narrow}
use Rattle.array_contents.proofs.PairedLengths.{own_there, own_zero}
use Rattle.domain_api.specs.declared.expr.Expr.{Expr}
use Rattle.alias_facts.specs.PairsOf.{Pair}
use Rattle.cil_model.specs.declared.place.Place.{Place}
use Rattle.frame_names.specs.ApartPairs.{joined_apart, kept_apart}
use Rattle.frame_names.specs.Frames.{AreAlike, place_at, place_in, references_of}
use Rattle.frame_names.specs.MergedReferences.{merged_references, one_place}
use Rattle.frame_names.specs.PairedFrames.{FramePairing, behind, is_near, named_frame, paired_frames, pairing_by, pairs_of}
use Rattle.frame_names.specs.declared.reference.Reference.{Reference}
use Rattle.frame_names.proofs.FrameLemmas.{alike_itself}
use Rattle.interval_domain.specs.Joins.{full}
use Rattle.merged_numbers.specs.Meaning.{HaveForm, IsFormed}
use Rattle.merged_numbers.specs.Merging as numbers
use Rattle.merged_numbers.specs.Merging.{Outcome}
use Rattle.merged_numbers.proofs.FormLaws.{normed_formed}
use Rattle.merged_numbers.proofs.RuleLaws.{joined_formed, widened_formed}
use Rattle.number_facts.specs.Holds.{NamesOwn}
use Rattle.pentagon_domain.specs.Gaps.{AreBelow}
use Rattle.symbolic_values.specs.FirstUses.{noted, first_uses}
use Rattle.symbolic_values.specs.Names.{as_expr}
use Rattle.symbolic_values.specs.OwnNames.{own_names}
use Rattle.symbolic_values.specs.Pairing.{behind_first, origin, same_key, use_of, uses_of}
use Rattle.symbolic_values.specs.declared.def.Def.{Def}
use Rattle.symbolic_values.specs.declared.pairs.Key.{Key}
use Rattle.symbolic_values.proofs.Noting.{all_noted}
use Rattle.symbolic_values.proofs.Origins.{noted_origin, noted_other}
use Rattle.symbolic_values.proofs.WorthLaws as worths
use Rattle.state_facts.specs.Forms.{EndsBy, HasForm, IsArrayPlace, IsNumber, IsReference, IsVar, TestsOf, lengths_of}
use Rattle.merged_states.specs.Merging.{known_as, merged_as, merged_by, merged_known, normal_as, normal_by, normal_known}
use Rattle.merged_states.specs.Rules.{rule_of}
use Rattle.merged_states.specs.Parts.{are_numbered, contents_of_both, contents_of_one, def_of_both, def_of_one, entry_of, if_numbered, numbers_known, unknown_array}
use Rattle.merged_states.specs.Laws.Lengths.{lengths_count, lengths_named, lengths_stand, references_there}
use Rattle.state_facts.specs.StateFacts.{StateFacts}
use Rattle.merged_states.specs.declared.merging.Merging.{Merging}
use Rattle.merged_states.specs.declared.merging.Merging.TheVariants as rules
use Rattle.merged_states.proofs.PartsFormed.{IsThere, both_def_there, each_definition, numbers_there, one_def_there, pairs_upto, all_rising, vars_there}

-- ---- types of references

abbrev pub HasArrayPlace : List Reference → List Reference → Key → Type 0
HasArrayPlace a b u = IsArrayPlace (one_place (place_at a u.s) (place_at b u.t))

-- A reference has the type of an array, or is 0.
abbrev OkPlace : ℕ → Option Place → Type 0
OkPlace r None = r ≡ 0
OkPlace r (Some p) = IsArrayPlace p

slot_ok : (symbols : ℕ) (references : List Reference) (i : ℕ) (r : ℕ) → AllByRecursion (IsReference symbols) references → i < length references
    → OkPlace r (place_in (slice_get references i))
slot_ok symbols [] i r all there = absurd (omega (arith, there))
slot_ok symbols (known ∷ references) zero r all there = all.0.place
slot_ok symbols (known ∷ references) (suc i) r all there = slot_ok symbols references i r all.1 (omega (arith, there))

place_ok : (symbols : ℕ) (references : List Reference) (r : ℕ) → AllByRecursion (IsReference symbols) references → r ≤ length references
    → OkPlace r (place_at references r)
place_ok symbols references zero all there = refl
place_ok symbols references (suc i) all there =
    elim (cases_Bool (suc i == 0)) [
      | inl is ↦ absurd (not_zero i is)
      | inr is ↦
          subst (λ b. OkPlace (suc i) (place_in (if b then None else slice_get references (suc i - 1)))) (sym is)
          (slot_ok symbols references (suc i - 1) (suc i) all (omega (arith, there)))
    ]
  where
    not_zero : (n : ℕ) → (suc n == 0) ≡ true → ⊥
    not_zero n is = absurd (omega (arith, (Decides-eqb (suc n) 0).0 is))

both_zero : (r q : ℕ) → r ≡ 0 → q ≡ 0 → same_key (use_of (as_expr r) (as_expr q)) origin ≡ true
both_zero r q first second =
    ap (λ n. same_key (use_of (as_expr n) (as_expr q)) origin) first ∙ ap (λ n. same_key (use_of (as_expr 0) (as_expr n)) origin) second

one_ok : (r q : ℕ) (p t : Option Place) → OkPlace r p → OkPlace q t → same_key (use_of (as_expr r) (as_expr q)) origin ≡ false → IsArrayPlace (one_place p t)
one_ok r q (Some p) t first second other = first
one_ok r q None (Some t) first second other = second
one_ok r q None None first second other = absurd (false≢true (sym other ∙ both_zero r q first second))

-- Unless it is a use of two nulls.
abbrev UseHasPlace : List Reference → List Reference → Key → Type 0
UseHasPlace a b u = same_key u origin ≡ false → HasArrayPlace a b u

uses_have : (n m : ℕ) (a b : List Reference) (xs ys : List ℕ) → AllByRecursion (IsReference n) a → AllByRecursion (IsReference m) b
    → AllByRecursion (λ r. r ≤ length a) xs → AllByRecursion (λ r. r ≤ length b) ys
    → AllByRecursion (UseHasPlace a b) (uses_of (map as_expr xs) (map as_expr ys))
uses_have n m a b [] ys first second there also = tt
uses_have n m a b (r ∷ xs) [] first second there also = tt
uses_have n m a b (r ∷ xs) (q ∷ ys) first second there also =
    (one_ok r q (place_at a r) (place_at b q) (place_ok n a r first there.0) (place_ok m b q second also.0), uses_have n m a b xs ys first second there.1 also.1)

keys_have : (a b : List Reference) (known us : List Key) → AllByRecursion (UseHasPlace a b) us → AllByRecursion (HasArrayPlace a b) known
    → AllByRecursion (HasArrayPlace a b) (behind_first (first_uses same_key (origin ∷ known) us))
keys_have a b known [] uses all = all
keys_have a b known (u ∷ us) uses all =
    elim (cases_Bool (same_key u origin)) [
      | inl is ↦
          subst (λ l. AllByRecursion (HasArrayPlace a b) (behind_first (first_uses same_key l us))) (sym (noted_origin known u is)) (keys_have a b known us uses.1 all)
      | inr is ↦
          subst (λ l. AllByRecursion (HasArrayPlace a b) (behind_first (first_uses same_key l us))) (sym (noted_other known u is))
          (keys_have a b (noted same_key known u) us uses.1 (all_noted same_key (HasArrayPlace a b) known u all (uses.0 is)))
    ]

pub pairs_have : (a b : StateFacts) → HasForm a → HasForm b
    → AllByRecursion (HasArrayPlace a.references b.references) (pairs_of a.variables b.variables).keys
pairs_have a b first second =
    keys_have a.references b.references [] (uses_of (map as_expr (references_of a.variables)) (map as_expr (references_of b.variables)))
    (uses_have _ _ a.references b.references (references_of a.variables) (references_of b.variables) first.references second.references
    (references_there _ _ a.variables first.variables) (references_there _ _ b.variables second.variables)) tt

-- ---- references

references_formed : (symbols : ℕ) (a b : List Reference) (us : List Key) (lengths : List Expr) → AllByRecursion (HasArrayPlace a b) us
    → AllByRecursion (IsNumber symbols) lengths → AllByRecursion (IsReference symbols) (map entry_of (merged_references a b us lengths))
references_formed symbols a b [] lengths places all = tt
references_formed symbols a b (u ∷ us) [] places all = (
  record { place = places.0; length_is = record { there = omega arith; near = record { least = omega (arith, ints); greatest = omega (arith, ints) } } },
  references_formed symbols a b us [] places.1 tt,
)
references_formed symbols a b (u ∷ us) (e ∷ lengths) places all =
    (record { place = places.0; length_is = all.0 }, references_formed symbols a b us lengths places.1 all.1)

many : (a b : List Reference) (us : List Key) (lengths : List Expr) → length us ≡ length (map entry_of (merged_references a b us lengths))
many a b [] lengths = refl
many a b (u ∷ us) lengths = ap suc (many a b us (behind lengths))

-- The lengths of new references are the new lengths.
lengths_are : (a b : List Reference) (us : List Key) (lengths : List Expr) → length lengths ≡ length us
    → lengths_of (map entry_of (merged_references a b us lengths)) ≡ lengths
lengths_are a b [] [] same = refl
lengths_are a b [] (e ∷ lengths) same = absurd (omega (arith, same))
lengths_are a b (u ∷ us) [] same = absurd (omega (arith, same))
lengths_are a b (u ∷ us) (e ∷ lengths) same = ap (λ es. e ∷ es) (lengths_are a b us lengths (omega (arith, same)))

-- ---- items

unknown_formed : (symbols : ℕ) (lengths : List Expr) → AllByRecursion (IsNumber symbols) lengths
    → items.AreFormed symbols lengths (map unknown_array lengths)
unknown_formed symbols [] all = tt
unknown_formed symbols (e ∷ lengths) all = (whole_formed symbols e full true all.0.there full_narrow, unknown_formed symbols lengths all.1)

numbered_formed : (frames : FramePairing) (contents : Contents) → AllByRecursion (IsNumber (length frames.numbers.keys)) frames.lengths
    → (are_numbered frames ≡ true → items.AreFormed (length frames.numbers.keys) frames.lengths contents)
    → items.AreFormed (length frames.numbers.keys) frames.lengths (if_numbered frames contents)
numbered_formed frames contents lengths formed = by (are_numbered frames) refl
  where
    by : (numbered : Bool) → are_numbered frames ≡ numbered
        → items.AreFormed (length frames.numbers.keys) frames.lengths (if numbered then contents else map unknown_array frames.lengths)
    by true is = formed is
    by false is = unknown_formed (length frames.numbers.keys) frames.lengths lengths

both_formed : (making : Making) (a b : StateFacts) (f : FramePairing) → KeepsNarrow making → HasForm a → HasForm b → AreAlike a.variables b.variables
    → paired_frames a.variables a.references b.variables b.references ≡ Some f → are_numbered f ≡ true
    → items.AreFormed (length f.numbers.keys) f.lengths (contents_of_both making f a.contents b.contents)
both_formed making a b f keeps first second alike is numbered =
    merged_formed making f.numbers a.contents b.contents f.references.keys f.lengths keeps
    (formed_each (length a.facts.ranges) (lengths_of a.references) a.contents first.contents)
    (formed_each (length b.facts.ranges) (lengths_of b.references) b.contents second.contents)
    (formed_narrow (length a.facts.ranges) (lengths_of a.references) a.contents first.contents)
    (formed_narrow (length b.facts.ranges) (lengths_of b.references) b.contents second.contents)
    (lengths_stand a b f first second alike is numbered) (lengths_count a b f alike is)

own_formed : (a : StateFacts) (f : FramePairing) → HasForm a → paired_frames a.variables a.references a.variables a.references ≡ Some f
    → are_numbered f ≡ true → items.AreFormed (length f.numbers.keys) f.lengths (contents_of_one f (length a.facts.ranges + 1) a.contents)
own_formed a f form is numbered =
    renamed_formed (own_names f.numbers (length a.facts.ranges + 1)) (length f.numbers.keys) (own_there f.numbers (length a.facts.ranges + 1)) a.contents
    f.references.keys f.lengths (formed_each (length a.facts.ranges) (lengths_of a.references) a.contents form.contents)
    (formed_narrow (length a.facts.ranges) (lengths_of a.references) a.contents form.contents)
    (own_zero f.numbers (length a.facts.ranges + 1) (omega arith)) (lengths_named a f form is numbered)
    (lengths_count a a f (alike_itself a.variables) is)

-- ---- the whole

-- What the parts of a state in new names owe.
pub record AreFormed (a b : StateFacts) (frames : FramePairing) (def : Key → Option Def) (pairs : List Pair) (contents : Contents) : Type 0 where
  pub defs : (u : Key) (d : Def) → def u ≡ Some d → IsThere (length frames.numbers.keys) (length frames.references.keys) d
  pub variables : AllByRecursion (IsVar (length frames.numbers.keys) (length frames.references.keys)) frames.vars
  pub lengths : AllByRecursion (IsNumber (length frames.numbers.keys)) frames.lengths
  pub places : AllByRecursion (HasArrayPlace a.references b.references) frames.references.keys
  pub upto : AllByRecursion (EndsBy (length frames.references.keys)) pairs
  pub long : length frames.lengths ≡ length frames.references.keys
  pub items : items.AreFormed (length frames.numbers.keys) frames.lengths (if_numbered frames contents)

pub known_formed : (a b : StateFacts) (frames : FramePairing) (outcome : Outcome) (def : Key → Option Def) (pairs : List Pair) (contents : Contents)
    → IsFormed frames.numbers.keys outcome → AreFormed a b frames def pairs contents → HasForm (known_as a b frames outcome def pairs contents)
known_formed a b frames outcome def pairs contents formed parts =
    let count : length frames.numbers.keys ≡ length outcome.ranges = sym formed.count in
    let arrays = many a.references b.references frames.references.keys frames.lengths in
    record {
      narrow = formed.narrow;
      named = record {
        bounds = subst (λ n. AllByRecursion (AreBelow (n + 1)) outcome.bounds) count formed.named;
        definitions = subst (λ n. AllByRecursion (NamesOwn n) (known_as a b frames outcome def pairs contents).facts.definitions) count
            (each_definition (NamesOwn (length frames.numbers.keys)) def 1 (1 + length frames.numbers.keys) frames.numbers.keys (omega arith)
            (λ s u d above below is. (omega (arith, below), (parts.defs u d is).names)));
      };
      rising = all_rising def frames.numbers.keys;
      tests = subst (λ n. AllByRecursion (λ d. TestsOf n d.1) (known_as a b frames outcome def pairs contents).facts.definitions) arrays
          (each_definition (λ d. TestsOf (length frames.references.keys) d.1) def 1 (1 + length frames.numbers.keys) frames.numbers.keys (omega arith)
          (λ s u d above below is. (parts.defs u d is).tests));
      variables = subst (λ n. AllByRecursion (IsVar (length outcome.ranges) n) frames.vars) arrays
          (subst (λ n. AllByRecursion (IsVar n (length frames.references.keys)) frames.vars) count parts.variables);
      references = subst (λ n. AllByRecursion (IsReference n) (known_as a b frames outcome def pairs contents).references) count
          (references_formed (length frames.numbers.keys) a.references b.references frames.references.keys frames.lengths parts.places parts.lengths);
      pairs = subst (λ n. AllByRecursion (EndsBy n) pairs) arrays parts.upto;
      contents = subst (λ n. items.AreFormed n (lengths_of (known_as a b frames outcome def pairs contents).references) (if_numbered frames contents)) count
          (subst (λ es. items.AreFormed (length frames.numbers.keys) es (if_numbered frames contents))
          (sym (lengths_are a.references b.references frames.references.keys frames.lengths parts.long)) parts.items);
    }

drop_all_there : (P : Expr → Type 0) (count : ℕ) (exprs : List Expr) → AllByRecursion P exprs → AllByRecursion P (drop count exprs)
drop_all_there P zero exprs all = all
drop_all_there P (suc count) [] all = tt
drop_all_there P (suc count) (e ∷ exprs) all = drop_all_there P count exprs all.1

frame_formed : (a b : StateFacts) (def : FramePairing → Key → Option Def) (pairs : FramePairing → List Pair) (contents : FramePairing → Contents)
    → ((f : FramePairing) (u : Key) (d : Def) → def f u ≡ Some d → IsThere (length f.numbers.keys) (length f.references.keys) d)
    → ((f : FramePairing) → AllByRecursion (EndsBy (length f.references.keys)) (pairs f))
    → HasForm a → HasForm b → AreAlike a.variables b.variables
    → ((f : FramePairing) → paired_frames a.variables a.references b.variables b.references ≡ Some f → are_numbered f ≡ true
    → items.AreFormed (length f.numbers.keys) f.lengths (contents f))
    → (f : FramePairing) → paired_frames a.variables a.references b.variables b.references ≡ Some f → AreFormed a b f (def f) (pairs f) (contents f)
frame_formed a b def pairs contents defs upto first second alike formed f is = by (list_all is_near new.numbers.exprs) refl is
  where
    new : FramePairing
    new = named_frame a.variables (pairs_of a.variables b.variables) (pairing_by (pairs_of a.variables b.variables) a.variables a.references b.variables b.references)

    own : list_all is_near new.numbers.exprs ≡ true → AreFormed a b new (def new) (pairs new) (contents new)
    own near =
        let all : AllByRecursion (IsNumber (length new.numbers.keys)) new.numbers.exprs =
        numbers_there (length new.numbers.keys) new.numbers.exprs (worths.paired_there _ _) near in
        let found : paired_frames a.variables a.references b.variables b.references ≡ Some new = ap (λ t. if t then Some new else None) near in
        let lengths = drop_all_there (IsNumber (length new.numbers.keys)) _ new.numbers.exprs all in
        record {
          defs = defs new;
          variables = vars_there (length new.numbers.keys) (length new.references.keys) new.numbers.exprs new.references.exprs a.variables all
              (worths.paired_there _ _);
          lengths = lengths;
          places = pairs_have a b first second;
          upto = upto new;
          long = lengths_count a b new alike found;
          items = numbered_formed new (contents new) lengths (formed new found);
        }

    same_some : (x y : FramePairing) → Some x ≡ Some y → x ≡ y
    same_some x y same = cc

    by : (near : Bool) → list_all is_near new.numbers.exprs ≡ near → (if near then Some new else None) ≡ Some f → AreFormed a b f (def f) (pairs f) (contents f)
    by true near made = subst (λ g. AreFormed a b g (def g) (pairs g) (contents g)) (same_some new f made) (own near)
    by false near made = absurd cc

outcome_formed : (make : Outcome → StateFacts) (keys : List Key) (outcome : Option Outcome) → HaveForm keys outcome
    → ((o : Outcome) → IsFormed keys o → HasForm (make o)) → ForSome (option_map make outcome) HasForm
outcome_formed make keys None form made known is = absurd cc
outcome_formed make keys (Some outcome) form made known is = subst HasForm (same_some (make outcome) known is) (made outcome form)
  where
    same_some : (x y : StateFacts) → Some x ≡ Some y → x ≡ y
    same_some x y same = cc

none_formed : ForSome None HasForm
none_formed known is = absurd cc

rule_formed : (rule : Merging) (keys : List Key) (a b : StateFacts) → HaveForm keys ((rule_of rule).numbers keys (numbers_known a.facts) (numbers_known b.facts))
rule_formed rules.Join keys a b = joined_formed keys (numbers_known a.facts) (numbers_known b.facts)
rule_formed rules.Widening keys a b = widened_formed keys (numbers_known a.facts) (numbers_known b.facts)

rule_narrow : (rule : Merging) → KeepsNarrow (rule_of rule).making
rule_narrow rules.Join a b first second = hull_narrow a b first second
rule_narrow rules.Widening a b first second = widened_narrow a b first second

-- Two states as one have the form of states.
pub merged_form : (rule : Merging) (a b : StateFacts) → HasForm a → HasForm b → AreAlike a.variables b.variables
    → ForSome (merged_known (rule_of rule) a b) HasForm
merged_form rule a b first second alike = by (paired_frames a.variables a.references b.variables b.references) refl
  where
    by : (found : Option FramePairing) → paired_frames a.variables a.references b.variables b.references ≡ found
        → ForSome (option_and_then (merged_by (rule_of rule) a b) found) HasForm
    by None at = none_formed
    by (Some f) at =
        outcome_formed (merged_as (rule_of rule).making a b f) f.numbers.keys ((rule_of rule).numbers f.numbers.keys (numbers_known a.facts) (numbers_known b.facts))
        (rule_formed rule f.numbers.keys a b)
        (λ o formed. known_formed a b f o _ _ _ formed
        (frame_formed a b (λ g. def_of_both g a.facts.definitions b.facts.definitions)
        (λ g. joined_apart g.references.keys a.references a.apart b.references b.apart)
        (λ g. contents_of_both (rule_of rule).making g a.contents b.contents)
        (λ g u d is. both_def_there g a.facts.definitions b.facts.definitions u d is) (λ g. pairs_upto _ (length g.references.keys)) first second alike
        (λ g is numbered. both_formed (rule_of rule).making a b g (rule_narrow rule) first second alike is numbered) f at))

-- The normal form has the form of states.
pub normal_form : (a : StateFacts) → HasForm a → ForSome (normal_known a) HasForm
normal_form a form = by (paired_frames a.variables a.references a.variables a.references) refl
  where
    by : (found : Option FramePairing) → paired_frames a.variables a.references a.variables a.references ≡ found → ForSome (option_and_then (normal_by a) found) HasForm
    by None at = none_formed
    by (Some f) at =
        outcome_formed (normal_as a f) f.numbers.keys (numbers.normed f.numbers.keys (numbers_known a.facts)) (normed_formed f.numbers.keys (numbers_known a.facts))
        (λ o formed. known_formed a a f o _ _ _ formed
        (frame_formed a a (λ g. def_of_one g (length a.facts.ranges + 1) (length a.references + 1) a.facts.definitions)
        (λ g. kept_apart g.references.keys a.apart) (λ g. contents_of_one g (length a.facts.ranges + 1) a.contents)
        (λ g u d is. one_def_there g _ _ a.facts.definitions u d is) (λ g. pairs_upto _ (length g.references.keys)) form form
        (alike_itself a.variables) (λ g is numbered. own_formed a g form is numbered) f at))
