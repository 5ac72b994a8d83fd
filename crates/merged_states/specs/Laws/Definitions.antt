-- Definitions of new symbols are so.
use Rattle.std.proofs.Common.{◌≡◌, ℕ, suc, ◌+◌, ◌<◌, ◌==◌, ℤ, pos, ◌+ℤ◌, Bool, true, false, List, [], ◌∷◌, length, map, get_or, Option, Some, None, refl, sym, ap, ◌∙◌, inl, inr, arith}
use Rattle.std.specs.Prelude.{if◌then◌else◌}
use Rattle.std.specs.Option.{option_and_then}
use Rattle.std.specs.List.{AllByRecursion, range_with_len}
use Rattle.std.specs.Ordering.{int_eq}
use Rattle.std.proofs.lemmas.Bool.{and_parts, cases_lt}
use Rattle.std.proofs.lemmas.Bool.Decides.{Decides-eqb, Decides-int_eq}
use Rattle.std.proofs.lemmas.Int.{ints}
use Rattle.std.proofs.lemmas.List.{get_or_past}
use Rattle.std.proofs.lemmas.List.FromFn.{get_or-map-range_with_len, length-map-range_with_len}
use Rattle.domain_api.specs.declared.expr.Expr.{Expr}
use Rattle.frame_names.specs.PairedFrames.{FramePairing}
use Rattle.number_facts.specs.Holds.{IsDefined, is_below}
use Rattle.symbolic_values.specs.Meaning.{ReferencesAgree, null_behind, told}
use Rattle.symbolic_values.specs.Names.{paired_reference, renamed_above, symbol_of}
use Rattle.symbolic_values.specs.OwnNames.{own_name, own_names}
use Rattle.symbolic_values.specs.Pairing.{Pairing, origin}
use Rattle.symbolic_values.specs.Worth.{behind_uses, worth_of_use}
use Rattle.symbolic_values.specs.declared.def.Def.{Def}
use Rattle.symbolic_values.specs.declared.pairs.Key.{Key}
use Rattle.symbolic_values.proofs.MeaningLaws.{renamed_above_told}
use Rattle.symbolic_values.proofs.OwnNameLaws.{own_names_agree}
use Rattle.symbolic_values.proofs.PairedMeaning.{paired_reference_null, paired_told}
use Rattle.state_facts.specs.Assuming.{definition_at}
use Rattle.merged_states.specs.Parts.{common_def, def_of_both, def_of_one, definitions_from, is_of_symbols, reference_names, with_definition}

-- ---- a definition that is there

pub definition_so : (number : ℕ → ℤ) (is_null : ℕ → Bool) (definitions : List (ℕ × Def)) (s : ℕ) (def : Def)
    → AllByRecursion (IsDefined number is_null) definitions → definition_at definitions s ≡ Some def
    → number s ≡ told is_below number is_null def
definition_so number is_null [] s def all at = absurd cc
definition_so number is_null (d ∷ definitions) s def all at =
    by (d.0 == s) refl at (definition_so number is_null definitions s def all.1)
  where
    same_some : (x y : Def) → Some x ≡ Some y → x ≡ y
    same_some x y same = cc

    by : (here : Bool) → (d.0 == s) ≡ here → (if here then Some d.1 else definition_at definitions s) ≡ Some def
        → (definition_at definitions s ≡ Some def → number s ≡ told is_below number is_null def)
        → number s ≡ told is_below number is_null def
    by true same it later =
        ap number (sym ((Decides-eqb d.0 s).0 same)) ∙ all.0 ∙ ap (told is_below number is_null) (same_some d.1 def it)
    by false other it later = later it

-- ---- definitions by keys

one_more : (symbol i : ℕ) → symbol + suc i ≡ suc symbol + i
one_more symbol i = omega arith

no_more : (symbol : ℕ) → symbol + 0 ≡ symbol
no_more symbol = omega arith

with_so : (number : ℕ → ℤ) (is_null : ℕ → Bool) (symbol : ℕ) (found : Option Def) (rest : List (ℕ × Def))
    → ((def : Def) → found ≡ Some def → number symbol ≡ told is_below number is_null def)
    → AllByRecursion (IsDefined number is_null) rest
    → AllByRecursion (IsDefined number is_null) (with_definition symbol found rest)
with_so number is_null symbol None rest own all = all
with_so number is_null symbol (Some def) rest own all = (own def refl, all)

-- Each symbol is worth what its key is, and what defines a key says so.
pub definitions_so : (number : ℕ → ℤ) (is_null : ℕ → Bool) (worths : Key → ℤ) (def : Key → Option Def) (symbol : ℕ)
    (us : List Key)
    → ((i : ℕ) → number (symbol + i) ≡ worths (get_or us i origin))
    → ((u : Key) (d : Def) → def u ≡ Some d → worths u ≡ told is_below number is_null d)
    → AllByRecursion (IsDefined number is_null) (definitions_from def symbol us)
definitions_so number is_null worths def symbol [] names says = tt
definitions_so number is_null worths def symbol (u ∷ us) names says =
    with_so number is_null symbol (def u) (definitions_from def (suc symbol) us)
    (λ d is. ap number (sym (no_more symbol)) ∙ names 0 ∙ says u d is)
    (definitions_so number is_null worths def (suc symbol) us
    (λ i. ap number (sym (one_more symbol i)) ∙ names (suc i)) says)

-- ---- of two states

plain : (n : ℤ) → (n +ℤ pos 0) ≡ n
plain n = omega (arith, ints)

plain_twice : (n : ℤ) → (n +ℤ (pos 0 +ℤ pos 0)) ≡ n
plain_twice n = omega (arith, ints)

of_symbol : (is_first : Bool) (number : ℕ → ℤ) (u : Key) → u.first ≡ pos 0 → u.shift ≡ pos 0
    → worth_of_use is_first number u ≡ number (if is_first then u.s else u.t)
of_symbol true number u first shift = ap (λ k. number u.s +ℤ k) first ∙ plain (number u.s)
of_symbol false number u first shift =
    ap (λ k. number u.t +ℤ (k +ℤ u.shift)) first ∙ ap (λ k. number u.t +ℤ (pos 0 +ℤ k)) shift ∙ plain_twice (number u.t)

-- What defines a key in both states says what the key is worth on a side.
pub both_says : (is_first : Bool) (number : ℕ → ℤ) (is_null : ℕ → Bool) (frames : FramePairing)
    (a b : List (ℕ × Def)) (u : Key) (new : Def)
    → AllByRecursion (IsDefined number is_null) (if is_first then a else b) → def_of_both frames a b u ≡ Some new
    → worth_of_use is_first number u
    ≡ told is_below (behind_uses is_first number (origin ∷ frames.numbers.keys))
    (null_behind is_first is_null (origin ∷ frames.references.keys)) new
both_says is_first number is_null frames a b u new all is = by (is_of_symbols u) refl is
  where
    later : ℕ → ℤ
    later = behind_uses is_first number (origin ∷ frames.numbers.keys)

    later_null : ℕ → Bool
    later_null = null_behind is_first is_null (origin ∷ frames.references.keys)

    side_so : (side : Bool) (x y : Def) → AllByRecursion (IsDefined number is_null) (if side then a else b)
        → definition_at a u.s ≡ Some x
        → definition_at b u.t ≡ Some y
        → number (if side then u.s else u.t) ≡ told is_below number is_null (if side then x else y)
    side_so true x y known first second = definition_so number is_null a u.s x known first
    side_so false x y known first second = definition_so number is_null b u.t y known second

    common : (x y : Option Def) → definition_at a u.s ≡ x → definition_at b u.t ≡ y → common_def frames x y ≡ Some new
        → number (if is_first then u.s else u.t) ≡ told is_below later later_null new
    common None y first second made = absurd cc
    common (Some x) None first second made = absurd cc
    common (Some x) (Some y) first second made =
        side_so is_first x y all first second
        ∙ sym (paired_told is_below number is_null is_first frames.numbers frames.references x y new made)

    by : (alone : Bool) → is_of_symbols u ≡ alone
        → (if alone then common_def frames (definition_at a u.s) (definition_at b u.t) else None) ≡ Some new
        → worth_of_use is_first number u ≡ told is_below later later_null new
    by true alone made =
        let parts = and_parts (int_eq u.first (pos 0)) (int_eq u.shift (pos 0)) alone in
        of_symbol is_first number u ((Decides-int_eq u.first (pos 0)).0 parts.0)
        ((Decides-int_eq u.shift (pos 0)).0 parts.1)
        ∙ common (definition_at a u.s) (definition_at b u.t) refl refl made
    by false alone made = absurd cc

-- ---- of one state

zero_more : (n : ℕ) → 0 + n ≡ n
zero_more n = omega arith

mapped : (f : Option Expr → Option ℕ) (g : ℕ → Option Expr) (xs : List ℕ) → map f (map g xs) ≡ map (λ x. f (g x)) xs
mapped f g [] = refl
mapped f g (x ∷ xs) = ap (λ ys. f (g x) ∷ ys) (mapped f g xs)

own_reference : (pairs : Pairing) (count r : ℕ) → r < count
    → get_or (reference_names pairs count) r None ≡ paired_reference pairs r r
own_reference pairs count r below =
    ap (λ xs. get_or xs r None) (mapped symbol_of (own_name pairs) (range_with_len 0 count))
    ∙ get_or-map-range_with_len (λ s. paired_reference pairs s s) 0 count r r None below (zero_more r)

own_references : (pairs : Pairing) (count : ℕ) → length (reference_names pairs count) ≡ count
own_references pairs count =
    ap length (mapped symbol_of (own_name pairs) (range_with_len 0 count))
    ∙ length-map-range_with_len (λ s. paired_reference pairs s s) 0 count

-- Each reference is null where its new name is.
pub references_agree : (pairs : Pairing) (count : ℕ) (is_null : ℕ → Bool)
    → ReferencesAgree (reference_names pairs count) is_null (null_behind true is_null (origin ∷ pairs.keys))
references_agree pairs count is_null r q at =
    elim (cases_lt r count) [
      | inl below ↦ sym (paired_reference_null true is_null pairs r r q (sym (own_reference pairs count r below) ∙ at))
      | inr past ↦ none_is
          (sym (get_or_past (reference_names pairs count) r None
          (omega (arith, past, own_references pairs count))) ∙ at)
    ]
  where
    none_is : None ≡ Some q → is_null r ≡ null_behind true is_null (origin ∷ pairs.keys) q
    none_is is = cc

-- What defines a key in new names says what the key is worth.
pub one_says : (number : ℕ → ℤ) (is_null : ℕ → Bool) (frames : FramePairing) (symbols references : ℕ)
    (definitions : List (ℕ × Def)) (u : Key) (new : Def)
    → AllByRecursion (IsDefined number is_null) definitions
    → def_of_one frames symbols references definitions u ≡ Some new
    → worth_of_use true number u
    ≡ told is_below (behind_uses true number (origin ∷ frames.numbers.keys))
    (null_behind true is_null (origin ∷ frames.references.keys)) new
one_says number is_null frames symbols references definitions u new all is = by (definition_at definitions u.s) refl is
  where
    by : (def : Option Def) → definition_at definitions u.s ≡ def
        → option_and_then
        (renamed_above u.first (own_names frames.numbers symbols) (reference_names frames.references references))
        def ≡ Some new
        → worth_of_use true number u
        ≡ told is_below (behind_uses true number (origin ∷ frames.numbers.keys))
        (null_behind true is_null (origin ∷ frames.references.keys)) new
    by None at made = absurd cc
    by (Some def) at made =
        ap (λ n. n +ℤ u.first) (definition_so number is_null definitions u.s def all at)
        ∙ sym (renamed_above_told is_below number (behind_uses true number (origin ∷ frames.numbers.keys)) is_null
        (null_behind true is_null (origin ∷ frames.references.keys)) u.first (own_names frames.numbers symbols)
        (reference_names frames.references references) def new (own_names_agree frames.numbers symbols number)
        (references_agree frames.references references is_null) made)
