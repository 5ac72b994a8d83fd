-- Two frames that were named together say what each of them says.
use Rattle.std.proofs.Common.{◌≡◌, ℕ, ◌<◌, ℤ, Bool, true, false, true≢false, List, [], ◌∷◌, ◌++◌, length, get_or, drop, map, Option, Some, None, if◌then◌else◌, refl, sym, ap, ◌∙◌, subst, arith}
use Rattle.std.specs.Prelude.{IfSome}
use Rattle.std.specs.List.{list_all}
use Rattle.std.proofs.lemmas.List.{drop-map, length-map, map-append}
use Rattle.std.proofs.lemmas.List.Sums.{passes_at_first}
use Rattle.std.proofs.Math.Seq.{drop-append_seam}
use Rattle.domain_api.specs.declared.expr.Expr.{Expr}
use Rattle.symbolic_values.specs.declared.pairs.Key.{Key}
use Rattle.symbolic_values.specs.Names.{as_expr}
use Rattle.symbolic_values.specs.Pairing.{Pairing, known_in, named, number_in, origin, paired, same_key, uses_of}
use Rattle.symbolic_values.specs.Worth.{behind_uses, worth}
use Rattle.symbolic_values.proofs.Keys.{HaveOneKey, same_key_is}
use Rattle.symbolic_values.proofs.WorthLaws.{AllKnown, all_known, origin_first, paired_worth}
use Rattle.frame_names.specs.declared.reference.Reference.{Reference}
use Rattle.frame_names.specs.declared.var.Var.{Var}
use Rattle.frame_names.specs.declared.var.Var.TheVariants as vars
use Rattle.frame_names.specs.Frames.{AreAlike, length_at, numbers_of, references_of}
use Rattle.frame_names.specs.PairedFrames.{FramePairing, exprs_of, if_near, is_near, named_frame, new_vars, old_of, paired_frames, pairing_by, pairs_of}
use Rattle.frame_names.specs.Meaning.{HasBothLengths, SaysBoth, a_number, a_text, an_address, an_array, said}
use Rattle.frame_names.proofs.FrameLemmas.{alike_itself, same_exprs, same_numbers, same_references}

-- ---- references

old_by_key : (is_first : Bool) (u v : Key) → HaveOneKey u v → old_of is_first v ≡ old_of is_first u
old_by_key true u v one = sym one.first_symbol
old_by_key false u v one = sym one.second_symbol

-- A use that is known was, by its name, what it was on that side.
named_old : (is_first : Bool) (known : List Key) (u : Key) → number_in known u < length known
    → old_of is_first (get_or known (named known u).sym origin) ≡ old_of is_first u
named_old is_first known u there =
    old_by_key is_first u (get_or known (number_in known u) origin) (same_key_is u _ (passes_at_first (same_key u) known origin there))

all_named_old : (is_first : Bool) (array : ℕ → Option ℕ) (known us : List Key) → AllKnown known us
    → map (λ (e : Expr). array (old_of is_first (get_or known e.sym origin))) (map (named known) us) ≡ map (λ u. array (old_of is_first u)) us
all_named_old is_first array known [] all = refl
all_named_old is_first array known (u ∷ us) all =
    ap (λ r. array r ∷ map (λ (e : Expr). array (old_of is_first (get_or known e.sym origin))) (map (named known) us)) (named_old is_first known u all.0)
    ∙ ap (λ rs. array (old_of is_first u) ∷ rs) (all_named_old is_first array known us all.1)

uses_old : (is_first : Bool) (array : ℕ → Option ℕ) (rs qs : List ℕ) → length rs ≡ length qs
    → map (λ u. array (old_of is_first u)) (uses_of (map as_expr rs) (map as_expr qs)) ≡ map array (if is_first then rs else qs)
uses_old true array [] qs same = refl
uses_old true array (r ∷ rs) [] same = absurd (omega (arith, same))
uses_old true array (r ∷ rs) (q ∷ qs) same = ap (λ l. array r ∷ l) (uses_old true array rs qs (omega (arith, same)))
uses_old false array [] [] same = refl
uses_old false array [] (q ∷ qs) same = absurd (omega (arith, same))
uses_old false array (r ∷ rs) [] same = absurd (omega (arith, same))
uses_old false array (r ∷ rs) (q ∷ qs) same = ap (λ l. array q ∷ l) (uses_old false array rs qs (omega (arith, same)))

abbrev array_by : Bool → (ℕ → Option ℕ) → List Key → Expr → Option ℕ
array_by is_first array keys e = array (old_of is_first (get_or (origin ∷ keys) e.sym origin))

-- Each new reference is the array that the one it stands for is on that side.
paired_old : (is_first : Bool) (array : ℕ → Option ℕ) (a b : List Expr) (rs qs : List ℕ) → a ≡ map as_expr rs → b ≡ map as_expr qs → length rs ≡ length qs
    → map (array_by is_first array (paired a b).keys) (paired a b).exprs ≡ map array (if is_first then rs else qs)
paired_old is_first array a b rs qs first second same =
    ap (λ known. map (λ (e : Expr). array (old_of is_first (get_or known e.sym origin))) (map (named (known_in a b)) (uses_of a b))) (sym (origin_first [] (uses_of a b)))
    ∙ all_named_old is_first array (known_in a b) (uses_of a b) (all_known (origin ∷ []) (uses_of a b))
    ∙ ap (λ es. map (λ u. array (old_of is_first u)) (uses_of es b)) first
    ∙ ap (λ es. map (λ u. array (old_of is_first u)) (uses_of (map as_expr rs) es)) second
    ∙ uses_old is_first array rs qs same

-- ---- variables

record AreHeads {X : Type 0} (x y : X) (xs ys : List X) : Type 0 where
  head : x ≡ y
  tail : xs ≡ ys

heads : {X : Type 0} (x y : X) (xs ys : List X) → x ∷ xs ≡ y ∷ ys → AreHeads x y xs ys
heads x y xs ys is = record { head = cc; tail = cc }

-- The next of the new names say what the variables of a side say.
said_new : (number later : ℕ → ℤ) (array : ℕ → Option ℕ) (now : ℕ → Option ℕ) (vs side : List Var) (numbers references : List Expr) (more : List ℤ)
    → AreAlike vs side → map (worth later) numbers ≡ map (worth number) (numbers_of side) ++ more
    → map (λ (e : Expr). now e.sym) references ≡ map array (references_of side)
    → map (said later now) (new_vars numbers references vs) ≡ map (said number array) side
said_new number later array now [] [] numbers references more alike worths arrays = refl
said_new number later array now [] (y ∷ side) numbers references more alike worths arrays = absurd alike
said_new number later array now (x ∷ vs) [] numbers references more alike worths arrays = absurd alike
said_new number later array now (vars.Number e ∷ vs) (vars.Number f ∷ side) [] references more alike worths arrays = cc
said_new number later array now (vars.Number e ∷ vs) (vars.Number f ∷ side) (n ∷ numbers) references more alike worths arrays =
    let both = heads _ _ _ _ worths in
    ap (λ z. a_number z ∷ map (said later now) (new_vars numbers references vs)) both.head
    ∙ ap (λ l. said number array (vars.Number f) ∷ l) (said_new number later array now vs side numbers references more alike.1 both.tail arrays)
said_new number later array now (vars.Reference r ∷ vs) (vars.Reference q ∷ side) numbers [] more alike worths arrays = cc
said_new number later array now (vars.Reference r ∷ vs) (vars.Reference q ∷ side) numbers (n ∷ references) more alike worths arrays =
    let both = heads _ _ _ _ arrays in
    ap (λ z. an_array z ∷ map (said later now) (new_vars numbers references vs)) both.head
    ∙ ap (λ l. said number array (vars.Reference q) ∷ l) (said_new number later array now vs side numbers references more alike.1 worths both.tail)
said_new number later array now (vars.Text ∷ vs) (vars.Text ∷ side) numbers references more alike worths arrays =
    ap (λ l. a_text ∷ l) (said_new number later array now vs side numbers references more alike.1 worths arrays)
said_new number later array now (vars.Address r e ∷ vs) (vars.Address q f ∷ side) [] references more alike worths arrays = cc
said_new number later array now (vars.Address r e ∷ vs) (vars.Address q f ∷ side) (n ∷ numbers) [] more alike worths arrays = cc
said_new number later array now (vars.Address r e ∷ vs) (vars.Address q f ∷ side) (n ∷ numbers) (m ∷ references) more alike worths arrays =
    let first = heads _ _ _ _ arrays in
    let index = heads _ _ _ _ worths in
    ap (λ z. an_address z (worth later n) ∷ map (said later now) (new_vars numbers references vs)) first.head
    ∙ ap (λ z. an_address (array q) z ∷ map (said later now) (new_vars numbers references vs)) index.head
    ∙ ap (λ l. said number array (vars.Address q f) ∷ l) (said_new number later array now vs side numbers references more alike.1 index.tail first.tail)
said_new number later array now (x ∷ vs) (y ∷ side) numbers references more alike worths arrays = absurd (true≢false (sym alike.0))

-- ---- the whole

alike_side : (is_first : Bool) (a b : List Var) → AreAlike a b → AreAlike a (if is_first then a else b)
alike_side true a b alike = alike_itself a
alike_side false a b alike = alike

arrays_of : (is_first : Bool) (array : ℕ → Option ℕ) (a b : List Var) → map array (if is_first then references_of a else references_of b) ≡ map array (references_of (if is_first then a else b))
arrays_of true array a b = refl
arrays_of false array a b = refl

same_count : (is_first : Bool) (a b : List Var) → AreAlike a b → (number : ℕ → ℤ)
    → length (numbers_of a) ≡ length (map (worth number) (numbers_of (if is_first then a else b)))
same_count true a b alike number = sym (length-map (numbers_of a) (worth number))
same_count false a b alike number = same_numbers a b alike ∙ sym (length-map (numbers_of b) (worth number))

lengths_worth : (is_first : Bool) (number : ℕ → ℤ) (known : List Reference) (keys : List Key)
    → map (worth number) (map (λ key. length_at known (old_of is_first key)) keys) ≡ map (λ key. worth number (length_at known (old_of is_first key))) keys
lengths_worth is_first number known [] = refl
lengths_worth is_first number known (key ∷ keys) = ap (λ l. worth number (length_at known (old_of is_first key)) ∷ l) (lengths_worth is_first number known keys)

side_worth : (is_first : Bool) (number : ℕ → ℤ) (a b : List Var) (known other : List Reference) (keys : List Key)
    → map (worth number) (if is_first then exprs_of a known true keys else exprs_of b other false keys)
    ≡ map (worth number) (numbers_of (if is_first then a else b)) ++ map (λ key. worth number (length_at (if is_first then known else other) (old_of is_first key))) keys
side_worth true number a b known other keys =
    map-append (worth number) (numbers_of a) _ ∙ ap (λ l. map (worth number) (numbers_of a) ++ l) (lengths_worth true number known keys)
side_worth false number a b known other keys =
    map-append (worth number) (numbers_of b) _ ∙ ap (λ l. map (worth number) (numbers_of b) ++ l) (lengths_worth false number other keys)

-- The new numbers are worth what the numbers of a side are, and behind them its lengths.
numbers_worth : (is_first : Bool) (number : ℕ → ℤ) (a b : List Var) (known other : List Reference) (references : Pairing) → AreAlike a b
    → map (worth (behind_uses is_first number (origin ∷ (pairing_by references a known b other).keys))) (pairing_by references a known b other).exprs
    ≡ map (worth number) (numbers_of (if is_first then a else b))
    ++ map (λ key. worth number (length_at (if is_first then known else other) (old_of is_first key))) references.keys
numbers_worth is_first number a b known other references alike =
    paired_worth is_first number (exprs_of a known true references.keys) (exprs_of b other false references.keys)
    (same_exprs a b known other true false references.keys alike)
    ∙ side_worth is_first number a b known other references.keys

named_says : (a b : List Var) (known other : List Reference) → AreAlike a b
    → SaysBoth a b (named_frame a (pairs_of a b) (pairing_by (pairs_of a b) a known b other))
named_says a b known other alike = λ is_first number array.
    said_new number _ array _ a (if is_first then a else b) (pairing_by (pairs_of a b) a known b other).exprs (pairs_of a b).exprs _
    (alike_side is_first a b alike) (numbers_worth is_first number a b known other (pairs_of a b) alike)
    (paired_old is_first array (map as_expr (references_of a)) (map as_expr (references_of b)) (references_of a) (references_of b) refl refl (same_references a b alike)
    ∙ arrays_of is_first array a b)

named_lengths : (a b : List Var) (known other : List Reference) → AreAlike a b
    → HasBothLengths known other (named_frame a (pairs_of a b) (pairing_by (pairs_of a b) a known b other))
named_lengths a b known other alike = λ is_first number.
    let numbers = pairing_by (pairs_of a b) a known b other in
    let later = behind_uses is_first number (origin ∷ numbers.keys) in
    let prefix = map (worth number) (numbers_of (if is_first then a else b)) in
    let more = map (λ (key : Key). worth number (length_at (if is_first then known else other) (old_of is_first key))) (pairs_of a b).keys in
    sym (drop-map (worth later) (length (numbers_of a)) numbers.exprs)
    ∙ ap (drop (length (numbers_of a))) (numbers_worth is_first number a b known other (pairs_of a b) alike)
    ∙ ap (λ n. drop n (prefix ++ more)) (same_count is_first a b alike number)
    ∙ drop-append_seam prefix more

if_near_some : (P : FramePairing → Type 0) (new : FramePairing) (found : Option FramePairing) → found ≡ if_near new → P new → IfSome found P
if_near_some P new found is holds = subst (λ f. IfSome f P) (sym is) (by (list_all is_near new.numbers.exprs))
  where
    by : (near : Bool) → IfSome (if near then Some new else None) P
    by true = holds
    by false = tt

-- The new variables say what those of each side say.
pub frames_say : (a b : List Var) (known other : List Reference) (found : Option FramePairing) → AreAlike a b
    → found ≡ paired_frames a known b other → IfSome found (SaysBoth a b)
frames_say a b known other found alike is = if_near_some (SaysBoth a b) (named_frame a (pairs_of a b) (pairing_by (pairs_of a b) a known b other)) found is (named_says a b known other alike)

-- The new lengths are worth what those of each side are.
pub frames_have_lengths : (a b : List Var) (known other : List Reference) (found : Option FramePairing) → AreAlike a b
    → found ≡ paired_frames a known b other → IfSome found (HasBothLengths known other)
frames_have_lengths a b known other found alike is = if_near_some (HasBothLengths known other) (named_frame a (pairs_of a b) (pairing_by (pairs_of a b) a known b other)) found is (named_lengths a b known other alike)
