-- What is made of states in new names has the form of states.
use Rattle.std.proofs.Common.{◌≡◌, ℕ, zero, suc, ◌+◌, ◌-◌, ◌<◌, ◌≤◌, ◌==◌, nat_lt, ℤ, pos, negsuc, ◌+ℤ◌, ◌-ℤ◌, ◌≤ℤ◌, Bool, true, false, ◌&&◌, int_le, List, [], ◌∷◌, length, map, get_or, Option, Some, None, refl, sym, ◌∙◌, subst, inl, inr, arith}
use Rattle.std.specs.Prelude.{if◌then◌else◌}
use Rattle.std.specs.Option.{option_and_then}
use Rattle.std.specs.List.{AllByRecursion, fold, list_all, position, range_with_len}
use Rattle.std.specs.Ordering.{int_eq}
use Rattle.std.proofs.lemmas.Bool.{and_parts, cases_lt}
use Rattle.std.proofs.lemmas.Bool.Decides.{Decides-eqb}
use Rattle.std.proofs.lemmas.Int.{ints}
use Rattle.std.proofs.lemmas.List.{get_or_past}
use Rattle.std.proofs.lemmas.List.FromFn.{get_or-map-range_with_len, length-map-range_with_len}
use Rattle.std.proofs.lemmas.List.Quantifiers.{position-Some}
use Rattle.domain_api.specs.declared.expr.Expr.{Expr}
use Rattle.alias_facts.specs.PairsOf.{Pair, comes_before, inserted, is_proper, ordered, same_pair}
use Rattle.frame_names.specs.ApartPairs.{pairs_by, with_row, with_test}
use Rattle.frame_names.specs.PairedFrames.{FramePairing, behind, first_expr, is_near, new_vars}
use Rattle.frame_names.specs.declared.var.Var.{Var}
use Rattle.frame_names.specs.declared.var.Var.TheVariants as vars
use Rattle.number_facts.specs.Holds.{Names}
use Rattle.symbolic_values.specs.Names.{are_same_constant, as_expr, fitting, moved, named_at, null_test, of_both, paired_def, paired_expr, paired_reference, renamed, renamed_above, renamed_more, symbol_of, unless_more, where_same}
use Rattle.symbolic_values.specs.OwnNames.{own_name, own_names}
use Rattle.symbolic_values.specs.Pairing.{Pairing, origin, same_key, use_of}
use Rattle.symbolic_values.specs.declared.def.Def.{Def}
use Rattle.symbolic_values.specs.declared.def.Def.TheVariants.{Eq, Lt, LtUn, NullTest, Sub}
use Rattle.symbolic_values.specs.declared.pairs.Key.{Key}
use Rattle.symbolic_values.proofs.MeaningLaws.{fitting_is}
use Rattle.state_facts.specs.Assuming.{definition_at}
use Rattle.state_facts.specs.Forms.{AreRising, EndsBy, IsNumber, IsVar, SymbolsRise, TestsOf}
use Rattle.merged_states.specs.Parts.{common_def, def_of_both, def_of_one, definitions_from, is_of_symbols, reference_names, with_definition}

same_some : {X : Type 0} (x y : X) → Some x ≡ Some y → x ≡ y
same_some x y same = cc

-- ---- definitions rise

with_all : (P : ℕ × Def → Type 0) (symbol : ℕ) (found : Option Def) (rest : List (ℕ × Def)) → ((d : Def) → found ≡ Some d → P (symbol, d))
    → AllByRecursion P rest → AllByRecursion P (with_definition symbol found rest)
with_all P symbol None rest own all = all
with_all P symbol (Some d) rest own all = (own d refl, all)

-- What is so of what defines each key is so of all definitions.
pub each_definition : (P : ℕ × Def → Type 0) (def : Key → Option Def) (symbol top : ℕ) (us : List Key) → symbol + length us ≤ top
    → ((s : ℕ) (u : Key) (d : Def) → symbol ≤ s → s < top → def u ≡ Some d → P (s, d)) → AllByRecursion P (definitions_from def symbol us)
each_definition P def symbol top [] within each = tt
each_definition P def symbol top (u ∷ us) within each =
    with_all P symbol (def u) (definitions_from def (suc symbol) us) (λ d is. each symbol u d (omega arith) (omega (arith, within)) is)
    (each_definition P def (suc symbol) top us (omega (arith, within)) (λ s v d above below is. each s v d (omega (arith, above)) below is))

rising_with : (symbol : ℕ) (found : Option Def) (rest : List (ℕ × Def)) → AllByRecursion (λ later. symbol < later.0) rest → SymbolsRise rest
    → SymbolsRise (with_definition symbol found rest)
rising_with symbol None rest above rising = rising
rising_with symbol (Some d) rest above rising = (above, rising)

symbols_rise : (def : Key → Option Def) (symbol : ℕ) (us : List Key) → SymbolsRise (definitions_from def symbol us)
symbols_rise def symbol [] = tt
symbols_rise def symbol (u ∷ us) =
    rising_with symbol (def u) (definitions_from def (suc symbol) us)
    (each_definition (λ later. symbol < later.0) def (suc symbol) (suc symbol + length us) us (omega arith) (λ s v d above below is. omega (arith, above)))
    (symbols_rise def (suc symbol) us)

pub all_rising : (def : Key → Option Def) (us : List Key) → AreRising (definitions_from def 1 us)
all_rising def us =
    (each_definition (λ d. 1 ≤ d.0) def 1 (1 + length us) us (omega arith) (λ s u d above below is. above), symbols_rise def 1 us)

-- ---- names of pairs are there

first_part : (e f : Expr) → are_same_constant e f ≡ true → e.sym ≡ 0
first_part e f is = (Decides-eqb e.sym 0).0 (and_parts (e.sym == 0) (f.sym == 0 && int_eq e.k f.k) is).0

placed : (pairs : Pairing) (k : ℤ) (u : Key) (found : Option ℕ) (g : Expr) → position (same_key u) pairs.keys ≡ found → named_at pairs k found ≡ Some g
    → g.sym ≤ length pairs.keys
placed pairs k u None g at is = absurd cc
placed pairs k u (Some place) g at is = by (nat_lt place 4294967295) is
  where
    by : (few : Bool) → (if few then fitting (place + 1) (k -ℤ (get_or pairs.keys place origin).first) else None) ≡ Some g → g.sym ≤ length pairs.keys
    by true made =
        let g_is : record { sym = place + 1; k = k -ℤ (get_or pairs.keys place origin).first } ≡ g = fitting_is (place + 1) (k -ℤ (get_or pairs.keys place origin).first) g _ made in
        subst (λ (e : Expr). e.sym ≤ length pairs.keys) g_is (omega (arith, (position-Some (same_key u) pairs.keys place origin at).0))
    by false made = absurd cc

pub paired_there : (pairs : Pairing) (e f g : Expr) → paired_expr pairs e f ≡ Some g → g.sym ≤ length pairs.keys
paired_there pairs e f g is = by (are_same_constant e f) refl is
  where
    by : (constant : Bool) → are_same_constant e f ≡ constant → (if constant then Some e else named_at pairs e.k (position (same_key (use_of e f)) pairs.keys)) ≡ Some g
        → g.sym ≤ length pairs.keys
    by true constant made = subst (λ (x : Expr). x.sym ≤ length pairs.keys) (same_some e g made) (subst (λ n. n ≤ length pairs.keys) (sym (first_part e f constant)) (omega arith))
    by false constant made = placed pairs e.k (use_of e f) (position (same_key (use_of e f)) pairs.keys) g refl made

pub reference_there : (references : Pairing) (r q p : ℕ) → paired_reference references r q ≡ Some p → p ≤ length references.keys
reference_there references r q p is = by (paired_expr references (as_expr r) (as_expr q)) refl is
  where
    by : (name : Option Expr) → paired_expr references (as_expr r) (as_expr q) ≡ name → symbol_of name ≡ Some p → p ≤ length references.keys
    by None at made = absurd cc
    by (Some e) at made = subst (λ n. n ≤ length references.keys) (same_some e.sym p made) (paired_there references (as_expr r) (as_expr q) e at)

-- What a definition names is there, of so many symbols and references.
pub record IsThere (symbols references : ℕ) (def : Def) : Type 0 where
  pub names : Names symbols def
  pub tests : TestsOf references def

both_there : (symbols references : ℕ) (make : Expr → Expr → Def) (a b : Option Expr) (def : Def)
    → ((x y : Expr) → x.sym ≤ symbols → y.sym ≤ symbols → IsThere symbols references (make x y)) → ((x : Expr) → a ≡ Some x → x.sym ≤ symbols)
    → ((y : Expr) → b ≡ Some y → y.sym ≤ symbols) → of_both make a b ≡ Some def → IsThere symbols references def
both_there symbols references make None b def says first second is = absurd cc
both_there symbols references make (Some x) None def says first second is = absurd cc
both_there symbols references make (Some x) (Some y) def says first second is =
    subst (IsThere symbols references) (same_some (make x y) def is) (says x y (first x refl) (second y refl))

test_there : (symbols references : ℕ) (name : Option ℕ) (is : Bool) (def : Def) → ((q : ℕ) → name ≡ Some q → q ≤ references) → null_test name is ≡ Some def
    → IsThere symbols references def
test_there symbols references None is def there made = absurd cc
test_there symbols references (Some q) is def there made =
    subst (IsThere symbols references) (same_some (NullTest q is) def made) (record { names = tt; tests = there q refl })

flag_of : (a b : Bool) (made : Option Def) (def : Def) → where_same a b made ≡ Some def → made ≡ Some def
flag_of true true made def is = is
flag_of true false made def is = absurd cc
flag_of false true made def is = absurd cc
flag_of false false made def is = is

pub common_there : (pairs references : Pairing) (a b new : Def) → paired_def pairs references a b ≡ Some new → IsThere (length pairs.keys) (length references.keys) new
common_there pairs references (Eq x y) (Eq z w) new is =
    both_there _ _ (λ e f. Eq e f) (paired_expr pairs x z) (paired_expr pairs y w) new (λ e f first second. record { names = (first, second); tests = tt })
    (λ g at. paired_there pairs x z g at) (λ g at. paired_there pairs y w g at) is
common_there pairs references (Lt x y) (Lt z w) new is =
    both_there _ _ (λ e f. Lt e f) (paired_expr pairs x z) (paired_expr pairs y w) new (λ e f first second. record { names = (first, second); tests = tt })
    (λ g at. paired_there pairs x z g at) (λ g at. paired_there pairs y w g at) is
common_there pairs references (LtUn x y) (LtUn z w) new is =
    both_there _ _ (λ e f. LtUn e f) (paired_expr pairs x z) (paired_expr pairs y w) new (λ e f first second. record { names = (first, second); tests = tt })
    (λ g at. paired_there pairs x z g at) (λ g at. paired_there pairs y w g at) is
common_there pairs references (Sub x y) (Sub z w) new is =
    both_there _ _ (λ e f. Sub e f) (paired_expr pairs x z) (paired_expr pairs y w) new (λ e f first second. record { names = (first, second); tests = tt })
    (λ g at. paired_there pairs x z g at) (λ g at. paired_there pairs y w g at) is
common_there pairs references (NullTest r flag) (NullTest q also) new is =
    test_there _ _ (paired_reference references r q) flag new (λ p at. reference_there references r q p at)
    (flag_of flag also (null_test (paired_reference references r q) flag) new is)
common_there pairs references _ _ new is = absurd cc

pub both_def_there : (frames : FramePairing) (a b : List (ℕ × Def)) (u : Key) (new : Def) → def_of_both frames a b u ≡ Some new
    → IsThere (length frames.numbers.keys) (length frames.references.keys) new
both_def_there frames a b u new is = by (is_of_symbols u) is
  where
    common : (x y : Option Def) → common_def frames x y ≡ Some new → IsThere (length frames.numbers.keys) (length frames.references.keys) new
    common None y made = absurd cc
    common (Some x) None made = absurd cc
    common (Some x) (Some y) made = common_there frames.numbers frames.references x y new made

    by : (alone : Bool) → (if alone then common_def frames (definition_at a u.s) (definition_at b u.t) else None) ≡ Some new
        → IsThere (length frames.numbers.keys) (length frames.references.keys) new
    by true made = common (definition_at a u.s) (definition_at b u.t) made
    by false made = absurd cc

-- ---- variables

-- The symbol is there, and the constant near.
pub numbers_there : (symbols : ℕ) (exprs : List Expr) → AllByRecursion (λ (e : Expr). e.sym ≤ symbols) exprs → list_all is_near exprs ≡ true
    → AllByRecursion (IsNumber symbols) exprs
numbers_there symbols [] there near = tt
numbers_there symbols (e ∷ exprs) there near =
    let parts = and_parts (is_near e) (list_all is_near exprs) near in
    let ends = and_parts (int_le (negsuc 4294967295) e.k) (int_le e.k (pos 4294967296)) parts.0 in (
      record { there = there.0; near = record { least = le_of (negsuc 4294967295) e.k ends.0; greatest = le_of e.k (pos 4294967296) ends.1 } },
      numbers_there symbols exprs there.1 parts.1,
    )
  where
    le_of : (m n : ℤ) → int_le m n ≡ true → m ≤ℤ n
    le_of m n is = omega (arith, ints, is)

zero_there : (symbols : ℕ) → IsNumber symbols (record { sym = 0; k = pos 0 })
zero_there symbols = record { there = omega arith; near = record { least = omega (arith, ints); greatest = omega (arith, ints) } }

first_there : (symbols : ℕ) (exprs : List Expr) → AllByRecursion (IsNumber symbols) exprs → IsNumber symbols (first_expr exprs)
first_there symbols [] all = zero_there symbols
first_there symbols (e ∷ exprs) all = all.0

behind_there : (P : Expr → Type 0) (exprs : List Expr) → AllByRecursion P exprs → AllByRecursion P (behind exprs)
behind_there P [] all = tt
behind_there P (e ∷ exprs) all = all.1

first_reference : (references : ℕ) (exprs : List Expr) → AllByRecursion (λ (e : Expr). e.sym ≤ references) exprs → (first_expr exprs).sym ≤ references
first_reference references [] all = omega arith
first_reference references (e ∷ exprs) all = all.0

pub vars_there : (symbols references : ℕ) (ns rs : List Expr) (vs : List Var) → AllByRecursion (IsNumber symbols) ns
    → AllByRecursion (λ (e : Expr). e.sym ≤ references) rs → AllByRecursion (IsVar symbols references) (new_vars ns rs vs)
vars_there symbols references ns rs [] numbers arrays = tt
vars_there symbols references ns rs (vars.Number e ∷ vs) numbers arrays =
    (first_there symbols ns numbers, vars_there symbols references (behind ns) rs vs (behind_there (IsNumber symbols) ns numbers) arrays)
vars_there symbols references ns rs (vars.Reference r ∷ vs) numbers arrays =
    (first_reference references rs arrays, vars_there symbols references ns (behind rs) vs numbers (behind_there (λ (e : Expr). e.sym ≤ references) rs arrays))
vars_there symbols references ns rs (vars.Text ∷ vs) numbers arrays = (tt, vars_there symbols references ns rs vs numbers arrays)
vars_there symbols references ns rs (vars.Address r e ∷ vs) numbers arrays = (
  (first_reference references rs arrays, first_there symbols ns numbers),
  vars_there symbols references (behind ns) (behind rs) vs (behind_there (IsNumber symbols) ns numbers) (behind_there (λ (e : Expr). e.sym ≤ references) rs arrays),
)

-- ---- pairs

inserted_all : (P : Pair → Type 0) (p : Pair) (pairs : List Pair) → P p → AllByRecursion P pairs → AllByRecursion P (inserted p pairs)
inserted_all P p [] own all = (own, tt)
inserted_all P p (x ∷ pairs) own all = step (comes_before x p) (same_pair p x) (inserted_all P p pairs own all.1)
  where
    step : (before same : Bool) → AllByRecursion P (inserted p pairs) → AllByRecursion P (if before then x ∷ inserted p pairs else (if same then x ∷ pairs else p ∷ x ∷ pairs))
    step true same rest = (all.0, rest)
    step false true rest = all
    step false false rest = (own, all)

ordered_upto : (count r q : ℕ) → r ≤ count → q ≤ count → EndsBy count (ordered r q)
ordered_upto count r q first second = by (nat_lt q r)
  where
    by : (less : Bool) → EndsBy count (if less then (q, r) else (r, q))
    by true = (second, first)
    by false = (first, second)

test_upto : (count : ℕ) (test : ℕ → ℕ → Bool) (higher lower : ℕ) (pairs : List Pair) → higher ≤ count → lower ≤ count → AllByRecursion (EndsBy count) pairs
    → AllByRecursion (EndsBy count) (with_test test higher pairs lower)
test_upto count test higher lower pairs first second all = by (test lower higher) (is_proper (ordered lower higher))
  where
    by : (told proper : Bool) → AllByRecursion (EndsBy count) (if told then (if proper then inserted (ordered lower higher) pairs else pairs) else pairs)
    by true true = inserted_all (EndsBy count) (ordered lower higher) pairs (ordered_upto count lower higher second first) all
    by true false = all
    by false proper = all

row_upto : (count : ℕ) (test : ℕ → ℕ → Bool) (higher from n : ℕ) (pairs : List Pair) → higher ≤ count → from + n ≤ suc count → AllByRecursion (EndsBy count) pairs
    → AllByRecursion (EndsBy count) (fold (with_test test higher) pairs (range_with_len from n))
row_upto count test higher from zero pairs upto within all = all
row_upto count test higher from (suc n) pairs upto within all =
    row_upto count test higher (from + 1) n (with_test test higher pairs from) upto (omega (arith, within))
    (test_upto count test higher from pairs upto (omega (arith, within)) all)

rows_upto : (count : ℕ) (test : ℕ → ℕ → Bool) (from n : ℕ) (pairs : List Pair) → from + n ≤ suc count → AllByRecursion (EndsBy count) pairs
    → AllByRecursion (EndsBy count) (fold (with_row test) pairs (range_with_len from n))
rows_upto count test from zero pairs within all = all
rows_upto count test from (suc n) pairs within all =
    rows_upto count test (from + 1) n (with_row test pairs from) (omega (arith, within))
    (row_upto count test from 1 (from - 1) pairs (omega (arith, within)) (omega (arith, within)) all)

-- Pairs name no reference beyond the last.
pub pairs_upto : (test : ℕ → ℕ → Bool) (count : ℕ) → AllByRecursion (EndsBy count) (pairs_by test count)
pairs_upto test count = rows_upto count test 1 count [] (omega arith) tt

-- ---- definitions of one state in new names

own_there : (pairs : Pairing) (count s : ℕ) (name : Expr) → get_or (own_names pairs count) s None ≡ Some name → name.sym ≤ length pairs.keys
own_there pairs count s name at =
    elim (cases_lt s count) [
      | inl below ↦
          paired_there pairs (as_expr s) (as_expr s) name (sym (get_or-map-range_with_len (own_name pairs) 0 count s s None below (zero_more s)) ∙ at)
      | inr past ↦
          none_is (sym (get_or_past (own_names pairs count) s None (omega (arith, past, length-map-range_with_len (own_name pairs) 0 count))) ∙ at)
    ]
  where
    zero_more : (n : ℕ) → 0 + n ≡ n
    zero_more n = omega arith

    none_is : None ≡ Some name → name.sym ≤ length pairs.keys
    none_is is = absurd cc

moved_there : (count : ℕ) (name : Option Expr) (k : ℤ) (g : Expr) → ((x : Expr) → name ≡ Some x → x.sym ≤ count) → moved name k ≡ Some g → g.sym ≤ count
moved_there count None k g there is = absurd cc
moved_there count (Some x) k g there is =
    let g_is : record { sym = x.sym; k = x.k +ℤ k } ≡ g = fitting_is x.sym (x.k +ℤ k) g _ is in
    subst (λ (e : Expr). e.sym ≤ count) g_is (there x refl)

mapped_symbols : (names : List (Option Expr)) (r q : ℕ) → get_or (map symbol_of names) r None ≡ Some q → (count : ℕ)
    → ((name : Expr) → get_or names r None ≡ Some name → name.sym ≤ count) → q ≤ count
mapped_symbols [] r q at count there = absurd cc
mapped_symbols (None ∷ names) zero q at count there = absurd cc
mapped_symbols (Some e ∷ names) zero q at count there = subst (λ n. n ≤ count) (same_some e.sym q at) (there e refl)
mapped_symbols (name ∷ names) (suc r) q at count there = mapped_symbols names r q at count there

unless_there : (more : ℤ) (made : Option Def) (new : Def) (symbols references : ℕ) → (made ≡ Some new → IsThere symbols references new)
    → unless_more more made ≡ Some new → IsThere symbols references new
unless_there more made new symbols references there is = by (int_eq more (pos 0)) is
  where
    by : (zero_is : Bool) → (if zero_is then made else None) ≡ Some new → IsThere symbols references new
    by true it = there it
    by false it = absurd cc

module _ (pairs references : Pairing) (count many : ℕ) where
  name_there : (e g : Expr) → renamed (own_names pairs count) e ≡ Some g → g.sym ≤ length pairs.keys
  name_there e g is = moved_there (length pairs.keys) (get_or (own_names pairs count) e.sym None) e.k g (λ x at. own_there pairs count e.sym x at) is

  pub renamed_there : (more : ℤ) (def new : Def) → renamed_above more (own_names pairs count) (reference_names references many) def ≡ Some new
      → IsThere (length pairs.keys) (length references.keys) new
  renamed_there more (Eq x y) new is =
      unless_there more _ new _ _
      (λ made. both_there _ _ (λ e f. Eq e f) (renamed (own_names pairs count) x) (renamed (own_names pairs count) y) new
      (λ e f first second. record { names = (first, second); tests = tt }) (λ g at. name_there x g at) (λ g at. name_there y g at) made) is
  renamed_there more (Lt x y) new is =
      unless_there more _ new _ _
      (λ made. both_there _ _ (λ e f. Lt e f) (renamed (own_names pairs count) x) (renamed (own_names pairs count) y) new
      (λ e f first second. record { names = (first, second); tests = tt }) (λ g at. name_there x g at) (λ g at. name_there y g at) made) is
  renamed_there more (LtUn x y) new is =
      unless_there more _ new _ _
      (λ made. both_there _ _ (λ e f. LtUn e f) (renamed (own_names pairs count) x) (renamed (own_names pairs count) y) new
      (λ e f first second. record { names = (first, second); tests = tt }) (λ g at. name_there x g at) (λ g at. name_there y g at) made) is
  renamed_there more (NullTest r flag) new is =
      unless_there more _ new _ _
      (λ made. test_there _ _ (get_or (reference_names references many) r None) flag new
      (λ q at. mapped_symbols (own_names references many) r q at (length references.keys) (λ name found. own_there references many r name found)) made) is
  renamed_there more (Sub x y) new is =
      both_there _ _ (λ e f. Sub e f) (renamed_more (own_names pairs count) more x) (renamed (own_names pairs count) y) new
      (λ e f first second. record { names = (first, second); tests = tt })
      (λ g at. moved_there (length pairs.keys) (get_or (own_names pairs count) x.sym None) (x.k +ℤ more) g (λ n found. own_there pairs count x.sym n found) at)
      (λ g at. name_there y g at) is

pub one_def_there : (frames : FramePairing) (symbols references : ℕ) (definitions : List (ℕ × Def)) (u : Key) (new : Def)
    → def_of_one frames symbols references definitions u ≡ Some new → IsThere (length frames.numbers.keys) (length frames.references.keys) new
one_def_there frames symbols references definitions u new is = by (definition_at definitions u.s) is
  where
    by : (def : Option Def)
        → option_and_then (renamed_above u.first (own_names frames.numbers symbols) (reference_names frames.references references)) def ≡ Some new
        → IsThere (length frames.numbers.keys) (length frames.references.keys) new
    by None made = absurd cc
    by (Some def) made = renamed_there frames.numbers frames.references symbols references u.first def new made
