-- A result of which something is known is kept.
use Rattle.std.proofs.Common.{◌≡◌, ℕ, ◌+◌, ℤ, pos, negsuc, ◌+ℤ◌, ◌≤ℤ◌, Bool, true, ◌&&◌, int_le, Option, Some, None}
use Rattle.std.proofs.Common.{List, [], ◌∷◌, length, refl, sym, ◌∙◌, FitsSigned, w32, arith}
use Rattle.std.specs.Option.{option_map}
use Rattle.std.specs.Int.{int_min, int_max}
use Rattle.std.specs.List.{AllByRecursion}
use Rattle.std.proofs.lemmas.Int.{ints, clamps}
use Rattle.std.proofs.lemmas.Bool.{cond_both}
use Rattle.domain_api.specs.declared.expr.Expr.{Expr}
use Rattle.cil_model.specs.Arithmetic.{LEAST, GREATEST}
use Rattle.interval_domain.specs.Interval.{Interval}
use Rattle.symbolic_values.specs.Meaning.{told}
use Rattle.symbolic_values.specs.Worth.{worth}
use Rattle.number_spans.specs.Spans.{Has}
use Rattle.number_spans.specs.Stored.{SomeAllows, range_without}
use Rattle.number_spans.proofs.Lost.{range_without_allows}
use Rattle.number_facts.specs.Arith.{is_kept, no_more, settled, where_so}
use Rattle.number_facts.specs.Facts.{Facts, AreNarrow, IsNamed}
use Rattle.number_facts.specs.Fresh.{expr_made, facts_made, fresh, noted}
use Rattle.number_facts.specs.Holds.{AreNamed, Holds, IsRelated, YieldsSome, is_below}
use Rattle.number_facts.specs.declared.outcome.Outcome.{Outcome}
use Rattle.number_facts.specs.declared.outcome.Outcome.TheVariants.{Is, Within}
use Rattle.number_facts.specs.declared.relation.Relation.{Relation}
use Rattle.number_facts.specs.declared.relation.Relation.TheVariants as known
use Rattle.number_facts.proofs.Small.{narrow_range}
use Rattle.number_facts.proofs.ResultNames.{NamesIt, NamesSymbols, NameSymbols}
use Rattle.number_facts.proofs.NewSymbols.{with_number, as_before, new_number, noted_holds, same_told}

-- All that is known is so of these numbers, and speaks of symbols that are there.
pub record Knows (facts : Facts) (number : ℕ → ℤ) (is_null : ℕ → Bool) : Type 0 where
  pub holds : Holds facts number is_null
  pub named : AreNamed facts

-- ---- relations

-- What else is known of a symbol is so where it is worth n.
abbrev pub IsTrueOf : (ℕ → ℤ) → (ℕ → Bool) → ℤ → Relation → Type 0
IsTrueOf number is_null n (known.AtLeast s k) = (number s +ℤ k) ≤ℤ n
IsTrueOf number is_null n (known.AtMost s k) = n ≤ℤ (number s +ℤ k)
IsTrueOf number is_null n (known.Is def) = n ≡ told is_below number is_null def

abbrev pub AreTrueOf : (ℕ → ℤ) → (ℕ → Bool) → ℤ → List Relation → Type 0
AreTrueOf number is_null n relations = AllByRecursion (IsTrueOf number is_null n) relations

-- so they are of a new symbol that is worth n
is_related : (count : ℕ) (number : ℕ → ℤ) (is_null : ℕ → Bool) (n : ℤ) (r : Relation) → NamesSymbols count r
    → IsTrueOf number is_null n r → IsRelated (with_number number (count + 1) n) is_null (count + 1) r
is_related count number is_null n (known.AtLeast s k) there so =
    let old = as_before number count n s there in let new = new_number number (count + 1) n in
    omega (arith, ints, old, new, so)
is_related count number is_null n (known.AtMost s k) there so =
    let old = as_before number count n s there in let new = new_number number (count + 1) n in
    omega (arith, ints, old, new, so)
is_related count number is_null n (known.Is def) there so =
    new_number number (count + 1) n ∙ so ∙ sym
    (same_told number (with_number number (count + 1) n) is_null count def there (as_before number count n))

are_related : (count : ℕ) (number : ℕ → ℤ) (is_null : ℕ → Bool) (n : ℤ) (rs : List Relation)
    → AllByRecursion (NamesSymbols count) rs → AreTrueOf number is_null n rs
    → AllByRecursion (IsRelated (with_number number (count + 1) n) is_null (count + 1)) rs
are_related count number is_null n [] there so = tt
are_related count number is_null n (r ∷ rs) there so =
    (is_related count number is_null n r there.0 so.0, are_related count number is_null n rs there.1 so.1)

pub true_of_same : (number : ℕ → ℤ) (is_null : ℕ → Bool) (n same : ℤ) (rs : List Relation) → same ≡ n
    → AreTrueOf number is_null n rs → AreTrueOf number is_null same rs
true_of_same number is_null n same rs is so = rw is so

pub where_true : (number : ℕ → ℤ) (is_null : ℕ → Bool) (n : ℤ) (b : Bool) (rs : List Relation)
    → (b ≡ true → AreTrueOf number is_null n rs) → AreTrueOf number is_null n (where_so b rs)
where_true number is_null n b rs so = cond_both b _ _ (AreTrueOf number is_null n) so (λ e. tt)

pub no_more_true : (number : ℕ → ℤ) (is_null : ℕ → Bool) (n : ℤ) (e : Expr) (less : ℤ) → (n +ℤ less) ≤ℤ worth number e
    → AreTrueOf number is_null n (no_more e less)
no_more_true number is_null n e less le = (omega (arith, ints, le), tt)

-- ---- results

-- What is known of a result is true of n.
abbrev pub Covers : (ℕ → ℤ) → Outcome → ℤ → Type 0
Covers number (Is e) n = worth number e ≡ n
Covers number (Within r) n = Has r n

noted_some : (facts : Facts) (number : ℕ → ℤ) (is_null : ℕ → Bool) (o : Option Interval) (relations : List Relation)
    (n : ℤ) → Knows facts number is_null → SomeAllows o n → NameSymbols facts relations
    → AreTrueOf number is_null n relations
    → YieldsSome facts (facts_made facts (option_map (λ r. noted facts r relations) o)) number is_null
    (expr_made (option_map (λ r. noted facts r relations) o)) n
noted_some facts number is_null None relations n knows allowed there so = elim allowed [ ]
noted_some facts number is_null (Some r) relations n knows allowed there so =
    noted_holds facts number is_null r relations n knows.holds knows.named allowed
    (are_related (length facts.ranges) number is_null n relations there so)

fresh_result : (facts : Facts) (number : ℕ → ℤ) (is_null : ℕ → Bool) (lo hi : ℤ) (relations : List Relation) (n : ℤ)
    → Knows facts number is_null → FitsSigned w32 n → lo ≤ℤ n → n ≤ℤ hi → NameSymbols facts relations
    → AreTrueOf number is_null n relations
    → YieldsSome facts (facts_made facts (fresh facts lo hi None relations)) number is_null
    (expr_made (fresh facts lo hi None relations)) n
unfolding fresh
fresh_result facts number is_null lo hi relations n knows fits above below there so =
    noted_some facts number is_null (range_without (int_max lo LEAST) (int_min hi GREATEST) None) relations n knows
    (range_without_allows (int_max lo LEAST) (int_min hi GREATEST) n None (omega (arith, ints, clamps, fits, above))
    (omega (arith, ints, clamps, fits, below)) (λ is. absurd cc)) there so

small : (m k n : ℤ) → m +ℤ k ≡ n → FitsSigned w32 n → LEAST ≤ℤ m → m ≤ℤ GREATEST
    → (int_le (negsuc 4294967295) k && int_le k (pos 4294967296)) ≡ true
small m k n is fits least greatest = grind (arith, ints, is, fits, least, greatest)

-- the constant of a result is small, since its symbol and the result are int32
kept : (facts : Facts) (number : ℕ → ℤ) (is_null : ℕ → Bool) (e : Expr) (n : ℤ) → Knows facts number is_null
    → AreNarrow facts → IsNamed facts e → worth number e ≡ n → FitsSigned w32 n → is_kept e ≡ true
kept facts number is_null e n knows all there is fits =
    let own = knows.holds.allowed.ranges e.sym there in
    let narrow = narrow_range facts e.sym all in
    small (number e.sym) e.k n is fits (omega (arith, ints, narrow.least, own.above))
    (omega (arith, ints, narrow.greatest, own.below))

-- A result of which this is known is kept.
pub settled_keeps : (facts : Facts) (number : ℕ → ℤ) (is_null : ℕ → Bool) (o : Outcome) (relations : List Relation)
    (n : ℤ) → Knows facts number is_null → AreNarrow facts → FitsSigned w32 n → NamesIt facts o → Covers number o n
    → NameSymbols facts relations → AreTrueOf number is_null n relations
    → YieldsSome facts (facts_made facts (settled facts o relations)) number is_null
    (expr_made (settled facts o relations)) n
unfolding settled
settled_keeps facts number is_null (Is e) relations n knows all fits is_there covers there so =
    rw (kept facts number is_null e n knows all is_there covers fits)
    (record { later = number; agrees = λ s there. refl; holds = knows.holds; is = covers })
settled_keeps facts number is_null (Within r) relations n knows all fits is_there covers there so =
    fresh_result facts number is_null r.lo r.hi relations n knows fits covers.above covers.below there so
