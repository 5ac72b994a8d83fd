-- Ranges that are put one behind another.
use Rattle.std.proofs.Common.{◌≡◌, ℕ, suc, ◌+◌, ◌<◌, ◌≤◌, List, [], ◌∷◌, ◌++◌, length, get_or, drop, drop-cons, add-one, Option, Some, None, refl, sym, ap, ◌∙◌}
use Rattle.std.specs.Prelude.{option_map}
use Rattle.std.proofs.lemmas.List.{drop_all, append-nil, append_assoc}
use Rattle.interval_domain.specs.Interval.{Interval}
use Rattle.number_spans.specs.declared.span.Span.{Span}
use Rattle.symbolic_values.specs.declared.pairs.Key.{Key}
use Rattle.merged_numbers.specs.Spans.{stored}
use Rattle.merged_numbers.specs.Merging.{put_before, ranges_of}

-- The ranges so far, and then the rest, if each has one.
abbrev pub behind : List Interval → Option (List Interval) → Option (List Interval)
behind so_far rest = option_map (λ rs. so_far ++ rs) rest

split_off : (span : Key → Span) (keys : List Key) (i : ℕ) (d : Key) → i < length keys
    → ranges_of span (drop i keys) ≡ put_before (stored (span (get_or keys i d))) (ranges_of span (drop (i + 1) keys))
split_off span keys i d inside =
    let split : drop i keys ≡ get_or keys i d ∷ drop (suc i) keys = drop-cons keys i d inside in
    rw add-one (ap (ranges_of span) split)

moved_over : (out : List Interval) (r : Interval) (rest : Option (List Interval)) → behind out (put_before (Some r) rest) ≡ behind (out ++ r ∷ []) rest
moved_over out r None = refl
moved_over out r (Some rs) = ap Some (sym (append_assoc out (r ∷ []) rs))

pub range_more : (span : Key → Span) (keys : List Key) (i : ℕ) (out : List Interval) (r : Interval) (d : Key) (whole : Option (List Interval)) → i < length keys
    → stored (span (get_or keys i d)) ≡ Some r → behind out (ranges_of span (drop i keys)) ≡ whole
    → behind (out ++ r ∷ []) (ranges_of span (drop (i + 1) keys)) ≡ whole
range_more span keys i out r d whole inside here so_far =
    let split = split_off span keys i d inside in
    sym (moved_over out r (ranges_of span (drop (i + 1) keys)))
    ∙ ap (λ o. behind out (put_before o (ranges_of span (drop (i + 1) keys)))) (sym here) ∙ ap (behind out) (sym split) ∙ so_far

pub range_missing : (span : Key → Span) (keys : List Key) (i : ℕ) (out : List Interval) (d : Key) (whole : Option (List Interval)) → i < length keys
    → stored (span (get_or keys i d)) ≡ None → behind out (ranges_of span (drop i keys)) ≡ whole → None ≡ whole
range_missing span keys i out d whole inside here so_far =
    let split = split_off span keys i d inside in
    ap (λ o. behind out (put_before o (ranges_of span (drop (i + 1) keys)))) (sym here) ∙ ap (behind out) (sym split) ∙ so_far

pub range_end : (span : Key → Span) (keys : List Key) (i : ℕ) (out : List Interval) (whole : Option (List Interval)) → length keys ≤ i
    → behind out (ranges_of span (drop i keys)) ≡ whole → Some out ≡ whole
range_end span keys i out whole past so_far =
    let none : drop i keys ≡ [] = drop_all i keys past in
    ap Some (sym (append-nil out)) ∙ ap (λ ks. behind out (ranges_of span ks)) (sym none) ∙ so_far

-- There are as many as there are keys.
put_length : (r : Option Interval) (rest : Option (List Interval)) (n : ℕ) (rs : List Interval) → ((more : List Interval) → rest ≡ Some more → length more ≡ n)
    → put_before r rest ≡ Some rs → length rs ≡ suc n
put_length None rest n rs so is = absurd cc
put_length (Some r) None n rs so is = absurd cc
put_length (Some r) (Some more) n rs so is = ap length (same is) ∙ ap suc (so more refl)
  where
    same : Some (r ∷ more) ≡ Some rs → rs ≡ r ∷ more
    same e = cc

pub ranges_length : (span : Key → Span) (keys : List Key) (rs : List Interval) → ranges_of span keys ≡ Some rs → length rs ≡ length keys
ranges_length span [] rs is = ap length (same is)
  where
    same : Some [] ≡ Some rs → rs ≡ []
    same e = cc
ranges_length span (u ∷ us) rs is = put_length (stored (span u)) (ranges_of span us) (length us) rs (λ more told. ranges_length span us more told) is

pub ruleset all_ranges = (range_more, range_missing, range_end)
