-- The laws in the words of the contracts.
use Rattle.std.proofs.Common.{◌≡◌, ℕ, zero, suc, ◌<◌, ℤ, pos, negsuc, ◌+ℤ◌, Bool, true, false, ◌||◌, int_lt, List, [], ◌∷◌, length, get_or, drop, Option, None, Some, arith, refl, sym, subst, ap, ◌∙◌, if◌then◌else◌}
use Rattle.std.proofs.lemmas.Int.{ints}
use Rattle.std.specs.List.{filter_map}
use Rattle.domain_api.specs.declared.expr.Expr.{Expr}
use Rattle.symbolic_values.specs.Names.{moved, renamed}
use Rattle.array_segments.specs.Inclusion.{includes}
use Rattle.array_segments.specs.Meaning.{AreNames, AreWorth, Holds, Obeys, Spans, item, segments_of, worth, zipped}
use Rattle.array_segments.specs.Renaming.{renamed_lists}
use Rattle.array_segments.specs.SegmentLists.{Has, HasForm, Lists, last_bound}
use Rattle.array_segments.specs.Storing.{added, changed_between}
use Rattle.array_segments.proofs.InclusionLaw.{included_lists, member_worth}
use Rattle.array_segments.proofs.Laws.{segments_there}
use Rattle.array_segments.proofs.NameSteps.{last_bound_is}
use Rattle.array_segments.proofs.RenamingLaw.{renamed_law}
use Rattle.array_segments.proofs.Spans.{last_upper}

-- ---- a store to another array

module _ {C : Type 0} (contains : C → ℤ → Type 0) (number : ℕ → ℤ) (items : List ℤ) (change : C → C) (grows : (content : C) (n : ℤ) → contains content n → contains (change content) n) where
  grown_spans : (from to : ℕ) (uppers : List (List Expr)) (contents : List C) (marks : List Bool) (low high : ℤ) →
      Spans contains number items low (zipped uppers contents marks) high → Spans contains number items low (zipped uppers (changed_between change from to contents) marks) high
  grown_spans zero zero uppers contents marks low high all = all
  grown_spans zero (suc to) uppers [] marks low high all = all
  grown_spans zero (suc to) uppers (content ∷ contents) marks low high all = (
    all.0,
    record { ends = all.1.ends; order = all.1.order; rises = all.1.rises; covers = λ k above below. grows content (item items k) (all.1.covers k above below) },
    grown_spans zero to (drop 1 uppers) contents (drop 1 marks) all.0 high all.2,
  )
  grown_spans (suc from) zero uppers contents marks low high all = all
  grown_spans (suc from) (suc to) uppers [] marks low high all = all
  grown_spans (suc from) (suc to) uppers (content ∷ contents) marks low high all =
      (all.0, all.1, grown_spans from to (drop 1 uppers) contents (drop 1 marks) all.0 high all.2)

-- Where contents gain a value the segments hold as before.
pub grown_law : {C : Type 0} (contains : C → ℤ → Type 0) (number : ℕ → ℤ) (items : List ℤ) (hull : C → C → C) (keeps_left : (a b : C) (n : ℤ) → contains a n → contains (hull a b) n)
    (lists : Lists C) (value : C) (from to : ℕ) → Holds contains number items lists → Holds contains number items (added hull lists value from to)
grown_law contains number items hull keeps_left lists value from to holds = record {
  from_zero = holds.from_zero;
  spans = grown_spans contains number items (λ content. hull content value) (λ content n. keeps_left content value n) from to (drop 1 lists.bounds) lists.contents lists.marks
      (pos 0) (pos (length items)) holds.spans;
}

-- ---- other names

fitting_worth : (number : ℕ → ℤ) (outside : Bool) (symbol : ℕ) (k : ℤ) (new : Expr) → (if outside then None else Some (record { sym = symbol; k = k })) ≡ Some new → worth number new ≡ number symbol +ℤ k
fitting_worth number true symbol k new is = absurd (cc)
fitting_worth number false symbol k new is = let same : record { sym = symbol; k = k } ≡ new = cc in ap (worth number) (sym same)

moved_worth : (before number : ℕ → ℤ) (symbol : ℕ) (k : ℤ) (named : Option Expr) → ((name : Expr) → named ≡ Some name → worth number name ≡ before symbol) → (new : Expr) → moved named k ≡ Some new →
    worth number new ≡ before symbol +ℤ k
moved_worth before number symbol k None are new is = absurd (cc)
moved_worth before number symbol k (Some name) are new is =
    let same = fitting_worth number (int_lt (name.k +ℤ k) (negsuc 9223372036854775807) || int_lt (pos 9223372036854775807) (name.k +ℤ k)) name.sym (name.k +ℤ k) new is in
    let e = are name refl in
    omega (arith, ints)

-- An expression in other names is worth what it was.
pub renamed_worth : (names : List (Option Expr)) (before number : ℕ → ℤ) → AreNames names before number → (expr new : Expr) → renamed names expr ≡ Some new → worth number new ≡ worth before expr
renamed_worth names before number are expr new is = moved_worth before number expr.sym expr.k (get_or names expr.sym None) (are expr.sym) new is

pub renamed_keeps : {C : Type 0} (contains : C → ℤ → Type 0) (before number : ℕ → ℤ) (items : List ℤ) (hull : C → C → C)
    (keeps_left : (a b : C) (n : ℤ) → contains a n → contains (hull a b) n) (keeps_right : (a b : C) (n : ℤ) → contains b n → contains (hull a b) n)
    (names : List (Option Expr)) (lists : Lists C) → HasForm lists → 0 < length (filter_map (renamed names) (last_bound lists)) → AreNames names before number → Holds contains before items lists →
    Holds contains number items (renamed_lists hull (renamed names) lists)
renamed_keeps contains before number items hull keeps_left keeps_right names lists form ends are holds =
    renamed_law contains before number items hull keeps_left keeps_right (renamed names) (renamed_worth names before number are) lists holds
    (subst (λ bound. 0 < length (filter_map (renamed names) bound)) (last_bound_is lists form) ends)

-- ---- inclusion

included_lists_of : {C : Type 0} (contains : C → ℤ → Type 0) (within : C → C → Bool) (tells : (a b : C) (n : ℤ) → within a b ≡ true → contains a n → contains b n)
    (gap : ℕ → ℕ → Option ℤ) (number : ℕ → ℤ) (obeys : Obeys gap number) (other : ℕ → ℤ) (names : List (Option Expr)) (are : AreNames names other number) (items : List ℤ)
    (bounds : List (List Expr)) (contents : List C) (marks : List Bool) (theirs : Lists C) → HasForm (record { bounds = bounds; contents = contents; marks = marks }) → HasForm theirs →
    other 0 ≡ pos 0 → ((h : ℤ) → AreWorth other h (last_upper (get_or theirs.bounds 0 []) (segments_of theirs)) → h ≡ pos (length items)) →
    Holds contains number items (record { bounds = bounds; contents = contents; marks = marks }) →
    includes within gap names (record { bounds = bounds; contents = contents; marks = marks }) theirs ≡ true → Holds contains other items theirs
included_lists_of contains within tells gap number obeys other names are items [] contents marks theirs form their_form zero_is ends holds shown =
    let b = form.bounded in absurd (omega arith)
included_lists_of contains within tells gap number obeys other names are items (first ∷ uppers) contents marks theirs form their_form zero_is ends holds shown =
    included_lists contains within tells gap number obeys other names (λ symbol name is. sym (are symbol name is)) items first uppers contents marks
    (segments_there first uppers contents marks form) holds.from_zero holds.spans theirs.bounds theirs.contents theirs.marks their_form zero_is ends shown

pub included_law : {C : Type 0} (contains : C → ℤ → Type 0) (within : C → C → Bool) (tells : (a b : C) (n : ℤ) → within a b ≡ true → contains a n → contains b n)
    (gap : ℕ → ℕ → Option ℤ) (number : ℕ → ℤ) (obeys : Obeys gap number) (other : ℕ → ℤ) (names : List (Option Expr)) (are : AreNames names other number) (items : List ℤ)
    (mine theirs : Lists C) (end : Expr) → HasForm mine → HasForm theirs → other 0 ≡ pos 0 → Has end (last_bound theirs) → worth other end ≡ pos (length items) →
    Holds contains number items mine → includes within gap names mine theirs ≡ true → Holds contains other items theirs
included_law contains within tells gap number obeys other names are items mine theirs end form their_form zero_is has is holds shown =
    included_lists_of contains within tells gap number obeys other names are items mine.bounds mine.contents mine.marks theirs form their_form zero_is
    (λ h worths. sym (member_worth other h (last_bound theirs) end has.0 (subst (AreWorth other h) (sym (last_bound_is theirs their_form)) worths) has.1 has.2) ∙ is)
    holds shown
