-- Contents are formed where more symbols are there, and behind further references, stores and calls.
use Rattle.std.proofs.Common.{◌≡◌, ℕ, zero, suc, ◌≤◌, Bool, true, false, List, [], ◌∷◌, ◌++◌, length, get_or, set, slice_get, Option, None, Some, arith, refl, sym, subst, ap}
use Rattle.std.specs.List.{AllByRecursion}
use Rattle.domain_api.specs.declared.expr.Expr.{Expr}
use Rattle.array_segments.specs.Loading.{start, stop}
use Rattle.array_segments.specs.SegmentLists.{Has, HasForm, whole}
use Rattle.array_segments.specs.Storing.{replaced, strongly_stored, weakly_stored}
use Rattle.array_segments.proofs.EndLaw.{last_added, last_stored}
use Rattle.array_segments.proofs.LimitLaw.{limited_form}
use Rattle.array_segments.proofs.StoreSteps.{added_form, changed_length, replaced_counted}
use Rattle.array_segments.proofs.WholeLaw.{whole_form}
use Rattle.interval_domain.specs.Interval.{Interval}
use Rattle.interval_domain.specs.Joins.{full, hull}
use Rattle.number_spans.specs.Stored.{IsNarrow}
use Rattle.array_contents.specs.Contents.{AreFormed, Contents, IsFormed, Segments, of_null}
use Rattle.array_contents.specs.Storing.{Gaps, forgotten, forgotten_one, stored, strongly_at, weakly_each, weakly_one}
use Rattle.array_contents.specs.declared.forgetting.Unknown.{Unknown}
use Rattle.array_contents.proofs.NamedBounds.{AreNamed, each_weaker, stored_named}
use Rattle.array_contents.proofs.NarrowContents.{strong_narrow, weak_narrow}

-- ---- each reference

pub formed_each : (symbols : ℕ) (lengths : List Expr) (contents : Contents) → AreFormed symbols lengths contents
    → AllByRecursion HasForm contents
formed_each symbols [] [] formed = tt
formed_each symbols [] (one ∷ contents) formed = absurd formed
formed_each symbols (e ∷ lengths) [] formed = absurd formed
formed_each symbols (e ∷ lengths) (one ∷ contents) formed =
    (formed.0.form, formed_each symbols lengths contents formed.1)

pub formed_length : (symbols : ℕ) (lengths : List Expr) (contents : Contents) → AreFormed symbols lengths contents
    → length lengths ≡ length contents
formed_length symbols [] [] formed = refl
formed_length symbols [] (one ∷ contents) formed = absurd formed
formed_length symbols (e ∷ lengths) [] formed = absurd formed
formed_length symbols (e ∷ lengths) (one ∷ contents) formed = ap suc (formed_length symbols lengths contents formed.1)

-- The segments of a reference are formed for some length.
pub formed_at : (symbols : ℕ) (lengths : List Expr) (contents : Contents) → AreFormed symbols lengths contents
    → (i : ℕ) (one : Segments) → slice_get contents i ≡ Some one → (e : Expr) × IsFormed symbols e one
formed_at symbols [] [] formed i one is = absurd (cc)
formed_at symbols [] (first ∷ contents) formed i one is = absurd formed
formed_at symbols (e ∷ lengths) [] formed i one is = absurd formed
formed_at symbols (e ∷ lengths) (first ∷ contents) formed zero one is =
    let same : first ≡ one = cc in (e, subst (IsFormed symbols e) same formed.0)
formed_at symbols (e ∷ lengths) (first ∷ contents) formed (suc i) one is =
    formed_at symbols lengths contents formed.1 i one is

-- ---- more symbols, and one reference more

one_grows : (symbols more : ℕ) (e : Expr) (one : Segments) → symbols ≤ more → IsFormed symbols e one
    → IsFormed more e one
one_grows symbols more e one order formed = record {
  form = formed.form;
  ends = formed.ends;
  named = each_weaker (AreNamed symbols) (AreNamed more)
      (each_weaker (λ expr. expr.sym ≤ symbols) (λ expr. expr.sym ≤ more) (λ expr there. omega arith)) one.bounds
      formed.named;
  narrow = formed.narrow;
}

pub formed_grows : (symbols more : ℕ) (lengths : List Expr) (contents : Contents) → symbols ≤ more
    → AreFormed symbols lengths contents → AreFormed more lengths contents
formed_grows symbols more [] [] order formed = tt
formed_grows symbols more [] (one ∷ contents) order formed = absurd formed
formed_grows symbols more (e ∷ lengths) [] order formed = absurd formed
formed_grows symbols more (e ∷ lengths) (one ∷ contents) order formed =
    (one_grows symbols more e one order formed.0, formed_grows symbols more lengths contents order formed.1)

pub pushed_formed : (symbols : ℕ) (lengths : List Expr) (contents : Contents) (e : Expr) (one : Segments)
    → AreFormed symbols lengths contents → IsFormed symbols e one
    → AreFormed symbols (lengths ++ e ∷ []) (contents ++ one ∷ [])
pushed_formed symbols [] [] e one formed last = (last, tt)
pushed_formed symbols [] (first ∷ contents) e one formed last = absurd formed
pushed_formed symbols (end ∷ lengths) [] e one formed last = absurd formed
pushed_formed symbols (end ∷ lengths) (first ∷ contents) e one formed last =
    (formed.0, pushed_formed symbols lengths contents e one formed.1 last)

pub whole_formed : (symbols : ℕ) (e : Expr) (range : Interval) (may_be_empty : Bool) → e.sym ≤ symbols
    → IsNarrow range → IsFormed symbols e (whole e range may_be_empty)
whole_formed symbols e range may_be_empty there narrow = record {
  form = whole_form e range may_be_empty;
  ends = (0, omega arith, refl);
  named = ((omega arith, tt), ((there, tt), tt));
  narrow = (narrow, tt);
}

-- ---- stores

module _ (gap : Gaps) (symbols : ℕ) (at : Expr) (value : Interval) (is_narrow : IsNarrow value) where
  strong_formed : at.sym ≤ symbols → (e : Expr) (one : Segments) → IsFormed symbols e one
      → IsFormed symbols e (strongly_stored hull full gap one at value)
  strong_formed there e one formed = record {
    form = limited_form hull (replaced hull full gap one at value (start gap one at) (stop gap one at))
        (replaced_counted hull full gap one at value formed.form);
    ends = subst (Has e) (sym (last_stored hull full gap one at value formed.form)) formed.ends;
    named = stored_named hull symbols full gap one at value there formed.named;
    narrow = strong_narrow gap one at value is_narrow formed.narrow;
  }

  set_formed : at.sym ≤ symbols → (lengths : List Expr) (contents : Contents) (i : ℕ)
      → AreFormed symbols lengths contents
      → AreFormed symbols lengths (set contents i (strongly_stored hull full gap (get_or contents i of_null) at value))
  set_formed there [] [] i formed = tt
  set_formed there [] (one ∷ contents) i formed = absurd formed
  set_formed there (e ∷ lengths) [] i formed = absurd formed
  set_formed there (e ∷ lengths) (one ∷ contents) zero formed = (strong_formed there e one formed.0, formed.1)
  set_formed there (e ∷ lengths) (one ∷ contents) (suc i) formed =
      (formed.0, set_formed there lengths contents i formed.1)

  strongly_formed : at.sym ≤ symbols → (lengths : List Expr) (contents : Contents) (r : ℕ)
      → AreFormed symbols lengths contents → AreFormed symbols lengths (strongly_at gap r at value contents)
  strongly_formed there lengths contents zero formed = formed
  strongly_formed there lengths contents (suc i) formed = set_formed there lengths contents i formed

  weak_formed : (e : Expr) (one : Segments) (may_be : Bool) → IsFormed symbols e one
      → IsFormed symbols e (weakly_one gap at value may_be one)
  weak_formed e one false formed = formed
  weak_formed e one true formed = record {
    form = added_form one (weakly_stored hull gap one at value) refl
        (changed_length (λ content. hull content value) (start gap one at) (stop gap one at) one.contents) refl
        formed.form;
    ends = subst (Has e) (sym (last_added hull gap one at value)) formed.ends;
    named = formed.named;
    narrow = weak_narrow gap one at value is_narrow formed.narrow;
  }

  weakly_formed : (others : List Bool) (lengths : List Expr) (contents : Contents)
      → AreFormed symbols lengths contents → AreFormed symbols lengths (weakly_each gap at value others contents)
  weakly_formed [] lengths contents formed = formed
  weakly_formed (may_be ∷ others) [] [] formed = tt
  weakly_formed (may_be ∷ others) [] (one ∷ contents) formed = absurd formed
  weakly_formed (may_be ∷ others) (e ∷ lengths) [] formed = absurd formed
  weakly_formed (may_be ∷ others) (e ∷ lengths) (one ∷ contents) formed =
      (weak_formed e one may_be formed.0, weakly_formed others lengths contents formed.1)

pub stored_formed : (gap : Gaps) (symbols : ℕ) (lengths : List Expr) (contents : Contents) (r : ℕ) (at : Expr)
    (value : Interval) (others : List Bool) → at.sym ≤ symbols → IsNarrow value
    → AreFormed symbols lengths contents
    → AreFormed symbols lengths (stored gap r at value others contents)
stored_formed gap symbols lengths contents r at value others there is_narrow formed =
    weakly_formed gap symbols at value is_narrow others lengths (strongly_at gap r at value contents)
    (strongly_formed gap symbols at value is_narrow there lengths contents r formed)

-- ---- calls

-- The range of what may have been changed is of int32.
abbrev pub HasNarrowItems : Option Unknown → Type 0
HasNarrowItems None = Unit {0}
HasNarrowItems (Some array) = IsNarrow array.items

forgotten_one_formed : (symbols : ℕ) (e : Expr) (one : Segments) (array : Option Unknown) → e.sym ≤ symbols
    → ((unknown : Unknown) → array ≡ Some unknown → unknown.length ≡ e) → HasNarrowItems array
    → IsFormed symbols e one → IsFormed symbols e (forgotten_one array one)
forgotten_one_formed symbols e one None there same narrow formed = formed
forgotten_one_formed symbols e one (Some array) there same narrow formed =
    subst (λ length. IsFormed symbols e (whole length array.items true)) (sym (same array refl))
    (whole_formed symbols e array.items true there narrow)

pub forgotten_formed : (symbols : ℕ) (lengths : List Expr) (contents : Contents) (arrays : List (Option Unknown))
    → AllByRecursion (λ e. e.sym ≤ symbols) lengths
    → ((i : ℕ) (e : Expr) (array : Unknown) → slice_get lengths i ≡ Some e → slice_get arrays i ≡ Some (Some array)
    → array.length ≡ e)
    → AllByRecursion HasNarrowItems arrays
    → AreFormed symbols lengths contents → AreFormed symbols lengths (forgotten arrays contents)
forgotten_formed symbols lengths contents [] there same narrow formed = formed
forgotten_formed symbols [] [] (array ∷ arrays) there same narrow formed = tt
forgotten_formed symbols [] (one ∷ contents) (array ∷ arrays) there same narrow formed = absurd formed
forgotten_formed symbols (e ∷ lengths) [] (array ∷ arrays) there same narrow formed = absurd formed
forgotten_formed symbols (e ∷ lengths) (one ∷ contents) (array ∷ arrays) there same narrow formed = (
  forgotten_one_formed symbols e one array there.0 (λ unknown is. same 0 e unknown refl (ap Some is)) narrow.0
      formed.0,
  forgotten_formed symbols lengths contents arrays there.1
      (λ i expr unknown is found. same (suc i) expr unknown is found) narrow.1 formed.1,
)
