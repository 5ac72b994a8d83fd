-- The form as a test, step by step, and that the test is the form.
use Rattle.std.proofs.Common.{◌≡◌, ◌≢◌, ◌↔◌, ℕ, suc, ◌+◌, ◌<◌, ◌≤◌, Bool, true, false, ◌&&◌, List, [], ◌∷◌, length, map, get_or, drop, IsTrue, refl, ap, sym, ◌∙◌}
use Rattle.std.specs.Prelude.{nat_le}
use Rattle.std.proofs.lemmas.Bool.{and_parts, false≢true, le-leb, leb-true}
use Rattle.std.proofs.lemmas.List.{drop_more}
use Rattle.std.specs.List.{AllByRecursion, list_all, list_any}
use Rattle.domain_api.specs.declared.expr.Expr.{Expr}
use Rattle.array_segments.specs.CommonBounds.{same_expr}
use Rattle.array_segments.specs.FormTest.{is_formed}
use Rattle.array_segments.specs.SegmentLists.{HasForm, last_bound}
use Rattle.array_segments.proofs.CommonLaw.{any_has, has_any}
use Rattle.array_segments.proofs.FormLaw.{formed_is, is_formed_where}
use Rattle.array_contents.specs.Contents.{AreFormed, Contents, IsFormed, Segments}
use Rattle.array_contents.specs.FormTest.{are_formed, is_formed_at, is_narrow}
use Rattle.array_contents.proofs.NarrowTest.{all_narrow}

-- ---- step by step

-- What decides the form is the test of it.
pub form_test : (segments : Segments) (is : Bool) → (IsTrue is ↔ HasForm segments) → is ≡ is_formed segments
form_test segments true decides = sym (is_formed_where segments (decides.0 refl))
form_test segments false decides = by (is_formed segments) refl
  where
    by : (b : Bool) → is_formed segments ≡ b → false ≡ b
    by true is = decides.1 (formed_is segments is)
    by false is = refl

pub formed_more : {X : Type 0} (symbols : ℕ) (view : X → Segments) (lengths : List Expr) (xs : List X) (place : ℕ) (e : Expr) (x : X)
    → place < length lengths → place < length xs → e ≡ get_or lengths place e → x ≡ get_or xs place x
    → are_formed symbols (drop place lengths) (map view (drop place xs))
    ≡ (is_formed_at symbols e (view x) && are_formed symbols (drop (place + 1) lengths) (map view (drop (place + 1) xs)))
formed_more symbols view lengths xs place e x below under is also =
    (λ i. are_formed symbols (drop_more lengths place e below i) (map view (drop_more xs place x under i)))
    ∙ (λ i. are_formed symbols (sym is i ∷ drop (place + 1) lengths) (map view (sym also i ∷ drop (place + 1) xs)))

pub unlike_lengths : {X : Type 0} (symbols : ℕ) (view : X → Segments) (lengths : List Expr) (xs : List X) → length lengths ≢ length xs
    → are_formed symbols lengths (map view xs) ≡ false
unlike_lengths symbols view [] [] unlike = absurd (unlike refl)
unlike_lengths symbols view [] (x ∷ xs) unlike = refl
unlike_lengths symbols view (e ∷ lengths) [] unlike = refl
unlike_lengths symbols view (e ∷ lengths) (x ∷ xs) unlike =
    by (is_formed_at symbols e (view x)) (unlike_lengths symbols view lengths xs (λ like. unlike (ap suc like)))
  where
    by : (b : Bool) → are_formed symbols lengths (map view xs) ≡ false
        → (b && are_formed symbols lengths (map view xs)) ≡ false
    by true is = is
    by false is = refl

-- ---- the test is the form

both : (a b : Bool) → a ≡ true → b ≡ true → (a && b) ≡ true
both true true x y = refl
both true false x y = absurd (false≢true y)
both false b x y = absurd (false≢true x)

there_is : (symbols : ℕ) (exprs : List Expr) → list_all (λ e. nat_le e.sym symbols) exprs ≡ true
    → AllByRecursion (λ e. e.sym ≤ symbols) exprs
there_is symbols [] is = tt
there_is symbols (e ∷ exprs) is =
    let parts = and_parts (nat_le e.sym symbols) (list_all (λ e. nat_le e.sym symbols) exprs) is in
    (leb-true e.sym symbols parts.0, there_is symbols exprs parts.1)

there_where : (symbols : ℕ) (exprs : List Expr) → AllByRecursion (λ e. e.sym ≤ symbols) exprs
    → list_all (λ e. nat_le e.sym symbols) exprs ≡ true
there_where symbols [] all = refl
there_where symbols (e ∷ exprs) all =
    both (nat_le e.sym symbols) (list_all (λ e. nat_le e.sym symbols) exprs) (le-leb e.sym symbols all.0)
    (there_where symbols exprs all.1)

named_is : (symbols : ℕ) (bounds : List (List Expr)) → list_all (list_all (λ e. nat_le e.sym symbols)) bounds ≡ true
    → AllByRecursion (AllByRecursion (λ e. e.sym ≤ symbols)) bounds
named_is symbols [] is = tt
named_is symbols (bound ∷ bounds) is =
    let parts = and_parts (list_all (λ e. nat_le e.sym symbols) bound) (list_all (list_all (λ e. nat_le e.sym symbols)) bounds) is in
    (there_is symbols bound parts.0, named_is symbols bounds parts.1)

named_where : (symbols : ℕ) (bounds : List (List Expr)) → AllByRecursion (AllByRecursion (λ e. e.sym ≤ symbols)) bounds
    → list_all (list_all (λ e. nat_le e.sym symbols)) bounds ≡ true
named_where symbols [] all = refl
named_where symbols (bound ∷ bounds) all =
    both (list_all (λ e. nat_le e.sym symbols) bound) (list_all (list_all (λ e. nat_le e.sym symbols)) bounds)
    (there_where symbols bound all.0) (named_where symbols bounds all.1)

one_is : (symbols : ℕ) (e : Expr) (one : Segments) → is_formed_at symbols e one ≡ true → IsFormed symbols e one
one_is symbols e one is =
    let named : Bool = list_all (list_all (λ e. nat_le e.sym symbols)) one.bounds in
    let narrow : Bool = list_all is_narrow one.contents in
    let parts = and_parts (is_formed one) (list_any (same_expr e) (last_bound one) && (named && narrow)) is in
    let later = and_parts (list_any (same_expr e) (last_bound one)) (named && narrow) parts.1 in
    let last = and_parts named narrow later.1 in
    record {
      form = formed_is one parts.0;
      ends = any_has e (last_bound one) later.0;
      named = named_is symbols one.bounds last.0;
      narrow = (all_narrow one.contents).0 last.1;
    }

one_where : (symbols : ℕ) (e : Expr) (one : Segments) → IsFormed symbols e one → is_formed_at symbols e one ≡ true
one_where symbols e one formed =
    let named : Bool = list_all (list_all (λ e. nat_le e.sym symbols)) one.bounds in
    let narrow : Bool = list_all is_narrow one.contents in
    both (is_formed one) (list_any (same_expr e) (last_bound one) && (named && narrow)) (is_formed_where one formed.form)
    (both (list_any (same_expr e) (last_bound one)) (named && narrow)
    (has_any e (last_bound one) formed.ends.0 formed.ends.1 formed.ends.2)
    (both named narrow (named_where symbols one.bounds formed.named) ((all_narrow one.contents).1 formed.narrow)))

pub formed_then : (symbols : ℕ) (lengths : List Expr) (contents : Contents) → are_formed symbols lengths contents ≡ true
    → AreFormed symbols lengths contents
formed_then symbols [] [] is = tt
formed_then symbols [] (one ∷ contents) is = absurd (false≢true is)
formed_then symbols (e ∷ lengths) [] is = absurd (false≢true is)
formed_then symbols (e ∷ lengths) (one ∷ contents) is =
    let parts = and_parts (is_formed_at symbols e one) (are_formed symbols lengths contents) is in
    (one_is symbols e one parts.0, formed_then symbols lengths contents parts.1)

pub formed_where : (symbols : ℕ) (lengths : List Expr) (contents : Contents) → AreFormed symbols lengths contents
    → are_formed symbols lengths contents ≡ true
formed_where symbols [] [] all = refl
formed_where symbols [] (one ∷ contents) all = absurd all
formed_where symbols (e ∷ lengths) [] all = absurd all
formed_where symbols (e ∷ lengths) (one ∷ contents) all =
    both (is_formed_at symbols e one) (are_formed symbols lengths contents) (one_where symbols e one all.0)
    (formed_where symbols lengths contents all.1)
