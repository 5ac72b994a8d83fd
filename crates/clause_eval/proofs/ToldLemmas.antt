-- The value of a clause by its old values is its value.
use Rattle.std.proofs.Common.{◌≡◌, ◌+◌, List, ◌++◌, length, Option, Some, None, refl, ap, ◌∙◌, append_assoc, arith, length-append}
use Rattle.std.specs.Option.{option_and_then}
use Rattle.cil_model.specs.Clauses.{Reading, at_entry, binary_value, both, chosen, element_value, length_value, unary_value, value_of}
use Rattle.cil_model.specs.Comparisons.{is_true}
use Rattle.cil_model.specs.Terms as terms
use Rattle.cil_model.specs.Terms.{Term}
use Rattle.cil_model.specs.Values.{Heap}
use Rattle.cil_model.specs.declared.machine.Value.{Value}
use Rattle.clause_eval.specs.Piles.{Piled, size_of}
use Rattle.clause_eval.specs.Told.{LacksResult, OldsLackResult, Told, behind, behind_by, entry_reading, old_values, olds_in, told_value}

-- ---- what stays

by_heap : (present r : Told) (olds : Option (List (Option Value))) → present.heap ≡ r.heap → (behind_by present r olds).heap ≡ r.heap
by_heap present r None e = e
by_heap present r (Some olds) e = refl

pub same_heap : (t : Term) (r : Told) → (behind t r).heap ≡ r.heap
same_heap (terms.Const n) r = refl
same_heap (terms.Arg n) r = refl
same_heap terms.Null r = refl
same_heap terms.Result r = refl
same_heap (terms.Len a) r = same_heap a r
same_heap (terms.Elem place a b) r = same_heap b (behind a r) ∙ same_heap a r
same_heap (terms.Bin operator a b) r = same_heap b (behind a r) ∙ same_heap a r
same_heap (terms.Un operator a) r = same_heap a r
same_heap (terms.Old a) r = by_heap (behind a r) r r.olds (same_heap a r)
same_heap (terms.Cond a b c) r = same_heap c (behind b (behind a r)) ∙ same_heap b (behind a r) ∙ same_heap a r

-- ---- at the entry

abbrev pub present : List Value → Heap → Told
present args heap = record { args = args; heap = heap; result = None; olds = None }

pub stays : (t : Term) (args : List Value) (heap : Heap) → behind t (present args heap) ≡ present args heap
stays (terms.Const n) args heap = refl
stays (terms.Arg n) args heap = refl
stays terms.Null args heap = refl
stays terms.Result args heap = refl
stays (terms.Len a) args heap = stays a args heap
stays (terms.Elem place a b) args heap = ap (behind b) (stays a args heap) ∙ stays b args heap
stays (terms.Bin operator a b) args heap = ap (behind b) (stays a args heap) ∙ stays b args heap
stays (terms.Un operator a) args heap = stays a args heap
stays (terms.Old a) args heap = stays a args heap
stays (terms.Cond a b c) args heap = ap (λ r. behind c (behind b r)) (stays a args heap) ∙ ap (behind c) (stays b args heap) ∙ stays c args heap

pub present_value : (t : Term) (args : List Value) (heap : Heap) → told_value t (present args heap) ≡ value_of t (entry_reading args heap)
unfolding value_of
present_value (terms.Const n) args heap = refl
present_value (terms.Arg n) args heap = refl
present_value terms.Null args heap = refl
present_value terms.Result args heap = refl
present_value (terms.Len a) args heap = ap (option_and_then (length_value heap)) (present_value a args heap)
present_value (terms.Elem place a b) args heap =
    let second = ap (told_value b) (stays a args heap) ∙ present_value b args heap in
    ap (λ x. both x (told_value b (behind a (present args heap))) (element_value heap place)) (present_value a args heap)
    ∙ ap (λ y. both (value_of a (entry_reading args heap)) y (element_value heap place)) second
present_value (terms.Bin operator a b) args heap =
    let second = ap (told_value b) (stays a args heap) ∙ present_value b args heap in
    ap (λ x. both x (told_value b (behind a (present args heap))) (binary_value operator)) (present_value a args heap)
    ∙ ap (λ y. both (value_of a (entry_reading args heap)) y (binary_value operator)) second
present_value (terms.Un operator a) args heap = ap (option_and_then (unary_value operator)) (present_value a args heap)
present_value (terms.Old a) args heap = present_value a args heap
present_value (terms.Cond a b c) args heap =
    let second = ap (told_value b) (stays a args heap) ∙ present_value b args heap in
    let third = ap (λ r. told_value c (behind b r)) (stays a args heap) ∙ ap (told_value c) (stays b args heap) ∙ present_value c args heap in
    ap (λ x. chosen (option_and_then is_true x) (told_value b (behind a (present args heap))) (told_value c (behind b (behind a (present args heap))))) (present_value a args heap)
    ∙ ap (λ y. chosen (option_and_then is_true (value_of a (entry_reading args heap))) y (told_value c (behind b (behind a (present args heap))))) second
    ∙ ap (λ y. chosen (option_and_then is_true (value_of a (entry_reading args heap))) (value_of b (entry_reading args heap)) y) third

-- ---- how many old values there are

pub length_of_olds : (t : Term) (args : List Value) (heap : Heap) → length (old_values t args heap) ≡ olds_in t
length_of_olds (terms.Const n) args heap = refl
length_of_olds (terms.Arg n) args heap = refl
length_of_olds terms.Null args heap = refl
length_of_olds terms.Result args heap = refl
length_of_olds (terms.Len a) args heap = length_of_olds a args heap
length_of_olds (terms.Elem place a b) args heap = omega (arith, length-append (old_values a args heap) (old_values b args heap), length_of_olds a args heap, length_of_olds b args heap)
length_of_olds (terms.Bin operator a b) args heap = omega (arith, length-append (old_values a args heap) (old_values b args heap), length_of_olds a args heap, length_of_olds b args heap)
length_of_olds (terms.Un operator a) args heap = length_of_olds a args heap
length_of_olds (terms.Old a) args heap = refl
length_of_olds (terms.Cond a b c) args heap =
    omega (
      arith,
      length-append (old_values a args heap) (old_values b args heap ++ old_values c args heap),
      length-append (old_values b args heap) (old_values c args heap),
      length_of_olds a args heap,
      length_of_olds b args heap,
      length_of_olds c args heap,
    )

-- A list with the old values of a tree put on it.
pub olds_put : (t : Term) (args : List Value) (heap : Heap) (p : Piled (Option Value)) → size_of (record p { top = old_values t args heap ++ p.top }) ≡ olds_in t + size_of p
olds_put t args heap p = omega (arith, length-append (old_values t args heap) p.top, length_of_olds t args heap)

-- ---- without the result

pub result_unread : (t : Term) (r : Reading) (x y : Option Value) → LacksResult t → value_of t (record r { result = x }) ≡ value_of t (record r { result = y })
unfolding value_of
result_unread (terms.Const n) r x y h = refl
result_unread (terms.Arg n) r x y h = refl
result_unread terms.Null r x y h = refl
result_unread terms.Result r x y h = absurd h
result_unread (terms.Len a) r x y h = ap (option_and_then (length_value r.heap)) (result_unread a r x y h)
result_unread (terms.Elem place a b) r x y h =
    ap (λ v. both v (value_of b (record r { result = x })) (element_value r.heap place)) (result_unread a r x y h.0)
    ∙ ap (λ v. both (value_of a (record r { result = y })) v (element_value r.heap place)) (result_unread b r x y h.1)
result_unread (terms.Bin operator a b) r x y h =
    ap (λ v. both v (value_of b (record r { result = x })) (binary_value operator)) (result_unread a r x y h.0)
    ∙ ap (λ v. both (value_of a (record r { result = y })) v (binary_value operator)) (result_unread b r x y h.1)
result_unread (terms.Un operator a) r x y h = ap (option_and_then (unary_value operator)) (result_unread a r x y h)
result_unread (terms.Old a) r x y h = result_unread a (at_entry r) x y h
result_unread (terms.Cond a b c) r x y h =
    ap (λ v. chosen (option_and_then is_true v) (value_of b (record r { result = x })) (value_of c (record r { result = x }))) (result_unread a r x y h.0)
    ∙ ap (λ v. chosen (option_and_then is_true (value_of a (record r { result = y }))) v (value_of c (record r { result = x }))) (result_unread b r x y h.1.0)
    ∙ ap (λ v. chosen (option_and_then is_true (value_of a (record r { result = y }))) (value_of b (record r { result = y })) v) (result_unread c r x y h.1.1)

-- ---- at the end

module _ (args : List Value) (entry heap : Heap) (result : Option Value) where
  abbrev pub reading : Reading
  reading = record { args = args; entry_heap = entry; heap = heap; result = result }

  abbrev pub told : List (Option Value) → Told
  told olds = record { args = args; heap = heap; result = result; olds = Some olds }

  abbrev olds : Term → List (Option Value)
  olds t = old_values t args entry

  pub left_behind : (t : Term) (rest : List (Option Value)) → behind t (told (olds t ++ rest)) ≡ told rest
  left_behind (terms.Const n) rest = refl
  left_behind (terms.Arg n) rest = refl
  left_behind terms.Null rest = refl
  left_behind terms.Result rest = refl
  left_behind (terms.Len a) rest = left_behind a rest
  left_behind (terms.Elem place a b) rest =
      ap (λ xs. behind b (behind a (told xs))) (append_assoc (olds a) (olds b) rest) ∙ ap (behind b) (left_behind a (olds b ++ rest)) ∙ left_behind b rest
  left_behind (terms.Bin operator a b) rest =
      ap (λ xs. behind b (behind a (told xs))) (append_assoc (olds a) (olds b) rest) ∙ ap (behind b) (left_behind a (olds b ++ rest)) ∙ left_behind b rest
  left_behind (terms.Un operator a) rest = left_behind a rest
  left_behind (terms.Old a) rest = refl
  left_behind (terms.Cond a b c) rest =
      ap (λ xs. behind c (behind b (behind a (told xs)))) (append_assoc (olds a) (olds b ++ olds c) rest)
      ∙ ap (λ r. behind c (behind b r)) (left_behind a ((olds b ++ olds c) ++ rest))
      ∙ ap (λ xs. behind c (behind b (told xs))) (append_assoc (olds b) (olds c) rest)
      ∙ ap (behind c) (left_behind b (olds c ++ rest)) ∙ left_behind c rest

  two : (a b : Term) (f : Value → Value → Option Value) (rest : List (Option Value)) → told_value a (told (olds a ++ (olds b ++ rest))) ≡ value_of a reading
      → told_value b (told (olds b ++ rest)) ≡ value_of b reading
      → both (told_value a (told ((olds a ++ olds b) ++ rest))) (told_value b (behind a (told ((olds a ++ olds b) ++ rest)))) f ≡ both (value_of a reading) (value_of b reading) f
  two a b f rest first second =
      ap (λ xs. both (told_value a (told xs)) (told_value b (behind a (told xs))) f) (append_assoc (olds a) (olds b) rest)
      ∙ ap (λ x. both x (told_value b (behind a (told (olds a ++ (olds b ++ rest))))) f) first
      ∙ ap (λ y. both (value_of a reading) y f) (ap (told_value b) (left_behind a (olds b ++ rest)) ∙ second)

  pub told_is : (t : Term) (rest : List (Option Value)) → OldsLackResult t → told_value t (told (olds t ++ rest)) ≡ value_of t reading
  unfolding value_of
  told_is (terms.Const n) rest h = refl
  told_is (terms.Arg n) rest h = refl
  told_is terms.Null rest h = refl
  told_is terms.Result rest h = refl
  told_is (terms.Len a) rest h = ap (option_and_then (length_value heap)) (told_is a rest h)
  told_is (terms.Elem place a b) rest h = two a b (element_value heap place) rest (told_is a (olds b ++ rest) h.0) (told_is b rest h.1)
  told_is (terms.Bin operator a b) rest h = two a b (binary_value operator) rest (told_is a (olds b ++ rest) h.0) (told_is b rest h.1)
  told_is (terms.Un operator a) rest h = ap (option_and_then (unary_value operator)) (told_is a rest h)
  told_is (terms.Old a) rest h = result_unread a (at_entry reading) None result h
  told_is (terms.Cond a b c) rest h =
      let all = append_assoc (olds a) (olds b ++ olds c) rest in
      let first = told_is a ((olds b ++ olds c) ++ rest) h.0 in
      let behind_first = left_behind a ((olds b ++ olds c) ++ rest) ∙ ap told (append_assoc (olds b) (olds c) rest) in
      let second = ap (told_value b) behind_first ∙ told_is b (olds c ++ rest) h.1.0 in
      let third = ap (λ r. told_value c (behind b r)) behind_first ∙ ap (told_value c) (left_behind b (olds c ++ rest)) ∙ told_is c rest h.1.1 in
      ap (λ xs. chosen (option_and_then is_true (told_value a (told xs))) (told_value b (behind a (told xs))) (told_value c (behind b (behind a (told xs))))) all
      ∙ ap (λ x. chosen (option_and_then is_true x) (told_value b (behind a (told (olds a ++ ((olds b ++ olds c) ++ rest))))) (told_value c (behind b (behind a (told (olds a ++ ((olds b ++ olds c) ++ rest))))))) first
      ∙ ap (λ y. chosen (option_and_then is_true (value_of a reading)) y (told_value c (behind b (behind a (told (olds a ++ ((olds b ++ olds c) ++ rest))))))) second
      ∙ ap (λ y. chosen (option_and_then is_true (value_of a reading)) (value_of b reading) y) third
