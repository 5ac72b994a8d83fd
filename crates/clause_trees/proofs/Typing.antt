-- What a tree's kind tells of the trees below it.
use Rattle.std.proofs.Common.{◌≡◌, Bool, true, false, ◌&&◌, List, [], ◌∷◌, ◌++◌, slice_get, Option, Some, None, if◌then◌else◌, refl, sym, ap, subst}
use Rattle.std.specs.List.{AllByRecursion}
use Rattle.std.specs.Option.{option_and_then}
use Rattle.std.proofs.lemmas.Bool.{and_parts}
use Rattle.std.proofs.lemmas.Option.{none-some, same_Some}
use Rattle.cil_model.specs.Comparisons.{comparison_of}
use Rattle.cil_model.specs.Kinds.{is_array_of, is_reference, is_tested, kind_of, pushes_comparison}
use Rattle.cil_model.specs.Passes.{merged_kind}
use Rattle.cil_model.specs.TermCodes.{preorder}
use Rattle.cil_model.specs.Terms as terms
use Rattle.cil_model.specs.Terms.{Term}
use Rattle.cil_model.specs.TreeKinds.{branch_kind, element_kind, is_int, kind_in, length_kind, number_if, operator_kind, unary_kind}
use Rattle.cil_model.specs.WellFormed.{IsIntRoot}
use Rattle.cil_model.specs.declared.instruction.BinOp.{BinOp}
use Rattle.cil_model.specs.declared.instruction.CmpOp.{CmpOp}
use Rattle.cil_model.specs.declared.instruction.UnOp.{UnOp}
use Rattle.cil_model.specs.declared.place.Kind.{Kind}
use Rattle.cil_model.specs.declared.place.Kind.TheVariants as kinds
use Rattle.cil_model.specs.declared.place.Place.{Place}
use Rattle.cil_model.specs.declared.place.Place.TheVariants as places
use Rattle.clause_trees.specs.Meaning.{IsTyped, is_now}
use Rattle.clause_trees.specs.declared.reader.Time.{Time}
use Rattle.clause_trees.specs.declared.reader.Time.TheVariants.{Now, Entry}

-- ---- kinds of numbers

pub record IsNumberIf (test : Bool) (kind : Kind) : Type 0 where
  pub so : test ≡ true
  pub int : kinds.Int ≡ kind

number_tells : (test : Bool) (kind : Kind) → number_if test ≡ Some kind → IsNumberIf test kind
number_tells true kind is = record { so = refl; int = same_Some kinds.Int kind is }
number_tells false kind is = absurd cc

int_is : (kind : Kind) → is_int kind ≡ true → kind ≡ kinds.Int
int_is kinds.Int is = refl
int_is _ is = absurd cc

-- ---- kinds that merge

-- What is so of one kind, and of null and arrays of either type, is so of kinds that merge.
pub merged_cases : (P : Kind → Kind → Kind → Type 0) → ((kind : Kind) → P kind kind kind)
    → P kinds.Ints kinds.NullRef kinds.Ints → P kinds.Bools kinds.NullRef kinds.Bools
    → P kinds.NullRef kinds.Ints kinds.Ints → P kinds.NullRef kinds.Bools kinds.Bools
    → (a b kind : Kind) → merged_kind a b ≡ Some kind → P a b kind
merged_cases P one ints bools null_ints null_bools kinds.Int kinds.Int kind is =
    subst (P kinds.Int kinds.Int) (same_Some kinds.Int kind is) (one kinds.Int)
merged_cases P one ints bools null_ints null_bools kinds.Native kinds.Native kind is =
    subst (P kinds.Native kinds.Native) (same_Some kinds.Native kind is) (one kinds.Native)
merged_cases P one ints bools null_ints null_bools kinds.Ints kinds.Ints kind is =
    subst (P kinds.Ints kinds.Ints) (same_Some kinds.Ints kind is) (one kinds.Ints)
merged_cases P one ints bools null_ints null_bools kinds.Bools kinds.Bools kind is =
    subst (P kinds.Bools kinds.Bools) (same_Some kinds.Bools kind is) (one kinds.Bools)
merged_cases P one ints bools null_ints null_bools kinds.NullRef kinds.NullRef kind is =
    subst (P kinds.NullRef kinds.NullRef) (same_Some kinds.NullRef kind is) (one kinds.NullRef)
merged_cases P one ints bools null_ints null_bools kinds.Text kinds.Text kind is =
    subst (P kinds.Text kinds.Text) (same_Some kinds.Text kind is) (one kinds.Text)
merged_cases P one ints bools null_ints null_bools kinds.AddrInts kinds.AddrInts kind is =
    subst (P kinds.AddrInts kinds.AddrInts) (same_Some kinds.AddrInts kind is) (one kinds.AddrInts)
merged_cases P one ints bools null_ints null_bools kinds.AddrBools kinds.AddrBools kind is =
    subst (P kinds.AddrBools kinds.AddrBools) (same_Some kinds.AddrBools kind is) (one kinds.AddrBools)
merged_cases P one ints bools null_ints null_bools kinds.Ints kinds.NullRef kind is =
    subst (P kinds.Ints kinds.NullRef) (same_Some kinds.Ints kind is) ints
merged_cases P one ints bools null_ints null_bools kinds.Bools kinds.NullRef kind is =
    subst (P kinds.Bools kinds.NullRef) (same_Some kinds.Bools kind is) bools
merged_cases P one ints bools null_ints null_bools kinds.NullRef kinds.Ints kind is =
    subst (P kinds.NullRef kinds.Ints) (same_Some kinds.Ints kind is) null_ints
merged_cases P one ints bools null_ints null_bools kinds.NullRef kinds.Bools kind is =
    subst (P kinds.NullRef kinds.Bools) (same_Some kinds.Bools kind is) null_bools
merged_cases P one ints bools null_ints null_bools _ _ kind is = absurd (none-some kind is)

merged_itself : (kind : Kind) → merged_kind kind kind ≡ Some kind
merged_itself kinds.Int = refl
merged_itself kinds.Native = refl
merged_itself kinds.Ints = refl
merged_itself kinds.Bools = refl
merged_itself kinds.NullRef = refl
merged_itself kinds.Text = refl
merged_itself kinds.AddrInts = refl
merged_itself kinds.AddrBools = refl

-- Branches may be exchanged.
pub merged_swaps : (a b kind : Kind) → merged_kind a b ≡ Some kind → merged_kind b a ≡ Some kind
merged_swaps a b kind is =
    merged_cases (λ a b kind. merged_kind b a ≡ Some kind) merged_itself refl refl refl refl a b kind is

-- ---- constants

all_first : {X : Type 0} (P : X → Type 0) (xs ys : List X) → AllByRecursion P (xs ++ ys) → AllByRecursion P xs
all_first P [] ys all = tt
all_first P (x ∷ xs) ys all = (all.0, all_first P xs ys all.1)

all_second : {X : Type 0} (P : X → Type 0) (xs ys : List X) → AllByRecursion P (xs ++ ys) → AllByRecursion P ys
all_second P [] ys all = all
all_second P (x ∷ xs) ys all = all_second P xs ys all.1

-- ---- nodes

module _ (args : List Place) (result : Place) (time : Time) where
  pub record OfLength (a : Term) (kind : Kind) : Type 0 where
    pub array : Kind
    pub typed : IsTyped args result time a array
    pub reference : is_reference array ≡ true
    pub int : kinds.Int ≡ kind

  pub length_typed : (a : Term) (kind : Kind) → IsTyped args result time (terms.Len a) kind → OfLength a kind
  length_typed a kind typed = by (kind_in args result (is_now time) a) refl typed.kind_is
    where
      by : (o : Option Kind) → kind_in args result (is_now time) a ≡ o → length_kind o ≡ Some kind → OfLength a kind
      by None found is = absurd cc
      by (Some array) found is =
          let tells = number_tells (is_reference array) kind is in
          record {
            array = array;
            typed = record { kind_is = found; ints = typed.ints.1 };
            reference = tells.so;
            int =
                tells.int;
          }

  pub record OfElement (place : Place) (a b : Term) (kind : Kind) : Type 0 where
    pub array : Kind
    pub first : IsTyped args result time a array
    pub second : IsTyped args result time b kinds.Int
    pub of_place : is_array_of place array ≡ true
    pub int : kinds.Int ≡ kind

  pub element_typed : (place : Place) (a b : Term) (kind : Kind) → IsTyped args result time (terms.Elem place a b) kind
      → OfElement place a b kind
  element_typed place a b kind typed =
      by (kind_in args result (is_now time) a) (kind_in args result (is_now time) b) refl refl typed.kind_is
    where
      by : (o p : Option Kind) → kind_in args result (is_now time) a ≡ o → kind_in args result (is_now time) b ≡ p
          → element_kind place o p ≡ Some kind → OfElement place a b kind
      by None p found other is = absurd cc
      by (Some array) None found other is = absurd cc
      by (Some array) (Some index) found other is =
          let tells = number_tells (is_array_of place array && is_int index) kind is in
          let both = and_parts (is_array_of place array) (is_int index) tells.so in
          record {
            array = array;
            first = record { kind_is = found; ints = all_first IsIntRoot (preorder a) (preorder b) typed.ints.1 };
            second = record {
              kind_is = rw (int_is index both.1) at other;
              ints = all_second IsIntRoot (preorder a) (preorder b) typed.ints.1;
            };
            of_place = both.0;
            int = tells.int;
          }

  -- What an operator takes: two numbers, or what it compares.
  abbrev pub Takes : Option CmpOp → Kind → Kind → Type 0
  Takes None a b = (a ≡ kinds.Int) × (b ≡ kinds.Int)
  Takes (Some cmp) a b = pushes_comparison cmp a b ≡ true

  pub record OfOperator (op : BinOp) (a b : Term) (kind : Kind) : Type 0 where
    pub left : Kind
    pub right : Kind
    pub first : IsTyped args result time a left
    pub second : IsTyped args result time b right
    pub takes : Takes (comparison_of op) left right
    pub int : kinds.Int ≡ kind

  pub operator_typed : (op : BinOp) (a b : Term) (kind : Kind) → IsTyped args result time (terms.Bin op a b) kind
      → OfOperator op a b kind
  operator_typed op a b kind typed =
      by (kind_in args result (is_now time) a) (kind_in args result (is_now time) b) refl refl typed.kind_is
    where
      taken : (o : Option CmpOp) (left right : Kind) → operator_kind o (Some left) (Some right) ≡ Some kind
          → Takes o left right × (kinds.Int ≡ kind)
      taken None left right is =
          let tells = number_tells (is_int left && is_int right) kind is in
          let both = and_parts (is_int left) (is_int right) tells.so in
          ((int_is left both.0, int_is right both.1), tells.int)
      taken (Some cmp) left right is =
          let tells = number_tells (pushes_comparison cmp left right) kind is in (tells.so, tells.int)

      left_there : (o : Option CmpOp) (p : Option Kind) → operator_kind o None p ≡ Some kind → ⊥
      left_there None p is = absurd cc
      left_there (Some cmp) p is = absurd cc

      right_there : (o : Option CmpOp) (left : Kind) → operator_kind o (Some left) None ≡ Some kind → ⊥
      right_there None left is = absurd cc
      right_there (Some cmp) left is = absurd cc

      by : (o p : Option Kind) → kind_in args result (is_now time) a ≡ o → kind_in args result (is_now time) b ≡ p
          → operator_kind (comparison_of op) o p ≡ Some kind → OfOperator op a b kind
      by None p found other is = absurd (left_there (comparison_of op) p is)
      by (Some left) None found other is = absurd (right_there (comparison_of op) left is)
      by (Some left) (Some right) found other is =
          let both = taken (comparison_of op) left right is in
          record {
            left = left;
            right = right;
            first = record { kind_is = found; ints = all_first IsIntRoot (preorder a) (preorder b) typed.ints.1 };
            second = record { kind_is = other; ints = all_second IsIntRoot (preorder a) (preorder b) typed.ints.1 };
            takes = both.0;
            int = both.1;
          }

  pub record OfNumber (a : Term) (kind : Kind) : Type 0 where
    pub typed : IsTyped args result time a kinds.Int
    pub int : kinds.Int ≡ kind

  pub unary_typed : (op : UnOp) (a : Term) (kind : Kind) → IsTyped args result time (terms.Un op a) kind
      → OfNumber a kind
  unary_typed op a kind typed = by (kind_in args result (is_now time) a) refl typed.kind_is
    where
      by : (o : Option Kind) → kind_in args result (is_now time) a ≡ o → unary_kind o ≡ Some kind → OfNumber a kind
      by None found is = absurd cc
      by (Some operand) found is =
          let tells = number_tells (is_int operand) kind is in
          record {
            typed = record { kind_is = rw (int_is operand tells.so) at found; ints = typed.ints.1 };
            int =
                tells.int;
          }

  pub record OfBranches (c a b : Term) (kind : Kind) : Type 0 where
    pub test : Kind
    pub left : Kind
    pub right : Kind
    pub test_typed : IsTyped args result time c test
    pub first : IsTyped args result time a left
    pub second : IsTyped args result time b right
    pub tested : is_tested test ≡ true
    pub merged : merged_kind left right ≡ Some kind

  pub branches_typed : (c a b : Term) (kind : Kind) → IsTyped args result time (terms.Cond c a b) kind
      → OfBranches c a b kind
  branches_typed c a b kind typed =
      by (kind_in args result (is_now time) c) (kind_in args result (is_now time) a)
      (kind_in args result (is_now time) b) refl refl refl
      typed.kind_is
    where
      if_tested : (so : Bool) (o : Option Kind) → (if so then o else None) ≡ Some kind → (so ≡ true) × (o ≡ Some kind)
      if_tested true o is = (refl, is)
      if_tested false o is = absurd cc

      by : (o p q : Option Kind) → kind_in args result (is_now time) c ≡ o → kind_in args result (is_now time) a ≡ p
          → kind_in args result (is_now time) b ≡ q → branch_kind o p q ≡ Some kind → OfBranches c a b kind
      by None p q found one two is = absurd cc
      by (Some test) None q found one two is = absurd cc
      by (Some test) (Some left) None found one two is = absurd cc
      by (Some test) (Some left) (Some right) found one two is =
          let both = if_tested (is_tested test) (merged_kind left right) is in
          let below = all_second IsIntRoot (preorder c) (preorder a ++ preorder b) typed.ints.1 in
          record {
            test = test;
            left = left;
            right = right;
            test_typed = record {
              kind_is = found;
              ints = all_first IsIntRoot (preorder c) (preorder a ++ preorder b)
                  typed.ints.1;
            };
            first = record { kind_is = one; ints = all_first IsIntRoot (preorder a) (preorder b) below };
            second = record { kind_is = two; ints = all_second IsIntRoot (preorder a) (preorder b) below };
            tested = both.0;
            merged = both.1;
          }

-- An old value stands outside of old ones, and has the kind of its tree.
pub old_typed : (args : List Place) (result : Place) (time : Time) (a : Term) (kind : Kind)
    → IsTyped args result time (terms.Old a) kind → (time ≡ Now) × IsTyped args result Entry a kind
old_typed args result Now a kind typed = (refl, record { kind_is = typed.kind_is; ints = typed.ints.1 })
old_typed args result Entry a kind typed = absurd (none typed.kind_is)
  where
    none : None ≡ Some kind → ⊥
    none is = cc

-- ---- the kinds that trees have

-- Numbers and references. No tree is a length of the machine's, a text or an address.
abbrev pub is_of_tree : Kind → Bool
is_of_tree kinds.Int = true
is_of_tree kinds.Ints = true
is_of_tree kinds.Bools = true
is_of_tree kinds.NullRef = true
is_of_tree kinds.Native = false
is_of_tree kinds.Text = false
is_of_tree kinds.AddrInts = false
is_of_tree kinds.AddrBools = false

place_of_tree : (o : Option Place) (kind : Kind) → option_and_then kind_of o ≡ Some kind → is_of_tree kind ≡ true
place_of_tree None kind is = absurd (none-some kind is)
place_of_tree (Some places.Void) kind is = absurd (none-some kind is)
place_of_tree (Some places.Bool) kind is = ap is_of_tree (sym (same_Some kinds.Int kind is))
place_of_tree (Some places.Int) kind is = ap is_of_tree (sym (same_Some kinds.Int kind is))
place_of_tree (Some places.Bools) kind is = ap is_of_tree (sym (same_Some kinds.Bools kind is))
place_of_tree (Some places.Ints) kind is = ap is_of_tree (sym (same_Some kinds.Ints kind is))

merged_of_tree : (a b kind : Kind) → merged_kind a b ≡ Some kind → is_of_tree a ≡ true → is_of_tree kind ≡ true
merged_of_tree a b kind is =
    merged_cases (λ a b kind. is_of_tree a ≡ true → is_of_tree kind ≡ true) (λ k so. so) (λ so. so) (λ so. so)
    (λ so. refl) (λ so. refl) a b kind is

pub tree_kind : (args : List Place) (result : Place) (t : Term) (time : Time) (kind : Kind)
    → IsTyped args result time t kind → is_of_tree kind ≡ true
tree_kind args result (terms.Const n) time kind typed = ap is_of_tree (sym (same_Some kinds.Int kind typed.kind_is))
tree_kind args result (terms.Arg n) time kind typed = place_of_tree (slice_get args n) kind typed.kind_is
tree_kind args result terms.Null time kind typed = ap is_of_tree (sym (same_Some kinds.NullRef kind typed.kind_is))
tree_kind args result terms.Result Now kind typed = place_of_tree (Some result) kind typed.kind_is
tree_kind args result terms.Result Entry kind typed = absurd (none-some kind typed.kind_is)
tree_kind args result (terms.Len a) time kind typed =
    ap is_of_tree (sym (length_typed args result time a kind typed).int)
tree_kind args result (terms.Elem place a b) time kind typed =
    ap is_of_tree (sym (element_typed args result time place a b kind typed).int)
tree_kind args result (terms.Bin op a b) time kind typed =
    ap is_of_tree (sym (operator_typed args result time op a b kind typed).int)
tree_kind args result (terms.Un op a) time kind typed =
    ap is_of_tree (sym (unary_typed args result time op a kind typed).int)
tree_kind args result (terms.Old a) time kind typed =
    tree_kind args result a Entry kind (old_typed args result time a kind typed).1
tree_kind args result (terms.Cond c a b) time kind typed =
    let below = branches_typed args result time c a b kind typed in
    merged_of_tree below.left below.right kind below.merged (tree_kind args result a time below.left below.first)
