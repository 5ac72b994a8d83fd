-- A clause of code that has kinds is a number: the trees on each way fit the kinds that typing has there.
use Rattle.std.proofs.Common.{◌≡◌, ℕ, zero, suc, ◌+◌, ◌<◌, ◌≤◌, ◌==◌, Bool, true, false, not, ◌&&◌, ◌||◌, nat_lt, nat_le, List, [], ◌∷◌, ◌++◌, length, Option, Some, None, IfSome, if◌then◌else◌, refl, sym, ap, subst, ◌∙◌, arith, inl, inr}
use Rattle.std.specs.List.{AllByRecursion, flat_map}
use Rattle.std.specs.Option.{option_and_then, option_map_or}
use Rattle.std.proofs.lemmas.Bool.{and_from, cases_lt, eqb-true, false≢true, le-leb, lt-ltb, or_parts}
use Rattle.std.proofs.lemmas.Option.{cond_some, same_Some, some_pair_parts}
use Rattle.cil_model.specs.Blocks.{branch_targets, closes}
use Rattle.cil_model.specs.ClauseTrees.{Item, Tree, Message, branch_operator, branch_tree, closed_by, closed_tree, closing, condition, items_behind, tree_at, tree_from, tree_of}
use Rattle.cil_model.specs.Clauses.{is_kind}
use Rattle.cil_model.specs.Comparisons.{comparison_of}
use Rattle.cil_model.specs.FitKinds.{AreDecoded}
use Rattle.cil_model.specs.Kinds.{behind, behind_call, behind_condition, behind_test, compares_kinds, is_tested, operand_count, when}
use Rattle.cil_model.specs.Passes.{KindsOf, Stacks, merged, merged_kind, stack_at, successors}
use Rattle.cil_model.specs.Places.{place_number, place_of_number}
use Rattle.cil_model.specs.Runs.{instr_at}
use Rattle.cil_model.specs.Terms as terms
use Rattle.cil_model.specs.Terms.{Term}
use Rattle.cil_model.specs.TreeKinds.{branch_kind, kind_in, number_if, operator_kind}
use Rattle.cil_model.specs.UnitCalls.{unit_call}
use Rattle.cil_model.specs.declared.clause.ClauseKind.{ClauseKind}
use Rattle.cil_model.specs.declared.clause.ClauseKind.TheVariants as clause_kinds
use Rattle.cil_model.specs.declared.instruction.CmpOp.{CmpOp}
use Rattle.cil_model.specs.declared.instruction.CmpOp.TheVariants as comparisons
use Rattle.cil_model.specs.declared.instruction.Instr.{Instr}
use Rattle.cil_model.specs.declared.instruction.Op.{Op}
use Rattle.cil_model.specs.declared.instruction.Op.TheVariants as ops
use Rattle.cil_model.specs.declared.instruction.Test.{Test}
use Rattle.cil_model.specs.declared.instruction.Test.TheVariants as tests
use Rattle.cil_model.specs.declared.place.Kind.{Kind}
use Rattle.cil_model.specs.declared.place.Kind.TheVariants.{Int, Text}
use Rattle.cil_model.specs.declared.place.Place.{Place}
use Rattle.cil_model.specs.declared.place.Place.TheVariants as places
use Rattle.cil_model.specs.declared.shape.Shape.{Shape}
use Rattle.cil_model.specs.declared.unit_numbers.UnitCall.{UnitCall}
use Rattle.cil_model.specs.declared.unit_numbers.UnitCall.TheVariants as calls
use Rattle.cil_model.proofs.KindsGrow.{parts}
use Rattle.cil_model.proofs.Lists.{of_found}
use Rattle.cil_model.specs.ShortCode.{IsOfShortCode}
use Rattle.cil_model.proofs.KindsSettle.{Absorbs, found_at, reached_begins, settled}
use Rattle.clause_faults.specs.ClauseCodes.{goes_forward}
use Rattle.clause_faults.specs.Faults.{branch_faults, fault_if, is_misplaced, is_requires}
use Rattle.clause_faults.specs.PureCode.{calls_with_message, is_pure, is_pure_before}
use Rattle.clause_faults.specs.Ways.{Told, closing_faults, faults_at, faults_from, faults_here, is_old_value, stack_behind, stack_by, way_faults, ways_behind}
use Rattle.clause_faults.specs.declared.clause_fault.ClauseFault.{ClauseFault}
use Rattle.clause_faults.specs.declared.clause_fault.ClauseFault.TheVariants.{NotPure, OldForm, StackLeft}
use Rattle.clause_faults.proofs.FaultLemmas.NoFaults.{no_fault_if, none_in_both}
use Rattle.contract_extract.proofs.TreeLemmas.FitTrees.{FitAll, FitsIf, MayAsk, op_fits}
use Rattle.contract_extract.proofs.TreeLemmas.HasTree.{IsClause, Onward, faults_behind, is_right, open_call, trees_behind}
use Rattle.contract_extract.proofs.BlockLemmas.InstrOffsets.{left, left_falls, left_most, left_some, next_begins}
use Rattle.contract_extract.proofs.TreeLemmas.UnderKinds.{Under, compares_pushes, under_compares, under_int, under_merged, under_tested}

-- ---- stacks that merge

text_merged : (later : Kind) → merged_kind later Text ≡ Some later → later ≡ Text
text_merged Text e = refl
text_merged _ e = absurd cc

fits_merged : (shape : Shape) (ensured : Bool) (told : List Told) (items : List Item) (before later : List Kind) → FitAll shape ensured told items before
    → merged later before ≡ Some later → FitAll shape ensured told items later
fits_merged shape ensured [] [] [] [] fits e = tt
fits_merged shape ensured [] [] [] (k ∷ later) fits e = absurd cc
fits_merged shape ensured (t ∷ told) (Tree a ∷ items) (kind ∷ before) [] fits e = absurd cc
fits_merged shape ensured (t ∷ told) (Tree a ∷ items) (kind ∷ before) (k ∷ later) fits e =
    let p = parts (merged_kind k kind) (merged later before) (k ∷ later) e in
    let first : p.first ≡ k = cc in
    let others : p.others ≡ later = cc in (
      record {
        own = fits.0.own;
        is = fits.0.is;
        plain = fits.0.plain;
        under = under_merged fits.0.own kind k fits.0.under (p.first_is ∙ ap Some first);
      },
      fits_merged shape ensured told items before later fits.1 (p.others_are ∙ ap Some others),
    )
fits_merged shape ensured (t ∷ told) (Message ∷ items) (kind ∷ before) [] fits e = absurd cc
fits_merged shape ensured (t ∷ told) (Message ∷ items) (kind ∷ before) (k ∷ later) fits e =
    let p = parts (merged_kind k kind) (merged later before) (k ∷ later) e in
    let first : p.first ≡ k = cc in
    let others : p.others ≡ later = cc in (
      text_merged k (ap (merged_kind k) (sym fits.0) ∙ p.first_is ∙ ap Some first),
      fits_merged shape ensured told items before later fits.1 (p.others_are ∙ ap Some others),
    )
fits_merged shape ensured _ _ _ later fits e = absurd fits

-- ---- ends and branches

module _ (shape : Shape) (ensured : Bool) where
  -- The tree is a number, where there is one.
  abbrev pub IsNumber : Option Term → Type 0
  IsNumber tree = IfSome tree (λ t. kind_in shape.args shape.result ensured t ≡ Some Int)

  closed_number : (message : Bool) (told : List Told) (items : List Item) (before after : List Kind) → FitAll shape ensured told items before
      → behind_condition message before ≡ Some after → IsNumber (closed_tree message items)
  closed_number false told [] before after fits e = tt
  closed_number false told (Message ∷ items) before after fits e = tt
  closed_number false told (Tree a ∷ b ∷ items) before after fits e = tt
  closed_number false [] (Tree a ∷ []) before after fits e = absurd fits
  closed_number false (t ∷ told) (Tree a ∷ []) [] after fits e = absurd fits
  closed_number false (t ∷ told) (Tree a ∷ []) (Int ∷ before) after fits e = fits.0.is ∙ ap Some (under_int fits.0.own fits.0.under)
  closed_number false (t ∷ told) (Tree a ∷ []) (_ ∷ before) after fits e = absurd cc
  closed_number true told [] before after fits e = tt
  closed_number true told (top ∷ []) before after fits e = tt
  closed_number true told (top ∷ Message ∷ items) before after fits e = tt
  closed_number true told (top ∷ Tree a ∷ b ∷ items) before after fits e = tt
  closed_number true [] (Tree b ∷ Tree a ∷ []) before after fits e = absurd fits
  closed_number true [] (Message ∷ Tree a ∷ []) before after fits e = absurd fits
  closed_number true told (Tree b ∷ Tree a ∷ []) [] after fits e = absurd cc
  closed_number true told (Message ∷ Tree a ∷ []) [] after fits e = absurd cc
  closed_number true (t ∷ []) (Tree b ∷ Tree a ∷ []) (k ∷ before) after fits e = absurd fits.1
  closed_number true (t ∷ []) (Message ∷ Tree a ∷ []) (k ∷ before) after fits e = absurd fits.1
  closed_number true (t ∷ u ∷ told) (Tree b ∷ Tree a ∷ []) (Text ∷ Int ∷ before) after fits e = fits.1.0.is ∙ ap Some (under_int fits.1.0.own fits.1.0.under)
  closed_number true (t ∷ u ∷ told) (Message ∷ Tree a ∷ []) (Text ∷ Int ∷ before) after fits e = fits.1.0.is ∙ ap Some (under_int fits.1.0.own fits.1.0.under)
  closed_number true (t ∷ u ∷ told) (top ∷ Tree a ∷ []) (Text ∷ []) after fits e = absurd cc
  closed_number true (t ∷ u ∷ told) (top ∷ Tree a ∷ []) (_ ∷ []) after fits e = absurd cc
  closed_number true (t ∷ u ∷ told) (top ∷ Tree a ∷ []) (Text ∷ _ ∷ before) after fits e = absurd cc
  closed_number true (t ∷ u ∷ told) (top ∷ Tree a ∷ []) (_ ∷ k ∷ before) after fits e = absurd cc

  over_test : (a t n : Term) (own : Kind) → kind_in shape.args shape.result ensured a ≡ Some own → is_tested own ≡ true
      → kind_in shape.args shape.result ensured t ≡ Some Int → kind_in shape.args shape.result ensured n ≡ Some Int
      → kind_in shape.args shape.result ensured (terms.Cond a t n) ≡ Some Int
  over_test a t n own is tested is_t is_n =
      ap (λ x. branch_kind x (kind_in shape.args shape.result ensured t) (kind_in shape.args shape.result ensured n)) is
      ∙ ap (λ x. branch_kind (Some own) x (kind_in shape.args shape.result ensured n)) is_t ∙ ap (branch_kind (Some own) (Some Int)) is_n
      ∙ ap (λ (b : Bool). if b then merged_kind Int Int else None) tested

  both_numbers : (turned : Bool) (a : Term) (target next : Option Term) (own : Kind) → kind_in shape.args shape.result ensured a ≡ Some own → is_tested own ≡ true
      → IsNumber target → IsNumber next → IsNumber (condition turned a target next)
  both_numbers false a None next own is tested first second = tt
  both_numbers false a (Some t) None own is tested first second = tt
  both_numbers false a (Some t) (Some n) own is tested first second = over_test a t n own is tested first second
  both_numbers true a None next own is tested first second = tt
  both_numbers true a (Some t) None own is tested first second = tt
  both_numbers true a (Some t) (Some n) own is tested first second = over_test a n t own is tested second first

-- A comparing branch compares numbers, or references for equality, and so does its operator.
branch_number : (op : CmpOp) (j k a b : Kind) → compares_kinds op a b ≡ true → Under j a → Under k b
    → operator_kind (comparison_of (branch_operator op).0) (Some j) (Some k) ≡ Some Int
branch_number comparisons.Eq j k a b e u v = ap number_if (compares_pushes comparisons.Eq j k (under_compares comparisons.Eq j k a b u v e))
branch_number comparisons.Ge j k a b e u v = ap number_if (compares_pushes comparisons.Lt j k (under_compares comparisons.Lt j k a b u v e))
branch_number comparisons.Gt j k a b e u v = ap number_if (compares_pushes comparisons.Gt j k (under_compares comparisons.Gt j k a b u v e))
branch_number comparisons.Le j k a b e u v = ap number_if (compares_pushes comparisons.Gt j k (under_compares comparisons.Gt j k a b u v e))
branch_number comparisons.Lt j k a b e u v = ap number_if (compares_pushes comparisons.Lt j k (under_compares comparisons.Lt j k a b u v e))
branch_number comparisons.NeUn j k a b e u v = ap number_if (compares_pushes comparisons.Eq j k (under_compares comparisons.Eq j k a b u v e))
branch_number comparisons.GeUn j k a b e u v = ap number_if (compares_pushes comparisons.LtUn j k (under_compares comparisons.LtUn j k a b u v e))
branch_number comparisons.GtUn j k a b e u v = ap number_if (compares_pushes comparisons.GtUn j k (under_compares comparisons.GtUn j k a b u v e))
branch_number comparisons.LeUn j k a b e u v = ap number_if (compares_pushes comparisons.GtUn j k (under_compares comparisons.GtUn j k a b u v e))
branch_number comparisons.LtUn j k a b e u v = ap number_if (compares_pushes comparisons.LtUn j k (under_compares comparisons.LtUn j k a b u v e))

-- ---- the way through a clause

same_place : (a b : Place) → place_number a ≡ place_number b → a ≡ b
same_place a b e = same_Some a b (sym (back a) ∙ ap place_of_number e ∙ back b)
  where
    back : (p : Place) → place_of_number (place_number p) ≡ Some p
    back places.Void = refl
    back places.Bool = refl
    back places.Int = refl
    back places.Bools = refl
    back places.Ints = refl

closing_none : (op : Op) → closes op ≡ false → closing op ≡ None
closing_none (ops.Call number) e = open_call (unit_call number) e
closing_none _ e = refl

-- What no fault at an open instruction tells: it has its operands, and nothing is wrong here or after.
all_here : (closes pure lacks : Bool) (found here behind_it : List ClauseFault) (lack : ClauseFault) → closes ≡ false → pure ≡ true
    → (if closes then found else if not pure then [] else if lacks then lack ∷ [] else (here ++ behind_it)) ≡ []
    → (here ≡ []) × (behind_it ≡ [])
all_here true pure lacks found here behind_it lack stays allowed none = absurd cc
all_here false false lacks found here behind_it lack stays allowed none = absurd (false≢true allowed)
all_here false true true found here behind_it lack stays allowed none = absurd cc
all_here false true false found here behind_it lack stays allowed none = none_in_both here behind_it none

closing_typed : (shape : Shape) (call : Option UnitCall) (kind : ClauseKind) (message : Bool) (before after : List Kind) → closed_by call ≡ Some (kind, message)
    → behind_call shape call before ≡ Some after → behind_condition message before ≡ Some after
closing_typed shape (Some (calls.Requires m)) kind message before after e typed =
    subst (λ (b : Bool). behind_condition b before ≡ Some after) (some_pair_parts clause_kinds.Requires kind m message e).1 typed
closing_typed shape (Some (calls.Ensures m)) kind message before after e typed =
    subst (λ (b : Bool). behind_condition b before ≡ Some after) (some_pair_parts clause_kinds.Ensures kind m message e).1 typed
closing_typed shape _ kind message before after e typed = absurd cc

op_typed : (shape : Shape) (op : Op) (kind : ClauseKind) (message : Bool) (before after : List Kind) → closing op ≡ Some (kind, message)
    → behind shape op before ≡ Some after → behind_condition message before ≡ Some after
op_typed shape (ops.Call number) kind message before after e typed = closing_typed shape (unit_call number) kind message before after e typed
op_typed shape _ kind message before after e typed = absurd cc

module _ (is : List Instr) (shape : Shape) (start : ℕ) (call : Instr) (clause : IsClause is shape start call) (stacks : Stacks) (decoded : AreDecoded is)
    (kinds : KindsOf shape is stacks) where
  abbrev ensured : Bool
  ensured = is_kind clause_kinds.Ensures clause.kind

  abbrev Number : Option Term → Type 0
  Number tree = IsNumber shape ensured tree

  may_ask : (i : Instr) → instr_at is i.at ≡ Some i → start ≤ i.at → i.at < call.at → MayAsk shape ensured i i.op
  may_ask i found above below place asks =
      let none = none_in_both (fault_if (not (is_pure is i)) (NotPure i.at) ++ branch_faults start call i) _ (clause.right i found above below) in
      let placed : is_misplaced shape.result (closing call.op) i ≡ false = no_fault_if (is_misplaced shape.result (closing call.op) i) (OldForm i.at) none.1 in
      let wrong : (is_requires (closing call.op) || (not (is_old_value i.op) && not (place_number place == place_number shape.result))) ≡ false =
      subst (λ (o : Option Place). option_map_or (λ p. is_requires (closing call.op) || (not (is_old_value i.op) && not (place_number p == place_number shape.result))) o false ≡ false)
      asks placed in
      let apart = or_parts (is_requires (closing call.op)) (not (is_old_value i.op) && not (place_number place == place_number shape.result)) wrong in (
        by_kind clause.kind (subst (λ (c : Option (ClauseKind × Bool)). is_requires c ≡ false) clause.closes_it apart.0),
        λ result_call. own (place_number place == place_number shape.result) (is_old_value i.op) (eqb-true (place_number place) (place_number shape.result)) result_call apart.1,
      )
    where
      by_kind : (kind : ClauseKind) → is_requires (Some (kind, clause.message)) ≡ false → is_kind clause_kinds.Ensures kind ≡ true
      by_kind clause_kinds.Requires e = absurd cc
      by_kind clause_kinds.Ensures e = refl

      own : (same old : Bool) → (same ≡ true → place_number place ≡ place_number shape.result) → old ≡ false → (not old && not same) ≡ false → place ≡ shape.result
      own true old numbers e wrong = same_place place shape.result (numbers refl)
      own false true numbers e wrong = absurd cc
      own false false numbers e wrong = absurd cc

  abbrev Numbers : ℕ → Type 0
  Numbers most = (at : ℕ) (told : List Told) (items : List Item) (before : List Kind) → left is at ≤ most → start ≤ at → at ≤ call.at → stack_at is stacks at ≡ Some before
      → FitAll shape ensured told items before → faults_from most is shape call at told ≡ [] → Number (tree_from most is at items)

  module _ (most : ℕ) (rest : Numbers most) (i : Instr) (found : instr_at is i.at ≡ Some i) (few : left is i.at ≤ suc most) (above : start ≤ i.at) (below : i.at < call.at) where
    abbrev faults : ℕ → List Told → List ClauseFault
    faults = faults_behind is shape start call clause most i.at

    abbrev trees : ℕ → List Item → Option Term
    trees = trees_behind is shape start call clause most i.at

    later_number : (later : ℕ) (told : List Told) (items : List Item) (after : List Kind) → Onward is i.at call.at later → Absorbs (stack_at is stacks later) after
        → FitAll shape ensured told items after → faults later told ≡ [] → Number (trees later items)
    later_number later told items after on absorbs fits none =
        let forward : goes_forward i.at later call ≡ true = and_from (nat_lt i.at later) (nat_le later call.at) (lt-ltb i.at later on.above) (le-leb later call.at on.inside) in
        let none_later : faults_from most is shape call later told ≡ [] =
        subst (λ (b : Bool). (if b then faults_from most is shape call later told else []) ≡ []) forward none in
        rw (lt-ltb i.at later on.above) (rest later told items absorbs.kinds (omega (arith, left_falls is i.at later clause.short (left_some is i.at i found) on.above, few))
        (omega (arith, above, on.above)) on.inside absorbs.reached (fits_merged shape ensured told items after absorbs.kinds fits absorbs.merge) none_later)

    either_number : (target : ℕ) (a : Term) (turned : Bool) (own : Kind) (told : List Told) (items : List Item) (after : List Kind)
        → kind_in shape.args shape.result ensured a ≡ Some own → is_tested own ≡ true → FitAll shape ensured told items after
        → Onward is i.at call.at target → Onward is i.at call.at (i.at + i.size) → Absorbs (stack_at is stacks target) after → Absorbs (stack_at is stacks (i.at + i.size)) after
        → faults target told ++ (faults (i.at + i.size) told ++ []) ≡ [] → Number (condition turned a (trees target items) (trees (i.at + i.size) items))
    either_number target a turned own told items after is_a tested fits there next first second none =
        let apart = none_in_both (faults target told) (faults (i.at + i.size) told ++ []) none in
        both_numbers shape ensured turned a (trees target items) (trees (i.at + i.size) items) own is_a tested
        (later_number target told items after there first fits apart.0)
        (later_number (i.at + i.size) told items after next second fits (none_in_both (faults (i.at + i.size) told) [] apart.1).0)

    one_test : (target : ℕ) (turned : Bool) (t : Told) (told : List Told) (a : Term) (items : List Item) (kind : Kind) (before after : List Kind)
        → FitAll shape ensured (t ∷ told) (Tree a ∷ items) (kind ∷ before) → when (is_tested kind) before ≡ Some after
        → Onward is i.at call.at target → Onward is i.at call.at (i.at + i.size) → Absorbs (stack_at is stacks target) after → Absorbs (stack_at is stacks (i.at + i.size)) after
        → faults target told ++ (faults (i.at + i.size) told ++ []) ≡ [] → Number (condition turned a (trees target items) (trees (i.at + i.size) items))
    one_test target turned t told a items kind before after fits typed there next first second none =
        let p = cond_some (is_tested kind) before after typed in
        either_number target a turned fits.0.own told items after fits.0.is (under_tested fits.0.own kind fits.0.under p.0)
        (subst (FitAll shape ensured told items) p.1 fits.1) there next first second none

    branch_numbers : (test : Test) (target : ℕ) (told : List Told) (items : List Item) (before after : List Kind) → FitAll shape ensured told items before
        → behind_test test before ≡ Some after → Onward is i.at call.at target → Onward is i.at call.at (i.at + i.size)
        → AllByRecursion (λ at. Absorbs (stack_at is stacks at) after) (successors (ops.Branch test target) (i.at + i.size))
        → flat_map (λ later. faults later (stack_behind shape i (ops.Branch test target) told)) (ways_behind (ops.Branch test target) (i.at + i.size)) ≡ []
        → Number (branch_tree trees test target (i.at + i.size) items)
    branch_numbers tests.Always target told items before after fits typed there next absorb none =
        later_number target told items after there absorb.0 (subst (FitAll shape ensured told items) (same_Some before after typed) fits)
        (none_in_both (faults target told) [] none).0
    branch_numbers tests.True target told [] before after fits typed there next absorb none = tt
    branch_numbers tests.True target told (Message ∷ items) before after fits typed there next absorb none = tt
    branch_numbers tests.True target [] (Tree a ∷ items) before after fits typed there next absorb none = absurd fits
    branch_numbers tests.True target (t ∷ told) (Tree a ∷ items) [] after fits typed there next absorb none = absurd fits
    branch_numbers tests.True target (t ∷ told) (Tree a ∷ items) (kind ∷ before) after fits typed there next absorb none =
        one_test target false t told a items kind before after fits typed there next absorb.0 absorb.1.0 none
    branch_numbers tests.False target told [] before after fits typed there next absorb none = tt
    branch_numbers tests.False target told (Message ∷ items) before after fits typed there next absorb none = tt
    branch_numbers tests.False target [] (Tree a ∷ items) before after fits typed there next absorb none = absurd fits
    branch_numbers tests.False target (t ∷ told) (Tree a ∷ items) [] after fits typed there next absorb none = absurd fits
    branch_numbers tests.False target (t ∷ told) (Tree a ∷ items) (kind ∷ before) after fits typed there next absorb none =
        one_test target true t told a items kind before after fits typed there next absorb.0 absorb.1.0 none
    branch_numbers (tests.Cmp op) target told [] before after fits typed there next absorb none = tt
    branch_numbers (tests.Cmp op) target told (Message ∷ items) before after fits typed there next absorb none = tt
    branch_numbers (tests.Cmp op) target told (Tree b ∷ []) before after fits typed there next absorb none = tt
    branch_numbers (tests.Cmp op) target told (Tree b ∷ Message ∷ items) before after fits typed there next absorb none = tt
    branch_numbers (tests.Cmp op) target [] (Tree b ∷ Tree a ∷ items) before after fits typed there next absorb none = absurd fits
    branch_numbers (tests.Cmp op) target (t ∷ told) (Tree b ∷ Tree a ∷ items) [] after fits typed there next absorb none = absurd fits
    branch_numbers (tests.Cmp op) target (t ∷ []) (Tree b ∷ Tree a ∷ items) (kind ∷ before) after fits typed there next absorb none = absurd fits.1
    branch_numbers (tests.Cmp op) target (t ∷ u ∷ told) (Tree b ∷ Tree a ∷ items) (kind ∷ []) after fits typed there next absorb none = absurd fits.1
    branch_numbers (tests.Cmp op) target (t ∷ u ∷ told) (Tree b ∷ Tree a ∷ items) (kind_b ∷ kind_a ∷ before) after fits typed there next absorb none =
        let p = cond_some (compares_kinds op kind_a kind_b) before after typed in
        let number = branch_number op fits.1.0.own fits.0.own kind_a kind_b p.0 fits.1.0.under fits.0.under in
        either_number target (terms.Bin (branch_operator op).0 a b) (branch_operator op).1 Int told items after
        (ap (λ x. operator_kind (comparison_of (branch_operator op).0) x (kind_in shape.args shape.result ensured b)) fits.1.0.is
        ∙ ap (operator_kind (comparison_of (branch_operator op).0) (Some fits.1.0.own)) fits.0.is ∙ number)
        refl (subst (FitAll shape ensured told items) p.1 fits.1.1) there next absorb.0 absorb.1.0 none

    straight_number : (op : Op) → i.op ≡ op → MayAsk shape ensured i op → (told : List Told) (items : List Item) (before after : List Kind) → FitAll shape ensured told items before
        → behind shape op before ≡ Some after → Onward is i.at call.at (i.at + i.size) → Absorbs (stack_at is stacks (i.at + i.size)) after → faults_here i op told ≡ []
        → faults (i.at + i.size) (stack_by shape i op (operand_count shape op) told) ++ [] ≡ []
        → Number (option_and_then (trees (i.at + i.size)) (items_behind op items))
    straight_number op tie may told items before after fits typed next absorb here none =
        let new = stack_by shape i op (operand_count shape op) told in
        by (items_behind op items) (subst (λ (o : Option (List Kind)). FitsIf shape ensured (items_behind op items) o new) typed
        (op_fits shape ensured i op tie may told items before fits here))
      where
        by : (left_items : Option (List Item)) → FitsIf shape ensured left_items (Some after) (stack_by shape i op (operand_count shape op) told)
            → Number (option_and_then (trees (i.at + i.size)) left_items)
        by None fits_left = tt
        by (Some left_items) fits_left =
            later_number (i.at + i.size) (stack_by shape i op (operand_count shape op) told) left_items after next absorb fits_left
            (none_in_both (faults (i.at + i.size) (stack_by shape i op (operand_count shape op) told)) [] none).0

    op_numbers : (op : Op) → i.op ≡ op → MayAsk shape ensured i op → (message : Bool) → is_pure_before message op ≡ true → (told : List Told) (items : List Item) (before after : List Kind)
        → FitAll shape ensured told items before → behind shape op before ≡ Some after → Onward is i.at call.at (i.at + i.size)
        → AllByRecursion (Onward is i.at call.at) (branch_targets op) → AllByRecursion (λ at. Absorbs (stack_at is stacks at) after) (successors op (i.at + i.size))
        → faults_here i op told ≡ [] → flat_map (λ later. faults later (stack_behind shape i op told)) (ways_behind op (i.at + i.size)) ≡ []
        → Number (tree_at trees None i op items)
    op_numbers (ops.Branch test target) tie may m pure told items before after fits typed next targets absorb here none =
        branch_numbers test target told items before after fits typed targets.0 next absorb none
    op_numbers ops.Nop tie may m pure told items before after fits typed next targets absorb here none = straight_number ops.Nop tie may told items before after fits typed next absorb.0 here none
    op_numbers (ops.LoadArg n) tie may m pure told items before after fits typed next targets absorb here none = straight_number (ops.LoadArg n) tie may told items before after fits typed next absorb.0 here none
    op_numbers ops.Null tie may m pure told items before after fits typed next targets absorb here none = straight_number ops.Null tie may told items before after fits typed next absorb.0 here none
    op_numbers (ops.Const n) tie may m pure told items before after fits typed next targets absorb here none = straight_number (ops.Const n) tie may told items before after fits typed next absorb.0 here none
    op_numbers (ops.Bin operator) tie may m pure told items before after fits typed next targets absorb here none = straight_number (ops.Bin operator) tie may told items before after fits typed next absorb.0 here none
    op_numbers ops.Neg tie may m pure told items before after fits typed next targets absorb here none = straight_number ops.Neg tie may told items before after fits typed next absorb.0 here none
    op_numbers ops.Not tie may m pure told items before after fits typed next targets absorb here none = straight_number ops.Not tie may told items before after fits typed next absorb.0 here none
    op_numbers ops.ConvI4 tie may m pure told items before after fits typed next targets absorb here none = straight_number ops.ConvI4 tie may told items before after fits typed next absorb.0 here none
    op_numbers ops.Length tie may m pure told items before after fits typed next targets absorb here none = straight_number ops.Length tie may told items before after fits typed next absorb.0 here none
    op_numbers (ops.LoadElem place) tie may m pure told items before after fits typed next targets absorb here none = straight_number (ops.LoadElem place) tie may told items before after fits typed next absorb.0 here none
    op_numbers (ops.Text token) tie may m pure told items before after fits typed next targets absorb here none = straight_number (ops.Text token) tie may told items before after fits typed next absorb.0 here none
    op_numbers (ops.Call number) tie may m pure told items before after fits typed next targets absorb here none = straight_number (ops.Call number) tie may told items before after fits typed next absorb.0 here none
    op_numbers _ tie may m pure told items before after fits typed next targets absorb here none = absurd (false≢true pure)

    below_number : (told : List Told) (items : List Item) (before : List Kind) → stack_at is stacks i.at ≡ Some before → FitAll shape ensured told items before
        → faults_at faults is shape i told ≡ [] → Number (tree_at trees (closing i.op) i i.op items)
    below_number told items before reached fits none =
        let s = settled shape is stacks i.at i before decoded kinds found reached in
        let right = is_right is shape start call clause i found above below in
        let stays = clause.others_stay i found above below in
        let next = next_begins is i.at call.at i call clause.short found clause.there below in
        let size : IsOfShortCode i = of_found IsOfShortCode is i.at i clause.short.each found in
        let apart = all_here (closes i.op) (is_pure is i) (nat_lt (length told) (operand_count shape i.op)) (closing_faults i.at (operand_count shape i.op) (length told))
        (faults_here i i.op told) (flat_map (λ later. faults later (stack_behind shape i i.op told)) (ways_behind i.op (i.at + i.size))) (StackLeft i.at) stays right.pure none in
        rw (closing_none i.op stays) (op_numbers i.op refl (may_ask i found above below)
        (option_map_or (λ after. calls_with_message after.op) (instr_at is (i.at + i.size)) false) right.pure told items before s.after fits s.typed
        (record { above = omega (arith, size.some); inside = next.inside; begins = next.begins }) right.onward s.onward apart.0 apart.1)

  abbrev NumbersAt : ℕ → ℕ → Type 0
  NumbersAt most at = (told : List Told) (items : List Item) (before : List Kind) → left is at ≤ suc most → at ≤ call.at → stack_at is stacks at ≡ Some before
      → FitAll shape ensured told items before → faults_from (suc most) is shape call at told ≡ [] → Number (tree_from (suc most) is at items)

  instr_number : (most : ℕ) → Numbers most → (i : Instr) → instr_at is i.at ≡ Some i → start ≤ i.at → NumbersAt most i.at
  instr_number most rest i found above told items before few inside reached fits none =
      let none_i : faults_at (faults_behind is shape start call clause most i.at) is shape i told ≡ [] =
      subst (λ (o : Option Instr). option_map_or (λ j. faults_at (faults_behind is shape start call clause most i.at) is shape j told) o [] ≡ []) found none in
      rw found (elim (cases_lt i.at call.at) [
        | inl lower ↦ below_number most rest i found few above lower told items before reached fits none_i
        | inr upper ↦
            let end : i.at ≡ call.at = omega (arith, upper, inside) in
            let one : i ≡ call = same_Some i call (sym found ∙ ap (instr_at is) end ∙ clause.there) in
            let s = settled shape is stacks i.at i before decoded kinds found reached in
            let typed = op_typed shape call.op clause.kind clause.message before s.after clause.closes_it (subst (λ (k : Instr). behind shape k.op before ≡ Some s.after) one s.typed) in
            subst (λ (k : Instr). Number (tree_at (trees_behind is shape start call clause most i.at) (closing k.op) k k.op items)) (sym one)
            (rw (clause.closes_it) (closed_number shape ensured clause.message told items before s.after fits typed))
      ])

  numbers : (most : ℕ) → Numbers most
  numbers zero at told items before few above inside reached fits none = tt
  numbers (suc most) at told items before few above inside reached fits none =
      let (i, found) = reached_begins is stacks at before reached in
      let same : i.at ≡ at = found_at is at i found in
      subst (NumbersAt most) same (instr_number most (numbers most) i (ap (instr_at is) same ∙ found) (omega (arith, same, above))) told items before few inside reached fits none

  -- The clause of code with no fault is a number, where the method's code has kinds and the clause begins with an empty
  -- stack.
  pub clause_is_number : (tree : Term) → stack_at is stacks start ≡ Some [] → start ≤ call.at → way_faults is shape start call ≡ [] → tree_of is start ≡ Some tree
      → kind_in shape.args shape.result (is_kind clause_kinds.Ensures clause.kind) tree ≡ Some Int
  clause_is_number tree empty inside none made =
      subst Number made (numbers (length is) start [] [] [] (left_most is start) (omega arith) inside empty tt none)
