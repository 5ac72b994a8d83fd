-- One clause is closed: what is left of the block, or the first fault.
use Rattle.std.proofs.Common.{◌≡◌, ℕ, zero, suc, ◌+◌, ◌-◌, ◌<◌, ◌≤◌, Bool, false, get_or, List, [], ◌∷◌, ◌++◌, length, map, take, drop, Option, Some, None, IsSome, Result, Ok, Err, refl, sym, subst, ap, ◌∙◌, arith, append_assoc, append-nil, length-append, slice_get, slice_range, if◌then◌else◌}
use Rattle.std.specs.Prelude.{nat_lt, IsErrAnd}
use Rattle.cc_base.specs.Tests.{JudgesOrNoMemory}
use Rattle.cc_base.specs.declared.refusal.Refusal.{Refusal}
use Rattle.cc_base.specs.declared.refusal.Refusal.TheVariants.{Bad, NoMemory}
use Rattle.std.specs.List.{AllByRecursion}
use Rattle.std.specs.Option.{option_map_or}
use Rattle.std.proofs.lemmas.Bool.{ltb-false, or_parts}
use Rattle.std.proofs.lemmas.List.{map-append}
use Rattle.std.proofs.lemmas.List.Sums.{sum_by_push}
use Rattle.std.proofs.lemmas.Option.{get_or_from_slice_get, slice_get_within}
use Rattle.cil_model.specs.Blocks.{behind_last_closing, closes}
use Rattle.cil_model.specs.ClauseTrees.{clause_before, clauses_from, closing, tree_of}
use Rattle.cil_model.specs.Code.{MeetsStarts}
use Rattle.cil_model.specs.Limits.{MAX_CLAUSES, MAX_CONDITIONS, MAX_NODES, MAX_OLD_VALUES}
use Rattle.cil_model.specs.ShortCode.{AreOfShortCode, IsOfShortCode, LieFrom}
use Rattle.cil_model.specs.Terms.{Term, condition_depth, old_count, term_size}
use Rattle.cil_model.specs.WellFormed.{ClausesWithinLimits, told_by_code}
use Rattle.cil_model.specs.declared.clause.Clause.{Clause}
use Rattle.cil_model.specs.declared.clause.ClauseKind.{ClauseKind}
use Rattle.cil_model.specs.declared.instruction.Instr.{Instr}
use Rattle.cil_model.specs.declared.shape.Shape.{Shape}
use Rattle.cil_model.proofs.Lists.{all_append}
use Rattle.clause_faults.specs.ClauseLies.{IsClauseCode, clause_faults, code_between}
use Rattle.clause_faults.specs.Faults.{code_faults, faults_in, first_clause_fault, first_fault, limit_faults, with_clause}
use Rattle.clause_faults.specs.TooLarge.{are_too_many, is_too_large, old_values_in, passes_limit}
use Rattle.clause_faults.specs.declared.clause_fault.ClauseFault.{ClauseFault}
use Rattle.clause_faults.specs.declared.clause_fault.ClauseFault.TheVariants.{TooLong}
use Rattle.clause_faults.proofs.WayLemmas.Between.{faults_are, from_drop}
use Rattle.contract_extract.specs.Extracting.{BlockLeft, Goes, IsClosing, LeftBehind, NoneCloses, ReadWithin, closed_kind, olds_of}
use Rattle.contract_extract.proofs.TreeLemmas.ClauseLimits.{told_length, told_olds}
use Rattle.contract_extract.proofs.BlockLemmas.ClausesByIndex.{HasNoFault, has_tree}
use Rattle.contract_extract.proofs.BlockLemmas.Extracted.{begins_there, between_is, by_code, by_rest, by_size, first_of_drop, lie_in_order, lies_behind, split_at}
use Rattle.contract_extract.proofs.BlockLemmas.Segments.{body_segment, clauses_segment}

all_there : {X : Type 0} (P : X → Type 0) (xs : List X) (n : ℕ) (x : X) → AllByRecursion P xs → slice_get xs n ≡ Some x → P x
all_there P [] n x all there = absurd (cc)
all_there P (y ∷ xs) zero x all there = let e : y ≡ x = cc in subst P e all.0
all_there P (y ∷ xs) (suc n) x all there = all_there P xs n x all.1 there

-- What a call closes, by its kind.
kind_found : (found : Option (ClauseKind × Bool)) (kind : ClauseKind) → closed_kind found ≡ Some kind → (message : Bool) × (found ≡ Some (kind, message))
kind_found (Some (k, message)) kind e = let same : k ≡ kind = cc in (message, ap (λ k. Some (k, message)) same)
kind_found None kind e = absurd (cc)

no_kind : (found : Option (ClauseKind × Bool)) → closed_kind found ≡ None → found ≡ None
no_kind (Some (kind, message)) e = absurd (cc)
no_kind None e = refl

first_of_code : (code : List Instr) (call : Instr) (rest : List Instr) → (i : Instr) × (slice_get (code ++ call ∷ rest) 0 ≡ Some i)
first_of_code [] call rest = (call, refl)
first_of_code (i ∷ code) call rest = (i, refl)

-- An instruction of the code, by its index.
in_code : (is : List Instr) (first last : ℕ) → NoneCloses (take (last - first) (drop first is)) → (k : ℕ) (j : Instr) → first ≤ k → k < last → slice_get is k ≡ Some j → closes j.op ≡ false
in_code is first last none k j above below there =
    all_there (λ i. closes i.op ≡ false) (take (last - first) (drop first is)) (k - first) j none (in_prefix (last - first) (drop first is) (k - first) (omega (arith, above, below)) ∙ sym (from_drop is first (k - first)) ∙ ap (slice_get is) sum ∙ there)
  where
    sum : first + (k - first) ≡ k
    sum = omega (arith, above)

    in_prefix : (n : ℕ) (xs : List Instr) (m : ℕ) → m < n → slice_get (take n xs) m ≡ slice_get xs m
    in_prefix zero xs m l = absurd (omega (arith, l))
    in_prefix (suc n) [] m l = refl
    in_prefix (suc n) (x ∷ xs) zero l = refl
    in_prefix (suc n) (x ∷ xs) (suc m) l = in_prefix n xs m (omega (arith, l))

-- A clause that keeps the limits with those before it.
within_more : (clauses : List Clause) (kind : ClauseKind) (tree : Term) → ClausesWithinLimits clauses → passes_limit (map told_by_code clauses ++ (kind, Some tree) ∷ []) (Some tree) ≡ false
    → ClausesWithinLimits (clauses ++ record { kind = kind; tree = tree } ∷ [])
within_more clauses kind tree within small =
    let all = map told_by_code clauses ++ (kind, Some tree) ∷ [] in
    let clause : Clause = record { kind = kind; tree = tree } in
    let parts = or_parts (is_too_large tree) (are_too_many all) small in
    let one = or_parts (nat_lt MAX_NODES (term_size tree)) (nat_lt MAX_CONDITIONS (condition_depth tree)) parts.0 in
    let many = or_parts (nat_lt MAX_CLAUSES (length all)) (nat_lt MAX_OLD_VALUES (old_values_in all)) parts.1 in
    record {
      count = omega (arith, ltb-false _ _ many.0, told_length clauses kind (Some tree), length-append clauses (clause ∷ []));
      nodes = all_append (λ clause. term_size clause.tree ≤ MAX_NODES) clauses (clause ∷ []) within.nodes (ltb-false _ _ one.0, tt);
      conditions = all_append (λ clause. condition_depth clause.tree ≤ MAX_CONDITIONS) clauses (clause ∷ []) within.conditions (ltb-false _ _ one.1, tt);
      old_values = omega (arith, ltb-false _ _ many.1, told_olds clauses kind tree, sum_by_push (λ clause. old_count clause.tree) clauses clause);
    }

pub few_olds : (is : List Instr) (start : ℕ) (clauses : List Clause) (olds : ℕ) (kind : ClauseKind) (tree : Term) (more : ℕ) → ClausesWithinLimits clauses → olds ≡ olds_of clauses
    → ReadWithin is start clauses kind (Some (tree, more)) → olds + more ≤ MAX_OLD_VALUES
few_olds is start clauses olds kind tree more within counted (made, count, small) =
    let clause : Clause = record { kind = kind; tree = tree } in
    let all = within_more clauses kind tree within (ap (λ t. passes_limit (map told_by_code clauses ++ (kind, t) ∷ []) t) (sym made) ∙ small) in
    omega (arith, counted, count, all.old_values, sum_by_push (λ clause. old_count clause.tree) clauses clause)

module _ (is : List Instr) (shape : Shape) (clauses : List Clause) (olds first start last : ℕ) (short : AreOfShortCode is)
    (left : BlockLeft is shape clauses olds first start) (closed : IsClosing is first last) where
  one_call : (call : Instr) → slice_get is last ≡ Some call → closed.call ≡ call
  one_call call there = let e : Some closed.call ≡ Some call = sym closed.there ∙ there in some_same _ _ e
    where
      some_same : (a b : Instr) → Some a ≡ Some b → a ≡ b
      some_same a b e = cc

  -- An instruction there, as it is met.
  pub met : (d : Instr) → get_or is last d ≡ closed.call
  met d = get_or_from_slice_get is last closed.call d closed.there

  abbrev Code : List Instr
  Code = take (last - first) (drop first is)

  abbrev Rest : List Instr
  Rest = drop (last + 1) is

  abbrev Told : List (ClauseKind × Option Term)
  Told = map told_by_code clauses

  split : drop first is ≡ Code ++ closed.call ∷ Rest
  split = split_at is first last closed.call closed.order closed.there

  lie : LieFrom start (Code ++ closed.call ∷ Rest)
  lie = subst (LieFrom start) split left.lies

  some : 0 < closed.call.size
  some = (all_there IsOfShortCode is last closed.call short.each closed.there).some

  begins : (i : Instr) × ((slice_get is first ≡ Some i) × (i.at ≡ start))
  begins =
      let (i, there) = first_of_code Code closed.call Rest in
      let here : slice_get is first ≡ Some i = sym (first_of_drop is first) ∙ ap (λ rest. slice_get rest 0) split ∙ there in
      (i, (here, begins_there is first start i left.lies here))

  own : clause_faults is shape first last ≡ code_faults is shape start closed.call (Code ++ closed.call ∷ [])
  own =
      let (i, (here, at)) = begins in
      faults_are is shape first last i closed.call here closed.there
      ∙ ap (λ (n : ℕ). code_faults is shape n closed.call (code_between is first last)) at
      ∙ ap (code_faults is shape start closed.call) (between_is is first last closed.call closed.order closed.there)

  pub clause_code : IsClauseCode is first last
  clause_code = record { lie = lie_in_order is short; some = closed.order; within = slice_get_within is last closed.call closed.there }

  whole : first_clause_fault is shape ≡ first_fault (faults_in is shape start Told (Code ++ closed.call ∷ Rest))
  whole = left.faults ∙ ap (λ rest. first_fault (faults_in is shape start Told rest)) split

  pub fault_in_code : (f : ClauseFault) → first_fault (clause_faults is shape first last) ≡ Some f → first_clause_fault is shape ≡ Some f
  fault_in_code f e = whole ∙ by_code is shape start Told Code closed.call Rest closed.none closed.closes_it some lie f (ap first_fault (sym own) ∙ e)

  module _ (clean : first_fault (clause_faults is shape first last) ≡ None) where
    no_fault : first_fault (code_faults is shape start closed.call (Code ++ closed.call ∷ [])) ≡ None
    no_fault = ap first_fault (sym own) ∙ clean

    pub has_a_tree : AllByRecursion (MeetsStarts is) is → (kind : ClauseKind) → closed_kind (closing closed.call.op) ≡ Some kind → IsSome (tree_of is start)
    has_a_tree targets kind e =
        let (i, (here, at)) = begins in
        let (message, found) = kind_found (closing closed.call.op) kind e in
        let no_one : HasNoFault is shape first last i closed.call = record {
          first_is = here;
          last_is = closed.there;
          order = closed.order;
          kind = kind;
          message = message;
          closes_it = found;
          others_stay = in_code is first last closed.none;
          no_fault = ap (λ (n : ℕ). first_fault (code_faults is shape n closed.call (slice_range is first (last + 1)))) at
              ∙ ap (λ code. first_fault (code_faults is shape start closed.call code)) (between_is is first last closed.call closed.order closed.there) ∙ no_fault;
        } in
        subst (λ (n : ℕ). IsSome (tree_of is n)) at (has_tree is shape first last i closed.call short targets no_one)

    pub fault_in_size : (kind : ClauseKind) → closed_kind (closing closed.call.op) ≡ Some kind → ReadWithin is start clauses kind None → first_clause_fault is shape ≡ Some (TooLong closed.call.at)
    fault_in_size kind e large =
        let (message, found) = kind_found (closing closed.call.op) kind e in
        let limit : limit_faults is start Told closed.call ≡ TooLong closed.call.at ∷ [] =
        ap (λ f. if option_map_or (λ c. passes_limit (with_clause is start Told (Some c)) (tree_of is start)) f false then TooLong closed.call.at ∷ [] else []) found
        ∙ ap (λ b. if b then TooLong closed.call.at ∷ [] else []) large in
        whole ∙ by_size is shape start Told Code closed.call Rest closed.none closed.closes_it some lie no_fault limit

    -- Where the clause has no fault, this is what is left after it.
    behind : (after : List Clause) (olds_after : ℕ) → limit_faults is start Told closed.call ≡ [] → with_clause is start Told (closing closed.call.op) ≡ map told_by_code after
        → Told ++ clause_before is start (closing closed.call.op) ≡ map told_by_code after → olds_after ≡ olds_of after → ClausesWithinLimits after
        → LeftBehind is shape after olds_after last
    behind after olds_after limit same same_before counted within = λ call there. subst (λ (i : Instr). BlockLeft is shape after olds_after (last + 1) (i.at + i.size)) (one_call call there) (record {
      faults = whole ∙ by_rest is shape start Told Code closed.call Rest closed.none closed.closes_it some lie no_fault limit
          ∙ ap (λ told. first_fault (faults_in is shape (closed.call.at + closed.call.size) told Rest)) same;
      told = left.told ∙ ap (λ rest. Told ++ clauses_from is start rest) split
          ∙ ap (λ more. Told ++ more) (clauses_segment is start Code closed.call Rest closed.none closed.closes_it)
          ∙ sym (append_assoc Told (clause_before is start (closing closed.call.op)) (clauses_from is (closed.call.at + closed.call.size) Rest))
          ∙ ap (λ told. told ++ clauses_from is (closed.call.at + closed.call.size) Rest) same_before;
      body = left.body ∙ ap (behind_last_closing start) split ∙ body_segment start Code closed.call Rest closed.none closed.closes_it;
      lies = lies_behind is shape start Told Code closed.call Rest closed.none closed.closes_it some lie;
      counted = counted;
      within = within;
    })

    pub end_closed : closed_kind (closing closed.call.op) ≡ None → LeftBehind is shape clauses olds last
    end_closed e =
        let found = no_kind (closing closed.call.op) e in
        behind clauses olds (ap (λ f. if option_map_or (λ c. passes_limit (with_clause is start Told (Some c)) (tree_of is start)) f false then TooLong closed.call.at ∷ [] else []) found)
        (ap (with_clause is start Told) found) (ap (λ f. Told ++ clause_before is start f) found ∙ append-nil Told) left.counted left.within

    pub clause_closed : (kind : ClauseKind) (tree : Term) (more : ℕ) → closed_kind (closing closed.call.op) ≡ Some kind → ReadWithin is start clauses kind (Some (tree, more))
        → LeftBehind is shape (clauses ++ record { kind = kind; tree = tree } ∷ []) (olds + more) last
    clause_closed kind tree more e (made, count, small) =
        let clause : Clause = record { kind = kind; tree = tree } in
        let (message, found) = kind_found (closing closed.call.op) kind e in
        let one : Told ++ (kind, tree_of is start) ∷ [] ≡ map told_by_code (clauses ++ clause ∷ []) =
        ap (λ t. Told ++ (kind, t) ∷ []) made ∙ sym (map-append told_by_code clauses (clause ∷ [])) in
        behind (clauses ++ clause ∷ []) (olds + more)
        (ap (λ f. if option_map_or (λ c. passes_limit (with_clause is start Told (Some c)) (tree_of is start)) f false then TooLong closed.call.at ∷ [] else []) found
        ∙ ap (λ b. if b then TooLong closed.call.at ∷ [] else []) small)
        (ap (with_clause is start Told) found ∙ one) (ap (λ f. Told ++ clause_before is start f) found ∙ one)
        (omega (arith, left.counted, count, sum_by_push (λ clause. old_count clause.tree) clauses clause))
        (within_more clauses kind tree left.within (ap (λ t. passes_limit (Told ++ (kind, t) ∷ []) t) (sym made) ∙ small))

-- ---- answers

pub goes_carried : {X Y : Type 0} (r : Result Y (Refusal ClauseFault)) (refusal : Refusal ClauseFault) (part whole : Option ClauseFault) (P : X → Type 0) (Q : Y → Type 0)
    → IsErrAnd r (λ same. same ≡ refusal) → JudgesOrNoMemory {X = X} (Err refusal) part P → ((f : ClauseFault) → part ≡ Some f → whole ≡ Some f) → Goes r whole Q
goes_carried (Ok y) refusal part whole P Q is judged carried = elim is [ ]
goes_carried (Err same) (Bad f) part whole P Q is judged carried = rw is (carried f judged)
goes_carried (Err same) NoMemory part whole P Q is judged carried = rw is tt

pub goes_on : {X Y : Type 0} (r : Result Y (Refusal ClauseFault)) (refusal : Refusal ClauseFault) (whole : Option ClauseFault) (P : X → Type 0) (Q : Y → Type 0)
    → IsErrAnd r (λ same. same ≡ refusal) → Goes {X = X} (Err refusal) whole P → Goes r whole Q
goes_on (Ok y) refusal whole P Q is goes = elim is [ ]
goes_on (Err same) (Bad f) whole P Q is goes = rw is goes
goes_on (Err same) NoMemory whole P Q is goes = rw is tt
