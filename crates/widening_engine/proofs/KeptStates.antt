-- What is kept of a round, and what it is in the next one.
use Rattle.std.proofs.Common.{◌≡◌, ℕ, zero, suc, ◌+◌, ◌<◌, ◌≤◌, ◌==◌, Bool, true, false, not, ◌&&◌, ◌||◌, List, [], ◌∷◌, ◌++◌, cond, length, get_or, map, filter, Option, Some, None, unwrap_or, refl, sym, ap, subst, ◌∙◌, arith, inl, inr, set, get_or-set_same, get_or-set_other}
use Rattle.std.specs.List.{count_by, list_all, reduce}
use Rattle.std.proofs.lemmas.Bool.{cases_Bool, cases_eq, eqb-true, ne_eqb}
use Rattle.std.proofs.lemmas.List.{get_or-map, get_or_read, length-map, length-set, map-append}
use Rattle.std.proofs.lemmas.List.Elements.{filter-append}
use Rattle.std.proofs.lemmas.List.FromFn.{fill_by_all, get_or-map-range_with_len, length-map-range_with_len}
use Rattle.widening_engine.specs.Flows.{FitBlocks}
use Rattle.widening_engine.specs.Kept.{AreForgotten, AreStepped, AreTold, IsKept, IsKeptOf, IsRefreshed, all_behind, block_at, flowing, fresh_join, is_computed, join_of, joined_anew, no_block, states_of, IsSettled, TellsChange}
use Rattle.widening_engine.specs.Merging.{joined, merged_by}
use Rattle.widening_engine.specs.Rounds.{Flow, all_unknown, behind, entering, incoming, is_begun, is_carried, is_head, is_inductive, merge, never_reached, next, places, state_at, widened}
use Rattle.widening_engine.specs.Work.{HasCountedBy, HasCountedAtMostBy, IsTestOf, after_ticks, begins_anew, changes}
use Rattle.widening_engine.specs.declared.kept.Kept.{Kept}
use Rattle.widening_engine.specs.declared.kept_block.KeptBlock.{KeptBlock}
use Rattle.widening_engine.proofs.Counting.{all_pass, count_more, one_fails}
use Rattle.widening_engine.proofs.EdgeSteps.{FitsIfAny, Keeps, fits-merged, merge_is, merged-elsewhere, merged-here, merged_fits, next_fits, widened_fits}
use Rattle.widening_engine.proofs.Rounds.{unknown_fits}
use Rattle.widening_engine.proofs.Lists.{map_map, map_same, map_set, range_one_more}

-- ---- reading

module _ {S : Type 0} (flow : Flow S) (blocks : List (KeptBlock S)) where
  pub as_many : (n : ℕ) → length (states_of blocks) ≡ n → length blocks ≡ n
  as_many n many = sym (length-map blocks (λ block. block.state)) ∙ many

  pub state_is : (block : ℕ) → block < length blocks → state_at flow (states_of blocks) block ≡ (block_at flow blocks block).state
  state_is block inside = get_or-map (λ (b : KeptBlock S). b.state) blocks block (no_block flow.nothing) flow.nothing inside

  -- A block that was read from its place.
  pub block_read : (i j : ℕ) (x : KeptBlock S) → length (states_of blocks) ≡ flow.blocks → i ≡ j → j < flow.blocks → x ≡ get_or blocks i x → x ≡ block_at flow blocks j
  block_read i j x many same below read =
      let count : length blocks ≡ flow.blocks = as_many flow.blocks many in
      subst (λ (k : ℕ). x ≡ block_at flow blocks k) same (get_or_read blocks i x (omega (arith, count)) read (no_block flow.nothing))

  pub state_read : (i j : ℕ) (x : KeptBlock S) → length (states_of blocks) ≡ flow.blocks → i ≡ j → j < flow.blocks → x ≡ get_or blocks i x → x.state ≡ state_at flow (states_of blocks) j
  state_read i j x many same below read =
      let count : length blocks ≡ flow.blocks = as_many flow.blocks many in
      ap (λ (b : KeptBlock S). b.state) (block_read i j x many same below read) ∙ sym (state_is j (omega (arith, count)))

-- A mark that was read from its place.
pub mark_read : (marks : List Bool) (i j : ℕ) (t : Bool) → i ≡ j → j < length marks → t ≡ get_or marks i t → t ≡ get_or marks j false
mark_read marks i j t same inside read = subst (λ (k : ℕ). t ≡ get_or marks k false) same (get_or_read marks i t (omega arith) read false)

-- ---- what flows into a block

module _ {S : Type 0} (flow : Flow S) where
  pub next_at : (states : List S) (block : ℕ) → block < flow.blocks → state_at flow (next flow states) block ≡ flowing flow states block
  unfolding next
  next_at states block h =
      let there : 0 + block ≡ block = omega arith in
      get_or-map-range_with_len (λ b. merge flow (incoming flow states b)) 0 flow.blocks block block flow.nothing h there

  pub behind_at : (states given : List S) (edge : ℕ) → given ≡ all_behind flow states → edge < flow.edges → get_or given edge flow.nothing ≡ behind flow states edge
  behind_at states given edge is h =
      let there : 0 + edge ≡ edge = omega arith in
      ap (λ (items : List S). get_or items edge flow.nothing) is ∙ get_or-map-range_with_len (behind flow states) 0 flow.edges edge edge flow.nothing h there

  module _ (old new : List S) (block : ℕ) where
    at_one : (t : Bool) (edge : ℕ) → (t ≡ true → behind flow old edge ≡ behind flow new edge) → map (behind flow old) (cond t (edge ∷ []) []) ≡ map (behind flow new) (cond t (edge ∷ []) [])
    at_one true edge same = ap (λ (state : S). state ∷ []) (same refl)
    at_one false edge same = refl

    last_edge : (states : List S) (n : ℕ) → map (behind flow states) (filter (λ edge. flow.target edge == block) (places (n + 1)))
        ≡ map (behind flow states) (filter (λ edge. flow.target edge == block) (places n)) ++ map (behind flow states) (cond (flow.target n == block) (n ∷ []) [])
    last_edge states n =
        ap (λ (es : List ℕ). map (behind flow states) (filter (λ edge. flow.target edge == block) es)) (range_one_more n)
        ∙ ap (map (behind flow states)) (filter-append (λ edge. flow.target edge == block) (places n) (n ∷ []))
        ∙ map-append (behind flow states) (filter (λ edge. flow.target edge == block) (places n)) (cond (flow.target n == block) (n ∷ []) [])

    by_edges : (n : ℕ) → ((edge : ℕ) → edge < n → flow.target edge ≡ block → behind flow old edge ≡ behind flow new edge)
        → map (behind flow old) (filter (λ edge. flow.target edge == block) (places n)) ≡ map (behind flow new) (filter (λ edge. flow.target edge == block) (places n))
    by_edges zero same = refl
    by_edges (suc n) same =
        let longer : suc n ≡ n + 1 = omega arith in
        let before = by_edges n (λ edge h e. same edge (omega arith) e) in
        let here = at_one (flow.target n == block) n (λ e. same n (omega arith) (eqb-true (flow.target n) block e)) in
        ap (λ (m : ℕ). map (behind flow old) (filter (λ edge. flow.target edge == block) (places m))) longer
        ∙ last_edge old n ∙ (λ i. before i ++ here i) ∙ sym (last_edge new n)
        ∙ ap (λ (m : ℕ). map (behind flow new) (filter (λ edge. flow.target edge == block) (places m))) (sym longer)

    -- What flows in is the same where the state behind each edge to the block is.
    pub flowing_same : ((edge : ℕ) → edge < flow.edges → flow.target edge ≡ block → behind flow old edge ≡ behind flow new edge) → flowing flow old block ≡ flowing flow new block
    flowing_same same = ap (λ (rest : List S). merge flow (entering flow block ++ rest)) (by_edges flow.edges same)

-- ---- each block goes on

module _ {S : Type 0} (flow : Flow S) (fits : ℕ → S → Type 0) (law : Keeps flow fits) where
  -- The join that a block takes is what flows into it.
  pub taken : (old : Kept S) (joins : List (Option S)) → IsKept flow fits old
      → joins ≡ map (joined_anew flow (states_of old.blocks.items) old.stale.items (places flow.edges)) (places flow.blocks) → (block : ℕ) → block < flow.blocks
      → unwrap_or (fresh_join flow.nothing (get_or old.stale.items block false) (get_or joins block None)) (join_of (block_at flow old.blocks.items block))
      ≡ flowing flow (states_of old.blocks.items) block
  unfolding merged_by
  taken old joins kept are block h =
      let states : List S = states_of old.blocks.items in
      let there : 0 + block ≡ block = omega arith in
      let item : get_or joins block None ≡ joined_anew flow states old.stale.items (places flow.edges) block =
      ap (λ (items : List (Option S)). get_or items block None) are
      ∙ get_or-map-range_with_len (joined_anew flow states old.stale.items (places flow.edges)) 0 flow.blocks block block None h there in
      ap (λ (o : Option S). unwrap_or (fresh_join flow.nothing (get_or old.stale.items block false) o) (join_of (block_at flow old.blocks.items block))) item
      ∙ either (get_or old.stale.items block false) (join_of (block_at flow old.blocks.items block)) (merged_by flow (places flow.edges) states block) (flowing flow states block)
      (merge_is flow states (incoming flow states block)) (kept.join block h)
    where
      either : (stale : Bool) (join : S) (merged : Option S) (value : S) → unwrap_or merged flow.nothing ≡ value → (stale ≡ false → join ≡ value)
          → unwrap_or (fresh_join flow.nothing stale (cond stale merged None)) join ≡ value
      either true join merged value anew as_kept = anew
      either false join merged value anew as_kept = as_kept refl

  -- It fits the block.
  pub taken_fits : (old : Kept S) → IsKept flow fits old → (block : ℕ) → block < flow.blocks → fits block (flowing flow (states_of old.blocks.items) block)
  taken_fits old kept block h = fits-merged flow fits law (states_of old.blocks.items) kept.fit block h

  all_next : (states new : List S) → length new ≡ flow.blocks → ((block : ℕ) → block < flow.blocks → state_at flow new block ≡ flowing flow states block) → new ≡ next flow states
  unfolding next
  all_next states new many each = fill_by_all (flowing flow states) new flow.blocks flow.nothing many each

  by_lateness : (late : Bool) (states new : List S) → length new ≡ flow.blocks
      → ((block : ℕ) → block < flow.blocks → state_at flow new block ≡ cond (late && is_head flow block) (flow.widen (state_at flow states block) (flowing flow states block)) (flowing flow states block))
      → new ≡ cond late (widened flow states (next flow states)) (next flow states)
  unfolding widened
  by_lateness true states new many each =
      fill_by_all (λ block. cond (is_head flow block) (flow.widen (state_at flow states block) (state_at flow (next flow states) block)) (state_at flow (next flow states) block)) new flow.blocks flow.nothing many
      (λ block h. each block h
      ∙ ap (λ (a : S). cond (is_head flow block) (flow.widen (state_at flow states block) a) a) (sym (next_at flow states block h)))
  by_lateness false states new many each = all_next states new many each

  module _ (late : Bool) (heads : List Bool) (joins : List (Option S)) (old new : Kept S) (changed : List Bool)
      (kept : IsKept flow fits old) (are : joins ≡ map (joined_anew flow (states_of old.blocks.items) old.stale.items (places flow.edges)) (places flow.blocks))
      (heads_are : heads ≡ map (is_head flow) (places flow.blocks)) (stepped : AreStepped flow late heads joins old new changed) where
    count_old : length old.blocks.items ≡ flow.blocks
    count_old = kept.blocks

    count_new : length new.blocks.items ≡ flow.blocks
    count_new = stepped.blocks ∙ count_old

    head_at : (block : ℕ) → block < flow.blocks → get_or heads block false ≡ is_head flow block
    head_at block h =
        let there : 0 + block ≡ block = omega arith in
        ap (λ (items : List Bool). get_or items block false) heads_are ∙ get_or-map-range_with_len (is_head flow) 0 flow.blocks block block false h there

    -- The new states are those of the next round.
    pub stepped_states : states_of new.blocks.items ≡ cond late (widened flow (states_of old.blocks.items) (next flow (states_of old.blocks.items))) (next flow (states_of old.blocks.items))
    stepped_states =
        let states : List S = states_of old.blocks.items in
        by_lateness late states (states_of new.blocks.items) (length-map new.blocks.items (λ block. block.state) ∙ count_new)
        (λ block h.
        let inside : block < length old.blocks.items = omega (arith, count_old) in
        let value = taken old joins kept are block h in
        state_is flow new.blocks.items block (omega (arith, count_new)) ∙ (stepped.block block inside).state
        ∙ (λ i. cond (late && head_at block h i) (flow.widen (sym (state_is flow old.blocks.items block inside) i) (value i)) (value i)))

    pub stepped_fit : FitBlocks flow fits (states_of new.blocks.items)
    stepped_fit = subst (FitBlocks flow fits) (sym stepped_states) (either late)
      where
        either : (b : Bool) → FitBlocks flow fits (cond b (widened flow (states_of old.blocks.items) (next flow (states_of old.blocks.items))) (next flow (states_of old.blocks.items)))
        either true = widened_fits flow fits (states_of old.blocks.items) (next flow (states_of old.blocks.items)) law kept.fit (next_fits flow fits law (states_of old.blocks.items) kept.fit)
        either false = next_fits flow fits law (states_of old.blocks.items) kept.fit

    pub stepped_kept : IsKeptOf flow fits (states_of old.blocks.items) new
    stepped_kept = record {
      entry = stepped.entry ∙ kept.entry;
      blocks = count_new;
      edges = ap length stepped.behind ∙ kept.edges;
      fit = stepped_fit;
      behind = stepped.behind ∙ kept.behind;
      begun = λ yes. kept.begun (sym stepped.begun ∙ yes);
      marks = ap length stepped.carried ∙ kept.marks;
      carried = λ edge h yes. kept.carried edge h (sym (ap (λ (items : List Bool). get_or items edge false) stepped.carried) ∙ yes);
      count = stepped.count ∙ kept.count;
      join = λ block h not. (stepped.block block (omega (arith, count_old))).join ∙ taken old joins kept are block h;
      join_fits = λ block h. subst (fits block) (sym ((stepped.block block (omega (arith, count_old))).join ∙ taken old joins kept are block h)) (taken_fits old kept block h);
      settled = λ block h. (stepped.block block (omega (arith, count_old))).settled;
    }

    pub stepped_told : AreTold flow (states_of old.blocks.items) (states_of new.blocks.items) changed
    stepped_told = record {
      count = stepped.told ∙ count_old;
      told = λ block h.
          let inside : block < length old.blocks.items = omega (arith, count_old) in
          subst (λ (a : S). TellsChange a (state_at flow (states_of new.blocks.items) block) (get_or changed block false)) (sym (state_is flow old.blocks.items block inside))
          (subst (λ (b : S). TellsChange (block_at flow old.blocks.items block).state b (get_or changed block false)) (sym (state_is flow new.blocks.items block (omega (arith, count_new))))
          (stepped.block block inside).told);
    }

-- What a block goes on from.
module _ {S : Type 0} (flow : Flow S) (fits : ℕ → S → Type 0) (law : Keeps flow fits) (old : Kept S) (joins : List (Option S)) (kept : IsKept flow fits old)
    (are : joins ≡ map (joined_anew flow (states_of old.blocks.items) old.stale.items (places flow.edges)) (places flow.blocks)) (block : ℕ) (h : block < flow.blocks) (b : KeptBlock S) (fresh : Option S)
    (b_is : b ≡ block_at flow old.blocks.items block) (fresh_is : fresh ≡ fresh_join flow.nothing (get_or old.stale.items block false) (get_or joins block None)) where
  pub step_like : (like : S → S → Type 0) → ((x y : S) → fits block x → fits block y → like x y) → like b.state (unwrap_or fresh (join_of b))
  step_like like alike =
      let state : fits block b.state = subst (fits block) (state_is flow old.blocks.items block (omega (arith, kept.blocks)) ∙ ap (λ (x : KeptBlock S). x.state) (sym b_is)) (kept.fit.fit block h) in
      let join : fits block (unwrap_or fresh (join_of b)) =
      subst (fits block) (sym ((λ i. unwrap_or (fresh_is i) (join_of (b_is i))) ∙ taken flow fits law old joins kept are block h)) (taken_fits flow fits law old kept block h) in
      alike b.state (unwrap_or fresh (join_of b)) state join

  pub step_settled : IsSettled flow.widen b
  step_settled = subst (IsSettled flow.widen) (sym b_is) (kept.settled block h)

-- ---- the edges are computed again

module _ {S : Type 0} (flow : Flow S) (fits : ℕ → S → Type 0) (law : Keeps flow fits) where
  pub refreshed_kept : (every : Bool) (before : List S) (changed : List Bool) (old new : Kept S) → 0 < flow.blocks → IsKeptOf flow fits before old → AreTold flow before (states_of old.blocks.items) changed
      → IsRefreshed flow every changed old new → IsKept flow fits new
  refreshed_kept every before changed old new first kept told again =
      let states : List S = states_of old.blocks.items in
      let states_are : states_of new.blocks.items ≡ states = ap states_of again.blocks in
      let value : (edge : ℕ) → edge < flow.edges → get_or new.behind.items edge flow.nothing ≡ behind flow states edge =
      λ edge h. again.behind edge h
      ∙ either (is_computed flow every changed edge) (behind flow states edge) (get_or old.behind.items edge flow.nothing)
      (λ same. behind_at flow before old.behind.items edge kept.behind h
      ∙ ap (λ (a : S). flow.along a edge) (sym ((told.told (flow.source edge) (law.source_below edge h)).0 (as_before every (get_or changed (flow.source edge) false) same)))) in
      record {
        entry = again.entry ∙ kept.entry;
        blocks = ap length again.blocks ∙ kept.blocks;
        edges = again.edges;
        fit = subst (FitBlocks flow fits) (sym states_are) kept.fit;
        behind = fill_by_all (behind flow (states_of new.blocks.items)) new.behind.items flow.edges flow.nothing again.edges
            (λ edge h. value edge h ∙ ap (λ (s : List S). behind flow s edge) (sym states_are));
        begun = λ yes.
            ap (flow.leq flow.entry) (ap (λ (s : List S). state_at flow s 0) states_are ∙ (told.told 0 first).0 (again.begun yes).1) ∙ kept.begun (again.begun yes).0;
        marks = again.marks ∙ kept.marks;
        carried = λ edge h yes.
            let source = ap (λ (s : List S). behind flow s edge) states_are ∙ sym (value edge h) ∙ again.behind_same edge h yes ∙ behind_at flow before old.behind.items edge kept.behind h in
            let target = ap (λ (s : List S). state_at flow s (flow.target edge)) states_are ∙ (told.told (flow.target edge) (law.target_below edge h)).0 (again.target_same edge h yes) in
            (λ i. flow.leq (source i) (target i)) ∙ kept.carried edge h (again.carried edge h yes);
        count = again.count ∙ kept.count;
        join = λ block h not.
            ap (λ (items : List (KeptBlock S)). join_of (block_at flow items block)) again.blocks
            ∙ kept.join block h (again.stale block not)
            ∙ flowing_same flow before states block (λ edge below to_it.
            sym (behind_at flow before old.behind.items edge kept.behind below)
            ∙ sym (again.same edge below (ap (λ (b : ℕ). get_or new.stale.items b false) to_it ∙ not))
            ∙ value edge below)
            ∙ ap (λ (s : List S). flowing flow s block) (sym states_are);
        join_fits = λ block h. subst (λ (items : List (KeptBlock S)). fits block (join_of (block_at flow items block))) (sym again.blocks) (kept.join_fits block h);
        settled = λ block h. subst (λ (items : List (KeptBlock S)). IsSettled flow.widen (block_at flow items block)) (sym again.blocks) (kept.settled block h);
      }
    where
      either : (t : Bool) (a b : S) → (t ≡ false → b ≡ a) → cond t a b ≡ a
      either true a b same = refl
      either false a b same = same refl

      as_before : (a b : Bool) → (a || b) ≡ false → b ≡ false
      as_before false b not = not
      as_before true b not = cc

  begun_states : (blocks : List (KeptBlock S)) → blocks ≡ map (λ block. no_block flow.nothing) (places flow.blocks) → states_of blocks ≡ never_reached flow
  begun_states blocks are = ap states_of are ∙ map_map (λ (b : KeptBlock S). b.state) (λ block. no_block flow.nothing) (places flow.blocks)

  pub begun_fit : (blocks : List (KeptBlock S)) → blocks ≡ map (λ block. no_block flow.nothing) (places flow.blocks) → FitBlocks flow fits (states_of blocks)
  begun_fit blocks are = subst (FitBlocks flow fits) (sym (begun_states blocks are)) (record {
    count = length-map-range_with_len (λ block. flow.nothing) 0 flow.blocks;
    fit = λ block h.
        let there : 0 + block ≡ block = omega arith in
        subst (fits block) (sym (get_or-map-range_with_len (λ b. flow.nothing) 0 flow.blocks block block flow.nothing h there)) (law.nothing block h);
  })

  -- The same where all edges are computed and all blocks are to be joined anew.
  pub begun_kept : (changed : List Bool) (old new : Kept S) → old.entry ≡ flow.entry → old.blocks.items ≡ map (λ block. no_block flow.nothing) (places flow.blocks)
      → old.begun ≡ false → old.carried.items ≡ map (λ edge. false) (places flow.edges) → old.stale.items ≡ map (λ block. true) (places flow.blocks)
      → IsRefreshed flow true changed old new → IsKept flow fits new × (states_of new.blocks.items ≡ never_reached flow)
  begun_kept changed old new entry blocks begun carried stale again =
      let states_are : states_of new.blocks.items ≡ never_reached flow =
      ap states_of again.blocks ∙ begun_states old.blocks.items blocks in
      let block_is : (block : ℕ) → block < flow.blocks → block_at flow new.blocks.items block ≡ no_block flow.nothing =
      λ block h.
      let there : 0 + block ≡ block = omega arith in
      ap (λ (items : List (KeptBlock S)). block_at flow items block) (again.blocks ∙ blocks)
      ∙ get_or-map-range_with_len (λ b. no_block flow.nothing) 0 flow.blocks block block (no_block flow.nothing) h there in
      let set : (marks : List Bool) (block : ℕ) → marks ≡ map (λ block. true) (places flow.blocks) → block < flow.blocks → get_or marks block false ≡ true =
      λ marks block are h.
      let there : 0 + block ≡ block = omega arith in
      ap (λ (items : List Bool). get_or items block false) are ∙ get_or-map-range_with_len (λ b. true) 0 flow.blocks block block false h there in (
        record {
          entry = again.entry ∙ entry;
          blocks = ap length (again.blocks ∙ blocks) ∙ length-map-range_with_len (λ block. no_block flow.nothing) 0 flow.blocks;
          edges = again.edges;
          fit = subst (λ (items : List (KeptBlock S)). FitBlocks flow fits (states_of items)) (sym again.blocks) (begun_fit old.blocks.items blocks);
          behind = fill_by_all (behind flow (states_of new.blocks.items)) new.behind.items flow.edges flow.nothing again.edges
              (λ edge h. again.behind edge h
              ∙ ap (λ (items : List (KeptBlock S)). behind flow (states_of items) edge) (sym again.blocks));
          begun = λ yes. absurd_of (sym (again.begun yes).0 ∙ begun);
          marks = again.marks ∙ ap length carried ∙ length-map-range_with_len (λ edge. false) 0 flow.edges;
          carried = λ edge h yes.
              let there : 0 + edge ≡ edge = omega arith in
              absurd_of (sym (again.carried edge h yes) ∙ ap (λ (items : List Bool). get_or items edge false) carried ∙ get_or-map-range_with_len (λ e. false) 0 flow.edges edge edge false h there);
          count = again.count ∙ ap length stale ∙ length-map-range_with_len (λ block. true) 0 flow.blocks;
          join = λ block h not. absurd_of (sym (set old.stale.items block stale h) ∙ again.stale block not);
          join_fits = λ block h. subst (λ (b : KeptBlock S). fits block (join_of b)) (sym (block_is block h)) (law.nothing block h);
          settled = λ block h. subst (λ (b : KeptBlock S). IsSettled flow.widen b) (sym (block_is block h)) (λ e. absurd_of (sym e));
        },
        states_are,
      )
    where
      absurd_of : {X : Type 0} → true ≡ false → X
      absurd_of e = cc

-- ---- nothing is known any more

module _ {S : Type 0} (flow : Flow S) (fits : ℕ → S → Type 0) (law : Keeps flow fits) (old new : Kept S) (changed : List Bool) (kept : IsKept flow fits old) (forgotten : AreForgotten flow old new changed) where
  count_forgotten : length new.blocks.items ≡ flow.blocks
  count_forgotten = forgotten.blocks ∙ kept.blocks

  pub forgotten_states : states_of new.blocks.items ≡ all_unknown flow
  forgotten_states = fill_by_all flow.unknown (states_of new.blocks.items) flow.blocks flow.nothing (length-map new.blocks.items (λ block. block.state) ∙ count_forgotten)
      (λ block h. state_is flow new.blocks.items block (omega (arith, count_forgotten)) ∙ (forgotten.block block (omega (arith, kept.blocks))).state)

  pub forgotten_kept : IsKeptOf flow fits (states_of old.blocks.items) new
  forgotten_kept = record {
    entry = forgotten.entry ∙ kept.entry;
    blocks = count_forgotten;
    edges = ap length forgotten.behind ∙ kept.edges;
    fit = unknown_fits flow fits (states_of new.blocks.items) law forgotten_states;
    behind = forgotten.behind ∙ kept.behind;
    begun = λ yes. kept.begun (sym forgotten.begun ∙ yes);
    marks = ap length forgotten.carried ∙ kept.marks;
    carried = λ edge h yes. kept.carried edge h (sym (ap (λ (items : List Bool). get_or items edge false) forgotten.carried) ∙ yes);
    count = ap length forgotten.stale ∙ kept.count;
    join = λ block h not. (forgotten.block block (omega (arith, kept.blocks))).join ∙ kept.join block h (sym (ap (λ (items : List Bool). get_or items block false) forgotten.stale) ∙ not);
    join_fits = λ block h. subst (fits block) (sym ((forgotten.block block (omega (arith, kept.blocks))).join)) (kept.join_fits block h);
    settled = λ block h. (forgotten.block block (omega (arith, kept.blocks))).settled (kept.settled block h);
  }

  pub forgotten_told : AreTold flow (states_of old.blocks.items) (states_of new.blocks.items) changed
  forgotten_told = record {
    count = forgotten.count ∙ kept.blocks;
    told = λ block h.
        let inside : block < length old.blocks.items = omega (arith, kept.blocks) in
        subst (λ (a : S). TellsChange a (state_at flow (states_of new.blocks.items) block) (get_or changed block false)) (sym (state_is flow old.blocks.items block inside))
        (subst (λ (b : S). TellsChange (block_at flow old.blocks.items block).state b (get_or changed block false)) (sym (state_is flow new.blocks.items block (omega (arith, count_forgotten))))
        (forgotten.block block inside).told);
  }

-- ---- how many edges are computed again

pub count_same : (p q : ℕ → Bool) (n : ℕ) → ((k : ℕ) → k < n → p k ≡ q k) → count_by p (places n) ≡ count_by q (places n)
count_same p q zero same = refl
count_same p q (suc n) same =
    let longer : suc n ≡ n + 1 = omega arith in
    let before = count_same p q n (λ k h. same k (omega arith)) in
    let here = same n (omega arith) in
    ap (λ (m : ℕ). count_by p (places m)) longer ∙ count_more p n ∙ (λ i. before i + cond (here i) 1 0) ∙ sym (count_more q n) ∙ ap (λ (m : ℕ). count_by q (places m)) (sym longer)

-- They are those whose sources have different states by the test.
pub told_changes : {S : Type 0} (flow : Flow S) (equal : S → S → Bool) (every : Bool) (before states : List S) (changed : List Bool) → IsTestOf every equal
    → ((edge : ℕ) → edge < flow.edges → flow.source edge < flow.blocks) → AreTold flow before states changed
    → count_by (is_computed flow every changed) (places flow.edges) ≡ changes equal flow before states
unfolding changes
told_changes {S} flow equal every before states changed tells below told =
    count_same (is_computed flow every changed) (begins_anew equal flow before states) flow.edges
    (λ edge h. as_told every tells (state_at flow before (flow.source edge)) (state_at flow states (flow.source edge)) (get_or changed (flow.source edge) false) (told.told (flow.source edge) (below edge h)))
  where
    as_told : (e : Bool) → IsTestOf e equal → (a b : S) (t : Bool) → TellsChange a b t → (e || t) ≡ not (equal a b)
    as_told true never a b t told = ap not (sym (never a b))
    as_told false tells a b false told = ap not (sym ((tells a b).1 (sym (told.0 refl))))
    as_told false tells a b true told = elim (cases_Bool (equal a b)) [
      | inl same ↦ cc (told.1 (sym ((tells a b).0 same)))
      | inr other ↦ ap not (sym other)
    ]

-- ---- the states are inductive

module _ {S : Type 0} (flow : Flow S) (states : List S) where
  pub not_begun : is_begun flow states ≡ false → false ≡ is_inductive flow states
  unfolding is_inductive
  not_begun not = sym (ap (λ (t : Bool). t && list_all (is_carried flow states) (places flow.edges)) not)

  pub not_carried : (edge : ℕ) → edge < flow.edges → is_carried flow states edge ≡ false → false ≡ is_inductive flow states
  unfolding is_inductive
  not_carried edge h not = sym (ap (λ (t : Bool). is_begun flow states && t) (one_fails (is_carried flow states) edge flow.edges h not) ∙ never (is_begun flow states))
    where
      never : (b : Bool) → (b && false) ≡ false
      never true = refl
      never false = refl

  pub all_carried : is_begun flow states ≡ true → ((edge : ℕ) → edge < flow.edges → is_carried flow states edge ≡ true) → true ≡ is_inductive flow states
  unfolding is_inductive
  all_carried begun each = sym (λ i. begun i && all_pass (is_carried flow states) flow.edges each i)

-- What was found to be included is so, and everything else is as it was.
module _ {S : Type 0} (flow : Flow S) (fits : ℕ → S → Type 0) (old new : Kept S) (kept : IsKept flow fits old) (entry : new.entry ≡ old.entry)
    (blocks : new.blocks.items ≡ old.blocks.items) (behind_is : new.behind.items ≡ old.behind.items) (stale : new.stale.items ≡ old.stale.items) where
  pub found_kept : (new.begun ≡ true → is_begun flow (states_of old.blocks.items) ≡ true) → length new.carried.items ≡ flow.edges
      → ((edge : ℕ) → edge < flow.edges → get_or new.carried.items edge false ≡ true → is_carried flow (states_of old.blocks.items) edge ≡ true) → IsKept flow fits new
  found_kept begun marks carried = subst (λ (items : List (KeptBlock S)). IsKeptOf flow fits (states_of items) new) (sym blocks) (record {
    entry = entry ∙ kept.entry;
    blocks = ap length blocks ∙ kept.blocks;
    edges = ap length behind_is ∙ kept.edges;
    fit = subst (λ (items : List (KeptBlock S)). FitBlocks flow fits (states_of items)) (sym blocks) kept.fit;
    behind = behind_is ∙ kept.behind;
    begun = begun;
    marks = marks;
    carried = carried;
    count = ap length stale ∙ kept.count;
    join = λ block h not. ap (λ (items : List (KeptBlock S)). join_of (block_at flow items block)) blocks ∙ kept.join block h (sym (ap (λ (items : List Bool). get_or items block false) stale) ∙ not);
    join_fits = λ block h. subst (λ (items : List (KeptBlock S)). fits block (join_of (block_at flow items block))) (sym blocks) (kept.join_fits block h);
    settled = λ block h. subst (λ (items : List (KeptBlock S)). IsSettled flow.widen (block_at flow items block)) (sym blocks) (kept.settled block h);
  })

  -- Of the state where the code begins.
  pub begun_found : new.carried.items ≡ old.carried.items → (answer : Bool) → new.begun ≡ answer → answer ≡ is_begun flow (states_of old.blocks.items) → IsKept flow fits new
  begun_found same answer is found = found_kept (λ told. sym found ∙ sym is ∙ told) (ap length same ∙ kept.marks)
      (λ edge h told. kept.carried edge h (sym (ap (λ (items : List Bool). get_or items edge false) same) ∙ told))

  -- Of the state behind an edge.
  pub carried_found : (edge : ℕ) (answer : Bool) → edge < flow.edges → new.begun ≡ old.begun → new.carried.items ≡ set old.carried.items edge answer
      → answer ≡ is_carried flow (states_of old.blocks.items) edge → IsKept flow fits new
  carried_found edge answer inside same is found = found_kept (λ told. kept.begun (sym same ∙ told)) (ap length is ∙ length-set old.carried.items edge answer ∙ kept.marks)
      (λ k h told. elim (cases_eq k edge) [
        | inl e ↦ ap (is_carried flow (states_of old.blocks.items)) e ∙ sym found
            ∙ sym (get_or-set_same old.carried.items edge answer false (omega (arith, kept.marks, inside))) ∙ sym (ap (λ (items : List Bool). get_or items edge false) is)
            ∙ ap (λ (j : ℕ). get_or new.carried.items j false) (sym e) ∙ told
        | inr ne ↦ kept.carried k h (sym (ap (λ (items : List Bool). get_or items k false) is ∙ get_or-set_other old.carried.items edge k answer false ne) ∙ told)
      ])

-- ---- what flows into the blocks that are to be joined anew

module _ {S : Type 0} (flow : Flow S) (states : List S) (stale : List Bool) where
  abbrev anew : ℕ → ℕ → Option S
  anew n block = joined_anew flow states stale (places n) block

  pub anew_none : (t : Bool) → t ≡ get_or stale 0 false → 0 < flow.blocks
      → cond t (set (map (λ block. None) (places flow.blocks)) 0 (Some flow.entry)) (map (λ block. None) (places flow.blocks)) ≡ map (anew 0) (places flow.blocks)
  unfolding merged_by
  anew_none true is below = map_set (λ block. None) (anew 0) flow.blocks 0 (Some flow.entry) below
      (ap (λ (t : Bool). cond t (merged_by flow (places 0) states 0) None) (sym is))
      (λ k ne. ap (λ (t : Bool). cond (get_or stale k false) (reduce flow.join (cond t (flow.entry ∷ []) [] ++ [])) None) (ne_eqb k 0 ne) ∙ nothing (get_or stale k false))
    where
      nothing : (t : Bool) → cond {A = Option S} t None None ≡ None
      nothing true = refl
      nothing false = refl
  anew_none false is below = map_same (λ block. None) (anew 0) flow.blocks each
    where
      nothing : (t : Bool) → cond {A = Option S} t None None ≡ None
      nothing true = refl
      nothing false = refl

      each : (k : ℕ) → None ≡ anew 0 k
      each k = elim (cases_eq k 0) [
        | inl e ↦ sym (ap (λ (j : ℕ). anew 0 j) e ∙ ap (λ (t : Bool). cond t (merged_by flow (places 0) states 0) None) (sym is))
        | inr ne ↦ sym (ap (λ (t : Bool). cond (get_or stale k false) (reduce flow.join (cond t (flow.entry ∷ []) [] ++ [])) None) (ne_eqb k 0 ne) ∙ nothing (get_or stale k false))
      ]

  pub anew_more : (t : Bool) (n : ℕ) → t ≡ get_or stale (flow.target n) false → flow.target n < flow.blocks
      → cond t (set (map (anew n) (places flow.blocks)) (flow.target n) (Some (joined flow.join (get_or (map (anew n) (places flow.blocks)) (flow.target n) None) (behind flow states n)))) (map (anew n) (places flow.blocks))
      ≡ map (anew (n + 1)) (places flow.blocks)
  anew_more true n is below =
      let there : 0 + flow.target n ≡ flow.target n = omega arith in
      let before : get_or (map (anew n) (places flow.blocks)) (flow.target n) None ≡ merged_by flow (places n) states (flow.target n) =
      get_or-map-range_with_len (anew n) 0 flow.blocks (flow.target n) (flow.target n) None below there ∙ ap (λ (t : Bool). cond t (merged_by flow (places n) states (flow.target n)) None) (sym is) in
      map_set (anew n) (anew (n + 1)) flow.blocks (flow.target n) _ below
      (ap (λ (t : Bool). cond t (merged_by flow (places (n + 1)) states (flow.target n)) None) (sym is) ∙ merged-here flow states n
      ∙ ap (λ (o : Option S). Some (joined flow.join o (behind flow states n))) (sym before))
      (λ k ne. ap (λ (o : Option S). cond (get_or stale k false) o None) (merged-elsewhere flow states n k ne))
  anew_more false n is below = map_same (anew n) (anew (n + 1)) flow.blocks each
    where
      each : (k : ℕ) → anew n k ≡ anew (n + 1) k
      each k = elim (cases_eq k (flow.target n)) [
        | inl e ↦ ap (λ (j : ℕ). anew n j) e ∙ ap (λ (t : Bool). cond t (merged_by flow (places n) states (flow.target n)) None) (sym is)
            ∙ ap (λ (t : Bool). cond t (merged_by flow (places (n + 1)) states (flow.target n)) None) is ∙ ap (λ (j : ℕ). anew (n + 1) j) (sym e)
        | inr ne ↦ ap (λ (o : Option S). cond (get_or stale k false) o None) (sym (merged-elsewhere flow states n k ne))
      ]

  -- What was joined at a place so far, and that it fits the block.
  pub anew_at : (n block : ℕ) (joins : List (Option S)) → joins ≡ map (anew n) (places flow.blocks) → block < flow.blocks → get_or joins block None ≡ anew n block
  anew_at n block joins is h =
      let there : 0 + block ≡ block = omega arith in
      ap (λ (items : List (Option S)). get_or items block None) is ∙ get_or-map-range_with_len (anew n) 0 flow.blocks block block None h there

pub anew_fits : {S : Type 0} (flow : Flow S) (fits : ℕ → S → Type 0) (states : List S) (stale : List Bool) → Keeps flow fits → FitBlocks flow fits states → (n block : ℕ) → n ≤ flow.edges
    → FitsIfAny (fits block) (joined_anew flow states stale (places n) block)
anew_fits flow fits states stale law fit n block h = either (get_or stale block false) (merged_by flow (places n) states block) (merged_fits flow fits law states fit n block h)
  where
    either : (t : Bool) (merged : Option _) → FitsIfAny (fits block) merged → FitsIfAny (fits block) (cond t merged None)
    either true merged fit = fit
    either false merged fit = tt

-- ---- counting

pub count_each : (n : ℕ) → count_by (λ (k : ℕ). true) (places n) ≡ n
count_each zero = refl
count_each (suc n) =
    let longer : suc n ≡ n + 1 = omega arith in
    let more = count_more (λ (k : ℕ). true) n in
    subst (λ (m : ℕ). count_by (λ (k : ℕ). true) (places m) ≡ m) (sym longer) (omega (arith, more, count_each n))

-- All edges are computed again.
pub all_count : {S : Type 0} (flow : Flow S) (changed : List Bool) → count_by (is_computed flow true changed) (places flow.edges) ≡ flow.edges
all_count flow changed = count_each flow.edges

-- The count rose by as many as there are edges whose sources have different states.
pub counted : {S : Type 0} (flow : Flow S) (every : Bool) (before states after : List S) (changed given : List Bool) (old new : ℕ) → ((edge : ℕ) → edge < flow.edges → flow.source edge < flow.blocks)
    → AreTold flow before states changed → states ≡ after → given ≡ changed
    → new ≡ after_ticks (count_by (is_computed flow every given) (places flow.edges)) old → HasCountedBy every (λ equal. changes equal flow before after) old new
counted flow every before states after changed given old new below told are same ticked = λ equal tells.
    ticked ∙ ap (λ (marks : List Bool). after_ticks (count_by (is_computed flow every marks) (places flow.edges)) old) same
    ∙ ap (λ (n : ℕ). after_ticks n old) (told_changes flow equal every before states changed tells below told ∙ ap (changes equal flow before) are)

pub counted_most : {S : Type 0} (flow : Flow S) (every : Bool) (before states after : List S) (changed given : List Bool) (old new : ℕ) → ((edge : ℕ) → edge < flow.edges → flow.source edge < flow.blocks)
    → AreTold flow before states changed → states ≡ after → given ≡ changed
    → new ≤ old + count_by (is_computed flow every given) (places flow.edges) → HasCountedAtMostBy every (λ equal. changes equal flow before after) old new
counted_most flow every before states after changed given old new below told are same most = λ equal tells.
    subst (λ (n : ℕ). new ≤ old + n)
    (ap (λ (marks : List Bool). count_by (is_computed flow every marks) (places flow.edges)) same
    ∙ told_changes flow equal every before states changed tells below told ∙ ap (changes equal flow before) are) most
