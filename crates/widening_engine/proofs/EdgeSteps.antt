-- What flows into a block, with one more edge, and that it fits the block.
use Rattle.std.proofs.Common.{◌≡◌, ◌≢◌, ℕ, zero, suc, ◌+◌, ◌<◌, ◌≤◌, ◌==◌, Bool, true, false, List, [], ◌∷◌, ◌++◌, cond, map, filter, Option, Some, None, IfSome, unwrap_or, refl, sym, ap, subst, ◌∙◌, arith, inl, inr, append_assoc, append-nil, eq-eqb}
use Rattle.std.specs.List.{reduce}
use Rattle.std.proofs.lemmas.Bool.{cases_eq, ne_eqb}
use Rattle.std.proofs.lemmas.List.{map-append}
use Rattle.std.proofs.lemmas.List.Elements.{filter-append}
use Rattle.std.proofs.lemmas.List.FromFn.{get_or-map-range_with_len, length-map-range_with_len}
use Rattle.domain_api.specs.declared.flow_state.FlowState.{Ghosts as FlowWords}
use Rattle.domain_api.specs.declared.lattice.Lattice.{Ghosts as LatticeWords}
use Rattle.widening_engine.specs.Flows.{FitBlocks, flow_of}
use Rattle.widening_engine.specs.Merging.{joined, merged_by}
use Rattle.widening_engine.specs.Rounds.{Flow, behind, entering, incoming, incoming_by, is_head, merge, next, places, state_at, widened}
use Rattle.widening_engine.proofs.Lists.{range_one_more, reduce_more}

-- What holds of the states that flow: those of one block stay states of that block.
pub record Keeps {S : Type 0} (flow : Flow S) (fits : ℕ → S → Type 0) : Type 0 where
  pub source_below : (edge : ℕ) → edge < flow.edges → flow.source edge < flow.blocks
  pub target_below : (edge : ℕ) → edge < flow.edges → flow.target edge < flow.blocks
  pub along : (edge : ℕ) (a : S) → edge < flow.edges → fits (flow.source edge) a → fits (flow.target edge) (flow.along a edge)
  pub join : (block : ℕ) (a b : S) → fits block a → fits block b → fits block (flow.join a b)
  pub widen : (block : ℕ) (a b : S) → fits block a → fits block b → fits block (flow.widen a b)
  pub entry : fits 0 flow.entry
  pub nothing : (block : ℕ) → block < flow.blocks → fits block flow.nothing
  pub unknown : (block : ℕ) → block < flow.blocks → fits block (flow.unknown block)

module _ {S : Type 0} (flow : Flow S) (states : List S) where
  incoming_more : (edges : List ℕ) (edge block : ℕ)
      → incoming_by flow (edges ++ edge ∷ []) states block ≡ incoming_by flow edges states block ++ map (behind flow states) (cond (flow.target edge == block) (edge ∷ []) [])
  incoming_more edges edge block =
      ap (λ (es : List ℕ). entering flow block ++ map (behind flow states) es) (filter-append (λ e. flow.target e == block) edges (edge ∷ []))
      ∙ ap (λ (rest : List S). entering flow block ++ rest) (map-append (behind flow states) (filter (λ e. flow.target e == block) edges) (cond (flow.target edge == block) (edge ∷ []) []))
      ∙ sym (append_assoc (entering flow block) (map (behind flow states) (filter (λ e. flow.target e == block) edges)) (map (behind flow states) (cond (flow.target edge == block) (edge ∷ []) [])))

  pub merged-here : (n : ℕ) → merged_by flow (places (n + 1)) states (flow.target n) ≡ Some (joined flow.join (merged_by flow (places n) states (flow.target n)) (behind flow states n))
  unfolding merged_by
  merged-here n =
      let is_there : (flow.target n == flow.target n) ≡ true = eq-eqb (flow.target n) (flow.target n) refl in
      ap (λ (es : List ℕ). reduce flow.join (incoming_by flow es states (flow.target n))) (range_one_more n)
      ∙ ap (reduce flow.join) (incoming_more (places n) n (flow.target n)
      ∙ ap (λ (t : Bool). incoming_by flow (places n) states (flow.target n) ++ map (behind flow states) (cond t (n ∷ []) [])) is_there)
      ∙ reduce_more flow.join (incoming_by flow (places n) states (flow.target n)) (behind flow states n)

  pub merged-elsewhere : (n block : ℕ) → block ≢ flow.target n → merged_by flow (places (n + 1)) states block ≡ merged_by flow (places n) states block
  unfolding merged_by
  merged-elsewhere n block ne =
      let not_there : (flow.target n == block) ≡ false = ne_eqb (flow.target n) block (λ e. ne (sym e)) in
      ap (λ (es : List ℕ). reduce flow.join (incoming_by flow es states block)) (range_one_more n)
      ∙ ap (reduce flow.join) (incoming_more (places n) n block
      ∙ ap (λ (t : Bool). incoming_by flow (places n) states block ++ map (behind flow states) (cond t (n ∷ []) [])) not_there
      ∙ append-nil (incoming_by flow (places n) states block))

  pub merge_is : (all : List S) → unwrap_or (reduce flow.join all) flow.nothing ≡ merge flow all
  merge_is [] = refl
  merge_is (a ∷ others) = refl

-- ---- all states of one block fit it

abbrev pub FitsIfAny : {S : Type 0} → (S → Type 0) → Option S → Type 0
FitsIfAny fits None = Unit {0}
FitsIfAny fits (Some state) = fits state

fits-joined : {S : Type 0} (fits : S → Type 0) (join : S → S → S) (before : Option S) (state : S) → ((a b : S) → fits a → fits b → fits (join a b))
    → FitsIfAny fits before → fits state → fits (joined join before state)
fits-joined fits join None state kept first second = second
fits-joined fits join (Some a) state kept first second = kept a state first second

module _ {S : Type 0} (flow : Flow S) (fits : ℕ → S → Type 0) (keeps : Keeps flow fits) (states : List S) (fit : FitBlocks flow fits states) where
  pub behind_fits : (edge : ℕ) → edge < flow.edges → fits (flow.target edge) (behind flow states edge)
  behind_fits edge h = keeps.along edge (state_at flow states (flow.source edge)) h (fit.fit (flow.source edge) (keeps.source_below edge h))

  merged-fits_first : (block : ℕ) → FitsIfAny (fits block) (merged_by flow (places 0) states block)
  unfolding merged_by
  merged-fits_first block =
      elim (cases_eq block 0) [
        | inl e ↦ subst (λ b. FitsIfAny (fits b) (merged_by flow (places 0) states b)) (sym e) keeps.entry
        | inr ne ↦
            let not_first : (block == 0) ≡ false = ne_eqb block 0 ne in
            subst (λ (t : Bool). FitsIfAny (fits block) (reduce flow.join (cond t (flow.entry ∷ []) [] ++ []))) (sym not_first) tt
      ]

  merged-fits_more : (n block : ℕ) → n < flow.edges → FitsIfAny (fits block) (merged_by flow (places n) states block)
      → FitsIfAny (fits block) (merged_by flow (places (n + 1)) states block)
  merged-fits_more n block h before =
      elim (cases_eq block (flow.target n)) [
        | inl e ↦
            let here = fits-joined (fits (flow.target n)) flow.join (merged_by flow (places n) states (flow.target n)) (behind flow states n)
            (keeps.join (flow.target n)) (subst (λ b. FitsIfAny (fits b) (merged_by flow (places n) states b)) e before) (behind_fits n h) in
            subst (λ b. FitsIfAny (fits b) (merged_by flow (places (n + 1)) states b)) (sym e)
            (subst (FitsIfAny (fits (flow.target n))) (sym (merged-here flow states n)) here)
        | inr ne ↦ subst (FitsIfAny (fits block)) (sym (merged-elsewhere flow states n block ne)) before
      ]

  -- What flows into a block by the first edges fits it.
  pub merged_fits : (n block : ℕ) → n ≤ flow.edges → FitsIfAny (fits block) (merged_by flow (places n) states block)
  merged_fits zero block h = merged-fits_first block
  merged_fits (suc n) block h =
      let longer : n + 1 ≡ suc n = omega arith in
      subst (λ (m : ℕ). FitsIfAny (fits block) (merged_by flow (places m) states block)) longer
      (merged-fits_more n block (omega arith) (merged_fits n block (omega arith)))

  fits-merge : (block : ℕ) → block < flow.blocks → (all : List S) → FitsIfAny (fits block) (reduce flow.join all) → fits block (merge flow all)
  fits-merge block h [] fit = keeps.nothing block h
  fits-merge block h (a ∷ others) fit = fit

  pub fits-merged : (block : ℕ) → block < flow.blocks → fits block (merge flow (incoming flow states block))
  unfolding merged_by
  fits-merged block h = fits-merge block h (incoming flow states block) (merged_fits flow.edges block (omega arith))

  -- The next states fit as these do.
  pub next_fits : FitBlocks flow fits (next flow states)
  unfolding next
  next_fits = record {
    count = length-map-range_with_len (λ block. merge flow (incoming flow states block)) 0 flow.blocks;
    fit = λ block h.
        let there : 0 + block ≡ block = omega arith in
        let value = get_or-map-range_with_len (λ b. merge flow (incoming flow states b)) 0 flow.blocks block block flow.nothing h there in
        subst (fits block) (sym value) (fits-merged block h);
  }

-- Widened states fit as the old and the new ones do.
pub widened_fits : {S : Type 0} (flow : Flow S) (fits : ℕ → S → Type 0) (old new : List S) → Keeps flow fits → FitBlocks flow fits old → FitBlocks flow fits new
    → FitBlocks flow fits (widened flow old new)
unfolding widened
widened_fits flow fits old new law first second =
    let state = λ (block : ℕ). cond (is_head flow block) (flow.widen (state_at flow old block) (state_at flow new block)) (state_at flow new block) in
    record {
      count = length-map-range_with_len state 0 flow.blocks;
      fit = λ block h.
          let there : 0 + block ≡ block = omega arith in
          subst (fits block) (sym (get_or-map-range_with_len state 0 flow.blocks block block flow.nothing h there)) (either block (is_head flow block) (first.fit block h) (second.fit block h));
    }
  where
    either : (block : ℕ) (head : Bool) → fits block (state_at flow old block) → fits block (state_at flow new block)
        → fits block (cond head (flow.widen (state_at flow old block) (state_at flow new block)) (state_at flow new block))
    either block true a b = law.widen block (state_at flow old block) (state_at flow new block) a b
    either block false a b = b

-- What fits a block is like what flowed into it before.
pub like_before : {S : Type 0} (fits : S → Type 0) (like : S → S → Type 0) (state : S) → ((a : S) → fits a → like a state) → (before : Option S)
    → FitsIfAny fits before → IfSome before (λ first. like first state)
like_before fits like state alike None fit = tt
like_before fits like state alike (Some first) fit = alike first fit

-- The laws of a trait's states, of one code.
pub keeps : {S Code Gauge Point : Type 0} (words : FlowWords S Code Gauge Point) (lattice : LatticeWords S Point) (code : Code) → words.lawful code
    → ((code : Code) (edge : ℕ) → words.lawful code → edge < words.edge_count code → words.source code edge < words.block_count code)
    → ((code : Code) (edge : ℕ) → words.lawful code → edge < words.edge_count code → words.target code edge < words.block_count code)
    → ((code : Code) (edge : ℕ) (a : S) → words.lawful code → edge < words.edge_count code → words.fits code (words.source code edge) a
    → words.fits code (words.target code edge) (words.along a code edge))
    → ((code : Code) (block : ℕ) (a b : S) → words.lawful code → words.fits code block a → words.fits code block b → words.fits code block (lattice.join a b))
    → ((code : Code) (block : ℕ) (a b : S) → words.lawful code → words.fits code block a → words.fits code block b → words.fits code block (lattice.widen a b))
    → ((code : Code) → words.lawful code → words.fits code 0 (words.entry code))
    → ((code : Code) (block : ℕ) → words.lawful code → block < words.block_count code → words.fits code block words.nothing)
    → ((code : Code) (block : ℕ) → words.lawful code → block < words.block_count code → words.fits code block (words.unknown code block))
    → Keeps (flow_of words lattice code) (words.fits code)
keeps words lattice code lawful source target along join widen entry nothing unknown = record {
  source_below = λ edge h. source code edge lawful h;
  target_below = λ edge h. target code edge lawful h;
  along = λ edge a h fit. along code edge a lawful h fit;
  join = λ block a b first second. join code block a b lawful first second;
  widen = λ block a b first second. widen code block a b lawful first second;
  entry = entry code lawful;
  nothing = λ block h. nothing code block lawful h;
  unknown = λ block h. unknown code block lawful h;
}
