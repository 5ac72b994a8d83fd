-- Blocks of which nothing is known any more, one after another.
use Rattle.std.proofs.Common.{◌≡◌, ◌≢◌, ℕ, ◌+◌, ◌<◌, ◌≤◌, Bool, false, List, [], ◌∷◌, ◌++◌, length, get_or, refl, sym, ap, subst, ◌∙◌, arith, set, inl, inr, get_or-set_same, get_or-set_other}
use Rattle.std.proofs.lemmas.Bool.{cases_eq}
use Rattle.std.proofs.lemmas.List.{get_or_append_left, get_or_push, length_push, length-set}
use Rattle.widening_engine.specs.Kept.{AreForgotten, IsForgotten, block_at, no_block}
use Rattle.widening_engine.specs.Rounds.{Flow}
use Rattle.widening_engine.specs.declared.kept.Kept.{Kept}
use Rattle.widening_engine.specs.declared.kept_block.KeptBlock.{KeptBlock}

-- Of the first blocks nothing is known any more, and the others are as before.
pub record AreForgetting {S : Type 0} (flow : Flow S) (old : Kept S) (block : ℕ) (new : Kept S) (changed : List Bool) : Type 0 where
  pub entry : new.entry ≡ old.entry
  pub behind : new.behind.items ≡ old.behind.items
  pub begun : new.begun ≡ old.begun
  pub carried : new.carried.items ≡ old.carried.items
  pub stale : new.stale.items ≡ old.stale.items
  pub blocks : length new.blocks.items ≡ length old.blocks.items
  pub count : length changed ≡ block
  pub done : (k : ℕ) → k < block → IsForgotten flow k (block_at flow old.blocks.items k) (block_at flow new.blocks.items k) (get_or changed k false)
  pub rest : (k : ℕ) → block ≤ k → block_at flow new.blocks.items k ≡ block_at flow old.blocks.items k

module _ {S : Type 0} (flow : Flow S) (old : Kept S) where
  pub forgetting_none : (changed : List Bool) → changed ≡ [] → AreForgetting flow old 0 old changed
  forgetting_none changed none = record {
    entry = refl;
    behind = refl;
    begun = refl;
    carried = refl;
    stale = refl;
    blocks = refl;
    count = ap length none;
    done = λ k h. absurd (omega arith);
    rest = λ k h. refl;
  }

  -- One more block.
  pub forgetting_more : (block : ℕ) (mid new : Kept S) (changed told : List Bool) (before value : KeptBlock S) (other : Bool) → AreForgetting flow old block mid changed → block < length old.blocks.items
      → before ≡ block_at flow mid.blocks.items block → IsForgotten flow block before value other → new.entry ≡ mid.entry → new.behind.items ≡ mid.behind.items → new.begun ≡ mid.begun
      → new.carried.items ≡ mid.carried.items → new.stale.items ≡ mid.stale.items
      → new.blocks.items ≡ set mid.blocks.items block value → told ≡ changed ++ other ∷ [] → AreForgetting flow old (block + 1) new told
  forgetting_more block mid new changed told before value other so_far inside before_is forgotten entry behind begun carried stale blocks pushed = record {
    entry = entry ∙ so_far.entry;
    behind = behind ∙ so_far.behind;
    begun = begun ∙ so_far.begun;
    carried = carried ∙ so_far.carried;
    stale = stale ∙ so_far.stale;
    blocks = ap length blocks ∙ length-set mid.blocks.items block value ∙ so_far.blocks;
    count = ap length pushed ∙ length_push changed other ∙ ap (λ (n : ℕ). n + 1) so_far.count;
    done = λ k h. elim (cases_eq k block) [
      | inl e ↦ subst (λ (j : ℕ). IsForgotten flow j (block_at flow old.blocks.items j) (block_at flow new.blocks.items j) (get_or told j false)) (sym e) here
      | inr ne ↦
          subst (λ (b : KeptBlock S). IsForgotten flow k (block_at flow old.blocks.items k) b (get_or told k false)) (sym (elsewhere k ne))
          (subst (λ (t : Bool). IsForgotten flow k (block_at flow old.blocks.items k) (block_at flow mid.blocks.items k) t)
          (sym (ap (λ (items : List Bool). get_or items k false) pushed ∙ get_or_append_left changed (other ∷ []) false k (omega (arith, so_far.count)))) (so_far.done k (omega arith)))
    ];
    rest = λ k h. let ne : k ≢ block = omega arith in elsewhere k ne ∙ so_far.rest k (omega arith);
  }
    where
      elsewhere : (k : ℕ) → k ≢ block → block_at flow new.blocks.items k ≡ block_at flow mid.blocks.items k
      elsewhere k ne = ap (λ (items : List (KeptBlock S)). block_at flow items k) blocks ∙ get_or-set_other mid.blocks.items block k value (no_block flow.nothing) ne

      here : IsForgotten flow block (block_at flow old.blocks.items block) (block_at flow new.blocks.items block) (get_or told block false)
      here =
          let is : block_at flow new.blocks.items block ≡ value =
          ap (λ (items : List (KeptBlock S)). block_at flow items block) blocks ∙ get_or-set_same mid.blocks.items block value (no_block flow.nothing) (omega (arith, so_far.blocks)) in
          let mark : get_or told block false ≡ other = ap (λ (items : List Bool). get_or items block false) pushed ∙ get_or_push changed other false block so_far.count in
          subst (λ (t : Bool). IsForgotten flow block (block_at flow old.blocks.items block) (block_at flow new.blocks.items block) t) (sym mark)
          (subst (λ (b : KeptBlock S). IsForgotten flow block (block_at flow old.blocks.items block) b other) (sym is)
          (subst (λ (b : KeptBlock S). IsForgotten flow block b value other) (before_is ∙ so_far.rest block (omega arith)) forgotten))

  -- All blocks.
  pub forgetting_all : (new : Kept S) (changed : List Bool) → AreForgetting flow old (length old.blocks.items) new changed → AreForgotten flow old new changed
  forgetting_all new changed all = record {
    entry = all.entry;
    behind = all.behind;
    begun = all.begun;
    carried = all.carried;
    stale = all.stale;
    blocks = all.blocks;
    count = all.count;
    block = all.done;
  }
