-- Blocks that go on, one after another.
use Rattle.std.proofs.Common.{◌≡◌, ◌≢◌, ℕ, ◌+◌, ◌<◌, ◌≤◌, Bool, false, ◌&&◌, List, [], ◌∷◌, ◌++◌, length, get_or, Option, None, refl, sym, ap, subst, ◌∙◌, arith, set, inl, inr, get_or-set_same, get_or-set_other}
use Rattle.std.proofs.lemmas.Bool.{cases_eq}
use Rattle.std.proofs.lemmas.List.{get_or_append_left, get_or_push, length_push, length-set}
use Rattle.widening_engine.specs.Kept.{AreStepped, IsStepped, block_at, fresh_join, no_block}
use Rattle.widening_engine.specs.Rounds.{Flow}
use Rattle.widening_engine.specs.declared.kept.Kept.{Kept}
use Rattle.widening_engine.specs.declared.kept_block.KeptBlock.{KeptBlock}

-- The first blocks have gone on, and the others are as before.
pub record AreStepping {S : Type 0} (flow : Flow S) (late : Bool) (heads : List Bool) (joins : List (Option S)) (old : Kept S) (block : ℕ) (new : Kept S) (left : List (Option S)) (changed : List Bool) : Type 0 where
  pub entry : new.entry ≡ old.entry
  pub behind : new.behind.items ≡ old.behind.items
  pub begun : new.begun ≡ old.begun
  pub carried : new.carried.items ≡ old.carried.items
  pub count : length new.stale.items ≡ length old.stale.items
  pub blocks : length new.blocks.items ≡ length old.blocks.items
  pub taken : length left ≡ length joins
  pub told : length changed ≡ block
  pub done : (k : ℕ) → k < block → IsStepped flow.widen (late && get_or heads k false) (fresh_join flow.nothing (get_or old.stale.items k false) (get_or joins k None))
      (block_at flow old.blocks.items k) (block_at flow new.blocks.items k) (get_or changed k false)
  pub rest : (k : ℕ) → block ≤ k → block_at flow new.blocks.items k ≡ block_at flow old.blocks.items k
  pub rest_stale : (k : ℕ) → block ≤ k → get_or new.stale.items k false ≡ get_or old.stale.items k false
  pub rest_joins : (k : ℕ) → block ≤ k → get_or left k None ≡ get_or joins k None

pub stepped_same : {S : Type 0} (widen : S → S → S) (w w2 : Bool) (f f2 : Option S) (b b2 value : KeptBlock S) (other : Bool) → w ≡ w2 → f ≡ f2 → b ≡ b2
    → IsStepped widen w f b value other → IsStepped widen w2 f2 b2 value other
stepped_same widen w w2 f f2 b b2 value other w_is f_is b_is stepped =
    subst (λ (x : Bool). IsStepped widen x f2 b2 value other) w_is
    (subst (λ (x : Option _). IsStepped widen w x b2 value other) f_is (subst (λ (x : KeptBlock _). IsStepped widen w f x value other) b_is stepped))

module _ {S : Type 0} (flow : Flow S) (late : Bool) (heads : List Bool) (joins : List (Option S)) (old : Kept S) where
  pub stepping_none : (changed : List Bool) → changed ≡ [] → AreStepping flow late heads joins old 0 old joins changed
  stepping_none changed none = record {
    entry = refl;
    behind = refl;
    begun = refl;
    carried = refl;
    count = refl;
    blocks = refl;
    taken = refl;
    told = ap length none;
    done = λ k h. absurd (omega arith);
    rest = λ k h. refl;
    rest_stale = λ k h. refl;
    rest_joins = λ k h. refl;
  }

  -- One more block.
  pub stepping_more : (block : ℕ) (mid new : Kept S) (left after : List (Option S)) (changed told : List Bool) (value : KeptBlock S) (other : Bool)
      → AreStepping flow late heads joins old block mid left changed → block < length old.blocks.items
      → IsStepped flow.widen (late && get_or heads block false) (fresh_join flow.nothing (get_or mid.stale.items block false) (get_or left block None)) (block_at flow mid.blocks.items block) value other
      → new.entry ≡ mid.entry → new.behind.items ≡ mid.behind.items → new.begun ≡ mid.begun → new.carried.items ≡ mid.carried.items
      → new.blocks.items ≡ set mid.blocks.items block value → new.stale.items ≡ set mid.stale.items block false
      → after ≡ set left block None → told ≡ changed ++ other ∷ [] → AreStepping flow late heads joins old (block + 1) new after told
  stepping_more block mid new left after changed told value other so_far inside stepped entry behind begun carried blocks stale taken pushed = record {
    entry = entry ∙ so_far.entry;
    behind = behind ∙ so_far.behind;
    begun = begun ∙ so_far.begun;
    carried = carried ∙ so_far.carried;
    count = ap length stale ∙ length-set mid.stale.items block false ∙ so_far.count;
    blocks = ap length blocks ∙ length-set mid.blocks.items block value ∙ so_far.blocks;
    taken = ap length taken ∙ length-set left block None ∙ so_far.taken;
    told = ap length pushed ∙ length_push changed other ∙ ap (λ (n : ℕ). n + 1) so_far.told;
    done = λ k h. elim (cases_eq k block) [
      | inl e ↦ subst (λ (j : ℕ). IsStepped flow.widen (late && get_or heads j false) (fresh_join flow.nothing (get_or old.stale.items j false) (get_or joins j None)) (block_at flow old.blocks.items j) (block_at flow new.blocks.items j) (get_or told j false)) (sym e) here
      | inr ne ↦
          let before : k < block = omega arith in
          subst (λ (b : KeptBlock S). IsStepped flow.widen (late && get_or heads k false) (fresh_join flow.nothing (get_or old.stale.items k false) (get_or joins k None)) (block_at flow old.blocks.items k) b (get_or told k false))
          (sym (elsewhere k ne))
          (subst (λ (t : Bool). IsStepped flow.widen (late && get_or heads k false) (fresh_join flow.nothing (get_or old.stale.items k false) (get_or joins k None)) (block_at flow old.blocks.items k) (block_at flow mid.blocks.items k) t)
          (sym (ap (λ (items : List Bool). get_or items k false) pushed ∙ get_or_append_left changed (other ∷ []) false k (omega (arith, so_far.told)))) (so_far.done k before))
    ];
    rest = λ k h. let ne : k ≢ block = omega arith in elsewhere k ne ∙ so_far.rest k (omega arith);
    rest_stale = λ k h. let ne : k ≢ block = omega arith in
        ap (λ (items : List Bool). get_or items k false) stale ∙ get_or-set_other mid.stale.items block k false false ne ∙ so_far.rest_stale k (omega arith);
    rest_joins = λ k h. let ne : k ≢ block = omega arith in
        ap (λ (items : List (Option S)). get_or items k None) taken ∙ get_or-set_other left block k None None ne ∙ so_far.rest_joins k (omega arith);
  }
    where
      elsewhere : (k : ℕ) → k ≢ block → block_at flow new.blocks.items k ≡ block_at flow mid.blocks.items k
      elsewhere k ne = ap (λ (items : List (KeptBlock S)). block_at flow items k) blocks ∙ get_or-set_other mid.blocks.items block k value (no_block flow.nothing) ne

      here : IsStepped flow.widen (late && get_or heads block false) (fresh_join flow.nothing (get_or old.stale.items block false) (get_or joins block None)) (block_at flow old.blocks.items block) (block_at flow new.blocks.items block) (get_or told block false)
      here =
          let is : block_at flow new.blocks.items block ≡ value =
          ap (λ (items : List (KeptBlock S)). block_at flow items block) blocks ∙ get_or-set_same mid.blocks.items block value (no_block flow.nothing) (omega (arith, so_far.blocks)) in
          let mark : get_or told block false ≡ other = ap (λ (items : List Bool). get_or items block false) pushed ∙ get_or_push changed other false block so_far.told in
          let before : block_at flow mid.blocks.items block ≡ block_at flow old.blocks.items block = so_far.rest block (omega arith) in
          subst (λ (t : Bool). IsStepped flow.widen (late && get_or heads block false) (fresh_join flow.nothing (get_or old.stale.items block false) (get_or joins block None)) (block_at flow old.blocks.items block) (block_at flow new.blocks.items block) t) (sym mark)
          (subst (λ (b : KeptBlock S). IsStepped flow.widen (late && get_or heads block false) (fresh_join flow.nothing (get_or old.stale.items block false) (get_or joins block None)) (block_at flow old.blocks.items block) b other) (sym is)
          (subst (λ (b : KeptBlock S). IsStepped flow.widen (late && get_or heads block false) (fresh_join flow.nothing (get_or old.stale.items block false) (get_or joins block None)) b value other) before
          (subst (λ (t : Bool). IsStepped flow.widen (late && get_or heads block false) (fresh_join flow.nothing t (get_or joins block None)) (block_at flow mid.blocks.items block) value other) (so_far.rest_stale block (omega arith))
          (subst (λ (o : Option S). IsStepped flow.widen (late && get_or heads block false) (fresh_join flow.nothing (get_or mid.stale.items block false) o) (block_at flow mid.blocks.items block) value other) (so_far.rest_joins block (omega arith)) stepped))))

  -- All blocks.
  pub stepping_all : (new : Kept S) (left : List (Option S)) (changed : List Bool) → AreStepping flow late heads joins old (length old.blocks.items) new left changed
      → AreStepped flow late heads joins old new changed
  stepping_all new left changed all = record {
    entry = all.entry;
    behind = all.behind;
    begun = all.begun;
    carried = all.carried;
    count = all.count;
    blocks = all.blocks;
    told = all.told;
    block = all.done;
  }
