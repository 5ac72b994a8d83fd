use Rattle.std.proofs.Common.{◌≡◌, ap, map, sym, ◌∙◌, ◌+◌, false}
use Rattle.std.proofs.lemmas.Iterator.{items_from_drains}
use Rattle.std.proofs.lemmas.Iterator.Adapters.{YieldsList-from_vec}
use Rattle.std.proofs.lemmas.List.{map-id}
use Rattle.std.specs.List.{splice}
use Rattle.array_segments.specs.Storing.{around}
use Rattle.array_segments.proofs.StoreSteps.{map_splice}
use Rattle.array_segments.proofs.segments.Segs.replace.Goals as goal

pub returns-clause-value : goal.returns-clause-value
returns-clause-value g c =
    let t = c.args.touched in
    let old = c.args.self.now in
    let put = c.in_ok-splice.ensures.items in
    let all : map (λ x. x) put.1 ≡ c.in_ok-inner.inner.items = items_from_drains put.1 (put.3.1.0, put.3.1.1, λ _. (put.3.0, put.3.1.2)) (YieldsList-from_vec {s = put.0} _ put.2.0 (put.2.1 ∙ c.in_ok-inner.inner.ok.0)) in
    let bounds = put.4
    ∙ ap (λ xs. splice old.bounds.items (t.from + 1) t.to xs) (sym (map-id put.1) ∙ all) in
    λ i. record {
      bounds = (ap (map (λ bound. bound.items)) bounds ∙ map_splice (λ bound. bound.items) old.bounds.items (t.from + 1) t.to c.in_ok-inner.inner.items
          ∙ ap (λ ys. splice (map (λ bound. bound.items) old.bounds.items) (t.from + 1) t.to ys) c.in_ok-inner.ensures) i;
      contents = (c.in_ok-contents.ensures
          ∙ (λ j. splice (c.deref.ensures.value j) t.from t.to (around t.left t.right (c.hull_between-outer.ensures j) c.args.value (c.hull_between-outer.ensures j)))) i;
      marks = (c.in_ok-marks.ensures ∙ (λ j. splice (c.deref-2.ensures.value j) t.from t.to (around t.left t.right t.left_mark false t.right_mark))) i;
    }
