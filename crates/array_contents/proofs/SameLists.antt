-- Lists whose items are alike as a view shows them.
use Rattle.std.proofs.Common.{◌≡◌, ◌↔◌, ℕ, ◌<◌, Bool, false, List, length, map, get_or, IsTrue, ap, subst, sym, ◌∙◌}
use Rattle.std.proofs.lemmas.List.{get_or-map}

pub alike_at : {X Y : Type 0} (view : X → Y) (xs ys : List X) (place : ℕ) (x y : X) → map view xs ≡ map view ys
    → place < length xs → place < length ys → x ≡ get_or xs place x → y ≡ get_or ys place y → view x ≡ view y
alike_at view xs ys place x y alike below under is also =
    ap view is
    ∙ sym (get_or-map view xs place x (view x) below)
    ∙ ap (λ all. get_or all place (view x)) alike
    ∙ get_or-map view ys place y (view x) under
    ∙ ap view (sym also)

-- Two items that are not alike make the lists unlike.
pub unlike : {X Y : Type 0} (view : X → Y) (xs ys : List X) (place : ℕ) (x y : X) (a b : Y) (same : Bool)
    → place < length xs → place < length ys → x ≡ get_or xs place x → y ≡ get_or ys place y → a ≡ view x → b ≡ view y
    → (IsTrue same ↔ (a ≡ b)) → same ≡ false → IsTrue false ↔ (map view xs ≡ map view ys)
unlike view xs ys place x y a b same below under is also shown seen decides is_false = (
  (λ t. absurd cc),
  λ alike. subst IsTrue is_false
      (decides.1 (shown ∙ alike_at view xs ys place x y alike below under is also ∙ sym seen)),
)
