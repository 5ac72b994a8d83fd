-- Straight stretches of a clause's code: each instruction makes the tree of the next one.
use Rattle.std.proofs.Common.{◌≡◌, ℕ, ◌+◌, Bool, true, false, max, nat_lt, List, ◌∷◌, Option, Some, None, IfSome, is_some, if◌then◌else◌, refl, sym, ap, ◌∙◌, arith}
use Rattle.std.specs.Option.{option_and_then}
use Rattle.std.proofs.lemmas.Bool.{or_parts}
use Rattle.cil_model.specs.ClauseTrees.{Item, Tree, closing, items_behind, tree_at, with_call}
use Rattle.cil_model.specs.Terms as terms
use Rattle.cil_model.specs.Terms.{Term, condition_depth}
use Rattle.cil_model.specs.UnitCalls.{unit_call}
use Rattle.cil_model.specs.declared.instruction.Instr.{Instr}
use Rattle.cil_model.specs.declared.instruction.Op.{Op}
use Rattle.cil_model.specs.declared.instruction.Op.TheVariants as ops
use Rattle.cil_model.specs.declared.instruction.Test.TheVariants as tests
use Rattle.cil_model.specs.declared.unit_numbers.UnitCall.{UnitCall}
use Rattle.cil_model.specs.declared.unit_numbers.UnitCall.TheVariants as calls
use Rattle.contract_extract.specs.Growth.{AreFlat, ends_stretch, goes_two_ways, jump_of, later_than, onward, tree_here}

none_closing : {X : Type 0} (closed : Option X) → is_some closed ≡ false → closed ≡ None
none_closing None e = refl
none_closing (Some x) e = absurd cc

later_gives : (from : ℕ → List Item → Option Term) (at later : ℕ) (items : List Item)
    → onward from at later items ≡ option_and_then (λ n. from n items) (later_than at later)
later_gives from at later items = by (nat_lt at later)
  where
    by : (goes : Bool) → (if goes then from later items else None) ≡ option_and_then (λ n. from n items) (if goes then Some later else None)
    by true = refl
    by false = refl

jump_at : (from : ℕ → List Item → Option Term) (i : Instr) (op : Op) (target : ℕ) (items : List Item) → goes_two_ways op ≡ false → jump_of op ≡ Some target
    → tree_at from None i op items ≡ from target items
jump_at from i (ops.Branch tests.Always t) target items one_way jump = let same : t ≡ target = cc in ap (λ (n : ℕ). from n items) same
jump_at from i (ops.Branch tests.True t) target items one_way jump = absurd cc
jump_at from i (ops.Branch tests.False t) target items one_way jump = absurd cc
jump_at from i (ops.Branch (tests.Cmp op) t) target items one_way jump = absurd cc
jump_at from i _ target items one_way jump = absurd cc

-- A branch that is always taken makes the tree of its target.
pub jumping : (from : ℕ → List Item → Option Term) (i : Instr) (target : ℕ) (items : List Item) → ends_stretch i.op ≡ false → jump_of i.op ≡ Some target
    → tree_here from i items ≡ option_and_then (λ n. from n items) (later_than i.at target)
jumping from i target items straight jump =
    let parts = or_parts (is_some (closing i.op)) (goes_two_ways i.op) straight in
    ap (λ closed. tree_at (onward from i.at) closed i i.op items) (none_closing (closing i.op) parts.0)
    ∙ jump_at (onward from i.at) i i.op target items parts.1 jump ∙ later_gives from i.at target items

pub pass_at : (from : ℕ → List Item → Option Term) (i : Instr) (op : Op) (items : List Item) → jump_of op ≡ None
    → tree_at from None i op items ≡ option_and_then (from (i.at + i.size)) (items_behind op items)
pass_at from i (ops.Branch test t) items stays = absurd cc
pass_at from i _ items stays = refl

pass_here : (from : ℕ → List Item → Option Term) (i : Instr) (items : List Item) → ends_stretch i.op ≡ false → jump_of i.op ≡ None
    → tree_here from i items ≡ option_and_then (onward from i.at (i.at + i.size)) (items_behind i.op items)
pass_here from i items straight stays =
    let parts = or_parts (is_some (closing i.op)) (goes_two_ways i.op) straight in
    ap (λ closed. tree_at (onward from i.at) closed i i.op items) (none_closing (closing i.op) parts.0) ∙ pass_at (onward from i.at) i i.op items stays

-- Another instruction makes the tree of the next one with the items that it leaves.
pub passing : (from : ℕ → List Item → Option Term) (i : Instr) (before after : List Item) → ends_stretch i.op ≡ false → jump_of i.op ≡ None
    → Some after ≡ items_behind i.op before → tree_here from i before ≡ option_and_then (λ n. from n after) (later_than i.at (i.at + i.size))
passing from i before after straight stays left =
    pass_here from i before straight stays ∙ ap (option_and_then (onward from i.at (i.at + i.size))) (sym left)
    ∙ later_gives from i.at (i.at + i.size) after

-- It has none where its operands are missing.
pub lacking : (from : ℕ → List Item → Option Term) (i : Instr) (before : List Item) → ends_stretch i.op ≡ false → jump_of i.op ≡ None
    → None ≡ items_behind i.op before → tree_here from i before ≡ None
lacking from i before straight stays left =
    pass_here from i before straight stays ∙ ap (option_and_then (onward from i.at (i.at + i.size))) (sym left)

-- ---- no condition comes on a stack

no_deeper : (a b : ℕ) → a ≡ 0 → b ≡ 0 → max a b ≡ 0
no_deeper a b flat_a flat_b = omega (arith, flat_a, flat_b)

flat_operator : (f : Term → Term → Term) → ((a b : Term) → condition_depth (f a b) ≡ max (condition_depth a) (condition_depth b))
    → (a b : Term) → condition_depth a ≡ 0 → condition_depth b ≡ 0 → condition_depth (f a b) ≡ 0
flat_operator f depth a b flat_a flat_b = depth a b ∙ no_deeper (condition_depth a) (condition_depth b) flat_a flat_b

abbrev FlatIfSome : Option (List Item) → Type 0
FlatIfSome after = IfSome after AreFlat

flat_call : (call : Option UnitCall) (items : List Item) → AreFlat items → FlatIfSome (with_call call items)
flat_call (Some (calls.Result place)) items flat = (refl, flat)
flat_call (Some (calls.OldValue place)) (Tree a ∷ items) flat = flat
flat_call _ items flat = tt

pub flat_behind : (op : Op) (items : List Item) → AreFlat items → FlatIfSome (items_behind op items)
flat_behind ops.Nop items flat = flat
flat_behind (ops.LoadArg n) items flat = (refl, flat)
flat_behind ops.Null items flat = (refl, flat)
flat_behind (ops.Const n) items flat = (refl, flat)
flat_behind (ops.Text token) items flat = (tt, flat)
flat_behind (ops.Bin operator) (Tree b ∷ Tree a ∷ items) flat =
    (flat_operator (terms.Bin operator) (λ a b. refl) a b flat.1.0 flat.0, flat.1.1)
flat_behind ops.Neg (Tree a ∷ items) flat = flat
flat_behind ops.Not (Tree a ∷ items) flat = flat
flat_behind ops.ConvI4 (Tree a ∷ items) flat = flat
flat_behind ops.Length (Tree a ∷ items) flat = flat
flat_behind (ops.LoadElem place) (Tree b ∷ Tree a ∷ items) flat =
    (flat_operator (terms.Elem place) (λ a b. refl) a b flat.1.0 flat.0, flat.1.1)
flat_behind (ops.Call number) items flat = flat_call (unit_call number) items flat
flat_behind _ items flat = tt
