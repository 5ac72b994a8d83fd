-- What arrivals stand for.
use Rattle.std.proofs.Common.{◌≡◌, ℕ, zero, suc, ◌<◌, ◌≤◌, ◌==◌, min, true, false, ◌&&◌, ◌||◌, List, [], ◌∷◌, length, map, Option, Some, None, refl, sym, ap, ◌∙◌, arith}
use Rattle.std.specs.Prelude.{nat_lt}
use Rattle.std.specs.List.{AllByRecursion}
use Rattle.std.specs.Option.{option_map_or, option_to_list}
use Rattle.std.proofs.lemmas.Bool.{cond_both}
use Rattle.std.proofs.lemmas.Bool.Decides.{nat_tests}
use Rattle.cil_model.specs.declared.instruction.Instr.{Instr}
use Rattle.cil_model.specs.declared.place.Place.{Place}
use Rattle.cil_model.specs.declared.shape.Shape.{Shape}
use Rattle.clause_faults.specs.JoinedStacks.{IsJoined, IsJoining, called_fault}
use Rattle.clause_faults.specs.SharedStacks.{AreGrounded, AreOrdered, IsGrounded, Stacks, arrivals_at, either, least, least_of, least_over, lower, lowest_call, made_seen, told_of}
use Rattle.clause_faults.specs.Ways.{Told, asked_by, made, made_kind}
use Rattle.clause_faults.specs.declared.ways.arrivals.Arrival.{Arrival}
use Rattle.clause_faults.specs.declared.ways.arrivals.Arrival.TheVariants.{Empty, Over}
use Rattle.clause_faults.specs.declared.ways.arrivals.Seen.{Seen}
use Rattle.clause_faults.specs.declared.clause_fault.ClauseFault.{ClauseFault}
use Rattle.clause_faults.specs.declared.clause_fault.ClauseFault.TheVariants.{OldForm}
use Rattle.clause_faults.proofs.FaultLemmas.Earliest.{either-both, either-none, either-same, least-either, least-none, least-same}
use Rattle.clause_faults.proofs.WayLemmas.Joins.{joined_itself, made_calls, own_fault}

-- ---- lists

module _ {X : Type 0} (P : X → Type 0) where
  pub least-same_all : (f g : X → Option ClauseFault) (xs : List X) → AllByRecursion P xs → ((x : X) → P x → f x ≡ g x) → least f xs ≡ least g xs
  least-same_all f g [] all same = refl
  least-same_all f g (x ∷ xs) all same = either-both (same x all.0) (least-same_all f g xs all.1 same)

  pub least-const : (f : X → Option ClauseFault) (c : Option ClauseFault) (xs : List X) → AllByRecursion P xs → 0 < length xs → ((x : X) → P x → f x ≡ c) → least f xs ≡ c
  least-const f c [] all some same = absurd (omega arith)
  least-const f c (x ∷ []) all some same = either-none (f x) ∙ same x all.0
  least-const f c (x ∷ y ∷ xs) all some same = either-both (same x all.0) (least-const f c (y ∷ xs) all.1 (omega arith) same) ∙ either-same c

  pub all-weaker : (Q : X → Type 0) (xs : List X) → AllByRecursion P xs → ((x : X) → P x → Q x) → AllByRecursion Q xs
  all-weaker Q [] all weaker = tt
  all-weaker Q (x ∷ xs) all weaker = (weaker x all.0, all-weaker Q xs all.1 weaker)

pub grounded_higher : (stacks : Stacks) (m n : ℕ) (arrival : Arrival) → m ≤ n → IsGrounded stacks m arrival → IsGrounded stacks n arrival
grounded_higher stacks m n Empty le grounded = tt
grounded_higher stacks m n (Over value below) le grounded = (let h = grounded.0 in omega arith, grounded.1)

pub all_grounded_higher : (stacks : Stacks) (m n : ℕ) (arrivals : List Arrival) → m ≤ n → AreGrounded stacks m arrivals → AreGrounded stacks n arrivals
all_grounded_higher stacks m n arrivals le all = all-weaker (IsGrounded stacks m) (IsGrounded stacks n) arrivals all (λ a g. grounded_higher stacks m n a le g)

-- ---- the faults of the stacks

abbrev pub Judge : Type 0
Judge = List Told → Option ClauseFault

module _ (stacks : Stacks) where
  pub least_of-same : (most : ℕ) (f g : Judge) (arrival : Arrival) → ((stack : List Told) → f stack ≡ g stack) → least_of most stacks f arrival ≡ least_of most stacks g arrival
  least_of-same most f g Empty same = same []
  least_of-same zero f g (Over value below) same = refl
  least_of-same (suc most) f g (Over value below) same =
      least-same (λ a. least_of most stacks (λ stack. f (told_of value ∷ stack)) a) (λ a. least_of most stacks (λ stack. g (told_of value ∷ stack)) a) (arrivals_at stacks below)
      (λ a. least_of-same most (λ stack. f (told_of value ∷ stack)) (λ stack. g (told_of value ∷ stack)) a (λ stack. same (told_of value ∷ stack)))

  pub least_over-same : (most : ℕ) (f g : Judge) (arrivals : List Arrival) → ((stack : List Told) → f stack ≡ g stack) → least_over most stacks f arrivals ≡ least_over most stacks g arrivals
  least_over-same most f g arrivals same = least-same (λ a. least_of most stacks f a) (λ a. least_of most stacks g a) arrivals (λ a. least_of-same most f g a same)

  pub least_of-either : (most : ℕ) (f g : Judge) (arrival : Arrival) → least_of most stacks (λ stack. either (f stack) (g stack)) arrival ≡ either (least_of most stacks f arrival) (least_of most stacks g arrival)
  least_of-either most f g Empty = refl
  least_of-either zero f g (Over value below) = refl
  least_of-either (suc most) f g (Over value below) =
      let p : Judge = λ stack. f (told_of value ∷ stack) in
      let q : Judge = λ stack. g (told_of value ∷ stack) in
      least-same (λ a. least_of most stacks (λ stack. either (p stack) (q stack)) a) (λ a. either (least_of most stacks p a) (least_of most stacks q a)) (arrivals_at stacks below)
      (λ a. least_of-either most p q a)
      ∙ least-either (λ a. least_of most stacks p a) (λ a. least_of most stacks q a) (arrivals_at stacks below)

  pub least_over-either : (most : ℕ) (f g : Judge) (arrivals : List Arrival)
      → least_over most stacks (λ stack. either (f stack) (g stack)) arrivals ≡ either (least_over most stacks f arrivals) (least_over most stacks g arrivals)
  least_over-either most f g arrivals =
      least-same (λ a. least_of most stacks (λ stack. either (f stack) (g stack)) a) (λ a. either (least_of most stacks f a) (least_of most stacks g a)) arrivals (λ a. least_of-either most f g a)
      ∙ least-either (λ a. least_of most stacks f a) (λ a. least_of most stacks g a) arrivals

  pub least_of-none : (most : ℕ) (arrival : Arrival) → least_of most stacks (λ stack. None) arrival ≡ None
  least_of-none most Empty = refl
  least_of-none zero (Over value below) = refl
  least_of-none (suc most) (Over value below) =
      least-same (λ a. least_of most stacks (λ stack. None) a) (λ a. None) (arrivals_at stacks below) (λ a. least_of-none most a) ∙ least-none (arrivals_at stacks below)

  pub least_over-none : (most : ℕ) (arrivals : List Arrival) → least_over most stacks (λ stack. None) arrivals ≡ None
  least_over-none most arrivals = least-same (λ a. least_of most stacks (λ stack. None) a) (λ a. None) arrivals (λ a. least_of-none most a) ∙ least-none arrivals

  -- More depth changes nothing.
  pub least_of-more : AreOrdered stacks → (most : ℕ) (f : Judge) (arrival : Arrival) → IsGrounded stacks most arrival → least_of (suc most) stacks f arrival ≡ least_of most stacks f arrival
  least_of-more ordered most f Empty grounded = refl
  least_of-more ordered zero f (Over value below) grounded = absurd (let h = grounded.0 in omega arith)
  least_of-more ordered (suc most) f (Over value below) grounded =
      let p : Judge = λ stack. f (told_of value ∷ stack) in
      least-same_all (IsGrounded stacks below) (λ a. least_of (suc most) stacks p a) (λ a. least_of most stacks p a) (arrivals_at stacks below) (ordered below)
      (λ a g. least_of-more ordered most p a (grounded_higher stacks below most a (let h = grounded.0 in omega arith) g))

  pub least_over-more : AreOrdered stacks → (most index : ℕ) (f : Judge) (arrivals : List Arrival) → index ≤ most → AreGrounded stacks index arrivals
      → least_over (suc most) stacks f arrivals ≡ least_over most stacks f arrivals
  least_over-more ordered most index f arrivals le grounded =
      least-same_all (IsGrounded stacks index) (λ a. least_of (suc most) stacks f a) (λ a. least_of most stacks f a) arrivals grounded
      (λ a g. least_of-more ordered most f a (grounded_higher stacks index most a le g))

  -- A fault that all stacks have is that of each arrival, since some stack is there.
  pub least_of-const : AreOrdered stacks → (most : ℕ) (c : Option ClauseFault) (arrival : Arrival) → IsGrounded stacks most arrival → least_of most stacks (λ stack. c) arrival ≡ c
  least_of-const ordered most c Empty grounded = refl
  least_of-const ordered zero c (Over value below) grounded = absurd (let h = grounded.0 in omega arith)
  least_of-const ordered (suc most) c (Over value below) grounded =
      least-const (IsGrounded stacks below) (λ a. least_of most stacks (λ stack. c) a) c (arrivals_at stacks below) (ordered below) grounded.1
      (λ a g. least_of-const ordered most c a (grounded_higher stacks below most a (let h = grounded.0 in omega arith) g))

  pub least_over-const : AreOrdered stacks → (most index : ℕ) (c : Option ClauseFault) → index ≤ most → 0 < length (arrivals_at stacks index)
      → least_over most stacks (λ stack. c) (arrivals_at stacks index) ≡ c
  least_over-const ordered most index c le some =
      least-const (IsGrounded stacks index) (λ a. least_of most stacks (λ stack. c) a) c (arrivals_at stacks index) (ordered index) some
      (λ a g. least_of-const ordered most c a (grounded_higher stacks index most a le g))

  -- A joined value on the same stacks.
  pub least_of-joined : (most : ℕ) (f : Judge) (a b joined : Seen) (below : ℕ) → IsJoining f → IsJoined (told_of a) (told_of b) (told_of joined)
      → least_of most stacks f (Over joined below) ≡ either (least_of most stacks f (Over a below)) (least_of most stacks f (Over b below))
  least_of-joined zero f a b joined below joins j = refl
  least_of-joined (suc most) f a b joined below joins j =
      let p : Seen → Judge = λ value stack. f (told_of value ∷ stack) in
      least_over-same most (p joined) (λ stack. either (p a stack) (p b stack)) (arrivals_at stacks below)
      (λ stack. joins (told_of a ∷ stack) (told_of b ∷ stack) (told_of joined ∷ stack) (j, joined_itself stack))
      ∙ least_over-either most (p a) (p b) (arrivals_at stacks below)

-- Other stacks that are the same below an index.
pub least_of-kept : (stacks others : Stacks) (index most : ℕ) (f : Judge) (arrival : Arrival) → AreOrdered stacks
    → ((m : ℕ) → m < index → arrivals_at others m ≡ arrivals_at stacks m) → IsGrounded stacks index arrival
    → least_of most others f arrival ≡ least_of most stacks f arrival
least_of-kept stacks others index most f Empty ordered same grounded = refl
least_of-kept stacks others index zero f (Over value below) ordered same grounded = refl
least_of-kept stacks others index (suc most) f (Over value below) ordered same grounded =
    let p : Judge = λ stack. f (told_of value ∷ stack) in
    ap (least_over most others p) (same below grounded.0)
    ∙ least-same_all (IsGrounded stacks below) (λ a. least_of most others p a) (λ a. least_of most stacks p a) (arrivals_at stacks below) (ordered below)
    (λ a g. least_of-kept stacks others index most p a ordered same (grounded_higher stacks below index a (let h = grounded.0 in omega arith) g))

pub least_over-kept : (stacks others : Stacks) (index most : ℕ) (f : Judge) (arrivals : List Arrival) → AreOrdered stacks
    → ((m : ℕ) → m < index → arrivals_at others m ≡ arrivals_at stacks m) → AreGrounded stacks index arrivals
    → least_over most others f arrivals ≡ least_over most stacks f arrivals
least_over-kept stacks others index most f arrivals ordered same grounded =
    least-same_all (IsGrounded stacks index) (λ a. least_of most others f a) (λ a. least_of most stacks f a) arrivals grounded
    (λ a g. least_of-kept stacks others index most f a ordered same g)

pub grounded_kept : (stacks others : Stacks) (index : ℕ) (arrival : Arrival)
    → ((m : ℕ) → m < index → arrivals_at others m ≡ arrivals_at stacks m) → IsGrounded stacks index arrival → IsGrounded others index arrival
grounded_kept stacks others index Empty same grounded = tt
grounded_kept stacks others index (Over value below) same grounded = (grounded.0, rw (same below grounded.0) grounded.1)

pub all_grounded_kept : (stacks others : Stacks) (index : ℕ) (arrivals : List Arrival)
    → ((m : ℕ) → m < index → arrivals_at others m ≡ arrivals_at stacks m) → AreGrounded stacks index arrivals → AreGrounded others index arrivals
all_grounded_kept stacks others index arrivals same all = all-weaker (IsGrounded stacks index) (IsGrounded others index) arrivals all (λ a g. grounded_kept stacks others index a same g)

-- ---- values of which only the first call is kept

abbrev pub called_of : Option ℕ → Option ClauseFault
called_of None = None
called_of (Some at) = Some (OldForm at)

pub called_seen : (value : Seen) → called_fault (told_of value) ≡ called_of value.call
called_seen value = by value.call
  where
    by : (call : Option ℕ) → called_fault (record { kind = value.kind; calls = option_to_list call }) ≡ called_of call
    by None = refl
    by (Some at) = refl

pub called-lower : (x y : Option ℕ) → called_of (lower x y) ≡ either (called_of x) (called_of y)
called-lower None y = refl
called-lower (Some a) None = refl
called-lower (Some a) (Some b) =
    ap Some (cond_both (nat_lt b a || (b == a && nat_lt 5 5)) (OldForm b) (OldForm a) (λ (c : ClauseFault). OldForm (min a b) ≡ c)
    (λ e. ap OldForm (lower_b e)) (λ e. ap OldForm (lower_a e)))
  where
    lower_b : (nat_lt b a || (b == a && nat_lt 5 5)) ≡ true → min a b ≡ b
    lower_b e = grind (arith, nat_tests)

    lower_a : (nat_lt b a || (b == a && nat_lt 5 5)) ≡ false → min a b ≡ a
    lower_a e = grind (arith, nat_tests)

called_lowest : (operands : List Seen) → called_of (lowest_call operands) ≡ least called_fault (map told_of operands)
called_lowest [] = refl
called_lowest (value ∷ operands) = called-lower value.call (lowest_call operands) ∙ either-both (sym (called_seen value)) (called_lowest operands)

own_called : (i : Instr) → called_of (option_map_or (λ place. Some i.at) (asked_by i.op) None) ≡ own_fault i
own_called i = by (asked_by i.op)
  where
    by : (place : Option Place) → called_of (option_map_or (λ place. Some i.at) place None) ≡ option_map_or (λ place. Some (OldForm i.at)) place None
    by None = refl
    by (Some place) = refl

kinds_of_seen : (operands : List Seen) → map (λ value. value.kind) operands ≡ map (λ told. told.kind) (map told_of operands)
kinds_of_seen [] = refl
kinds_of_seen (value ∷ operands) = ap (λ kinds. value.kind ∷ kinds) (kinds_of_seen operands)

-- The value that is made of values is told as the one that is made of what is told of them.
pub made_seen_joined : (shape : Shape) (i : Instr) (operands : List Seen)
    → IsJoined (made shape i (map told_of operands)) (made shape i (map told_of operands)) (told_of (made_seen shape.args i operands))
made_seen_joined shape i operands =
    let kinds = ap (made_kind shape.args i.op) (kinds_of_seen operands) in
    record {
      left = kinds;
      right = kinds;
      calls = called_seen (made_seen shape.args i operands)
          ∙ called-lower (option_map_or (λ place. Some i.at) (asked_by i.op) None) (lowest_call operands)
          ∙ either-both (own_called i) (called_lowest operands) ∙ sym (made_calls shape i (map told_of operands))
          ∙ sym (either-same (called_fault (made shape i (map told_of operands))));
    }

pub made_same : (f : Judge) (shape : Shape) (i : Instr) (operands : List Seen) (stack : List Told) → IsJoining f
    → f (told_of (made_seen shape.args i operands) ∷ stack) ≡ f (made shape i (map told_of operands) ∷ stack)
made_same f shape i operands stack joins =
    let made_stack : List Told = made shape i (map told_of operands) ∷ stack in
    joins made_stack made_stack (told_of (made_seen shape.args i operands) ∷ stack) (made_seen_joined shape i operands, joined_itself stack) ∙ either-same (f made_stack)
