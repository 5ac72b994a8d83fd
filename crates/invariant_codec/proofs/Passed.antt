-- Fields that stand one after another, so many of them, of which none but the last is kept: those that are passed, and
-- those that are left.
use Rattle.std.proofs.Common.{◌≡◌, ℕ, ◌+◌, ◌-◌, ◌<◌, ◌≤◌, List, [], ◌∷◌, ◌++◌, Option, None, Some, Result, Ok, Err, refl, sym, subst, arith}
use Rattle.std.specs.Prelude.{IsErrAnd}
use Rattle.cc_base.specs.Tests.{Judges, first_of}
use Rattle.invariant_codec.specs.Formats.{last_of}
use Rattle.invariant_codec.specs.Parses.{ParseBy, many}
use Rattle.invariant_codec.proofs.Counted as counted
use Rattle.invariant_codec.proofs.Counted.{AreRead}
use Rattle.invariant_codec.proofs.GoodStates.{last_is}

-- The reader of the next of some, which depends on the last of them alone.
abbrev pub next_one : {F X : Type 0} → (Option X → ℕ → ParseBy F X) → List X → ℕ → ParseBy F X
next_one after before = after (last_of before)

module _ {F X : Type 0} (after : Option X → ℕ → ParseBy F X) (count start : ℕ) where
  -- Of so many fields, some are passed, this is the last of them, and from this offset on the rest is left.
  pub record ArePassed (last : Option X) (rest at : ℕ) : Type 0 where
    pub items : List X
    pub read : AreRead (next_one after) count start items rest at
    pub last_is : last ≡ last_of items

  pub none_passed : ArePassed None count start
  none_passed = record { items = []; read = counted.none_read (next_one after) count start; last_is = refl }

  pub all_left : ArePassed None (count - 0) start
  all_left =
      let whole : count ≡ count - 0 = omega arith in subst (λ n. ArePassed None n start) whole none_passed

  pub passed_next : (k at next : ℕ) (last : Option X) (x : X) → k < count → ArePassed last (count - k) at
      → first_of (after last at).tests ≡ None → x ≡ (after last at).value → next ≡ (after last at).next
      → ArePassed (Some x) (count - (k + 1)) next
  passed_next k at next last x below before passed value behind = record {
    items = before.items ++ x ∷ [];
    read = counted.read_next (next_one after) count start k at next before.items x below before.read
        (subst (λ o. first_of (after o at).tests ≡ None) before.last_is passed)
        (subst (λ o. x ≡ (after o at).value) before.last_is value)
        (subst (λ o. next ≡ (after o at).next) before.last_is behind);
    last_is = sym (last_is before.items x);
  }

  pub passed_fault : (k at : ℕ) (last : Option X) (fault : F) → k < count → ArePassed last (count - k) at
      → first_of (after last at).tests ≡ Some fault → first_of (many (next_one after) [] count start).tests ≡ Some fault
  passed_fault k at last fault below before failed =
      counted.read_fault (next_one after) count start k at before.items fault below before.read
      (subst (λ o. first_of (after o at).tests ≡ Some fault) before.last_is failed)

  -- All are passed.
  pub record Whole (at : ℕ) : Type 0 where
    pub tests : first_of (many (next_one after) [] count start).tests ≡ None
    pub next : at ≡ (many (next_one after) [] count start).next

  pub all_passed : (k at : ℕ) (last : Option X) → count ≤ k → ArePassed last (count - k) at → Whole at
  all_passed k at last all before =
      let whole = counted.all_read (next_one after) count start k at before.items all before.read in
      record { tests = whole.tests; next = whole.next }

-- A fault that is handed on is that of the whole.
pub judged_err : {X F : Type 0} (result : Result X F) (fault : F) (first : Option F) (P : X → Type 0)
    → IsErrAnd result (λ same. same ≡ fault) → first ≡ Some fault → Judges result first P
judged_err (Ok x) fault first P is some = elim is [ ]
judged_err (Err same) fault first P is some = rw is some
