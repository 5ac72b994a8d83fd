-- Fields that stand one after another, so many of them: those that are read, and those that are left.
use Rattle.std.proofs.Common.{◌≡◌, ℕ, zero, suc, ◌+◌, ◌-◌, ◌<◌, ◌≤◌, List, [], ◌∷◌, ◌++◌, length, None, Some, refl, arith, ap, ◌∙◌, sym, append_assoc, append-nil}
use Rattle.cc_base.specs.Tests.{first_of}
use Rattle.cc_base.proofs.TestLemmas.{first_of-append_none, first_of-append_some}
use Rattle.unit_form.specs.Parses.{Parse, many}
use Rattle.unit_form.specs.declared.unit_fault.UnitFault.{UnitFault}

-- Of so many fields, these are read, and from this offset on the rest is left.
pub record AreRead {X : Type 0} (one : List X → ℕ → Parse X) (count start : ℕ) (read : List X) (rest at : ℕ) : Type 0 where
  pub tests : first_of (many one [] count start).tests ≡ first_of (many one read rest at).tests
  pub value : (many one [] count start).value ≡ read ++ (many one read rest at).value
  pub next : (many one [] count start).next ≡ (many one read rest at).next

pub none_read : {X : Type 0} (one : List X → ℕ → Parse X) (count start : ℕ) → AreRead one count start [] count start
none_read one count start = record { tests = refl; value = refl; next = refl }

-- The next one is read.
one_more : {X : Type 0} (one : List X → ℕ → Parse X) (count start : ℕ) (read : List X) (rest at : ℕ) → AreRead one count start read (suc rest) at
    → first_of (one read at).tests ≡ None → AreRead one count start (read ++ (one read at).value ∷ []) rest (one read at).next
unfolding many
one_more one count start read rest at before passed = record {
  tests = before.tests ∙ first_of-append_none _ _ passed;
  value = before.value ∙ sym (append_assoc read ((one read at).value ∷ []) _);
  next = before.next;
}

pub read_next : {X : Type 0} (one : List X → ℕ → Parse X) (count start k at next : ℕ) (read : List X) (x : X) → k < count → AreRead one count start read (count - k) at
    → first_of (one read at).tests ≡ None → x ≡ (one read at).value → next ≡ (one read at).next → AreRead one count start (read ++ x ∷ []) (count - (k + 1)) next
read_next one count start k at next read x l before passed e f =
    let e1 : count - k ≡ suc (count - (k + 1)) = omega (arith, l) in
    rw e (rw f (one_more one count start read (count - (k + 1)) at (rw (← e1) before) passed))

-- The next one has a fault, and so have all.
pub read_fault : {X : Type 0} (one : List X → ℕ → Parse X) (count start k at : ℕ) (read : List X) (fault : UnitFault) → k < count → AreRead one count start read (count - k) at
    → first_of (one read at).tests ≡ Some fault → first_of (many one [] count start).tests ≡ Some fault
unfolding many
read_fault one count start k at read fault l before failed =
    let e1 : count - k ≡ suc (count - (k + 1)) = omega (arith, l) in
    before.tests ∙ ap (λ n. first_of (many one read n at).tests) e1 ∙ first_of-append_some _ _ fault failed

-- All are read.
pub record Whole {X : Type 0} (parse : Parse (List X)) (read : List X) (at : ℕ) : Type 0 where
  pub tests : first_of parse.tests ≡ None
  pub value : read ≡ parse.value
  pub next : at ≡ parse.next

pub all_read : {X : Type 0} (one : List X → ℕ → Parse X) (count start k at : ℕ) (read : List X) → count ≤ k → AreRead one count start read (count - k) at
    → Whole (many one [] count start) read at
unfolding many first_of
all_read one count start k at read l before =
    let e0 : count - k ≡ 0 = omega (arith, l) in
    let same : AreRead one count start read 0 at = rw (← e0) before in
    record { tests = same.tests; value = sym (same.value ∙ append-nil read); next = sym same.next }

pub length-many : {X : Type 0} (one : List X → ℕ → Parse X) (read : List X) (count at : ℕ) → length (many one read count at).value ≡ count
unfolding many
length-many one read zero at = refl
length-many one read (suc count) at = ap suc (length-many one (read ++ (one read at).value ∷ []) count (one read at).next)
