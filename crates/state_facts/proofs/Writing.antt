-- Stores, as they are made.
use Rattle.std.proofs.Common.{◌≡◌, ℕ, Option, Some, None, refl, sym}
use Rattle.std.specs.Option.{option_and_then}
use Rattle.domain_api.specs.declared.expr.Expr.{Expr}
use Rattle.number_facts.specs.Facts.{Facts, IsNamed}
use Rattle.number_facts.specs.Fresh.{Made, expr_made, facts_made}
use Rattle.state_facts.specs.Moves.{with_written}
use Rattle.state_facts.specs.StateFacts.{StateFacts, are_apart}
use Rattle.state_facts.proofs.MadeNumbers.{EachMade}

same_expr : (a b : Expr) → Some a ≡ Some b → a ≡ b
same_expr a b is = cc

no_expr : (e : Expr) → None ≡ Some e → ⊥
no_expr e is = cc

-- what was made is there
pub made_named : (facts : Facts) (o : Option Made) (e : Expr) → EachMade facts o → expr_made o ≡ Some e → IsNamed (facts_made facts o) e
made_named facts None e made is = absurd (no_expr e is)
made_named facts (Some made) e so is = rw (sym (same_expr made.expr e is)) so.number.there

-- a store of what was made is one of what was known before
pub written_after : (known now : StateFacts) (r : ℕ) (at e : Expr) (o : Option Made) → expr_made o ≡ Some e
    → now ≡ record known { facts = facts_made known.facts o }
    → with_written r at now (record { expr = e; facts = now.facts }) ≡ option_and_then (with_written r at known) o
unfolding with_written are_apart
written_after known now r at e None made is = absurd (no_expr e made)
written_after known now r at e (Some m) made is = rw (is, sym (same_expr m.expr e made)) refl
