-- What is made of states has their form, and holds wherever they do.
use Rattle.std.proofs.Common.{◌≡◌, Bool, true, false, Some, sym, subst}
use Rattle.std.specs.Option.{ForSome}
use Rattle.frame_names.specs.Frames.{AreAlike}
use Rattle.state_facts.specs.Forms.{HasForm}
use Rattle.state_facts.specs.StateFacts.{StateFacts, State}
use Rattle.merged_states.specs.Alike.{AreComparable}
use Rattle.merged_states.specs.Following.{Follows}
use Rattle.merged_states.specs.Merging.{merged_known, normal_known}
use Rattle.merged_states.specs.Rules.{rule_of}
use Rattle.merged_states.specs.declared.merging.Merging.{Merging}
use Rattle.merged_states.specs.declared.merging.Merging.TheVariants as rules
use Rattle.merged_states.specs.Laws.BothHold.{KeepsSide, joined_keeps, widened_keeps}
use Rattle.merged_states.specs.Laws.StatesHold.{merged_over, normal_over}
use Rattle.merged_states.proofs.Formed.{merged_form, normal_form}

pub both_formed : (rule : Merging) (a b : StateFacts) (found : State) → HasForm a → HasForm b → AreAlike a.variables b.variables
    → found ≡ merged_known (rule_of rule) a b → ForSome found HasForm
both_formed rule a b found first second alike is = subst (λ s. ForSome s HasForm) (sym is) (merged_form rule a b first second alike)

rule_keeps : (is_first : Bool) (rule : Merging) (x y : StateFacts) → KeepsSide is_first (rule_of rule) x y
rule_keeps is_first rules.Join x y = joined_keeps is_first x y
rule_keeps is_first rules.Widening x y = widened_keeps is_first x y

pub first_keeps : (rule : Merging) (a b : StateFacts) (found : State) → AreComparable a b → found ≡ merged_known (rule_of rule) a b → Follows (Some a) found
first_keeps rule a b found like is =
    subst (Follows (Some a)) (sym is) (merged_over true (rule_of rule) (Some a) (Some b) (rule_keeps true rule) like)

pub second_keeps : (rule : Merging) (a b : StateFacts) (found : State) → AreComparable a b → found ≡ merged_known (rule_of rule) a b → Follows (Some b) found
second_keeps rule a b found like is =
    subst (Follows (Some b)) (sym is) (merged_over false (rule_of rule) (Some a) (Some b) (rule_keeps false rule) like)

pub one_formed : (a : StateFacts) (found : State) → HasForm a → found ≡ normal_known a → ForSome found HasForm
one_formed a found form is = subst (λ s. ForSome s HasForm) (sym is) (normal_form a form)

pub one_keeps : (a : StateFacts) (found : State) → HasForm a → found ≡ normal_known a → Follows (Some a) found
one_keeps a found form is = subst (Follows (Some a)) (sym is) (normal_over a form)
