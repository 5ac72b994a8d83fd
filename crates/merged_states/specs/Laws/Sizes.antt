-- States in new names have few of them.
use Rattle.std.proofs.Common.{◌≡◌, List, length, Option, Some, None, refl, subst, arith}
use Rattle.std.specs.Option.{ForSome, option_and_then, option_map}
use Rattle.std.proofs.lemmas.List.{length-map}
use Rattle.std.proofs.lemmas.Option.{none-some, same_Some}
use Rattle.alias_facts.specs.PairsOf.{Pair}
use Rattle.array_contents.specs.Contents.{Contents}
use Rattle.frame_names.specs.MergedReferences.{merged_references}
use Rattle.frame_names.specs.PairedFrames.{FramePairing, paired_frames}
use Rattle.frame_names.proofs.NameCounts.{HasFewKeys, few_paired, merged_count}
use Rattle.merged_numbers.specs.Known.{Known}
use Rattle.merged_numbers.specs.Meaning.{HaveForm}
use Rattle.merged_numbers.specs.Merging as numbers
use Rattle.merged_numbers.specs.Merging.{Outcome}
use Rattle.merged_numbers.proofs.FormLaws.{normed_formed}
use Rattle.merged_numbers.proofs.RuleLaws.{joined_formed, widened_formed}
use Rattle.state_facts.specs.Sizes.{HasFewNames}
use Rattle.state_facts.specs.StateFacts.{StateFacts, State}
use Rattle.symbolic_values.specs.declared.def.Def.{Def}
use Rattle.symbolic_values.specs.declared.pairs.Key.{Key}
use Rattle.merged_states.specs.Merging.{NumberRule, Rule, join, joining, known_as, merged, merged_as, merged_by, merged_known, normal, normal_as, normal_by, normal_known, widen, widening}
use Rattle.merged_states.specs.Parts.{entry_of, numbers_known}

abbrev HasFew : State → Type 0
HasFew state = ForSome state HasFewNames

-- ---- there is a range for each key

abbrev HasRanges : NumberRule → Type 0
HasRanges rule = (keys : List Key) (a b : Known) → HaveForm keys (rule keys a b)

formed_count : (keys : List Key) (found : Option Outcome) (made : Outcome) → HaveForm keys found → found ≡ Some made
    → length made.ranges ≡ length keys
formed_count keys None made formed is = absurd (none-some made is)
formed_count keys (Some outcome) made formed is =
    subst (λ (o : Outcome). length o.ranges ≡ length keys) (same_Some outcome made is) formed.count

-- ---- what is known in new names

few_as : (a b : StateFacts) (frames : FramePairing) (made : Outcome) (def : Key → Option Def) (apart : List Pair)
    (contents : Contents) → HasFewKeys frames → length made.ranges ≡ length frames.numbers.keys
    → HasFewNames (known_as a b frames made def apart contents)
few_as a b frames made def apart contents few count =
    let found = merged_references a.references b.references frames.references.keys frames.lengths in
    let same = length-map found entry_of in
    let each = merged_count a.references b.references frames.references.keys frames.lengths in record {
      references = omega (arith, few.references, same, each);
      symbols = omega (arith, few.numbers, count, same, each);
    }

few_made : (make : Outcome → StateFacts) (found : Option Outcome)
    → ((made : Outcome) → found ≡ Some made → HasFewNames (make made)) → HasFew (option_map make found)
few_made make None few = λ x is. absurd (none-some x is)
few_made make (Some made) few = λ x is. subst HasFewNames (same_Some (make made) x is) (few made refl)

few_named : (make : FramePairing → State) (found : Option FramePairing)
    → ((frames : FramePairing) → found ≡ Some frames → HasFew (make frames)) → HasFew (option_and_then make found)
few_named make None few = λ x is. absurd (none-some x is)
few_named make (Some frames) few = few frames refl

-- ---- two states, and one

few_both : (rule : Rule) (a b : StateFacts) → HasRanges rule.numbers → HasFew (merged_known rule a b)
few_both rule a b each =
    few_named (merged_by rule a b) (paired_frames a.variables a.references b.variables b.references)
    (λ frames paired. few_made (merged_as rule.making a b frames)
    (rule.numbers frames.numbers.keys (numbers_known a.facts) (numbers_known b.facts))
    (λ made is. few_as a b frames made _ _ _ (few_paired a.variables b.variables a.references b.references frames paired)
    (formed_count frames.numbers.keys (rule.numbers frames.numbers.keys (numbers_known a.facts) (numbers_known b.facts))
    made (each frames.numbers.keys (numbers_known a.facts) (numbers_known b.facts)) is)))

few_merged : (rule : Rule) (a b : State) → HasRanges rule.numbers → HasFew a → HasFew b → HasFew (merged rule a b)
few_merged rule None b each first second = second
few_merged rule (Some a) None each first second = first
few_merged rule (Some a) (Some b) each first second = few_both rule a b each

few_own : (a : StateFacts) → HasFew (normal_known a)
few_own a =
    few_named (normal_by a) (paired_frames a.variables a.references a.variables a.references)
    (λ frames paired. few_made (normal_as a frames) (numbers.normed frames.numbers.keys (numbers_known a.facts))
    (λ made is. few_as a a frames made _ _ _ (few_paired a.variables a.variables a.references a.references frames paired)
    (formed_count frames.numbers.keys (numbers.normed frames.numbers.keys (numbers_known a.facts)) made
    (normed_formed frames.numbers.keys (numbers_known a.facts)) is)))

pub join_few : (a b : State) → ForSome a HasFewNames → ForSome b HasFewNames → ForSome (join a b) HasFewNames
join_few a b first second = few_merged joining a b joined_formed first second

pub widen_few : (a b : State) → ForSome a HasFewNames → ForSome b HasFewNames → ForSome (widen a b) HasFewNames
widen_few a b first second = few_merged widening a b widened_formed first second

-- Whatever the state is that is named anew.
pub normal_few : (a : State) → ForSome (normal a) HasFewNames
normal_few None = λ x is. absurd (none-some x is)
normal_few (Some a) = few_own a
