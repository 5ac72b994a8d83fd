-- The report of an assembly with what is inferred of its methods, in its two passes.
use Rattle.std.proofs.Common.{◌≡◌, ℕ, ◌<◌, ◌++◌, true, List, Result, sym, ap, subst, ◌∙◌, arith}
use Rattle.cil_model.specs.declared.clause.Clause.{Clause}
use Rattle.unit_builder.specs.FileSets.{Alone, FileSet, files_in}
use Rattle.unit_builder.specs.Outcomes.{entries_of}
use Rattle.unit_builder.specs.declared.entry.MethodEntry.{MethodEntry}
use Rattle.unit_verdicts.specs.Asked.{Asks, AsksPrefix}
use Rattle.unit_verdicts.specs.Picks.{Pick, pick_from}
use Rattle.unit_verdicts.specs.VerdictCache.{CachedUnits}
use Rattle.assembly_reports.specs.JudgedUnits.{asked_for, judged_keys, report_keys, with_judged}
use Rattle.assembly_reports.specs.InferredUnits.{all_candidates, inferred_entries}
use Rattle.assembly_reports.specs.Reportable.{CanRun, entries_at}
use Rattle.assembly_reports.proofs.FindAll.{entries_of_alone}
use Rattle.assembly_reports.proofs.Judging.{asks_later, prefix_of_first, judged_more}

pub one_file : (units : FileSet) (asm : List ℕ) → units ≡ Alone asm → 0 < (files_in units).count
one_file units asm is = subst (λ (files : FileSet). 0 < (files_in files).count) (sym is) (omega arith)

-- After the first pass, over units of this file alone.
module _ (units : FileSet) (asm : List ℕ) (old mid : CachedUnits) (is : units ≡ Alone asm) (first : mid ≡ with_judged old (judged_keys (entries_at units 0))) where
  abbrev pick : Pick
  pick = pick_from old.held

  entries_are : entries_at units 0 ≡ entries_of asm
  entries_are = entries_of_alone units asm is

  pub first_judged : mid ≡ with_judged old (judged_keys (entries_of asm))
  first_judged = first ∙ ap (λ (entries : List MethodEntry). with_judged old (judged_keys entries)) entries_are

  pub held_same : mid.held ≡ old.held
  held_same = ap (λ (cache : CachedUnits). cache.held) first

  pub lists_are : (inferred : List (List Clause)) → inferred ≡ all_candidates pick (entries_at units 0) → inferred ≡ all_candidates (pick_from mid.held) (entries_of asm)
  lists_are inferred value =
      value ∙ ap (all_candidates pick) entries_are ∙ ap (λ held. all_candidates (pick_from held) (entries_of asm)) (sym held_same)

  pub runs : CanRun (entries_at units 0) → CanRun (entries_of asm)
  runs known = subst CanRun entries_are known

  abbrev second : List (List ℕ)
  second = judged_keys (inferred_entries (pick_from mid.held) asm)

  second_is : second ≡ judged_keys (inferred_entries pick asm)
  second_is = ap (λ held. judged_keys (inferred_entries (pick_from held) asm)) held_same

  -- What was judged in both passes.
  pub both_judged : (new : CachedUnits) → new ≡ with_judged mid second → new ≡ with_judged old (report_keys true pick asm)
  both_judged new then =
      judged_more old mid (judged_keys (entries_of asm)) first_judged (judged_keys (inferred_entries pick asm)) new (then ∙ ap (with_judged mid) second_is)

  -- What was asked in both.
  pub both_asked : {X E : Type 0} (before asked new : List (List ℕ)) (r : Result X E) → asked ≡ before ++ asked_for old (judged_keys (entries_at units 0)) → Asks (asked_for mid second) r asked new
      → Asks (asked_for old (report_keys true pick asm)) r before new
  both_asked before asked new r so_far asks =
      asks_later old mid (judged_keys (entries_of asm)) first_judged (judged_keys (inferred_entries pick asm)) before asked new r
      (so_far ∙ ap (λ (entries : List MethodEntry). before ++ asked_for old (judged_keys entries)) entries_are)
      (subst (λ (keys : List (List ℕ)). Asks (asked_for mid keys) r asked new) second_is asks)

-- What was asked where the first pass was interrupted.
pub first_prefix : (units : FileSet) (asm : List ℕ) (cache : CachedUnits) (pick : Pick) (before new : List (List ℕ)) → units ≡ Alone asm
    → AsksPrefix (asked_for cache (judged_keys (entries_at units 0))) before new → AsksPrefix (asked_for cache (report_keys true pick asm)) before new
first_prefix units asm cache pick before new is prefix =
    prefix_of_first cache (judged_keys (entries_of asm)) (judged_keys (inferred_entries pick asm)) before new
    (subst (λ (entries : List MethodEntry). AsksPrefix (asked_for cache (judged_keys entries)) before new) (entries_of_alone units asm is) prefix)
