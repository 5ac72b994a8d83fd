-- Where arguments were told with which a run of a method ends in a fault, the method is not safe.
use Rattle.std.proofs.Common.{◌≡◌, ℕ, true, List, [], ◌++◌, Option, Some, None, Result, Ok, Err, codes, refl, sym, ap, subst, ◌∙◌, get_or, arith}
use Rattle.asm_image.specs.Bodies.{method_of}
use Rattle.asm_image.specs.Faults.{FirstBroken}
use Rattle.asm_image.specs.Find.{find_of}
use Rattle.asm_image.specs.declared.fault.AsmFault.{AsmFault}
use Rattle.asm_image.specs.declared.found.Found.TheVariants.{One}
use Rattle.asm_image.specs.declared.method_row.MethodRow.{MethodRow}
use Rattle.cc_base.specs.Files.{Held}
use Rattle.cc_base.specs.Sink.{AppendsPrefix, IsPrefix}
use Rattle.cc_base.specs.declared.token.Token.{Token}
use Rattle.cil_model.specs.Runs.{Safe}
use Rattle.cil_model.specs.declared.machine.World.{World}
use Rattle.command_words.specs.Words.{command_files, file_names, word_at}
use Rattle.command_words.specs.declared.command.Command.{Command}
use Rattle.command_words.specs.declared.command.Command.TheVariants as commands
use Rattle.unit_builder.specs.WorldOf.{least_skipped, world_of}
use Rattle.witness_search.specs.Searches.{is_found, searched}
use Rattle.witness_search.specs.declared.answer.Search.{Search}
use Rattle.witness_search.specs.declared.answer.Search.TheVariants as searches
use Rattle.witness_search.proofs.FaultyRuns.{found_is_unsafe}
use Rattle.answer_lines.specs.Answers.{Answer}
use Rattle.assembly_answers.specs.Answers.{no_world_answer, refute_file_answer, search_told, world_answer, world_at, world_found, world_named, world_unless}
use Rattle.assembly_answers.specs.declared.method_world.NoWorld.{NoWorld}
use Rattle.assembly_answers.specs.declared.method_world.NoWorld.TheVariants.{NoMethod, NotAnalysed, Refused, SeveralMethods}
use Rattle.check_driver.specs.Expected.{expected}
use Rattle.check_driver.specs.CacheMet.{CallMet}
use Rattle.check_driver.specs.Met.{AreUnder}
use Rattle.check_driver.specs.Refuted.{AsksToRefute, PrintsRefuted}
use Rattle.check_driver.proofs.OnlyFile.{file_asked, same_appended}

-- The text begins as the line of arguments.
abbrev BeginsRefuted : List ℕ → List ℕ → Type 0
BeginsRefuted others text = IsPrefix (codes "refuted:" ++ others) text

-- ---- the search

-- A search whose text begins so found arguments.
found_told : (w : World) (found : Search) (others : List ℕ) → BeginsRefuted others (search_told w found).out → is_found found ≡ true
found_told w (searches.Found args kind unit at) others begins = refl
found_told w (searches.NotFound tried started) others (rest, is) =
    absurd (let letters : 110 ≡ 114 = ap (λ (l : List ℕ). get_or l 0 0) is in omega (arith, letters))

nothing_begins : (others : List ℕ) → BeginsRefuted others [] → ⊥
nothing_begins others (rest, is) = let letters : 0 ≡ 114 = ap (λ (l : List ℕ). get_or l 0 0) is in omega (arith, letters)

nothing_told : (name : List ℕ) (none : NoWorld) (others : List ℕ) → BeginsRefuted others (no_world_answer name none).out → ⊥
nothing_told name (Refused fault) others begins = nothing_begins others begins
nothing_told name NoMethod others begins = nothing_begins others begins
nothing_told name SeveralMethods others begins = nothing_begins others begins
nothing_told name NotAnalysed others begins = nothing_begins others begins

-- ---- the world

-- There is a world, and the text is that of its answer.
record IsToldOf (answer : World → Answer) (named : Result World NoWorld) (others : List ℕ) : Type 0 where
  pub world : World
  pub is : named ≡ Ok world
  pub begins : BeginsRefuted others (answer world).out

world_told : (name : List ℕ) (answer : World → Answer) (named : Result World NoWorld) (others : List ℕ) → BeginsRefuted others (world_answer name answer named).out
    → IsToldOf answer named others
world_told name answer (Ok w) others begins = record { world = w; is = refl; begins = begins }
world_told name answer (Err none) others begins = absurd (nothing_told name none others begins)

same_ok : (named : Result World NoWorld) (a b : World) → named ≡ Ok a → named ≡ Ok b → a ≡ b
same_ok named a b e f = cc

-- The world of a name that means one method is that of the method.
world_is : (bytes method : List ℕ) (token : Token) (fault : Option AsmFault) (w : World) → find_of bytes method ≡ Some (One token)
    → world_named method bytes fault ≡ Ok w → world_of bytes token.0 ≡ w
world_is bytes method token (Some fault) w named is = absurd cc
world_is bytes method token None w named is = by_method (method_of bytes token) (sym (ap (world_found bytes) named) ∙ is)
  where
    by_skipped : (skipped : Option ℕ) → world_unless bytes token skipped ≡ Ok w → world_of bytes token.0 ≡ w
    by_skipped (Some skipped) e = absurd cc
    by_skipped None e = same_ok (world_unless bytes token None) (world_of bytes token.0) w refl e

    by_method : (found : Option MethodRow) → world_at bytes token found ≡ Ok w → world_of bytes token.0 ≡ w
    by_method None e = absurd cc
    by_method (Some row) e = by_skipped (least_skipped bytes token.0) e

-- ---- the theorem

pub refuted_is_unsafe : (told : Option Held) (words : List (List ℕ)) (held : Held) (bytes : List ℕ) (token : Token) (met : CallMet) (old new : Option (List ℕ))
    → told ≡ Some held → AsksToRefute words held bytes token → AreUnder told (file_names words) met.files → AppendsPrefix old new (expected words met).out → PrintsRefuted old new
    → Safe (world_of bytes token.0) 0 → ⊥
refuted_is_unsafe told words held bytes token met old new told_is asks under (prefix, is_prefix, adds) prints safe =
    let name = word_at words asks.file in
    let method = word_at words asks.method in
    let text = codes "refuted:" ++ prints.others in
    let same : prefix ≡ text = same_appended old new prefix prints.appended.before text adds prints.appended.was prints.appended.is in
    let here = subst (λ (t : Option Held). AreUnder t (file_names words) met.files) told_is under in
    let files = subst (λ (command : Option Command). AreUnder (Some held) (command_files words command) met.files) asks.command here in
    let answer = file_asked words (commands.Refute asks.file asks.method asks.runs) asks.file held bytes met refl asks.is_held asks.command files in
    let begins : BeginsRefuted prints.others (refute_file_answer name method asks.runs bytes (FirstBroken bytes)).out =
    subst (λ (a : Answer). IsPrefix text a.out) answer (subst (λ (t : List ℕ). IsPrefix t (Answer.out (expected words met))) same is_prefix) in
    let is = world_told name (λ w. search_told w (searched w 0 asks.runs)) (world_named method bytes (FirstBroken bytes)) prints.others begins in
    let found = found_told is.world (searched is.world 0 asks.runs) prints.others is.begins in
    found_is_unsafe is.world 0 asks.runs (searched is.world 0 asks.runs) refl found
    (subst (λ w. Safe w 0) (world_is bytes method token (FirstBroken bytes) is.world asks.named is.is) safe)
