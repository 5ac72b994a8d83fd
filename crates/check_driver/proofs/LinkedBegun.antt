-- What is known of linked files whose reports were begun.
use Rattle.std.proofs.Common.{◌≡◌, List, [], ◌∷◌, ℕ, map, Vec, Global, Option, Some, None, refl, ap, subst, ◌∙◌, inl, inr}
use Rattle.std.specs.Prelude.{IfSome}
use Rattle.asm_image.specs.Faults.{FirstBroken}
use Rattle.cc_base.specs.Files.{Held}
use Rattle.command_words.specs.Words.{command_of, file_indexes, linked_files, words_at}
use Rattle.command_words.specs.declared.command.Command.{Command}
use Rattle.command_words.specs.declared.command.Command.TheVariants as commands
use Rattle.check_driver.specs.LinkedHeadline.{AreLinkedBegun, AreLinkedOf, IfLinked, SomeLinkedBegun}
use Rattle.check_driver.specs.LinkedReports.{LinkedBegun, first_refused}
use Rattle.check_driver.specs.Met.{AreContents, AreUnder, bytes_read}
use Rattle.check_driver.specs.NothingOr.{NothingOr}
use Rattle.check_driver.proofs.LinkedFiles.{none_of_both}
use Rattle.check_driver.proofs.Reportable.{content_same}

-- Of linked files none of which is refused, what was read is what is held.
read_held : (held : Held) (names files : List (List ℕ)) (met : List (Option (List ℕ))) (read : List (Vec ℕ Global)) → AreUnder (Some held) names met → AreContents met read
    → map held names ≡ map Some files → first_refused (bytes_read read) ≡ None → bytes_read read ≡ files
read_held held [] [] [] [] under contents are none = refl
read_held held (name ∷ names) (file ∷ files) (one ∷ met) (bytes ∷ read) (is, later) (content, others) are none =
    let parts = none_of_both (FirstBroken bytes.items) (first_refused (bytes_read read)) none in
    let first : held name ≡ Some file = cc in
    let rest : map held names ≡ map Some files = cc in
    ap (λ (b : List ℕ). b ∷ bytes_read read) (content_same one bytes.items file (let own = is held refl in cc) content parts.0)
    ∙ ap (λ (bs : List (List ℕ)). file ∷ bs) (read_held held names files met read later others rest parts.1)
read_held held [] (file ∷ files) met read under contents are none = absurd cc
read_held held (name ∷ names) [] met read under contents are none = absurd cc
read_held held [] [] (one ∷ met) read under contents are none = absurd under
read_held held [] [] [] (bytes ∷ read) under contents are none = absurd contents
read_held held (name ∷ names) (file ∷ files) [] read under contents are none = absurd under
read_held held (name ∷ names) (file ∷ files) (one ∷ met) [] under contents are none = absurd contents

held_begun : (told : Option Held) (names : List (List ℕ)) (met : List (Option (List ℕ))) (read : List (Vec ℕ Global)) (old new : Option (List ℕ)) → AreUnder told names met
    → AreContents met read → NothingOr old new (SomeLinkedBegun names (bytes_read read) old new) → AreLinkedBegun told names old new
held_begun told names met read old new under contents (inl same) = λ held files told_is are. inl same
held_begun told names met read old new under contents (inr (manner, begun)) = λ held files told_is are.
    let here = subst (λ (t : Option Held). AreUnder t names met) told_is under in
    let same = read_held held names files met read here contents are begun.accepted in
    inr (manner, subst (λ (fs : List (List ℕ)). LinkedBegun manner names fs old new) same begun)

-- What is so of what was read is so of what is held.
pub held_linked : (told : Option Held) (command : Command) (words : List (List ℕ)) (met : List (Option (List ℕ))) (read : List (Vec ℕ Global)) (old new : Option (List ℕ))
    → AreUnder told (words_at words (file_indexes command)) met → AreContents met read
    → IfLinked command (λ linked. NothingOr old new (SomeLinkedBegun (words_at words (linked_files linked)) (bytes_read read) old new))
    → IfLinked command (λ linked. AreLinkedBegun told (words_at words (linked_files linked)) old new)
held_linked told (commands.Linked linked) words met read old new under contents begun = held_begun told (words_at words (linked_files linked)) met read old new under contents begun
held_linked told (commands.Check check) words met read old new under contents begun = tt
held_linked told (commands.Verify file proof) words met read old new under contents begun = tt
held_linked told (commands.Unit file) words met read old new under contents begun = tt
held_linked told (commands.List file) words met read old new under contents begun = tt
held_linked told (commands.Il file method) words met read old new under contents begun = tt
held_linked told (commands.Run run) words met read old new under contents begun = tt
held_linked told (commands.Refute file method runs) words met read old new under contents begun = tt
held_linked told (commands.Gen seed count) words met read old new under contents begun = tt

-- None was begun where nothing was written.
pub none_linked : (told : Option Held) (command : Command) (words : List (List ℕ)) (old : Option (List ℕ))
    → IfLinked command (λ linked. AreLinkedBegun told (words_at words (linked_files linked)) old old)
none_linked told (commands.Linked linked) words old = λ held files told_is are. inl refl
none_linked told (commands.Check check) words old = tt
none_linked told (commands.Verify file proof) words old = tt
none_linked told (commands.Unit file) words old = tt
none_linked told (commands.List file) words old = tt
none_linked told (commands.Il file method) words old = tt
none_linked told (commands.Run run) words old = tt
none_linked told (commands.Refute file method runs) words old = tt
none_linked told (commands.Gen seed count) words old = tt

-- What is known by the words of a call.
pub begun_of : (told : Option Held) (words : List (List ℕ)) (held : Held) (files : List (List ℕ)) (old new : Option (List ℕ)) → told ≡ Some held → (are : AreLinkedOf words held files)
    → IfSome (command_of words) (λ command. IfLinked command (λ linked. AreLinkedBegun told (words_at words (linked_files linked)) old new))
    → NothingOr old new (SomeLinkedBegun (words_at words (linked_files are.linked)) files old new)
begun_of told words held files old new told_is are begun =
    subst (λ (command : Option Command). IfSome command (λ some. IfLinked some (λ linked. AreLinkedBegun told (words_at words (linked_files linked)) old new))) are.command begun
    held files told_is are.are_held
