-- What a printed `refuted` tells of a method.
use Rattle.std.specs.Prelude.{◌≡◌, ℕ, List, ◌++◌, Option, Some, codes}
use Rattle.asm_image.specs.Find.{find_of}
use Rattle.asm_image.specs.declared.found.Found.TheVariants.{One}
use Rattle.cc_base.specs.Files.{Held}
use Rattle.cc_base.specs.declared.token.Token.{Token}
use Rattle.command_words.specs.Words.{command_of, word_at}
use Rattle.command_words.specs.declared.command.Command.TheVariants as commands
use Rattle.check_driver.specs.Headline.{WasAppended}

-- The words ask to search for arguments with which the method of this token ends in a fault; its name means it alone in
-- the file, which is held with these bytes.
pub record AsksToRefute (words : List (List ℕ)) (held : Held) (bytes : List ℕ) (token : Token) : Type 0 where
  pub file : ℕ
  pub method : ℕ
  pub runs : ℕ
  pub command : command_of words ≡ Some (commands.Refute file method runs)
  pub is_held : held (word_at words file) ≡ Some bytes
  pub named : find_of bytes (word_at words method) ≡ Some (One token)

-- What was appended to a sink begins as the line that tells such arguments.
pub record PrintsRefuted (old new : Option (List ℕ)) : Type 0 where
  pub others : List ℕ
  pub appended : WasAppended old new (codes "refuted:" ++ others)
