-- The program's arguments: a command, and the name of its page (this project's own).
use Prim.Native.Char.{code}
use Rattle.std.specs.Prelude.{ℕ, List, [], ◌∷◌, Bool, false, cond, Option, Some, None, nat_eq, codes}
use Rattle.std.specs.Option.{option_map}
use Rattle.std.specs.Str.{bytes_eq}
use Rattle.crom_commands.specs.declared.words.Command as declared
use Rattle.crom_commands.specs.declared.words.Command.TheVariants.{Stdio, Check}

-- a command, with the name of its page
pub data Command : Type 0 where
  -- the page is to be loaded, and the requests of the input are to be answered
  stdio : (page : List ℕ) → Command
  -- the page and its scripts are to be read
  check : (page : List ℕ) → Command

-- `-` stands first
abbrev pub is_option : List ℕ → Bool
is_option [] = false
is_option (b ∷ bs) = nat_eq b (code "-")

-- the command with this name, of this page
abbrev pub command_named : (word page : List ℕ) → Option Command
command_named word page =
    cond (bytes_eq word (codes "stdio")) (Some (stdio page))
    (cond (bytes_eq word (codes "check")) (Some (check page)) None)

-- the command of these arguments, where they are its name and PAGE, which doesn't begin with `-`
abbrev pub command_of : List (List ℕ) → Option Command
command_of [] = None
command_of (word ∷ []) = None
command_of (word ∷ page ∷ []) = cond (is_option page) None (command_named word page)
command_of (word ∷ page ∷ third ∷ others) = None

-- the program's value as a command
abbrev pub shown : declared.Command → Command
shown (Stdio page) = stdio page.now
shown (Check page) = check page.now

-- the same, where there is one
abbrev pub found : Option declared.Command → Option Command
found given = option_map shown given
