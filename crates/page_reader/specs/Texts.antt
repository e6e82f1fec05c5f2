-- Where the contents of a page's scripts stand in its bytes.
use Rattle.std.specs.Prelude.{◌≤◌, ℕ, List}
use Rattle.std.specs.Str.{IsCharBoundary}
use Rattle.page_reader.specs.declared.page.ScriptText.{ScriptText}

-- The script's content begins and ends where a character of the page does.
pub record IsText (bytes : List ℕ) (script : ScriptText) : Type 0 where
  pub ordered : script.at ≤ script.end
  pub begins : IsCharBoundary bytes script.at
  pub ends : IsCharBoundary bytes script.end
