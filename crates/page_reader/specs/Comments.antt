-- Comments: `<!--`, and all up to the next `-->` (this project's own page form).
use Rattle.std.specs.Prelude.{ℕ, Bool, not, ◌||◌, ◌&&◌, cond, ◌==◌}
use Rattle.grammar.specs.Grammar.{token, done, again}
use Rattle.grammar.specs.Words.{◌>>=◌, ◌>>◌}
use Rattle.placed_chars.specs.declared.chars.Char.{Char}
use Rattle.placed_chars.specs.Chars.{is_end}
use Rattle.page_reader.specs.declared.fault.PageRule.TheVariants.{BadTag}
use Rattle.page_reader.specs.Classes.{is_gt, is_dash}
use Rattle.page_reader.specs.Rules.{R, fault, must, cut_off, closed}

-- a comment goes on until a `>` stands behind two dashes
abbrev pub comment_goes : ℕ → Char → Bool
comment_goes dashes t = not (is_end t.code || (dashes == 2 && is_gt t.code))

-- how many dashes stand last, 2 for more of them
abbrev pub dashes_after : ℕ → ℕ → ℕ
dashes_after dashes x = cond (is_dash x) (cond (dashes == 0) 1 2) 0

abbrev pub comment_character : ℕ → R ℕ
comment_character dashes = do
  t ← token (comment_goes dashes)
  done (dashes_after dashes t.code)

-- Comment = <!-- {any} -->   behind its `<!`, where its `<` stands at this byte
unfoldable pub comment : ℕ → R (Unit {0})
comment at = do
  must is_dash (cut_off at (fault BadTag at))
  must is_dash (cut_off at (fault BadTag at))
  again comment_goes comment_character 0
  closed at
