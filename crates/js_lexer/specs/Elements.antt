-- A token, without what stands before it.
use Rattle.std.specs.Prelude.{ℕ}
use Rattle.js_lexer.specs.declared.token.Kind.{Kind}
use Rattle.js_lexer.specs.declared.lexer.Lexeme.{Lexeme}

abbrev pub lexeme : Kind → ℕ → ℕ → Lexeme
lexeme kind at past = record { kind = kind; at = at; end = past }
