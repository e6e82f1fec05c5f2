-- The reserved words (ECMA-262 5.1, 7.6.1, with those of strict code).
use Rattle.std.specs.Prelude.{ℕ, List, [], ◌∷◌, Option, bytes_eq, codes, find}
use Rattle.js_lexer.specs.declared.token.Word.{Word}
use Rattle.js_lexer.specs.declared.token.Word.TheVariants as w

abbrev pub spelling : Word → List ℕ
spelling w.Break = codes "break"
spelling w.Case = codes "case"
spelling w.Catch = codes "catch"
spelling w.Class = codes "class"
spelling w.Const = codes "const"
spelling w.Continue = codes "continue"
spelling w.Debugger = codes "debugger"
spelling w.Default = codes "default"
spelling w.Delete = codes "delete"
spelling w.Do = codes "do"
spelling w.Else = codes "else"
spelling w.Enum = codes "enum"
spelling w.Export = codes "export"
spelling w.Extends = codes "extends"
spelling w.False = codes "false"
spelling w.Finally = codes "finally"
spelling w.For = codes "for"
spelling w.Function = codes "function"
spelling w.If = codes "if"
spelling w.Implements = codes "implements"
spelling w.Import = codes "import"
spelling w.In = codes "in"
spelling w.Instanceof = codes "instanceof"
spelling w.Interface = codes "interface"
spelling w.Let = codes "let"
spelling w.New = codes "new"
spelling w.Null = codes "null"
spelling w.Package = codes "package"
spelling w.Private = codes "private"
spelling w.Protected = codes "protected"
spelling w.Public = codes "public"
spelling w.Return = codes "return"
spelling w.Static = codes "static"
spelling w.Super = codes "super"
spelling w.Switch = codes "switch"
spelling w.This = codes "this"
spelling w.Throw = codes "throw"
spelling w.True = codes "true"
spelling w.Try = codes "try"
spelling w.Typeof = codes "typeof"
spelling w.Var = codes "var"
spelling w.Void = codes "void"
spelling w.While = codes "while"
spelling w.With = codes "with"
spelling w.Yield = codes "yield"

abbrev pub words : List Word
words =
    w.Break ∷ w.Case ∷ w.Catch ∷ w.Class ∷ w.Const ∷ w.Continue ∷ w.Debugger ∷ w.Default ∷
    w.Delete ∷ w.Do ∷ w.Else ∷ w.Enum ∷ w.Export ∷ w.Extends ∷ w.False ∷ w.Finally ∷ w.For ∷
    w.Function ∷ w.If ∷ w.Implements ∷ w.Import ∷ w.In ∷ w.Instanceof ∷ w.Interface ∷ w.Let ∷
    w.New ∷ w.Null ∷ w.Package ∷ w.Private ∷ w.Protected ∷ w.Public ∷ w.Return ∷ w.Static ∷
    w.Super ∷ w.Switch ∷ w.This ∷ w.Throw ∷ w.True ∷ w.Try ∷ w.Typeof ∷ w.Var ∷ w.Void ∷
    w.While ∷ w.With ∷ w.Yield ∷ []

-- the reserved word that is spelled so
unfoldable pub word_of : List ℕ → Option Word
word_of units = find (λ w. bytes_eq units (spelling w)) words
