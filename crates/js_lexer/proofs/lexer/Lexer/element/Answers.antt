use Rattle.std.proofs.Common.{sym, subst, ◌∙◌}
use Rattle.grammar.specs.Reading.{Outcome}
use Rattle.placed_chars.specs.declared.chars.Char.{Char}
use Rattle.js_lexer.specs.declared.fault.LexFault.{LexFault}
use Rattle.js_lexer.specs.declared.lexer.Element.{Element}
use Rattle.js_lexer.specs.Reads.{Reads}
use Rattle.js_lexer.proofs.Elements.{started, not_started}
use Rattle.js_lexer.proofs.lexer.Lexer.element.Goals as goal

pub returns-then-is_start : goal.returns-then-is_start
returns-then-is_start c =
    let same = started c.args.self.now c.args.c c.requires (sym c.is_start.ensures ∙ c.if-is_start.true) in
    subst (λ (o : Outcome Char LexFault Element). Reads o c.begun.result c.begun.new.self) (sym same) c.begun.ensures

pub returns-else-is_start : goal.returns-else-is_start
returns-else-is_start c = λ _.
    let same = not_started c.args.self.now c.args.c c.requires (sym c.is_start.ensures ∙ c.if-is_start.false) in
    let at = sym c.place.ensures in cc
