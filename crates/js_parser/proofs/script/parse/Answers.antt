use Rattle.std.proofs.Common.{Err, length}
use Rattle.std.specs.Str.{chars}
use Rattle.js_parser.proofs.WholeScripts.{found_parsed, found_lexed, parsed_exactly, valid_given}
use Rattle.js_parser.proofs.script.parse.Goals as goal

pub returns-in-Ok-clause-exactly : goal.returns-in-Ok-clause-exactly
returns-in-Ok-clause-exactly c = parsed_exactly (length c.args.source.now) (chars c.args.source.now) c.parse_tokens.result (found_parsed (length c.args.source.now) (chars c.args.source.now) c.in-Ok.tokens.items c.as_slice.result.now c.parse_tokens.result c.in-Ok.ensures.exactly.found c.as_slice.ensures.value c.parse_tokens.ensures)

pub returns-in-Ok-clause-valid : goal.returns-in-Ok-clause-valid
returns-in-Ok-clause-valid c = valid_given (length c.args.source.now) (chars c.args.source.now) c.parse_tokens.result (returns-in-Ok-clause-exactly c).found

pub returns-in-Err-clause-exactly : goal.returns-in-Err-clause-exactly
returns-in-Err-clause-exactly c = parsed_exactly (length c.args.source.now) (chars c.args.source.now) (Err c.of_lexer.result) (found_lexed (length c.args.source.now) (chars c.args.source.now) c.in-Err.fault c.of_lexer.result c.of_lexer.ensures c.in-Err.ensures.exactly.found)
