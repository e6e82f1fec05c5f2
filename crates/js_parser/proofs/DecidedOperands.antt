-- One token decides in functions, primary and left-hand-side expressions.
use Rattle.std.proofs.Common.{◌≡◌, ℕ, Bool, true, false, inl, List, [], ◌∷◌, Option, Some, None, refl, sym, ◌∙◌}
use Rattle.std.specs.Prelude.{not}
use Rattle.grammar.specs.Grammar.{again}
use Rattle.grammar.specs.Reading.{Eats, Decided}
use Rattle.grammar.proofs.Words.{turned}
use Rattle.js_lexer.specs.declared.token.Kind.{Kind}
use Rattle.js_lexer.specs.declared.token.Kind.TheVariants as k
use Rattle.js_lexer.specs.declared.token.Punct.TheVariants as p
use Rattle.js_lexer.specs.declared.token.Word.TheVariants as w
use Rattle.js_tree.specs.declared.code.FnCode.{FnCode}
use Rattle.js_nodes.specs.declared.context.Context.{Context}
use Rattle.js_nodes.specs.declared.context.Closer.TheVariants as c
use Rattle.js_nodes.specs.declared.operand.Operand.{Operand}
use Rattle.js_nodes.specs.declared.operand.Row.{Row}
use Rattle.js_nodes.specs.declared.operand.Entries.{Entries}
use Rattle.js_nodes.specs.declared.series.Body.{Body}
use Rattle.js_nodes.specs.Next.{Next, of, shows, says, is_name, is_key}
use Rattle.js_nodes.specs.Operands.{nothing, row, context, level_flaw}
use Rattle.js_parser.specs.Levels.{Level}
use Rattle.js_nodes.specs.Pieces.{state, body, called}
use Rattle.js_cursor.specs.Questions.{twice, in_block}
use Rattle.js_cursor.specs.Rules.{parameter, more_parameters, member_name}
use Rattle.js_parser.specs.Functions.{some_parameters, parameters, function_body, function_code}
use Rattle.js_parser.specs.Primary.{item, list_more, list_items, list, entry, object_more, object_entries, object, function, parens, primary_kind, primary_by, primary}
use Rattle.js_cursor.specs.Questions.{key_flaw, accessor_flaw, primary_flaw}
use Rattle.js_nodes.specs.Classes.{begins_primary}
use Rattle.js_parser.specs.Chains.{argument_more, some_arguments, arguments, index, call, link_kind, link_by, link, construction, head, callee, left}
use Rattle.js_nodes.specs.Classes.{is_access, is_link}
use Rattle.js_parser.proofs.DecidedWords.{sound_decided, takes_decided, deeper_decided, no_sign, no_word, sign_decided, name_decided}
use Rattle.js_parser.proofs.DecidedKinds.{left_begins, primary_not_new, source_in_block, no_block}
use Rattle.js_parser.proofs.DecidedMay.{primary_may, link_may, construction_may, head_may}
use Rattle.js_parser.proofs.DecidedLevels.{Whole, Known}
use Rattle.js_cursor.specs.Rules as rules
use Rattle.js_cursor.specs.Words as words
use Rattle.js_parser.specs.Chains as chains

-- ---- functions (ECMA-262 5.1, section 13)

-- A parameter is one token.
parameter_decided : (names : List (List ℕ)) → Decided None (parameter names)
unfolding parameter words.sound
parameter_decided names = (sound_decided (twice names) (of is_name) refl, λ _. tt)

-- Each loop goes on just where one turn more begins.
pub parameter_turns : (names : List (List ℕ)) → Decided None (again (λ _ t. shows p.Comma t) more_parameters names)
unfolding more_parameters parameter words.sign words.sound
parameter_turns names = (λ _. no_sign p.Comma, λ y t h. h, λ _. inl (inl tt), λ y. (sign_decided p.Comma, λ _. (parameter_decided y, λ _. tt)))

some_parameters_decided : Decided None some_parameters
unfolding some_parameters more_parameters parameter words.sign words.sound
some_parameters_decided =
    (parameter_decided [], λ n. (parameter_turns (n ∷ []), λ names. (sign_decided p.RightParen, λ _. tt)))

parameters_decided : Decided None parameters
unfolding parameters words.sign
parameters_decided = (sign_decided p.LeftParen, λ _. (λ t h. turned (shows p.RightParen t) h, (sign_decided p.RightParen, λ _. tt), (tt, λ _. some_parameters_decided)))

-- What is so isn't otherwise.
no_paren : (b : Bool) → b ≡ true → not b ≡ false
no_paren true h = refl
no_paren false h = cc

module _ (below : Level) (known : Known below) where
  pub source_turns : (b : Body) → Decided None (again (λ _ t. in_block t) (λ b. below.source called b) b)
  source_turns b = (
    λ _. no_block,
    λ b t h. source_in_block called t (sym ((known.source called b).begin t) ∙ h),
    λ b. (known.source called b).eats,
    λ b. (known.source called b).decided,
  )

  body_decided : (codes : List FnCode) → Decided None (function_body below codes)
  unfolding function_body words.sign
  body_decided codes =
      (sign_decided p.LeftBrace, λ _. (source_turns (body [] (state codes []) [] nothing), λ b. (sign_decided p.RightBrace, λ _. tt)))

  pub code_decided : (name : Option (List ℕ)) (codes : List FnCode) → Decided None (function_code below name codes)
  unfolding function_code
  code_decided name codes = (parameters_decided, λ _. (body_decided _, λ b. tt))

  function_decided : (codes : List FnCode) (t : Next) → Decided None (function below codes t)
  unfolding function words.name words.sound
  function_decided codes t = (
    (λ u h. no_paren (shows p.LeftParen u) h, (tt, λ _. (name_decided, λ n. tt)), (tt, λ _. tt)),
    λ n. (code_decided n codes, λ all. tt),
  )

  -- ---- lists and objects

  item_decided : (x : Context) (r : Row) → Decided None (item below x r)
  unfolding item
  item_decided x r = ((known.assign x r.codes).decided, λ y. tt)

  list_more_decided : (r : Row) → Decided None (list_more below r)
  unfolding item list_more words.sign
  list_more_decided r = (sign_decided p.Comma, λ _. (λ t h. turned (shows p.RightBracket t) h, (tt, λ _. tt), (tt, λ _. item_decided (context c.Bracket) r)))

  pub list_turns : (r : Row) → Decided None (again (λ _ t. shows p.Comma t) (list_more below) r)
  unfolding item list_more words.sign
  list_turns r = (λ _. no_sign p.Comma, λ y t h. h, λ _. inl (inl tt), list_more_decided)

  list_items_decided : (codes : List FnCode) → Decided None (list_items below codes)
  unfolding list_items item list_more words.sign
  list_items_decided codes =
      (item_decided (context c.Bracket) (row [] codes nothing), λ r. (list_turns r, λ r. (sign_decided p.RightBracket, λ _. tt)))

  list_decided : (codes : List FnCode) → Decided None (list below codes)
  unfolding list words.sign
  list_decided codes = (λ t h. turned (shows p.RightBracket t) h, (sign_decided p.RightBracket, λ _. tt), (tt, λ _. list_items_decided codes))

  entry_decided : (room : ℕ) (o : Entries) → Decided None (entry room below o)
  unfolding entry words.sound
  entry_decided room o = (
    sound_decided (key_flaw room o.entries) (of is_key) refl,
    λ t. (sound_decided (accessor_flaw t) (shows p.Colon) (no_sign p.Colon), λ _. ((known.assign (context c.Brace) o.codes).decided, λ x. tt)),
  )

  object_more_decided : (room : ℕ) (o : Entries) → Decided None (object_more room below o)
  unfolding object_more words.sign
  object_more_decided room o = (sign_decided p.Comma, λ _. (λ t h. turned (shows p.RightBrace t) h, (tt, λ _. tt), (tt, λ _. entry_decided room o)))

  pub object_turns : (room : ℕ) (o : Entries) → Decided None (again (λ _ t. shows p.Comma t) (object_more room below) o)
  unfolding object_more words.sign
  object_turns room o = (λ _. no_sign p.Comma, λ y t h. h, λ _. inl (inl tt), object_more_decided room)

  object_entries_decided : (room : ℕ) (codes : List FnCode) → Decided None (object_entries room below codes)
  unfolding object_entries object_more words.sign
  object_entries_decided room codes =
      (entry_decided room _, λ o. (object_turns room o, λ o. (sign_decided p.RightBrace, λ _. tt)))

  object_decided : (room : ℕ) (codes : List FnCode) → Decided None (object room below codes)
  unfolding object words.sign
  object_decided room codes = (λ t h. turned (shows p.RightBrace t) h, (sign_decided p.RightBrace, λ _. tt), (tt, λ _. object_entries_decided room codes))

  parens_decided : (codes : List FnCode) (t : Next) → Decided None (parens below codes t)
  unfolding parens words.sign
  parens_decided codes t = ((known.expr (context c.Paren) codes).decided, λ x. (sign_decided p.RightParen, λ _. tt))

  -- ---- primary expressions

  primary_kind_decided : (room : ℕ) (codes : List FnCode) (t : Next) (kind : Kind) → Decided None (primary_kind room below codes t kind)
  unfolding primary_kind
  primary_kind_decided room codes t (k.Name n) = tt
  primary_kind_decided room codes t (k.Num z) = tt
  primary_kind_decided room codes t (k.Str s) = tt
  primary_kind_decided room codes t (k.Word w.This) = tt
  primary_kind_decided room codes t (k.Word w.True) = tt
  primary_kind_decided room codes t (k.Word w.False) = tt
  primary_kind_decided room codes t (k.Word w.Null) = tt
  primary_kind_decided room codes t (k.Word w.Function) = function_decided codes t
  primary_kind_decided room codes t (k.Punct p.LeftParen) = parens_decided codes t
  primary_kind_decided room codes t (k.Punct p.LeftBracket) = (list_decided codes, λ _. tt)
  primary_kind_decided room codes t (k.Punct p.LeftBrace) = (object_decided room codes, λ _. tt)
  primary_kind_decided room codes t _ = tt

  primary_by_decided : (room : ℕ) (codes : List FnCode) (t : Next) → Decided None (primary_by room below codes t)
  unfolding primary_by
  primary_by_decided room codes None = tt
  primary_by_decided room codes (Some t) = primary_kind_decided room codes (Some t) t.kind

  pub primary_decided : (room : ℕ) (codes : List FnCode) → Decided None (primary room below codes)
  unfolding primary primary_by words.sound
  primary_decided room codes = (sound_decided (primary_flaw room) (of begins_primary) refl, primary_by_decided room codes)

  primary_eats : (room : ℕ) (codes : List FnCode) → Eats (primary room below codes)
  unfolding primary primary_by words.sound
  primary_eats room codes = inl (tt, tt)

  -- ---- left-hand-side expressions

  pub argument_turns : (r : Row) → Decided None (again (λ _ t. shows p.Comma t) (argument_more below) r)
  unfolding argument_more item words.sign
  argument_turns r = (λ _. no_sign p.Comma, λ y t h. h, λ _. inl (inl tt), λ y. (sign_decided p.Comma, λ _. item_decided (context c.Paren) y))

  some_arguments_decided : (codes : List FnCode) → Decided None (some_arguments below codes)
  unfolding some_arguments argument_more item words.sign
  some_arguments_decided codes =
      (item_decided (context c.Paren) (row [] codes nothing), λ r. (argument_turns r, λ r. (sign_decided p.RightParen, λ _. tt)))

  arguments_decided : (codes : List FnCode) → Decided None (arguments below codes)
  unfolding arguments words.sign
  arguments_decided codes = (λ t h. turned (shows p.RightParen t) h, (sign_decided p.RightParen, λ _. tt), (tt, λ _. some_arguments_decided codes))

  index_decided : (x : Operand) → Decided None (index below x)
  unfolding index rules.indexed words.sign
  index_decided x = ((known.expr (context c.Bracket) x.codes).decided, λ y. (sign_decided p.RightBracket, λ _. tt))

  call_decided : (x : Operand) → Decided None (call below x)
  unfolding call
  call_decided x = (arguments_decided x.codes, λ r. tt)

  link_kind_decided : (x : Operand) (kind : Kind) → Decided None (link_kind below x kind)
  unfolding member_name call index link_kind rules.indexed rules.member words.sign
  link_kind_decided x (k.Punct p.Dot) = ((refl, λ _. tt), λ _. tt)
  link_kind_decided x (k.Punct p.LeftBracket) = index_decided x
  link_kind_decided x _ = call_decided x

  link_by_decided : (x : Operand) (t : Next) → Decided None (link_by below x t)
  unfolding call index link_by link_kind rules.indexed rules.member words.sign
  link_by_decided x None = tt
  link_by_decided x (Some t) = link_kind_decided x t.kind

  pub link_decided : (class : Kind → Bool) (room : ℕ) (x : Operand) → Decided None (link class room below x)
  unfolding link call index link_by link_kind rules.indexed rules.member words.sign words.sound words.takes
  link_decided class room x = (takes_decided (of class) (level_flaw room x.depth) refl, link_by_decided x)

  pub link_eats : (class : Kind → Bool) (room : ℕ) (x : Operand) → Eats (link class room below x)
  unfolding link call index link_by link_kind rules.indexed rules.member words.sign words.sound words.takes
  link_eats class room x = inl (tt, tt)

  construction_decided : (room : ℕ) (codes : List FnCode) → Decided None (construction room below codes)
  unfolding construction chains.new_arguments words.deeper words.sign words.sound
  construction_decided room codes = (
    deeper_decided room (says w.New) (no_word w.New),
    λ t. (
      known.callee codes,
      λ x. (
        (λ u h. turned (shows p.LeftParen u) h, (sign_decided p.LeftParen, λ _. arguments_decided x.codes), (tt, λ _. tt)),
        λ r. tt,
      ),
    ),
  )

  construction_eats : (room : ℕ) (codes : List FnCode) → Eats (construction room below codes)
  unfolding construction chains.new_arguments words.deeper words.sign words.sound
  construction_eats room codes = inl (tt, tt)

  head_decided : (room : ℕ) (codes : List FnCode) → Decided None (head room below codes)
  unfolding head
  head_decided room codes = (
    λ t h. construction_may below room codes t ∙ primary_not_new t (sym (primary_may below room codes t) ∙ h),
    construction_decided room codes,
    primary_decided room codes,
  )

  pub link_turns : (class : Kind → Bool) (room : ℕ) (x : Operand) → Decided None (again (λ _ t. of class t) (link class room below) x)
  link_turns class room x = (λ _. refl, λ y t h. sym (link_may below class room y t) ∙ h, link_eats class room, link_decided class room)

  pub callee_decided : (room : ℕ) (codes : List FnCode) → Decided None (callee room below codes)
  unfolding callee head
  callee_decided room codes = (head_decided room codes, link_turns is_access room)

  pub left_whole : (room : ℕ) (codes : List FnCode) → Whole left_begins (left room below codes)
  unfolding left head
  left_whole room codes = record {
    decided = (head_decided room codes, link_turns is_link room);
    eats = inl (construction_eats room codes, primary_eats room codes);
    begin = head_may below room codes;
  }
