-- The characters that stand between tokens and around the number of a text (ECMA-262 5.1, 7.2 and 7.3).
use Rattle.std.specs.Prelude.{ℕ, Bool, ◌||◌, ◌&&◌, ◌==◌, nat_le}

-- white space: tab, vertical tab, form feed, space, no-break space, byte order mark, and the other space separators (Zs)
abbrev pub is_white_space : ℕ → Bool
is_white_space c = c == 0x09 || c == 0x0B || c == 0x0C || c == 0x20 || c == 0xA0 || c == 0xFEFF || c == 0x1680
    || (nat_le 0x2000 c && nat_le c 0x200A) || c == 0x202F || c == 0x205F || c == 0x3000

-- line terminators: line feed, carriage return, line separator, paragraph separator
abbrev pub is_line_terminator : ℕ → Bool
is_line_terminator c = c == 0x0A || c == 0x0D || c == 0x2028 || c == 0x2029
