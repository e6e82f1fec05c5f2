-- How much of a connection is read and held (this project's own).
use Rattle.std.specs.Prelude.{ℕ, ◌+◌}

-- how many bytes a head has at the most, with the empty lines before it and the one behind it
abbrev pub head_bytes : ℕ
head_bytes = 16_384

-- for how many fields of a head there is room
abbrev pub field_room : ℕ
field_room = 8_192

-- how many digits a Content-Length has at the most
abbrev pub length_digits : ℕ
length_digits = 19

-- how many bytes a body has at the most
abbrev pub body_bytes : ℕ
body_bytes = 65_536

-- how many bytes are held at the most: a head and a body
abbrev pub held_bytes : ℕ
held_bytes = head_bytes + body_bytes

-- how many bytes one read gives at the most
abbrev pub read_bytes : ℕ
read_bytes = 4_096
