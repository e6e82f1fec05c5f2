-- The bounds of a page (this project's own page form).
use Rattle.std.specs.Prelude.{ℕ}

-- how many bytes a page has at the most
abbrev pub page_bytes : ℕ
page_bytes = 1_048_576

-- how many levels stand below the root at the most
abbrev pub levels_below : ℕ
levels_below = 127
