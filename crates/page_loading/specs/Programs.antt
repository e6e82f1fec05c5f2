-- The programs of a page's scripts (ECMA-262 5.1, section 14; where they stand in a page is this project's own page form).
use Rattle.std.specs.Prelude.{◌≡◌, ◌⊎◌, ℕ, List, [], ◌∷◌, length, slice_range}
use Rattle.std.specs.Str.{chars}
use Rattle.page_reader.specs.declared.page.ScriptText.{ScriptText}
use Rattle.js_tree.specs.declared.code.Program.{Program}
use Rattle.js_parser.specs.declared.fault.ScriptFault.{ScriptFault}
use Rattle.js_parser.specs.Scripts.{IsScript, ScriptFaultAt}

-- the bytes of a script of a page
abbrev pub content : List ℕ → ScriptText → List ℕ
content page script = slice_range page script.at script.end

-- The script has this program.
abbrev pub HasProgram : (page : List ℕ) → ScriptText → Program → Type 0
HasProgram page script program = IsScript (chars (content page script)) program

-- The script is not a program, and shows this fault.
abbrev pub ShowsFault : (page : List ℕ) → ScriptText → ScriptFault → Type 0
ShowsFault page script fault = ScriptFaultAt (length (content page script)) (chars (content page script)) fault

-- The scripts of a page have these programs, one each.
abbrev pub ArePrograms : (page : List ℕ) → List ScriptText → List Program → Type 0
ArePrograms page [] [] = Unit {0}
ArePrograms page [] (program ∷ programs) = ⊥
ArePrograms page (script ∷ scripts) [] = ⊥
ArePrograms page (script ∷ scripts) (program ∷ programs) = HasProgram page script program × ArePrograms page scripts programs

-- The first of the scripts that is not a program has this number and shows this fault; each before it has a program.
abbrev pub FirstFault : (page : List ℕ) → List ScriptText → (index : ℕ) → ScriptFault → Type 0
FirstFault page [] index fault = ⊥
FirstFault page (script ∷ scripts) index fault =
    ((index ≡ script.index) × ShowsFault page script fault)
    ⊎ ((program : Program) × HasProgram page script program × FirstFault page scripts index fault)
