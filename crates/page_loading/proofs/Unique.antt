-- A page's scripts have one list of programs or show one fault, and never both.
use Rattle.std.proofs.Common.{◌≡◌, ℕ, List, [], ◌∷◌, inl, inr, length, refl, sym, ap, subst, ◌∙◌, Vec, Global}
use Rattle.std.specs.Prelude.{Result}
use Rattle.std.specs.Str.{chars}
use Rattle.grammar.specs.Exactly.{Says, Exactly}
use Rattle.grammar.proofs.Exactly.{exactly}
use Rattle.page_reader.specs.declared.fault.PageFault.{PageFault}
use Rattle.page_reader.specs.declared.page.ScriptText.{ScriptText}
use Rattle.page_reader.proofs.Laws.{one_page, scripts_or_fault, same_fault}
use Rattle.js_tree.specs.declared.code.Program.{Program}
use Rattle.js_parser.specs.declared.fault.ScriptFault.{ScriptFault}
use Rattle.js_parser.proofs.WholeScripts.{one_script, script_or_fault, one_script_fault}
use Rattle.page_loading.specs.declared.fault.LoadFault.{LoadFault}
use Rattle.page_loading.specs.declared.fault.LoadFault.TheVariants.{Page, Script, NoMemory}
use Rattle.page_loading.specs.Programs.{content, ArePrograms, FirstFault}
use Rattle.page_loading.specs.Loading.{HasPrograms, ShowsFault, report}

-- ---- scripts

module _ (page : List ℕ) where
  same_programs : (scripts : List ScriptText) (ps qs : List Program) → ArePrograms page scripts ps → ArePrograms page scripts qs → ps ≡ qs
  same_programs [] [] [] h k = refl
  same_programs [] [] (q ∷ qs) h k = absurd k
  same_programs [] (p ∷ ps) qs h k = absurd h
  same_programs (s ∷ scripts) [] qs h k = absurd h
  same_programs (s ∷ scripts) (p ∷ ps) [] h k = absurd k
  same_programs (s ∷ scripts) (p ∷ ps) (q ∷ qs) h k =
      let heads = one_script (length (content page s)) (chars (content page s)) p q h.0 k.0 in
      ap (λ (x : Program). x ∷ ps) heads ∙ ap (λ (xs : List Program). q ∷ xs) (same_programs scripts ps qs h.1 k.1)

  programs_or_fault : (scripts : List ScriptText) (ps : List Program) (index : ℕ) (fault : ScriptFault) → ArePrograms page scripts ps → FirstFault page scripts index fault → ⊥
  programs_or_fault [] ps index fault h k = k
  programs_or_fault (s ∷ scripts) [] index fault h k = h
  programs_or_fault (s ∷ scripts) (p ∷ ps) index fault h (inl (e, shows)) = script_or_fault (length (content page s)) (chars (content page s)) p fault h.0 shows
  programs_or_fault (s ∷ scripts) (p ∷ ps) index fault h (inr (q, has, first)) = programs_or_fault scripts ps index fault h.1 first

  same_first : (scripts : List ScriptText) (i j : ℕ) (f g : ScriptFault) → FirstFault page scripts i f → FirstFault page scripts j g → (i ≡ j) × (f ≡ g)
  same_first [] i j f g h k = absurd h
  same_first (s ∷ scripts) i j f g (inl (e, shows)) (inl (e', shows')) = (e ∙ sym e', one_script_fault (length (content page s)) (chars (content page s)) f g shows shows')
  same_first (s ∷ scripts) i j f g (inl (e, shows)) (inr (q, has, first)) = absurd (script_or_fault (length (content page s)) (chars (content page s)) q f has shows)
  same_first (s ∷ scripts) i j f g (inr (q, has, first)) (inl (e, shows)) = absurd (script_or_fault (length (content page s)) (chars (content page s)) q g has shows)
  same_first (s ∷ scripts) i j f g (inr (q, has, first)) (inr (q', has', first')) = same_first scripts i j f g first first'

-- ---- pages

module _ (bytes : List ℕ) where
  one_list : (ps qs : List Program) → HasPrograms bytes ps → HasPrograms bytes qs → ps ≡ qs
  one_list ps qs h k =
      let same = (one_page bytes h.trees k.trees h.scripts k.scripts h.page k.page).1 in
      same_programs bytes h.scripts ps qs h.have (subst (λ (xs : List ScriptText). ArePrograms bytes xs qs) (sym same) k.have)

  list_or_fault : (ps : List Program) (fault : LoadFault) → HasPrograms bytes ps → ShowsFault bytes fault → ⊥
  list_or_fault ps (Page fault) h k = scripts_or_fault bytes h.scripts fault (h.trees, h.page) k
  list_or_fault ps (Script index fault) h k =
      let same = (one_page bytes h.trees k.trees h.scripts k.scripts h.page k.page).1 in
      programs_or_fault bytes h.scripts ps index fault h.have (subst (λ (xs : List ScriptText). FirstFault bytes xs index fault) (sym same) k.first)
  list_or_fault ps NoMemory h k = k

  one_load_fault : (f g : LoadFault) → ShowsFault bytes f → ShowsFault bytes g → f ≡ g
  one_load_fault (Page f) (Page g) h k = ap (λ (x : PageFault). Page x) (same_fault bytes f g h k)
  one_load_fault (Page f) (Script j g) h k = absurd (scripts_or_fault bytes k.scripts f (k.trees, k.page) h)
  one_load_fault (Page f) NoMemory h k = absurd k
  one_load_fault (Script i f) (Page g) h k = absurd (scripts_or_fault bytes h.scripts g (h.trees, h.page) k)
  one_load_fault (Script i f) (Script j g) h k =
      let same = (one_page bytes h.trees k.trees h.scripts k.scripts h.page k.page).1 in
      let both = same_first bytes h.scripts i j f g h.first (subst (λ (xs : List ScriptText). FirstFault bytes xs j g) (sym same) k.first) in
      ap (λ (x : ℕ). Script x f) both.0 ∙ ap (λ (x : ScriptFault). Script j x) both.1
  one_load_fault (Script i f) NoMemory h k = absurd k
  one_load_fault NoMemory g h k = absurd h

  pub loaded_exactly : (result : Result (Vec Program Global) LoadFault) → Says (HasPrograms bytes) (ShowsFault bytes) (report result) → Exactly (HasPrograms bytes) (ShowsFault bytes) (report result)
  loaded_exactly result = exactly (HasPrograms bytes) (ShowsFault bytes) one_list list_or_fault one_load_fault (report result)
