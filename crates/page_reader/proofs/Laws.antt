-- Laws of pages: what begins no page is the front of none, and no bytes show two faults or are a page with one.
use Rattle.std.proofs.Common.{◌≡◌, ℕ, inl, inr, List, [], ◌∷◌, ◌++◌, Some, sym, ap, subst, ◌∙◌, arith}
use Rattle.std.specs.Prelude.{Result, Err}
use Rattle.std.specs.Str.{chars}
use Rattle.tree_shape.specs.Trees.{Trees}
use Rattle.grammar.specs.Exactly.{Says, Exactly}
use Rattle.grammar.specs.Grammar.{Derives}
use Rattle.grammar.proofs.Exactly.{exactly}
use Rattle.grammar.proofs.Reader.{continued, only, only_bad}
use Rattle.placed_chars.specs.declared.chars.Char.{Char}
use Rattle.placed_chars.specs.Chars.{placed, stop}
use Rattle.page_reader.specs.declared.fault.Fault.{Fault}
use Rattle.page_reader.specs.declared.fault.PageFault.{PageFault}
use Rattle.page_reader.specs.declared.fault.PageFault.TheVariants.{Rule, NoMemory}
use Rattle.page_reader.specs.declared.page.PageParts.{PageParts}
use Rattle.page_reader.specs.declared.page.ScriptText.{ScriptText}
use Rattle.page_reader.specs.Faults.{rule_number}
use Rattle.page_reader.specs.NodeTrees.{trees_of}
use Rattle.page_reader.specs.Content.{Found, found}
use Rattle.page_reader.specs.PageForm.{page}
use Rattle.page_reader.specs.Page.{IsPage, IsPageFault, BeginsPage, Breaks, HasFault, levels_below, numbered}
use Rattle.page_reader.specs.Reading.{TreeRead, HasScripts, ShowsFault, report}
use Rattle.page_reader.proofs.Decided.{page_decided}
use Rattle.page_reader.proofs.WholePages.{refused}

-- What begins no page is the front of no page.
pub hopeless : (front more : List Char) (bytes : List ℕ) (trees : Trees) (scripts : List ScriptText) → (BeginsPage front → ⊥) → placed 0 (chars bytes) ≡ front ++ more → IsPage bytes trees scripts → ⊥
hopeless front more bytes trees scripts not e p =
    not (continued Fault stop (page levels_below) front more (found p.node p.slices) stop (subst (λ (ts : List Char). Derives (page levels_below) ts (found p.node p.slices) stop) e p.form))

same_form : (bytes : List ℕ) (f g : Fault) → HasFault (chars bytes) f → HasFault (chars bytes) g → f ≡ g
same_form bytes f g h k = let e = sym (refused bytes f h) ∙ refused bytes g k in cc

same_break : (bytes : List ℕ) (f g : Fault) → Breaks bytes f → Breaks bytes g → f ≡ g
same_break bytes f g (inl (long, e)) (inl (long', e')) = e ∙ sym e'
same_break bytes f g (inl (long, e)) (inr (inl (few, not, e'))) = absurd (omega arith)
same_break bytes f g (inl (long, e)) (inr (inr (few, utf8, h))) = absurd (omega arith)
same_break bytes f g (inr (inl (few, not, e))) (inl (long, e')) = absurd (omega arith)
same_break bytes f g (inr (inl (few, not, e))) (inr (inl (few', not', e'))) = e ∙ sym e'
same_break bytes f g (inr (inl (few, not, e))) (inr (inr (few', utf8, h))) = absurd (not utf8)
same_break bytes f g (inr (inr (few, utf8, h))) (inl (long, e)) = absurd (omega arith)
same_break bytes f g (inr (inr (few, utf8, h))) (inr (inl (few', not, e))) = absurd (not utf8)
same_break bytes f g (inr (inr (few, utf8, h))) (inr (inr (few', utf8', k))) = same_form bytes f g h k

-- No bytes show two faults.
pub one_fault : (bytes : List ℕ) (n a m b : ℕ) → IsPageFault bytes n a → IsPageFault bytes m b → (n ≡ m) × (a ≡ b)
one_fault bytes n a m b p q =
    let same = same_break bytes (record { rule = p.rule; at = a }) (record { rule = q.rule; at = b }) p.breaks q.breaks in
    (p.numbered ∙ (ap (λ (f : Fault). rule_number f.rule) same ∙ sym q.numbered), ap (λ (f : Fault). f.at) same)

-- No page shows a fault.
pub page_or_fault : (bytes : List ℕ) (trees : Trees) (scripts : List ScriptText) (number at : ℕ) → IsPage bytes trees scripts → IsPageFault bytes number at → ⊥
page_or_fault bytes trees scripts number at p q = go q.breaks
  where
    go : Breaks bytes (record { rule = q.rule; at = at }) → ⊥
    go (inl (long, e)) = let few = p.few in omega arith
    go (inr (inl (few, not, e))) = not p.utf8
    go (inr (inr (few, utf8, h))) =
        only_bad Fault stop (page levels_below) (placed 0 (chars bytes)) (found p.node p.slices) (Some (record { rule = q.rule; at = at })) h.0 (page_decided levels_below) p.form (refused bytes (record { rule = q.rule; at = at }) h)

one_found : (bytes : List ℕ) (v w : Found) → Derives (page levels_below) (placed 0 (chars bytes)) v stop → Derives (page levels_below) (placed 0 (chars bytes)) w stop → v ≡ w
one_found bytes v w d e =
    let c = sym (only Fault stop (page levels_below) (placed 0 (chars bytes)) v (page_decided levels_below) d) ∙ only Fault stop (page levels_below) (placed 0 (chars bytes)) w (page_decided levels_below) e in cc

-- A page has one tree and one list of scripts.
pub one_page : (bytes : List ℕ) (trees trees' : Trees) (scripts scripts' : List ScriptText) → IsPage bytes trees scripts → IsPage bytes trees' scripts' → (trees ≡ trees') × (scripts ≡ scripts')
one_page bytes trees trees' scripts scripts' p q =
    let same = one_found bytes (found p.node p.slices) (found q.node q.slices) p.form q.form in
    (p.tree ∙ (ap (λ (v : Found). trees_of (v.node ∷ [])) same ∙ sym q.tree), p.parts ∙ (ap (λ (v : Found). numbered 0 v.scripts) same ∙ sym q.parts))

-- ---- what reading a page reports

one_scripts : (bytes : List ℕ) (scripts scripts' : List ScriptText) → HasScripts bytes scripts → HasScripts bytes scripts' → scripts ≡ scripts'
one_scripts bytes scripts scripts' (trees, p) (trees', q) = (one_page bytes trees trees' scripts scripts' p q).1

pub scripts_or_fault : (bytes : List ℕ) (scripts : List ScriptText) (fault : PageFault) → HasScripts bytes scripts → ShowsFault bytes fault → ⊥
scripts_or_fault bytes scripts (Rule number at) (trees, p) shows = page_or_fault bytes trees scripts number at p shows
scripts_or_fault bytes scripts NoMemory (trees, p) shows = shows

pub same_fault : (bytes : List ℕ) (f g : PageFault) → ShowsFault bytes f → ShowsFault bytes g → f ≡ g
same_fault bytes (Rule n a) (Rule m b) p q = let same = one_fault bytes n a m b p q in ap (λ (x : ℕ). Rule x a) same.0 ∙ ap (λ (x : ℕ). Rule m x) same.1
same_fault bytes (Rule n a) NoMemory p q = absurd q
same_fault bytes NoMemory g p q = absurd p

pub reported : (bytes : List ℕ) (result : Result PageParts PageFault) → Says (HasScripts bytes) (ShowsFault bytes) (report result) → Exactly (HasScripts bytes) (ShowsFault bytes) (report result)
reported bytes result = exactly (HasScripts bytes) (ShowsFault bytes) (one_scripts bytes) (scripts_or_fault bytes) (same_fault bytes) (report result)

-- a tree that wasn't read
pub reported_fault : (bytes : List ℕ) (fault : PageFault) → TreeRead (Err fault) bytes → Exactly (HasScripts bytes) (ShowsFault bytes) (report (Err fault))
reported_fault bytes (Rule number at) shows = reported bytes (Err (Rule number at)) shows
reported_fault bytes NoMemory says = reported bytes (Err NoMemory) tt
