-- The section of the format has no rows.
use Rattle.std.proofs.Common.{◌≡◌, ◌∙◌, sym, refl, subst, ℕ, List, [], ◌∷◌, length, ◌⊎◌, inl, inr, arith}
use Rattle.std.specs.Prelude.{Ok, codes}
use Rattle.fem_text.specs.WordLines.{Lines}
use Rattle.fem_text.specs.Words.{exactly, id_at, this_word}
use Rattle.fem_text.proofs.OneReading.{ok_same}
use Rattle.fem_text.proofs.Values.{then_ok, line_ok}
use Rattle.msh_read.specs.declared.fault.MshKind.{MshKind}
use Rattle.msh_read.specs.declared.fault.MshKind.TheVariants as kinds
use Rattle.msh_read.specs.Format.{format_line}
use Rattle.msh_read.specs.Sections.{HasSection, FaultInSection}
use Rattle.msh_read.specs.Msh.{format_section, HasFormat}
use Rattle.msh_read.proofs.OneSection.{section_or_fault}

no_rows : (words : List (List ℕ)) (count : ℕ) → format_line words ≡ Ok count → 0 ≡ count
unfolding format_line
no_rows words count h =
    let (three, e1, h1) = then_ok (exactly 3 kinds.Format words) _ count h in
    let (version, e2, h2) = then_ok (this_word kinds.Format (codes "2.2") words 0) _ count h1 in
    let (text, e3, h3) = then_ok (this_word kinds.Format (codes "0") words 1) _ count h2 in
    let (size, e4, h4) = then_ok (id_at kinds.Format words 2) _ count h3 in
    ok_same 0 count h4

no_list : {X : Type 0} (rows : List X) → length rows ≡ 0 → rows ≡ []
no_list [] h = refl
no_list (x ∷ rows) h = absurd (omega arith)

format_alone : (lines : Lines) (count : ℕ) (rows : List (Unit {0})) → HasSection format_section lines count rows → HasFormat lines
format_alone lines count rows has =
    let (words, e) = line_ok kinds.TooFew format_line _ count has.has.head.head_is in
    let none : count ≡ 0 = sym (no_rows words count e) in
    let empty : rows ≡ [] = no_list rows (has.has.rows_are.all ∙ none) in
    let P : ℕ → Type 0 = λ n. HasSection format_section lines n rows in
    let Q : List (Unit {0}) → Type 0 = λ xs. HasSection format_section lines 0 xs in
    subst Q empty (subst P none has)

pub format_or_fault : (lines : Lines) → HasFormat lines ⊎ ((kind : MshKind) × (line : ℕ) × FaultInSection format_section lines kind line)
format_or_fault lines = elim (section_or_fault format_section lines) [
  | inl good ↦ inl (format_alone lines good.0 good.1 good.2)
  | inr bad ↦ inr bad
]
