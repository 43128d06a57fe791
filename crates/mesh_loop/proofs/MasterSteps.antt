-- Masters of dofs, one dof after another, and dofs below the number of dofs.
use Rattle.std.proofs.Common.{◌≡◌, ◌∙◌, sym, ap, subst, ℕ, ◌+◌, ◌<◌, ◌==◌, cond, inl, inr, List, [], ◌∷◌, ◌++◌, length, map, take, arith, lit<, Some, None, slice_index, slice_index_or}
use Rattle.std.specs.List.{All, flat_map}
use Rattle.std.specs.declared.option.Option.{Option}
use Rattle.std.proofs.lemmas.Bool.{cases_lt}
use Rattle.std.proofs.lemmas.Grind.{flat_map-append}
use Rattle.std.proofs.lemmas.List.{take_more, map-append, append-nil, append_assoc, get_or_default}
use Rattle.std.proofs.lemmas.List.Elements.{All-append, All-cons, All-nil, All-map, All-same}
use Rattle.affine_constraints.specs.declared.term.Term.{Term}
use Rattle.affine_constraints.specs.Lines.{AffineLine, Lines, IsTerm}
use Rattle.block_sums.specs.Masters.{masters, itself}
use Rattle.block_sums.proofs.Values.{free_masters, line_masters}
use Rattle.corner_names.specs.Cells.{face_start, face_end}
use Rattle.dof_numbers.specs.Dofs.{Numbering, IsDegree, IsNumberingOf, cell_dof, names_each}
use Rattle.dof_numbers.proofs.Every.{four_each}
use Rattle.dof_numbers.proofs.Rows.{dofs_of_corners}
use Rattle.hanging_refine.specs.Refined.{RefinedMesh}
use Rattle.cell_blocks.specs.Blocks.{Given, dofs_of, end_dofs, middle_dof, face_dofs}
use Rattle.mesh_loop.specs.Setup.{masters_of}

-- the masters of one dof
pub free_line : (lines : Lines) (dof : ℕ) (old now : List ℕ) → lines dof ≡ None → now ≡ old ++ dof ∷ [] → now ≡ old ++ map (λ (term : Term). term.dof) (masters lines dof)
free_line lines dof old now free is = is ∙ sym (ap (λ (ms : List Term). old ++ map (λ (term : Term). term.dof) ms) (free_masters lines dof free))

pub full_line : (lines : Lines) (dof : ℕ) (line : AffineLine) (old now : List ℕ) → lines dof ≡ Some line → now ≡ old ++ map (λ (term : Term). term.dof) line.terms → now ≡ old ++ map (λ (term : Term). term.dof) (masters lines dof)
full_line lines dof line old now full is = is ∙ sym (ap (λ (ms : List Term). old ++ map (λ (term : Term). term.dof) ms) (line_masters lines dof line full))

pub free_below : (lines : Lines) (n dof : ℕ) → lines dof ≡ None → dof < n → All (λ (term : Term). term.dof < n) (masters lines dof)
free_below lines n dof free below =
    let P : Term → Type 0 = λ term. term.dof < n in
    All-same P (masters lines dof) (itself dof ∷ []) (free_masters lines dof free) (All-cons P (itself dof) [] below (All-nil P))

pub full_below : (lines : Lines) (n dof : ℕ) (line : AffineLine) → lines dof ≡ Some line → All (IsTerm n) line.terms → All (λ (term : Term). term.dof < n) (masters lines dof)
full_below lines n dof line full terms =
    let P : Term → Type 0 = λ term. term.dof < n in
    All-same P (masters lines dof) line.terms (line_masters lines dof line full) (λ k d h. (terms k d h).dof)

-- the masters of one dof more
masters_next : (lines : Lines) (dofs : List ℕ) (k d : ℕ) → k < length dofs → masters_of lines (take (k + 1) dofs) ≡ masters_of lines (take k dofs) ++ map (λ (term : Term). term.dof) (masters lines (slice_index_or dofs k d))
unfolding masters_of
masters_next lines dofs k d h =
    ap (λ (ds : List ℕ). map (λ (term : Term). term.dof) (flat_map (masters lines) ds)) (take_more dofs k d h)
    ∙ ap (map (λ (term : Term). term.dof)) (flat_map-append (masters lines) (take k dofs) (slice_index_or dofs k d ∷ []))
    ∙ map-append (λ (term : Term). term.dof) (flat_map (masters lines) (take k dofs)) (masters lines (slice_index_or dofs k d) ++ [])
    ∙ ap (λ (ms : List Term). map (λ (term : Term). term.dof) (flat_map (masters lines) (take k dofs)) ++ map (λ (term : Term). term.dof) ms) (append-nil (masters lines (slice_index_or dofs k d)))

pub masters_more : (lines : Lines) (dofs : List ℕ) (k dof : ℕ) (old now next : List ℕ) → k < length dofs → dof ≡ slice_index_or dofs k dof → now ≡ old ++ masters_of lines (take k dofs) →
    next ≡ now ++ map (λ (term : Term). term.dof) (masters lines dof) → next ≡ old ++ masters_of lines (take (k + 1) dofs)
masters_more lines dofs k dof old now next h at before after =
    after
    ∙ ap (λ (xs : List ℕ). xs ++ map (λ (term : Term). term.dof) (masters lines dof)) before
    ∙ append_assoc old (masters_of lines (take k dofs)) (map (λ (term : Term). term.dof) (masters lines dof))
    ∙ ap (λ d. old ++ (masters_of lines (take k dofs) ++ map (λ (term : Term). term.dof) (masters lines d))) at
    ∙ sym (ap (λ (xs : List ℕ). old ++ xs) (masters_next lines dofs k dof h))

pub masters_below_more : (lines : Lines) (n : ℕ) (dofs : List ℕ) (k dof : ℕ) → k < length dofs → dof ≡ slice_index_or dofs k dof → All (λ d. d < n) (masters_of lines (take k dofs)) →
    All (λ (term : Term). term.dof < n) (masters lines dof) → All (λ d. d < n) (masters_of lines (take (k + 1) dofs))
masters_below_more lines n dofs k dof h at before after =
    let P : ℕ → Type 0 = λ d. d < n in
    let next = masters_next lines dofs k dof h in
    let Q : ℕ → Type 0 = λ d. All (λ (term : Term). term.dof < n) (masters lines d) in
    All-same P (masters_of lines (take (k + 1) dofs)) (masters_of lines (take k dofs) ++ map (λ (term : Term). term.dof) (masters lines (slice_index_or dofs k dof))) next
    (All-append P (masters_of lines (take k dofs)) (map (λ (term : Term). term.dof) (masters lines (slice_index_or dofs k dof))) before
    (All-map P (λ (term : Term). term.dof) (masters lines (slice_index_or dofs k dof)) (subst Q at after)))

pub no_masters : (lines : Lines) (old : List ℕ) → old ≡ old ++ masters_of lines []
unfolding masters_of
no_masters lines old = sym (append-nil old)

pub none_below : (lines : Lines) (n : ℕ) → All (λ d. d < n) (masters_of lines [])
unfolding masters_of
none_below lines n = All-nil (λ d. d < n)

-- the dofs of a cell are below the number of dofs
pub cell_below : (forest : RefinedMesh) (dofs : Numbering) (cell : ℕ) (row : List ℕ) → IsNumberingOf forest dofs → cell < length forest.cells → row ≡ slice_index_or dofs.cells cell [] →
    All (λ d. d < dofs.size) (slice_index_or dofs.cells cell [])
cell_below forest dofs cell row numbered within is k d h =
    let count : length (slice_index_or dofs.cells cell []) ≡ names_each dofs.degree = numbered.each cell [] (omega (arith, numbered.count, within)) in
    let low = (dofs_of_corners forest dofs numbered).below cell k within (omega (arith, h, count)) in
    let P : ℕ → Type 0 = λ n. n < dofs.size in
    subst P (get_or_default (slice_index_or dofs.cells cell []) k 0 d h) low

start_small : (face : ℕ) → face_start face < 4
start_small face = grind arith

end_small : (face : ℕ) → face_end face < 4
end_small face = grind arith

pub ends_below : (given : Given) (cell face : ℕ) → IsNumberingOf given.forest given.dofs → cell < length given.forest.cells → All (λ d. d < given.dofs.size) (end_dofs given cell face)
ends_below given cell face numbered within =
    let P : ℕ → Type 0 = λ d. d < given.dofs.size in
    let below : (v : ℕ) → v < 4 → cell_dof given.dofs cell v < given.dofs.size =
    λ v few. (dofs_of_corners given.forest given.dofs numbered).below cell v within (omega (arith, few, four_each given.dofs.degree numbered.degree)) in
    let first : ℕ = slice_index (dofs_of given cell) (face_start face) in
    let last : ℕ = slice_index (dofs_of given cell) (face_end face) in
    All-cons P first (last ∷ []) (below (face_start face) (start_small face)) (All-cons P last [] (below (face_end face) (end_small face)) (All-nil P))

if_middle : (n m : ℕ) (P : ℕ → Type 0) → IsDegree n → (n ≡ 2 → P m) → All P (cond (n == 2) (m ∷ []) [])
if_middle n m P (inl one) h = let Q : ℕ → Type 0 = λ k. All P (cond (k == 2) (m ∷ []) []) in subst Q (sym one) (All-nil P)
if_middle n m P (inr two) h = let Q : ℕ → Type 0 = λ k. All P (cond (k == 2) (m ∷ []) []) in subst Q (sym two) (All-cons P m [] (h two) (All-nil P))

pub face_below : (given : Given) (cell face : ℕ) → IsNumberingOf given.forest given.dofs → cell < length given.forest.cells → face < 4 → All (λ d. d < given.dofs.size) (face_dofs given cell face)
face_below given cell face numbered within few =
    let P : ℕ → Type 0 = λ d. d < given.dofs.size in
    let middle : given.dofs.degree ≡ 2 → P (middle_dof given cell face) = λ two. (dofs_of_corners given.forest given.dofs numbered).below cell (4 + face) within (omega (arith, few, ap names_each two)) in
    All-append P (end_dofs given cell face) (cond (given.dofs.degree == 2) (middle_dof given cell face ∷ []) []) (ends_below given cell face numbered within)
    (if_middle given.dofs.degree (middle_dof given cell face) P numbered.degree middle)
