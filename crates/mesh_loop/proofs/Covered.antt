-- The rows that a cell writes are those to which it contributes.
use Rattle.std.proofs.Common.{◌≡◌, ◌∙◌, sym, ap, subst, refl, ℕ, ◌+◌, ◌^◌, ◌<◌, ◌≤◌, inl, inr, Bool, true, false, ◌==◌, List, [], ◌∷◌, ◌++◌, length, map, arith, cond, slice_index_or, Some, None, Ok, Err}
use Rattle.std.specs.Prelude.{filter, IfOk}
use Rattle.std.specs.List.{All, flat_map, range_with_len, list_any}
use Rattle.std.specs.declared.option.Option.{Option}
use Rattle.std.specs.declared.result.Result.{Result}
use Rattle.std.proofs.lemmas.Bool.{cases_Bool, eq-eqb, or_left, or_right}
use Rattle.std.proofs.lemmas.List.Elements.{All-nil, All-cons, All-head, All-tail, All-append, All-filter}
use Rattle.std.proofs.lemmas.List.Folds.{list_any-append, list_any_at}
use Rattle.std.proofs.lemmas.List.FromFn.{get_or-range_with_len, length-range_with_len}
use Rattle.affine_constraints.specs.declared.term.Term.{Term}
use Rattle.affine_constraints.specs.Lines.{AffineLine, Lines, lines_in}
use Rattle.affine_constraints.specs.Closing.{AreClosedForms}
use Rattle.block_sums.specs.Masters.{masters}
use Rattle.block_sums.specs.Contributions.{master_terms, row_terms, own_by, contributions, dof_at, entry_at}
use Rattle.block_sums.proofs.Allowed.{all_flat, all_range, block_allowed, closed_small, master_rows, own_rows}
use Rattle.cell_blocks.specs.Blocks.{Given, visit_dofs, visit_form, with_dofs, block_of, blocks_of, all_blocks, in_front, cell_blocks}
use Rattle.cell_blocks.specs.Visited.{fault_in, blocks_in}
use Rattle.fixed_q1.specs.declared.fault.LocalFault.{LocalFault}
use Rattle.fixed_q1.specs.LocalForm.{LocalForm}
use Rattle.cell_blocks.specs.LocalBlocks.{LocalBlock, IsBlock}
use Rattle.mesh_visits.specs.declared.visit.Visit.{Visit}
use Rattle.mesh_visits.specs.declared.visit.Visit.TheVariants.{Cell as OnCell}
use Rattle.serial_sum.specs.Rows.{IsFor}
use Rattle.serial_sum.specs.Steps.{IsPartFor}
use Rattle.serial_sum.specs.declared.part.Contribution.{Contribution}
use Rattle.sparsity.specs.Coupled.{has}
use Rattle.sparsity.proofs.Listing.{rows_count}
use Rattle.mesh_loop.specs.Setup.{MeshProblem, IsMatched, cell_visits, masters_of, visit_rows, coupled_dofs, pattern_of, written_rows}
use Rattle.mesh_loop.specs.Parts.{IsVisitBelow, IsCellFit}
use Rattle.mesh_loop.specs.Sum.{part_of, IsWritten}
use Rattle.mesh_loop.specs.Limits.{IsWithinLimits}
use Rattle.mesh_loop.proofs.Holding.{any_flat, has_below, has_kept, has_range, has_master, size_is}
use Rattle.mesh_loop.proofs.Held.{cell_held}

-- the contributions of a block go to its dofs and their masters
master_covered : (P : ℕ → Type 0) (lines : Lines) (block : LocalBlock) (i : ℕ) (master : Term) → P master.dof → All (λ (c : Contribution). P c.row) (master_terms lines block i master)
master_covered P lines block i master h = λ k d inside. subst P (sym (master_rows lines block i master k d inside)) h

own_covered : (P : ℕ → Type 0) (line : Option AffineLine) (dof size : ℕ) → P dof → All (λ (c : Contribution). P c.row) (own_by line dof size)
own_covered P None dof size h = All-nil (λ (c : Contribution). P c.row)
own_covered P (Some line) dof size h = λ k d inside. subst P (sym (own_rows dof size line.constant k d inside)) h

row_covered : (P : ℕ → Type 0) (lines : Lines) (block : LocalBlock) (i : ℕ) → i < length block.dofs → All P block.dofs → All (λ d. All (λ (m : Term). P m.dof) (masters lines d)) block.dofs →
    All (λ (c : Contribution). P c.row) (row_terms lines block i)
unfolding row_terms
row_covered P lines block i inside own others =
    All-append (λ (c : Contribution). P c.row) (flat_map (master_terms lines block i) (masters lines (dof_at block i))) (own_by (lines (dof_at block i)) (dof_at block i) _)
    (all_flat (λ (c : Contribution). P c.row) (master_terms lines block i) (masters lines (dof_at block i)) (λ k d within.
    master_covered P lines block i (slice_index_or (masters lines (dof_at block i)) k d) (others i 0 inside k d within)))
    (own_covered P (lines (dof_at block i)) (dof_at block i) _ (own i 0 inside))

block_covered : (P : ℕ → Type 0) (lines : Lines) (block : LocalBlock) → All P block.dofs → All (λ d. All (λ (m : Term). P m.dof) (masters lines d)) block.dofs → All (λ (c : Contribution). P c.row) (contributions lines block)
unfolding contributions
block_covered P lines block own others = all_range (λ (c : Contribution). P c.row) (row_terms lines block) (length block.dofs) (λ i inside. row_covered P lines block i inside own others)

-- what a visit writes the cell writes
row_kept : (s : MeshProblem) (cell r : ℕ) → has (flat_map (visit_rows s cell) (cell_visits s cell)) r ≡ true → r < s.given.dofs.size → has (written_rows s cell) r ≡ true
unfolding written_rows
row_kept s cell r h low = has_kept (has (flat_map (visit_rows s cell) (cell_visits s cell))) (range_with_len 0 s.given.dofs.size) r (has_range s.given.dofs.size r low) h

flat_has : (s : MeshProblem) (cell k : ℕ) (v : Visit) (r : ℕ) → k < length (cell_visits s cell) → has (visit_rows s cell (slice_index_or (cell_visits s cell) k v)) r ≡ true → has (flat_map (visit_rows s cell) (cell_visits s cell)) r ≡ true
unfolding has
flat_has s cell k v r inside h = any_flat (λ x. x == r) (visit_rows s cell) (cell_visits s cell) k v inside h

visit_written : (s : MeshProblem) (cell k : ℕ) (v : Visit) (r : ℕ) → k < length (cell_visits s cell) → has (visit_rows s cell (slice_index_or (cell_visits s cell) k v)) r ≡ true → r < s.given.dofs.size → has (written_rows s cell) r ≡ true
visit_written s cell k v r inside h low = row_kept s cell r (flat_has s cell k v r inside h) low

has_dof : (lines : Lines) (dofs : List ℕ) (i d : ℕ) → i < length dofs → has (dofs ++ masters_of lines dofs) (slice_index_or dofs i d) ≡ true
unfolding has
has_dof lines dofs i d h =
    let r : ℕ = slice_index_or dofs i d in
    list_any-append (λ x. x == r) dofs (masters_of lines dofs) ∙ or_left (list_any (λ x. x == r) dofs) (list_any (λ x. x == r) (masters_of lines dofs)) (list_any_at (λ x. x == r) dofs i d h (eq-eqb r r refl))

has_its_master : (lines : Lines) (dofs : List ℕ) (r : ℕ) → has (masters_of lines dofs) r ≡ true → has (dofs ++ masters_of lines dofs) r ≡ true
unfolding has
has_its_master lines dofs r h = list_any-append (λ x. x == r) dofs (masters_of lines dofs) ∙ or_right (list_any (λ x. x == r) dofs) (list_any (λ x. x == r) (masters_of lines dofs)) h

visit_covered : (s : MeshProblem) (cell k : ℕ) (v : Visit) (form : LocalForm) → k < length (cell_visits s cell) → IsVisitBelow s cell (slice_index_or (cell_visits s cell) k v) →
    All (λ (c : Contribution). has (written_rows s cell) c.row ≡ true) (contributions (lines_in s.closed) (record { dofs = visit_dofs s.given cell (slice_index_or (cell_visits s cell) k v); form = form }))
visit_covered s cell k v form inside below =
    let dofs : List ℕ = visit_dofs s.given cell (slice_index_or (cell_visits s cell) k v) in
    let lines : Lines = lines_in s.closed in
    block_covered (λ r. has (written_rows s cell) r ≡ true) lines (record { dofs = dofs; form = form })
    (λ i d h. visit_written s cell k v (slice_index_or dofs i d) inside (has_dof lines dofs i d h) (below.dofs i d h))
    (λ i d h. λ a m ha.
    let among = has_master lines dofs i d a m h ha in
    visit_written s cell k v _ inside (has_its_master lines dofs _ among) (has_below s.given.dofs.size (masters_of lines dofs) _ below.masters among))

-- what holds of the block of each visit
front_each : (P : LocalBlock → Type 0) (block : Result LocalBlock LocalFault) (blocks : Result (List LocalBlock) LocalFault) → IfOk block P → All P (blocks_in blocks) → All P (blocks_in (in_front block blocks))
front_each P (Ok block) (Ok blocks) one rest = All-cons P block blocks one rest
front_each P (Ok block) (Err fault) one rest = All-nil P
front_each P (Err fault) blocks one rest = All-nil P

blocks_each : (P : LocalBlock → Type 0) (given : Given) (cell : ℕ) (visits : List Visit) → All (λ visit. IfOk (block_of given cell visit) P) visits → All P (blocks_in (all_blocks (map (block_of given cell) visits)))
blocks_each P given cell [] h = All-nil P
blocks_each P given cell (visit ∷ visits) h =
    front_each P (block_of given cell visit) (all_blocks (map (block_of given cell) visits)) (All-head (λ v. IfOk (block_of given cell v) P) visit visits h)
    (blocks_each P given cell visits (All-tail (λ v. IfOk (block_of given cell v) P) visit visits h))

cell_each : (P : LocalBlock → Type 0) (s : MeshProblem) (cell : ℕ) → All (λ visit. IfOk (block_of s.given cell visit) P) (cell_visits s cell) → All P (blocks_in (cell_blocks s.flags s.given cell))
unfolding blocks_of
cell_each P s cell h = blocks_each P s.given cell (cell_visits s cell) h

form_each : (P : LocalBlock → Type 0) (dofs : List ℕ) (form : Result LocalForm LocalFault) → ((f : LocalForm) → P (record { dofs = dofs; form = f })) → IfOk (with_dofs dofs form) P
form_each P dofs (Ok form) h = h form
form_each P dofs (Err fault) h = tt

block_each : (P : LocalBlock → Type 0) (given : Given) (cell : ℕ) (visit : Visit) → ((f : LocalForm) → P (record { dofs = visit_dofs given cell visit; form = f })) → IfOk (block_of given cell visit) P
unfolding block_of
block_each P given cell visit h = form_each P (visit_dofs given cell visit) (visit_form given cell visit) h

cell_covered : (s : MeshProblem) (cell : ℕ) → All (IsVisitBelow s cell) (cell_visits s cell) → All (λ (c : Contribution). has (written_rows s cell) c.row ≡ true) (part_of s cell).list
unfolding part_of
cell_covered s cell below =
    let Q : Contribution → Type 0 = λ c. has (written_rows s cell) c.row ≡ true in
    let P : LocalBlock → Type 0 = λ block. All Q (contributions (lines_in s.closed) block) in
    all_flat Q (contributions (lines_in s.closed)) (blocks_in (cell_blocks s.flags s.given cell))
    (cell_each P s cell (λ k v h. block_each P s.given cell (slice_index_or (cell_visits s cell) k v) (λ f. visit_covered s cell k v f h (below k v h))))

cell_allowed : (s : MeshProblem) (cell : ℕ) → IsMatched s → IsCellFit s cell → cell < length s.given.forest.cells → AreClosedForms s.closed → IsPartFor (pattern_of s) (part_of s cell)
unfolding part_of
cell_allowed s cell matched fit within forms =
    let blocks : List LocalBlock = blocks_in (cell_blocks s.flags s.given cell) in
    let held = cell_held s cell matched fit within in
    let whole : All IsBlock blocks = cell_each IsBlock s cell (λ k v h. (fit.below k v h).block) in
    all_flat (IsFor (pattern_of s)) (contributions (lines_in s.closed)) blocks (λ k d inside.
    block_allowed (pattern_of s) (lines_in s.closed) (slice_index_or blocks k d) (closed_small s.closed forms) (whole k d inside) (held k d inside).pairs)

-- a cell with a fault has a visit
none_is_some : {X : Type 0} {x : X} → ◌≡◌ {A = Option X} None (Some x) → ⊥
none_is_some e = cc

some_visit : (given : Given) (cell : ℕ) (visits : List Visit) (fault : LocalFault) → fault_in (all_blocks (map (block_of given cell) visits)) ≡ Some fault → 0 < length visits
some_visit given cell [] fault e = absurd (none_is_some e)
some_visit given cell (visit ∷ visits) fault e = omega arith

fault_visit : (s : MeshProblem) (cell : ℕ) (fault : LocalFault) → (part_of s cell).fault ≡ Some fault → 0 < length (cell_visits s cell)
unfolding part_of blocks_of
fault_visit s cell fault e = some_visit s.given cell (cell_visits s cell) fault e

fault_shows : (s : MeshProblem) (cell : ℕ) (fault : LocalFault) → All (IsVisitBelow s cell) (cell_visits s cell) → (part_of s cell).fault ≡ Some fault → (row : ℕ) × (has (written_rows s cell) row ≡ true)
fault_shows s cell fault below e =
    let some : 0 < length (cell_visits s cell) = fault_visit s cell fault e in
    let first : IsVisitBelow s cell (slice_index_or (cell_visits s cell) 0 OnCell) = below 0 OnCell some in
    let dofs : List ℕ = visit_dofs s.given cell (slice_index_or (cell_visits s cell) 0 OnCell) in
    (slice_index_or dofs 0 0, visit_written s cell 0 OnCell (slice_index_or dofs 0 0) some (has_dof (lines_in s.closed) dofs 0 0 first.some) (first.dofs 0 0 first.some))

-- written rows are rows of the pattern
range_below : (n : ℕ) → All (λ x. x < n) (range_with_len 0 n)
range_below n k d inside =
    let low : k < n = omega (arith, inside, length-range_with_len 0 n) in
    omega (arith, low, get_or-range_with_len 0 n k d low)

written_below : (s : MeshProblem) (cell row : ℕ) → has (written_rows s cell) row ≡ true → row < s.given.dofs.size
unfolding written_rows
written_below s cell row h =
    has_below s.given.dofs.size (written_rows s cell) row (All-filter (has (flat_map (visit_rows s cell) (cell_visits s cell))) (λ x. x < s.given.dofs.size) (range_with_len 0 s.given.dofs.size) (range_below s.given.dofs.size)) h

written_within : (s : MeshProblem) (cell row : ℕ) → has (written_rows s cell) row ≡ true → row < length (pattern_of s)
unfolding pattern_of
written_within s cell row h = omega (arith, written_below s cell row h, rows_count (coupled_dofs s), size_is s)

cell_is_written : (s : MeshProblem) (cell : ℕ) → IsMatched s → IsCellFit s cell → cell < length s.given.forest.cells → AreClosedForms s.closed → IsWritten s cell
cell_is_written s cell matched fit within forms = record {
  held = cell_held s cell matched fit within;
  part = cell_allowed s cell matched fit within forms;
  covers = cell_covered s cell fit.below;
  shows = λ fault e. fault_shows s cell fault fit.below e;
  within = λ row h. written_within s cell row h;
}

pub all_written : (s now : MeshProblem) → s ≡ now → IsMatched s → ((c : ℕ) → c < length s.given.forest.cells → IsCellFit s c) → AreClosedForms s.closed → (cell : ℕ) → cell < length now.given.forest.cells → IsWritten now cell
all_written s now view matched fit forms =
    let P : MeshProblem → Type 0 = λ t. (cell : ℕ) → cell < length t.given.forest.cells → IsWritten t cell in
    subst P view (λ cell within. cell_is_written s cell matched (fit cell within) within forms)

pub within_limits : (s now : MeshProblem) → s ≡ now → IsMatched s → ((c : ℕ) → c < length s.given.forest.cells → IsCellFit s c) → AreClosedForms s.closed → length s.given.forest.cells ≤ 2 ^ 20 → IsWithinLimits now
within_limits s now view matched fit forms few =
    subst IsWithinLimits view (record {
      lines = matched.lines;
      forms = forms;
      cells = few;
      visits = λ cell within. (fit cell within).fit.few;
      blocks = λ cell within. cell_each IsBlock s cell (λ k v h. ((fit cell within).below k v h).block);
    })
