-- The contributions of a block to the rows of a system, in units of 2^-32.
use Rattle.std.specs.Prelude.{ℕ, ◌==◌, Bool, List, [], ◌∷◌, ◌++◌, length, map, slice_index, slice_index_or, ℤ, pos, unsigned_abs, if◌then◌else◌, Some, None}
use Rattle.std.specs.declared.option.Option.{Option}
use Rattle.std.specs.List.{flat_map, range_with_len}
use Rattle.affine_constraints.specs.declared.term.Term.{Term}
use Rattle.affine_constraints.specs.Lines.{AffineLine, Lines}
use Rattle.cell_blocks.specs.LocalBlocks.{LocalBlock}
use Rattle.serial_sum.specs.declared.part.Target.{Target}
use Rattle.serial_sum.specs.declared.part.Target.TheVariants.{Column, RightSide}
use Rattle.serial_sum.specs.declared.part.Contribution.{Contribution}
use Rattle.block_sums.specs.Masters.{masters, constant_of}
use Rattle.block_sums.specs.Shares.{load_share, entry_share, constant_share}

abbrev pub to : ℕ → Target → ℤ → Contribution
to row target value = record { row = row; target = target; value = value }

abbrev pub is_zero : ℤ → Bool
is_zero k = unsigned_abs k == 0

-- what the constant of a column's dof adds to the right side of a row
abbrev pub constant_terms : ℕ → ℤ → ℤ → ℤ → List Contribution
constant_terms row weight entry constant = if is_zero constant then [] else to row RightSide (constant_share weight entry constant) ∷ []

-- a local entry on one master of its row, spread over the masters of its column's dof
abbrev pub column_terms : Lines → Term → ℤ → ℕ → List Contribution
column_terms lines master entry dof =
    map (λ (other : Term). to master.dof (Column other.dof) (entry_share master.weight entry other.weight)) (masters lines dof)
    ++ constant_terms master.dof master.weight entry (constant_of lines dof)

abbrev pub dof_at : LocalBlock → ℕ → ℕ
dof_at block i = slice_index block.dofs i

abbrev pub load_at : LocalBlock → ℕ → ℤ
load_at block i = slice_index_or block.form.load i (pos 0)

abbrev pub entry_at : LocalBlock → ℕ → ℕ → ℤ
entry_at block i j = slice_index_or (slice_index_or block.form.matrix i []) j (pos 0)

abbrev pub numbers : LocalBlock → List ℕ
numbers block = range_with_len 0 (length block.dofs)

-- the local row i on one of its masters
unfoldable pub master_terms : Lines → LocalBlock → ℕ → Term → List Contribution
master_terms lines block i master =
    to master.dof RightSide (load_share master.weight (load_at block i)) ∷ flat_map (λ j. column_terms lines master (entry_at block i j) (dof_at block j)) (numbers block)

-- a constrained dof gets the size of its local diagonal on its own diagonal, so that its row can be solved
abbrev pub own_terms : ℕ → ℕ → ℤ → List Contribution
own_terms dof size constant = to dof (Column dof) (pos size) ∷ to dof RightSide (load_share constant (pos size)) ∷ []

abbrev pub own_by : Option AffineLine → ℕ → ℕ → List Contribution
own_by None dof size = []
own_by (Some line) dof size = own_terms dof size line.constant

-- the local row i
unfoldable pub row_terms : Lines → LocalBlock → ℕ → List Contribution
row_terms lines block i =
    flat_map (master_terms lines block i) (masters lines (dof_at block i)) ++ own_by (lines (dof_at block i)) (dof_at block i) (unsigned_abs (entry_at block i i))

-- the contributions of a block, local row after local row
unfoldable pub contributions : Lines → LocalBlock → List Contribution
contributions lines block = flat_map (row_terms lines block) (numbers block)
