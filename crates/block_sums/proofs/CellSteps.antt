-- Blocks of a cell, one after another.
use Rattle.std.proofs.Common.{◌≡◌, ◌∙◌, sym, ap, refl, subst, ℕ, ◌<◌, List, arith, [], length, take, Some, None, slice_index_or}
use Rattle.std.specs.List.{All, fold, flat_map}
use Rattle.std.specs.declared.option.Option.{Option}
use Rattle.std.specs.declared.result.Result.{Result}
use Rattle.std.specs.declared.result.Result.TheVariants.{Ok, Err}
use Rattle.std.proofs.lemmas.List.Elements.{All-nil}
use Rattle.std.proofs.lemmas.Grind.{common_steps}
use Rattle.affine_constraints.specs.Lines.{AffineLine, Lines, lines_in}
use Rattle.affine_constraints.specs.Closing.{AreClosedForms}
use Rattle.fixed_q1.specs.declared.fault.LocalFault.{LocalFault}
use Rattle.cell_blocks.specs.LocalBlocks.{LocalBlock, IsBlock}
use Rattle.cell_blocks.specs.Visited.{fault_in, blocks_in}
use Rattle.sparsity.specs.declared.rows.Row.{Row}
use Rattle.serial_sum.specs.Rows.{IsFor, Run, one}
use Rattle.serial_sum.specs.Steps.{failure_at, after_run, formed_step, IsPartFor}
use Rattle.serial_sum.specs.Adders.{rows_step}
use Rattle.serial_sum.specs.declared.part.Contribution.{Contribution}
use Rattle.serial_sum.specs.declared.sum.Failure.{Failure}
use Rattle.serial_sum.specs.declared.sum.MatrixState.{MatrixState}
use Rattle.serial_sum.proofs.Added.{all_rows_told}
use Rattle.block_sums.specs.Contributions.{contributions}
use Rattle.block_sums.specs.Parts.{part_of_blocks, cell_contributions, HoldsAll}
use Rattle.block_sums.proofs.Allowed.{all_flat, block_allowed, closed_small}

-- what holds of each block holds of this one
pub at_block : (P : LocalBlock → Type 0) (blocks : List LocalBlock) (k : ℕ) (block : LocalBlock) → All P blocks → k < length blocks → block ≡ slice_index_or blocks k block → P block
at_block P blocks k block all inside e = subst P (sym e) (all k block inside)

pub whole : (blocks : List LocalBlock) → take (length blocks) blocks ≡ blocks
whole blocks = grind (arith, common_steps)

pub cell_allowed : (pattern : List (List ℕ)) (table : List (Option AffineLine)) (blocks : Result (List LocalBlock) LocalFault) → AreClosedForms table → All IsBlock (blocks_in blocks) →
    HoldsAll pattern table (blocks_in blocks) → All (IsFor pattern) (cell_contributions (lines_in table) blocks)
cell_allowed pattern table blocks forms are held =
    all_flat (IsFor pattern) (contributions (lines_in table)) (blocks_in blocks) (λ k d inside.
    block_allowed pattern (lines_in table) (slice_index_or (blocks_in blocks) k d) (closed_small table forms) (are k d inside) (held k d inside).pairs)

-- contributions added to all rows
pub rows_run : (digits : ℕ) (pattern : List (List ℕ)) (list : List Contribution) (rows now : List Row) (least lower : Option ℕ) →
    ◌≡◌ {A = List Row × Option ℕ} (now, lower) (fold (rows_step digits pattern) (rows, least) list) →
    ◌≡◌ {A = Run} (record { rows = now; least = lower }) (fold (one digits pattern) (record { rows = rows; least = least }) list)
rows_run digits pattern list rows now least lower e = ap run_of (e ∙ all_rows_told digits pattern list (record { rows = rows; least = least }))
  where
    run_of : List Row × Option ℕ → Run
    run_of p = record { rows = p.0; least = p.1 }

-- the step of a cell whose blocks were added
pub step_formed : (digits : ℕ) (pattern : List (List ℕ)) (lines : Lines) (rows now : List Row) (lower : Option ℕ) (failure : Option Failure) (cell : ℕ) (blocks : Result (List LocalBlock) LocalFault) →
    None ≡ fault_in blocks → failure ≡ failure_at cell lower →
    ◌≡◌ {A = Run} (record { rows = now; least = lower }) (fold (one digits pattern) (record { rows = rows; least = None }) (cell_contributions lines blocks)) →
    ◌≡◌ {A = MatrixState} (record { rows = now; failure = failure }) (formed_step digits pattern rows (part_of_blocks lines cell blocks) (fault_in blocks))
step_formed digits pattern lines rows now lower failure cell blocks formed told run =
    ap (λ (f : Option Failure). with_failure f) told ∙ ap (after_run cell) run ∙ ap (formed_step digits pattern rows (part_of_blocks lines cell blocks)) formed
  where
    with_failure : Option Failure → MatrixState
    with_failure f = record { rows = now; failure = f }

-- after a fault there is no block
none_after_fault : (blocks : Result (List LocalBlock) LocalFault) (fault : LocalFault) → Some fault ≡ fault_in blocks → blocks_in blocks ≡ []
none_after_fault (Ok blocks) fault e = absurd (cc)
none_after_fault (Err other) fault e = refl

pub none_allowed : (pattern : List (List ℕ)) (lines : Lines) (cell : ℕ) (blocks : Result (List LocalBlock) LocalFault) (fault : LocalFault) → Some fault ≡ fault_in blocks → IsPartFor pattern (part_of_blocks lines cell blocks)
none_allowed pattern lines cell blocks fault e =
    let P : List LocalBlock → Type 0 = λ list. All (IsFor pattern) (flat_map (contributions lines) list) in
    subst P (sym (none_after_fault blocks fault e)) (All-nil (IsFor pattern))
