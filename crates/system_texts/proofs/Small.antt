-- The sums of a system have a summary.
use Rattle.std.proofs.Common.{◌≡◌, ◌≤◌, ℕ, List, length}
use Rattle.std.specs.Prelude.{Some, None, Ok}
use Rattle.std.specs.List.{concat}
use Rattle.sparsity.specs.declared.rows.Row.{Row}
use Rattle.matrix_market.specs.Entries.{values_of, right_sides}
use Rattle.run_summary.specs.Summary.{IsSummable}
use Rattle.run_summary.proofs.SumsFit.{sum_is_summable}
use Rattle.mesh_loop.specs.Setup.{MeshProblem, pattern_of}
use Rattle.mesh_loop.specs.Sum.{parts_of}
use Rattle.run_words.specs.declared.options.SystemMode.{SystemMode}
use Rattle.system_texts.specs.Sums.{HasNoSums, IsOfSums}

pub sums_are_small : (mode : SystemMode) (s : MeshProblem) (rows : List Row) → IsOfSums mode s (Some rows) → length (concat (pattern_of s)) ≤ 33554432 →
    IsSummable (pattern_of s) (values_of rows) (right_sides rows)
sums_are_small mode s rows (digits, (order, of_mode, sum)) few = sum_is_summable digits (pattern_of s) (parts_of s order) rows sum few

pub without_sums : (mode : SystemMode) (s : MeshProblem) → IsOfSums mode s None → HasNoSums mode
without_sums mode s (digits, none) = none
