use Rattle.std.proofs.Common.{sym, subst, refl, ℕ, List, arith, length}
use Rattle.serial_sum.specs.Rows.{FitsRows}
use Rattle.serial_sum.specs.Marks.{IsRound}
use Rattle.sparsity.specs.Rows.{rows_in}
use Rattle.sparsity.specs.declared.rows.Row.{Row}
use Rattle.mesh_loop.specs.Setup.{MeshProblem, pattern_of}
use Rattle.colored_sum.specs.declared.row_job.MatrixRowJob.{MatrixRowJob}
use Rattle.colored_sum.specs.Rounds.{items_of, rows_at, row_with}
use Rattle.colored_sum.proofs.RoundRows.{suits, added}
use Rattle.colored_sum.proofs.colored.add_color.Goals as goal

count : MatrixRowJob → ℕ
count j = length j.cells.now

rows : MatrixRowJob → ℕ → List ℕ
rows j k = rows_at j.setup.now j.cells.now k

step : MatrixRowJob → Row → ℕ → ℕ → Row
step j row k i = row_with j.setup.now j.cells.now j.digits row k i

pub run_round-requires-clause-suits : goal.run_round-requires-clause-suits
run_round-requires-clause-suits g c κs within =
    let P : List Row → Type 0 = FitsRows (pattern_of c.args.job.now.setup.now) in
    suits _ _ _ c.args.job.now c.args.job.now.setup.now c.args.job.now.cells.now c.into_numbered.result.items refl (λ n. refl) (λ i row h. h) c.requires.few c.into_numbered.ensures.numbers c.requires.items
    (subst P (sym c.into_numbered.ensures.rows) c.requires.fits)

pub run_round-requires-clause-copies : goal.run_round-requires-clause-copies
run_round-requires-clause-copies g c κs within = λ k d lt. tt

pub from_numbered-requires-clause-numbers : goal.from_numbered-requires-clause-numbers
unfolding count rows step
from_numbered-requires-clause-numbers g c =
    let s : MeshProblem = c.args.job.now.setup.now in
    let P : List Row → Type 0 = FitsRows (pattern_of s) in
    (added count rows step c.args.job.now s c.args.job.now.cells.now c.args.job.now.digits c.into_numbered.result.items c.in-Ok.after.items refl (λ n. refl) (λ x n i. refl) c.into_numbered.ensures.numbers c.requires.items
    (subst P (sym c.into_numbered.ensures.rows) c.requires.fits) c.in-Ok.ensures.worked).numbers

pub from_numbered-requires-clause-size : goal.from_numbered-requires-clause-size
from_numbered-requires-clause-size g c = omega (arith, c.in-Ok.ensures.worked.as_many, c.into_numbered.ensures.size)

pub returns-in-Ok-clause-round : goal.returns-in-Ok-clause-round
unfolding count rows step
returns-in-Ok-clause-round g c =
    let s : MeshProblem = c.args.job.now.setup.now in
    let P : List Row → Type 0 = FitsRows (pattern_of s) in
    let Q : List Row → Type 0 = λ old. IsRound c.args.job.now.digits (pattern_of s) (items_of s c.args.job.now.cells.now) old (rows_in c.in-Ok.after.items) in
    let R : List Row → Type 0 = λ now. IsRound c.args.job.now.digits (pattern_of s) (items_of s c.args.job.now.cells.now) c.args.rows now in
    subst R (sym c.from_numbered.ensures)
    (subst Q c.into_numbered.ensures.rows
    (added count rows step c.args.job.now s c.args.job.now.cells.now c.args.job.now.digits c.into_numbered.result.items c.in-Ok.after.items refl (λ n. refl) (λ x n i. refl) c.into_numbered.ensures.numbers c.requires.items
    (subst P (sym c.into_numbered.ensures.rows) c.requires.fits) c.in-Ok.ensures.worked).round)

pub returns-in-Ok-clause-fits : goal.returns-in-Ok-clause-fits
unfolding count rows step
returns-in-Ok-clause-fits g c =
    let s : MeshProblem = c.args.job.now.setup.now in
    let P : List Row → Type 0 = FitsRows (pattern_of s) in
    subst P (sym c.from_numbered.ensures)
    (added count rows step c.args.job.now s c.args.job.now.cells.now c.args.job.now.digits c.into_numbered.result.items c.in-Ok.after.items refl (λ n. refl) (λ x n i. refl) c.into_numbered.ensures.numbers c.requires.items
    (subst P (sym c.into_numbered.ensures.rows) c.requires.fits) c.in-Ok.ensures.worked).fits
