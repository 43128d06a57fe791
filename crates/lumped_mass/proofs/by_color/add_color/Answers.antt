use Rattle.std.proofs.Common.{refl, ℕ, ℤ, List, [], length, ◌+ℤ◌}
use Rattle.std.specs.Prelude.{slice_index, slice_index_or}
use Rattle.std.specs.Int.{w128, int_wrap}
use Rattle.lumped_mass.specs.declared.color.Color.{Color}
use Rattle.lumped_mass.specs.Masses.{cell_mass}
use Rattle.lumped_mass.proofs.Rounds.{suits, added}
use Rattle.lumped_mass.proofs.by_color.add_color.Goals as goal

count : Color → ℕ
count j = length j.cells.now

rows : Color → ℕ → List ℕ
rows j k = slice_index_or j.rows.now (slice_index j.cells.now k) []

step : Color → ℤ → ℕ → ℕ → ℤ
step j sum k row = int_wrap w128 (sum +ℤ cell_mass j.all.now.forest.now j.all.now.dofs.now row (slice_index j.cells.now k))

pub run_round-requires-clause-suits : goal.run_round-requires-clause-suits
unfolding count rows
run_round-requires-clause-suits g c κs within =
    suits count rows c.args.job.now c.args.job.now.all.now.forest.now c.args.job.now.all.now.dofs.now c.args.job.now.rows.now c.args.job.now.cells.now (length c.args.job.now.all.now.forest.now.cells) refl (λ n. refl)
    c.args.job.now.there c.requires.rising c.args.job.now.all.now.four c.requires.apart _ c.requires.sums.0 c.args.sums.items (λ row x. tt) c.requires.few c.requires.sums.1

pub returns-in-Ok : goal.returns-in-Ok
unfolding count rows step
returns-in-Ok g c = λ before are.
    added count rows c.args.job.now c.args.job.now.all.now.forest.now c.args.job.now.all.now.dofs.now c.args.job.now.rows.now c.args.job.now.cells.now (length c.args.job.now.all.now.forest.now.cells) refl (λ n. refl)
    c.args.job.now.there c.requires.rising c.args.job.now.all.now.four c.requires.apart step before c.args.sums.items c.in-Ok.after.items (λ x n r. refl) are c.in-Ok.ensures.worked
