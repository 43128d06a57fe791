use Rattle.std.proofs.Common.{◌≡◌, ◌∙◌, ap, ◌*◌, ◌-◌, length, min, arith}
use Rattle.mesh_loop.specs.Setup.{MeshProblem}
use Rattle.ordered_sum.proofs.Stretches.{chunk_is, begins_within}
use Rattle.ordered_sum.proofs.job.MatrixJob.cells_of.Goals as goal

pub returns-clause-are : goal.returns-clause-are
returns-clause-are c =
    let s : MeshProblem = c.args.self.now.setup.now in
    let begin : c.args.item * c.from.result ≡ c.args.item * c.args.self.now.chunk = ap (λ n. c.args.item * n) c.from.ensures in
    let within = begins_within (length s.given.forest.cells) c.args.self.now.chunk c.args.item c.args.self.now.some c.requires in
    chunk_is s c.args.self.now.chunk c.args.item (c.args.item * c.from.result) c.min-count.result begin (omega (arith, begin, within))
    (c.min-count.ensures ∙ ap (λ n. min c.args.self.now.chunk (n - c.args.item * c.from.result)) c.cells.ensures)
