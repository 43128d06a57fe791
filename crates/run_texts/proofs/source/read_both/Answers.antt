use Rattle.std.proofs.Common.{subst}
use Rattle.std.specs.Prelude.{Ok}
use Rattle.run_texts.proofs.Sources.{both_ok, mesh_ends_both, problem_ends_both, mesh_reads, both_reads, problem_reads}
use Rattle.std.specs.Option.{option_copied}
use Rattle.run_texts.specs.Read.{MeshUnder, ProblemUnder, EndsProblem}
use Rattle.fem_fixed.specs.Mesh.{Mesh}
use Rattle.problem_read.specs.Entries.{ProblemParts}
use Rattle.run_texts.proofs.source.read_both.Goals as goal

pub returns-in-Err-clause-ends : goal.returns-in-Err-clause-ends
returns-in-Err-clause-ends g c = mesh_ends_both (g.S.Store.holds c.args.store.now) c.args.mesh.now c.args.format (option_copied c.args.problem) c.in-Err.ending c.in-Err.ensures.ends

pub returns-in-Ok-read_named_problem-clause-ok : goal.returns-in-Ok-read_named_problem-clause-ok
returns-in-Ok-read_named_problem-clause-ok g c =
    both_ok (g.S.Store.holds c.args.store.now) c.args.mesh.now c.args.format (option_copied c.args.problem) c.in-Ok.parts c.in-Ok-read_named_problem.problem c.in-Ok.ensures.ok
    (subst (λ holds. ProblemUnder holds (option_copied c.args.problem) (Ok c.in-Ok-read_named_problem.problem)) c.in-Ok.ensures.same c.in-Ok-read_named_problem.ensures.ok)

pub returns-in-Ok-read_named_problem-clause-calls : goal.returns-in-Ok-read_named_problem-clause-calls
returns-in-Ok-read_named_problem-clause-calls g c =
    both_reads (option_copied c.args.problem) (g.S.Store.counts c.args.store.now) (g.S.Store.counts c.read_mesh.new.store) (g.S.Store.counts c.read_named_problem.new.store) c.in-Ok.ensures.calls c.in-Ok-read_named_problem.ensures.calls

pub returns-in-Err-read_named_problem-clause-ends : goal.returns-in-Err-read_named_problem-clause-ends
returns-in-Err-read_named_problem-clause-ends g c =
    problem_ends_both (g.S.Store.holds c.args.store.now) c.args.mesh.now c.args.format (option_copied c.args.problem) c.in-Ok.parts c.in-Err-read_named_problem.ending c.in-Ok.ensures.ok
    (subst (λ holds. EndsProblem holds (option_copied c.args.problem) c.in-Err-read_named_problem.ending) c.in-Ok.ensures.same c.in-Err-read_named_problem.ensures.ends)

pub returns-in-Err-read_named_problem-clause-calls : goal.returns-in-Err-read_named_problem-clause-calls
returns-in-Err-read_named_problem-clause-calls g c =
    problem_reads (Mesh × ProblemParts) (g.S.Store.holds c.read_mesh.new.store) c.args.mesh.now c.args.format (option_copied c.args.problem) c.in-Err-read_named_problem.ending (g.S.Store.counts c.args.store.now) (g.S.Store.counts c.read_mesh.new.store) (g.S.Store.counts c.read_named_problem.new.store)
    c.in-Err-read_named_problem.ensures.ends c.in-Ok.ensures.calls c.in-Err-read_named_problem.ensures.calls

pub returns-in-Err-clause-calls : goal.returns-in-Err-clause-calls
returns-in-Err-clause-calls g c =
    mesh_reads (Mesh × ProblemParts) (MeshUnder (g.S.Store.holds c.args.store.now) c.args.mesh.now c.args.format) c.args.mesh.now c.args.format (option_copied c.args.problem) c.in-Err.ending (g.S.Store.counts c.args.store.now) (g.S.Store.counts c.read_mesh.new.store)
    c.in-Err.ensures.ends c.in-Err.ensures.calls
