use Rattle.std.proofs.Common.{◌∙◌, map, Vec, Global}
use Rattle.fem_fixed.specs.Mesh.{Mesh}
use Rattle.problem_read.specs.Entries.{ProblemParts}
use Rattle.run_words.specs.Choice.{seen}
use Rattle.run_outputs.specs.declared.target.Target.{Target}
use Rattle.run_outputs.specs.Targets.{seen_target}
use Rattle.run_targets.proofs.Definitions.{reading_ends, reading_reads, making_ends, made_defined, making_reads}
use Rattle.run_targets.proofs.read.all_targets.Goals as goal

pub returns-in-Ok-clause-ok : goal.returns-in-Ok-clause-ok
returns-in-Ok-clause-ok g c =
    made_defined (g.S.Store.holds c.args.store.now) (g.S.Store.holds c.read_source.new.store) (seen c.args.options.now) c.in-Ok.read (λ targets. map seen_target targets.items) c.make_any.result c.in-Ok.ensures.same c.in-Ok.ensures.ok
    c.make_any.ensures.ok

pub returns-in-Ok-clause-ends : goal.returns-in-Ok-clause-ends
returns-in-Ok-clause-ends g c =
    making_ends (g.S.Store.holds c.args.store.now) (g.S.Store.holds c.read_source.new.store) (seen c.args.options.now) c.in-Ok.read c.make_any.result c.in-Ok.ensures.same c.in-Ok.ensures.ok c.make_any.ensures.ends

pub returns-in-Ok-clause-same : goal.returns-in-Ok-clause-same
returns-in-Ok-clause-same g c = c.make_any.ensures.same ∙ c.in-Ok.ensures.same

pub returns-in-Ok-clause-calls : goal.returns-in-Ok-clause-calls
returns-in-Ok-clause-calls g c =
    making_reads (seen c.args.options.now) (g.S.Store.counts c.args.store.now) (g.S.Store.counts c.read_source.new.store) (g.S.Store.counts c.make_any.new.store) c.in-Ok.ensures.calls (g.S.Store.holds c.read_source.new.store) c.in-Ok.read
    c.make_any.result c.make_any.ensures.ends c.make_any.ensures.calls

pub returns-in-Err-clause-ends : goal.returns-in-Err-clause-ends
returns-in-Err-clause-ends g c = reading_ends (g.S.Store.holds c.args.store.now) (seen c.args.options.now) c.in-Err.ending c.in-Err.ensures.ends

pub returns-in-Err-clause-calls : goal.returns-in-Err-clause-calls
returns-in-Err-clause-calls g c =
    reading_reads (Mesh × ProblemParts) (Vec Target Global) (seen c.args.options.now) c.in-Err.ending (g.S.Store.counts c.args.store.now) (g.S.Store.counts c.read_source.new.store) c.in-Err.ensures.calls
