use Rattle.std.proofs.Common.{◌∙◌, sym, ap, map}
use Rattle.diagnostics.specs.declared.ending.Role.TheVariants as roles
use Rattle.fem_text.specs.Counts.{after_call}
use Rattle.run_words.specs.Choice.{seen}
use Rattle.run_texts.specs.Read.{VectorUnder}
use Rattle.run_outputs.specs.Targets.{seen_target}
use Rattle.run_targets.specs.Defines.{VectorMade}
use Rattle.run_targets.proofs.Steps.{read_ends, next_goes, next_ends_reading, no_read_fault}
use Rattle.run_targets.proofs.vector.vector_targets.Goals as goal

pub returns-in-Err-clause-ends : goal.returns-in-Err-clause-ends
returns-in-Err-clause-ends g c =
    read_ends (VectorUnder (g.S.Store.holds c.args.store.now) c.args.name.now) (VectorMade c.args.task (seen c.args.options.now) c.args.read) roles.Vector c.in-Err.ending c.in-Err.ensures.ends

pub returns-clause-ok : goal.returns-clause-ok
returns-clause-ok g c =
    next_goes (VectorUnder (g.S.Store.holds c.args.store.now) c.args.name.now) (VectorMade c.args.task (seen c.args.options.now) c.args.read) (λ targets. map seen_target targets.items) c.in-Ok.values c.targets_of.result
    c.in-Ok.ensures.ok c.targets_of.ensures.ok

pub returns-clause-ends : goal.returns-clause-ends
returns-clause-ends g c =
    next_ends_reading (VectorUnder (g.S.Store.holds c.args.store.now) c.args.name.now) (VectorMade c.args.task (seen c.args.options.now) c.args.read) roles.Vector c.in-Ok.values c.targets_of.result
    c.in-Ok.ensures.ok c.targets_of.ensures.ends

pub returns-clause-calls : goal.returns-clause-calls
returns-clause-calls g c =
    c.in-Ok.ensures.calls
    ∙ ap (λ b. after_call b (g.S.Store.counts c.args.store.now)) (sym (no_read_fault (VectorMade c.args.task (seen c.args.options.now) c.args.read c.in-Ok.values) c.targets_of.result c.targets_of.ensures.ends))
