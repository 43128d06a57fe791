use Rattle.std.proofs.Common.{ap, sym, subst, ◌∙◌, ◌≡◌}
use Rattle.ordered_pipeline.specs.Lines.{line_key}
use Rattle.ordered_pipeline.proofs.Folds.{fold_fits}
use Rattle.ordered_pipeline.proofs.pipeline.Pipeline.copy_next.Goals as goal

pub copy_item-requires-clause-fits : goal.copy_item-requires-clause-fits
copy_item-requires-clause-fits g c κs within = λ n lt.
    let laws = g.met.J.Job g.world.𝓛 g.world.𝓜 g.world.𝓡 ((λ s x. x), (λ x. x), (λ x. x), λ x. x) in
    let key = line_key c.self.inside.line in
    let same : c.args.job.now ≡ key.job.value = c.requires.job ∙ ap (λ p. p.key.job.value) (sym c.self.view_is) in
    fold_fits g.J.Job.fits g.J.Job.step laws.still_fits c.args.job.now key.state.value (subst (λ j. g.J.Job.fits j key.state.value) (sym same) c.self.invariant.0.state_fits) n
