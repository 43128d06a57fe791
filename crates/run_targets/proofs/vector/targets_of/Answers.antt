use Rattle.std.proofs.Common.{map, sym, subst}
use Rattle.std.specs.Prelude.{Ok, IfOk, IfErr}
use Rattle.run_words.specs.Choice.{seen}
use Rattle.run_outputs.specs.Targets.{seen_target}
use Rattle.diagnostics.specs.Stages.{EndsIn}
use Rattle.run_targets.specs.Defines.{VectorMade}
use Rattle.run_targets.proofs.vector.targets_of.Goals as goal

pub returns-in-Product-clause-ok : goal.returns-in-Product-clause-ok
returns-in-Product-clause-ok g c =
    subst (λ task. IfOk c.product.result (λ targets. VectorMade task (seen c.args.options.now) c.args.read c.args.values.now (Ok (map seen_target targets.items)))) (sym c.in-Product.is) c.product.ensures.ok

pub returns-in-Product-clause-ends : goal.returns-in-Product-clause-ends
returns-in-Product-clause-ends g c =
    subst (λ task. IfErr c.product.result (EndsIn (VectorMade task (seen c.args.options.now) c.args.read c.args.values.now))) (sym c.in-Product.is) c.product.ensures.ends

pub returns-in-Marks-clause-ok : goal.returns-in-Marks-clause-ok
returns-in-Marks-clause-ok g c =
    subst (λ task. IfOk c.marks.result (λ targets. VectorMade task (seen c.args.options.now) c.args.read c.args.values.now (Ok (map seen_target targets.items)))) (sym c.in-Marks.is) c.marks.ensures.ok

pub returns-in-Marks-clause-ends : goal.returns-in-Marks-clause-ends
returns-in-Marks-clause-ends g c =
    subst (λ task. IfErr c.marks.result (EndsIn (VectorMade task (seen c.args.options.now) c.args.read c.args.values.now))) (sym c.in-Marks.is) c.marks.ensures.ends

pub returns-in-Adapt-clause-ok : goal.returns-in-Adapt-clause-ok
returns-in-Adapt-clause-ok g c =
    subst (λ task. IfOk c.adapted.result (λ targets. VectorMade task (seen c.args.options.now) c.args.read c.args.values.now (Ok (map seen_target targets.items)))) (sym c.in-Adapt.is) c.adapted.ensures.ok

pub returns-in-Adapt-clause-ends : goal.returns-in-Adapt-clause-ends
returns-in-Adapt-clause-ends g c =
    subst (λ task. IfErr c.adapted.result (EndsIn (VectorMade task (seen c.args.options.now) c.args.read c.args.values.now))) (sym c.in-Adapt.is) c.adapted.ensures.ends
