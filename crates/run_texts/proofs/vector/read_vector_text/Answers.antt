use Rattle.std.proofs.Common.{◌∙◌, sym, ap, subst}
use Rattle.std.specs.Prelude.{Ok, IfOk, IfErr}
use Rattle.diagnostics.specs.declared.ending.Role.TheVariants as roles
use Rattle.diagnostics.specs.Stages as stages
use Rattle.run_texts.specs.Texts.{VectorIn}
use Rattle.fem_text.specs.Counts.{after_call}
use Rattle.run_texts.proofs.Reading.{read_ends, under_ok, under_ends, no_read_fault}
use Rattle.run_texts.proofs.vector.read_vector_text.Goals as goal

pub returns-in-Err-clause-ends : goal.returns-in-Err-clause-ends
returns-in-Err-clause-ends g c = read_ends roles.Vector VectorIn (g.S.Store.holds c.args.store.now) c.args.name.now c.in-Err.ending c.in-Err.ensures.ends

pub returns-clause-ok : goal.returns-clause-ok
returns-clause-ok g c =
    under_ok roles.Vector VectorIn (g.S.Store.holds c.args.store.now) c.args.name.now c.in-Ok.text.items c.vector_in.result c.in-Ok.ensures.ok
    (subst (λ text. IfOk c.vector_in.result (λ values. VectorIn text (Ok values))) c.as_slice.ensures.value c.vector_in.ensures.ok)

pub returns-clause-ends : goal.returns-clause-ends
returns-clause-ends g c =
    under_ends roles.Vector VectorIn (g.S.Store.holds c.args.store.now) c.args.name.now c.in-Ok.text.items c.vector_in.result c.in-Ok.ensures.ok
    (subst (λ text. IfErr c.vector_in.result (stages.EndsIn (VectorIn text))) c.as_slice.ensures.value c.vector_in.ensures.refused)

pub returns-clause-calls : goal.returns-clause-calls
returns-clause-calls g c =
    c.in-Ok.ensures.calls ∙ ap (λ b. after_call b (g.S.Store.counts c.args.store.now)) (sym (no_read_fault (VectorIn c.as_slice.result.now) c.vector_in.result c.vector_in.ensures.refused))
