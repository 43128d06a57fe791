use Rattle.std.proofs.Common.{◌∙◌, sym, ap, subst}
use Rattle.std.specs.Prelude.{Ok, IfOk, IfErr}
use Rattle.diagnostics.specs.declared.ending.Role.TheVariants as roles
use Rattle.diagnostics.specs.Stages.{stops, goes}
use Rattle.diagnostics.specs.Stages as stages
use Rattle.run_texts.specs.Texts.{MeshIn}
use Rattle.fem_text.specs.Counts.{after_call}
use Rattle.run_texts.proofs.Reading.{read_ends, under_ok, under_ends, no_read_fault}
use Rattle.run_texts.proofs.read.read_mesh.Goals as goal

pub returns-in-Err-clause-ends : goal.returns-in-Err-clause-ends
returns-in-Err-clause-ends g c = read_ends roles.Mesh (MeshIn c.args.format) (g.S.Store.holds c.args.store.now) c.args.name.now c.in-Err.ending c.in-Err.ensures.ends

pub returns-clause-ok : goal.returns-clause-ok
returns-clause-ok g c =
    under_ok roles.Mesh (MeshIn c.args.format) (g.S.Store.holds c.args.store.now) c.args.name.now c.in-Ok.text.items c.mesh_in.result c.in-Ok.ensures.ok
    (subst (λ text. IfOk c.mesh_in.result (λ parts. MeshIn c.args.format text (Ok parts))) c.as_slice.ensures.value c.mesh_in.ensures.ok)

pub returns-clause-ends : goal.returns-clause-ends
returns-clause-ends g c =
    under_ends roles.Mesh (MeshIn c.args.format) (g.S.Store.holds c.args.store.now) c.args.name.now c.in-Ok.text.items c.mesh_in.result c.in-Ok.ensures.ok
    (subst (λ text. IfErr c.mesh_in.result (stages.EndsIn (MeshIn c.args.format text))) c.as_slice.ensures.value c.mesh_in.ensures.refused)

pub returns-clause-calls : goal.returns-clause-calls
returns-clause-calls g c =
    c.in-Ok.ensures.calls ∙ ap (λ b. after_call b (g.S.Store.counts c.args.store.now)) (sym (no_read_fault (MeshIn c.args.format c.as_slice.result.now) c.mesh_in.result c.mesh_in.ensures.refused))
