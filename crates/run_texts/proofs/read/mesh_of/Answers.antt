use Rattle.std.proofs.Common.{refl, ◌<◌, ◌≤◌, length, arith}
use Rattle.std.proofs.lemmas.Grind.{common_steps}
use Rattle.diagnostics.specs.declared.ending.Role.TheVariants as roles
use Rattle.diagnostics.specs.declared.refusal.Refusal.TheVariants.{Limit}
use Rattle.diagnostics.specs.declared.kinds.LimitKind.TheVariants.{MeshSize}
use Rattle.diagnostics.specs.Stages.{stops}
use Rattle.run_texts.specs.Texts.{text_limit, MeshIn}
use Rattle.run_texts.proofs.Reading.{of_text_result, of_text_ends}
use Rattle.run_texts.proofs.read.mesh_of.Goals as goal

pub returns-then-text-gt-TEXT_LIMIT-clause-refused : goal.returns-then-text-gt-TEXT_LIMIT-clause-refused
unfolding text_limit
returns-then-text-gt-TEXT_LIMIT-clause-refused c =
    let long : text_limit < length c.args.text.now = c.if-text-gt-TEXT_LIMIT.true in
    stops (Limit MeshSize) (long, refl) refl

pub returns-clause-ok : goal.returns-clause-ok
unfolding text_limit
returns-clause-ok c =
    let short : length c.args.text.now ≤ text_limit = (let h = c.if-text-gt-TEXT_LIMIT.false in grind (arith, common_steps)) in
    of_text_result roles.Mesh c.args.text.now (MeshIn c.args.format) c.mesh_in.result short c.mesh_in.ensures.ok

pub returns-clause-refused : goal.returns-clause-refused
unfolding text_limit
returns-clause-refused c =
    let short : length c.args.text.now ≤ text_limit = (let h = c.if-text-gt-TEXT_LIMIT.false in grind (arith, common_steps)) in
    of_text_ends roles.Mesh c.args.text.now (MeshIn c.args.format) c.mesh_in.result short c.mesh_in.ensures.refused
