use Rattle.std.proofs.Common.{◌∙◌, ap, refl, subst}
use Rattle.std.specs.Prelude.{Ok, IfErr}
use Rattle.problem_read.specs.Entries.{ProblemParts, diffusion, source, robin, dirichlet, penalty, refine, constraint, subdomain}
use Rattle.problem_read.specs.EntryLine.{entry_behind}
use Rattle.problem_read.specs.Problem.{NoMemoryOr}
use Rattle.problem_read.specs.Ties.{tie_line}
use Rattle.problem_read.specs.Held.{steps_in}
use Rattle.problem_read.specs.Steps.{AddsEntry, IsLineFault, setting_line, penalty_line, step_line}
use Rattle.problem_read.specs.contracts.tables.Tables.{the_view}
use Rattle.problem_read.proofs.Entries.{on_ok, errs_as, of_diffusion, of_source, of_robin, of_dirichlet, of_subdomain, of_penalty, of_step, of_tie, adds_diffusion, adds_source, adds_robin, adds_dirichlet, adds_subdomain, adds_penalty, adds_step, adds_tie}
use Rattle.problem_read.proofs.tables.Tables.add_as.Goals as goal

pub returns-in-Diffusion-clause-ok : goal.returns-in-Diffusion-clause-ok
returns-in-Diffusion-clause-ok c =
    let P : ProblemParts → Type 0 = λ before. AddsEntry before c.args.words.now (the_view (record c.self.inside { diffusion = c.add_setting.new.map })) in
    let h = c.requires ∙ ap Ok c.in-Diffusion.is in
    on_ok c.add_setting.result (λ adds. subst P c.self.view_is (adds_diffusion (the_view c.self.inside) (the_view (record c.self.inside { diffusion = c.add_setting.new.map })) c.args.words.now c.setting_of.result c.add_setting.new.map.entries c.setting_of.ensures h refl adds)) c.add_setting.ensures.ok

pub returns-in-Diffusion-clause-err : goal.returns-in-Diffusion-clause-err
returns-in-Diffusion-clause-err c =
    let P : ProblemParts → Type 0 = λ before. IfErr c.add_setting.result (λ fault. NoMemoryOr fault (IsLineFault (entry_behind before c.args.words.now) c.args.line.now.number fault)) in
    let h = c.requires ∙ ap Ok c.in-Diffusion.is in
    subst P c.self.view_is
    (errs_as (setting_line c.setting_of.result (the_view c.self.inside).diffusion) diffusion (entry_behind (the_view c.self.inside) c.args.words.now) c.args.line.now.number c.add_setting.result
    (of_diffusion (the_view c.self.inside) c.args.words.now c.setting_of.result c.setting_of.ensures h) c.add_setting.ensures.err)

pub returns-in-Source-clause-ok : goal.returns-in-Source-clause-ok
returns-in-Source-clause-ok c =
    let P : ProblemParts → Type 0 = λ before. AddsEntry before c.args.words.now (the_view (record c.self.inside { source = c.add_setting-in-Source.new.map })) in
    let h = c.requires ∙ ap Ok c.in-Source.is in
    on_ok c.add_setting-in-Source.result (λ adds. subst P c.self.view_is (adds_source (the_view c.self.inside) (the_view (record c.self.inside { source = c.add_setting-in-Source.new.map })) c.args.words.now c.setting_of-in-Source.result c.add_setting-in-Source.new.map.entries c.setting_of-in-Source.ensures h refl adds)) c.add_setting-in-Source.ensures.ok

pub returns-in-Source-clause-err : goal.returns-in-Source-clause-err
returns-in-Source-clause-err c =
    let P : ProblemParts → Type 0 = λ before. IfErr c.add_setting-in-Source.result (λ fault. NoMemoryOr fault (IsLineFault (entry_behind before c.args.words.now) c.args.line.now.number fault)) in
    let h = c.requires ∙ ap Ok c.in-Source.is in
    subst P c.self.view_is
    (errs_as (setting_line c.setting_of-in-Source.result (the_view c.self.inside).source) source (entry_behind (the_view c.self.inside) c.args.words.now) c.args.line.now.number c.add_setting-in-Source.result
    (of_source (the_view c.self.inside) c.args.words.now c.setting_of-in-Source.result c.setting_of-in-Source.ensures h) c.add_setting-in-Source.ensures.err)

pub returns-in-Robin-clause-ok : goal.returns-in-Robin-clause-ok
returns-in-Robin-clause-ok c =
    let P : ProblemParts → Type 0 = λ before. AddsEntry before c.args.words.now (the_view (record c.self.inside { robin = c.add_setting-in-Robin.new.map })) in
    let h = c.requires ∙ ap Ok c.in-Robin.is in
    on_ok c.add_setting-in-Robin.result (λ adds. subst P c.self.view_is (adds_robin (the_view c.self.inside) (the_view (record c.self.inside { robin = c.add_setting-in-Robin.new.map })) c.args.words.now c.two_settings_of.result c.add_setting-in-Robin.new.map.entries c.two_settings_of.ensures h refl adds)) c.add_setting-in-Robin.ensures.ok

pub returns-in-Robin-clause-err : goal.returns-in-Robin-clause-err
returns-in-Robin-clause-err c =
    let P : ProblemParts → Type 0 = λ before. IfErr c.add_setting-in-Robin.result (λ fault. NoMemoryOr fault (IsLineFault (entry_behind before c.args.words.now) c.args.line.now.number fault)) in
    let h = c.requires ∙ ap Ok c.in-Robin.is in
    subst P c.self.view_is
    (errs_as (setting_line c.two_settings_of.result (the_view c.self.inside).robin) robin (entry_behind (the_view c.self.inside) c.args.words.now) c.args.line.now.number c.add_setting-in-Robin.result
    (of_robin (the_view c.self.inside) c.args.words.now c.two_settings_of.result c.two_settings_of.ensures h) c.add_setting-in-Robin.ensures.err)

pub returns-in-Dirichlet-clause-ok : goal.returns-in-Dirichlet-clause-ok
returns-in-Dirichlet-clause-ok c =
    let P : ProblemParts → Type 0 = λ before. AddsEntry before c.args.words.now (the_view (record c.self.inside { dirichlet = c.add_setting-in-Dirichlet.new.map })) in
    let h = c.requires ∙ ap Ok c.in-Dirichlet.is in
    on_ok c.add_setting-in-Dirichlet.result (λ adds. subst P c.self.view_is (adds_dirichlet (the_view c.self.inside) (the_view (record c.self.inside { dirichlet = c.add_setting-in-Dirichlet.new.map })) c.args.words.now c.setting_of-in-Dirichlet.result c.add_setting-in-Dirichlet.new.map.entries c.setting_of-in-Dirichlet.ensures h refl adds)) c.add_setting-in-Dirichlet.ensures.ok

pub returns-in-Dirichlet-clause-err : goal.returns-in-Dirichlet-clause-err
returns-in-Dirichlet-clause-err c =
    let P : ProblemParts → Type 0 = λ before. IfErr c.add_setting-in-Dirichlet.result (λ fault. NoMemoryOr fault (IsLineFault (entry_behind before c.args.words.now) c.args.line.now.number fault)) in
    let h = c.requires ∙ ap Ok c.in-Dirichlet.is in
    subst P c.self.view_is
    (errs_as (setting_line c.setting_of-in-Dirichlet.result (the_view c.self.inside).dirichlet) dirichlet (entry_behind (the_view c.self.inside) c.args.words.now) c.args.line.now.number c.add_setting-in-Dirichlet.result
    (of_dirichlet (the_view c.self.inside) c.args.words.now c.setting_of-in-Dirichlet.result c.setting_of-in-Dirichlet.ensures h) c.add_setting-in-Dirichlet.ensures.err)

pub returns-in-Penalty-clause-ok : goal.returns-in-Penalty-clause-ok
returns-in-Penalty-clause-ok c =
    let P : ProblemParts → Type 0 = λ before. AddsEntry before c.args.words.now (the_view (record c.self.inside { penalty = c.add_penalty.new.penalty })) in
    let h = c.requires ∙ ap Ok c.in-Penalty.is in
    on_ok c.add_penalty.result (λ adds. subst P c.self.view_is (adds_penalty (the_view c.self.inside) (the_view (record c.self.inside { penalty = c.add_penalty.new.penalty })) c.args.words.now c.add_penalty.new.penalty h refl adds)) c.add_penalty.ensures.ok

pub returns-in-Penalty-clause-err : goal.returns-in-Penalty-clause-err
returns-in-Penalty-clause-err c =
    let P : ProblemParts → Type 0 = λ before. IfErr c.add_penalty.result (λ fault. NoMemoryOr fault (IsLineFault (entry_behind before c.args.words.now) c.args.line.now.number fault)) in
    let h = c.requires ∙ ap Ok c.in-Penalty.is in
    subst P c.self.view_is
    (errs_as (penalty_line c.args.words.now (the_view c.self.inside).penalty) penalty (entry_behind (the_view c.self.inside) c.args.words.now) c.args.line.now.number c.add_penalty.result
    (of_penalty (the_view c.self.inside) c.args.words.now h) c.add_penalty.ensures.err)

pub returns-in-Refine-clause-ok : goal.returns-in-Refine-clause-ok
returns-in-Refine-clause-ok c =
    let P : ProblemParts → Type 0 = λ before. AddsEntry before c.args.words.now (the_view (record c.self.inside { steps = c.add_step.new.steps })) in
    let h = c.requires ∙ ap Ok c.in-Refine.is in
    on_ok c.add_step.result (λ adds. subst P c.self.view_is (adds_step (the_view c.self.inside) (the_view (record c.self.inside { steps = c.add_step.new.steps })) c.args.words.now (steps_in c.add_step.new.steps.items) h refl adds)) c.add_step.ensures.ok

pub returns-in-Refine-clause-err : goal.returns-in-Refine-clause-err
returns-in-Refine-clause-err c =
    let P : ProblemParts → Type 0 = λ before. IfErr c.add_step.result (λ fault. NoMemoryOr fault (IsLineFault (entry_behind before c.args.words.now) c.args.line.now.number fault)) in
    let h = c.requires ∙ ap Ok c.in-Refine.is in
    subst P c.self.view_is
    (errs_as (step_line c.args.words.now (the_view c.self.inside).steps) refine (entry_behind (the_view c.self.inside) c.args.words.now) c.args.line.now.number c.add_step.result
    (of_step (the_view c.self.inside) c.args.words.now h) c.add_step.ensures.err)

pub returns-in-Constraint-clause-ok : goal.returns-in-Constraint-clause-ok
returns-in-Constraint-clause-ok c =
    let P : ProblemParts → Type 0 = λ before. AddsEntry before c.args.words.now (the_view (record c.self.inside { ties = c.add.new.self })) in
    let h = c.requires ∙ ap Ok c.in-Constraint.is in
    on_ok c.add.result (λ adds. subst P c.self.view_is (adds_tie (the_view c.self.inside) (the_view (record c.self.inside { ties = c.add.new.self })) c.args.words.now c.add.new.self h refl adds)) c.add.ensures.ok

pub returns-in-Constraint-clause-err : goal.returns-in-Constraint-clause-err
returns-in-Constraint-clause-err c =
    let P : ProblemParts → Type 0 = λ before. IfErr c.add.result (λ fault. NoMemoryOr fault (IsLineFault (entry_behind before c.args.words.now) c.args.line.now.number fault)) in
    let h = c.requires ∙ ap Ok c.in-Constraint.is in
    subst P c.self.view_is
    (errs_as (tie_line (the_view c.self.inside).ties c.args.words.now) constraint (entry_behind (the_view c.self.inside) c.args.words.now) c.args.line.now.number c.add.result
    (of_tie (the_view c.self.inside) c.args.words.now h) c.add.ensures.err)

pub returns-in-Subdomain-clause-ok : goal.returns-in-Subdomain-clause-ok
returns-in-Subdomain-clause-ok c =
    let P : ProblemParts → Type 0 = λ before. AddsEntry before c.args.words.now (the_view (record c.self.inside { subdomain = c.add_setting-in-Subdomain.new.map })) in
    let h = c.requires ∙ ap Ok c.in-Subdomain.is in
    on_ok c.add_setting-in-Subdomain.result (λ adds. subst P c.self.view_is (adds_subdomain (the_view c.self.inside) (the_view (record c.self.inside { subdomain = c.add_setting-in-Subdomain.new.map })) c.args.words.now c.two_ids_of.result c.add_setting-in-Subdomain.new.map.entries c.two_ids_of.ensures h refl adds)) c.add_setting-in-Subdomain.ensures.ok

pub returns-in-Subdomain-clause-err : goal.returns-in-Subdomain-clause-err
returns-in-Subdomain-clause-err c =
    let P : ProblemParts → Type 0 = λ before. IfErr c.add_setting-in-Subdomain.result (λ fault. NoMemoryOr fault (IsLineFault (entry_behind before c.args.words.now) c.args.line.now.number fault)) in
    let h = c.requires ∙ ap Ok c.in-Subdomain.is in
    subst P c.self.view_is
    (errs_as (setting_line c.two_ids_of.result (the_view c.self.inside).subdomain) subdomain (entry_behind (the_view c.self.inside) c.args.words.now) c.args.line.now.number c.add_setting-in-Subdomain.result
    (of_subdomain (the_view c.self.inside) c.args.words.now c.two_ids_of.result c.two_ids_of.ensures h) c.add_setting-in-Subdomain.ensures.err)
