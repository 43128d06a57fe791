use Rattle.std.proofs.Common.{◌≡◌, ◌∙◌, sym, ap, refl, subst}
use Rattle.std.specs.Prelude.{Ok, Err, IfOk, IfErr}
use Rattle.diagnostics.specs.declared.ending.Role.TheVariants as roles
use Rattle.diagnostics.specs.Stages.{stops, goes}
use Rattle.diagnostics.specs.Stages as stages
use Rattle.run_texts.specs.Texts.{ProblemIn}
use Rattle.std.specs.Option.{option_copied}
use Rattle.problem_read.specs.Entries.{ProblemParts}
use Rattle.run_texts.specs.Read.{EndsProblem, ProblemUnder, after_read, is_read_fault}
use Rattle.fem_text.specs.Counts.{after_call}
use Rattle.run_texts.proofs.Reading.{no_name_ok, no_name_ends, problem_read_ends, problem_under_ends, under_ok, no_read_fault}
use Rattle.run_texts.proofs.read.read_named_problem.Goals as goal

pub returns-in_default-clause-ok : goal.returns-in_default-clause-ok
returns-in_default-clause-ok g c =
    subst (λ name. IfOk c.problem_in.result (λ p. ProblemUnder (g.S.Store.holds c.args.store.now) (option_copied name) (Ok p))) (sym c.in_default.is) (no_name_ok (g.S.Store.holds c.args.store.now) c.problem_in.result c.problem_in.ensures.ok)

pub returns-in_default-clause-ends : goal.returns-in_default-clause-ends
returns-in_default-clause-ends g c =
    subst (λ name. IfErr c.problem_in.result (EndsProblem (g.S.Store.holds c.args.store.now) (option_copied name))) (sym c.in_default.is) (no_name_ends (g.S.Store.holds c.args.store.now) c.problem_in.result c.problem_in.ensures.refused)

pub returns-in-Err-clause-ends : goal.returns-in-Err-clause-ends
returns-in-Err-clause-ends g c =
    subst (λ name. EndsProblem (g.S.Store.holds c.args.store.now) (option_copied name) c.in-Err.ending) (sym c.in-Some.is) (problem_read_ends (g.S.Store.holds c.args.store.now) c.in-Some.name.now c.in-Err.ending c.in-Err.ensures.ends)

pub returns-clause-ok : goal.returns-clause-ok
returns-clause-ok g c =
    subst (λ name. IfOk c.problem_in-2.result (λ p. ProblemUnder (g.S.Store.holds c.args.store.now) (option_copied name) (Ok p))) (sym c.in-Some.is)
    (under_ok roles.Problem ProblemIn (g.S.Store.holds c.args.store.now) c.in-Some.name.now c.in-Ok.text.items c.problem_in-2.result c.in-Ok.ensures.ok
    (subst (λ text. IfOk c.problem_in-2.result (λ p. ProblemIn text (Ok p))) c.as_slice.ensures.value c.problem_in-2.ensures.ok))

pub returns-clause-ends : goal.returns-clause-ends
returns-clause-ends g c =
    subst (λ name. IfErr c.problem_in-2.result (EndsProblem (g.S.Store.holds c.args.store.now) (option_copied name))) (sym c.in-Some.is)
    (problem_under_ends (g.S.Store.holds c.args.store.now) c.in-Some.name.now c.in-Ok.text.items c.problem_in-2.result c.in-Ok.ensures.ok
    (subst (λ text. IfErr c.problem_in-2.result (stages.EndsIn (ProblemIn text))) c.as_slice.ensures.value c.problem_in-2.ensures.refused))

pub returns-clause-calls : goal.returns-clause-calls
returns-clause-calls g c =
    subst (λ name. g.S.Store.counts c.read_text.new.store ≡ after_read (option_copied name) (is_read_fault c.problem_in-2.result) (g.S.Store.counts c.args.store.now)) (sym c.in-Some.is)
    (c.in-Ok.ensures.calls ∙ ap (λ b. after_call b (g.S.Store.counts c.args.store.now)) (sym (no_read_fault (ProblemIn c.as_slice.result.now) c.problem_in-2.result c.problem_in-2.ensures.refused)))

pub returns-in_default-clause-calls : goal.returns-in_default-clause-calls
returns-in_default-clause-calls g c =
    subst (λ name. g.S.Store.counts c.args.store.now ≡ after_read (option_copied name) (is_read_fault c.problem_in.result) (g.S.Store.counts c.args.store.now)) (sym c.in_default.is) refl

pub returns-in-Err-clause-calls : goal.returns-in-Err-clause-calls
returns-in-Err-clause-calls g c =
    subst (λ name. g.S.Store.counts c.read_text.new.store ≡ after_read (option_copied name) (is_read_fault {X = ProblemParts} (Err c.in-Err.ending)) (g.S.Store.counts c.args.store.now)) (sym c.in-Some.is)
    c.in-Err.ensures.calls
