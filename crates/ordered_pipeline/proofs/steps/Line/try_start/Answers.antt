use Rattle.std.proofs.Common.{arith, ap, ◌∙◌, ◌≡◌, ◌%◌, ℕ}
use Rattle.atomic_table.specs.Table.{step}
use mathlib.Core.Option.{none}
use Rattle.ordered_pipeline.specs.declared.view.Cargo.TheVariants as cargo
use Rattle.ordered_pipeline.proofs.Jobs.{job_looks, held_at}
use Rattle.ordered_pipeline.proofs.steps.Line.try_start.Goals as goal

pub load-c-requires : goal.load-c-requires
load-c-requires g c =
    let key = c.args.self.now.table.shared.key in
    (c.requires.0, omega (arith, c.args.self.now.sized.0), job_looks g.J.Job.has_room g.J.Job.stands g.J.Job.step key _ _ c.args.n (step 0 0 0 0 none) c.args.seat.now.me c.requires.2 (omega (arith, c.args.self.now.few.2, c.args.self.now.sized.2)) c.requires.1 c.requires.3)

pub exchange-requires : goal.exchange-requires
exchange-requires g c =
    let key = c.args.self.now.table.shared.key in
    let same-queue : key.queue ≡ c.args.self.now.queue = c.args.self.now.few.2 in
    let t = (c.load-c.ensures.2 key c.requires.2 c.args.n c.requires.1).1 (omega (arith, c.saturating_sub.ensures, c.if-saturating_sub-self.false, same-queue)) in
    let first = ap (λ m. m.1) t.2 in
    (c.load-c.ensures.0 ∙ c.requires.0, (cargo.Copy t.0, held_at c.load-c.new.seat.me.1 (c.args.n % key.queue) (c.args.n % c.args.self.now.queue) (cargo.Copy t.0) first (ap (λ (q : ℕ). c.args.n % q) same-queue)))
