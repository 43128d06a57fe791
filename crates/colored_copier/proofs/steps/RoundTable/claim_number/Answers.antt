use Rattle.std.proofs.Common.{arith, ap}
use mathlib.Core.Option.{none}
use Rattle.atomic_table.specs.Table.{step}
use Rattle.colored_copier.proofs.Jobs.{job_claims}
use Rattle.colored_copier.proofs.steps.RoundTable.claim_number.Goals as goal

pub fetch_add-requires : goal.fetch_add-requires
fetch_add-requires g c = (
  c.requires.seat.0,
  omega (arith, c.args.self.now.one_word),
  job_claims g.J.RowJob.count g.J.RowJob.rows_of g.J.RowJob.row_step c.args.self.now.table.shared.key _ _ (step 0 0 0 0 none) c.args.seat.now.me c.requires.seat.1 c.requires.few c.requires.seat.2 c.requires.carries,
)

pub returns-clause-event : goal.returns-clause-event
returns-clause-event g c =
    let told = c.fetch_add.ensures.2 c.args.self.now.table.shared.key c.requires.seat.1 in
    record {
      runs = c.requires.seat.3;
      item = λ h. let t = told.0 h in (ap (λ m. m.0.phase) t.0, t.1);
      over = λ h. ap (λ m. m.0.phase) (told.1 h);
    }

pub returns-clause-item : goal.returns-clause-item
returns-clause-item g c = λ h. (c.fetch_add.ensures.2 c.args.self.now.table.shared.key c.requires.seat.1).0 h

pub returns-clause-over : goal.returns-clause-over
returns-clause-over g c = λ h. (c.fetch_add.ensures.2 c.args.self.now.table.shared.key c.requires.seat.1).1 h
