use Rattle.std.proofs.Common.{◌≡◌, ◌∙◌, sym, ap, Some, None}
use Rattle.affine_constraints.specs.Lines.{lines_in}
use Rattle.cell_blocks.specs.Visited.{fault_in}
use Rattle.serial_sum.specs.Steps.{formed_step}
use Rattle.block_sums.specs.Parts.{part_of_blocks}
use Rattle.block_sums.proofs.CellSteps.{step_formed, none_allowed}
use Rattle.block_sums.proofs.cells.add_cell.Goals as goal

pub returns-in-Some : goal.returns-in-Some
returns-in-Some c =
    let told : Some c.in-Some.fault ≡ fault_in c.args.copy.now = sym c.in-Some.is ∙ c.fault.ensures in
    record {
      step = ap (formed_step c.args.system.now.digits c.args.system.now.pattern.now c.args.rows.now (part_of_blocks (lines_in c.args.system.now.closed.now) c.args.cell c.args.copy.now)) told;
      fits = c.requires.fits;
      allowed = none_allowed c.args.system.now.pattern.now (lines_in c.args.system.now.closed.now) c.args.cell c.args.copy.now c.in-Some.fault told;
    }

pub returns-in-None : goal.returns-in-None
returns-in-None c =
    let formed : None ≡ fault_in c.args.copy.now = sym c.in-None.is ∙ c.fault.ensures in
    record {
      step = step_formed c.args.system.now.digits c.args.system.now.pattern.now (lines_in c.args.system.now.closed.now) c.args.rows.now c.add_to_all.new.rows c.add_to_all.result c.sum_failure.result c.args.cell c.args.copy.now formed
          c.sum_failure.ensures c.add_to_all.ensures.run;
      fits = c.add_to_all.ensures.fits;
      allowed = c.add_to_all.ensures.allowed;
    }
