use Rattle.std.proofs.Common.{refl, rules}
use Rattle.cell_blocks.proofs.Rooms.{block_is, dofs_held, numbers_held}
use Rattle.cell_blocks.proofs.local.LocalSystem.hold.Goals as goal

pub returns-clause-block : goal.returns-clause-block
returns-clause-block g c =
    block_is g.row.N g.row.N c.write_dofs.new.room c.args.dofs.now c.write_rows.new.room c.args.form.now.matrix c.write_numbers.new.room c.args.form.now.load refl
    (dofs_held g.row.N c.write_dofs.new.room c.args.dofs.now c.requires.count c.write_dofs.ensures) c.write_rows.ensures.written
    (numbers_held g.row.N c.write_numbers.new.room c.args.form.now.load (search rules) c.write_numbers.ensures)
