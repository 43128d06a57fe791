use Rattle.std.proofs.Common.{◌∙◌, sym, rules}
use Rattle.problem_read.proofs.Entries.{adds_setting}
use Rattle.problem_read.proofs.tables.add_setting.Goals as goal

pub returns-clause-ok : goal.returns-clause-ok
returns-clause-ok g c =
    adds_setting c.args.given c.args.map.now.entries c.insert_new.new.map.entries c.args.line.now.number (c.in_ok-id.id, c.in_ok-id.value)
    (sym c.at_line.ensures ∙ c.in_ok-id.was) (search rules) c.in_ok-insert_new.ensures
