use Rattle.std.proofs.Common.{◌∙◌}
use Rattle.std.specs.Prelude.{nat_eq}
use Rattle.indexmap.proofs.CallerLemmas.{insert_entry-new}
use Rattle.problem_read.proofs.ItemLists.{none_of}
use Rattle.problem_read.specs.EntryLine.{listed}
use Rattle.problem_read.proofs.tables.insert_new.Goals as goal

pub returns : goal.returns
returns g c = c.in_ok-insert.ensures.entries ∙ insert_entry-new nat_eq c.args.map.now c.args.id c.args.value (none_of (listed c.args.map.now.entries c.args.id) c.requires)
