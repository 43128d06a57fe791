use Rattle.std.proofs.Common.{rules}
use Rattle.fem_text.proofs.Named.{held_listed}
use Rattle.fem_text.proofs.held_texts.text_of.Goals as goal

pub returns : goal.returns
returns c = search (rules, held_listed c.args.texts.now c.args.name.now)
