use Rattle.std.proofs.Common.{◌∙◌, sym, ap, drop}
use Rattle.msh_read.specs.declared.fault.MshKind.TheVariants.{ElementLine}
use Rattle.msh_read.proofs.Front.{id_first, no_id}
use Rattle.msh_read.proofs.element_line.next_id.Goals as goal

pub returns-in-Some-clause-value : goal.returns-in-Some-clause-value
returns-in-Some-clause-value c =
    c.ok_or.ensures.value ∙ id_first ElementLine c.args.words.now c.next_word.new.self c.in-Some.word.now c.read_id.result c.in-Some.ensures c.read_id.ensures

pub returns-in-Some-clause-left : goal.returns-in-Some-clause-left
returns-in-Some-clause-left c = ap (drop 1) (sym c.in-Some.ensures)

pub returns-in-None-clause-value : goal.returns-in-None-clause-value
returns-in-None-clause-value c = no_id ElementLine c.args.words.now c.in-None.ensures.0

pub returns-in-None-clause-left : goal.returns-in-None-clause-left
returns-in-None-clause-left c = c.in-None.ensures.1 ∙ ap (drop 1) (sym c.in-None.ensures.0)
