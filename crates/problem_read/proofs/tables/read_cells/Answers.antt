use Rattle.std.proofs.Common.{◌∙◌, sym, ap, refl, inr, drop}
use Rattle.fem_fixed.specs.Numbers.{id_of}
use Rattle.fem_text.specs.Words.{or_fault}
use Rattle.problem_read.specs.declared.fault.ProblemKind.TheVariants.{Number}
use Rattle.problem_read.proofs.Sums.{gives_more, gives_stop}
use Rattle.problem_read.proofs.tables.read_cells.Goals as goal

pub returns-in_default-read_id-clause-err : goal.returns-in_default-read_id-clause-err
returns-in_default-read_id-clause-err c =
    rw c.at_line.ensures
    (inr (record {
      kind_is = ap (or_fault Number) (gives_stop id_of (drop 1 c.args.words.now) c.loop-word.left c.next_word.new.self c.loop-word.cells.items c.in-Some.word.now
          c.loop-word.invariant c.in-Some.ensures (sym c.read_id.ensures ∙ c.in_default-read_id.is));
      line_is = refl;
    }))

pub loop-word-preserved : goal.loop-word-preserved
loop-word-preserved c =
    gives_more id_of (drop 1 c.args.words.now) c.loop-word.left c.next_word.new.self c.loop-word.cells.items c.keep.new.list.items c.in-Some.word.now c.in-Some-read_id.cell
    c.loop-word.invariant c.in-Some.ensures (sym c.read_id.ensures ∙ c.in-Some-read_id.is) c.in_ok-keep.ensures.ok
