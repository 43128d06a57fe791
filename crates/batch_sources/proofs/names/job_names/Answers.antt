use Rattle.std.proofs.Common.{map}
use Rattle.run_words.specs.Choice.{seen}
use Rattle.batch_texts.specs.Names.{seen_name}
use Rattle.batch_sources.proofs.Naming.{reads_item}
use Rattle.batch_sources.proofs.names.job_names.Goals as goal

pub loop-number-preserved : goal.loop-number-preserved
loop-number-preserved c =
    reads_item c.args.jobs.now c.loop-number.number c.index-jobs-number.result (map seen_name c.loop-number.reads.items) (map seen_name c.add_names.new.reads.items) (seen c.options.result) c.loop-number-test.true
    c.index-jobs-number.is c.loop-number.invariant c.options.ensures c.in_ok-add_names.ensures
