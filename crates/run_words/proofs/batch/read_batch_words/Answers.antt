use Rattle.std.proofs.Common.{map, string_bytes}
use Rattle.run_words.specs.Held.{seen_settings}
use Rattle.run_words.proofs.BatchOf.{asks_batch, asks_no_batch, cannot_ask_batch}
use Rattle.run_words.proofs.batch.read_batch_words.Goals as goal

pub returns-in-None-clause-none : goal.returns-in-None-clause-none
returns-in-None-clause-none c = cannot_ask_batch (map string_bytes c.args.words.now) c.in-None.ensures.none

pub returns-in-Some-clause-some : goal.returns-in-Some-clause-some
returns-in-Some-clause-some c =
    asks_batch (map string_bytes c.args.words.now) (seen_settings c.in-Some.settings) c.batch_of.result c.in-Some.ensures.some c.batch_of.ensures

pub returns-in-Some-clause-none : goal.returns-in-Some-clause-none
returns-in-Some-clause-none c =
    asks_no_batch (map string_bytes c.args.words.now) (seen_settings c.in-Some.settings) c.batch_of.result c.in-Some.ensures.some c.batch_of.ensures
