use Rattle.std.proofs.Common.{map, string_bytes}
use Rattle.run_words.specs.Held.{seen_settings}
use Rattle.run_words.proofs.Asked.{asks, asks_nothing, cannot_ask}
use Rattle.run_words.proofs.reader.read_words.Goals as goal

pub returns-in-None-clause-none : goal.returns-in-None-clause-none
returns-in-None-clause-none c = cannot_ask (map string_bytes c.args.words.now) c.in-None.ensures.none

pub returns-in-Some-clause-some : goal.returns-in-Some-clause-some
returns-in-Some-clause-some c =
    asks (map string_bytes c.args.words.now) (seen_settings c.in-Some.settings) c.options_of.result c.in-Some.ensures.some c.options_of.ensures

pub returns-in-Some-clause-none : goal.returns-in-Some-clause-none
returns-in-Some-clause-none c =
    asks_nothing (map string_bytes c.args.words.now) (seen_settings c.in-Some.settings) c.options_of.result c.in-Some.ensures.some c.options_of.ensures
