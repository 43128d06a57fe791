use Rattle.std.proofs.Common.{map, string_bytes}
use Rattle.fem_text.specs.Lines.{words_of}
use Rattle.batch_read.proofs.SoFar.{text_more, none_found, no_text}
use Rattle.batch_read.proofs.job.texts_of.Goals as goal

pub loop-word-preserved : goal.loop-word-preserved
loop-word-preserved c =
    text_more string_bytes c.in-Some.word.now (words_of c.args.line.now.bytes.now) c.loop-word.left c.next_word.new.self c.loop-word.texts.items c.push.new.self.items c.in-Some-2.text c.in_ok-text.field-0
    c.loop-word.invariant c.in-Some.ensures c.in_ok-text.ensures c.in-Some-2.is c.in_ok-push-in-Some-2.ensures.items

pub returns-in-None-clause-none : goal.returns-in-None-clause-none
returns-in-None-clause-none c =
    no_text (words_of c.args.line.now.bytes.now) (map string_bytes c.loop-word.texts.items) c.loop-word.left c.next_word.new.self c.in-Some.word.now c.loop-word.invariant c.in-Some.ensures
    (none_found string_bytes c.in-Some.word.now c.in_ok-text.field-0 c.in_ok-text.ensures c.in-None.is)
