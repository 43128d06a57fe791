use Rattle.std.proofs.Common.{map, take}
use Rattle.batch_texts.specs.Names.{seen_name}
use Rattle.batch_sources.specs.Reads.{AreReads}
use Rattle.batch_sources.proofs.names.job_names.Given as goal

-- these are the reads of the jobs before this one
abbrev pub invariant-loop-number : goal.invariant-loop-number
invariant-loop-number l = AreReads (take l.number l.jobs) (map seen_name l.reads.items)
