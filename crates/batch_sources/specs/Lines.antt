-- The statuses of the endings of batches, and their lines for the diagnostics.
use Rattle.std.specs.Prelude.{ℕ, List, codes}
use Rattle.batch_sources.specs.declared.ending.BatchRole.{BatchRole}
use Rattle.batch_sources.specs.declared.ending.BatchRole.TheVariants as roles
use Rattle.batch_sources.specs.declared.ending.BatchRefusal.{BatchRefusal}
use Rattle.batch_sources.specs.declared.ending.BatchRefusal.TheVariants.{Text, Count, Size, Absent}
use Rattle.batch_sources.specs.declared.ending.BatchEnding.{BatchEnding}
use Rattle.batch_sources.specs.declared.ending.BatchEnding.TheVariants.{Refused, ReadFault, WriteFault, NoMemory}
use Rattle.diagnostics.specs.Lines.{word_line, fault_line}

abbrev pub batch_status : BatchRefusal → ℕ
batch_status (Text line) = 16
batch_status (Count line) = 9
batch_status Size = 9
batch_status (Absent role) = 17

abbrev pub batch_ending_status : BatchEnding → ℕ
batch_ending_status (Refused refusal) = batch_status refusal
batch_ending_status (ReadFault role) = 10
batch_ending_status WriteFault = 11
batch_ending_status NoMemory = 12

-- a line that ends with a text that a batch reads
abbrev pub role_line : List ℕ → BatchRole → List ℕ
role_line front roles.Batch = word_line front (codes "batch")
role_line front (roles.Job job) = fault_line front (codes "job") job

-- the line of a refusal
abbrev pub batch_refusal_line : BatchRefusal → List ℕ
batch_refusal_line (Text line) = fault_line (codes "16 BatchText ") (codes "line") line
batch_refusal_line (Count line) = fault_line (codes "9 Limit BatchCount ") (codes "line") line
batch_refusal_line Size = word_line (codes "9 Limit ") (codes "BatchSize")
batch_refusal_line (Absent role) = role_line (codes "17 Absent ") role

-- the line of an ending
abbrev pub batch_ending_line : BatchEnding → List ℕ
batch_ending_line (Refused refusal) = batch_refusal_line refusal
batch_ending_line (ReadFault role) = role_line (codes "10 ReadFault ") role
batch_ending_line WriteFault = word_line (codes "11 WriteFault ") (codes "matrix")
batch_ending_line NoMemory = word_line (codes "12 ") (codes "NoMemory")
