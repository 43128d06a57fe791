use Rattle.std.proofs.Common.{ℕ, List, ◌⊎◌, inl, inr}
use Rattle.std.specs.Prelude.{None, ℤ}
use Rattle.fem_text.specs.WordLines.{text_lines}
use Rattle.matrix_market.specs.declared.fault.MarketKind.{MarketKind}
use Rattle.matrix_market.specs.Market.{VectorText, VectorFaultAt, vector_form}
use Rattle.matrix_market.proofs.OneReading.{one_says, one_fault, says_no_fault, some_reading}
use Rattle.matrix_market.proofs.NoMemory.{never_memory_vector}
use Rattle.matrix_market.proofs.laws.one_vector_reading.Goals as goal

pub returns-clause-values : goal.returns-clause-values
returns-clause-values c = λ text first second a b. (one_says vector_form (text_lines None text) a.size b.size first second a.says b.says).1

pub returns-clause-fault : goal.returns-clause-fault
returns-clause-fault c = λ text kind other line another a b. one_fault vector_form (text_lines None text) kind other line another a b

pub returns-clause-apart : goal.returns-clause-apart
returns-clause-apart c = λ text values kind line a b. says_no_fault vector_form (text_lines None text) a.size values kind line a.says b

pub returns-clause-memory : goal.returns-clause-memory
returns-clause-memory c = λ text line fault. never_memory_vector (text_lines None text) line fault

some_vector : (text : List ℕ) → ((values : List ℤ) × VectorText text values) ⊎ ((kind : MarketKind) × (line : ℕ) × VectorFaultAt text kind line)
some_vector text = elim (some_reading vector_form (text_lines None text)) [
  | inl says ↦ inl (says.1, record { size = says.0; says = says.2 })
  | inr fault ↦ inr fault
]

pub returns-clause-some : goal.returns-clause-some
returns-clause-some c = some_vector
