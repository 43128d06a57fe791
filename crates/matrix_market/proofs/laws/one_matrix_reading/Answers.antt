use Rattle.std.proofs.Common.{◌∙◌, sym, refl, ℕ, List, ◌⊎◌, inl, inr}
use Rattle.std.specs.Prelude.{None}
use Rattle.fem_text.specs.WordLines.{text_lines}
use Rattle.matrix_market.specs.declared.fault.MarketKind.{MarketKind}
use Rattle.matrix_market.specs.Market.{Matrix, MatrixText, MatrixFaultAt, matrix_form}
use Rattle.matrix_market.proofs.OneReading.{one_says, one_fault, says_no_fault, some_reading}
use Rattle.matrix_market.proofs.NoMemory.{never_memory_matrix}
use Rattle.matrix_market.proofs.laws.one_matrix_reading.Goals as goal

pub returns-clause-matrix : goal.returns-clause-matrix
returns-clause-matrix c = λ text first second a b.
    let same = one_says matrix_form (text_lines None text) a.size b.size a.entries b.entries a.says b.says in
    a.matrix_is ∙ (λ i. record { rows = (same.0 i).rows; columns = (same.0 i).columns; entries = same.1 i }) ∙ sym b.matrix_is

pub returns-clause-fault : goal.returns-clause-fault
returns-clause-fault c = λ text kind other line another a b. one_fault matrix_form (text_lines None text) kind other line another a b

pub returns-clause-apart : goal.returns-clause-apart
returns-clause-apart c = λ text matrix kind line a b. says_no_fault matrix_form (text_lines None text) a.size a.entries kind line a.says b

pub returns-clause-memory : goal.returns-clause-memory
returns-clause-memory c = λ text line fault. never_memory_matrix (text_lines None text) line fault

some_matrix : (text : List ℕ) → ((matrix : Matrix) × MatrixText text matrix) ⊎ ((kind : MarketKind) × (line : ℕ) × MatrixFaultAt text kind line)
some_matrix text = elim (some_reading matrix_form (text_lines None text)) [
  | inl says ↦ inl (record { rows = says.0.rows; columns = says.0.columns; entries = says.1 }, record { size = says.0; entries = says.1; says = says.2; matrix_is = refl })
  | inr fault ↦ inr fault
]

pub returns-clause-some : goal.returns-clause-some
returns-clause-some c = some_matrix
