use Rattle.std.proofs.Common.{◌≡◌}
use Rattle.matrix_market.specs.declared.fault.MarketKind.TheVariants.{TooFew}
use Rattle.matrix_market.specs.Lines.{vector_entry}
use Rattle.fem_text.specs.WordLines.{behind}
use Rattle.fem_text.specs.Reading.{ReadsAll}
use Rattle.matrix_market.proofs.vector_reader.read_values.Given as goal

abbrev pub invariant-loop : goal.invariant-loop
invariant-loop l = (ReadsAll TooFew (λ before. vector_entry) l.fn.lines l.counter l.values.items) × (l.lines ≡ behind l.counter l.fn.lines)
