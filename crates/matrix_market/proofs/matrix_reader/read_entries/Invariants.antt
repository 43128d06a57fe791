use Rattle.std.proofs.Common.{◌≡◌}
use Rattle.matrix_market.specs.declared.fault.MarketKind.TheVariants.{TooFew}
use Rattle.matrix_market.specs.Lines.{matrix_entry}
use Rattle.fem_text.specs.WordLines.{behind}
use Rattle.fem_text.specs.Reading.{ReadsAll}
use Rattle.matrix_market.proofs.matrix_reader.read_entries.Given as goal

abbrev pub invariant-loop : goal.invariant-loop
invariant-loop l = (ReadsAll TooFew (λ before. matrix_entry l.fn.size) l.fn.lines l.counter l.entries.items) × (l.lines ≡ behind l.counter l.fn.lines)
