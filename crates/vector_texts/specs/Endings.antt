-- The faults of a product and of indicators as endings of a run: a refusal, or want of memory.
use Rattle.matrix_free.specs.declared.fault.ApplyFault.{ApplyFault}
use Rattle.matrix_free.specs.declared.fault.ApplyFault.TheVariants as product
use Rattle.jump_refine.specs.declared.fault.IndicatorFault.{IndicatorFault}
use Rattle.jump_refine.specs.declared.fault.IndicatorFault.TheVariants as indicators
use Rattle.diagnostics.specs.declared.refusal.Refusal.TheVariants.{Local, Product}
use Rattle.diagnostics.specs.declared.ending.Ending.{Ending}
use Rattle.diagnostics.specs.declared.ending.Ending.TheVariants.{Refused, NoMemory}
use Rattle.system_texts.specs.Endings.{of_local}

abbrev pub of_product : ApplyFault → Ending
of_product (product.Local cell fault) = Refused (Local cell (of_local fault))
of_product (product.Size cell) = Refused (Product cell)
of_product product.NoMemory = NoMemory

abbrev pub of_indicators : IndicatorFault → Ending
of_indicators (indicators.Local cell fault) = Refused (Local cell (of_local fault))
of_indicators indicators.NoMemory = NoMemory
