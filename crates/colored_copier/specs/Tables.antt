-- What a round's table is, and what it was told.
use Rattle.atomic_table.specs.Seated.{TableId}
use Rattle.colored_copier.specs.declared.rule.Key.{Key}
use Rattle.colored_copier.specs.declared.steps.RoundTable.{RoundTable}

module _ {J Scratch C R : Type 0} where
  abbrev pub table_of : RoundTable J Scratch C R → TableId
  table_of t = t.table.shared.table_id

  abbrev pub key_of : RoundTable J Scratch C R → Key J R
  key_of t = t.table.shared.key
