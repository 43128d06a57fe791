use Rattle.std.specs.Prelude.{ℕ}
use Rattle.atomic_table.specs.Seated.{TableId}
use Rattle.ordered_pipeline.specs.declared.steps.Line.{Line}
use Rattle.ordered_pipeline.specs.declared.rule.Key.{Key}

module _ {J Scratch C S : Type 0} where
  abbrev pub line_table : Line J Scratch C S → TableId
  line_table l = l.table.shared.table_id

  abbrev pub line_key : Line J Scratch C S → Key J S
  line_key l = l.table.shared.key

  abbrev pub line_queue : Line J Scratch C S → ℕ
  line_queue l = l.queue

  abbrev pub line_items : Line J Scratch C S → ℕ
  line_items l = l.items
