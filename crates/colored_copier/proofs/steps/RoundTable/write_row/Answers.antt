use Rattle.std.proofs.Common.{map, refl}
use Rattle.colored_copier.specs.Plans.{row_number}
use Rattle.colored_copier.proofs.Writes.{next_place}
use Rattle.colored_copier.proofs.steps.RoundTable.write_row.Goals as goal

pub slot_mut-slot-requires : goal.slot_mut-slot-requires
slot_mut-slot-requires g c =
    let n = c.requires.seat.1 in
    let first = c.args.self.now.table.shared.key.rows.value.items in
    (c.requires.seat.0, ((c.args.row, n.1), next_place first c.args.row c.args.place _ (map row_number first) n refl c.requires.suits.rise c.requires.place))
