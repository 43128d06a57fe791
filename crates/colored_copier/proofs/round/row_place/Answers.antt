use Rattle.std.proofs.Common.{arith, map}
use Rattle.colored_copier.specs.Plans.{row_number}
use Rattle.colored_copier.proofs.Placed.{place_within, place_there, counted_there, listed}
use Rattle.colored_copier.proofs.round.row_place.Goals as goal

pub returns-in-Counted : goal.returns-in-Counted
returns-in-Counted g c = counted_there (g.J.RowJob.rows_of c.args.job.now) (map row_number c.args.table.now.table.shared.key.rows.value.items) (g.J.RowJob.count c.args.job.now) c.args.places.now c.requires.places c.args.row c.in-Counted.is c.requires.among

pub index-requires-in-Listed : goal.index-requires-in-Listed
index-requires-in-Listed g c =
    let lists = c.in-Listed.lists in
    let o = listed (g.J.RowJob.rows_of c.args.job.now) (map row_number c.args.table.now.table.shared.key.rows.value.items) (g.J.RowJob.count c.args.job.now) c.args.places.now c.requires.places lists c.in-Listed.is in
    let within = place_within _ _ lists.starts.items lists.places.items _ c.args.item c.args.i _ c.index.result.now o c.requires.item c.requires.row c.index.ensures in
    omega (arith, within, lists.places.ok.0)

pub overflow_add-index : goal.overflow_add-index
overflow_add-index g c =
    let lists = c.in-Listed.lists in
    let o = listed (g.J.RowJob.rows_of c.args.job.now) (map row_number c.args.table.now.table.shared.key.rows.value.items) (g.J.RowJob.count c.args.job.now) c.args.places.now c.requires.places lists c.in-Listed.is in
    let within = place_within _ _ lists.starts.items lists.places.items _ c.args.item c.args.i _ c.index.result.now o c.requires.item c.requires.row c.index.ensures in
    grind (arith, within, lists.places.ok.0, lists.places.small)

pub returns-in-Listed : goal.returns-in-Listed
returns-in-Listed g c =
    let lists = c.in-Listed.lists in
    let o = listed (g.J.RowJob.rows_of c.args.job.now) (map row_number c.args.table.now.table.shared.key.rows.value.items) (g.J.RowJob.count c.args.job.now) c.args.places.now c.requires.places lists c.in-Listed.is in
    place_there _ _ lists.starts.items lists.places.items _ c.args.item c.args.i _ c.index.result.now o c.requires.item c.requires.row c.index.ensures c.index-in-Listed.result.now c.index-in-Listed.ensures
