use Rattle.std.proofs.Common.{ap, length, arith}
use Rattle.compressed_lists.proofs.Cutting.{cut_length, got, got_bounds}
use Rattle.compressed_lists.proofs.lists.Lists.get.Goals as goal

pub start-requires : goal.start-requires
start-requires g c =
    let count = cut_length c.self.inside.items.items 0 c.self.inside.ends.items in
    let view = ap length c.self.view_is in
    let value = ap length c.deref-2.ensures.value in
    omega (arith, c.requires, count, view, value)

pub index-requires : goal.index-requires
index-requires g c =
    let count = cut_length c.self.inside.items.items 0 c.self.inside.ends.items in
    let view = ap length c.self.view_is in
    omega (arith, c.requires, count, view, c.self.inside.ends.ok)

pub part-requires-clause-rising : goal.part-requires-clause-rising
part-requires-clause-rising g c =
    (got_bounds c.self.inside.items.items c.self.inside.ends.items c.args.self.now c.args.k c.start.result c.index.result.now c.self.view_is c.self.invariant c.requires
    (rw c.deref-2.ensures.value at c.start.ensures) c.index.ensures).0

pub part-requires-clause-within : goal.part-requires-clause-within
part-requires-clause-within g c =
    let within = (got_bounds c.self.inside.items.items c.self.inside.ends.items c.args.self.now c.args.k c.start.result c.index.result.now c.self.view_is c.self.invariant c.requires
    (rw c.deref-2.ensures.value at c.start.ensures) c.index.ensures).1 in
    let value = ap length c.deref.ensures.value in
    omega (arith, within, value)

pub returns : goal.returns
returns g c =
    got c.self.inside.items.items c.self.inside.ends.items c.args.self.now c.args.k c.start.result c.index.result.now c.part.result.now c.self.view_is c.requires
    (rw c.deref-2.ensures.value at c.start.ensures) c.index.ensures (rw c.deref.ensures.value at c.part.ensures)
