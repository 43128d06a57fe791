use Rattle.std.proofs.Common.{◌≤◌, length, subst, arith}
use Rattle.std.specs.declared.option.Option.{Option}
use Rattle.serial_sum.specs.declared.marks.Marked.{Marked}
use Rattle.serial_sum.proofs.FirstMarks.{FirstBelow, none_tells, some_tells}
use Rattle.serial_sum.proofs.marks.first_failure.Goals as goal

pub returns-in-None : goal.returns-in-None
returns-in-None c =
    let Below : Option Marked → Type 0 = FirstBelow c.args.rows.now c.loop-i.i in
    let all : length c.args.rows.now ≤ c.loop-i.i = omega (arith, c.loop-i-test.false, c.size-i-end.ensures) in
    none_tells c.args.rows.now c.loop-i.i all (subst Below c.in-None.is c.loop-i.invariant)

pub returns-in-Some : goal.returns-in-Some
returns-in-Some c =
    let Below : Option Marked → Type 0 = FirstBelow c.args.rows.now c.loop-i.i in
    let all : length c.args.rows.now ≤ c.loop-i.i = omega (arith, c.loop-i-test.false, c.size-i-end.ensures) in
    (c.in-Some.marked.row, c.in-Some.marked.mark, some_tells c.args.rows.now c.loop-i.i c.in-Some.marked all (subst Below c.in-Some.is c.loop-i.invariant), c.failure.ensures)
