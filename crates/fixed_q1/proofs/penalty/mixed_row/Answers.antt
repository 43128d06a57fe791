use Rattle.std.proofs.Common.{◌≡◌, FitsSigned}
use Rattle.std.specs.Int.{w128}
use Rattle.std.proofs.lemmas.Int.{to_z-of_z}
use Rattle.fixed_q1.specs.JumpForm.{jump_entry}
use Rattle.fixed_q1.proofs.Parts.{numbers_same}
use Rattle.fixed_q1.proofs.penalty.mixed_row.Goals as goal

pub returns : goal.returns
returns c =
    let fits : FitsSigned w128 c.args.gamma = c.ranges.gamma in
    let f4 : FitsSigned w128 c.entry.result = record { sfits = c.entry.type_inv } in
    let f5 : FitsSigned w128 c.entry-2.result = record { sfits = c.entry-2.type_inv } in
    let f6 : FitsSigned w128 c.entry-3.result = record { sfits = c.entry-3.type_inv } in
    let f7 : FitsSigned w128 c.entry-4.result = record { sfits = c.entry-4.type_inv } in
    let r4 = c.entry.ensures in
    let r5 = c.entry-2.ensures in
    let r6 = c.entry-3.ensures in
    let r7 = c.entry-4.ensures in
    let v4 : c.entry.result ≡ jump_entry c.args.gamma c.args.factors.now c.args.i 4 = simp to_z-of_z at r4 in
    let v5 : c.entry-2.result ≡ jump_entry c.args.gamma c.args.factors.now c.args.i 5 = simp to_z-of_z at r5 in
    let v6 : c.entry-3.result ≡ jump_entry c.args.gamma c.args.factors.now c.args.i 6 = simp to_z-of_z at r6 in
    let v7 : c.entry-4.result ≡ jump_entry c.args.gamma c.args.factors.now c.args.i 7 = simp to_z-of_z at r7 in
    simp to_z-of_z (numbers_same _ _ _ _ _ _ _ _ v4 v5 v6 v7)
