use Rattle.std.proofs.Common.{◌<◌, ◌∙◌, length, get_or, pos, FitsSigned, rules, arith}
use Rattle.std.proofs.lemmas.List.{length-set}
use Rattle.std.specs.Int.{w128}
use Rattle.std.proofs.lemmas.Int.{to_z-of_z}
use Rattle.cell_blocks.proofs.Rooms.{one_more}
use Rattle.cell_blocks.proofs.local.write_numbers.Goals as goal

pub loop-i-preserved : goal.loop-i-preserved
loop-i-preserved c =
    let fits : FitsSigned w128 (get_or c.args.numbers.now c.loop-i.i (pos 0)) = search rules in
    let inside : c.loop-i.i < length c.loop-i.room = omega (arith, c.loop-i.invariant.room, c.loop-i-test.true, c.requires) in
    record {
      room = length-set _ _ _ ∙ c.loop-i.invariant.room;
      written = simp to_z-of_z (one_more c.loop-i.room c.args.numbers.now c.loop-i.i (pos 0) inside c.loop-i-test.true c.loop-i.invariant.written);
    }
