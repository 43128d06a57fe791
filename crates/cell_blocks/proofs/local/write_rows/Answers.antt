use Rattle.std.proofs.Common.{◌≡◌, ◌<◌, ◌≤◌, ◌∙◌, ap, sym, length, take, get_or, [], ℤ, List, rules, arith, refl}
use Rattle.std.proofs.lemmas.List.{length-set}
use Rattle.cell_blocks.proofs.Rooms.{rows_taken, one_row}
use Rattle.cell_blocks.proofs.local.write_rows.Goals as goal

pub loop-i-preserved : goal.loop-i-preserved
loop-i-preserved g c =
    let count : length (get_or c.args.rows.now c.loop-i.i []) ≡ g.row.N = search rules in
    let row : List ℤ = get_or c.args.rows.now c.loop-i.i [] in
    let inside : c.loop-i.i < length c.loop-i.room = omega (arith, c.loop-i.invariant.room, c.loop-i-test.true, c.requires) in
    let written : take g.row.N c.write_numbers.new.room ≡ row = ap (λ n. take n c.write_numbers.new.room) (sym count) ∙ c.write_numbers.ensures in
    record {
      room = length-set _ _ _ ∙ c.loop-i.invariant.room;
      written = one_row g.row.N c.loop-i.room c.args.rows.now c.loop-i.i c.write_numbers.new.room row inside refl written c.loop-i.invariant.written;
    }

pub returns-clause-written : goal.returns-clause-written
returns-clause-written g c =
    let wide : g.row.N ≤ length c.loop-i.room = omega (arith, c.loop-i.invariant.room, c.requires) in
    rows_taken g.row.N c.loop-i.room c.args.rows.now wide c.told-rows (λ k low. c.loop-i.invariant.written k (omega (arith, low, c.loop-i-test.false)))
