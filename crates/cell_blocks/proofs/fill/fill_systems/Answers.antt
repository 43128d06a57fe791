use Rattle.std.proofs.Common.{◌<◌, ◌+◌, ap, set, refl, ℕ, get_or, arith}
use Rattle.std.proofs.lemmas.List.{get_or_default}
use Rattle.mesh_visits.specs.declared.visit.Visit.{Visit}
use Rattle.mesh_visits.specs.declared.visit.Visit.TheVariants.{Cell as OnCell}
use Rattle.cell_blocks.specs.Views.{given}
use Rattle.cell_blocks.proofs.Filled.{none_filled, one_filled, fault_made}
use Rattle.cell_blocks.proofs.fill.fill_systems.Goals as goal

pub loop-visit-init : goal.loop-visit-init
loop-visit-init c = none_filled (given c.args.setting.now) c.args.cell c.args.visits.now _ refl

pub returns-in-Err : goal.returns-in-Err
returns-in-Err c =
    let k : ℕ = c.loop-visit.visit-index in
    let visit : Visit = get_or c.args.visits.now k OnCell in
    fault_made (given c.args.setting.now) c.args.cell c.args.visits.now k visit c.loop-visit.systems _ c.in-Err.fault c.loop-visit-test.true
    (get_or_default c.args.visits.now k OnCell visit c.loop-visit-test.true) refl c.loop-visit.invariant c.in-Err.ensures

pub loop-visit-preserved : goal.loop-visit-preserved
loop-visit-preserved c =
    let k : ℕ = c.loop-visit.visit-index in
    let visit : Visit = get_or c.args.visits.now k OnCell in
    let room : k < 9 = omega (arith, c.loop-visit-test.true, c.requires.visits.few) in
    one_filled (given c.args.setting.now) c.args.cell c.args.visits.now k visit c.loop-visit.systems _ c.write_visit.new.system c.loop-visit-test.true
    (get_or_default c.args.visits.now k OnCell visit c.loop-visit-test.true) room
    (ap (λ n. set c.loop-visit.systems.list.items n c.write_visit.new.system) c.loop-visit.invariant.used) (ap (λ n. n + 1) c.loop-visit.invariant.used) c.loop-visit.invariant c.in_default.ensures.0 c.in_default.ensures.1
