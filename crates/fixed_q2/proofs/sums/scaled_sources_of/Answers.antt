use Rattle.std.proofs.Common.{FitsSigned, arith}
use Rattle.std.specs.Int.{w64}
use Rattle.std.proofs.lemmas.Int.{to_z-of_z}
use Rattle.fixed_q2.specs.Samples.{IsScaledSourceOf}
use Rattle.fixed_q2.proofs.Nine.{pairs_nine}
use Rattle.fixed_q2.proofs.sums.scaled_sources_of.Goals as goal

pub scaled_source_of-requires-7-clause-sample : goal.scaled_source_of-requires-7-clause-sample
scaled_source_of-requires-7-clause-sample c = (c.requires.samples 6 _ (omega (arith, c.told-samples))).bounded

pub scaled_source_of-requires-8-clause-sample : goal.scaled_source_of-requires-8-clause-sample
scaled_source_of-requires-8-clause-sample c = (c.requires.samples 7 _ (omega (arith, c.told-samples))).bounded

pub scaled_source_of-requires-9-clause-sample : goal.scaled_source_of-requires-9-clause-sample
scaled_source_of-requires-9-clause-sample c = (c.requires.samples 8 _ (omega (arith, c.told-samples))).bounded

pub returns : goal.returns
returns c =
    let fd : FitsSigned w64 c.args.source = c.ranges.source in
    let r0 = c.scaled_source_of.ensures in
    let r1 = c.scaled_source_of-2.ensures in
    let r2 = c.scaled_source_of-3.ensures in
    let r3 = c.scaled_source_of-4.ensures in
    let r4 = c.scaled_source_of-5.ensures in
    let r5 = c.scaled_source_of-6.ensures in
    let r6 = c.scaled_source_of-7.ensures in
    let r7 = c.scaled_source_of-8.ensures in
    let r8 = c.scaled_source_of-9.ensures in
    pairs_nine (IsScaledSourceOf c.args.source) c.args.samples.now _ _ _ _ _ _ _ _ _ _ _ _ _ _ _ _ _ _ c.told-samples
    (simp to_z-of_z at r0) (simp to_z-of_z at r1) (simp to_z-of_z at r2) (simp to_z-of_z at r3) (simp to_z-of_z at r4) (simp to_z-of_z at r5) (simp to_z-of_z at r6) (simp to_z-of_z at r7) (simp to_z-of_z at r8)
