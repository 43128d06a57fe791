use Rattle.std.proofs.Common.{ℕ, sym, arith, rules}
use Rattle.std.specs.Prelude.{nat_lt}
use Rattle.std.proofs.lemmas.Bool.{ltb-true, ltb-false}
use Rattle.std.proofs.lemmas.List.Sorted.{IsPartitionPoint-from_clause, IsPartitionedBy-ltb}
use Rattle.conflict_coloring.proofs.Ranking.{count_split}
use Rattle.conflict_coloring.proofs.ranks.rank_of.Goals as goal

pub returns : goal.returns
returns c =
    let parted = IsPartitionedBy-ltb (λ (x : ℕ). x) c.args.rising.now c.args.row c.requires.rising in
    let point = IsPartitionPoint-from_clause (λ (n : ℕ). nat_lt n c.args.row) c.args.rising.now c.partition_point.result c.partition_point.ensures.partitioned parted (λ a r q k. search rules) in
    sym (count_split c.args.row c.args.rising.now c.partition_point.result c.partition_point.ensures.bound (λ k lt. ltb-true _ c.args.row (point.0 k 0 (omega arith) lt)) (λ k ge lt. ltb-false _ c.args.row (point.1 k 0 ge lt)))
