use Rattle.std.proofs.Common.{◌∙◌}
use Rattle.std.proofs.lemmas.List.Filters.{dedup_is}
use Rattle.std.proofs.lemmas.Map.Keys.{IsStrictlyIncreasing-dedup}
use Rattle.sparsity.proofs.Having.{has_dedup, has_moved}
use Rattle.mesh_loop.proofs.gather.sort_unique.Goals as goal

pub returns : goal.returns
returns c =
    let is = dedup_is _ _ _ c.dedup.ensures.filtered in
    record {
      rises = rw is (IsStrictlyIncreasing-dedup _ c.sort_unstable.ensures.sorted);
      same = λ d. rw is (has_dedup _ d ∙ has_moved _ _ d c.sort_unstable.ensures.permutation);
    }
