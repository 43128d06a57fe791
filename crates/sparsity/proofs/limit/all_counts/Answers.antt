use Rattle.std.proofs.Common.{◌≡◌, ℕ, ◌<◌, ◌-◌, ◌∙◌, length, map, ap, subst, arith, List, All}
use Rattle.std.specs.Prelude.{IfOk}
use Rattle.std.specs.List.{range_with_len, concat}
use Rattle.rayon.specs.Numbers.{nat_range}
use Rattle.rayon.proofs.ToStd.{nat_range-All}
use Rattle.sparsity.specs.Chains.{AreChains}
use Rattle.sparsity.specs.Coupled.{share_list}
use Rattle.sparsity.specs.Pieces.{piece_of, pieces_in}
use Rattle.sparsity.proofs.Listing.{all_made}
use Rattle.sparsity.proofs.limit.all_counts.Goals as goal

pub collect-requires-clause-ready : goal.collect-requires-clause-ready
collect-requires-clause-ready g c κs within =
    let ends = c.into_par_iter.ensures in
    let Ready : ℕ → Type 0 = λ p. (p < pieces_in c.args.size) × All (All (λ j. j < c.args.size)) c.args.lists.now × (length c.args.chains.now.heads.items ≡ c.args.size)
    × AreChains c.args.lists.now c.args.chains.now.heads.items c.args.chains.now.nodes.items (share_list c.args.lists.now) in
    let ready = nat_range-All Ready 0 (pieces_in c.args.size) (λ p low high. (high, c.requires.within, c.requires.size, c.requires.chains)) in
    rw (c.map.ensures.base, c.map.ensures.f, c.with_min_len.ensures.base, ends.0, ends.1, c.count_pieces.ensures) (λ k d lt. (ready k d lt, λ y p. tt))

pub returns : goal.returns
returns g c =
    let ends = c.into_par_iter.ensures in
    let whole : c.count_pieces.result - 0 ≡ pieces_in c.args.size = omega (arith, c.count_pieces.ensures) in
    let h = c.in_ok-counts.ensures in
    let chain = rw (c.map.ensures.base, c.map.ensures.f, c.with_min_len.ensures.base) at h.1 in
    let places = chain.1 ∙ (λ i. nat_range (ends.0 i) (ends.1 i)) ∙ ap (range_with_len 0) whole in
    let Made : List ℕ → Type 0 = λ ns. IfOk c.in_ok-counts.counts (λ counts. map (λ count. count) counts.items ≡ map (λ p. length (concat (piece_of c.args.size c.args.lists.now p))) ns) in
    subst Made places (all_made (λ count. count) (λ v. v.items) (λ p. length (concat (piece_of c.args.size c.args.lists.now p))) chain.0 h.0 c.in_ok-counts.counts chain.2 h.2)
