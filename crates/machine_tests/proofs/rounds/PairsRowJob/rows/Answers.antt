use Rattle.std.proofs.Common.{ℕ, List, arith, ap, ◌∙◌, get_or, vec_len}
use Rattle.std.proofs.lemmas.List.FromFn.{get_or-map-range_with_len}
use Rattle.colored_copier.proofs.PairLaws.{pair_of}
use Rattle.machine_tests.proofs.rounds.PairsRowJob.rows.Goals as goal

pub returns : goal.returns
returns c = c.index.ensures ∙ (ap (λ (l : List (List ℕ)). get_or l c.args.item c.index.result.now) c.args.self.now.pairs ∙ get_or-map-range_with_len pair_of 0 (vec_len c.args.self.now.rows) c.args.item c.args.item c.index.result.now c.requires (omega arith))
