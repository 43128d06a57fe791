use Rattle.std.proofs.Common.{◌∙◌, ap, ◌++◌}
use Rattle.std.proofs.lemmas.List.Filters.{dedup_is}
use Rattle.lumped_mass.proofs.Members.{rising_of}
use Rattle.lumped_mass.proofs.rows.set_rising.Goals as goal

pub returns : goal.returns
returns c =
    rising_of c.args.numbers.now c.extend_from_slice.new.self.items c.sort_unstable.new.self.items c.dedup.new.self.items (c.in_ok-extend_from_slice.ensures.items ∙ ap (λ l. l ++ c.args.numbers.now) c.clear.ensures.items)
    c.sort_unstable.ensures.permutation c.sort_unstable.ensures.sorted (dedup_is _ _ _ c.dedup.ensures.filtered)
