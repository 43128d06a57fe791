use Rattle.std.proofs.Common.{◌≡◌, ◌≤◌, ◌-◌, vec_len, Some, []}
use Rattle.std.specs.Vec.{vec_capacity}
use Rattle.colored_copier.specs.declared.view.Phase.TheVariants.{Fresh}
use Rattle.colored_copier.specs.Rule.{view}
use Rattle.colored_copier.specs.Fresh.{fresh_passes}
use Rattle.colored_copier.specs.Tables.{table_of, key_of}
use Rattle.colored_copier.specs.Views.{seen_round}
use Rattle.colored_copier.proofs.round.deal.Given as goal

abbrev pub invariant-loop-number : goal.invariant-loop-number
invariant-loop-number g l = (l.dealer.table_id ≡ table_of l.table) × (l.dealer.me ≡ (view (l.seats - l.number) 0 l.number Fresh (Some (key_of l.table)), [])) × (l.passes.items ≡ fresh_passes (seen_round (table_of l.table) (key_of l.table)) l.number)
    × (vec_len l.passes ≡ l.number) × (l.seats ≤ vec_capacity l.passes)
