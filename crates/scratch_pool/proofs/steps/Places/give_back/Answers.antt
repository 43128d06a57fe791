use Rattle.std.proofs.Common.{arith, ap, sym, ◌∙◌}
use Rattle.std.specs.Int.RustNames.{bit_or}
use Rattle.scratch_pool.specs.Machine.{gave}
use Rattle.scratch_pool.specs.Plays.{bit}
use Rattle.scratch_pool.proofs.Moves.{gives_back}
use Rattle.scratch_pool.proofs.Masks.{is_set}
use Rattle.scratch_pool.proofs.Seats.{filled}
use Rattle.scratch_pool.proofs.steps.Places.give_back.Goals as goal

pub fetch_or-requires : goal.fetch_or-requires
fetch_or-requires g c =
    let e = c.exchange.ensures in
    let has = c.requires.holds in (
      e.0 ∙ (c.requires.pass.0 ∙ sym (ap (λ p. p.table) c.self.view_is)),
      omega (arith, c.self.invariant.0),
      gives_back _ _ _ _ _ _ (ap (λ m. m.0.holds) e.3 ∙ has.0) (ap (λ m. m.1) e.3 ∙ filled _ _ _ _ has.1),
    )

pub returns-clause-event : goal.returns-clause-event
returns-clause-event g c =
    let told = c.fetch_or.ensures.2 in
    let same = c.exchange.ensures.3 in
    let has = c.requires.holds.0 in
    let k = c.args.object in (
      c.fetch_or.result,
      bit_or c.fetch_or.result (bit k),
      (has, told.1 k (ap (λ m. m.0.holds) same ∙ has), is_set c.fetch_or.result k c.requires.pass.1, ap (λ m. m.0) told.0 ∙ ap (λ m. gave m.0) same),
    )
