use Rattle.std.proofs.Common.{ap, sym, ◌∙◌, ◌∷◌}
use Rattle.atomic_table.specs.Table.{rest}
use Rattle.ordered_pipeline.specs.declared.view.Cargo.TheVariants as cargo
use Rattle.ordered_pipeline.proofs.Jobs.{turned_both}
use Rattle.ordered_pipeline.proofs.steps.Line.take_both.Goals as goal

pub exchange-copy-requires : goal.exchange-copy-requires
exchange-copy-requires g c = let h = c.requires.1 in (c.requires.0, (cargo.Copy h.0, h.2 ∙ ap (λ l. (c.args.place, cargo.Copy h.0) ∷ rest l) (sym h.2)))

pub exchange-state-requires : goal.exchange-state-requires
exchange-state-requires g c = let h = c.requires.1 in
    (c.turn.ensures.0 ∙ (c.exchange-copy.ensures.0 ∙ c.requires.0), (cargo.State h.1, turned_both c.args.seat.now.me.1 c.exchange-copy.new.seat.me.1 c.turn.new.self.me.1 c.args.place c.args.self.now.queue (cargo.Copy h.0) (cargo.State h.1) cargo.Out h.2 (ap (λ m. m.1) c.exchange-copy.ensures.3) (ap (λ m. m.1) c.turn.ensures.2)))
