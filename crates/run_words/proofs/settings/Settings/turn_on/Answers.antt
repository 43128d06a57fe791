use Rattle.std.proofs.Common.{◌∙◌, sym}
use Rattle.run_words.proofs.Places.{turns_switch}
use Rattle.run_words.proofs.settings.Settings.turn_on.Goals as goal

pub returns-clause-some : goal.returns-clause-some
returns-clause-some c =
    turns_switch c.args.self.now.values c.args.self.now.switches c.args.switch c.place.result c.args.self.now.both
    c.place.ensures (sym c.stands.ensures ∙ c.if-stands.false)
