use Rattle.std.proofs.Common.{◌∙◌, sym}
use Rattle.run_words.proofs.Places.{sets_value, copied_none}
use Rattle.run_words.proofs.settings.Settings.set.Goals as goal

pub returns-clause-some : goal.returns-clause-some
returns-clause-some c =
    sets_value c.args.self.now.values c.args.self.now.switches c.args.name c.place.result c.args.value c.args.self.now.full
    c.place.ensures (sym c.value.ensures ∙ copied_none c.value.result c.if-is_some.ensures)
