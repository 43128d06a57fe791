use Rattle.std.proofs.Common.{map, string_bytes, subst, sym, ◌∙◌, ap, List, ℕ, ◌∷◌, length, take, drop, ◌-◌}
use Rattle.std.specs.Prelude.{Some}
use Rattle.run_words.specs.Held.{Takes, Sets, CannotTake, seen_settings}
use Rattle.run_words.specs.declared.opening.Opening.TheVariants as openings
use Rattle.run_words.specs.Settings.{joined, alone}
use Rattle.run_words.proofs.Taking.{takes_whole, takes_apart, adds_joined, adds_alone, cannot_take_joined, cannot_take_apart, cannot_take_alone, map-front, opened}
use Rattle.run_words.proofs.settings.Settings.take.Goals as goal

pub returns-in_err-turn_on-in-Alone-clause-none :
    goal.returns-in_err-turn_on-in-Alone-clause-none
returns-in_err-turn_on-in-Alone-clause-none c =
    rw c.from_residual-in_err-turn_on-in-Alone.ensures
    (cannot_take_alone (seen_settings c.args.self.now) c.args.word.now (map string_bytes c.args.behind.now) c.in-Alone.switch
    (opened c.opening_of.result (openings.Alone c.in-Alone.switch) c.args.word.now c.opening_of.ensures (c.in_ok-switch.was ∙ ap Some c.in-Alone.is))
    c.in_err-turn_on-in-Alone.ensures.none)

pub returns-in_ok-turn_on-in-Alone-clause-some :
    goal.returns-in_ok-turn_on-in-Alone-clause-some
returns-in_ok-turn_on-in-Alone-clause-some c =
    takes_whole (seen_settings c.args.self.now) (seen_settings c.turn_on.new.self) c.args.word.now (map string_bytes c.args.behind.now) (alone c.in-Alone.switch)
    (opened c.opening_of.result (openings.Alone c.in-Alone.switch) c.args.word.now c.opening_of.ensures (c.in_ok-switch.was ∙ ap Some c.in-Alone.is))
    (adds_alone (seen_settings c.args.self.now) (seen_settings c.turn_on.new.self) c.in-Alone.switch c.in_ok-turn_on-in-Alone.ensures.some)

pub returns-in_err-set-in-Joined-clause-none : goal.returns-in_err-set-in-Joined-clause-none
returns-in_err-set-in-Joined-clause-none c =
    rw c.from_residual-in_err-set-in-Joined.ensures
    (cannot_take_joined (seen_settings c.args.self.now) c.args.word.now c.in-Joined.value.now (map string_bytes c.args.behind.now) c.in-Joined.name
    (opened c.opening_of.result (openings.Joined c.in-Joined.name c.in-Joined.value) c.args.word.now c.opening_of.ensures (c.in_ok-switch.was ∙ ap Some c.in-Joined.is))
    c.in_err-set-in-Joined.ensures.none)

pub returns-in_ok-set-in-Joined-clause-some : goal.returns-in_ok-set-in-Joined-clause-some
returns-in_ok-set-in-Joined-clause-some c =
    takes_whole (seen_settings c.args.self.now) (seen_settings c.set.new.self) c.args.word.now (map string_bytes c.args.behind.now) (joined c.in-Joined.name c.in-Joined.value.now)
    (opened c.opening_of.result (openings.Joined c.in-Joined.name c.in-Joined.value) c.args.word.now c.opening_of.ensures (c.in_ok-switch.was ∙ ap Some c.in-Joined.is))
    (adds_joined (seen_settings c.args.self.now) (seen_settings c.set.new.self) c.in-Joined.name c.in-Joined.value.now c.in_ok-set-in-Joined.ensures.some)

pub returns-in_err-set-in-Apart-clause-none : goal.returns-in_err-set-in-Apart-clause-none
returns-in_err-set-in-Apart-clause-none c =
    let P : List (List ℕ) → Type 0 = λ behind. CannotTake (seen_settings c.args.self.now) (c.args.word.now ∷ behind) in
    rw c.from_residual-in_err-set-in-Apart.ensures
    (subst P (sym (map-front string_bytes c.args.behind.now c.value-item.result c.in-len1-up.len_at_least c.value-item.is))
    (cannot_take_apart (seen_settings c.args.self.now) c.args.word.now (string_bytes c.value-item.result)
    (map string_bytes (take (length c.args.behind.now - 1) (drop 1 c.args.behind.now))) c.in-Apart.name
    (opened c.opening_of.result (openings.Apart c.in-Apart.name) c.args.word.now c.opening_of.ensures (c.in_ok-switch.was ∙ ap Some c.in-Apart.is))
    c.in_err-set-in-Apart.ensures.none))

pub returns-in_ok-set-in-Apart-clause-some : goal.returns-in_ok-set-in-Apart-clause-some
returns-in_ok-set-in-Apart-clause-some c =
    let P : List (List ℕ) → Type 0 = λ behind. Takes (seen_settings c.args.self.now) (c.args.word.now ∷ behind) (seen_settings c.set-in-Apart.new.self) (map string_bytes (take (length c.args.behind.now - 1) (drop 1 c.args.behind.now))) in
    let Q : List ℕ → Type 0 = λ value. Sets (seen_settings c.args.self.now) c.in-Apart.name value (seen_settings c.set-in-Apart.new.self) in
    subst P (sym (map-front string_bytes c.args.behind.now c.value-item.result c.in-len1-up.len_at_least c.value-item.is))
    (takes_apart (seen_settings c.args.self.now) (seen_settings c.set-in-Apart.new.self) c.args.word.now (string_bytes c.value-item.result)
    (map string_bytes (take (length c.args.behind.now - 1) (drop 1 c.args.behind.now))) c.in-Apart.name
    (opened c.opening_of.result (openings.Apart c.in-Apart.name) c.args.word.now c.opening_of.ensures (c.in_ok-switch.was ∙ ap Some c.in-Apart.is))
    (subst Q c.as_str.ensures.value c.in_ok-set-in-Apart.ensures.some))
