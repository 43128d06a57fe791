use Rattle.std.proofs.Common.{arith, ◌≡◌, Option, MatchOption, Some, None, ◌∷◌, ap, sym, refl, ◌∙◌, subst}
use lib.Bits.{bit_and}
use Rattle.atomic_table.specs.Table.{rest}
use Rattle.scratch_pool.specs.Machine.{Takes, Misses}
use Rattle.scratch_pool.specs.Plays.{mask}
use Rattle.scratch_pool.proofs.Moves.{tries}
use Rattle.scratch_pool.proofs.Masks.{bit_is_clear, bit_is_set, cleared}
use Rattle.scratch_pool.proofs.Seats.{taken_out}
use Rattle.scratch_pool.proofs.steps.Places.try_object.Goals as goal

pub fetch_and-found-requires : goal.fetch_and-found-requires
fetch_and-found-requires g c =
    let idle = c.requires.1 in
    let laid = c.self.invariant in
    let count = ap (λ p. p.objects) c.self.view_is in (
      c.requires.0 ∙ sym (ap (λ p. p.table) c.self.view_is),
      omega (arith, laid.0),
      tries _ _ _ _ _ (omega (arith, laid.1, count, c.requires.2)) (omega (arith, laid.1, laid.3)) idle.1 (omega (arith, idle.0)) idle.2,
    )

pub returns-then-found-bit-eq0-clause-event : goal.returns-then-found-bit-eq0-clause-event
returns-then-found-bit-eq0-clause-event g c =
    let k = c.args.object in
    let lt = c.requires.3 in
    let found = c.fetch_and-found.result in
    let clear = bit_is_clear found k lt c.if-found-bit-eq0.true in
    let told = (c.fetch_and-found.ensures.2 k lt refl).1 clear in
    (found, bit_and found (mask k), (c.requires.1.1, clear, cleared found k lt, ap (λ m. m.0) told))

pub returns-then-found-bit-eq0-clause-place : goal.returns-then-found-bit-eq0-clause-place
returns-then-found-bit-eq0-clause-place g c =
    let k = c.args.object in
    let lt = c.requires.3 in
    let told = (c.fetch_and-found.ensures.2 k lt refl).1 (bit_is_clear c.fetch_and-found.result k lt c.if-found-bit-eq0.true) in
    (c.fetch_and-found.ensures.0, ap (λ m. m.1) told)

pub exchange-requires : goal.exchange-requires
exchange-requires g c =
    let k = c.args.object in
    let lt = c.requires.3 in
    let t = (c.fetch_and-found.ensures.2 k lt refl).0 (bit_is_set c.fetch_and-found.result k lt c.if-found-bit-eq0.false) in
    (c.fetch_and-found.ensures.0 ∙ (c.requires.0 ∙ sym (ap (λ p. p.table) c.self.view_is)), (Some t.0, ap (λ m. m.1) t.1 ∙ ap (λ m. (k, Some t.0) ∷ rest m.1) (sym t.1)))

pub returns-clause-event : goal.returns-clause-event
returns-clause-event g c =
    let k = c.args.object in
    let lt = c.requires.3 in
    let found = c.fetch_and-found.result in
    let is-set = bit_is_set found k lt c.if-found-bit-eq0.false in
    let t = (c.fetch_and-found.ensures.2 k lt refl).0 is-set in
    let e = c.exchange.ensures in
    let out = taken_out k t.0 c.exchange.result _ (ap (λ m. m.1) t.1) e.2 in
    let old = c.args.seat.now.me.0 in
    let new = c.exchange.new.seat.me.0 in (
      found,
      bit_and found (mask k),
      subst (λ (o : Option _). MatchOption o (Misses k found old (bit_and found (mask k)) new) (λ _. Takes k found old (bit_and found (mask k)) new)) (sym out)
          (c.requires.1.1, is-set, cleared found k lt, ap (λ m. m.0) e.3 ∙ ap (λ m. m.0) t.1),
    )

pub returns-clause-place : goal.returns-clause-place
returns-clause-place g c =
    let k = c.args.object in
    let lt = c.requires.3 in
    let found = c.fetch_and-found.result in
    let is-set = bit_is_set found k lt c.if-found-bit-eq0.false in
    let t = (c.fetch_and-found.ensures.2 k lt refl).0 is-set in
    let e = c.exchange.ensures in
    let out = taken_out k t.0 c.exchange.result _ (ap (λ m. m.1) t.1) e.2 in
    let new = c.exchange.new.seat.me.1 in (
      e.0 ∙ c.fetch_and-found.ensures.0,
      subst (λ (o : Option _). MatchOption o (new ≡ Rattle.std.proofs.Common.[]) (λ _. new ≡ (k, None) ∷ Rattle.std.proofs.Common.[])) (sym out)
          (ap (λ m. m.1) e.3 ∙ ap (λ m. (k, None) ∷ rest m.1) t.1),
    )
