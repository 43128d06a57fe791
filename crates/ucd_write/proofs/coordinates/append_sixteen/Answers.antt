use Rattle.std.proofs.Common.{◌≡◌, ◌∙◌, sym, ap, subst, ◌+◌, ◌≤◌, ◌++◌, length, decimal, drop, arith}
use Rattle.ucd_write.specs.Coordinates.{last_digits}
use Rattle.ucd_write.proofs.Sixteen.{sixteen, some_digits}
use Rattle.ucd_write.proofs.coordinates.append_sixteen.Goals as goal

pub without_first-requires : goal.without_first-requires
without_first-requires c =
    let same : c.as_bytes-digits.result.now ≡ decimal (10000000000000000 + c.args.number) = c.as_bytes-digits.ensures.value ∙ c.format.ensures.text in
    omega (arith, ap length same, some_digits c.args.number c.requires.few)

pub append-requires : goal.append-requires
append-requires c =
    let same : c.as_bytes-digits.result.now ≡ decimal (10000000000000000 + c.args.number) = c.as_bytes-digits.ensures.value ∙ c.format.ensures.text in
    let added : c.without_first.result.now ≡ last_digits 16 c.args.number = c.without_first.ensures ∙ ap (drop 1) same ∙ sixteen c.args.number c.requires.few in
    subst (λ bytes. length (c.args.text.now.items ++ bytes) ≤ c.args.text.now.cap) (sym added) c.requires.room

pub returns-clause-items : goal.returns-clause-items
returns-clause-items c =
    let same : c.as_bytes-digits.result.now ≡ decimal (10000000000000000 + c.args.number) = c.as_bytes-digits.ensures.value ∙ c.format.ensures.text in
    c.append.ensures.items ∙ ap (λ bytes. c.args.text.now.items ++ bytes) (c.without_first.ensures ∙ ap (drop 1) same ∙ sixteen c.args.number c.requires.few)
