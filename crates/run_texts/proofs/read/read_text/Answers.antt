use Rattle.std.proofs.Common.{sym, subst, ◌<◌, ◌≤◌, length, arith}
use Rattle.std.specs.Prelude.{Err}
use Rattle.std.proofs.lemmas.Grind.{common_steps}
use Rattle.diagnostics.specs.declared.refusal.Refusal.TheVariants.{Limit}
use Rattle.run_texts.specs.Texts.{text_limit}
use Rattle.run_texts.specs.Read.{TextUnder}
use Rattle.run_texts.proofs.Reading.{long_read, whole_read}
use Rattle.run_texts.proofs.read.read_text.Goals as goal

pub returns-then-len-gt-TEXT_LIMIT-clause-ends : goal.returns-then-len-gt-TEXT_LIMIT-clause-ends
unfolding text_limit
returns-then-len-gt-TEXT_LIMIT-clause-ends g c =
    let long : text_limit < length c.in-Ok.text.items = (let e = c.len.ensures in let h = c.if-len-gt-TEXT_LIMIT.true in grind (arith, common_steps)) in
    subst (λ limit. TextUnder c.args.role (g.S.Store.holds c.args.store.now) c.args.name.now (Err (Limit limit))) (sym c.size_limit.ensures)
    (long_read c.args.role (g.S.Store.holds c.args.store.now) c.args.name.now c.in-Ok.text.items c.in-Ok.ensures.bytes long)

pub returns-else-len-gt-TEXT_LIMIT-clause-ok : goal.returns-else-len-gt-TEXT_LIMIT-clause-ok
unfolding text_limit
returns-else-len-gt-TEXT_LIMIT-clause-ok g c =
    let short : length c.in-Ok.text.items ≤ text_limit = (let e = c.len.ensures in let h = c.if-len-gt-TEXT_LIMIT.false in grind (arith, common_steps)) in
    whole_read c.args.role (g.S.Store.holds c.args.store.now) c.args.name.now c.in-Ok.text.items c.in-Ok.ensures.bytes short
