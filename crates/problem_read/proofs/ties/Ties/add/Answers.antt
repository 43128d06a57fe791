use Rattle.std.proofs.Common.{◌≡◌, ◌∙◌, sym, subst, List, ◌-◌, length, arith}
use Rattle.std.specs.Prelude.{pos, unwrap_or}
use Rattle.problem_read.specs.Entries.{Tie}
use Rattle.problem_read.specs.Ties.{ties_in, AddsTie}
use Rattle.problem_read.proofs.TieLines.{gave, adds_line}
use Rattle.problem_read.proofs.ties.Ties.add.Goals as goal

pub returns-clause-ok : goal.returns-clause-ok
returns-clause-ok c =
    let P : List Tie → Type 0 = λ before. AddsTie before c.args.words.now (ties_in c.push_line.new.lines.items c.read_sum.new.terms.items) in
    let held : c.len-2.result ≡ length c.self.inside.lines.items = omega (arith, c.len-2.ensures) in
    let count : c.len.result - c.len-start.result ≡ length c.read_sum.new.terms.items - length c.self.inside.terms.items = omega (arith, c.len.ensures, c.len-start.ensures) in
    let start : c.len-start.result ≡ length c.self.inside.terms.items = omega (arith, c.len-start.ensures) in
    subst P c.self.view_is
    (adds_line c.self.inside.lines.items c.push_line.new.lines.items c.self.inside.terms.items c.read_sum.new.terms.items c.args.words.now
    c.in_ok-node.node (c.len.result - c.len-start.result) c.len-2.result c.len-start.result (unwrap_or c.in_ok-constant.constant (pos 0)) c.self.invariant.1
    (sym c.id_at.ensures ∙ gave c.args.line.now.number c.id_at.result c.in_ok-node.node (sym c.at_line.ensures ∙ c.in_ok-node.was))
    c.in_ok-constant.ensures.ok held count start (sym c.has_room.ensures ∙ c.if-not-has_room.false) c.in_ok-push_line.ensures.ok)
