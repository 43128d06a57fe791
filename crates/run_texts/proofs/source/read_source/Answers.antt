use Rattle.std.proofs.Common.{sym, subst}
use Rattle.std.specs.Prelude.{Ok, IfOk, IfErr}
use Rattle.run_words.specs.Choice.{seen_source}
use Rattle.run_texts.specs.Read.{SourceRead, EndsReading, SourceReads}
use Rattle.run_texts.proofs.Sources.{drawn_ends, drawn_reads}
use Rattle.run_texts.proofs.source.read_source.Goals as goal

pub returns-in-Texts-clause-ok : goal.returns-in-Texts-clause-ok
returns-in-Texts-clause-ok g c =
    subst (λ source. IfOk c.read_both.result (λ read. SourceRead (g.S.Store.holds c.args.store.now) (seen_source source) (Ok (read.0, read.1)))) (sym c.in-Texts.is) c.read_both.ensures.ok

pub returns-in-Generated-clause-ok : goal.returns-in-Generated-clause-ok
returns-in-Generated-clause-ok g c =
    subst (λ source. IfOk c.drawn.result (λ read. SourceRead (g.S.Store.holds c.args.store.now) (seen_source source) (Ok (read.0, read.1)))) (sym c.in-Generated.is) c.drawn.ensures.ok

pub returns-in-Generated-clause-ends : goal.returns-in-Generated-clause-ends
returns-in-Generated-clause-ends g c =
    subst (λ source. IfErr c.drawn.result (EndsReading (g.S.Store.holds c.args.store.now) (seen_source source))) (sym c.in-Generated.is) (drawn_ends (g.S.Store.holds c.args.store.now) c.in-Generated.n c.in-Generated.seed c.drawn.result c.drawn.ensures.ends)

pub returns-in-Texts-clause-calls : goal.returns-in-Texts-clause-calls
returns-in-Texts-clause-calls g c =
    subst (λ source. SourceReads (seen_source source) c.read_both.result (g.S.Store.counts c.args.store.now) (g.S.Store.counts c.read_both.new.store)) (sym c.in-Texts.is) c.read_both.ensures.calls

pub returns-in-Generated-clause-calls : goal.returns-in-Generated-clause-calls
returns-in-Generated-clause-calls g c =
    subst (λ source. SourceReads (seen_source source) c.drawn.result (g.S.Store.counts c.args.store.now) (g.S.Store.counts c.args.store.now)) (sym c.in-Generated.is)
    (drawn_reads c.in-Generated.n c.in-Generated.seed c.drawn.result (g.S.Store.counts c.args.store.now) c.drawn.ensures.never)
