use Rattle.std.proofs.Common.{rules, ◌∙◌, ap, sym, take, drop, ◌+◌, subst, ℕ, List}
use Rattle.fem_text.specs.Outside.{appended, TookPrefix}
use Rattle.fem_text.proofs.Counted.{none_well, well_well, well_fault}
use Rattle.diagnostics.specs.Pieces.{pieces_text}
use Rattle.diagnostics.proofs.PieceLaws.{none_taken, piece_more, pieces_around, took_into, took_both}
use Rattle.diagnostics.proofs.line.try_pieces.Goals as goal

pub loop-piece-init : goal.loop-piece-init
loop-piece-init g c = (none_taken (g.K.Sink.taken c.args.err.now), none_well (g.K.Sink.counts c.args.err.now))

pub returns-in_err-put_piece-clause-part : goal.returns-in_err-put_piece-clause-part
returns-in_err-put_piece-clause-part g c =
    let P : List ℕ → Type 0 = λ text. TookPrefix (g.K.Sink.taken c.args.err.now) (g.K.Sink.taken c.put_piece.new.err) text in
    subst P (sym (pieces_around c.args.pieces.now c.loop-piece.piece-index _ c.loop-piece-test.true))
    (took_into _ _ _ (pieces_text (take c.loop-piece.piece-index c.args.pieces.now)) _ (pieces_text (drop (c.loop-piece.piece-index + 1) c.args.pieces.now)) c.loop-piece.invariant.0 c.in_err-put_piece.ensures.part)

pub returns-in_err-put_piece-clause-cause : goal.returns-in_err-put_piece-clause-cause
returns-in_err-put_piece-clause-cause g c =
    let fault = well_fault _ _ _ c.loop-piece.invariant.1 c.in_err-put_piece.ensures.cause.failed in
    search (rules, fault)

pub loop-piece-preserved : goal.loop-piece-preserved
loop-piece-preserved g c =
    let both = took_both _ _ _ (pieces_text (take c.loop-piece.piece-index c.args.pieces.now)) _ c.loop-piece.invariant.0 c.in_ok-put_piece.ensures.ok in (
      both ∙ ap (λ text. appended (g.K.Sink.taken c.args.err.now) text) (sym (piece_more c.args.pieces.now c.loop-piece.piece-index _ c.loop-piece-test.true)),
      well_well _ _ _ c.loop-piece.invariant.1 c.in_ok-put_piece.ensures.cause.kept,
    )
