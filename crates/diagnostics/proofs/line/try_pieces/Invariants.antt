use Rattle.std.proofs.Common.{◌≡◌, take}
use Rattle.fem_text.specs.Counts.{AllWell}
use Rattle.fem_text.specs.Outside.{appended}
use Rattle.diagnostics.specs.Pieces.{pieces_text}
use Rattle.diagnostics.proofs.line.try_pieces.Given as goal

-- the pieces so far were put whole
abbrev pub invariant-loop-piece : goal.invariant-loop-piece
invariant-loop-piece g l =
    (g.K.Sink.taken l.err ≡ appended (g.K.Sink.taken l.initial.err) (pieces_text (take l.piece-index l.pieces)))
    × AllWell (g.K.Sink.counts l.initial.err) (g.K.Sink.counts l.err)
