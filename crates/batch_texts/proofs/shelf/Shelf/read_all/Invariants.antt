use Rattle.std.proofs.Common.{◌≡◌, map, take}
use Rattle.batch_texts.specs.Names.{seen_name, read_names, ShelvesNames}
use Rattle.batch_texts.proofs.shelf.Shelf.read_all.Given as goal

-- the texts of the names before this one are added
abbrev pub invariant-loop-read : goal.invariant-loop-read
invariant-loop-read g l =
    (g.S.Store.holds l.store ≡ g.S.Store.holds l.initial.store)
    × ShelvesNames (g.S.Store.holds l.initial.store) (read_names (map seen_name (take l.read-index l.reads))) l.initial.self l.self (g.S.Store.counts l.initial.store) (g.S.Store.counts l.store)
