use Rattle.std.proofs.Common.{◌∙◌, ap}
use Rattle.std.specs.Prelude.{string_eq}
use Rattle.indexmap.proofs.CallerLemmas.{insert_entry-new}
use Rattle.batch_texts.specs.Shelf.{shelved}
use Rattle.batch_texts.proofs.Shelves.{none_under, shelved_more}
use Rattle.batch_texts.proofs.shelf.insert_new.Goals as goal

pub returns-clause-ok : goal.returns-clause-ok
returns-clause-ok c =
    let entries = c.args.texts.now.entries in
    let none-there = none_under c.args.name.now c.in_ok-key.key entries c.in_ok-key.ensures.ok c.requires in
    ap shelved (c.in_ok-insert.ensures.entries ∙ insert_entry-new string_eq c.args.texts.now c.in_ok-key.key c.args.text none-there) ∙ shelved_more entries c.in_ok-key.key c.args.text c.args.name.now c.in_ok-key.ensures.ok
