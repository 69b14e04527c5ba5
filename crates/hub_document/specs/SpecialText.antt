-- The front of a document's text (own).
use Rattle.std.specs.Prelude.{ℕ, List, ◌++◌}
use Rattle.hub_document.specs.DocText.{rev_member, deleted_member, history_member}
use Rattle.hub_document.specs.Joined.{after_commas, head_text}
use Rattle.hub_document.specs.declared.doc.Doc.{Doc}

-- the brace and the members that begin with `_`, as they are written one after the other
abbrev pub special_text : Doc → List ℕ
special_text doc =
    head_text doc.id
    ++ (after_commas (rev_member doc.rev)
    ++ (after_commas (deleted_member doc.deleted) ++ after_commas (history_member doc.path)))
