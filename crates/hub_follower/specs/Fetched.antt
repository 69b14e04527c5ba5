-- Documents that were fetched with their histories (CouchDB API reference, `open_revs` with `revs=true`).
use Rattle.std.specs.Prelude.{◌≡◌, true, is_some}
use Rattle.hub_database.specs.declared.answers.OpenRev.{OpenRev}
use Rattle.hub_database.specs.declared.answers.OpenRev.TheVariants.{Found, Missing}
use Rattle.hub_document.specs.declared.doc.Doc.{Doc}

-- the document has its history
abbrev pub HasPath : Doc → Type 0
HasPath doc = is_some doc.path ≡ true

-- a revision that was found has its history
abbrev pub FoundHasPath : OpenRev → Type 0
FoundHasPath (Found doc) = HasPath doc
FoundHasPath (Missing r) = Unit {0}
