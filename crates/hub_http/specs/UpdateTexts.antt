-- The texts of rows of the log of updates, and the end of a feed of such rows (CouchDB API reference,
-- _db_updates).
use Rattle.std.specs.Prelude.{ℕ, List, ◌++◌, codes}
use Rattle.json.specs.Print.{quoted}
use Rattle.hub_document.specs.SequenceText.{sequence_text}
use Rattle.hub_model.specs.Updates.{UpdateRow}
use Rattle.hub_model.specs.declared.updates.UpdateKind.{UpdateKind}
use Rattle.hub_model.specs.declared.updates.UpdateKind.TheVariants.{Created, Updated, Deleted}

-- the kind of a change to a database, as a JSON string
unfoldable pub kind_text : UpdateKind → List ℕ
kind_text Created = codes "\"created\""
kind_text Updated = codes "\"updated\""
kind_text Deleted = codes "\"deleted\""

-- a row as a JSON object, in a log of this life, as {"db_name":"d","type":"created","seq":"7-0"}
unfoldable pub update_row_text : (life : ℕ) → UpdateRow → List ℕ
update_row_text life row =
    codes "{\"db_name\":"
    ++ (quoted row.db_name
    ++ (codes ",\"type\":"
    ++ (kind_text row.kind ++ (codes ",\"seq\":" ++ (sequence_text row.seq life ++ codes "}")))))

-- the member that ends a feed, and the brace that closes it; the number of rows above is not written
unfoldable pub update_end_text : (life last_seq pending : ℕ) → List ℕ
update_end_text life last_seq pending = codes "\"last_seq\":" ++ (sequence_text last_seq life ++ codes "}\n")
