-- The definitions, worked out for some paths (CouchDB API reference, the paths of the server, databases and
-- documents).
use Rattle.std.specs.Prelude.{◌≡◌, ◌++◌, ℕ, List, Some, None, false, codes}
use Rattle.percent_encoding.specs.Percent.{percent_decode}
use Rattle.hub_document.specs.Ids.{is_id}
use Rattle.hub_routes.specs.Paths.{id_of, kind_of}
use Rattle.hub_routes.specs.Table.{kind_at}
use Rattle.hub_routes.specs.declared.kind.Kind.TheVariants.{Welcome, AllDbs, DbUpdates, Database, BulkDocs}
use Rattle.hub_routes.specs.declared.kind.Kind.TheVariants.{Changes, RevsDiff, FullCommit, Document, Local}

-- the table gives some paths these kinds
pub record KindsOfPaths : Type 0 where
  pub welcome : kind_at (codes "/") ≡ Some Welcome
  pub all_dbs : kind_at (codes "/_all_dbs") ≡ Some AllDbs
  pub all_dbs_slash : kind_at (codes "/_all_dbs/") ≡ Some Database
  pub all_dbs_escaped : kind_at (codes "/%5Fall_dbs") ≡ Some Database
  pub db_updates : kind_at (codes "/_db_updates") ≡ Some DbUpdates
  pub database : kind_at (codes "/d") ≡ Some Database
  pub slash : kind_at (codes "/d/") ≡ Some Database
  pub bulk_docs : kind_at (codes "/d/_bulk_docs") ≡ Some BulkDocs
  pub changes : kind_at (codes "/d/_changes") ≡ Some Changes
  pub revs_diff : kind_at (codes "/d/_revs_diff") ≡ Some RevsDiff
  pub full_commit : kind_at (codes "/d/_ensure_full_commit") ≡ Some FullCommit
  pub document : kind_at (codes "/d/a") ≡ Some Document
  pub longer : kind_at (codes "/d/_changesx") ≡ Some Document
  pub design : kind_at (codes "/d/_design/x") ≡ Some Document
  pub local : kind_at (codes "/d/_local/x") ≡ Some Local
  pub deep : kind_at (codes "/d/a/b") ≡ None
  pub empty : kind_at (codes "//a") ≡ None
  pub no_design : kind_at (codes "/d/_design/") ≡ None
  pub no_local : kind_at (codes "/d/_local/") ≡ None

-- some paths have these ids and kinds, once their ids are decoded
pub record IdsOfPaths : Type 0 where
  pub plain : id_of (codes "/d/a%2Fb+c") ≡ codes "a/b+c"
  pub plain_kind : kind_of (codes "/d/a%2Fb+c") ≡ Some Document
  pub design : id_of (codes "/d/_design/x") ≡ codes "_design/x"
  pub design_kind : kind_of (codes "/d/_design/x") ≡ Some Document
  pub escaped_design : id_of (codes "/d/_design%2Fx") ≡ codes "_design/x"
  pub escaped_design_kind : kind_of (codes "/d/_design%2Fx") ≡ Some Document
  pub no_design : is_id (id_of (codes "/d/_design%2F")) ≡ false
  pub no_design_kind : kind_of (codes "/d/_design%2F") ≡ Some Document
  pub local : id_of (codes "/d/_local/x") ≡ codes "_local/x"
  pub local_kind : kind_of (codes "/d/_local/x") ≡ Some Local
  pub escaped_local : id_of (codes "/d/_local%2Fx") ≡ codes "_local/x"
  pub escaped_local_kind : kind_of (codes "/d/_local%2Fx") ≡ Some Local
  pub no_local : is_id (id_of (codes "/d/_local%2F")) ≡ false
  pub no_local_kind : kind_of (codes "/d/_local%2F") ≡ Some Document
  pub no_document : kind_of (codes "/d/") ≡ Some Database

-- the escapes of a name behind `_design/` or `_local/` are read, and the rest of the id stays as it is
pub record IdsOfPrefixes : Type 0 where
  pub design : (name : List ℕ)
      → id_of (codes "/d/_design/" ++ name) ≡ codes "_design/" ++ percent_decode name
  pub local : (name : List ℕ) → id_of (codes "/d/_local/" ++ name) ≡ codes "_local/" ++ percent_decode name
