-- The calls of methods and paths (CouchDB API reference, the methods of each path; RFC 9110, section 9.1).
use Rattle.std.specs.Prelude.{ℕ, Bool, true, false, List, Option, Some, None, if◌then◌else◌}
use Rattle.std.specs.Prelude.{bytes_eq, codes}
use Rattle.hub_document.specs.Ids.{is_id}
use Rattle.hub_routes.specs.declared.kind.Kind.{Kind}
use Rattle.hub_routes.specs.declared.kind.Kind.TheVariants as kind
use Rattle.hub_routes.specs.declared.method.Method.{Method}
use Rattle.hub_routes.specs.declared.method.Method.TheVariants.{Get, Head, Put, Post, Delete, Other}
use Rattle.hub_routes.specs.declared.route.Call.{Call}
use Rattle.hub_routes.specs.declared.route.Call.TheVariants.{Welcome, AllDbs, DbUpdates}
use Rattle.hub_routes.specs.declared.route.Call.TheVariants.{Info, PutDatabase, DeleteDatabase, BulkDocs}
use Rattle.hub_routes.specs.declared.route.Call.TheVariants.{Changes, RevsDiff, FullCommit}
use Rattle.hub_routes.specs.declared.route.Call.TheVariants.{GetDocument, PutDocument, DeleteDocument}
use Rattle.hub_routes.specs.declared.route.Call.TheVariants.{GetLocal, PutLocal}

-- the method of a name, letter by letter
unfoldable pub method_of : List ℕ → Method
method_of name =
    if bytes_eq name (codes "GET") then Get
    else (if bytes_eq name (codes "HEAD") then Head
    else (if bytes_eq name (codes "PUT") then Put
    else (if bytes_eq name (codes "POST") then Post
    else (if bytes_eq name (codes "DELETE") then Delete
    else Other))))

-- the call of a method on a path of this kind; None where the path does not take the method
unfoldable pub asked_of : Kind → Method → Option Call
asked_of kind.Welcome Get = Some Welcome
asked_of kind.AllDbs Get = Some AllDbs
asked_of kind.DbUpdates Get = Some DbUpdates
asked_of kind.Database Get = Some Info
asked_of kind.Database Head = Some Info
asked_of kind.Database Put = Some PutDatabase
asked_of kind.Database Delete = Some DeleteDatabase
asked_of kind.BulkDocs Post = Some BulkDocs
asked_of kind.Changes Get = Some Changes
asked_of kind.Changes Post = Some Changes
asked_of kind.RevsDiff Post = Some RevsDiff
asked_of kind.FullCommit Post = Some FullCommit
asked_of kind.Document Get = Some GetDocument
asked_of kind.Document Put = Some PutDocument
asked_of kind.Document Delete = Some DeleteDocument
asked_of kind.Local Get = Some GetLocal
asked_of kind.Local Put = Some PutLocal
asked_of other method = None

-- a path of this kind names one document
abbrev pub has_document : Kind → Bool
has_document kind.Document = true
has_document kind.Local = true
has_document kind = false

-- a document of this kind may have this id: a document that is no local one needs the id of a document
abbrev pub takes_id : Kind → List ℕ → Bool
takes_id kind.Document id = is_id id
takes_id kind id = true

-- a request for a path of this kind needs a Content-Length
abbrev pub takes_body : Kind → Bool
takes_body kind.BulkDocs = true
takes_body kind.RevsDiff = true
takes_body kind = false
