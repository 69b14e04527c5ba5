-- Each refusal's status, error and reason (CouchDB API reference, HTTP status codes).
use Rattle.std.specs.Prelude.{ℕ, List, codes}
use Rattle.hub_http.specs.declared.refusal.Refusal.{Refusal}
use Rattle.hub_http.specs.declared.refusal.Refusal.TheVariants.{NoMemory, NotJson, NotObject, BadNumber}
use Rattle.hub_http.specs.declared.refusal.Refusal.TheVariants.{BadId, BadRev, BadRevisions, BadMember}
use Rattle.hub_http.specs.declared.refusal.Refusal.TheVariants.{TooLong, Contradicts, GenerationLimit}
use Rattle.hub_http.specs.declared.refusal.Refusal.TheVariants.{Conflict, BadSince, BadLimit, BadStyle}
use Rattle.hub_http.specs.declared.refusal.Refusal.TheVariants.{BadFeed, BadFilter, BadDocIds, BadHeartbeat}
use Rattle.hub_http.specs.declared.refusal.Refusal.TheVariants.{DescendingMode, BadFlag, TooManyFeeds}
use Rattle.hub_http.specs.declared.refusal.Refusal.TheVariants.{SequenceFull, Deleted, BadName, Exists}
use Rattle.hub_http.specs.declared.refusal.Refusal.TheVariants.{Absent, TooMany, BadHead, HeadTooLong}
use Rattle.hub_http.specs.declared.refusal.Refusal.TheVariants.{BodyTooLong, Version, Coding, LengthMissing}
use Rattle.hub_http.specs.declared.refusal.Refusal.TheVariants.{Missing, DocDeleted, MethodNotAllowed}
use Rattle.hub_document.specs.declared.doc.DocFault.{DocFault}
use Rattle.hub_document.specs.declared.doc.DocFault.TheVariants as doc
use Rattle.hub_model.specs.declared.outcomes.Fault.{Fault}
use Rattle.hub_model.specs.declared.outcomes.Fault.TheVariants as stored

-- the status of the reply
abbrev pub status_of : Refusal → ℕ
status_of NoMemory = 503
status_of Conflict = 409
status_of TooManyFeeds = 503
status_of SequenceFull = 503
status_of Deleted = 404
status_of Exists = 412
status_of Absent = 404
status_of TooMany = 503
status_of HeadTooLong = 431
status_of BodyTooLong = 413
status_of Version = 505
status_of Coding = 501
status_of LengthMissing = 411
status_of Missing = 404
status_of DocDeleted = 404
status_of MethodNotAllowed = 405
status_of _ = 400

-- the member `error` of the reply
abbrev pub error_of : Refusal → List ℕ
error_of NoMemory = codes "out_of_memory"
error_of Conflict = codes "conflict"
error_of TooManyFeeds = codes "too_many_feeds"
error_of SequenceFull = codes "sequence_full"
error_of Deleted = codes "not_found"
error_of BadName = codes "illegal_database_name"
error_of Exists = codes "file_exists"
error_of Absent = codes "not_found"
error_of TooMany = codes "too_many_databases"
error_of HeadTooLong = codes "head_too_long"
error_of BodyTooLong = codes "too_large"
error_of Version = codes "http_version"
error_of Coding = codes "not_implemented"
error_of LengthMissing = codes "length_required"
error_of Missing = codes "not_found"
error_of DocDeleted = codes "not_found"
error_of MethodNotAllowed = codes "method_not_allowed"
error_of _ = codes "bad_request"

-- the member `reason` of the reply
abbrev pub reason_of : Refusal → List ℕ
reason_of NoMemory = codes "out of memory"
reason_of NotJson = codes "not JSON"
reason_of NotObject = codes "not an object"
reason_of BadNumber = codes "number out of profile"
reason_of BadId = codes "bad id"
reason_of BadRev = codes "bad rev"
reason_of BadRevisions = codes "bad _revisions"
reason_of BadMember = codes "bad member"
reason_of TooLong = codes "id too long"
reason_of Contradicts = codes "contradicting history"
reason_of GenerationLimit = codes "generation limit"
reason_of Conflict = codes "Document update conflict."
reason_of BadSince = codes "bad since"
reason_of BadLimit = codes "bad limit"
reason_of BadStyle = codes "bad style"
reason_of BadFeed = codes "bad feed"
reason_of BadFilter = codes "bad filter"
reason_of BadDocIds = codes "bad doc_ids"
reason_of BadHeartbeat = codes "bad heartbeat"
reason_of DescendingMode = codes "descending needs feed=normal"
reason_of BadFlag = codes "bad flag"
reason_of TooManyFeeds = codes "too many feeds"
reason_of SequenceFull = codes "sequence full"
reason_of Deleted = codes "Database does not exist."
reason_of BadName = codes "bad name"
reason_of Exists = codes "The database could not be created, the file already exists."
reason_of Absent = codes "Database does not exist."
reason_of TooMany = codes "too many databases"
reason_of BadHead = codes "bad head"
reason_of HeadTooLong = codes "head too long"
reason_of BodyTooLong = codes "body too long"
reason_of Version = codes "HTTP/1.1 only"
reason_of Coding = codes "no transfer coding"
reason_of LengthMissing = codes "no Content-Length"
reason_of Missing = codes "missing"
reason_of DocDeleted = codes "deleted"
reason_of MethodNotAllowed = codes "method not allowed"

-- the refusal of a document that cannot be read
abbrev pub of_doc_fault : DocFault → Refusal
of_doc_fault doc.NoMemory = NoMemory
of_doc_fault doc.NotJson = NotJson
of_doc_fault doc.NotObject = NotObject
of_doc_fault doc.BadNumber = BadNumber
of_doc_fault doc.BadId = BadId
of_doc_fault doc.BadRev = BadRev
of_doc_fault doc.BadRevisions = BadRevisions
of_doc_fault doc.BadMember = BadMember
of_doc_fault doc.TooLong = TooLong

-- the refusal of a document that cannot be stored
abbrev pub of_fault : Fault → Refusal
of_fault stored.Deleted = Deleted
of_fault stored.Contradicts = Contradicts
of_fault stored.Conflict = Conflict
of_fault stored.GenerationLimit = GenerationLimit
of_fault stored.SequenceFull = SequenceFull
