-- The phrases of the hub's statuses (RFC 9110, section 15; for 431 RFC 6585, section 5). The phrase of 413 is
-- the older one, of RFC 7231.
use Rattle.std.specs.Prelude.{ℕ, List, [], codes, if◌then◌else◌, ◌==◌}

-- the phrase of a status; another number has the empty text
abbrev pub reason_phrase : ℕ → List ℕ
reason_phrase n =
    if n == 200 then codes "OK" else (
    if n == 201 then codes "Created" else (
    if n == 400 then codes "Bad Request" else (
    if n == 404 then codes "Not Found" else (
    if n == 405 then codes "Method Not Allowed" else (
    if n == 409 then codes "Conflict" else (
    if n == 411 then codes "Length Required" else (
    if n == 412 then codes "Precondition Failed" else (
    if n == 413 then codes "Payload Too Large" else (
    if n == 431 then codes "Request Header Fields Too Large" else (
    if n == 501 then codes "Not Implemented" else (
    if n == 503 then codes "Service Unavailable" else (
    if n == 505 then codes "HTTP Version Not Supported" else []))))))))))))
