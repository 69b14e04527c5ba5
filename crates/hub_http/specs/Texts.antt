-- The texts of replies and chunks (RFC 9112, sections 4, 6 and 7.1; own for the choice of fields).
use Rattle.std.specs.Prelude.{ℕ, List, [], ◌++◌, length, Bool, false, if◌then◌else◌}
use Rattle.std.specs.Prelude.{codes, decimal}
use Rattle.std.specs.Fmt.{digits}
use Rattle.hub_http.specs.declared.refusal.Refusal.{Refusal}
use Rattle.hub_http.specs.declared.reply.Reply.{Reply}
use Rattle.hub_http.specs.declared.reply.Reply.TheVariants.{Done, Refused}
use Rattle.hub_http.specs.Refusals.{status_of, error_of, reason_of}
use Rattle.hub_http.specs.Statuses.{reason_phrase}

-- the first line of a reply
unfoldable pub status_line : ℕ → List ℕ → List ℕ
status_line status phrase = codes "HTTP/1.1 " ++ (decimal status ++ (codes " " ++ (phrase ++ codes "\r\n")))

-- the line with the length of the body
unfoldable pub length_line : ℕ → List ℕ
length_line len = codes "Content-Length: " ++ (decimal len ++ codes "\r\n")

-- the line of a reply that is sent in chunks
unfoldable pub chunked_line : List ℕ
chunked_line = codes "Transfer-Encoding: chunked\r\n"

-- the line of a reply after which the connection closes
unfoldable pub close_line : Bool → List ℕ
close_line close = if close then codes "Connection: close\r\n" else []

-- the line with the type of the body
unfoldable pub type_line : List ℕ
type_line = codes "Content-Type: application/json\r\n"

-- the head of a reply, where `framing` is the line that tells the end of the body
unfoldable pub head_text : ℕ → List ℕ → Bool → List ℕ
head_text status framing close =
    status_line status (reason_phrase status)
    ++ (type_line ++ (framing ++ (close_line close ++ codes "\r\n")))

-- the head of a reply, before the number of the body's length
abbrev pub head_front : ℕ → List ℕ
head_front status = status_line status (reason_phrase status) ++ (type_line ++ codes "Content-Length: ")

-- the rest of the head, behind that number
abbrev pub head_end : Bool → List ℕ
head_end close = codes "\r\n" ++ (close_line close ++ codes "\r\n")

-- the body of a refusal
unfoldable pub refusal_body : Refusal → List ℕ
refusal_body refusal =
    codes "{\"error\":\""
    ++ (error_of refusal ++ (codes "\",\"reason\":\"" ++ (reason_of refusal ++ codes "\"}\n")))

-- a head and a body, and for a HEAD the head alone
abbrev pub answer_text : ℕ → List ℕ → Bool → Bool → List ℕ
answer_text status body head_only close =
    head_text status (length_line (length body)) close ++ (if head_only then [] else body)

-- the text of a reply
abbrev pub reply_text : Reply → Bool → Bool → List ℕ
reply_text (Done status body) head_only close = answer_text status body.items head_only close
reply_text (Refused refusal) head_only close =
    answer_text (status_of refusal) (refusal_body refusal) head_only close

-- one chunk
unfoldable pub chunk_text : List ℕ → List ℕ
chunk_text bytes = digits 16 false (length bytes) ++ codes "\r\n" ++ bytes ++ codes "\r\n"
