-- RFC 9112 (heads, Content-Length) and RFC 9110, section 7.6.1 (Connection): the meaning of a request's head.
use Rattle.std.specs.Prelude.{◌≡◌, ℕ, ◌<◌, ◌≤◌, ◌⊎◌, Bool, false, ◌&&◌, ◌==◌, List, [], ◌∷◌, ◌++◌, length}
use Rattle.std.specs.Prelude.{map, Option, Some, None, Result, Ok, Err, if◌then◌else◌, nat_lt, nat_le, codes}
use Rattle.std.specs.Prelude.{bytes_eq}
use Rattle.std.specs.List.{list_all, list_any, slice_split}
use Rattle.std.specs.Char.{is_ascii_digit, to_ascii_lowercase}
use Rattle.std.specs.Str.Parse.{digits_value}
use Rattle.httparse.specs.Grammar.{RequestHead, print_request, ReadsRequest, HasNoRequest, MayBecomeRequest}
use Rattle.httparse.specs.Grammar.{NeverHasRequest, trim_ows}
use Rattle.httparse.specs.Spans.{name_and_value, RequestExceeds}
use Rattle.hub_http.specs.declared.fault.HttpFault.{HttpFault}
use Rattle.hub_http.specs.declared.fault.HttpFault.TheVariants.{NoMemory, BadHead, HeadTooLong, BodyTooLong}
use Rattle.hub_http.specs.declared.fault.HttpFault.TheVariants.{Version, Coding, Ended, IoFault}

-- the most bytes of a head
abbrev pub head_limit : ℕ
head_limit = 16384

-- the most fields of a head
abbrev pub field_limit : ℕ
field_limit = 64

-- the most bytes of a body
abbrev pub body_limit : ℕ
body_limit = 8388608

-- a field's name, and its value without the white space around it
abbrev pub Pair : Type 0
Pair = List ℕ × List ℕ

-- two words are the same but for the case of their letters
unfoldable pub same_word : List ℕ → List ℕ → Bool
same_word a b = bytes_eq (map to_ascii_lowercase a) (map to_ascii_lowercase b)

-- the field has this name, in any case
abbrev pub is_named : List ℕ → Pair → Bool
is_named name pair = same_word pair.0 name

-- a comma
abbrev pub comma : ℕ
comma = 44

-- The options that a Connection field lists: the parts between its commas, without the spaces and tabs around
-- each. The options of `keep-alive, Close` are keep-alive and Close.
abbrev pub options : List ℕ → List (List ℕ)
options value = map trim_ows (slice_split (λ b. b == comma) value)

-- `close`, in any case, is an option that the value lists
abbrev pub lists_close : List ℕ → Bool
lists_close value = list_any (λ o. same_word o (codes "close")) (options value)

-- the field asks to close the connection
abbrev pub asks_close : Pair → Bool
asks_close pair = is_named (codes "connection") pair && lists_close pair.1

-- the values of the fields of this name, in order
abbrev pub values_named : List ℕ → List Pair → List (List ℕ)
values_named name [] = []
values_named name (pair ∷ pairs) =
    if is_named name pair then pair.1 ∷ values_named name pairs else values_named name pairs

-- the text has decimal digits alone, and at least one
abbrev pub is_digits : List ℕ → Bool
is_digits v = nat_lt 0 (length v) && list_all is_ascii_digit v

-- The length that the values of Content-Length give. The values have to be one text of digits, and its number
-- within the limit. 3 and 3 give 3, and no value gives None. 3 and 03 are BadHead, as -1 is, and 8388609 is
-- BodyTooLong.
unfoldable pub length_of : List (List ℕ) → Result (Option ℕ) HttpFault
length_of [] = Ok None
length_of (v ∷ vs) =
    if is_digits v && list_all (λ w. bytes_eq w v) vs
    then (if nat_le (digits_value 10 v) body_limit then Ok (Some (digits_value 10 v)) else Err BodyTooLong)
    else Err BadHead

-- a slash
abbrev pub slash : ℕ
slash = 47

-- the target begins with a slash
abbrev pub is_target : List ℕ → Bool
is_target [] = false
is_target (b ∷ bs) = b == slash

-- the length of the body that the fields ask for, and BadHead where the target does not begin with a slash
abbrev pub length_asked : Bool → List Pair → Result (Option ℕ) HttpFault
length_asked target pairs =
    if target then length_of (values_named (codes "content-length") pairs) else Err BadHead

-- The length that a head asks for, or its first fault: the version, a transfer coding, the target or the
-- length. A version of 1.0 with a transfer coding has the fault Version.
unfoldable pub length_or_fault : ℕ → List ℕ → List Pair → Result (Option ℕ) HttpFault
length_or_fault minor target pairs =
    if minor == 1
    then (if list_any (is_named (codes "transfer-encoding")) pairs
    then Err Coding
    else length_asked (is_target target) pairs)
    else Err Version

-- the fields of a head as pairs
abbrev pub pairs_of : RequestHead → List Pair
pairs_of head = map name_and_value head.fields

-- the length that a head asks for, or its first fault
abbrev pub length_by : RequestHead → Result (Option ℕ) HttpFault
length_by head = length_or_fault head.minor head.target (pairs_of head)

-- the connection closes after the reply
abbrev pub close_by : RequestHead → Bool
close_by head = list_any asks_close (pairs_of head)

-- the bytes are this head, within the limits, and then rest
pub record Begins (bytes : List ℕ) (head : RequestHead) (rest : List ℕ) : Type 0 where
  pub reads : ReadsRequest bytes head rest
  pub len : length (print_request head) ≤ head_limit
  pub fields : length head.fields ≤ field_limit

-- the bytes begin with no head within the limits
abbrev pub HasNoHead : List ℕ → Type 0
HasNoHead bytes = (head : RequestHead) (rest : List ℕ) → ¬ (Begins bytes head rest)

-- No head ends in the bytes, and more bytes can end one. `GET / HT` goes on. `GET / XX` does not, and neither
-- does a whole head.
abbrev pub GoesOn : List ℕ → Type 0
GoesOn bytes = HasNoRequest bytes × MayBecomeRequest bytes

-- a front of the bytes goes on, and is as long as a head may be or longer
abbrev pub GoesOnTooLong : List ℕ → Type 0
GoesOnTooLong bytes =
    (front : List ℕ) × (rest : List ℕ) × (bytes ≡ front ++ rest) × (head_limit ≤ length front) × GoesOn front

-- the bytes begin with a head of too many bytes
abbrev pub BeginsLong : List ℕ → Type 0
BeginsLong bytes =
    (head : RequestHead) × (rest : List ℕ) × ReadsRequest bytes head rest
    × (head_limit < length (print_request head))

-- the bytes begin with a head past the limits
abbrev pub BeginsTooLong : List ℕ → Type 0
BeginsTooLong bytes = RequestExceeds field_limit bytes ⊎ (BeginsLong bytes ⊎ GoesOnTooLong bytes)

-- the bytes begin with no head within the limits, whatever follows
abbrev pub NeverHasHead : List ℕ → Type 0
NeverHasHead bytes = (more : List ℕ) → HasNoHead (bytes ++ more)

-- The bytes begin with a head that has this fault. A head whose Content-Length is x has BadHead, and one
-- whose Content-Length is 8388609 has BodyTooLong.
abbrev pub BeginsFaulty : List ℕ → HttpFault → Type 0
BeginsFaulty bytes fault =
    (head : RequestHead) × (rest : List ℕ) × Begins bytes head rest × (length_by head ≡ Err fault)

-- The table of head faults: for each fault the bytes that have it, whatever follows them. The last three
-- faults do not lie in the bytes: each way to read the bytes has its own rule for them.
abbrev pub HasHeadFault : List ℕ → HttpFault → Type 0
HasHeadFault bytes BadHead = NeverHasRequest bytes ⊎ BeginsFaulty bytes BadHead
HasHeadFault bytes HeadTooLong = NeverHasHead bytes × BeginsTooLong bytes
HasHeadFault bytes BodyTooLong = BeginsFaulty bytes BodyTooLong
HasHeadFault bytes Version = BeginsFaulty bytes Version
HasHeadFault bytes Coding = BeginsFaulty bytes Coding
HasHeadFault bytes NoMemory = ⊥
HasHeadFault bytes Ended = ⊥
HasHeadFault bytes IoFault = ⊥

-- some bytes, fewer than the most of a head, that go on
abbrev pub IsPartOfHead : List ℕ → Type 0
IsPartOfHead bytes = (0 < length bytes) × GoesOn bytes × (length bytes < head_limit)
