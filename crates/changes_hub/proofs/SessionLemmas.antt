-- A session whose written bytes stay as they are is still the same session.
use Rattle.std.proofs.Common.{◌≡◌, ℕ, List, ◌∙◌, Bool, true, false, take}
use Rattle.std.specs.Prelude.{Option, Some, None, IfSome}
use Rattle.std.specs.Io.KnownBytes.{Appends, Keeps}
use Rattle.hub_http.specs.Counts.{Sends}
use Rattle.hub_service.specs.Laws.{connection_rules}
use Rattle.hub_service.specs.declared.sent.Sent.{Sent}
use Rattle.hub_session.specs.Rules.{Moment, Rules, moment}
use Rattle.hub_session.specs.Sessions.{IsSession, is_broken}
use Rattle.hub_session.specs.declared.closing.Closing.{Closing}
use Rattle.changes_hub.specs.Statuses.{EndsWith, status_of}

-- bytes that grew and then stayed have grown
appends_kept : (old mid new : Option (List ℕ)) (bytes : List ℕ) → Appends old mid bytes → Keeps mid new
    → Appends old new bytes
appends_kept None mid new bytes grew stays = tt
appends_kept (Some xs) None new bytes grew stays = absurd grew
appends_kept (Some xs) (Some ys) None bytes grew stays = absurd stays
appends_kept (Some xs) (Some ys) (Some zs) bytes grew stays = stays ∙ grew

-- bytes that grew by a text, or by a front of it where the writing broke, and then stayed, have grown by
-- that
sends_kept : (broken : Bool) (old mid new : Option (List ℕ)) (bytes : List ℕ) → Sends broken old mid bytes
    → Keeps mid new → Sends broken old new bytes
sends_kept false old mid new bytes sent stays = appends_kept old mid new bytes sent stays
sends_kept true old mid new bytes (n, sent) stays = (n, appends_kept old mid new (take n bytes) sent stays)

-- a session is still a session after its written bytes were flushed
session_kept : {S : Type 0} (rules : Rules S) (bytes : List ℕ) (closing : Closing)
    (before : Moment S) (last : S)
    (mid new : Option (List ℕ)) → IsSession rules bytes closing before (moment last mid) → Keeps mid new
    → IsSession rules bytes closing before (moment last new)
session_kept rules bytes closing before last mid new is stays = record {
  exchanges = is.exchanges;
  last = is.last;
  mid = is.mid;
  goes = is.goes;
  whole = is.whole;
  written = sends_kept (is_broken closing) is.mid mid new is.last is.written stays;
}

-- a session over known bytes ends with the status of its closing, also once its answers are flushed
pub ends_with : (bytes : Option (List ℕ)) (closing : Closing) (status : ℕ)
    (before mid after : Option (List ℕ))
    → IfSome bytes (λ bytes.
    (last : Option Sent) × IsSession connection_rules bytes closing (moment None before) (moment last mid))
    → Keeps mid after → status ≡ status_of closing
    → IfSome bytes (λ bytes. EndsWith bytes status before after)
ends_with None closing status before mid after is stays same = tt
ends_with (Some bytes) closing status before mid after (last, is) stays same = (
  closing,
  last,
  session_kept connection_rules bytes closing (moment None before) last mid after is stays,
  same,
)
