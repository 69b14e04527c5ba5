-- The status that the program ends with (own; POSIX, exit: 0 is success).
use Rattle.std.specs.Prelude.{◌≡◌, ℕ, List, Option, None}
use Rattle.hub_service.specs.Laws.{connection_rules}
use Rattle.hub_service.specs.declared.sent.Sent.{Sent}
use Rattle.hub_session.specs.Rules.{moment}
use Rattle.hub_session.specs.Sessions.{IsSession}
use Rattle.hub_session.specs.declared.closing.Closing.{Closing}
use Rattle.hub_session.specs.declared.closing.Closing.TheVariants.{Finished, Requested, Fault, Cut, Broken}
use Rattle.hub_session.specs.declared.closing.Closing.TheVariants.{Exhausted}

-- The status of a session that closed for this reason. It is 0 where the client asked for the end: the input
-- ended between two requests, or the last request asked to close. It is 1 where the session closed for
-- another reason, as at a request that is no HTTP.
abbrev pub status_of : Closing → ℕ
status_of Finished = 0
status_of Requested = 0
status_of (Fault fault) = 1
status_of Cut = 1
status_of Broken = 1
status_of Exhausted = 1

-- A hub without databases answered these bytes. The written bytes went from `before` to `after`, and the
-- session closed for a reason that has this status.
abbrev pub EndsWith : List ℕ → ℕ → (before after : Option (List ℕ)) → Type 0
EndsWith bytes status before after = (closing : Closing) × (last : Option Sent)
    × IsSession connection_rules bytes closing (moment None before) (moment last after)
    × (status ≡ status_of closing)
