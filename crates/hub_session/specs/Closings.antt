-- The closings after which a client may still send and read (RFC 9112, section 9.6).
use Rattle.std.specs.Prelude.{◌≡◌, ◌⊎◌}
use Rattle.hub_http.specs.declared.fault.HttpFault.{HttpFault}
use Rattle.hub_session.specs.declared.closing.Closing.{Closing}
use Rattle.hub_session.specs.declared.closing.Closing.TheVariants.{Requested, Fault, Cut}

-- The server ended the connection, and the client may still send and read: the client asked for the end, its
-- request was refused, or its stream was cut. A socket that is closed with unread bytes is reset, and the
-- last answer may be lost with it (RFC 9112, section 9.6). A client that ended between two requests sends no
-- more, and a client that can't be written to reads no more.
abbrev pub IsEndedHere : Closing → Type 0
IsEndedHere closing =
    (closing ≡ Requested) ⊎ (closing ≡ Cut) ⊎ ((fault : HttpFault) × (closing ≡ Fault fault))
