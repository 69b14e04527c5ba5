use Rattle.std.proofs.Common.{◌≡◌, drop, map}
use Rattle.std.specs.List.{list_any}
use Rattle.std.specs.Prelude.{string_bytes}
use Rattle.std.specs.Str.{bytes_eq}
use Rattle.hub_follower.proofs.world.is_used.Given as goal

-- no session so far has the id, so the later sessions decide
abbrev pub invariant-loop-used : goal.invariant-loop-used
invariant-loop-used l =
    list_any (bytes_eq l.session_id) (map string_bytes (drop l.used-index l.sessions))
    ≡ list_any (bytes_eq l.session_id) (map string_bytes l.sessions)
