use Rattle.std.proofs.Common.{◌≡◌, is_some}
use Rattle.serde_json.specs.View.{members_view}
use Rattle.hub_document.specs.Asking.{asked_of}
use Rattle.hub_document.proofs.asked.list_revs.Given as goal

abbrev pub invariant-loop-member : goal.invariant-loop-member
invariant-loop-member l =
    is_some (asked_of (members_view l.members.entries)) ≡ is_some (asked_of (members_view l.member-iterator))
