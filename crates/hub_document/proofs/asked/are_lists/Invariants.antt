use Rattle.std.proofs.Common.{◌≡◌}
use Rattle.serde_json.specs.View.{members_view}
use Rattle.hub_document.specs.Asking.{are_lists}
use Rattle.hub_document.proofs.asked.are_lists.Given as goal

abbrev pub invariant-loop-member : goal.invariant-loop-member
invariant-loop-member l =
    are_lists (members_view l.members.entries) ≡ are_lists (members_view l.member-iterator)
