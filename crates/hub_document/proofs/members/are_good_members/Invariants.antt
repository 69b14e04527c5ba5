use Rattle.std.proofs.Common.{◌≡◌}
use Rattle.serde_json.specs.View.{members_view}
use Rattle.hub_document.specs.SpecialMembers.{are_good_members}
use Rattle.hub_document.proofs.members.are_good_members.Given as goal

abbrev pub invariant-loop-key : goal.invariant-loop-key
invariant-loop-key l =
    are_good_members (members_view l.members.entries) ≡ are_good_members (members_view l.key-iterator)
