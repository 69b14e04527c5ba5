use Rattle.std.proofs.Common.{◌≡◌, ◌++◌, option_map}
use Rattle.serde_json.specs.View.{members_view}
use Rattle.hub_document.specs.Asking.{asked_of}
use Rattle.hub_document.proofs.asked.asked_of.Given as goal

abbrev pub invariant-loop-key : goal.invariant-loop-key
invariant-loop-key l =
    asked_of (members_view l.members.entries)
    ≡ option_map (λ rest. l.asked.items ++ rest) (asked_of (members_view l.key-iterator))
