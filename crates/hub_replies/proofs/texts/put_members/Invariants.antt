use Rattle.std.proofs.Common.{◌≡◌, ◌++◌, drop, map, false}
use Rattle.hub_replies.proofs.ListLemmas.{listed}
use Rattle.hub_replies.proofs.texts.put_members.Given as goal

abbrev pub invariant-loop-member : goal.invariant-loop-member
invariant-loop-member g l =
    l.initial.out.items ++ listed false (map g.M.Member.text l.members)
    ≡ l.out.items ++ listed l.later (map g.M.Member.text (drop l.member-index l.members))
