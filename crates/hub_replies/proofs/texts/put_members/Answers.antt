use Rattle.std.proofs.Common.{map, length, ◌≤◌, refl, arith}
use Rattle.hub_replies.proofs.ListLemmas.{list_written}
use Rattle.hub_replies.proofs.texts.put_members.Goals as goal

pub returns : goal.returns
returns g c =
    let texts = map g.M.Member.text in
    let over : length c.args.members.now ≤ c.loop-member.member-index =
    omega (arith, c.loop-member-test.false) in
    list_written texts (texts c.args.members.now) c.args.members.now c.loop-member.member-index
    c.loop-member.later _ c.loop-member.out.items refl c.loop-member.invariant over
