use Rattle.hub_document.proofs.AppendLemmas.{front_by}
use Rattle.hub_http.proofs.ChangeLemmas.{plain_row, short_row, ended_by}
use Rattle.hub_http.specs.ChangeTexts.{change_row_text}
use Rattle.hub_http.proofs.change_text.PlainRow.put.Goals as goal

pub returns-then-not-row : goal.returns-then-not-row
unfolding change_row_text
returns-then-not-row c =
    ended_by _ _ _ _ _ _ c.in_ok-put_front.ensures.front
    (rw c.in_ok-put_front.ensures.ok
    (short_row c.args.out.now.items c.args.self.now.life _ c.args.self.now.rev.now c.args.self.now.plain
    c.args.self.now.only))
    c.put_short.ensures

pub returns : goal.returns
unfolding change_row_text
returns c =
    ended_by _ _ _ _ _ _
    (front_by _ _ _ c.in_ok-put_front.ensures.front c.in_ok-put_revision.ensures.front)
    (rw (c.in_ok-put_revision.ensures.ok, c.in_ok-put_front.ensures.ok)
    (plain_row c.args.out.now.items c.args.self.now.life _ c.args.self.now.rev.now c.args.self.now.plain
    c.args.self.now.only))
    c.put_end.ensures
