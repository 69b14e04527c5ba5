use Rattle.std.proofs.Common.{rules}
use Rattle.hub_document.proofs.AppendLemmas.{appended, front-front}
use Rattle.hub_http.proofs.ChangeLemmas.{no_revisions, revisions_written}
use Rattle.hub_http.proofs.change_text.put_revisions.Goals as goal

pub returns-in_default : goal.returns-in_default
returns-in_default c =
    appended _ _ _ (no_revisions c.args.out.now.items c.args.revs.now c.in_default.ensures.cases)

pub returns-in_err-put_revision-2 : goal.returns-in_err-put_revision-2
returns-in_err-put_revision-2 c = record {
  ok = search rules;
  front = front-front c.args.out.now.items _ _ _ c.in_ok-put_revision.ensures.ok
      (front-front _ _ _ _ c.loop-rev.invariant
      (front-front _ _ _ _ c.in_ok-extend_from_slice.ensures.items c.in_err-put_revision-2.ensures.front));
}

pub returns : goal.returns
returns c =
    appended _ _ _
    (revisions_written c.args.out.now.items _ _ c.in-Some.first.now c.in-Some.rest.now _ c.loop-rev.rev-index
    c.in-Some.ensures.cases.0
    c.in_ok-put_revision.ensures.ok c.loop-rev.invariant c.loop-rev-test.false)
