use Rattle.std.proofs.Common.{rules}
use Rattle.hub_document.proofs.AppendLemmas.{appended, refused, front-front, front_same}
use Rattle.hub_document.proofs.PartLemmas.{no_hashes, one_more_hash, hashes_written}
use Rattle.hub_document.proofs.text.put_hashes.Goals as goal

pub returns-in_default : goal.returns-in_default
returns-in_default c =
    appended _ _ _
    (no_hashes c.args.out.now.items c.args.revisions.now c.in_default.ensures.cases)

pub returns-in_err-print_hash-2 : goal.returns-in_err-print_hash-2
returns-in_err-print_hash-2 c = record {
  ok = search rules;
  front = front-front c.args.out.now.items _ _ _ c.in_ok-print_hash.ensures.ok
      (front-front _ _ _ _ c.loop-rev.invariant
      (front-front _ _ _ _ c.in_ok-push.ensures.items c.in_err-print_hash-2.ensures.front));
}

pub returns : goal.returns
returns c =
    appended _ _ _
    (hashes_written c.args.out.now.items _ _ c.in-Some.first.now c.in-Some.rest.now _ c.loop-rev.rev-index
    c.in-Some.ensures.cases.0
    c.in_ok-print_hash.ensures.ok c.loop-rev.invariant c.loop-rev-test.false)

pub returns-in_err-print_hash : goal.returns-in_err-print_hash
returns-in_err-print_hash c = refused _ _ _ _ c.from_residual.ensures.0 c.in_err-print_hash.ensures.front

pub returns-in_err-push : goal.returns-in_err-push
returns-in_err-push c =
    refused _ _ _ _ c.from_residual-in_err-push.ensures.0
    (front-front c.args.out.now.items _ _ _ c.in_ok-print_hash.ensures.ok
    (front-front _ _ _ _ c.loop-rev.invariant (front_same _ _ c.in_err-push.ensures.items)))

pub loop-rev-preserved : goal.loop-rev-preserved
loop-rev-preserved c =
    one_more_hash _ _ _ _ c.rev-item.result c.in-Some.rest.now c.loop-rev.rev-index c.loop-rev-test.true
    c.rev-item.is c.loop-rev.invariant c.in_ok-push.ensures.items c.in_ok-print_hash-2.ensures.ok
