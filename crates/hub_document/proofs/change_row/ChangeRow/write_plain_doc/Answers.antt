use Rattle.hub_document.proofs.AppendLemmas.{appended, refused, front_by}
use Rattle.std.proofs.Common.{◌≡◌, ℕ, List, [], ◌++◌, ◌∙◌, append-nil, append_assoc}
use Rattle.hub_document.proofs.PartLemmas.{doc_written, rev_of_text}
use Rattle.hub_document.proofs.change_row.ChangeRow.write_plain_doc.Goals as goal

-- the parts before the document's own members, where there is no history, behind a text of the caller's
front_written : (held before b new h r s d : List ℕ) → b ≡ held ++ (before ++ (h ++ s)) → r ≡ s
    → new ≡ b ++ d → new ≡ (held ++ before) ++ (h ++ (r ++ (d ++ [])))
front_written held before b new h r s d head same deleted =
    rw (deleted, head, same, append-nil d) (simp append_assoc)

pub returns : goal.returns
returns c before is =
    appended _ _ _
    (rw (← c.self.view_is)
    (doc_written (c.args.out.now.items ++ before) _ _ _
    (front_written c.args.out.now.items before _ _ _ _ _ _
    (rw c.as_str.ensures.value at (c.in_ok-put_plain_head.ensures before is).ok)
    (rev_of_text _ _ (rw (← c.self.view_is) at c.requires.rev))
    c.in_ok-put_deleted.ensures.ok)
    c.in_ok-put_rest.ensures.ok
    ∙ append_assoc c.args.out.now.items before _))

pub returns-in_err-put_plain_head : goal.returns-in_err-put_plain_head
returns-in_err-put_plain_head c before is =
    refused _ _ _ _ c.from_residual.ensures.0 (c.in_err-put_plain_head.ensures before is).front

pub returns-in_err-put_deleted : goal.returns-in_err-put_deleted
returns-in_err-put_deleted c before is =
    refused _ _ _ _ c.from_residual-in_err-put_deleted.ensures.0 (front_by _ _ _ (c.in_ok-put_plain_head.ensures before is).front c.in_err-put_deleted.ensures.front)

pub returns-in_err-put_rest : goal.returns-in_err-put_rest
returns-in_err-put_rest c before is =
    refused _ _ _ _ c.from_residual-in_err-put_rest.ensures.0 (front_by _ _ _ (front_by _ _ _ (c.in_ok-put_plain_head.ensures before is).front c.in_ok-put_deleted.ensures.front) c.in_err-put_rest.ensures.front)
