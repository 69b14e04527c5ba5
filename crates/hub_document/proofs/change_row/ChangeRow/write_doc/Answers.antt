use Rattle.hub_document.proofs.AppendLemmas.{appended, refused, front_by}
use Rattle.std.proofs.Common.{◌≡◌, ℕ, List, [], ◌++◌, sym, ap, ◌∙◌, append-nil}
use Rattle.hub_document.proofs.PartLemmas.{doc_written}
use Rattle.hub_document.proofs.WriteLemmas.{three_parts}
use Rattle.hub_document.proofs.change_row.ChangeRow.write_doc.Goals as goal

-- the parts before the document's own members, where there is no history
front_written : (held a b new h r d : List ℕ) → a ≡ held ++ h → b ≡ a ++ r → new ≡ b ++ d
    → new ≡ held ++ (h ++ (r ++ (d ++ [])))
front_written held a b new h r d head rev deleted =
    deleted
    ∙ ap (λ l. l ++ d) (rev ∙ ap (λ l. l ++ r) head)
    ∙ three_parts held h r d
    ∙ ap (λ l. held ++ (h ++ (r ++ l))) (sym (append-nil d))

pub returns : goal.returns
returns c =
    appended _ _ _
    (rw (← c.self.view_is)
    (doc_written c.args.out.now.items _ _ _
    (front_written c.args.out.now.items _ _ _ _ _ _ (rw c.as_str.ensures.value at c.in_ok-put_head.ensures.ok)
    c.in_ok-put_winner.ensures.ok c.in_ok-put_deleted.ensures.ok)
    c.in_ok-put_rest.ensures.ok))

pub returns-in_err-put_head : goal.returns-in_err-put_head
returns-in_err-put_head c =
    refused _ _ _ _ c.from_residual.ensures.0 c.in_err-put_head.ensures.front

pub returns-in_err-put_winner : goal.returns-in_err-put_winner
returns-in_err-put_winner c =
    refused _ _ _ _ c.from_residual-in_err-put_winner.ensures.0 (front_by _ _ _ c.in_ok-put_head.ensures.front c.in_err-put_winner.ensures.front)

pub returns-in_err-put_deleted : goal.returns-in_err-put_deleted
returns-in_err-put_deleted c =
    refused _ _ _ _ c.from_residual-in_err-put_deleted.ensures.0 (front_by _ _ _ (front_by _ _ _ c.in_ok-put_head.ensures.front c.in_ok-put_winner.ensures.front) c.in_err-put_deleted.ensures.front)

pub returns-in_err-put_rest : goal.returns-in_err-put_rest
returns-in_err-put_rest c =
    refused _ _ _ _ c.from_residual-in_err-put_rest.ensures.0 (front_by _ _ _ (front_by _ _ _ (front_by _ _ _ c.in_ok-put_head.ensures.front c.in_ok-put_winner.ensures.front) c.in_ok-put_deleted.ensures.front) c.in_err-put_rest.ensures.front)
