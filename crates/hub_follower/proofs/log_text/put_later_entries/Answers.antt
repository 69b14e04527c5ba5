use Rattle.std.proofs.Common.{◌≡◌, ◌∙◌, ◌++◌, ◌∷◌, ◌+◌, ℕ, List, ap, sym, drop, codes, append_assoc}
use Rattle.std.proofs.lemmas.List.{drop_more}
use Rattle.hub_follow_model.specs.ReplicationLog.{HistoryEntry}
use Rattle.hub_follower.specs.LogText.{entry_text, later_entries_text}
use Rattle.hub_follower.proofs.log_text.put_later_entries.Goals as goal

pub loop-entry-preserved : goal.loop-entry-preserved
loop-entry-preserved c =
    let at = c.loop-entry.entry-index in
    let entries = c.args.entries.now in
    let entry : HistoryEntry = c.entry-item.result in
    let rest : List ℕ = later_entries_text (drop (at + 1) entries) in
    let o = c.loop-entry.out.items in
    let comma : List ℕ = codes "," in
    let written : c.put_entry.new.out.items ++ rest ≡ o ++ (comma ++ (entry_text entry ++ rest)) =
    ap (λ z. z ++ rest)
    (c.in_ok-put_entry.ensures ∙ ap (λ z. z ++ entry_text entry) c.in_ok-extend_from_slice.ensures.items)
    ∙ (append_assoc (o ++ comma) (entry_text entry) rest ∙ append_assoc o comma (entry_text entry ++ rest)) in
    let here : drop at entries ≡ entry ∷ drop (at + 1) entries =
    drop_more entries at entry c.loop-entry-test.true
    ∙ ap (λ (z : HistoryEntry). z ∷ drop (at + 1) entries) (sym c.entry-item.is) in
    written ∙ (ap (λ z. o ++ later_entries_text z) (sym here) ∙ c.loop-entry.invariant)
