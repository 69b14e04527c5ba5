use Rattle.std.proofs.Common.{◌≡◌, ◌++◌, drop, codes, false}
use Rattle.serde_json.specs.View.{items_view}
use Rattle.hub_replies.specs.Bulk.{reply_texts}
use Rattle.hub_replies.proofs.ListLemmas.{listed}
use Rattle.hub_replies.proofs.batch.batch_body.Given as goal

abbrev pub invariant-loop-element : goal.invariant-loop-element
invariant-loop-element l =
    codes "[" ++ listed false (reply_texts (items_view l.elements) l.replies)
    ≡ l.text.items ++ listed l.later (reply_texts (items_view (drop l.element-index l.elements)) l.left)
