use Rattle.std.proofs.Common.{◌+◌, drop, length, ◌≤◌, ◌++◌, codes, ap, refl, sym, ◌∙◌, append_assoc, arith}
use Rattle.std.specs.List.{join_with_byte}
use Rattle.serde_json.specs.View.{items_view}
use Rattle.hub_replies.specs.Bulk.{reply_texts, batch_body}
use Rattle.hub_replies.specs.Bodies.{list_text}
use Rattle.hub_replies.proofs.ListLemmas.{listed, list_written, none_replied}
use Rattle.hub_replies.proofs.batch.batch_body.Goals as goal

pub loop-element-preserved-in_default : goal.loop-element-preserved-in_default
loop-element-preserved-in_default c =
    let here =
    none_replied (items_view (drop c.loop-element.element-index c.args.elements.now)) c.loop-element.left.now
    c.in_default.len_below in
    let next =
    none_replied (items_view (drop (c.loop-element.element-index + 1) c.args.elements.now))
    c.loop-element.left.now c.in_default.len_below in
    c.loop-element.invariant
    ∙ ap (λ texts. c.loop-element.text.items ++ listed c.loop-element.later texts) (here ∙ sym next)

pub returns : goal.returns
unfolding batch_body list_text
returns c =
    let texts = reply_texts (items_view c.args.elements.now) c.args.replies.now in
    let over : length c.args.elements.now ≤ c.loop-element.element-index =
    omega (arith, c.loop-element-test.false) in
    c.in_ok-extend_from_slice.ensures.items
    ∙ ap (λ l. l ++ codes "]\n")
    (list_written (λ vs. reply_texts (items_view vs) c.loop-element.left.now) texts c.args.elements.now
    c.loop-element.element-index c.loop-element.later (codes "[") c.loop-element.text.items refl
    c.loop-element.invariant over)
    ∙ sym (append_assoc (codes "[" ++ join_with_byte 44 texts) (codes "]") (codes "\n"))
