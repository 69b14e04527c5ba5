use Rattle.std.proofs.Common.{◌++◌, ◌∙◌, ap}
use Rattle.std.specs.Prelude.{codes, decimal}
use Rattle.json.specs.Print.{quoted}
use Rattle.hub_replies.specs.Bodies.{local_edit_body}
use Rattle.hub_replies.proofs.EditLemmas.{whole_edit}
use Rattle.hub_replies.proofs.edits.local_edit_body.Goals as goal

pub returns : goal.returns
unfolding local_edit_body
returns c = λ id begins.
    c.in_ok-extend_from_slice.ensures.items
    ∙ ap (λ l. l ++ codes "}\n")
    (c.in_ok-put_count.ensures ∙ ap (λ l. l ++ quoted (codes "0-" ++ decimal c.args.count)) begins)
    ∙ whole_edit id (codes "0-" ++ decimal c.args.count)
