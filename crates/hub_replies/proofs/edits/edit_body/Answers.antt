use Rattle.std.proofs.Common.{◌++◌, ◌∙◌, ap}
use Rattle.std.specs.Prelude.{codes}
use Rattle.json.specs.Print.{quoted}
use Rattle.hub_model.specs.Revision.{text_of}
use Rattle.hub_replies.specs.Bodies.{edit_body}
use Rattle.hub_replies.proofs.EditLemmas.{whole_edit}
use Rattle.hub_replies.proofs.edits.edit_body.Goals as goal

pub returns : goal.returns
unfolding edit_body
returns c = λ id begins.
    c.in_ok-extend_from_slice.ensures.items
    ∙ ap (λ l. l ++ codes "}\n")
    (c.in_ok-print_quoted.ensures.ok ∙ ap (λ l. l ++ quoted (text_of c.args.rev.now)) begins)
    ∙ whole_edit id (text_of c.args.rev.now)
