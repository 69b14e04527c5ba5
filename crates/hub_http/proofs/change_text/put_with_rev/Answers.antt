use Rattle.std.proofs.Common.{◌∙◌, ap, take, arith}
use Rattle.hub_document.proofs.AppendLemmas.{appended, lent_back}
use Rattle.json.specs.Print.{quoted}
use Rattle.hub_model.specs.Revision.{text_of}
use Rattle.hub_http.proofs.ChangeLemmas.{over_part, part_at}
use Rattle.hub_http.proofs.change_text.put_with_rev.Goals as goal

pub write_rev-requires-clause-form : goal.write_rev-requires-clause-form
write_rev-requires-clause-form c =
    ap (take 36)
    (part_at c.args.out.now.items c.args.text.now _ c.len-start.result
    (c.as_mut_slice.ensures.value ∙ c.in_ok-extend_from_slice.ensures.items)
    (omega (arith, c.len-start.ensures)))
    ∙ c.requires.form

pub returns-clause-text : goal.returns-clause-text
returns-clause-text c =
    appended _ _ _
    (lent_back _ c.write_rev.new.bytes _ (c.write_rev.ensures.len ∙ c.as_mut_slice.ensures.len)
    ∙ over_part c.args.out.now.items c.args.text.now _ (quoted (text_of c.args.rev.now)) c.write_rev.new.bytes c.len-start.result
    (c.as_mut_slice.ensures.value ∙ c.in_ok-extend_from_slice.ensures.items)
    (omega (arith, c.len-start.ensures)) c.write_rev.ensures.bytes)
