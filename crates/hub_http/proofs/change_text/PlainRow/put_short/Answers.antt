use Rattle.hub_document.specs.Appends.{Appends}
use Rattle.hub_document.proofs.AppendLemmas.{appended, refused, front_by, front_same}
use Rattle.std.proofs.Common.{refl, sym, ap, subst, ◌∙◌, ◌++◌, ◌∷◌, [], append_assoc}
use Rattle.json.specs.Print.{quoted}
use Rattle.hub_model.specs.Revision.{text_of}
use Rattle.hub_document.specs.DocText.{doc_text, row_doc}
use Rattle.hub_http.proofs.ChangeLemmas.{short_ended, before_doc, short_doc}
use Rattle.hub_http.proofs.change_text.PlainRow.put_short.Goals as goal

pub returns-in_default : goal.returns-in_default
returns-in_default c =
    let rev = quoted (text_of c.args.self.now.rev.now) in
    subst (λ t. Appends t c.put_with_rev.result c.args.out.now.items c.put_with_rev.new.out.items)
    (short_ended c.args.self.now.row.now rev rev c.requires.live
    (ap (λ r. r.doc) (sym c.row.view_is) ∙ c.in_default.is) refl)
    c.put_with_rev.ensures.text

pub returns-in_err-write_plain_doc : goal.returns-in_err-write_plain_doc
returns-in_err-write_plain_doc c =
    refused _ _ _ _ c.from_residual-in_err-write_plain_doc.ensures.0
    (front_by _ _ _ c.in_ok-put_with_rev.ensures.text.front
    (c.in_err-write_plain_doc.ensures [] refl).front)

pub returns-in_err-extend_from_slice : goal.returns-in_err-extend_from_slice
returns-in_err-extend_from_slice c =
    refused _ _ _ _ c.from_residual-in_err-extend_from_slice.ensures.0
    (front_by _ _ _
    (front_by _ _ _ c.in_ok-put_with_rev.ensures.text.front
    (c.in_ok-write_plain_doc.ensures [] refl).front)
    (front_same _ _ c.in_err-extend_from_slice.ensures.items))

pub returns : goal.returns
returns c =
    let rev = quoted (text_of c.args.self.now.rev.now) in
    let row = c.args.self.now.row.now in
    appended _ _ _
    (c.in_ok-extend_from_slice.ensures.items
    ∙ ap (λ l. l ++ 125 ∷ [])
    ((c.in_ok-write_plain_doc.ensures [] refl).ok
    ∙ ap (λ l. l ++ doc_text (row_doc row c.in-Some.body)) c.in_ok-put_with_rev.ensures.text.ok
    ∙ append_assoc c.args.out.now.items (before_doc rev) (doc_text (row_doc row c.in-Some.body)))
    ∙ short_doc c.args.out.now.items row rev rev c.in-Some.body c.requires.live
    (ap (λ r. r.doc) (sym c.row.view_is) ∙ c.in-Some.is) refl)
