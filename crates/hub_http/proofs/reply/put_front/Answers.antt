use Rattle.std.proofs.Common.{◌∙◌, refl, sym, append_assoc}
use Rattle.std.specs.Fmt.{digits}
use Rattle.hub_http.specs.Statuses.{reason_phrase}
use Rattle.hub_http.specs.Texts.{status_line, type_line}
use Rattle.hub_http.proofs.reply.put_front.Goals as goal

pub returns-then-as_u16-eq200 : goal.returns-then-as_u16-eq200
unfolding status_line type_line digits
returns-then-as_u16-eq200 c =
    rw (c.in_ok-extend_from_slice.ensures.items, sym c.as_u16.ensures ∙ c.if-as_u16-eq200.true) refl

pub returns-then-as_u16-eq201 : goal.returns-then-as_u16-eq201
unfolding status_line type_line digits
returns-then-as_u16-eq201 c =
    rw (c.in_ok-extend_from_slice-2.ensures.items, sym c.as_u16-2.ensures ∙ c.if-as_u16-eq201.true) refl

pub returns : goal.returns
unfolding type_line
returns c =
    rw (c.in_ok-extend_from_slice-3.ensures.items, c.in_ok-put_status_line.ensures)
    (append_assoc c.args.out.now.items (status_line c.args.status (reason_phrase c.args.status)) _)
