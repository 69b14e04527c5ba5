use Rattle.std.specs.Prelude.{◌++◌, codes, decimal}
use Rattle.hub_http.specs.Statuses.{reason_phrase}
use Rattle.hub_http.specs.Texts.{head_text, status_line, type_line, length_line, close_line}
use Rattle.hub_http.proofs.ReplyLemmas.{head_parts}
use Rattle.hub_http.proofs.reply.put_head.Goals as goal

pub returns : goal.returns
unfolding head_text length_line
returns c =
    rw (
      c.in_ok-extend_from_slice-2.ensures.items,
      c.as_bytes-2.ensures.value,
      c.head_end.ensures,
      c.in_ok-extend_from_slice.ensures.items,
      c.as_bytes.ensures.value,
      c.format.ensures.text,
      c.in_ok-put_front.ensures,
    )
    (head_parts c.args.out.now.items (status_line c.args.status (reason_phrase c.args.status)) type_line
    (codes "Content-Length: ") (decimal c.args.len) (codes "\r\n") (close_line c.args.close ++ codes "\r\n"))
