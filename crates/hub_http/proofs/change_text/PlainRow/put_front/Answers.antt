use Rattle.hub_document.proofs.AppendLemmas.{appended}
use Rattle.hub_http.proofs.ChangeLemmas.{plain_parts}
use Rattle.std.proofs.Common.{rules}
use Rattle.std.proofs.lemmas.Fmt.{length-decimal-le}
use Rattle.hub_http.specs.ChangeTexts.{plain_front}
use Rattle.hub_http.proofs.change_text.PlainRow.put_front.Goals as goal

pub write_digits-digits-requires : goal.write_digits-digits-requires
write_digits-digits-requires c = search (rules, length-decimal-le 20)

pub put_name-at-requires : goal.put_name-at-requires
put_name-at-requires c = search (rules, length-decimal-le 20 c.args.self.now.row.now.seq)

pub returns : goal.returns
unfolding plain_front
returns c =
    appended _ _ _
    (rw (
      c.in_ok-extend_from_slice.ensures.items,
      c.as_bytes.ensures.value,
      c.args.self.now.same,
      c.in_ok-put_from.ensures.ok,
      c.as_slice.ensures,
      c.put_name-at.ensures.written,
      c.write_digits-digits.ensures.written,
      c.sequence_room-text.ensures,
      ← c.row.view_is,
    )
    (plain_parts c.args.out.now.items _ _ _))
