use Rattle.std.proofs.Common.{◌≡◌, ℕ, List, ◌++◌, codes, decimal, ◌∙◌}
use Rattle.json.specs.Print.{quoted}
use Rattle.hub_document.proofs.WriteLemmas.{four_parts, five_parts}
use Rattle.hub_document.specs.SequenceText.{sequence_text}
use Rattle.hub_replies.specs.Bodies.{info_body}
use Rattle.hub_replies.proofs.info.info_body.Goals as goal

eight_parts : (o a b c d e f g h : List ℕ)
    → (((((((o ++ a) ++ b) ++ c) ++ d) ++ e) ++ f) ++ g) ++ h
    ≡ o ++ (a ++ (b ++ (c ++ (d ++ (e ++ (f ++ (g ++ h)))))))
eight_parts o a b c d e f g h =
    five_parts (((o ++ a) ++ b) ++ c) d e f g h ∙ four_parts o a b c (d ++ (e ++ (f ++ (g ++ h))))

pub returns : goal.returns
unfolding info_body
returns c =
    rw (
      c.in_ok-extend_from_slice-6.ensures.items,
      c.in_ok-put_sequence.ensures.ok,
      c.in_ok-extend_from_slice-5.ensures.items,
      c.in_ok-extend_from_slice-4.ensures.items,
      c.as_bytes-2.ensures.value,
      c.format-2.ensures.text,
      c.in_ok-extend_from_slice-3.ensures.items,
      c.in_ok-extend_from_slice-2.ensures.items,
      c.as_bytes.ensures.value,
      c.format.ensures.text,
      c.in_ok-extend_from_slice.ensures.items,
      c.in_ok-put_quoted.ensures.ok,
      c.in_ok-text.ensures.items,
    )
    (eight_parts (codes "{\"db_name\":") (quoted c.args.name.now) (codes ",\"doc_count\":")
    (decimal c.args.info.now.doc_count) (codes ",\"doc_del_count\":") (decimal c.args.info.now.doc_del_count)
    (codes ",\"update_seq\":") (sequence_text c.args.info.now.update_seq c.args.info.now.life)
    (codes ",\"instance_start_time\":\"0\"}\n"))
