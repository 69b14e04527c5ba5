use Rattle.std.proofs.Common.{rules}
use Rattle.std.proofs.lemmas.Fmt.{length-decimal-le}
use Rattle.hub_document.proofs.sequence.put_sequence.Goals as goal

pub write_digits-life_at-requires : goal.write_digits-life_at-requires
write_digits-life_at-requires c = search (rules, length-decimal-le 20)

pub put_before-dash_at-requires : goal.put_before-dash_at-requires
put_before-dash_at-requires c = search (rules, length-decimal-le 20 c.args.life)

pub write_digits-seq_at-requires : goal.write_digits-seq_at-requires
write_digits-seq_at-requires c = search
    (rules, length-decimal-le 20 c.args.seq, length-decimal-le 20 c.args.life)

pub put_before-at-requires : goal.put_before-at-requires
put_before-at-requires c = search (rules, length-decimal-le 20 c.args.seq, length-decimal-le 20 c.args.life)
