use Rattle.std.proofs.Common.{◌∙◌, ap, map, refl}
use Rattle.hub_revtree.specs.Mark.{plain}
use Rattle.hub_revtree.proofs.MarkLemmas.{noted_first, noted_later, set_plain}
use Rattle.hub_revtree.proofs.StemLemmas.{within_stem}
use Rattle.hub_revtree.proofs.inner.note_at.Goals as goal

pub returns-then-place-eq0 : goal.returns-then-place-eq0
returns-then-place-eq0 c =
    let i = within_stem c.args.stems.now c.args.place c.requires.within in
    record {
      plain = ap (map plain) (c.note.ensures i.0 i.1) ∙ set_plain c.args.stems.now c.args.place.stem i.0 i.1;
      noted =
          noted_first c.args.stems.now c.note.new.stems c.args.place i.0 c.requires.stems i.1
          c.if-place-eq0.true (c.note.ensures i.0 i.1);
    }

pub returns-else-place-eq0 : goal.returns-else-place-eq0
returns-else-place-eq0 c =
    let i = within_stem c.args.stems.now c.args.place c.requires.within in
    record {
      plain = refl;
      noted = noted_later c.args.stems.now c.args.place i.0 i.1 c.if-place-eq0.false;
    }
