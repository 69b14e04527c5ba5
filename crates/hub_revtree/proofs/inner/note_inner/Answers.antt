use Rattle.std.proofs.Common.{◌∙◌, ◌||◌, Bool, ap, arith, drop, length, sym}
use Rattle.hub_model.specs.Path.{names}
use Rattle.hub_model.specs.Revision.{Revision}
use Rattle.hub_revtree.specs.Mark.{NotesOnly}
use Rattle.hub_revtree.specs.Stem.{is_at}
use Rattle.hub_revtree.proofs.MarkLemmas.{all_within_same, is_at_same, lent_back, long_same, notes_as}
use Rattle.hub_revtree.proofs.MarkLemmas.{notes_on, stems_same}
use Rattle.hub_revtree.proofs.StemLooks.{some_path}
use Rattle.hub_revtree.proofs.inner.note_inner.Goals as goal

pub note_joined-requires : goal.note_joined-requires
note_joined-requires c = rw c.as_mut_slice-list.ensures.value (record {
  indexed = record { stems = c.requires.stems; index = c.requires.index };
  some = omega (arith, some_path c.args.run.now c.requires.path);
  fresh = c.requires.fresh;
})

pub note_at-requires : goal.note_at-requires
note_at-requires c =
    let xs = c.args.stems.now.items in
    let ys = c.note_joined.new.stems in
    let plain = rw c.as_mut_slice-list.ensures.value at c.note_joined.ensures.plain in
    record {
      stems = stems_same xs ys (sym plain) c.requires.stems;
      within =
          rw c.in-Some.is
          at (all_within_same xs ys (sym plain) c.args.standing.now.parent c.requires.within);
    }

pub returns-in-Some-clause-notes : goal.returns-in-Some-clause-notes
returns-in-Some-clause-notes c =
    let xs = c.args.stems.now.items in
    let ys = c.note_joined.new.stems in
    let zs = c.note_at.new.stems in
    let parent = c.args.standing.now.parent in
    let rest : Revision → Bool = λ r. names (drop 1 c.args.run.now) r in
    let joined = rw c.as_mut_slice-list.ensures.value at c.note_joined.ensures in
    let noted : NotesOnly ys (λ r. is_at ys r parent) zs = rw c.in-Some.is c.note_at.ensures in
    let all : NotesOnly xs (λ r. is_at xs r parent || rest r) zs = record {
      plain = noted.plain ∙ joined.plain;
      noted =
          notes_as xs zs (λ r. is_at ys r parent || rest r)
          (λ r. is_at xs r parent || rest r)
          (λ r. ap (λ b. b || rest r) (is_at_same ys xs joined.plain r parent))
          (notes_on xs ys zs rest (λ r. is_at ys r parent) joined.plain joined.noted noted.noted);
    } in
    lent_back (NotesOnly xs (λ r. is_at xs r parent || rest r)) zs _ _
    (long_same zs xs all.plain ∙ ap length (sym c.as_mut_slice-list.ensures.value)
    ∙ c.as_mut_slice-list.ensures.len) all
