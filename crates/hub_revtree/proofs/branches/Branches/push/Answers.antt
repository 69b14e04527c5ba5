use Rattle.std.proofs.Common.{◌≡◌, ℕ, Bool, List, ◌++◌, ◌∷◌, [], ◌∙◌, refl, sym, ap, false, max, arith}
use Rattle.hub_model.proofs.Legal.{legal_more}
use Rattle.hub_model.specs.Revision.{Revision}
use Rattle.hub_revtree.specs.declared.stem.Standing.{Standing}
use Rattle.hub_revtree.specs.Branch.{edits_in}
use Rattle.hub_revtree.specs.Index.{IsNewestLine}
use Rattle.hub_revtree.specs.Lookup.{IsMeeting}
use Rattle.hub_revtree.specs.Stem.{Stem, branches_of}
use Rattle.hub_revtree.specs.Tree.{nameless}
use Rattle.hub_revtree.proofs.BranchLemmas.{within_generation}
use Rattle.hub_revtree.proofs.BringLemmas.{Brings, brought_edit, brought_line, brought_stems}
use Rattle.hub_revtree.proofs.BringLemmas.{met_brings, none_behind, reach_low, some_kept, stands_low, take_falls}
use Rattle.hub_revtree.proofs.CandidateLemmas.{candidates_more}
use Rattle.hub_revtree.proofs.HighestLemmas.{up_to_more}
use Rattle.hub_revtree.proofs.MarkLemmas.{branches_same, indexed_front, line_same, marked_more}
use Rattle.hub_revtree.proofs.MarkLemmas.{plain_more, stems_same, up_to_same, within_told}
use Rattle.hub_revtree.proofs.RunLemmas.{newest_of}
use Rattle.hub_revtree.proofs.branches.Branches.push.Goals as goal
use Rattle.hub_revtree.proofs.branches.Branches.push.Goals.{After-met_by-met, Joined-drop}
use Rattle.hub_revtree.proofs.branches.Branches.push.Goals.{then-whole, else-whole}

-- where the path meets the stems
meets : (c : After-met_by-met)
    → IsMeeting c.self.inside.stems.items c.args.path c.met_by-met.result.at c.met_by-met.result.place
    c.met_by-met.result.behind c.met_by-met.result.joins
meets c = rw (sym c.self.view_is) at c.met_by-met.ensures

pub behind_last-requires : goal.behind_last-requires
behind_last-requires c = c.requires.acceptable.history.falls

pub standing_of-standing-requires-clause-short : goal.standing_of-standing-requires-clause-short
standing_of-standing-requires-clause-short c =
    let head = newest_of c.args.path c.generation-newest.result c.generation-newest.ensures in
    omega (arith, within_generation c.args.path head.0 c.requires.acceptable.history head.1, head.2)

pub standing_of-standing-requires-clause-reach : goal.standing_of-standing-requires-clause-reach
standing_of-standing-requires-clause-reach c =
    let xs = c.self.inside.stems.items in
    let legal = c.self.invariant.5 in
    let ok = rw (sym c.self.view_is) at c.requires.acceptable in
    let is = meets (goal.at.standing_of-standing-requires-clause-reach c).After-met_by-met in
    let head = newest_of c.args.path c.generation-newest.result c.generation-newest.ensures in
    let low =
    reach_low xs c.self.invariant.0 legal c.args.path c.args.deleted c.args.body
    ok _ _ _ _ is head.0 head.1 in
    omega (arith, low, head.2)

pub kept-run-requires-clause-some : goal.kept-run-requires-clause-some
kept-run-requires-clause-some c =
    let xs = c.self.inside.stems.items in
    let legal = c.self.invariant.5 in
    let ok = rw (sym c.self.view_is) at c.requires.acceptable in
    let is = meets (goal.at.kept-run-requires-clause-some c).After-met_by-met in
    some_kept xs c.self.invariant.0 legal c.args.path c.args.deleted c.args.body ok _ _ _ _ is

pub new-requires-clause-path : goal.new-requires-clause-path
new-requires-clause-path c =
    let xs = c.self.inside.stems.items in
    let legal = c.self.invariant.5 in
    let ok = rw (sym c.self.view_is) at c.requires.acceptable in
    let is = meets (goal.at.new-requires-clause-path c).After-met_by-met in
    let some = some_kept xs c.self.invariant.0 legal c.args.path c.args.deleted c.args.body ok _ _ _ _ is in
    rw c.kept-run.ensures.run
    (take_falls c.met_by-met.result.at c.args.path
    (λ z. omega (arith, z, some)) c.requires.acceptable.history.falls)

pub new-requires-clause-stands : goal.new-requires-clause-stands
new-requires-clause-stands c =
    let xs = c.self.inside.stems.items in
    let legal = c.self.invariant.5 in
    let ok = rw (sym c.self.view_is) at c.requires.acceptable in
    let is = meets (goal.at.new-requires-clause-stands c).After-met_by-met in
    stands_low xs c.self.invariant.0 legal c.args.path c.args.deleted c.args.body ok _ _ _
    _ is c.standing_of-standing.result.parent c.kept-run.result.0 c.standing_of-standing.result.reach
    c.standing_of-standing.ensures.parent c.kept-run.ensures.run c.standing_of-standing.ensures.reach

-- the stem that comes to the stems
abbrev stem_from : List Revision → Standing → Bool → List ℕ → Stem
stem_from run standing deleted body = record {
  revisions = run;
  parent = standing.parent;
  count = standing.count;
  reach = standing.reach;
  joins = standing.joins;
  deleted = deleted;
  inner = false;
  body = body;
}

abbrev stem_of : Joined-drop → Stem
stem_of c = stem_from c.kept-run.result.0 c.standing_of-standing.result c.args.deleted c.args.body

brings : (c : Joined-drop) → Brings c.self.inside.stems.items c.args.path (stem_of c)
brings c =
    let xs = c.self.inside.stems.items in
    let legal = c.self.invariant.5 in
    let ok = rw (sym c.self.view_is) at c.requires.acceptable in
    let is : IsMeeting xs c.args.path c.met_by-met.result.at c.met_by-met.result.place
    c.met_by-met.result.behind c.met_by-met.result.joins =
    rw (sym c.self.view_is) at c.met_by-met.ensures in
    met_brings xs c.self.invariant.0 legal c.args.path c.args.deleted c.args.body ok _ _ _ _ is
    (stem_of c) c.kept-run.ensures.run c.standing_of-standing.ensures.parent
    (c.standing_of-standing.ensures.count ∙ c.len.ensures) c.standing_of-standing.ensures.reach
    c.standing_of-standing.ensures.joins

-- the line that the index keeps is that of the stem's path, where no revision stands behind the path's last
line_of : (c : Joined-drop) → IsNewestLine c.if-whole.line2 (c.self.inside.stems.items ++ stem_of c ∷ [])
line_of c =
    let xs = c.self.inside.stems.items in
    let legal = c.self.invariant.5 in
    let ok = rw (sym c.self.view_is) at c.requires.acceptable in
    let behind = rw (sym c.self.view_is) at c.behind_last.ensures in
    elim c.if-whole.branch [
      | then-whole w ↦
          rw w.line2-is
          (brought_line xs c.self.invariant.0 legal c.args.path c.args.deleted c.args.body ok (stem_of c)
          (brings c) refl refl c.kept-run.result.1 c.kept-run.ensures.line
          (λ x r last.
          none_behind xs c.behind_last.result c.is_none-whole.result x x c.is_none-whole.ensures
          w.if-whole.true refl (behind x last).none r))
      | else-whole w ↦ rw w.line2-is tt
    ]

pub note_inner-requires : goal.note_inner-requires
note_inner-requires c =
    let xs = c.self.inside.stems.items in
    let legal = c.self.invariant.5 in
    let ok = rw (sym c.self.view_is) at c.requires.acceptable in
    let is = meets (goal.at.note_inner-requires c).After-met_by-met in
    let some = some_kept xs c.self.invariant.0 legal c.args.path c.args.deleted c.args.body ok _ _ _ _ is in
    record {
      stems = c.self.invariant.0;
      index =
          rw c.lent.ensures
          (c.without_line-index.ensures.index xs (rw c.take.ensures.value c.self.invariant.2));
      path =
          rw c.kept-run.ensures.run
          (take_falls c.met_by-met.result.at c.args.path
          (λ z. omega (arith, z, some)) c.requires.acceptable.history.falls);
      within = rw c.standing_of-standing.ensures.parent is.within;
      fresh =
          λ j. rw c.kept-run.ensures.run (is.fresh (sym c.standing_of-standing.ensures.joins ∙ j));
    }

pub renewed-requires-clause-stems : goal.renewed-requires-clause-stems
renewed-requires-clause-stems c =
    let xs = c.self.inside.stems.items in
    let ys = c.note_inner.new.stems.items in
    let legal = c.self.invariant.5 in
    let ok = rw (sym c.self.view_is) at c.requires.acceptable in
    let is = meets (goal.at.renewed-requires-clause-stems c).After-met_by-met in
    let stem = stem_from c.kept-run.result.0 c.standing_of-standing.result c.args.deleted c.args.body in
    let path =
    met_brings xs c.self.invariant.0 legal c.args.path c.args.deleted
    c.args.body ok _ _ _ _ is stem c.kept-run.ensures.run c.standing_of-standing.ensures.parent
    (c.standing_of-standing.ensures.count ∙ c.len.ensures) c.standing_of-standing.ensures.reach
    c.standing_of-standing.ensures.joins in
    rw (c.as_slice.ensures.value, c.push_reserved.ensures.items, c.new.ensures)
    (stems_same (xs ++ stem ∷ []) (ys ++ stem ∷ []) (plain_more xs ys stem c.note_inner.ensures.notes.plain)
    (brought_stems xs c.self.invariant.0 legal c.args.path c.args.deleted c.args.body ok stem path))

pub renewed-requires-clause-index : goal.renewed-requires-clause-index
renewed-requires-clause-index c =
    let xs = c.self.inside.stems.items in
    rw (c.as_slice.ensures.value, c.push_reserved.ensures.items)
    (indexed_front xs c.note_inner.new.stems.items c.new.result _ c.note_inner.ensures.notes.plain
    (c.without_line-index.ensures.index xs (rw c.take.ensures.value c.self.invariant.2)))

edits_more : (c : Joined-drop)
    → edits_in (branches_of (c.note_inner.new.stems.items ++ stem_of c ∷ []))
    ≡ edits_in (branches_of c.self.inside.stems.items) ++ nameless c.args.path c.args.deleted c.args.body ∷ []
edits_more c =
    let xs = c.self.inside.stems.items in
    let ys = c.note_inner.new.stems.items in
    let stem = stem_of c in
    let legal = c.self.invariant.5 in
    let ok = rw (sym c.self.view_is) at c.requires.acceptable in
    let same = plain_more xs ys stem c.note_inner.ensures.notes.plain in
    ap edits_in (sym (branches_same (xs ++ stem ∷ []) (ys ++ stem ∷ []) same))
    ∙ brought_edit xs c.self.invariant.0 legal c.args.path c.args.deleted c.args.body ok stem (brings c)

pub invariant_of-self : goal.invariant_of-self
invariant_of-self c =
    let xs = c.self.inside.stems.items in
    let ys = c.note_inner.new.stems.items in
    let stem = stem_of c in
    let path = brings c in
    let legal = c.self.invariant.5 in
    let ok = rw (sym c.self.view_is) at c.requires.acceptable in
    let more =
    brought_stems xs c.self.invariant.0 legal c.args.path c.args.deleted c.args.body ok stem path in
    let head = newest_of c.args.path c.generation-newest.result c.generation-newest.ensures in
    let same = plain_more xs ys stem c.note_inner.ensures.notes.plain in
    let up =
    up_to_more xs stem c.args.path head.0 c.self.inside.highest c.max-self-inside.result c.self.invariant.0
    more c.self.invariant.1 c.requires.acceptable.history.falls head.1 path.whole
    (c.max-self-inside.ensures ∙ ap (λ n. max n c.self.inside.highest) (sym head.2)) in
    rw (c.push_reserved.ensures.items, c.new.ensures) (
      stems_same (xs ++ stem ∷ []) (ys ++ stem ∷ []) same more,
      up_to_same (xs ++ stem ∷ []) (ys ++ stem ∷ []) c.max-self-inside.result same up,
      rw (c.as_slice.ensures.value, c.push_reserved.ensures.items, c.new.ensures) at c.renewed.ensures.index
          (line_same (xs ++ stem ∷ []) (ys ++ stem ∷ []) c.if-whole.line2 same (line_of c)),
      marked_more xs ys stem c.self.invariant.0 more (within_told xs stem.parent path.next.within)
          c.note_inner.ensures.notes.plain c.self.invariant.3 refl c.note_inner.ensures.notes.noted,
      candidates_more (branches_of xs) (branches_of (ys ++ stem ∷ []))
          (nameless c.args.path c.args.deleted c.args.body) _ _ (edits_more c) c.renewed.ensures.candidates
          (rw (c.without_line-index.ensures.candidates, c.take.ensures.value) c.self.invariant.4),
      rw (edits_more c) (legal_more _ _ legal ok),
    )

pub returns : goal.returns
returns c = rw (c.push_reserved.ensures.items, c.new.ensures, sym c.self.view_is) (edits_more c)
