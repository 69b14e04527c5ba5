use Rattle.std.proofs.Common.{sym}
use Rattle.hub_revtree.specs.Index.{entry_in, other_in}
use Rattle.hub_revtree.proofs.FirstLemmas.{entry_place, nowhere, nowhere_else, nowhere_keyed}
use Rattle.hub_revtree.proofs.index.Firsts.place.Goals as goal
use Rattle.hub_revtree.proofs.index.Firsts.place.Goals.{in-Some+in-Some-get+in_default-place_in, in_default}

pub returns-in_default-get-clause-none : goal.returns-in_default-get-clause-none
returns-in_default-get-clause-none c =
    nowhere_keyed c.args.stems.now (entry_in c.args.self.now) (other_in c.args.self.now) c.requires.told
    c.args.rev.now c.in-Some.key c.in-Some.ensures (sym c.in_default-get.ensures.value)

pub returns-in-Some-place_in-clause-found : goal.returns-in-Some-place_in-clause-found
returns-in-Some-place_in-clause-found c =
    entry_place c.args.stems.now (entry_in c.args.self.now) (other_in c.args.self.now) c.requires.told
    c.args.rev.now c.in-Some.key c.in-Some-get.field-0.now c.in-Some-place_in.place c.in-Some.ensures
    (sym c.in-Some-get.ensures.value) c.in-Some-place_in.ensures.stem c.in-Some-place_in.ensures.found

pub returns-in-None-clause-none : goal.returns-in-None-clause-none
returns-in-None-clause-none c = elim c.match-key_of_rev.branch [
  | in-Some+in-Some-get+in_default-place_in w ↦
      nowhere_else c.args.stems.now (entry_in c.args.self.now) (other_in c.args.self.now)
      c.requires.told c.args.rev.now w.in-Some.key w.in-Some-get.field-0.now w.in-Some.ensures
      (sym w.in-Some-get.ensures.value) w.in_default-place_in.ensures.none (sym c.in-None.ensures)
  | in_default w ↦
      nowhere c.args.stems.now (entry_in c.args.self.now) (other_in c.args.self.now) c.requires.told
      c.args.rev.now (λ key m is q h. w.in_default.ensures key is) (sym c.in-None.ensures)
]
