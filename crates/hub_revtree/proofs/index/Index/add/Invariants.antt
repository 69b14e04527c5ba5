use Rattle.std.proofs.Common.{◌≡◌}
use Rattle.hub_revtree.specs.Index.{AreLinked, AreTold, Has, HasTo, entry_in, link_in, other_in}
use Rattle.hub_revtree.proofs.index.Index.add.Given as goal

abbrev pub invariant-loop-at : goal.invariant-loop-at
invariant-loop-at l = record {
  told : AreTold (HasTo l.stems l.number l.at) (entry_in l.self.firsts) (other_in l.self.firsts);
  links : link_in l.self ≡ link_in l.initial.self;
  candidates : l.self.candidates ≡ l.initial.self.candidates;
}

abbrev pub invariant-loop-place : goal.invariant-loop-place
invariant-loop-place l = record {
  told : AreTold (Has l.stems) (entry_in l.self.firsts) (other_in l.self.firsts);
  linked : AreLinked (HasTo l.stems l.number l.place) l.stems (link_in l.self);
  candidates : l.self.candidates ≡ l.initial.self.candidates;
}
