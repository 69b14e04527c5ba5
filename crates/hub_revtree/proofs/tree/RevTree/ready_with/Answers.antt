use Rattle.std.proofs.Common.{arith, refl, sym}
use Rattle.hub_revtree.proofs.tree.RevTree.ready_with.Goals as goal

pub returns : goal.returns
returns c = record {
  edits = rw (c.make_room.ensures.list, sym c.self.view_is) refl;
  ready = refl;
  room = omega (arith, c.requires.short, c.in_ok-make_room.ensures.room);
}
