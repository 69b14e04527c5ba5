use Rattle.hub_index.proofs.id_hints.IdHints.find.Given as goal

abbrev pub decreases-loop-places : goal.decreases-loop-places
decreases-loop-places g l = l.places
