use Rattle.std.proofs.Common.{Some}
use Rattle.hub_lane.proofs.ends.Lane.new.Given as goal

-- the lane's label is the one that was passed
abbrev pub ghosts-two_ends : goal.ghosts-two_ends
ghosts-two_ends g a = record { label = Some a.label }
