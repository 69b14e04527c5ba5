-- The sequences found so far are those of the ids that were looked at.
use Rattle.std.proofs.Common.{◌≡◌, map, take, string_bytes}
use Rattle.std.specs.List.{filter_map}
use Rattle.hub_database.specs.Listing.{seq_of_row}
use Rattle.hub_database.proofs.listing.gather.Given as goal

abbrev pub invariant-loop-id : goal.invariant-loop-id
invariant-loop-id l =
    l.list.items ≡ filter_map (seq_of_row l.contents.journal) (map string_bytes (take l.id-index l.ids))
