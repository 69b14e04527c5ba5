use Rattle.std.proofs.Common.{◌≡◌, ◌++◌, drop}
use Rattle.hub_follower.specs.LogText.{later_entries_text}
use Rattle.hub_follower.proofs.log_text.put_later_entries.Given as goal

-- the bytes so far and the texts of the later entries are the whole text
abbrev pub invariant-loop-entry : goal.invariant-loop-entry
invariant-loop-entry l =
    l.out.items ++ later_entries_text (drop l.entry-index l.entries)
    ≡ l.initial.out.items ++ later_entries_text l.entries
