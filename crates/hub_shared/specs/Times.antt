-- The next step for a feed that had nothing to hand (CouchDB API reference, _changes, heartbeat and timeout).
use Rattle.std.specs.Prelude.{ℕ, ◌-◌, Option, Some, None, nat_le, if◌then◌else◌}
use Rattle.hub_shared.specs.declared.times.Times.{Times}
use Rattle.hub_shared.specs.declared.times.ClockDue.{ClockDue}
use Rattle.hub_shared.specs.declared.times.ClockDue.TheVariants.{Beat, Expire, Wait}

-- the step by the heartbeat, where there is one, and else by the timeout
abbrev due_by : Option ℕ → ℕ → ℕ → ClockDue
due_by (Some every) timeout passed = if nat_le every passed then Beat else Wait (every - passed)
due_by None timeout passed = if nat_le timeout passed then Expire else Wait (timeout - passed)

-- The next step after so many milliseconds without an item. With a heartbeat of 100, it is a heartbeat after
-- 100, and after 30 to wait 70 more. A feed without a heartbeat whose timeout is 100 ends after 100.
abbrev pub due_after : Times → ℕ → ClockDue
due_after times passed = due_by times.heartbeat times.timeout passed
