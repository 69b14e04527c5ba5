-- The limits of a hub: each is at least 1, and none is above the profile's number (own).
use Rattle.std.specs.Prelude.{ℕ, ◌≤◌}

-- each limit is in its range
pub record IsLimited (body head headers databases feeds lane hold journal history : ℕ) : Type 0 where
  pub body_some : 1 ≤ body
  pub body_most : body ≤ 8388608
  pub head_some : 1 ≤ head
  pub head_most : head ≤ 16384
  pub headers_some : 1 ≤ headers
  pub headers_most : headers ≤ 64
  pub databases_some : 1 ≤ databases
  pub databases_most : databases ≤ 256
  pub feeds_some : 1 ≤ feeds
  pub feeds_most : feeds ≤ 1024
  pub lane_some : 1 ≤ lane
  pub lane_most : lane ≤ 64
  pub hold_some : 1 ≤ hold
  pub hold_most : hold ≤ 64
  pub journal_some : 1 ≤ journal
  pub journal_most : journal ≤ 4294967295
  pub history_some : 1 ≤ history
  pub history_most : history ≤ 50
