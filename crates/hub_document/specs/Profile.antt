-- The limits of a hub that serves (own).
use Rattle.std.specs.Prelude.{◌≡◌}
use Rattle.hub_document.specs.declared.limits.Limits.{Limits}

-- each limit is the greatest that it may be
pub record IsProfile (limits : Limits) : Type 0 where
  pub body : limits.body ≡ 8388608
  pub head : limits.head ≡ 16384
  pub headers : limits.headers ≡ 64
  pub databases : limits.databases ≡ 256
  pub feeds : limits.feeds ≡ 1024
  pub lane : limits.lane ≡ 64
  pub hold : limits.hold ≡ 64
  pub journal : limits.journal ≡ 4294967295
  pub history : limits.history ≡ 50
