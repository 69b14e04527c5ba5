use Rattle.std.proofs.Common.{◌≡◌, rules}
use Rattle.std.specs.Prelude.{IfErr}
use Rattle.hub_feed.specs.Host.{opening_fault}
use Rattle.hub_params.specs.FeedShown.{params_asked}
use Rattle.hub_database.specs.Database.{Database}
use Rattle.hub_database.specs.Hosting.{hosted_of}
use Rattle.hub_shared.specs.Feeds.{IsOpened}
use Rattle.hub_shared.specs.Handles.{IsFoundBy}
use Rattle.hub_shared.proofs.Booking.{of_share}
use Rattle.hub_shared.proofs.Outcomes.{err_by}
use Rattle.hub_shared.proofs.handle.Handle.open_feed.Goals as goal

pub returns-in_default-clause-err : goal.returns-in_default-clause-err
returns-in_default-clause-err g c =
    let db : Database = c.deref_mut.result.now.state in
    let found =
    of_share (λ state. IsFoundBy g.C.Count.counts g.C.Count.all_parts state db) c.self.invariant.1
    c.self.view_is c.audit_share.ensures.found in
    let told : c.unwrap_or.result ≡ opening_fault (hosted_of db) = search rules in
    (db, found, told)

pub returns-in_err-id-clause-err : goal.returns-in_err-id-clause-err
returns-in_err-id-clause-err g c =
    let db : Database = c.deref_mut.result.now.state in
    let found =
    of_share (λ state. IsFoundBy g.C.Count.counts g.C.Count.all_parts state db) c.self.invariant.1
    c.self.view_is c.audit_share.ensures.found in
    let told : IfErr c.from_residual.result (λ e. e ≡ opening_fault (hosted_of db)) = search rules in
    err_by c.from_residual.result (λ e is. (db, found, is)) told

pub returns-clause-opened : goal.returns-clause-opened
returns-clause-opened g c =
    let db : Database = c.deref_mut.result.now.state in
    let found =
    of_share (λ state. IsFoundBy g.C.Count.counts g.C.Count.all_parts state db) c.self.invariant.1
    c.self.view_is c.audit_share.ensures.found in
    let told : IsOpened (hosted_of db) (params_asked c.args.params) c.new.result = search rules in
    (db, found, told)
