use Rattle.hub_model.proofs.Fitting.{fits_begin, fits_grows, fits_handed, fits_nothing, fits_beat}
use Rattle.hub_model.proofs.Fitting.{fits_expire, fits_close, fits_finish, limited_ends}
use Rattle.hub_model.specs.RowKind.{change_rows, update_rows}
use Rattle.hub_model.proofs.feeds_fit.Goals as goal

pub returns-clause-opened : goal.returns-clause-opened
returns-clause-opened c = (fits_begin change_rows, fits_begin update_rows)

pub returns-clause-grown : goal.returns-clause-grown
returns-clause-grown c = (fits_grows change_rows, fits_grows update_rows)

pub returns-clause-handed : goal.returns-clause-handed
returns-clause-handed c = (fits_handed change_rows, fits_handed update_rows)

pub returns-clause-waiting : goal.returns-clause-waiting
returns-clause-waiting c = (fits_nothing change_rows, fits_nothing update_rows)

pub returns-clause-beat : goal.returns-clause-beat
returns-clause-beat c = (fits_beat change_rows, fits_beat update_rows)

pub returns-clause-expired : goal.returns-clause-expired
returns-clause-expired c = (fits_expire change_rows, fits_expire update_rows)

pub returns-clause-ended : goal.returns-clause-ended
returns-clause-ended c = (fits_close change_rows, fits_close update_rows)

pub returns-clause-finished : goal.returns-clause-finished
returns-clause-finished c = (fits_finish change_rows, fits_finish update_rows)

pub returns-clause-limited : goal.returns-clause-limited
returns-clause-limited c = (limited_ends change_rows, limited_ends update_rows)
