use Rattle.std.proofs.Common.{◌≡◌, [], false, Err, rules, refl, sym, subst}
use Rattle.hub_database.specs.Database.{Database}
use Rattle.hub_model.specs.Descending.{Descending, descending}
use Rattle.hub_params.specs.FeedModel.{params_of}
use Rattle.hub_params.specs.declared.feed_params.FeedParams.{FeedParams}
use Rattle.hub_params.specs.FeedShown.{params_asked}
use Rattle.hub_service.specs.Feeds.{BeginsChanges}
use Rattle.hub_service.specs.Moments.{HasDatabase}
use Rattle.hub_service.proofs.Looks.{look_found, look_unfound, unfound_feed, unopened_feed}
use Rattle.hub_service.proofs.context.Context.begin_asked.Goals as goal

-- the result of a look for an answer that goes downwards
abbrev is_descending : FeedParams → Database → Descending → Type 0
is_descending params db found = found ≡ descending db.journal db.life (params_of params)

pub returns-in_err-answer : goal.returns-in_err-answer
returns-in_err-answer g c =
    let same : c.from_residual.result ≡ Err c.in_err-answer.field-0.0 = search rules in
    subst (BeginsChanges (params_asked c.args.params)) (sym same)
    (unfound_feed (is_descending c.args.params)
    (params_asked c.args.params) c.in_err-answer.field-0.0 c.if-params.true
    (look_unfound _ (is_descending c.args.params)
    (λ db. ¬ ((descending db.journal db.life (params_of c.args.params)).rows ≡ []))
    c.in_err-answer.field-0.0 c.in_err-answer.ensures (λ lent given is. search rules)))

pub returns-then-params : goal.returns-then-params
returns-then-params g c = (
  c.if-params.true,
  refl,
  subst (λ a. HasDatabase (λ db. (db.deleted ≡ false) × is_descending c.args.params db a))
      (sym c.new.ensures)
      (look_found _ (is_descending c.args.params) c.in_ok-answer.answer c.in_ok-answer.ensures
      (λ lent given is. search rules)),
)

pub returns-in-Err : goal.returns-in-Err
returns-in-Err g c =
    unopened_feed (params_asked c.args.params) c.in-Err.fault c.unopened.result c.if-params.false
    c.in-Err.ensures.err c.unopened.ensures
