use Rattle.std.proofs.Common.{◌≡◌, ℕ, List, [], ◌∷◌, length, slice_index_or, Option, None, rules}
use Rattle.std.proofs.lemmas.List.{get_or-replicate}
use Rattle.std.specs.Borrow.{Bor}
use Rattle.form_urlencoded.specs.Form.{raw_pairs}
use Rattle.form_urlencoded.specs.Parse.{raw_pairs_left}
use Rattle.hub_params.specs.Room.{HasEscapedName}
use Rattle.hub_params.proofs.QueryLemmas.{read_none, read_one, all_read, plain_from_all, plain_from_rest, escaped_name}
use Rattle.hub_params.proofs.RoomLemmas.{at_any_error}
use Rattle.hub_params.proofs.query.read_written.Goals as goal

pub loop-name-init : goal.loop-name-init
loop-name-init c =
    let query = c.args.query.now in
    let names = c.args.names.now in
    let left = raw_pairs_left c.into_iter-name-iterator.result in
    let all : left ≡ raw_pairs query = search rules in
    record {
      plain = plain_from_all query left all;
      read = λ k any below.
          rw (c.requires, get_or-replicate {A = Option (Bor (List ℕ))} (length names) k None None below)
          (read_none (slice_index_or names k any).now query left all);
    }

pub returns-in_err-keep-clause-memory : goal.returns-in_err-keep-clause-memory
returns-in_err-keep-clause-memory c =
    let left = raw_pairs_left c.loop-name.name-iterator in
    let rest = raw_pairs_left c.next.new.self in
    let taken : left ≡ (c.in-Some.name.now, c.in-Some.value.now) ∷ rest = search rules in
    at_any_error _ (λ _. HasEscapedName c.args.query.now) (λ _. escaped_name c.args.query.now _ _
    left rest taken c.loop-name.invariant.plain c.in_err-keep.ensures.memory)

pub loop-name-preserved : goal.loop-name-preserved
loop-name-preserved c =
    let left = raw_pairs_left c.loop-name.name-iterator in
    let rest = raw_pairs_left c.next.new.self in
    let taken : left ≡ (c.in-Some.name.now, c.in-Some.value.now) ∷ rest = search rules in
    record {
      plain = plain_from_rest c.args.query.now _ _ left rest taken c.loop-name.invariant.plain;
      read = λ k any below. rw (c.in_ok-keep.ensures.kept k any below)
          (read_one (slice_index_or c.args.names.now k any).now _ _ left rest _ _ taken
          (c.loop-name.invariant.read k any below));
    }

pub returns-clause-values : goal.returns-clause-values
returns-clause-values c =
    let done : raw_pairs_left c.loop-name.name-iterator ≡ [] = search rules in
    all_read c.loop-name.kept c.args.names.now c.args.query.now _ done c.loop-name.invariant.read
