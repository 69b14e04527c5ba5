use Rattle.std.proofs.Common.{◌≡◌, ◌<◌, ◌≤◌, ℕ, List, Some, None, if◌then◌else◌, slice_index_or}
use Rattle.std.specs.Borrow.{Bor}
use Rattle.std.specs.Option.{option_copied, option_or}
use Rattle.std.specs.Str.{bytes_eq}
use Rattle.hub_params.specs.Encoded.{decoded_text}
use Rattle.hub_params.proofs.query.keep.Given as goal

abbrev pub invariant-loop-place : goal.invariant-loop-place
invariant-loop-place l = record {
  before : (k : ℕ) (any : Bor (List ℕ)) → k < l.place → option_copied (slice_index_or l.kept k None)
      ≡ option_or (if bytes_eq (decoded_text l.fn.name) (slice_index_or l.names k any).now then Some l.value else None)
      (option_copied (slice_index_or l.initial.kept k None));
  after : (k : ℕ) → l.place ≤ k → slice_index_or l.kept k None ≡ slice_index_or l.initial.kept k None;
}
