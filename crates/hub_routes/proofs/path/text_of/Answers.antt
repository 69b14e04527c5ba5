use Rattle.std.proofs.Common.{◌≡◌, string_bytes, subst, rules}
use Rattle.std.proofs.str.Laws.{IsUtf8-had}
use Rattle.std.specs.Cow.{cow_slice_items}
use Rattle.std.specs.Str.{IsUtf8}
use Rattle.hub_routes.proofs.path.text_of.Goals as goal

pub returns-in_ok-ok-in-Owned-clause-text : goal.returns-in_ok-ok-in-Owned-clause-text
returns-in_ok-ok-in-Owned-clause-text c =
    let same : string_bytes c.in_ok-ok-in-Owned.field-0 ≡ cow_slice_items c.args.bytes = search rules in
    subst IsUtf8 same (IsUtf8-had _ c.in_ok-ok-in-Owned.field-0.ok)
