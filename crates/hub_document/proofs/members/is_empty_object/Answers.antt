use Rattle.std.proofs.Common.{◌≡◌, List, [], ◌∷◌, length, eqb, refl, arith}
use Rattle.serde_json.specs.Data.{object}
use Rattle.serde_json.specs.View.{members_view}
use Rattle.serde_json.proofs.Views.{Entry, view-Object}
use Rattle.hub_document.specs.SpecialMembers.{is_empty_object}
use Rattle.hub_document.proofs.members.is_empty_object.Goals as goal

none_there : (entries : List Entry) → eqb (length entries) 0 ≡ is_empty_object (object (members_view entries))
none_there [] = refl
none_there (e ∷ entries) = grind arith

pub returns-in-Object : goal.returns-in-Object
returns-in-Object c =
    rw (c.in-Object.is, view-Object, c.len.ensures.len) (none_there c.in-Object.members.entries)
